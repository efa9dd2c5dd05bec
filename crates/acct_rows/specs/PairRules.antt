-- Which pairs break a rule, and which key is the smallest of those that are broken
use Rattle.std.specs.Prelude.{◌≡◌, ◌≢◌, ℕ, ◌+◌, ◌==◌, nat_lt, nat_le, Bool, true, false, ◌&&◌, ◌||◌, not, List, [], ◌∷◌}
use Rattle.std.specs.Prelude.{Option, Some, None, is_some}
use Rattle.std.specs.List.{list_any}
use Rattle.std.specs.Str.{bytes_eq}
use Rattle.std.specs.declared.cmp.Ordering.TheVariants.{Less}
use Rattle.acct_codes.specs.declared.kind.Kind.{Kind}
use Rattle.acct_codes.specs.declared.kind.Kind.TheVariants.{Group, Alias, User}
use Rattle.acct_codes.specs.Accounts.{domain_group_rid_users}
use Rattle.acct_calls.specs.Names.{is_same}
use Rattle.acct_keeper.specs.declared.pairs.Pair.{Pair}
use Rattle.acct_keeper.specs.Pairs.{compare, same_key}
use Rattle.acct_tables.specs.Keys.{account_domain, builtin_domain}
use Rattle.acct_tables.specs.KeyedRows.{at}
use Rattle.acct_tables.specs.Selected.{same_kind}
use Rattle.acct_tables.specs.Spelled.{stored_key, format_key, format_value, old_format_value, next_out_key}
use Rattle.acct_base.specs.Reading.{◌>>=◌}
use Rattle.acct_tables.specs.Stored.{row_of, next_out_of}
use Rattle.acct_tables.specs.declared.object.Object.{Object}
use Rattle.acct_tables.specs.declared.object.Object.TheVariants as objects
use Rattle.acct_tables.specs.declared.row.DomainRow.{DomainRow}
use Rattle.acct_tables.specs.declared.row.AccountRow.{AccountRow}
use Rattle.acct_tables.specs.declared.row.Row.{Row}
use Rattle.acct_tables.specs.declared.row.Row.TheVariants as rows
use Rattle.acct_tables.specs.declared.row.RowKey.{RowKey}
use Rattle.acct_tables.specs.declared.row.RowKey.TheVariants as keys
use Rattle.acct_tables.specs.RowRules.{breaks_alone}

abbrev pub pair_key : Pair → List ℕ
pair_key pair = pair.key

-- the pair with that key
abbrev pub pair_at : List ℕ → List Pair → Option Pair
pair_at key pairs = at pair_key key pairs

-- whether there is a pair with the key of a row, exactly spelled or not
abbrev pub is_there : List Pair → RowKey → Bool
is_there pairs key = is_some (pair_at (stored_key key) pairs)

-- the row with that key, where its pair is there and exactly spelled
abbrev pub row_in : List Pair → RowKey → Option Row
row_in pairs key = pair_at (stored_key key) pairs >>= row_of

abbrev pub as_domain : Row → Option DomainRow
as_domain (rows.Domain d) = Some d
as_domain _ = None

abbrev pub as_account : Row → Option AccountRow
as_account (rows.Account a) = Some a
as_account _ = None

abbrev pub domain_in : List Pair → ℕ → Option DomainRow
domain_in pairs number = row_in pairs (keys.Domain number) >>= as_domain

abbrev pub account_in : List Pair → ℕ → ℕ → Option AccountRow
account_in pairs domain rid = row_in pairs (keys.Account domain rid) >>= as_account

-- an account is missing where its key isn't there, or where it is exactly spelled and of another kind
abbrev pub is_other : Kind → Option AccountRow → Bool
is_other kind None = false
is_other kind (Some a) = not (same_kind kind a.kind)

abbrev pub is_missing : Kind → List Pair → ℕ → ℕ → Bool
is_missing kind pairs domain rid =
    not (is_there pairs (keys.Account domain rid)) || is_other kind (account_in pairs domain rid)

abbrev pub has_value : List ℕ → Option Pair → Bool
has_value value None = false
has_value value (Some pair) = bytes_eq value pair.value

-- whether the pairs are of format 1
abbrev pub is_old : List Pair → Bool
is_old pairs = has_value old_format_value (pair_at format_key pairs)

-- the next out number: 1 where its pair isn't there, and none where that isn't exactly spelled
abbrev pub next_in : Option Pair → Option ℕ
next_in None = Some 1
next_in (Some pair) = next_out_of pair.value

abbrev pub next_out_in : List Pair → Option ℕ
next_out_in pairs = next_in (pair_at next_out_key pairs)

-- The rules of a row among the pairs, each as a test of a row that breaks it.

-- an account's RID isn't below its domain's next RID
abbrev pub is_past : ℕ → Option DomainRow → Bool
is_past rid None = false
is_past rid (Some d) = nat_le d.next_rid rid

abbrev pub is_past_next : List Pair → Row → Bool
is_past_next pairs (rows.Account a) = is_past a.rid (domain_in pairs a.domain)
is_past_next pairs _ = false

-- an account of the domain with a smaller RID has the name
abbrev pub is_earlier : AccountRow → Option Row → Bool
is_earlier a (Some (rows.Account b)) = (b.domain == a.domain) && (nat_lt b.rid a.rid && is_same b.name a.name)
is_earlier a _ = false

abbrev pub has_taken_name : List Pair → Row → Bool
has_taken_name pairs (rows.Account a) = list_any (λ pair. is_earlier a (row_of pair)) pairs
has_taken_name pairs _ = false

-- a member row's group or user is missing
abbrev pub lacks_group_or_user : List Pair → Row → Bool
lacks_group_or_user pairs (rows.Member m) = is_missing Group pairs 0 m.group || is_missing User pairs 0 m.user
lacks_group_or_user pairs _ = false

-- a user's primary group is missing, or its member row there
abbrev pub lacks_primary : List Pair → Row → Bool
lacks_primary pairs (rows.Account a) =
    same_kind User a.kind
    && (is_missing Group pairs 0 a.primary || not (is_there pairs (keys.Member a.primary a.rid)))
lacks_primary pairs _ = false

-- an alias row's alias is missing
abbrev pub lacks_alias : List Pair → Row → Bool
lacks_alias pairs (rows.Alias a) = is_missing Alias pairs a.domain a.alias
lacks_alias pairs _ = false

-- a descriptor's object is missing
abbrev pub lacks : List Pair → Object → Bool
lacks pairs (objects.Domain number) = not (is_there pairs (keys.Domain number))
lacks pairs (objects.Group rid) = is_missing Group pairs 0 rid
lacks pairs (objects.Alias domain rid) = is_missing Alias pairs domain rid
lacks pairs (objects.User rid) = is_missing User pairs 0 rid
lacks pairs (objects.Account sid) = not (is_there pairs (keys.Lsa sid))
lacks pairs _ = false

abbrev pub lacks_object : List Pair → Row → Bool
lacks_object pairs (rows.Desc d) = lacks pairs d.object
lacks_object pairs _ = false

-- a change's number is 0 or not below the next one, or the change after it is missing
abbrev pub is_out_of_turn : List Pair → ℕ → Option ℕ → Bool
is_out_of_turn pairs number None = false
is_out_of_turn pairs number (Some next) =
    nat_le next number || (not (number + 1 == next) && not (is_there pairs (keys.Out (number + 1))))

abbrev pub is_misnumbered : List Pair → Row → Bool
is_misnumbered pairs (rows.Out o) = (o.number == 0) || is_out_of_turn pairs o.number (next_out_in pairs)
is_misnumbered pairs _ = false

-- format 1 had no descriptors and no changes
abbrev pub is_too_new : List Pair → Row → Bool
is_too_new pairs (rows.Desc d) = is_old pairs
is_too_new pairs (rows.Out o) = is_old pairs
is_too_new pairs _ = false

-- a row breaks a rule among the pairs
abbrev pub breaks_among : List Pair → Row → Bool
breaks_among pairs row =
    is_past_next pairs row || (has_taken_name pairs row || (lacks_group_or_user pairs row
    || (lacks_primary pairs row || (lacks_object pairs row || (is_misnumbered pairs row || (is_too_new pairs row
    || lacks_alias pairs row))))))

-- the pair says that the format is one that is known
abbrev pub is_format : Pair → Bool
is_format pair =
    bytes_eq pair.key format_key && (bytes_eq pair.value format_value || bytes_eq pair.value old_format_value)

-- the pair tells the next out number, which format 1 hadn't
abbrev pub is_next_out : List Pair → Pair → Bool
is_next_out pairs pair =
    bytes_eq pair.key next_out_key && (is_some (next_out_of pair.value) && not (is_old pairs))

-- a pair breaks a rule: it is neither of these, and spells no row exactly, or one that does
abbrev pub breaks_rule : List Pair → Option Row → Bool
breaks_rule pairs None = true
breaks_rule pairs (Some row) = breaks_alone row || breaks_among pairs row

abbrev pub is_broken_pair : List Pair → Pair → Bool
is_broken_pair pairs pair =
    not (is_format pair) && (not (is_next_out pairs pair) && breaks_rule pairs (row_of pair))

-- the keys of which each has a pair, ascending: the group of all users, the two domains and the format
abbrev pub needed_keys : List (List ℕ)
needed_keys =
    stored_key (keys.Account account_domain domain_group_rid_users) ∷ stored_key (keys.Domain account_domain)
    ∷ stored_key (keys.Domain builtin_domain) ∷ format_key ∷ []

-- a key is broken: its pair breaks a rule, or it is needed and there is none
abbrev pub is_broken_at : List Pair → List ℕ → Option Pair → Bool
is_broken_at pairs key None = list_any (same_key key) needed_keys
is_broken_at pairs key (Some pair) = is_broken_pair pairs pair

abbrev pub is_broken : List Pair → List ℕ → Bool
is_broken pairs key = is_broken_at pairs key (pair_at key pairs)

-- no key is broken
abbrev pub AreUnbroken : List Pair → Type 0
AreUnbroken pairs = (key : List ℕ) → is_broken pairs key ≡ false

-- the key is broken, and no smaller one is, in the order of bytes
pub record IsSmallestBroken (pairs : List Pair) (key : List ℕ) : Type 0 where
  pub broken : is_broken pairs key ≡ true
  pub smallest : (other : List ℕ) → is_broken pairs other ≡ true → compare other key ≢ Less

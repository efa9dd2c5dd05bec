-- The pairs of the rows, and the laws between rows and pairs
use Rattle.std.specs.Prelude.{◌≡◌, ◌≢◌, ℕ, ◌^◌, ◌<◌, ◌==◌, Bool, true, ◌&&◌, not, List, [], ◌∷◌, ◌++◌, map, All, ◌⊎◌}
use Rattle.std.specs.Prelude.{Some, ◌↔◌, if◌then◌else◌}
use Rattle.std.specs.List.{list_any}
use Rattle.acct_keeper.specs.declared.pairs.Pair.{Pair}
use Rattle.acct_keeper.specs.declared.pairs.Change.{Change}
use Rattle.acct_keeper.specs.Pairs.{same_key, is_ascending, after}
use Rattle.acct_tables.specs.KeyedRows.{is_ascending as is_rising}
use Rattle.acct_rows.specs.Rows.{Lists}
use Rattle.acct_tables.specs.Keys.{domain_key, account_key, member_key, alias_key, lsa_key, desc_key, out_key}
use Rattle.acct_rows.specs.Rows.{domain_at, account_at, member_at, alias_row_at, lsa_at, desc_at, out_at}
use Rattle.acct_rows.specs.Sound.{IsSoundRows}
use Rattle.acct_tables.specs.Spelled.{pair_of, format_key, format_value, format_pair, next_out_pair}
use Rattle.acct_tables.specs.Spelled.{FitsDomain, FitsAccount, FitsMember, FitsAlias, FitsLsa, FitsDesc, FitsOut}
use Rattle.acct_rows.specs.PairRules.{pair_at, is_old, AreUnbroken}
use Rattle.acct_tables.specs.declared.row.DomainRow.{DomainRow}
use Rattle.acct_tables.specs.declared.row.AccountRow.{AccountRow}
use Rattle.acct_tables.specs.declared.row.MemberRow.{MemberRow}
use Rattle.acct_tables.specs.declared.row.AliasRow.{AliasRow}
use Rattle.acct_tables.specs.declared.row.LsaRow.{LsaRow}
use Rattle.acct_tables.specs.declared.row.DescRow.{DescRow}
use Rattle.acct_tables.specs.declared.row.OutRow.{OutRow}
use Rattle.acct_tables.specs.declared.row.Row.{Row}
use Rattle.acct_tables.specs.declared.row.Row.TheVariants as rows

-- the row is one of the rows, found at its key
abbrev pub IsRowOf : Lists → Row → Type 0
IsRowOf lists (rows.Domain d) = domain_at lists d.number ≡ Some d
IsRowOf lists (rows.Account a) = account_at lists a.domain a.rid ≡ Some a
IsRowOf lists (rows.Member m) = member_at lists m.group m.user ≡ Some m
IsRowOf lists (rows.Alias a) = alias_row_at lists a.domain a.alias a.member ≡ Some a
IsRowOf lists (rows.Lsa l) = lsa_at lists l.sid ≡ Some l
IsRowOf lists (rows.Desc d) = desc_at lists d.object ≡ Some d
IsRowOf lists (rows.Out o) = out_at lists o.number ≡ Some o

-- the pair tells the next out number, which is stored exactly where it isn't 1
abbrev pub IsNextOut : ℕ → Pair → Type 0
IsNextOut next pair = (next ≢ 1) × (pair ≡ next_out_pair next)

-- the pair is the format's, that of the next out number, or that of one of the rows
abbrev pub IsPairOf : Lists → Pair → Type 0
IsPairOf lists pair = (pair ≡ format_pair) ⊎ (IsNextOut lists.next_out pair
    ⊎ ((row : Row) × IsRowOf lists row × (pair ≡ pair_of row)))

-- the pairs are those of the rows, found at their keys, and no others
abbrev pub HoldPairs : Lists → List Pair → Type 0
HoldPairs lists pairs = (pair : Pair) → (pair_at pair.key pairs ≡ Some pair) ↔ IsPairOf lists pair

-- so they are, by strictly ascending key
pub record ArePairsOf (lists : Lists) (pairs : List Pair) : Type 0 where
  pub ascending : is_ascending pairs ≡ true
  pub held : HoldPairs lists pairs

-- The change that takes pairs of format 1 to format 2, and the pairs after it: those of format 2 are left as they are.
abbrev pub migration : Change
migration = record { key = format_key; value = Some format_value }

abbrev pub migrated : List Pair → List Pair
migrated pairs = if is_old pairs then after (migration ∷ []) pairs else pairs

-- they ascend as they did
abbrev pub MigratedPairsAscend : Type 0
MigratedPairsAscend = (pairs : List Pair) → is_ascending pairs ≡ true → is_ascending (migrated pairs) ≡ true

-- no key stands twice
abbrev pub keys_differ : List Pair → Bool
keys_differ [] = true
keys_differ (p ∷ ps) = not (list_any (λ q. same_key p.key q.key) ps) && keys_differ ps

-- every row has a spelling
pub record AllFit (lists : Lists) : Type 0 where
  pub domains : All FitsDomain lists.domains
  pub accounts : All FitsAccount lists.accounts
  pub members : All FitsMember lists.members
  pub aliases : All FitsAlias lists.aliases
  pub lsa : All FitsLsa lists.lsa
  pub descriptors : All FitsDesc lists.descriptors
  pub outs : All FitsOut lists.outs
  pub next_out : lists.next_out < 2 ^ 64

-- the pairs of the rows of each list, in their order
abbrev pub domain_pairs : List DomainRow → List Pair
domain_pairs xs = map (λ d. pair_of (rows.Domain d)) xs

abbrev pub account_pairs : List AccountRow → List Pair
account_pairs xs = map (λ a. pair_of (rows.Account a)) xs

abbrev pub member_pairs : List MemberRow → List Pair
member_pairs xs = map (λ m. pair_of (rows.Member m)) xs

abbrev pub alias_pairs : List AliasRow → List Pair
alias_pairs xs = map (λ a. pair_of (rows.Alias a)) xs

abbrev pub lsa_pairs : List LsaRow → List Pair
lsa_pairs xs = map (λ l. pair_of (rows.Lsa l)) xs

abbrev pub desc_pairs : List DescRow → List Pair
desc_pairs xs = map (λ d. pair_of (rows.Desc d)) xs

abbrev pub out_pairs : List OutRow → List Pair
out_pairs xs = map (λ o. pair_of (rows.Out o)) xs

abbrev pub next_out_pairs : ℕ → List Pair
next_out_pairs next = if next == 1 then [] else next_out_pair next ∷ []

-- the pairs of all rows, list by list, after the format's and that of the next out number
abbrev pub all_pairs : Lists → List Pair
all_pairs lists = format_pair ∷ (next_out_pairs lists.next_out ++ (domain_pairs lists.domains
    ++ (account_pairs lists.accounts ++ (member_pairs lists.members ++ (alias_pairs lists.aliases
    ++ (lsa_pairs lists.lsa ++ (desc_pairs lists.descriptors ++ out_pairs lists.outs)))))))

-- rows by strictly ascending key, as tables hold them
pub record AreTables (lists : Lists) : Type 0 where
  pub domains : is_rising domain_key lists.domains ≡ true
  pub accounts : is_rising account_key lists.accounts ≡ true
  pub members : is_rising member_key lists.members ≡ true
  pub aliases : is_rising alias_key lists.aliases ≡ true
  pub lsa : is_rising lsa_key lists.lsa ≡ true
  pub descriptors : is_rising desc_key lists.descriptors ≡ true
  pub outs : is_rising out_key lists.outs ≡ true

-- the pairs of sound rows break no rule, and rows whose pairs break none are sound
pub record SoundIsUnbroken : Type 0 where
  pub sound_breaks_none : (lists : Lists) (pairs : List Pair) → IsSoundRows lists → ArePairsOf lists pairs
      → AreUnbroken pairs
  pub unbroken_is_sound : (lists : Lists) (pairs : List Pair) → AreTables lists → AllFit lists → ArePairsOf lists pairs
      → AreUnbroken pairs → IsSoundRows lists

-- sound rows with the same pairs are the same rows
abbrev pub PairsAreOfOne : Type 0
PairsAreOfOne = (lists others : Lists) (pairs : List Pair) → IsSoundRows lists → IsSoundRows others
    → HoldPairs lists pairs → HoldPairs others pairs → lists ≡ others

-- pairs that ascend hold no key twice
abbrev pub AscendingKeysDiffer : Type 0
AscendingKeysDiffer = (pairs : List Pair) → is_ascending pairs ≡ true → keys_differ pairs ≡ true

-- What the indexes have: the accounts by domain and folded name, and the members of aliases by SID
use Rattle.std.specs.Prelude.{ℕ, Bool, ◌==◌, ◌&&◌, List, [], ◌∷◌, map, set, Option, Some, None, Result, Ok, Err}
use Rattle.std.specs.List.{filter, flat_map, insert}
use Rattle.dtyp_sid.specs.Sids.{SidValue, sid_eq}
use Rattle.acct_calls.specs.Names.{folded_points}
pub use Rattle.acct_tables.specs.Keyed.{ended, index}
use Rattle.acct_tables.specs.KeyedRows.{at, place}
use Rattle.acct_tables.specs.Keys.{account_key}
use Rattle.acct_tables.specs.declared.row.AccountRow.{AccountRow}
use Rattle.acct_tables.specs.declared.row.AliasRow.{AliasRow}
use Rattle.acct_tables.specs.declared.membership.Membership.{Membership}

-- a domain, then a name after folding, then a RID
abbrev pub named : ℕ → List ℕ → ℕ → List ℕ
named domain name rid = domain ∷ ended (folded_points name) (rid ∷ [])

abbrev pub name_key : AccountRow → List ℕ
name_key a = named a.domain a.name a.rid

-- a SID, then a domain, then the RID of an alias
abbrev pub held : SidValue → ℕ → ℕ → List ℕ
held sid domain alias = sid.authority ∷ ended sid.subs (domain ∷ alias ∷ [])

abbrev pub membership_key : Membership → List ℕ
membership_key m = held m.member m.domain m.alias

-- the accounts by domain, folded name and RID, each by its domain and RID
abbrev pub by_name : List AccountRow → List AccountRow
by_name accounts = index (λ a. a) name_key accounts

abbrev pub numbers_of : AccountRow → ℕ × ℕ
numbers_of a = (a.domain, a.rid)

unfoldable pub names_of : List AccountRow → List (ℕ × ℕ)
names_of accounts = map numbers_of (by_name accounts)

-- the members of aliases by SID, domain and alias
abbrev pub membership_of : AliasRow → Membership
membership_of a = record { member = a.member; domain = a.domain; alias = a.alias }

unfoldable pub memberships_of : List AliasRow → List Membership
memberships_of aliases = index membership_of membership_key aliases

-- the key by name of the account that is found, before every other if there is none
abbrev pub found_key : Option AccountRow → List ℕ
found_key None = []
found_key (Some a) = name_key a

abbrev pub key_at : List AccountRow → ℕ × ℕ → List ℕ
key_at accounts pair = found_key (at account_key (pair.0 ∷ pair.1 ∷ []) accounts)

-- a value at the place where it stands, or would go
abbrev pub put_in : {A : Type 0} → Result ℕ ℕ → A → List A → List A
put_in (Ok i) x xs = set xs i x
put_in (Err i) x xs = insert xs i x

-- the pair of an account among those of others
abbrev pub with_pair : List AccountRow → AccountRow → List (ℕ × ℕ) → List (ℕ × ℕ)
with_pair accounts a pairs = put_in (place (key_at accounts) (name_key a) pairs) (numbers_of a) pairs

-- whether it is a membership of the SID in the domain
abbrev pub is_for : ℕ → SidValue → Membership → Bool
is_for domain sid m = (m.domain == domain) && sid_eq m.member sid

abbrev pub alias_number_of : Membership → ℕ
alias_number_of m = m.alias

-- the aliases of a domain that have one of the SIDs as a member, SID by SID
abbrev pub held_by : ℕ → List Membership → List SidValue → List ℕ
held_by domain memberships sids =
    flat_map (λ sid. map alias_number_of (filter (is_for domain sid) memberships)) sids

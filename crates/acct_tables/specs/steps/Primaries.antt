-- The accounts by primary group
use Rattle.std.specs.Prelude.{ℕ, ◌==◌, Bool, List, [], ◌∷◌}
use Rattle.acct_codes.specs.declared.kind.Kind.TheVariants.{User}
use Rattle.acct_tables.specs.steps.Indexes.{index}
use Rattle.acct_tables.specs.Selected.{same_kind}
use Rattle.acct_tables.specs.declared.primaries.ByPrimary.{ByPrimary}
use Rattle.acct_tables.specs.declared.row.AccountRow.{AccountRow}

-- a primary group, then an account's domain and RID
abbrev pub primary_key : ByPrimary → List ℕ
primary_key e = e.primary ∷ e.domain ∷ e.rid ∷ []

abbrev pub by_primary : AccountRow → ByPrimary
by_primary a = record { primary = a.primary; domain = a.domain; rid = a.rid; is_user = same_kind User a.kind }

unfoldable pub primaries_of : List AccountRow → List ByPrimary
primaries_of accounts = index by_primary primary_key accounts

abbrev pub is_for : ℕ → ByPrimary → Bool
is_for group e = e.primary == group

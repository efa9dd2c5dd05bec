-- The members of groups by user
use Rattle.std.specs.Prelude.{ℕ, ◌==◌, Bool, List, [], ◌∷◌}
use Rattle.acct_tables.specs.steps.Indexes.{index}
use Rattle.acct_tables.specs.declared.groups.ByUser.{ByUser}
use Rattle.acct_tables.specs.declared.row.MemberRow.{MemberRow}

-- a user, then a group
abbrev pub user_key : ByUser → List ℕ
user_key b = b.row.user ∷ b.row.group ∷ []

abbrev pub by_user : MemberRow → ByUser
by_user m = record { row = m }

abbrev pub row_of : ByUser → MemberRow
row_of b = b.row

unfoldable pub users_of : List MemberRow → List ByUser
users_of members = index by_user user_key members

abbrev pub is_for : ℕ → ByUser → Bool
is_for user b = b.row.user == user

-- The rows that name an account: those of a user or a SID on either side of those of the group or the alias
use Rattle.std.specs.Prelude.{ℕ, Bool, true, false, [], ◌∷◌}
use Rattle.std.specs.declared.cmp.Ordering.{Ordering}
use Rattle.std.specs.Ordering.{nat_cmp, is_lt, is_gt}
use Rattle.dtyp_sid.specs.Sids.{SidValue, sid_eq}
use Rattle.acct_tables.specs.KeyedRows.{compare}
use Rattle.acct_tables.specs.declared.membership.Membership.{Membership}
use Rattle.acct_tables.specs.declared.row.AliasRow.{AliasRow}
use Rattle.acct_tables.specs.declared.row.MemberRow.{MemberRow}

-- whether what compares so with a key stands on that side of it: above, or below
abbrev pub is_beside : Bool → Ordering → Bool
is_beside true r = is_gt r
is_beside false r = is_lt r

abbrev pub is_beside_group : Bool → ℕ → MemberRow → Bool
is_beside_group above group m = is_beside above (nat_cmp m.group group)

abbrev pub is_beside_alias : Bool → ℕ → ℕ → AliasRow → Bool
is_beside_alias above domain alias a = is_beside above (compare (a.domain ∷ a.alias ∷ []) (domain ∷ alias ∷ []))

-- the memberships of a SID, and the alias rows that they are of
abbrev pub has_sid : SidValue → Membership → Bool
has_sid sid m = sid_eq m.member sid

abbrev pub alias_row : Membership → AliasRow
alias_row m = record { domain = m.domain; alias = m.alias; member = m.member }

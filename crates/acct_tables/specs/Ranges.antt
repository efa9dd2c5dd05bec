-- Rows whose keys are a range: the accounts of a domain after a RID
use Rattle.std.specs.Prelude.{ℕ, ◌==◌, nat_lt, Bool, ◌&&◌}
use Rattle.acct_tables.specs.declared.row.AccountRow.{AccountRow}

abbrev pub is_behind : ℕ → ℕ → AccountRow → Bool
is_behind domain rid a = (a.domain == domain) && nat_lt rid a.rid

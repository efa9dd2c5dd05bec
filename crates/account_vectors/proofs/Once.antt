-- Numbers each once, after the last one that was given
use Rattle.std.proofs.Common.{ℕ, List, Option, Some, None}
use Rattle.acct_tables.specs.Selected.{each_once_after, each_once}

abbrev pub once_after : Option ℕ → List ℕ → List ℕ
once_after None ns = each_once ns
once_after (Some before) ns = each_once_after before ns

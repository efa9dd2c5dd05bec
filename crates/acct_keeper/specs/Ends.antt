-- Which answer of a read is the end.
use Rattle.std.specs.Prelude.{ℕ, ◌==◌, Bool, false, ◌&&◌, List, length, Ok, Err, nat_lt}
use Rattle.std.specs.declared.result.Result.{Result}

-- no byte was read into a buffer with room
abbrev pub answers_end : {E : Type 0} → Result ℕ E → List ℕ → Bool
answers_end (Ok n) buffer = (n == 0) && nat_lt 0 (length buffer)
answers_end (Err e) buffer = false

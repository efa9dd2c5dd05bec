-- Where a key stands among pairs by ascending key, or where it would go.
use Rattle.std.specs.Prelude.{ℕ, suc, List, [], ◌∷◌, Result, Ok, Err}
use Rattle.acct_keeper.specs.declared.pairs.Pair.{Pair}
use Rattle.acct_keeper.specs.Pairs.{compare, by_order}

-- one place further
abbrev pub further : Result ℕ ℕ → Result ℕ ℕ
further (Ok i) = Ok (suc i)
further (Err i) = Err (suc i)

abbrev pub place : List ℕ → List Pair → Result ℕ ℕ
place k [] = Err 0
place k (x ∷ xs) = by_order (compare k x.key) (Err 0) (Ok 0) (further (place k xs))

-- Where a test turns that passes the first values of a list and no other.
use Rattle.std.specs.Prelude.{◌≡◌, ℕ, Bool, true, false, List}
use Rattle.std.specs.List.Sorted.{IsPartitionPoint}

abbrev pub TurnsAt : {A : Type 0} → (A → Bool) → List A → ℕ → Type 0
TurnsAt p xs i = IsPartitionPoint (λ y. p y ≡ true) (λ y. p y ≡ false) xs i

-- Rows by ascending key: the words of tables.
use Rattle.std.specs.Prelude.{ℕ, List}
use Rattle.acct_tables.specs.Keyed.{without_keys}
pub use Rattle.acct_tables.specs.Keyed.{compare, same_key, by_order, further, at, put, without, below_all, is_ascending}
pub use Rattle.acct_tables.specs.Keyed.{place, put_each}

abbrev pub without_all : {A : Type 0} → (A → List ℕ) → List (List ℕ) → List A → List A
without_all key ks xs = without_keys key ks xs

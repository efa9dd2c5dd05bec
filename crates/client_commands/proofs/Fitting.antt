-- Words that are read fit their calls.
use Rattle.std.proofs.Common.{◌≡◌, ℕ, ◌≤◌, true, List, length, All, arith}
use Rattle.std.specs.List.{list_all}
use Rattle.std.proofs.lemmas.Bool.{leb-true}
use Rattle.std.proofs.lemmas.List.Sums.{AllPass-from_list_all}
use Rattle.acct_calls.specs.Names.{AreUnits}
use Rattle.acct_layouts.specs.Values.{IsText}
use Rattle.client_commands.specs.Words.{is_short, most_units}

pub text_of_short : (name : List ℕ) → is_short name ≡ true → AreUnits name → IsText name
text_of_short name short units = let le : length name ≤ most_units = leb-true _ _ short in (omega (arith, le), units)

pub texts : (names : List (List ℕ)) → list_all is_short names ≡ true → All AreUnits names → All IsText names
texts names short units = λ k d lt.
    text_of_short _ (AllPass-from_list_all is_short names short k d lt) (units k d lt)

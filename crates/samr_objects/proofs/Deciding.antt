-- What conditions decide, by the first of them that fails.
use Rattle.std.proofs.Common.{◌≡◌, ℕ, Bool, true, false, not, cond, List, [], ◌∷◌, Option, Some, None, refl, ap}
use Rattle.std.specs.Prelude.{◌&&◌, OnErr}
use Rattle.std.specs.declared.result.Result.{Result}
use Rattle.std.specs.declared.result.Result.TheVariants.{Ok, Err}
use Rattle.acct_rules.specs.Planned.{Condition, first_failed, none_fails, decided, refusal}
use Rattle.acct_rules.specs.declared.planned.Planned.{Planned}

-- a condition that doesn't fail leaves it to those after it
pub behind : (fails : Bool) (status : ℕ) (rest value : Option ℕ) → fails ≡ false → rest ≡ value
    → cond fails (Some status) rest ≡ value
behind true status rest value passes is = cc
behind false status rest value passes is = is

-- ---- one fails

refused-by : (fails : Bool) (status s : ℕ) (cs : List Condition) (planned : Planned)
    → (first_failed cs ≡ Some s → decided cs planned ≡ refusal s)
    → cond fails (Some status) (first_failed cs) ≡ Some s
    → cond fails (refusal status) (decided cs planned) ≡ refusal s
refused-by true status s cs planned later first = let same : status ≡ s = cc in ap refusal same
refused-by false status s cs planned later first = later first

-- the first that fails is answered
pub refused : (cs : List Condition) (planned : Planned) (s : ℕ) → first_failed cs ≡ Some s
    → decided cs planned ≡ refusal s
refused [] planned s first = cc
refused (c ∷ cs) planned s first = refused-by c.fails c.status s cs planned (refused cs planned s) first

-- ---- none fails

passed-by : (fails : Bool) (status : ℕ) (cs : List Condition) (planned : Planned)
    → (first_failed cs ≡ None → decided cs planned ≡ planned)
    → cond fails (Some status) (first_failed cs) ≡ None
    → cond fails (refusal status) (decided cs planned) ≡ planned
passed-by true status cs planned later none = cc
passed-by false status cs planned later none = later none

-- it is what was planned
pub passed : (cs : List Condition) (planned : Planned) → first_failed cs ≡ None → decided cs planned ≡ planned
passed [] planned none = refl
passed (c ∷ cs) planned none = passed-by c.fails c.status cs planned (passed cs planned) none

passes-by : (fails : Bool) (status : ℕ) (cs : List Condition) → (first_failed cs ≡ None → none_fails cs ≡ true)
    → cond fails (Some status) (first_failed cs) ≡ None → (not fails && none_fails cs) ≡ true
passes-by true status cs later none = cc
passes-by false status cs later none = later none

pub passes : (cs : List Condition) → first_failed cs ≡ None → none_fails cs ≡ true
passes [] none = refl
passes (c ∷ cs) none = passes-by c.fails c.status cs (passes cs) none

-- whatever is answered
pub on_err : {T E P : Type 0} (result : Result T E) → P → OnErr result P
on_err (Ok value) holds = tt
on_err (Err e) holds = holds

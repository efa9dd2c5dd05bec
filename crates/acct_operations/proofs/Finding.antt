-- What is found in the table has the interface and the opnum that were asked for.
use Rattle.std.proofs.Common.{◌≡◌, ℕ, ◌==◌, Bool, true, false, cond, List, [], ◌∷◌, Option, Some, refl, arith}
use Rattle.std.specs.Prelude.{◌&&◌}
use Rattle.std.specs.List.{find}
use Rattle.std.proofs.lemmas.Bool.Decides.{nat_tests}
use Rattle.acct_calls.specs.declared.calls.Face.{Face}
use Rattle.acct_calls.specs.declared.calls.Face.TheVariants.{Samr, Lsa}
use Rattle.acct_operations.specs.declared.table.Work.{Work}
use Rattle.acct_operations.specs.Table.{operation, same_face, is_work_of, work_of, all_works}

-- the first element that passes passes
found-by : {X : Type 0} (p : X → Bool) (x y : X) (passes : Bool) (rest : Option X) → p x ≡ passes
    → (rest ≡ Some y → p y ≡ true)
    → cond passes (Some x) rest ≡ Some y → p y ≡ true
found-by p x y true rest is later found = let same : x ≡ y = cc in let e : p x ≡ p y = cc in cc
found-by p x y false rest is later found = later found

find-passes : {X : Type 0} (p : X → Bool) (xs : List X) (y : X) → find p xs ≡ Some y → p y ≡ true
find-passes p [] y found = cc
find-passes p (x ∷ xs) y found = found-by p x y (p x) (find p xs) refl (find-passes p xs y) found

both : (a b : Bool) → a && b ≡ true → (a ≡ true) × (b ≡ true)
both true b h = (refl, h)
both false b h = cc

faces-same : (a b : Face) → same_face a b ≡ true → b ≡ a
faces-same Samr Samr h = refl
faces-same Samr Lsa h = cc
faces-same Lsa Samr h = cc
faces-same Lsa Lsa h = refl

pub work-of-face : (face : Face) (opnum : ℕ) (work : Work) → work_of face opnum ≡ Some work
    → (operation work).profile.face ≡ face
unfolding work_of
work-of-face face opnum work found =
    faces-same face (operation work).profile.face (both _ _ (find-passes (is_work_of face opnum) all_works work found)).0

pub work-of-opnum : (face : Face) (opnum : ℕ) (work : Work) → work_of face opnum ≡ Some work
    → (operation work).profile.opnum ≡ opnum
unfolding work_of
work-of-opnum face opnum work found =
    let same : (opnum == (operation work).profile.opnum) ≡ true =
    (both _ _ (find-passes (is_work_of face opnum) all_works work found)).1 in
    grind (arith, nat_tests)

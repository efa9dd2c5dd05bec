-- Bytes that a sink took one after another, and clauses of results.
use Rattle.std.proofs.Common.{◌≡◌, Result, Ok, Err, OnOk, OnErr, IfOk, IfErr, is_err, true, false, ◌==◌, length, ℕ}
use Rattle.std.proofs.Common.{arith, ◌∷◌, List, ◌++◌, Option, Some, None, refl, sym, ◌∙◌, ap, append_assoc, []}
use Rattle.std.proofs.lemmas.List.{append-nil}
use Rattle.std.proofs.lemmas.Bool.Decides.{nat_tests}
use Rattle.std.specs.Io.KnownBytes.{Appends}

pub Appends-none : (a : Option (List ℕ)) → Appends a a []
Appends-none None = tt
Appends-none (Some xs) = sym (append-nil xs)

pub from_OnOk : {T E : Type 0} {P : Type 0} (r : Result T E) → is_err r ≡ false → OnOk r P → P
from_OnOk (Ok x) not_err h = h
from_OnOk (Err e) not_err h = absurd cc

pub is_nil : {A : Type 0} (xs : List A) → (length xs == 0) ≡ true → xs ≡ []
is_nil [] e = refl
is_nil (x ∷ xs) e = absurd (grind (arith, nat_tests))

pub from_OnErr : {T E : Type 0} {P : Type 0} (r : Result T E) → is_err r ≡ true → OnErr r P → P
from_OnErr (Ok x) failed h = absurd cc
from_OnErr (Err e) failed h = h

pub on-ok : {T E : Type 0} {P Q : Type 0} (r : Result T E) → (P → Q) → OnOk r P → OnOk r Q
on-ok (Ok x) to h = to h
on-ok (Err e) to h = tt

pub on-err : {T E : Type 0} {Q : Type 0} (r : Result T E) → Q → OnErr r Q
on-err (Ok x) q = tt
on-err (Err e) q = q

pub if-ok : {T E : Type 0} {P Q : T → Type 0} (r : Result T E) → ((x : T) → P x → Q x) → IfOk r P → IfOk r Q
if-ok (Ok x) to h = to x h
if-ok (Err e) to h = tt

pub if-err : {T E : Type 0} {P Q : E → Type 0} (r : Result T E) → ((e : E) → P e → Q e) → IfErr r P → IfErr r Q
if-err (Ok x) to h = tt
if-err (Err e) to h = to e h

-- what holds where a result is Ok
pub where-ok : {T E : Type 0} {P : Type 0} (r : Result T E) (x : T) → r ≡ Ok x → OnOk r P → P
where-ok (Ok y) x is p = p
where-ok (Err e) x is p = absurd cc

pub on-ok-2 : {T E : Type 0} {P Q R : Type 0} (r : Result T E) → (P → Q → R) → OnOk r P → OnOk r Q → OnOk r R
on-ok-2 (Ok x) to p q = to p q
on-ok-2 (Err e) to p q = tt

pub err-to : {T E : Type 0} {P Q : Type 0} (r : Result T E) → (P → Q) → OnErr r P → OnErr r Q
err-to (Ok x) to h = tt
err-to (Err e) to h = to h

pub Appends-then : (a b c : Option (List ℕ)) (x y : List ℕ) → Appends a b x → Appends b c y → Appends a c (x ++ y)
Appends-then None b c x y p q = tt
Appends-then (Some xs) None c x y p q = absurd p
Appends-then (Some xs) (Some ys) None x y p q = absurd q
Appends-then (Some xs) (Some ys) (Some zs) x y p q = q ∙ ap (λ (t : List ℕ). t ++ y) p ∙ append_assoc xs x y

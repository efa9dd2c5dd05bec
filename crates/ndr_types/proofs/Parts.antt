-- Which values parts, arrays and lists have, and that what some bytes spell can be written.
use Rattle.std.proofs.Common.{◌≡◌, ℕ, zero, suc, Bool, true, false, All, List, [], ◌∷◌, length, map, refl, sym, ap}
use Rattle.std.proofs.Common.{subst, arith, lit<}
use Rattle.std.specs.Prelude.{◌==◌, ◌||◌, nat_le}
use Rattle.std.proofs.lemmas.Bool.{eqb-true, leb-true, le-leb, eq-eqb}
use Rattle.std.proofs.lemmas.List.Elements.{All-nil, All-cons, All-tail}
use Rattle.ndr_core.specs.Codec.{Codec}
use Rattle.ndr_core.specs.Parts.{Part, PartFits, whole, array, times, each, join, flat, part_of, there, list, list_head}
use Rattle.ndr_core.specs.Parts.{list_tail, is_there_list}
use Rattle.ndr_core.proofs.Complete.{IsComplete, u32_complete, pointer_complete, given_complete, such_complete}
use Rattle.ndr_core.proofs.Complete.{chain_complete, made_complete, led_by_complete, ignored_same, cons_complete}
use Rattle.ndr_core.proofs.Complete.{times_complete}
use Rattle.ndr_types.specs.Laws.{IsListOf}

-- The values of a part are those of a kind, and what some bytes spell can be written.
pub record Has {S A : Type 0} (p : Part S A) (P : A → Type 0) : Type 0 where
  pub fits : (x : A) → P x → PartFits p x
  pub kind : (x : A) → PartFits p x → P x
  pub head : IsComplete p.head
  pub tail : (s : S) → p.head.Fits s → IsComplete (p.tail s)
  pub keeps : (s : S) (x : A) → p.head.Fits s → (p.tail s).Fits x → PartFits p x

pub all_as : {A : Type 0} {P Q : A → Type 0} (xs : List A) → ((x : A) → P x → Q x) → All P xs → All Q xs
all_as xs f h k d lt = f _ (h k d lt)

-- ---- so many of one shape

pub times_fit : {A : Type 0} (a : Codec A) (xs : List A) → All a.Fits xs → (times (length xs) a).Fits xs
unfolding times
times_fit a [] h = refl
times_fit a (x ∷ xs) h = (h 0 x (omega arith), times_fit a xs (All-tail a.Fits x xs h))

pub times_all : {A : Type 0} (n : ℕ) (a : Codec A) (xs : List A) → (times n a).Fits xs → All a.Fits xs
unfolding times
times_all zero a [] h = All-nil a.Fits
times_all zero a (x ∷ xs) h = absurd cc
times_all (suc n) a [] h = absurd h
times_all (suc n) a (x ∷ xs) h = All-cons a.Fits x xs h.0 (times_all n a xs h.1)

-- ---- arrays

pub array_fits : {S A : Type 0} (p : Part S A) (xs : List A) → All (PartFits p) xs
    → (times (length xs) p.head).Fits (map p.head_of xs) × (each p.tail (map p.head_of xs)).Fits xs
unfolding times each
array_fits p [] h = (refl, refl)
array_fits p (x ∷ xs) h =
    let f = h 0 x (omega arith) in
    let r = array_fits p xs (All-tail (PartFits p) x xs h) in
    ((f.0, r.0), (f.1, r.1))

pub array_all : {S A : Type 0} (p : Part S A) (n : ℕ) (xs : List A) → (times n p.head).Fits (map p.head_of xs)
    → (each p.tail (map p.head_of xs)).Fits xs → (length xs ≡ n) × All (PartFits p) xs
unfolding times each
array_all p zero [] h t = (refl, All-nil (PartFits p))
array_all p zero (x ∷ xs) h t = absurd cc
array_all p (suc n) [] h t = absurd h
array_all p (suc n) (x ∷ xs) h t = let r =
    array_all p n xs h.1 t.1 in (ap suc r.0, All-cons (PartFits p) x xs (h.0, t.0) r.1)

tails_complete : {S A : Type 0} {P : A → Type 0} (p : Part S A) → Has p P → (n : ℕ) (ss : List S)
    → (times n p.head).Fits ss → IsComplete (each p.tail ss)
unfolding times each
tails_complete p q zero [] h = given_complete []
tails_complete p q zero (s ∷ ss) h = absurd cc
tails_complete p q (suc n) [] h = absurd h
tails_complete p q (suc n) (s ∷ ss) h = cons_complete (q.tail s h.0) (tails_complete p q n ss h.1)

array_keeps : {S A : Type 0} {P : A → Type 0} (p : Part S A) → Has p P → (n : ℕ) (ss : List S) (xs : List A)
    → (times n p.head).Fits ss → (each p.tail ss).Fits xs
    → (times n p.head).Fits (map p.head_of xs) × (each p.tail (map p.head_of xs)).Fits xs
unfolding times each
array_keeps p q zero [] [] h k = (refl, refl)
array_keeps p q zero [] (x ∷ xs) h k = absurd cc
array_keeps p q zero (s ∷ ss) xs h k = absurd cc
array_keeps p q (suc n) [] xs h k = absurd h
array_keeps p q (suc n) (s ∷ ss) [] h k = absurd k
array_keeps p q (suc n) (s ∷ ss) (x ∷ xs) h k =
    let a = q.keeps s x h.0 k.0 in
    let b = array_keeps p q n ss xs h.1 k.1 in
    ((a.0, b.0), (a.1, b.1))

pub array_complete : {S A : Type 0} {P : A → Type 0} (p : Part S A) → Has p P → (n : ℕ) → IsComplete (whole (array n p))
array_complete p q n = led_by_complete (map p.head_of) (times_complete n q.head) (tails_complete p q n)
    (array_keeps p q n)

-- ---- lists

pub list_fits : {S A : Type 0} {P : A → Type 0} (most : ℕ) (p : Part S A) → Has p P → (xs : List A) → IsListOf most P xs
    → PartFits (list most p) xs
unfolding list
list_fits most p q [] h = (((lit< tt, le-leb 0 most (omega arith)), (tt, refl)), refl)
list_fits {P = P} most p q (x ∷ xs) h =
    let n = length (x ∷ xs) in
    let a = array_fits p (x ∷ xs) (all_as {P = P} {Q = PartFits p} (x ∷ xs) q.fits h.2) in
    (((h.1, le-leb n most h.0), (tt, refl)), (((h.1, eq-eqb n n refl), (a, refl)), refl))

pub list_kind : {S A : Type 0} {P : A → Type 0} (most : ℕ) (p : Part S A) → Has p P → (xs : List A)
    → PartFits (list most p) xs → IsListOf most P xs
unfolding list
list_kind {P = P} most p q [] h = (omega arith, lit< tt, All-nil P)
list_kind {P = P} most p q (x ∷ xs) h =
    let n = length (x ∷ xs) in
    let a = array_all p n (x ∷ xs) h.1.0.1.0.0 h.1.0.1.0.1 in
    (leb-true n most h.0.0.1, h.0.0.0, all_as {P = PartFits p} {Q = P} (x ∷ xs) q.kind a.1)

list_head_complete : (most : ℕ) → IsComplete (list_head most)
list_head_complete most =
    chain_complete (such_complete 4 (λ n. nat_le n most) u32_complete)
    (λ n f. such_complete 4 (λ b. b || (n == 0)) pointer_complete)

list_tail_complete : {S A : Type 0} {P : A → Type 0} (p : Part S A) → Has p P → (s : ℕ × Bool)
    → IsComplete (list_tail p s)
list_tail_complete p q (n, true) =
    ignored_same n (such_complete 4 (λ m. m == n) u32_complete) (array_complete p q n) (λ m h. eqb-true m n h.1)
list_tail_complete p q (n, false) = given_complete []

list_keeps : {S A : Type 0} {P : A → Type 0} (most : ℕ) (p : Part S A) → Has p P → (s : ℕ × Bool) (xs : List A)
    → (list_head most).Fits s → (list_tail p s).Fits xs
    → (list_head most).Fits (length xs, is_there_list xs) × (list_tail p (length xs, is_there_list xs)).Fits xs
list_keeps most p q s [] f h = (((lit< tt, le-leb 0 most (omega arith)), (tt, refl)), refl)
list_keeps most p q (n, false) (x ∷ xs) f h = absurd cc
list_keeps most p q (n, true) (x ∷ xs) f h =
    let len : length (x ∷ xs) ≡ n = (array_all p n (x ∷ xs) h.0.1.0.0 h.0.1.0.1).0 in
    (((rw len f.0.0, rw len f.0.1), (tt, refl)), subst (λ (k : ℕ). (list_tail p (k, true)).Fits (x ∷ xs)) (sym len) h)

pub list_has : {S A : Type 0} {P : A → Type 0} (most : ℕ) (p : Part S A) → Has p P → Has (list most p) (IsListOf most P)
unfolding list
list_has most p q = record {
  fits = list_fits most p q;
  kind = list_kind most p q;
  head = list_head_complete most;
  tail = λ s f. list_tail_complete p q s;
  keeps = list_keeps most p q;
}

-- ---- a part that stands alone

pub whole_fits : {S A : Type 0} {P : A → Type 0} (p : Part S A) → Has p P → (x : A) → P x → (whole p).Fits x
whole_fits p q x h = (q.fits x h, refl)

pub whole_kind : {S A : Type 0} {P : A → Type 0} (p : Part S A) → Has p P → (x : A) → (whole p).Fits x → P x
whole_kind p q x h = q.kind x h.0

pub whole_complete : {S A : Type 0} {P : A → Type 0} (p : Part S A) → Has p P → IsComplete (whole p)
whole_complete p q = led_by_complete p.head_of q.head q.tail q.keeps

-- ---- structures

pub flat_has : {A : Type 0} {P : A → Type 0} (a : Codec A) → ((x : A) → P x → a.Fits x) → ((x : A) → a.Fits x → P x)
    → IsComplete a → Has (flat a) P
flat_has {A = A} a fits kind complete = record {
  fits = λ x h. (fits x h, refl);
  kind = λ x h. kind x h.0;
  head = complete;
  tail = λ s f. given_complete s;
  keeps = λ s x f h. (subst (λ (y : A). a.Fits y) (sym h) f, refl);
}

pub join_has : {S T A B : Type 0} {P : A → Type 0} {Q : B → Type 0} (p : Part S A) (q : Part T B) → Has p P → Has q Q
    → Has (join p q) (λ x. P x.0 × Q x.1)
join_has {S = S} {T = T} {A = A} {B = B} p q f g = record {
  fits = λ x h. let a = f.fits x.0 h.0 in let b = g.fits x.1 h.1 in ((a.0, b.0), (a.1, b.1));
  kind = λ x h. (f.kind x.0 (h.0.0, h.1.0), g.kind x.1 (h.0.1, h.1.1));
  head = chain_complete f.head (λ x h. g.head);
  tail = λ s h. chain_complete (f.tail s.0 h.0) (λ x k. g.tail s.1 h.1);
  keeps = λ s x h k. let a = f.keeps s.0 x.0 h.0 k.0 in let b = g.keeps s.1 x.1 h.1 k.1 in ((a.0, b.0), (a.1, b.1));
}

pub part_of_has : {S A B : Type 0} {P : A → Type 0} {Q : B → Type 0} (make : A → B) (parts : B → A) (p : Part S A)
    → Has p P → ((b : B) → Q b → P (parts b)) → ((b : B) → P (parts b) → Q b)
    → ((a : A) → parts (make a) ≡ a) → ((b : B) → make (parts b) ≡ b) → Has (part_of make parts p) Q
part_of_has {A = A} {B = B} make parts p f fits kind back same = record {
  fits = λ b h. let a = f.fits (parts b) (fits b h) in (a.0, (a.1, same b));
  kind = λ b h. kind b (f.kind (parts b) (h.0, h.1.0));
  head = f.head;
  tail = λ s h. made_complete make parts (f.tail s h)
      (λ a k. (subst (λ (y : A). (p.tail s).Fits y) (sym (back a)) k, same (make a)));
  keeps = λ s b h k. let a = f.keeps s (parts b) h k.0 in (a.0, (a.1, k.1));
}

-- ---- pointers

pub there_has : {A : Type 0} {P : A → Type 0} (a : Codec A) → ((x : A) → P x → a.Fits x) → ((x : A) → a.Fits x → P x)
    → IsComplete a → Has (there a) P
there_has a fits kind complete = record {
  fits = λ x h. ((tt, refl), fits x h);
  kind = λ x h. kind x h.1;
  head = such_complete 4 _ pointer_complete;
  tail = λ s f. complete;
  keeps = λ s x f h. ((tt, refl), h);
}

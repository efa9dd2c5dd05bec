-- Which texts can be written, and that what some bytes spell can be.
use Rattle.std.proofs.Common.{◌≡◌, ℕ, ◌*◌, ◌/◌, ◌%◌, ◌^◌, ◌<◌, ◌≤◌, Bool, true, false, All, List, [], ◌∷◌, length, refl}
use Rattle.std.proofs.Common.{sym, subst, arith, lit<}
use Rattle.std.specs.Prelude.{◌==◌, ◌||◌}
use Rattle.std.proofs.lemmas.Bool.{eqb-true, le-leb, eq-eqb}
use Rattle.std.proofs.lemmas.List.Elements.{All-nil}
use Rattle.ndr_core.specs.Shapes.{u16, varying}
use Rattle.ndr_core.specs.Parts.{PartFits, times, is_there_list}
use Rattle.ndr_core.proofs.Complete.{IsComplete, u16_complete, u32_complete, pointer_complete, given_complete}
use Rattle.ndr_core.proofs.Complete.{such_complete, chain_complete, led_by_complete, ignored_complete, ignored_same}
use Rattle.ndr_core.proofs.Complete.{times_complete, times_length, varying_complete}
use Rattle.ndr_types.specs.Values.{text, text_head, text_tail, units, is_even}
use Rattle.acct_layouts.specs.Values.{IsText}
use Rattle.ndr_types.proofs.Parts.{Has, times_fit, times_all}

units_fit : (n : ℕ) (us : List ℕ) → n < 2 ^ 32 → length us ≡ n → All (λ u. u < 2 ^ 16) us → (units n).Fits us
units_fit n us small len all =
    let counts : (varying (length us)).Fits n =
    (((lit< tt, refl), (small, le-leb n (length us) (omega (arith, len)))), refl) in
    let each = subst (λ (k : ℕ). (times k u16).Fits us) len (times_fit u16 us all) in
    ((omega (arith, len), (((counts, eq-eqb n n refl), each), refl)), refl)

units_complete : (n : ℕ) → n < 2 ^ 32 → IsComplete (units n)
units_complete n small =
    led_by_complete length u32_complete
    (λ most f. ignored_same n (such_complete 4 (λ k. k == n) (varying_complete most)) (times_complete n u16_complete)
    (λ k h. eqb-true k n h.1))
    (λ most us f h. let fits = units_fit n us small (times_length n u16 us h.0.1) (times_all n u16 us h.0.1) in fits.0)

half : (n : ℕ) → is_even n ≡ true → 2 * (n / 2) ≡ n
half n e = omega (arith, eqb-true (n % 2) 0 e)

double_even : (k : ℕ) → is_even (2 * k) ≡ true
double_even k = eq-eqb (2 * k % 2) 0 (omega arith)

there_or_empty : (us : List ℕ) → (is_there_list us || (2 * length us == 0)) ≡ true
there_or_empty [] = refl
there_or_empty (u ∷ us) = refl

text_head_complete : IsComplete text_head
text_head_complete = chain_complete (such_complete 2 is_even u16_complete)
    (λ n f. ignored_complete n u16_complete (such_complete 4 (λ there. there || (n == 0)) pointer_complete) f.0)

text_tail_complete : (s : ℕ × Bool) → text_head.Fits s → IsComplete (text_tail s)
text_tail_complete (n, false) f = given_complete []
text_tail_complete (n, true) f = units_complete (n / 2) (omega (arith, f.0.0))

head_fits : (us : List ℕ) → length us ≤ 32767 → text_head.Fits (2 * length us, is_there_list us)
head_fits us le = ((omega arith, double_even (length us)), ((omega arith, (tt, there_or_empty us)), refl))

tail_fits : (us : List ℕ) → length us ≤ 32767 → All (λ u. u < 2 ^ 16) us
    → (text_tail (2 * length us, is_there_list us)).Fits us
tail_fits [] le all = refl
tail_fits (u ∷ us) le all = units_fit (2 * length (u ∷ us) / 2) (u ∷ us) (omega arith) (omega arith) all

text_fits : (us : List ℕ) → IsText us → PartFits text us
unfolding text
text_fits us h = (head_fits us h.0, tail_fits us h.0 h.1)

text_kind : (us : List ℕ) → PartFits text us → IsText us
unfolding text
text_kind [] h = (omega arith, All-nil (λ (u : ℕ). u < 2 ^ 16))
text_kind (u ∷ us) h = (omega (arith, h.0.0.0), times_all (2 * length (u ∷ us) / 2) u16 (u ∷ us) h.1.0.1.0.1)

text_keeps : (s : ℕ × Bool) (us : List ℕ) → text_head.Fits s → (text_tail s).Fits us
    → text_head.Fits (2 * length us, is_there_list us) × (text_tail (2 * length us, is_there_list us)).Fits us
text_keeps (n, false) us f h =
    subst (λ (vs : List ℕ). text_head.Fits (2 * length vs, is_there_list vs)
    × (text_tail (2 * length vs, is_there_list vs)).Fits vs) (sym h) (head_fits [] (omega arith), refl)
text_keeps (n, true) us f h =
    let len = times_length (n / 2) u16 us h.0.1.0.1 in
    let le : length us ≤ 32767 = omega (arith, len, f.0.0) in
    (head_fits us le, tail_fits us le (times_all (n / 2) u16 us h.0.1.0.1))

pub text_has : Has text IsText
unfolding text
text_has = record {
  fits = text_fits;
  kind = text_kind;
  head = text_head_complete;
  tail = text_tail_complete;
  keeps =
      text_keeps;
}

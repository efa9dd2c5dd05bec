-- Which SIDs and lists can be written, and that what some bytes spell can be.
use Rattle.std.proofs.Common.{◌≡◌, ℕ, ◌^◌, ◌<◌, ◌≤◌, Bool, true, false, length, refl, sym, subst, arith, lit<}
use Rattle.std.specs.Prelude.{◌==◌, ◌&&◌, nat_le}
use Rattle.std.proofs.lemmas.Bool.{eqb-true, leb-true, le-leb, eq-eqb}
use Rattle.ndr_core.specs.Codec.{Codec}
use Rattle.ndr_core.specs.Shapes.{u32, u8_such, ignored, made, chain}
use Rattle.ndr_core.specs.Parts.{flat, times}
use Rattle.ndr_core.proofs.Complete.{IsComplete, u8_complete, u32_complete, such_complete, chain_complete}
use Rattle.ndr_core.proofs.Complete.{made_complete, led_by_complete, ignored_same, times_complete, times_length}
use Rattle.dtyp_sid.specs.Sids.{SidValue, IsSid, sid_max_sub_authorities, sid_revision}
use Rattle.ndr_types.specs.Values.{authority, sid, sid_of, parts_of_sid, sid_pointer, is_revision}
use Rattle.acct_layouts.specs.Values.{IsLong}
use Rattle.ndr_types.proofs.Digits.{authority_fits, authority_below, authority_complete}
use Rattle.ndr_types.proofs.Parts.{Has, flat_has, there_has, times_fit, times_all}

pub and_left : (a b : Bool) → (a && b) ≡ true → a ≡ true
and_left true b e = refl
and_left false b e = absurd cc

pub and_right : (a b : Bool) → (a && b) ≡ true → b ≡ true
and_right true b e = e
and_right false b e = absurd cc

pub and_both : (a b : Bool) → a ≡ true → b ≡ true → (a && b) ≡ true
and_both a b p q = rw (p, q) refl

count_passes : (n : ℕ) → n ≤ sid_max_sub_authorities → ((n == n) && nat_le n sid_max_sub_authorities) ≡ true
count_passes n le =
    and_both (n == n) (nat_le n sid_max_sub_authorities) (eq-eqb n n refl) (le-leb n sid_max_sub_authorities le)

-- what stands after the maximum count
abbrev after_count : ℕ → Codec SidValue
after_count n = ignored sid_revision (u8_such is_revision)
    (ignored n (u8_such (λ count. (count == n) && nat_le count sid_max_sub_authorities))
    (made sid_of parts_of_sid (chain authority (λ _. times n u32))))

pub sid_fits : (s : SidValue) → IsSid s → sid.Fits s
unfolding sid
sid_fits s h =
    let n = length s.subs in (
      (
        omega (arith, h.count_fits),
        (
          (
            ((lit< tt, refl)),
            (
              (
                (omega (arith, h.count_fits), count_passes n h.count_fits),
                ((authority_fits s.authority h.authority_fits, times_fit u32 s.subs h.subs_fit), refl),
              ),
              refl,
            ),
          ),
          refl,
        ),
      ),
      refl,
    )

pub sid_kind : (s : SidValue) → sid.Fits s → IsSid s
unfolding sid
sid_kind s h =
    let n = length s.subs in
    let inner = h.0.1.0.1.0 in
    record {
      authority_fits = authority_below s.authority inner.1.0.0;
      count_fits = leb-true n sid_max_sub_authorities (and_right (n == n) (nat_le n sid_max_sub_authorities) inner.0.1);
      subs_fit = times_all n u32 s.subs inner.1.0.1;
    }

pub sid_complete : IsComplete sid
unfolding sid
sid_complete =
    led_by_complete (λ s. length s.subs) u32_complete
    (λ n f. ignored_same 1 (such_complete 1 is_revision u8_complete)
    (ignored_same n (such_complete 1 (λ count. (count == n) && nat_le count sid_max_sub_authorities) u8_complete)
    (made_complete sid_of parts_of_sid (chain_complete authority_complete (λ a k. times_complete n u32_complete))
    (λ x k. (k, refl)))
    (λ count k. eqb-true count n (and_left (count == n) (nat_le count sid_max_sub_authorities) k.1)))
    (λ r k. eqb-true r 1 k.1))
    (λ n s f h.
    let len = times_length n u32 s.subs h.0.1.0.1.0.1 in
    (subst (λ (k : ℕ). k < 2 ^ 32) (sym len) f, subst (λ (k : ℕ). (after_count k).Fits s) (sym len) h))

pub sid_pointer_has : Has sid_pointer IsSid
unfolding sid_pointer
sid_pointer_has = there_has sid sid_fits sid_kind sid_complete

pub long_has : Has (flat u32) IsLong
long_has = flat_has u32 (λ n h. h) (λ n h. h) u32_complete

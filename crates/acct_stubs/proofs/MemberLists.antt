-- Which lists of members can be written, and that what some bytes spell can be. And the loops that pair and write them.
use Rattle.std.proofs.Common.{◌≡◌, ℕ, ◌+◌, ◌^◌, ◌<◌, min, Bool, true, false, All, List, [], ◌∷◌, ◌++◌, length, map}
use Rattle.std.proofs.Common.{take, get_or, refl, sym, ap, subst, ◌∙◌, arith}
use Rattle.std.specs.Prelude.{◌==◌, ◌||◌}
use Rattle.std.specs.List.{zip}
use Rattle.std.proofs.lemmas.Bool.{eqb-true, eq-eqb}
use Rattle.std.proofs.lemmas.List.{length-map, take_more, take_all}
use Rattle.std.proofs.lemmas.Slice.Zip.{length-zip, get_or-zip}
use Rattle.std.proofs.Math.ListN.{get_or-map}
use Rattle.std.proofs.lemmas.List.Elements.{All-nil, All-cons, All-tail}
use Rattle.ndr_core.proofs.Complete.{IsComplete, chain_complete, given_complete, ignored_same, made_complete}
use Rattle.ndr_core.proofs.Complete.{pointer_complete, such_complete, times_complete, times_length, u32_complete}
use Rattle.ndr_core.specs.Parts.{Part, PartFits, pointer_to, times, whole}
use Rattle.ndr_core.specs.Shapes.{given, u32}
use Rattle.acct_calls.specs.declared.lists.RidBits.{RidBits}
use Rattle.acct_layouts.specs.Values.{IfThere, IsListed, IsLong, IsMember}
use Rattle.ndr_types.proofs.Parts.{Has, times_all, times_fit, whole_complete, whole_fits, whole_kind}
use Rattle.ndr_types.proofs.Records.{pointer_has}
use Rattle.ndr_types.proofs.ShapeValues.{whole_values}
use Rattle.ndr_types.specs.Laws.{HasValues}
use Rattle.ndr_types.specs.Listed.{rid_bits_of}
use Rattle.acct_stubs.specs.Infos.{bits_of, both_numbers, members, members_buffer, members_head, numbers, paired}
use Rattle.acct_stubs.specs.Infos.{parted, rid_of}

-- ---- numbers

numbers_complete : (n : ℕ) (there : Bool) → IsComplete (numbers n there)
numbers_complete n true =
    ignored_same n (such_complete 4 (λ m. m == n) u32_complete) (times_complete n u32_complete)
    (λ m h. eqb-true m n h.1)
numbers_complete n false = given_complete []

numbers_kind : (n : ℕ) (there : Bool) (ns : List ℕ) → (there || (n == 0)) ≡ true → (numbers n there).Fits ns
    → (length ns ≡ n) × All IsLong ns
numbers_kind n true ns t h = (times_length n u32 ns h.0.1, times_all n u32 ns h.0.1)
numbers_kind n false ns t h =
    (ap length h ∙ sym (eqb-true n 0 t), subst (λ (ms : List ℕ). All IsLong ms) (sym h) (All-nil IsLong))

numbers_fit : (n : ℕ) (ns : List ℕ) → length ns ≡ n → n < 2 ^ 32 → All IsLong ns → (numbers n true).Fits ns
numbers_fit n ns len small all =
    (((small, eq-eqb n n refl), subst (λ (k : ℕ). (times k u32).Fits ns) len (times_fit u32 ns all)), refl)

-- ---- pairs

paired_parted : (xs : List RidBits) → paired (parted xs) ≡ xs
paired_parted [] = refl
paired_parted (x ∷ xs) = ap (λ (ys : List RidBits). x ∷ ys) (paired_parted xs)

rids_back : (ks vs : List ℕ) → length ks ≡ length vs → map rid_of (paired (ks, vs)) ≡ ks
rids_back [] vs e = refl
rids_back (k ∷ ks) [] e = absurd (omega (arith, e))
rids_back (k ∷ ks) (v ∷ vs) e = ap (λ (ns : List ℕ). k ∷ ns) (rids_back ks vs (omega (arith, e)))

bits_back : (ks vs : List ℕ) → length ks ≡ length vs → map bits_of (paired (ks, vs)) ≡ vs
bits_back [] [] e = refl
bits_back [] (v ∷ vs) e = absurd (omega (arith, e))
bits_back (k ∷ ks) [] e = absurd (omega (arith, e))
bits_back (k ∷ ks) (v ∷ vs) e = ap (λ (ns : List ℕ). v ∷ ns) (bits_back ks vs (omega (arith, e)))

parted_paired : (x : List ℕ × List ℕ) → length x.0 ≡ length x.1 → parted (paired x) ≡ x
parted_paired (ks, vs) e = rw (rids_back ks vs e, bits_back ks vs e) refl

-- ---- members

all_members : (xs : List RidBits) → All IsLong (map rid_of xs) → All IsLong (map bits_of xs) → All IsMember xs
all_members [] p q = All-nil IsMember
all_members (x ∷ xs) p q =
    All-cons IsMember x xs (p 0 0 (omega arith), q 0 0 (omega arith))
    (all_members xs (All-tail IsLong (rid_of x) (map rid_of xs) p) (All-tail IsLong (bits_of x) (map bits_of xs) q))

all_rids : (xs : List RidBits) → All IsMember xs → All IsLong (map rid_of xs)
all_rids [] h = All-nil IsLong
all_rids (x ∷ xs) h =
    let f = h 0 x (omega arith) in
    All-cons IsLong (rid_of x) (map rid_of xs) f.0 (all_rids xs (All-tail IsMember x xs h))

all_bits : (xs : List RidBits) → All IsMember xs → All IsLong (map bits_of xs)
all_bits [] h = All-nil IsLong
all_bits (x ∷ xs) h =
    let f = h 0 x (omega arith) in
    All-cons IsLong (bits_of x) (map bits_of xs) f.1 (all_bits xs (All-tail IsMember x xs h))

are_members : (s : ℕ × (Bool × Bool)) (xs : List RidBits) → members_head.Fits s → (both_numbers s).Fits (parted xs)
    → IsListed IsMember xs
are_members s xs f h =
    let rids = numbers_kind s.0 s.1.0 (map rid_of xs) f.1.0.1 h.0 in
    let bits = numbers_kind s.0 s.1.1 (map bits_of xs) f.1.1.1 h.1 in
    (omega (arith, rids.0, length-map xs rid_of, f.0), all_members xs rids.1 bits.1)

members_fit : (xs : List RidBits) → IsListed IsMember xs → PartFits members_buffer xs
unfolding members_buffer
members_fit [] h = ((h.0, ((tt, refl), (tt, refl))), ((refl, refl), refl))
members_fit (x ∷ xs) h =
    let n = length (x ∷ xs) in
    let rids = numbers_fit n (map rid_of (x ∷ xs)) (length-map (x ∷ xs) rid_of) h.0 (all_rids (x ∷ xs) h.1) in
    let bits = numbers_fit n (map bits_of (x ∷ xs)) (length-map (x ∷ xs) bits_of) h.0 (all_bits (x ∷ xs) h.1) in
    ((h.0, ((tt, refl), (tt, refl))), ((rids, bits), paired_parted (x ∷ xs)))

both_complete : (s : ℕ × (Bool × Bool)) → IsComplete (both_numbers s)
both_complete s = chain_complete (numbers_complete s.0 s.1.0) (λ x h. numbers_complete s.0 s.1.1)

pairs_keep : (s : ℕ × (Bool × Bool)) → members_head.Fits s → (x : List ℕ × List ℕ) → (both_numbers s).Fits x
    → (both_numbers s).Fits (parted (paired x)) × (paired (parted (paired x)) ≡ paired x)
pairs_keep s f x h =
    let rids = numbers_kind s.0 s.1.0 x.0 f.1.0.1 h.0 in
    let bits = numbers_kind s.0 s.1.1 x.1 f.1.1.1 h.1 in (
      subst (λ (y : List ℕ × List ℕ). (both_numbers s).Fits y) (sym (parted_paired x (rids.0 ∙ sym bits.0))) h,
      paired_parted (paired x),
    )

members_tail : (s : ℕ × (Bool × Bool)) → members_head.Fits s → IsComplete (members_buffer.tail s)
unfolding members_buffer
members_tail s f = made_complete paired parted (both_complete s) (pairs_keep s f)

buffer_has : Has members_buffer (IsListed IsMember)
unfolding members_buffer
buffer_has = record {
  fits = members_fit;
  kind = λ xs h. are_members _ xs h.0 h.1.0;
  head = chain_complete u32_complete
      (λ n h. chain_complete (such_complete 4 (λ b. b || (n == 0)) pointer_complete)
      (λ b k. such_complete 4 (λ b. b || (n == 0)) pointer_complete));
  tail = members_tail;
  keeps = λ s xs f k. members_fit xs (are_members s xs f k.0);
}

to_buffer : Has (pointer_to (whole members_buffer)) (IfThere (IsListed IsMember))
to_buffer =
    pointer_has (whole members_buffer) (whole_fits members_buffer buffer_has) (whole_kind members_buffer buffer_has)
    (whole_complete members_buffer buffer_has)

pub members_values : HasValues members (IfThere (IsListed IsMember))
unfolding members
members_values = whole_values (pointer_to (whole members_buffer)) to_buffer

pub members_complete : IsComplete members
unfolding members
members_complete = whole_complete (pointer_to (whole members_buffer)) to_buffer

-- ---- what a loop over members writes

abbrev pub rid_part : Part ℕ RidBits
rid_part = record { head = u32; tail = λ rid. given (rid_bits_of (rid, 0)); head_of = rid_of }

abbrev pub bits_part : Part ℕ RidBits
bits_part = record { head = u32; tail = λ bits. given (rid_bits_of (0, bits)); head_of = bits_of }

-- ---- what a loop over both arrays pairs

paired-length : (ks vs : List ℕ) → length (paired (ks, vs)) ≡ min (length ks) (length vs)
paired-length ks vs = length-map (zip ks vs) rid_bits_of ∙ length-zip ks vs

pub pair_more : (ks vs : List ℕ) (i k v : ℕ) → i < length ks → i < length vs → k ≡ get_or ks i 0 → v ≡ get_or vs i 0
    → take (i + 1) (paired (ks, vs)) ≡ take i (paired (ks, vs)) ++ rid_bits_of (k, v) ∷ []
pair_more ks vs i k v in_ks in_vs is_k is_v =
    let here : get_or (paired (ks, vs)) i (rid_bits_of (0, 0)) ≡ rid_bits_of (k, v) =
    get_or-map rid_bits_of (zip ks vs) i (0, 0) ∙ ap rid_bits_of (get_or-zip ks vs i (0, 0) in_ks in_vs)
    ∙ rw (is_k, is_v) refl in
    take_more (paired (ks, vs)) i (rid_bits_of (0, 0)) (omega (arith, paired-length ks vs))
    ∙ ap (λ (x : RidBits). take i (paired (ks, vs)) ++ x ∷ []) here

pub pair_all : (ks vs : List ℕ) (i : ℕ) → i ≡ min (length ks) (length vs) → take i (paired (ks, vs)) ≡ paired (ks, vs)
pair_all ks vs i e = take_all i (paired (ks, vs)) (omega (arith, paired-length ks vs))

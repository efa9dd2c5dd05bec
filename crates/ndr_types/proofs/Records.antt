-- Which privileges, accounts and domains can be written, and that what some bytes spell can be.
use Rattle.std.proofs.Common.{ℕ, ◌^◌, ◌<◌, Bool, true, false, List, length, Option, Some, None, refl, sym, subst, arith}
use Rattle.std.proofs.Common.{lit<}
use Rattle.std.specs.Prelude.{◌==◌, ◌&&◌, nat_le}
use Rattle.std.proofs.lemmas.Bool.{eqb-true, leb-true, le-leb, eq-eqb}
use Rattle.ndr_core.specs.Codec.{Codec}
use Rattle.ndr_core.specs.Shapes.{u32, u32_such, ignored}
use Rattle.ndr_core.specs.Parts.{PartFits, times, whole, join, flat, pointer_to, when_there, some, list}
use Rattle.ndr_core.proofs.Complete.{IsComplete, u32_complete, pointer_complete, given_complete, such_complete}
use Rattle.ndr_core.proofs.Complete.{chain_complete, made_complete, led_by_complete, ignored_complete, ignored_same}
use Rattle.ndr_core.proofs.Complete.{times_complete, times_length}
use Rattle.acct_codes.specs.Limits.{most_privileges}
use Rattle.acct_calls.specs.declared.lists.Privilege.{Privilege}
use Rattle.acct_calls.specs.declared.lists.ReferencedDomain.{ReferencedDomain}
use Rattle.acct_calls.specs.declared.lists.RidBits.{RidBits}
use Rattle.ndr_types.specs.Values.{privilege, privilege_of, parts_of_privilege, privilege_set, text, sid_pointer}
use Rattle.ndr_types.specs.Listed.{any, rid_name, rid_name_of, parts_of_rid_name, membership, rid_bits, rid_bits_of}
use Rattle.ndr_types.specs.Listed.{parts_of_rid_bits}
use Rattle.ndr_types.specs.Translations.{place, place_of, parts_of_place, first, with_entries, places}
use Rattle.acct_layouts.specs.Values.{IfThere, IsPrivilege, IsPrivilegeSet, IsAccount, IsDomain, IsMember}
use Rattle.ndr_types.specs.Laws.{IsListOf}
use Rattle.ndr_types.proofs.Parts.{Has, all_as, flat_has, join_has, part_of_has, list_has, times_fit, times_all}
use Rattle.ndr_types.proofs.Parts.{whole_fits, whole_kind, whole_complete}
use Rattle.ndr_types.proofs.Texts.{text_has}
use Rattle.ndr_types.proofs.Sids.{and_left, and_right, and_both, long_has, sid_pointer_has}

-- ---- privileges

privilege_fits : (p : Privilege) → IsPrivilege p → privilege.Fits p
unfolding privilege
privilege_fits p h = ((h.0, (h.1, h.2)), refl)

privilege_kind : (p : Privilege) → privilege.Fits p → IsPrivilege p
unfolding privilege
privilege_kind p h = (h.0.0, h.0.1.0, h.0.1.1)

privilege_complete : IsComplete privilege
unfolding privilege
privilege_complete = made_complete privilege_of parts_of_privilege
    (chain_complete u32_complete (λ x h. chain_complete u32_complete (λ y k. u32_complete))) (λ x h. (h, refl))

-- what stands after the maximum count
abbrev after_maximum : ℕ → Codec (List Privilege)
after_maximum n =
    ignored n (u32_such (λ count. (count == n) && nat_le count most_privileges)) (ignored 0 u32 (times n privilege))

pub privilege_set_fits : (ps : List Privilege) → IsPrivilegeSet ps → privilege_set.Fits ps
unfolding privilege_set
privilege_set_fits ps h =
    let n = length ps in
    let passes = and_both (n == n) (nat_le n most_privileges) (eq-eqb n n refl) (le-leb n most_privileges h.0) in
    let all = times_fit privilege ps (all_as {P = IsPrivilege} {Q = privilege.Fits} ps privilege_fits h.1) in
    ((omega (arith, h.0), (((omega (arith, h.0), passes), ((lit< tt, all), refl)), refl)), refl)

pub privilege_set_kind : (ps : List Privilege) → privilege_set.Fits ps → IsPrivilegeSet ps
unfolding privilege_set
privilege_set_kind ps h =
    let n = length ps in (
      leb-true n most_privileges (and_right (n == n) (nat_le n most_privileges) h.0.1.0.0.1),
      all_as {P = privilege.Fits} {Q = IsPrivilege} ps
          privilege_kind (times_all n privilege ps h.0.1.0.1.0.1),
    )

pub privilege_set_complete : IsComplete privilege_set
unfolding privilege_set
privilege_set_complete =
    led_by_complete length u32_complete
    (λ n f. ignored_same n (such_complete 4 (λ count. (count == n) && nat_le count most_privileges) u32_complete)
    (ignored_complete 0 u32_complete (times_complete n privilege_complete) (lit< tt))
    (λ count k. eqb-true count n (and_left (count == n) (nat_le count most_privileges) k.1)))
    (λ n ps f h.
    let len = times_length n privilege ps h.0.1.0.1 in
    (subst (λ (k : ℕ). k < 2 ^ 32) (sym len) f, subst (λ (k : ℕ). (after_maximum k).Fits ps) (sym len) h))

-- ---- pointers to lists

some_or_none : {A : Type 0} (a : Codec A) → IsComplete a → (b : Bool) → IsComplete (when_there b a)
some_or_none {A = A} a p true =
    record { fits = λ y c d bytes h. subst (λ (z : Option A). (some a).Fits z) h.2 (p.fits h.0 c d bytes h.1) }
some_or_none a p false = given_complete None

pointer_keeps : {A : Type 0} (a : Codec A) (b : Bool) (y : Option A) → (when_there b a).Fits y
    → PartFits (pointer_to a) y
pointer_keeps a true None h = absurd h
pointer_keeps a true (Some x) h = (tt, h)
pointer_keeps a false None h = (tt, refl)
pointer_keeps a false (Some x) h = absurd cc

pointer_fits : {A : Type 0} {P : A → Type 0} (a : Codec A) → ((x : A) → P x → a.Fits x) → (y : Option A) → IfThere P y
    → PartFits (pointer_to a) y
pointer_fits a fits None h = (tt, refl)
pointer_fits a fits (Some x) h = (tt, fits x h)

pointer_kind : {A : Type 0} {P : A → Type 0} (a : Codec A) → ((x : A) → a.Fits x → P x) → (y : Option A)
    → PartFits (pointer_to a) y → IfThere P y
pointer_kind a kind None h = tt
pointer_kind a kind (Some x) h = kind x h.1

pub pointer_has : {A : Type 0} {P : A → Type 0} (a : Codec A) → ((x : A) → P x → a.Fits x) → ((x : A) → a.Fits x → P x)
    → IsComplete a → Has (pointer_to a) (IfThere P)
pointer_has a fits kind complete = record {
  fits = pointer_fits a fits;
  kind = pointer_kind a kind;
  head = pointer_complete;
  tail = λ b f. some_or_none a complete b;
  keeps = λ b y f h. pointer_keeps a b y h;
}

-- ---- accounts

rid_name_has : Has rid_name IsAccount
unfolding rid_name
rid_name_has = part_of_has {Q = IsAccount} rid_name_of parts_of_rid_name (join (flat u32) text)
    (join_has (flat u32) text long_has text_has) (λ b h. h) (λ b h. h) (λ a. refl) (λ b. refl)

pub rid_names_has : Has (pointer_to (whole (list any rid_name))) (IfThere (IsListOf any IsAccount))
rid_names_has =
    let q = list_has any rid_name rid_name_has in
    pointer_has (whole (list any rid_name)) (whole_fits (list any rid_name) q) (whole_kind (list any rid_name) q)
    (whole_complete (list any rid_name) q)

-- ---- domains

place_has : Has place IsDomain
unfolding place
place_has = part_of_has {Q = IsDomain} place_of parts_of_place (join text sid_pointer)
    (join_has text sid_pointer text_has sid_pointer_has) (λ b h. h) (λ b h. h) (λ a. refl) (λ b. refl)

count_of : (s : ℕ × Bool) → (list any place).head.Fits s → s.0 < 2 ^ 32
unfolding list
count_of s h = h.0.0

count_long : (xs : List ReferencedDomain) → (list any place).head.Fits ((list any place).head_of xs)
    → ((list any place).head_of xs).0 < 2 ^ 32
count_long xs h = count_of ((list any place).head_of xs) h

places_has : Has places (IsListOf any IsDomain)
unfolding places
places_has =
    let q = list_has any place place_has in record {
      fits = λ xs h. let f = q.fits xs h in (((f.0, count_long xs f.0), refl), f.1);
      kind = λ xs h. q.kind xs (h.0.0.0, h.1);
      head = made_complete first with_entries (chain_complete q.head (λ x h. u32_complete))
          (λ x h. ((h.0, count_of x.0 h.0), refl));
      tail = λ s h. q.tail s h.0.0;
      keeps = λ s xs h k. let f = q.keeps s xs h.0.0 k in (((f.0, count_long xs f.0), refl), f.1);
    }

pub referenced_has : Has (pointer_to (whole places)) (IfThere (IsListOf any IsDomain))
referenced_has = pointer_has (whole places) (whole_fits places places_has) (whole_kind places places_has)
    (whole_complete places places_has)

-- ---- members

membership_complete : IsComplete membership
unfolding membership
membership_complete = made_complete rid_bits_of parts_of_rid_bits (chain_complete u32_complete (λ x h. u32_complete))
    (λ x h. (h, refl))

membership_fits : (r : RidBits) → IsMember r → membership.Fits r
unfolding membership
membership_fits r h = ((h.0, h.1), refl)

membership_kind : (r : RidBits) → membership.Fits r → IsMember r
unfolding membership
membership_kind r h = (h.0.0, h.0.1)

pub rid_bits_has : Has rid_bits IsMember
unfolding rid_bits
rid_bits_has = flat_has membership membership_fits membership_kind membership_complete

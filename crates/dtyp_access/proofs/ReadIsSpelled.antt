-- Parts, or a descriptor, that are read are spelled by the bytes
use Rattle.std.proofs.Common.{◌≡◌, ℕ, zero, suc, ◌+◌, ◌-◌, ◌<◌, inl, inr, List, [], ◌∷◌, length, take, drop, refl, sym}
use Rattle.std.proofs.Common.{ap, arith, subst, Bool, true, false, Option, Some, None, Result, Ok, Err, All}
use Rattle.std.specs.Prelude.{nat_lt, not, ◌==◌, ◌||◌, if◌then◌else◌, slice_index, IfOk}
use Rattle.std.proofs.lemmas.Bool.Decides.{nat_tests}
use Rattle.std.proofs.lemmas.List.Elements.{All-take, All-drop}
use Rattle.dtyp_sid.specs.Sids.{SidValue, sid_of_bytes, ReadBytesAreWritten as SidsAreWritten}
use Rattle.dtyp_sid.specs.declared.errors.BytesError.{BytesError}
use Rattle.acct_codes.specs.Descriptors.{se_dacl_present, se_self_relative}
use Rattle.dtyp_access.specs.declared.ace.Ace.{Ace}
use Rattle.dtyp_access.specs.declared.ace.AceKind.{AceKind}
use Rattle.dtyp_access.specs.declared.ace.AceKind.TheVariants.{Allow, Deny}
use Rattle.dtyp_access.specs.declared.descriptor.Descriptor.{Descriptor}
use Rattle.dtyp_access.specs.declared.parts.Parts.{Parts}
use Rattle.dtyp_access.specs.declared.errors.DescError.{DescError}
use Rattle.dtyp_access.specs.declared.errors.DescError.TheVariants.{Short, Revision, Offset, AceType}
use Rattle.dtyp_access.specs.Granted.{shares}
use Rattle.dtyp_access.specs.Parts.{parts_of, type_of}
use Rattle.dtyp_access.specs.Reading.{then_read, u16_at, u32_at, or_no_sid, is_outside, sid_of_field, sid_if_any}
use Rattle.dtyp_access.specs.Reading.{owner_of, group_of, kind_of, next_ace, ace_at, aces_at, acl_at, list_of}
use Rattle.dtyp_access.specs.Reading.{parts_if, parts_of_bytes, with_owner, descriptor_of_bytes, ReadsAllIfRoom}
use Rattle.dtyp_access.specs.Spelled.{IsInside, SpellSid, PointsToSid, SpellAce, SpellAces, SpellAcl, SpellList}
use Rattle.dtyp_access.specs.Spelled.{SpellSidOrNone, SpellParts, SpellDescriptor, ReadPartsSpell, ReadBytesSpell}

-- a reading that is not refused passed its test
not_refused : {X : Type 0} (test : Bool) (refusal : DescError) (rest : Result X DescError) (x : X) →
    (if test then Err refusal else rest) ≡ Ok x → (test ≡ false) × (rest ≡ Ok x)
not_refused false refusal rest x is = (refl, is)
not_refused true refusal rest x is = cc

-- a reading in two steps
then_ok : {X Y : Type 0} (first : Result X DescError) (next : X → Result Y DescError) (y : Y) → then_read first next
    ≡ Ok y → (x : X) × (first ≡ Ok x) × (next x ≡ Ok y)
then_ok (Ok x) next y is = (x, refl, is)
then_ok (Err refusal) next y is = cc

neither_left : (a b : Bool) → (a || b) ≡ false → a ≡ false
neither_left false b is = refl
neither_left true b is = is

neither_right : (a b : Bool) → (a || b) ≡ false → b ≡ false
neither_right false b is = is
neither_right true b is = cc

not_false : (b : Bool) → not b ≡ false → b ≡ true
not_false true is = refl
not_false false is = sym is

-- bytes, each of eight bits
abbrev pub AreBytes : List ℕ → Type 0
AreBytes bytes = All (λ byte. byte < 256) bytes

inside : (offset : ℕ) (bytes : List ℕ) → is_outside offset bytes ≡ false → IsInside offset bytes
inside offset bytes passes =
    let a = neither_left (nat_lt offset 20) (nat_lt (length bytes) offset) passes in
    let b = neither_right (nat_lt offset 20) (nat_lt (length bytes) offset) passes in
    record { behind_header = grind (arith, nat_tests); within = grind (arith, nat_tests) }

sid_spelled : SidsAreWritten → (place : ℕ) (bytes : List ℕ) (sid : SidValue) → AreBytes bytes →
    or_no_sid place (sid_of_bytes bytes) ≡ Ok sid → SpellSid bytes sid
sid_spelled law place bytes sid all read =
    let found = law bytes sid all (found_sid (sid_of_bytes bytes) read) in
    record { is_sid = found.0; begin = found.1 }
  where
    found_sid : (r : Result SidValue BytesError) → or_no_sid place r ≡ Ok sid → r ≡ Ok sid
    found_sid (Ok other) is = cc
    found_sid (Err why) is = cc

field_spelled : SidsAreWritten → (field : ℕ) (bytes : List ℕ) (sid : SidValue) → AreBytes bytes →
    sid_of_field field bytes ≡ Ok sid → PointsToSid field bytes sid
unfolding sid_of_field
field_spelled law field bytes sid all read =
    let offset = u32_at field bytes in
    let passed = not_refused (is_outside offset bytes) (Offset field)
    (or_no_sid offset (sid_of_bytes (drop offset bytes))) sid read in
    record {
      inside = inside offset bytes passed.0;
      spelled =
          sid_spelled law offset (drop offset bytes) sid (All-drop (λ byte. byte < 256) offset bytes all) passed.1;
    }

sid_or_none_spelled : SidsAreWritten → (field : ℕ) (bytes : List ℕ) (sid : Option SidValue) → AreBytes bytes →
    sid_if_any field bytes ≡ Ok sid → SpellSidOrNone field bytes sid
unfolding sid_if_any
sid_or_none_spelled law field bytes sid all = by_test (u32_at field bytes == 0) sid refl
  where
    by_test : (absent : Bool) (sid : Option SidValue) → (u32_at field bytes == 0) ≡ absent →
        (if absent then Ok None else then_read (sid_of_field field bytes) (λ sid. Ok (Some sid))) ≡ Ok sid →
        SpellSidOrNone field bytes sid
    by_test true None test read = grind (arith, nat_tests)
    by_test true (Some sid) test read = cc
    by_test false None test read = let found = then_ok (sid_of_field field bytes) (λ sid. Ok (Some sid)) None read in
        let none = found.2 in cc
    by_test false (Some sid) test read =
        let found = then_ok (sid_of_field field bytes) (λ sid. Ok (Some sid)) (Some sid) read in
        let is = found.1 in
        let same = found.2 in
        field_spelled law field bytes sid all cc

owner_spelled : SidsAreWritten → (needed : Bool) (bytes : List ℕ) (owner : Option SidValue) → AreBytes bytes →
    owner_of needed bytes ≡ Ok owner → SpellSidOrNone 4 bytes owner
owner_spelled law false bytes owner all read = sid_or_none_spelled law 4 bytes owner all read
owner_spelled law true bytes None all read =
    let found = then_ok (sid_of_field 4 bytes) (λ sid. Ok (Some sid)) None read in
    let none = found.2 in cc
owner_spelled law true bytes (Some owner) all read =
    let found = then_ok (sid_of_field 4 bytes) (λ sid. Ok (Some sid)) (Some owner) read in
    let is = found.1 in
    let same = found.2 in
    field_spelled law 4 bytes owner all cc

kind_spelled : (place type : ℕ) (kind : AceKind) → kind_of place type ≡ Ok kind → type ≡ type_of kind
kind_spelled place type kind = by_tests (type == 0) (type == 1) kind refl refl
  where
    by_tests : (allow deny : Bool) (kind : AceKind) → (type == 0) ≡ allow → (type == 1) ≡ deny
        → (if allow then Ok Allow else (if deny then Ok Deny else Err (AceType place))) ≡ Ok kind → type ≡ type_of kind
    by_tests true deny Allow is_allow is_deny read = grind (arith, nat_tests)
    by_tests true deny Deny is_allow is_deny read = cc
    by_tests false true Allow is_allow is_deny read = cc
    by_tests false true Deny is_allow is_deny read = grind (arith, nat_tests)
    by_tests false false kind is_allow is_deny read = cc

ace_spelled : SidsAreWritten → (place end : ℕ) (bytes : List ℕ) (ace : Ace) → AreBytes bytes → ace_at place end bytes
    ≡ Ok ace → SpellAce place end bytes ace
unfolding ace_at
ace_spelled law place end bytes ace all read =
    let size = u16_at (place + 2) bytes in
    let short : Bool = nat_lt end (place + 8) in
    let passing : Bool = nat_lt end (next_ace place bytes) in
    let small : Bool = nat_lt size 16 in
    let sid_bytes = take (size - 8) (drop (place + 8) bytes) in
    let passed = not_refused (short || passing || small) (Short place) _ ace read in
    let by_kind = then_ok (kind_of place (slice_index bytes place)) _ ace passed.1 in
    let by_sid = then_ok (or_no_sid (place + 8) (sid_of_bytes sid_bytes)) _ ace by_kind.2 in
    let made : Ace = record {
      kind = by_kind.0;
      flags = slice_index bytes (place + 1);
      mask = u32_at (place + 4) bytes;
      sid = by_sid.0;
    } in
    let same : made ≡ ace = (let is = by_sid.2 in cc) in
    let two = neither_left (short || passing) small passed.0 in
    let a = neither_left short passing two in
    let b = neither_right short passing two in
    let d = neither_right (short || passing) small passed.0 in
    subst (λ (ace : Ace). SpellAce place end bytes ace) same (record {
      whole = grind (arith, nat_tests);
      large = grind (arith, nat_tests);
      fits = grind (arith, nat_tests);
      kind = kind_spelled place (slice_index bytes place) by_kind.0 by_kind.1;
      flags = refl;
      mask = refl;
      sid = sid_spelled law (place + 8) sid_bytes by_sid.0
          (All-take (λ byte. byte < 256) (size - 8) (drop (place + 8) bytes)
          (All-drop (λ byte. byte < 256) (place + 8) bytes all)) by_sid.1;
    })

-- entries that are read, and their count
record AreSpelled (count place end : ℕ) (bytes : List ℕ) (aces : List Ace) : Type 0 where
  count_is : count ≡ length aces
  spelled : SpellAces place end bytes aces

aces_spelled : SidsAreWritten → (count place end : ℕ) (bytes : List ℕ) (aces : List Ace) → AreBytes bytes →
    aces_at count place end bytes ≡ Ok aces → AreSpelled count place end bytes aces
unfolding aces_at
aces_spelled law zero place end bytes [] all read = record { count_is = refl; spelled = tt }
aces_spelled law zero place end bytes (ace ∷ aces) all read = cc
aces_spelled law (suc count) place end bytes aces all read =
    let first = then_ok (ace_at place end bytes) _ aces read in
    let others = then_ok (aces_at count (next_ace place bytes) end bytes) _ aces first.2 in
    let made : List Ace = first.0 ∷ others.0 in
    let same : made ≡ aces = (let is = others.2 in cc) in
    let behind = aces_spelled law count (next_ace place bytes) end bytes others.0 all others.1 in
    subst (λ (aces : List Ace). AreSpelled (suc count) place end bytes aces) same (record {
      count_is = ap suc behind.count_is;
      spelled = (ace_spelled law place end bytes first.0 all first.1, behind.spelled);
    })

acl_spelled : SidsAreWritten → (place : ℕ) (bytes : List ℕ) (aces : List Ace) → AreBytes bytes → acl_at place bytes
    ≡ Ok aces → SpellAcl place bytes aces
unfolding acl_at
acl_spelled law place bytes aces all read =
    let short : Bool = nat_lt (length bytes) (place + 8) in
    let passing : Bool = nat_lt (length bytes) (place + u16_at (place + 2) bytes) in
    let passed = not_refused (short || passing) (Short place) _ aces read in
    let revised = not_refused (not (slice_index bytes place == 2)) (Revision place) _ aces passed.1 in
    let a = neither_left short passing passed.0 in
    let b = neither_right short passing passed.0 in
    let r = not_false (slice_index bytes place == 2) revised.0 in
    let entries = aces_spelled law (u16_at (place + 4) bytes) (place + 8)
    (place + u16_at (place + 2) bytes) bytes aces all revised.1 in
    record {
      whole = grind (arith, nat_tests);
      fits = grind (arith, nat_tests);
      revision = grind (arith, nat_tests);
      count = entries.count_is;
      entries = entries.spelled;
    }

list_spelled : SidsAreWritten → (bytes : List ℕ) (acl : Option (List Ace)) → AreBytes bytes → list_of bytes ≡ Ok acl →
    SpellList bytes acl
unfolding list_of
list_spelled law bytes acl all = by_tests (shares (u16_at 2 bytes) se_dacl_present) (u32_at 16 bytes == 0) acl refl refl
  where
    by_tests : (present none : Bool) (acl : Option (List Ace)) → shares (u16_at 2 bytes) se_dacl_present ≡ present →
        (u32_at 16 bytes == 0) ≡ none
        → (if not present || none then Ok None else
        (if is_outside (u32_at 16 bytes) bytes then Err (Offset 16) else
        then_read (acl_at (u32_at 16 bytes) bytes) (λ aces. Ok (Some aces)))) ≡ Ok acl → SpellList bytes acl
    by_tests false none None is_present is_none read = inl is_present
    by_tests false none (Some aces) is_present is_none read = cc
    by_tests true true None is_present is_none read = inr (grind (arith, nat_tests))
    by_tests true true (Some aces) is_present is_none read = cc
    by_tests true false acl is_present is_none read =
        let passed = not_refused (is_outside (u32_at 16 bytes) bytes) (Offset 16) _ acl read in
        let there = then_ok (acl_at (u32_at 16 bytes) bytes) _ acl passed.1 in
        let made : Option (List Ace) = Some there.0 in
        let same : made ≡ acl = (let is = there.2 in cc) in
        subst (λ (acl : Option (List Ace)). SpellList bytes acl) same (record {
          present = is_present;
          inside = inside (u32_at 16 bytes) bytes passed.0;
          spelled = acl_spelled law (u32_at 16 bytes) bytes there.0 all there.1;
        })

pub parts_are_spelled : SidsAreWritten → (needed : Bool) (bytes : List ℕ) (p : Parts) → AreBytes bytes →
    parts_if needed bytes ≡ Ok p → SpellParts bytes p
unfolding parts_if
parts_are_spelled law needed bytes p all read =
    let whole = not_refused (nat_lt (length bytes) 20) (Short 0) _ p read in
    let revised = not_refused (not (slice_index bytes 0 == 1)) (Revision 0) _ p whole.1 in
    let relative = not_refused (not (shares (u16_at 2 bytes) se_self_relative)) (Offset 2) _ p revised.1 in
    let by_owner = then_ok (owner_of needed bytes) _ p relative.1 in
    let by_group = then_ok (group_of bytes) _ p by_owner.2 in
    let by_acl = then_ok (list_of bytes) _ p by_group.2 in
    let made : Parts = record { owner = by_owner.0; group = by_group.0; acl = by_acl.0 } in
    let same : made ≡ p = (let is = by_acl.2 in cc) in
    let a = whole.0 in
    let r = not_false (slice_index bytes 0 == 1) revised.0 in
    subst (λ (p : Parts). SpellParts bytes p) same (record {
      header = grind (arith, nat_tests);
      revision = grind (arith, nat_tests);
      self_relative = not_false (shares (u16_at 2 bytes) se_self_relative) relative.0;
      owner = owner_spelled law needed bytes by_owner.0 all by_owner.1;
      group = sid_or_none_spelled law 8 bytes by_group.0 all by_group.1;
      acl = list_spelled law bytes by_acl.0 all by_acl.1;
    })

-- the parts of a descriptor that is made of parts are those
made_of : (owner group : Option SidValue) (acl : Option (List Ace)) (d : Descriptor) →
    with_owner owner group acl ≡ Ok d →
    (let p : Parts = record { owner = owner; group = group; acl = acl } in p) ≡ parts_of d
made_of None group acl d is = cc
made_of (Some owner) group acl d is =
    let made : Descriptor = record { owner = owner; group = group; acl = acl } in
    let same : made ≡ d = cc in
    ap parts_of same

pub read_is_spelled : SidsAreWritten → (bytes : List ℕ) (d : Descriptor) → AreBytes bytes → descriptor_of_bytes bytes
    ≡ Ok d → SpellDescriptor bytes d
unfolding descriptor_of_bytes
read_is_spelled law bytes d all read =
    let found = then_ok (parts_if true bytes) _ d read in
    subst (λ (p : Parts). SpellParts bytes p) (made_of found.0.owner found.0.group found.0.acl d found.2)
    (parts_are_spelled law true bytes found.0 all found.1)

-- what is read is spelled
pub parts_if_read : (bytes : List ℕ) (r : Result Parts DescError) → ReadPartsSpell → AreBytes bytes →
    ReadsAllIfRoom r (parts_of_bytes bytes) → IfOk r (λ p. SpellParts bytes p)
parts_if_read bytes (Ok p) law all is = (law bytes p all).0 is
parts_if_read bytes (Err why) law all is = tt

pub descriptor_if_read : (bytes : List ℕ) (r : Result Descriptor DescError) → ReadBytesSpell → AreBytes bytes →
    ReadsAllIfRoom r (descriptor_of_bytes bytes) → IfOk r (λ d. SpellDescriptor bytes d)
descriptor_if_read bytes (Ok d) law all is = (law bytes d all).0 is
descriptor_if_read bytes (Err why) law all is = tt

-- What spells parts, or a descriptor, is read as those
use Rattle.std.proofs.Common.{◌≡◌, ℕ, ◌+◌, ◌-◌, ◌≤◌, ⊎_elim, List, [], ◌∷◌, length, take, drop, refl, ap, ◌∙◌, arith}
use Rattle.std.proofs.Common.{Bool, true, false, Option, Some, None, Result, Ok, Err}
use Rattle.std.specs.Prelude.{nat_lt, not, ◌==◌, ◌||◌, if◌then◌else◌, slice_index, is_some}
use Rattle.std.proofs.lemmas.Bool.Decides.{nat_tests}
use Rattle.dtyp_sid.specs.Sids.{SidValue, sid_of_bytes, WrittenBytesAreRead as SidsAreRead}
use Rattle.acct_codes.specs.Descriptors.{se_dacl_present}
use Rattle.dtyp_access.specs.declared.ace.Ace.{Ace}
use Rattle.dtyp_access.specs.declared.ace.AceKind.{AceKind}
use Rattle.dtyp_access.specs.declared.ace.AceKind.TheVariants.{Allow, Deny}
use Rattle.dtyp_access.specs.declared.descriptor.Descriptor.{Descriptor}
use Rattle.dtyp_access.specs.declared.parts.Parts.{Parts}
use Rattle.dtyp_access.specs.declared.errors.DescError.{DescError}
use Rattle.dtyp_access.specs.declared.errors.DescError.TheVariants.{Offset}
use Rattle.dtyp_access.specs.Granted.{shares}
use Rattle.dtyp_access.specs.Parts.{parts_of, type_of}
use Rattle.dtyp_access.specs.Reading.{then_read, u16_at, u32_at, or_no_sid, is_outside, sid_of_field, sid_if_any}
use Rattle.dtyp_access.specs.Reading.{owner_of, kind_of, next_ace, ace_at, aces_at, acl_at, list_of, parts_if}
use Rattle.dtyp_access.specs.Reading.{descriptor_of_bytes}
use Rattle.dtyp_access.specs.Spelled.{IsInside, SpellSid, PointsToSid, SpellAce, SpellAces, SpellAcl, SpellList}
use Rattle.dtyp_access.specs.Spelled.{SpellSidOrNone, SpellParts, SpellDescriptor}

inside_passes : (offset : ℕ) (bytes : List ℕ) → IsInside offset bytes → is_outside offset bytes ≡ false
inside_passes offset bytes is =
    let a : nat_lt offset 20 ≡ false = grind (arith, nat_tests) in
    let b : nat_lt (length bytes) offset ≡ false = grind (arith, nat_tests) in
    rw (a, b) refl

-- bytes that begin with a SID are read as it
sid_read : SidsAreRead → (place : ℕ) (bytes : List ℕ) (sid : SidValue) → SpellSid bytes sid →
    or_no_sid place (sid_of_bytes bytes) ≡ Ok sid
sid_read law place bytes sid is = ap (or_no_sid place) (ap sid_of_bytes is.begin.1 ∙ law sid is.begin.0 is.is_sid)

field_read : SidsAreRead → (field : ℕ) (bytes : List ℕ) (sid : SidValue) → PointsToSid field bytes sid →
    sid_of_field field bytes ≡ Ok sid
unfolding sid_of_field
field_read law field bytes sid is =
    let inside = inside_passes (u32_at field bytes) bytes is.inside in
    rw inside (sid_read law (u32_at field bytes) (drop (u32_at field bytes) bytes) sid is.spelled)

sid_or_none_read : SidsAreRead → (field : ℕ) (bytes : List ℕ) (sid : Option SidValue) → SpellSidOrNone field bytes sid →
    sid_if_any field bytes ≡ Ok sid
unfolding sid_if_any
sid_or_none_read law field bytes None is =
    let none : (u32_at field bytes == 0) ≡ true = grind (arith, nat_tests) in
    rw none refl
sid_or_none_read law field bytes (Some sid) is =
    let behind : 20 ≤ u32_at field bytes = is.inside.behind_header in
    let some : (u32_at field bytes == 0) ≡ false = grind (arith, nat_tests) in
    let read = field_read law field bytes sid is in
    rw (some, read) refl

-- there is an owner where one is needed
abbrev pub HasOwnerIf : Bool → Option SidValue → Type 0
HasOwnerIf needed owner = needed ≡ true → is_some owner ≡ true

owner_read : SidsAreRead → (needed : Bool) (bytes : List ℕ) (owner : Option SidValue) → HasOwnerIf needed owner →
    SpellSidOrNone 4 bytes owner → owner_of needed bytes ≡ Ok owner
owner_read law false bytes owner has is = sid_or_none_read law 4 bytes owner is
owner_read law true bytes None has is = let none = has refl in cc
owner_read law true bytes (Some owner) has is = let read = field_read law 4 bytes owner is in rw read refl

kind_read : (place : ℕ) (kind : AceKind) → kind_of place (type_of kind) ≡ Ok kind
kind_read place Allow = refl
kind_read place Deny = refl

ace_read : SidsAreRead → (place end : ℕ) (bytes : List ℕ) (ace : Ace) → SpellAce place end bytes ace →
    ace_at place end bytes ≡ Ok ace
unfolding ace_at
ace_read law place end bytes ace is =
    let whole : nat_lt end (place + 8) ≡ false = grind (arith, nat_tests) in
    let fits : nat_lt end (next_ace place bytes) ≡ false = grind (arith, nat_tests) in
    let large : nat_lt (u16_at (place + 2) bytes) 16 ≡ false = grind (arith, nat_tests) in
    let kind : kind_of place (slice_index bytes place) ≡ Ok ace.kind = ap (kind_of place) is.kind
    ∙ kind_read place ace.kind in
    let sid = sid_read law (place + 8) (take (u16_at (place + 2) bytes - 8) (drop (place + 8) bytes)) ace.sid is.sid in
    let flags = is.flags in
    let mask = is.mask in
    rw (whole, fits, large, kind, sid, flags, mask) refl

aces_read : SidsAreRead → (place end : ℕ) (bytes : List ℕ) (aces : List Ace) → SpellAces place end bytes aces →
    aces_at (length aces) place end bytes ≡ Ok aces
unfolding aces_at
aces_read law place end bytes [] is = refl
aces_read law place end bytes (ace ∷ aces) is =
    let first = ace_read law place end bytes ace is.0 in
    let others = aces_read law (next_ace place bytes) end bytes aces is.1 in
    rw (first, others) refl

acl_read : SidsAreRead → (place : ℕ) (bytes : List ℕ) (aces : List Ace) → SpellAcl place bytes aces → acl_at place bytes
    ≡ Ok aces
unfolding acl_at
acl_read law place bytes aces is =
    let whole : nat_lt (length bytes) (place + 8) ≡ false = grind (arith, nat_tests) in
    let fits : nat_lt (length bytes) (place + u16_at (place + 2) bytes) ≡ false = grind (arith, nat_tests) in
    let revision : (slice_index bytes place == 2) ≡ true = grind (arith, nat_tests) in
    let count = is.count in
    rw (whole, fits, revision, count)
    (aces_read law (place + 8) (place + u16_at (place + 2) bytes) bytes aces is.entries)

list_read : SidsAreRead → (bytes : List ℕ) (acl : Option (List Ace)) → SpellList bytes acl → list_of bytes ≡ Ok acl
unfolding list_of
list_read law bytes None is =
    ⊎_elim
    (λ (absent : shares (u16_at 2 bytes) se_dacl_present ≡ false). rw absent refl)
    (λ (none : u32_at 16 bytes ≡ 0). let test : (u32_at 16 bytes == 0) ≡ true = grind (arith, nat_tests) in
    by_offset (not (shares (u16_at 2 bytes) se_dacl_present)) (u32_at 16 bytes == 0) test)
    is
  where
    by_offset : (absent none : Bool) → none ≡ true →
        (if absent || none then Ok None else
        (if is_outside (u32_at 16 bytes) bytes then Err (Offset 16) else
        then_read (acl_at (u32_at 16 bytes) bytes) (λ aces. Ok (Some aces))))
        ≡ (let o : Result (Option (List Ace)) DescError = Ok None in o)
    by_offset true none is = refl
    by_offset false none is = rw is refl
list_read law bytes (Some aces) is =
    let present = is.present in
    let behind : 20 ≤ u32_at 16 bytes = is.inside.behind_header in
    let some : (u32_at 16 bytes == 0) ≡ false = grind (arith, nat_tests) in
    let inside = inside_passes (u32_at 16 bytes) bytes is.inside in
    let read = acl_read law (u32_at 16 bytes) bytes aces is.spelled in
    rw (present, some, inside, read) refl

pub parts_are_read : SidsAreRead → (needed : Bool) (bytes : List ℕ) (p : Parts) → HasOwnerIf needed p.owner →
    SpellParts bytes p → parts_if needed bytes ≡ Ok p
unfolding parts_if
parts_are_read law needed bytes p has is =
    let header : nat_lt (length bytes) 20 ≡ false = grind (arith, nat_tests) in
    let revision : (slice_index bytes 0 == 1) ≡ true = grind (arith, nat_tests) in
    let self_relative = is.self_relative in
    let owner = owner_read law needed bytes p.owner has is.owner in
    let group = sid_or_none_read law 8 bytes p.group is.group in
    let acl = list_read law bytes p.acl is.acl in
    rw (header, revision, self_relative, owner, group, acl) refl

pub spelled_is_read : SidsAreRead → (bytes : List ℕ) (d : Descriptor) → SpellDescriptor bytes d →
    descriptor_of_bytes bytes ≡ Ok d
unfolding descriptor_of_bytes
spelled_is_read law bytes d is =
    let read = parts_are_read law true bytes (parts_of d) (λ _. refl) is in
    rw read refl

-- The written bytes of parts spell them, whatever bytes follow
use Rattle.std.proofs.Common.{◌≡◌, ℕ, ◌+◌, ◌-◌, ◌*◌, ◌^◌, ◌<◌, ◌≤◌, inl, List, [], ◌∷◌, ◌++◌, length, take, drop}
use Rattle.std.proofs.Common.{get_or, refl, sym, ap, ◌∙◌, arith, subst, append_assoc}
use Rattle.std.proofs.Common.{Bool, true, false, Option, Some, None, All}
use Rattle.std.specs.Prelude.{slice_index, is_some}
use Rattle.std.specs.Int.{w16, w32, to_le_bytes, from_le_bytes}
use Rattle.std.proofs.lemmas.Nat.{from_le_bytes-to_le_bytes_2, from_le_bytes-to_le_bytes_4}
use Rattle.std.proofs.lemmas.List.{length-append, append-nil, drop-drop, length-drop, get_or-drop}
use Rattle.std.proofs.Math.Seq.{take-append_seam, drop-append_seam}
use Rattle.dtyp_sid.specs.Sids.{SidValue, IsSid, bytes_of, WrittenBytesHaveLengths as SidsHaveLengths}
use Rattle.acct_codes.specs.Descriptors.{se_dacl_present, se_self_relative}
use Rattle.dtyp_access.specs.declared.ace.Ace.{Ace}
use Rattle.dtyp_access.specs.declared.parts.Parts.{Parts}
use Rattle.dtyp_access.specs.Granted.{shares}
use Rattle.dtyp_access.specs.Reading.{u16_at, u32_at, next_ace}
use Rattle.dtyp_access.specs.Parts.{type_of, ace_bytes, aces_bytes, acl_bytes, sid_bytes, list_bytes, control_of}
use Rattle.dtyp_access.specs.Parts.{offset_if, header_bytes, parts_bytes, IsAce, IsSidOrNone, IsList, AreParts}
use Rattle.dtyp_access.specs.Spelled.{PointsToSid, SpellAce, SpellAces, SpellAcl, SpellSidOrNone, SpellList}
use Rattle.dtyp_access.specs.Spelled.{SpellParts}
use Rattle.std.proofs.lemmas.List.Elements.{All-head, All-tail}

-- what stands at a place
abbrev StandAt : ℕ → List ℕ → List ℕ → List ℕ → Type 0
StandAt place bytes part rest = drop place bytes ≡ part ++ rest

u16_stands : (place number : ℕ) (bytes rest : List ℕ) → number < 2 ^ 16 →
    StandAt place bytes (to_le_bytes w16 number) rest → u16_at place bytes ≡ number
unfolding u16_at
u16_stands place number bytes rest fits stands = ap (from_le_bytes w16) stands ∙ from_le_bytes-to_le_bytes_2 number fits

u32_stands : (place number : ℕ) (bytes rest : List ℕ) → number < 2 ^ 32 →
    StandAt place bytes (to_le_bytes w32 number) rest → u32_at place bytes ≡ number
unfolding u32_at
u32_stands place number bytes rest fits stands = ap (from_le_bytes w32) stands ∙ from_le_bytes-to_le_bytes_4 number fits

byte_stands : (place byte : ℕ) (bytes rest : List ℕ) → drop place bytes ≡ byte ∷ rest → slice_index bytes place ≡ byte
byte_stands place byte bytes rest stands =
    let here : place + 0 ≡ place = omega arith in
    ap (λ n. get_or bytes n 0) (sym here) ∙ sym (get_or-drop place bytes 0 0)
    ∙ ap (λ (left : List ℕ). get_or left 0 0) stands

-- what stands after a part
behind_part : (place : ℕ) (bytes part rest : List ℕ) → StandAt place bytes part rest → drop (place + length part) bytes
    ≡ rest
behind_part place bytes part rest stands =
    sym (drop-drop (length part) place bytes) ∙ ap (drop (length part)) stands ∙ drop-append_seam part rest

-- a part that stands at a place is whole
part_whole : (place : ℕ) (bytes part rest : List ℕ) → 1 ≤ length part → StandAt place bytes part rest → place
    + length part ≤ length bytes
part_whole place bytes part rest some stands =
    let left : length bytes - place ≡ length part + length rest = sym (length-drop place bytes) ∙ ap length stands
    ∙ length-append part rest in
    omega arith

length-ace : SidsHaveLengths → (ace : Ace) → length (ace_bytes ace) ≡ 16 + 4 * length ace.sid.subs
unfolding ace_bytes
length-ace lengths ace = let long = lengths ace.sid in omega arith

-- an entry where its bytes stand
ace_stands : SidsHaveLengths → (place end : ℕ) (bytes rest : List ℕ) (ace : Ace) → IsAce ace →
    StandAt place bytes (ace_bytes ace) rest → place + length (ace_bytes ace) ≤ end
    → SpellAce place end bytes ace × (next_ace place bytes ≡ place + length (ace_bytes ace))
unfolding ace_bytes next_ace
ace_stands lengths place end bytes rest ace is stands fits =
    let long = lengths ace.sid in
    let few = is.is_sid.count_fits in
    let at : (n : ℕ) → drop (place + n) bytes ≡ drop n (ace_bytes ace ++ rest) = λ n. sym (drop-drop n place bytes)
    ∙ ap (drop n) stands in
    let size : u16_at (place + 2) bytes ≡ 8 + length (bytes_of ace.sid) =
    u16_stands (place + 2) (8 + length (bytes_of ace.sid)) bytes
    (to_le_bytes w32 ace.mask ++ bytes_of ace.sid ++ rest) (omega arith) (at 2) in
    let sid : take (u16_at (place + 2) bytes - 8) (drop (place + 8) bytes) ≡ bytes_of ace.sid =
    (let less : 8 + length (bytes_of ace.sid) - 8 ≡ length (bytes_of ace.sid) = omega arith in
    ap (λ n. take (n - 8) (drop (place + 8) bytes)) size ∙ ap (λ n. take n (drop (place + 8) bytes)) less
    ∙ ap (take (length (bytes_of ace.sid))) (at 8) ∙ take-append_seam (bytes_of ace.sid) rest) in (
      record {
        whole = omega arith;
        large = omega arith;
        fits = omega arith;
        kind = byte_stands place (type_of ace.kind) bytes _ stands;
        flags = byte_stands (place + 1) ace.flags bytes _ (at 1);
        mask = u32_stands (place + 4) ace.mask bytes (bytes_of ace.sid ++ rest) is.mask_fits (at 4);
        sid = record { is_sid = is.is_sid; begin = ([], sid ∙ sym (append-nil (bytes_of ace.sid))) };
      },
      omega arith,
    )

aces_stand : SidsHaveLengths → (place end : ℕ) (bytes rest : List ℕ) (aces : List Ace) → All IsAce aces →
    StandAt place bytes (aces_bytes aces) rest → place + length (aces_bytes aces) ≤ end
    → SpellAces place end bytes aces
unfolding aces_bytes
aces_stand lengths place end bytes rest [] are stand fit = tt
aces_stand lengths place end bytes rest (ace ∷ aces) are stand fit =
    let first_is = All-head IsAce ace aces are in
    let others_are = All-tail IsAce ace aces are in
    let long : length (ace_bytes ace ++ aces_bytes aces) ≡ length (ace_bytes ace) + length (aces_bytes aces) =
    length-append (ace_bytes ace) (aces_bytes aces) in
    let here : StandAt place bytes (ace_bytes ace) (aces_bytes aces ++ rest) = stand
    ∙ append_assoc (ace_bytes ace) (aces_bytes aces) rest in
    let first = ace_stands lengths place end bytes (aces_bytes aces ++ rest) ace first_is here (omega arith) in
    let next = first.1 in
    let behind : StandAt (next_ace place bytes) bytes (aces_bytes aces) rest = ap (λ n. drop n bytes) next
    ∙ behind_part place bytes (ace_bytes ace) (aces_bytes aces ++ rest) here in
    (first.0, aces_stand lengths (next_ace place bytes) end bytes rest aces others_are behind (omega arith))

-- the size of a list fits its field
pub aces_short : SidsHaveLengths → (aces : List Ace) → All IsAce aces → length (aces_bytes aces) ≤ 76 * length aces
unfolding aces_bytes
aces_short lengths [] are = omega arith
aces_short lengths (ace ∷ aces) are =
    let first_is = All-head IsAce ace aces are in
    let others_are = All-tail IsAce ace aces are in
    let long : length (ace_bytes ace ++ aces_bytes aces) ≡ length (ace_bytes ace) + length (aces_bytes aces) =
    length-append (ace_bytes ace) (aces_bytes aces) in
    let first = length-ace lengths ace in
    let few = first_is.is_sid.count_fits in
    let others = aces_short lengths aces others_are in
    omega arith

acl_stands : SidsHaveLengths → (place : ℕ) (bytes rest : List ℕ) (aces : List Ace) → All IsAce aces → length aces ≤ 800
    → StandAt place bytes (acl_bytes aces) rest → SpellAcl place bytes aces
unfolding acl_bytes
acl_stands lengths place bytes rest aces are few stands =
    let at : (n : ℕ) → drop (place + n) bytes ≡ drop n (acl_bytes aces ++ rest) = λ n. sym (drop-drop n place bytes)
    ∙ ap (drop n) stands in
    let short = aces_short lengths aces are in
    let long : length (acl_bytes aces) ≡ 8 + length (aces_bytes aces) = omega arith in
    let size : u16_at (place + 2) bytes ≡ 8 + length (aces_bytes aces) =
    u16_stands (place + 2) (8 + length (aces_bytes aces)) bytes _ (omega arith) (at 2) in
    let whole = part_whole place bytes (acl_bytes aces) rest (omega arith) stands in
    record {
      whole = omega arith;
      fits = omega arith;
      revision = byte_stands place 2 bytes _ stands;
      count = u16_stands (place + 4) (length aces) bytes _ (omega arith) (at 4);
      entries = aces_stand lengths (place + 8) (place + u16_at (place + 2) bytes) bytes rest aces are (at 8)
          (omega arith);
    }

-- the sizes of the parts
sid_short : SidsHaveLengths → (sid : SidValue) → IsSid sid → length (bytes_of sid) ≤ 68
sid_short lengths sid is =
    let long = lengths sid in
    let few = is.count_fits in
    omega arith

pub sid_or_none_short : SidsHaveLengths → (sid : Option SidValue) → IsSidOrNone sid → length (sid_bytes sid) ≤ 68
unfolding sid_bytes
sid_or_none_short lengths None is = omega arith
sid_or_none_short lengths (Some sid) is = sid_short lengths sid is

-- the fields of the header
pub header_length : (p : Parts) → length (header_bytes p) ≡ 20
unfolding header_bytes
header_length p = refl

-- a SID where its bytes stand
sid_stands : (field place : ℕ) (bytes rest : List ℕ) (sid : SidValue) → IsSid sid → 20 ≤ place → place ≤ length bytes →
    u32_at field bytes ≡ place → StandAt place bytes (bytes_of sid) rest → PointsToSid field bytes sid
sid_stands field place bytes rest sid is behind within points stands = record {
  inside = record { behind_header = omega arith; within = omega arith };
  spelled = record { is_sid = is; begin = (rest, ap (λ n. drop n bytes) points ∙ stands) };
}

sid_or_none_stands : (field place : ℕ) (bytes rest : List ℕ) (sid : Option SidValue) → IsSidOrNone sid → 20 ≤ place →
    place ≤ length bytes → u32_at field bytes ≡ offset_if (is_some sid) place →
    StandAt place bytes (sid_bytes sid) rest → SpellSidOrNone field bytes sid
unfolding sid_bytes
sid_or_none_stands field place bytes rest None is behind within points stands = points
sid_or_none_stands field place bytes rest (Some sid) is behind within points stands =
    sid_stands field place bytes rest sid is behind within points stands

list_stands : SidsHaveLengths → (place : ℕ) (bytes rest : List ℕ) (acl : Option (List Ace)) → IsList acl → 20 ≤ place →
    place ≤ length bytes → u16_at 2 bytes ≡ control_of acl → u32_at 16 bytes ≡ offset_if (is_some acl) place
    → StandAt place bytes (list_bytes acl) rest → SpellList bytes acl
unfolding list_bytes shares
list_stands lengths place bytes rest None is behind within control points stands =
    inl (ap (λ bits. shares bits se_dacl_present) control)
list_stands lengths place bytes rest (Some aces) is behind within control points stands = record {
  present = ap (λ bits. shares bits se_dacl_present) control;
  inside = record { behind_header = omega arith; within = omega arith };
  spelled = subst (λ (place : ℕ). SpellAcl place bytes aces) (sym points)
      (acl_stands lengths place bytes rest aces is.0 is.1 stands);
}

offset_fits : (there : Bool) (place : ℕ) → place < 2 ^ 32 → offset_if there place < 2 ^ 32
offset_fits false place fits = omega arith
offset_fits true place fits = fits

control_fits : (acl : Option (List Ace)) → control_of acl < 2 ^ 16
control_fits None = omega arith
control_fits (Some aces) = omega arith

control_relative : (acl : Option (List Ace)) → shares (control_of acl) se_self_relative ≡ true
unfolding shares
control_relative None = refl
control_relative (Some aces) = refl

-- where the parts after the owner begin
abbrev behind_owner : Parts → ℕ
behind_owner p = 20 + length (sid_bytes p.owner)

abbrev behind_group : Parts → ℕ
behind_group p = behind_owner p + length (sid_bytes p.group)

-- the fields of a written header
record AreFields (p : Parts) (bytes : List ℕ) : Type 0 where
  revision : slice_index bytes 0 ≡ 1
  control : u16_at 2 bytes ≡ control_of p.acl
  owner : u32_at 4 bytes ≡ offset_if (is_some p.owner) 20
  group : u32_at 8 bytes ≡ offset_if (is_some p.group) (behind_owner p)
  acl : u32_at 16 bytes ≡ offset_if (is_some p.acl) (behind_group p)

fields_stand : SidsHaveLengths → (p : Parts) (rest : List ℕ) → AreParts p → AreFields p (header_bytes p ++ rest)
unfolding header_bytes
fields_stand lengths p rest are =
    let owner = sid_or_none_short lengths p.owner are.owner in
    let group = sid_or_none_short lengths p.group are.group in
    let bytes = header_bytes p ++ rest in
    let there = is_some p.owner in
    let group_there = is_some p.group in
    let acl_there = is_some p.acl in
    record {
      revision = refl;
      control = u16_stands 2 (control_of p.acl) bytes _ (control_fits p.acl) refl;
      owner = u32_stands 4 (offset_if there 20) bytes _ (offset_fits there 20 (omega arith)) refl;
      group = u32_stands 8 (offset_if group_there (behind_owner p)) bytes _
          (offset_fits group_there (behind_owner p) (omega arith)) refl;
      acl = u32_stands 16 (offset_if acl_there (behind_group p)) bytes rest
          (offset_fits acl_there (behind_group p) (omega arith)) refl;
    }

pub written_is_spelled : SidsHaveLengths → (p : Parts) (rest : List ℕ) → AreParts p →
    SpellParts (parts_bytes p ++ rest) p
unfolding parts_bytes
written_is_spelled lengths p rest are =
    let owner = sid_bytes p.owner in
    let group = sid_bytes p.group in
    let list = list_bytes p.acl in
    let bytes = header_bytes p ++ (owner ++ (group ++ (list ++ rest))) in
    let same : bytes ≡ (header_bytes p ++ owner ++ group ++ list) ++ rest = simp append_assoc in
    let fields = fields_stand lengths p (owner ++ (group ++ (list ++ rest))) are in
    let twenty = header_length p in
    let long : length bytes ≡ 20 + length owner + length group + length list + length rest =
    omega (arith, length-append {A = ℕ}) in
    let at_owner : StandAt 20 bytes owner (group ++ (list ++ rest)) = ap (λ n. drop n bytes) (sym twenty)
    ∙ drop-append_seam (header_bytes p) (owner ++ (group ++ (list ++ rest))) in
    let at_group : StandAt (behind_owner p) bytes group (list ++ rest) =
    behind_part 20 bytes owner (group ++ (list ++ rest)) at_owner in
    let at_list : StandAt (behind_group p) bytes list rest =
    behind_part (behind_owner p) bytes group (list ++ rest) at_group in
    subst (λ (bytes : List ℕ). SpellParts bytes p) same (record {
      header = omega arith;
      revision = fields.revision;
      self_relative = ap (λ bits. shares bits se_self_relative) fields.control ∙ control_relative p.acl;
      owner = sid_or_none_stands 4 20 bytes (group ++ (list ++ rest)) p.owner are.owner (omega arith)
          (omega arith) fields.owner at_owner;
      group = sid_or_none_stands 8 (behind_owner p) bytes (list ++ rest) p.group are.group (omega arith)
          (omega arith) fields.group at_group;
      acl = list_stands lengths (behind_group p) bytes rest p.acl are.acl (omega arith)
          (omega arith) fields.control fields.acl at_list;
    })

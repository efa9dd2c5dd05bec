-- What is written of parts are bytes, fewer than 2^16.
use Rattle.std.proofs.Common.{◌≡◌, ℕ, zero, suc, ◌+◌, ◌^◌, ◌/◌, ◌%◌, ◌<◌, ◌≤◌, List, [], ◌∷◌, ◌++◌, length}
use Rattle.std.proofs.Common.{Option, Some, None, All, arith}
use Rattle.std.specs.Int.{w16, w32, to_le_bytes, byte_at, bytes_low_first, bytes_high_first}
use Rattle.std.proofs.lemmas.List.{length-append}
use Rattle.std.proofs.lemmas.List.Elements.{All-nil, All-cons, All-append, All-head, All-tail}
use Rattle.dtyp_sid.specs.Sids.{SidValue, IsSid, bytes_of, header_of, sub_bytes}
use Rattle.dtyp_sid.specs.Sids.{WrittenBytesHaveLengths as SidsHaveLengths}
use Rattle.dtyp_access.specs.declared.ace.Ace.{Ace}
use Rattle.dtyp_access.specs.declared.ace.AceKind.{AceKind}
use Rattle.dtyp_access.specs.declared.ace.AceKind.TheVariants.{Allow, Deny}
use Rattle.dtyp_access.specs.declared.parts.Parts.{Parts}
use Rattle.dtyp_access.specs.Parts.{IsAce, IsSidOrNone, IsList, type_of, ace_bytes, aces_bytes, acl_bytes, sid_bytes}
use Rattle.dtyp_access.specs.Parts.{list_bytes, header_bytes, parts_bytes, control_of, offset_if}
use Rattle.dtyp_access.specs.Spelled.{WrittenAreBytes}
use Rattle.std.specs.Prelude.{is_some}
use Rattle.dtyp_access.proofs.WrittenIsSpelled.{aces_short, sid_or_none_short, header_length}

abbrev AreBytes : List ℕ → Type 0
AreBytes bytes = All (λ byte. byte < 2 ^ 8) bytes

join : (xs ys : List ℕ) → AreBytes xs → AreBytes ys → AreBytes (xs ++ ys)
join xs ys first later = All-append (λ byte. byte < 2 ^ 8) xs ys first later

more : (byte : ℕ) (bytes : List ℕ) → byte < 2 ^ 8 → AreBytes bytes → AreBytes (byte ∷ bytes)
more byte bytes small all = All-cons (λ b. b < 2 ^ 8) byte bytes small all

none : AreBytes []
none = All-nil (λ byte. byte < 2 ^ 8)

-- ---- numbers

rest_small : (n : ℕ) → n % 256 < 2 ^ 8
rest_small n = omega arith

byte_small : (i n : ℕ) → byte_at i n < 2 ^ 8
byte_small zero n = rest_small n
byte_small (suc i) n = rest_small (n / 256 ^ suc i)

low_small : (i k n : ℕ) → AreBytes (bytes_low_first i k n)
low_small i zero n = none
low_small i (suc k) n = more (byte_at i n) (bytes_low_first (suc i) k n) (byte_small i n) (low_small (suc i) k n)

high_small : (k n : ℕ) → AreBytes (bytes_high_first k n)
high_small zero n = none
high_small (suc k) n = more (byte_at k n) (bytes_high_first k n) (byte_small k n) (high_small k n)

two_small : (n : ℕ) → AreBytes (to_le_bytes w16 n)
two_small n = low_small 0 2 n

four_small : (n : ℕ) → AreBytes (to_le_bytes w32 n)
four_small n = low_small 0 4 n

-- ---- SIDs

subs_small : (subs : List ℕ) → AreBytes (sub_bytes subs)
unfolding sub_bytes
subs_small [] = none
subs_small (s ∷ subs) = join (to_le_bytes w32 s) (sub_bytes subs) (four_small s) (subs_small subs)

sid_small : (sid : SidValue) → IsSid sid → AreBytes (bytes_of sid)
unfolding bytes_of header_of
sid_small sid is =
    let count : length sid.subs < 2 ^ 8 = (let few = is.count_fits in omega arith) in
    join (header_of sid) (sub_bytes sid.subs)
    (more 1 (length sid.subs ∷ bytes_high_first 6 sid.authority) (omega arith)
    (more (length sid.subs) (bytes_high_first 6 sid.authority) count (high_small 6 sid.authority)))
    (subs_small sid.subs)

sid_or_none_small : (sid : Option SidValue) → IsSidOrNone sid → AreBytes (sid_bytes sid)
unfolding sid_bytes
sid_or_none_small None is = none
sid_or_none_small (Some sid) is = sid_small sid is

-- ---- lists

type_small : (kind : AceKind) → type_of kind < 2 ^ 8
type_small Allow = omega arith
type_small Deny = omega arith

ace_small : (ace : Ace) → IsAce ace → AreBytes (ace_bytes ace)
unfolding ace_bytes
ace_small ace is =
    let size : ℕ = 8 + length (bytes_of ace.sid) in
    let granted : List ℕ = to_le_bytes w32 ace.mask ++ bytes_of ace.sid in
    join (type_of ace.kind ∷ ace.flags ∷ []) (to_le_bytes w16 size ++ granted)
    (more (type_of ace.kind) (ace.flags ∷ []) (type_small ace.kind) (more ace.flags [] is.flags_fit none))
    (join (to_le_bytes w16 size) granted (two_small size)
    (join (to_le_bytes w32 ace.mask) (bytes_of ace.sid) (four_small ace.mask) (sid_small ace.sid is.is_sid)))

aces_small : (aces : List Ace) → All IsAce aces → AreBytes (aces_bytes aces)
unfolding aces_bytes
aces_small [] are = none
aces_small (ace ∷ aces) are =
    join (ace_bytes ace) (aces_bytes aces) (ace_small ace (All-head IsAce ace aces are))
    (aces_small aces (All-tail IsAce ace aces are))

acl_small : (aces : List Ace) → All IsAce aces → AreBytes (acl_bytes aces)
unfolding acl_bytes
acl_small aces are =
    let size : ℕ = 8 + length (aces_bytes aces) in
    let entries : List ℕ = (0 ∷ 0 ∷ []) ++ aces_bytes aces in
    let counted : List ℕ = to_le_bytes w16 (length aces) ++ entries in
    join (2 ∷ 0 ∷ []) (to_le_bytes w16 size ++ counted)
    (more 2 (0 ∷ []) (omega arith) (more 0 [] (omega arith) none))
    (join (to_le_bytes w16 size) counted (two_small size)
    (join (to_le_bytes w16 (length aces)) entries (two_small (length aces))
    (join (0 ∷ 0 ∷ []) (aces_bytes aces) (more 0 (0 ∷ []) (omega arith) (more 0 [] (omega arith) none))
    (aces_small aces are))))

list_small : (acl : Option (List Ace)) → IsList acl → AreBytes (list_bytes acl)
unfolding list_bytes
list_small None is = none
list_small (Some aces) is = acl_small aces is.0

-- ---- the whole

header_small : (p : Parts) → AreBytes (header_bytes p)
unfolding header_bytes
header_small p =
    let owner : ℕ = offset_if (is_some p.owner) 20 in
    let group : ℕ = offset_if (is_some p.group) (20 + length (sid_bytes p.owner)) in
    let list : ℕ = offset_if (is_some p.acl) (20 + length (sid_bytes p.owner) + length (sid_bytes p.group)) in
    let lists : List ℕ = to_le_bytes w32 0 ++ to_le_bytes w32 list in
    let groups : List ℕ = to_le_bytes w32 group ++ lists in
    let owners : List ℕ = to_le_bytes w32 owner ++ groups in
    join (1 ∷ 0 ∷ []) (to_le_bytes w16 (control_of p.acl) ++ owners)
    (more 1 (0 ∷ []) (omega arith) (more 0 [] (omega arith) none))
    (join (to_le_bytes w16 (control_of p.acl)) owners (two_small (control_of p.acl))
    (join (to_le_bytes w32 owner) groups (four_small owner) (join (to_le_bytes w32 group) lists (four_small group)
    (join (to_le_bytes w32 0) (to_le_bytes w32 list) (four_small 0) (four_small list)))))

list_short : SidsHaveLengths → (acl : Option (List Ace)) → IsList acl → length (list_bytes acl) ≤ 60808
unfolding list_bytes acl_bytes
list_short lengths None is = omega arith
list_short lengths (Some aces) is =
    let short = aces_short lengths aces is.0 in
    let few = is.1 in
    omega arith

pub are_bytes : SidsHaveLengths → WrittenAreBytes
unfolding parts_bytes
are_bytes lengths p are =
    let header = header_length p in
    let owner = sid_or_none_short lengths p.owner are.owner in
    let group = sid_or_none_short lengths p.group are.group in
    let list = list_short lengths p.acl are.acl in
    let owned : List ℕ = header_bytes p ++ sid_bytes p.owner in
    let grouped : List ℕ = owned ++ sid_bytes p.group in
    let first : length owned ≡ length (header_bytes p) + length (sid_bytes p.owner) =
    length-append (header_bytes p) (sid_bytes p.owner) in
    let second : length grouped ≡ length owned + length (sid_bytes p.group) = length-append owned (sid_bytes p.group) in
    let all : length (parts_bytes p) ≡ length grouped + length (list_bytes p.acl) =
    length-append grouped (list_bytes p.acl) in
    record {
      short = omega arith;
      small = join grouped (list_bytes p.acl)
          (join owned (sid_bytes p.group)
          (join (header_bytes p) (sid_bytes p.owner) (header_small p) (sid_or_none_small p.owner are.owner))
          (sid_or_none_small p.group are.group))
          (list_small p.acl are.acl);
    }

-- An array of smalls is their heads alone: what is read or written at once. And the laws of descriptors.
use Rattle.std.proofs.Common.{◌≡◌, ℕ, List, [], ◌∷◌, length, map, Result, Ok, Err, refl, ap, ◌∙◌}
use Rattle.ndr_core.specs.declared.error.NdrError.{NdrError}
use Rattle.ndr_core.specs.Cursor.{Cursor, ◌>>=◌, bytes_at, done, second, IsBytes, Written, put_bytes}
use Rattle.ndr_core.specs.Shapes.{u8, given}
use Rattle.ndr_core.specs.Parts.{array, each, flat, pointer_to, times, whole}
use Rattle.ndr_core.proofs.Bytes.{read_at_once, written_at_once}
use Rattle.ndr_core.proofs.Complete.{IsComplete, u8_complete}
use Rattle.ndr_core.proofs.Loop.{first_read}
use Rattle.acct_layouts.specs.Values.{IfThere, IsSmall}
use Rattle.ndr_types.proofs.Arrays.{map_same}
use Rattle.ndr_types.proofs.Onward.{Takes, any_size, list_onward, takes_flat, takes_pointer_to, takes_u8, takes_whole}
use Rattle.ndr_types.proofs.Parts.{Has, flat_has, whole_complete}
use Rattle.ndr_types.proofs.Records.{pointer_has}
use Rattle.ndr_types.proofs.ShapeValues.{list_complete, list_values, whole_values}
use Rattle.ndr_types.specs.Listed.{any, descriptor, descriptor_pointer}
use Rattle.ndr_types.specs.Laws.{HasValues, IsListOf}

-- ---- elements without tails

-- what has no tails reads no more
no_tails : {A : Type 0} (xs : List A) (c : Cursor) → (each given xs).read c ≡ done xs c
unfolding each
no_tails [] c = refl
no_tails (x ∷ xs) c = first_read (given x) (each given xs) c c x refl ∙ rw (no_tails xs c) refl

heads_alone : {A : Type 0} (heads : Result (List A × Cursor) NdrError)
    → ((heads >>= λ p. (each given p.0).read p.1 >>= λ q. done {A = List A × List A} (p.0, q.0) q.1)
    >>= λ r. done (second r.0) r.1)
    ≡ heads
heads_alone (Ok (xs, c)) = rw (no_tails xs c) refl
heads_alone (Err e) = refl

pub array_read : (count : ℕ) (c : Cursor) → (whole (array count (flat u8))).read c ≡ bytes_at count c
array_read count c = heads_alone ((times count u8).read c) ∙ read_at_once count c

nothing_more : {A : Type 0} (xs ys : List A) (o : Written) → (each given xs).write ys o ≡ o
unfolding each
nothing_more [] ys o = refl
nothing_more (x ∷ xs) [] o = refl
nothing_more (x ∷ xs) (y ∷ ys) o = nothing_more xs ys o

pub array_write : (bytes : List ℕ) (o : Written) → IsBytes bytes
    → (whole (array (length bytes) (flat u8))).write bytes o ≡ put_bytes bytes o
array_write bytes o are =
    let smalls = times (length bytes) u8 in
    nothing_more (map (λ x. x) bytes) bytes (smalls.write (map (λ x. x) bytes) o)
    ∙ ap (λ (xs : List ℕ). smalls.write xs o) (map_same bytes)
    ∙ written_at_once bytes o are

-- ---- the laws of descriptors

small_has : Has (flat u8) IsSmall
small_has = flat_has u8 (λ n h. h) (λ n h. h) u8_complete

pub descriptor_values : (most : ℕ) → HasValues (descriptor most) (IsListOf most IsSmall)
unfolding descriptor
descriptor_values most = list_values most (flat u8) small_has

pub descriptor_complete : (most : ℕ) → IsComplete (descriptor most)
unfolding descriptor
descriptor_complete most = list_complete most (flat u8) small_has

pub descriptor_onward : (most : ℕ) → Takes 0 (descriptor most)
unfolding descriptor
descriptor_onward most = list_onward most (flat u8) (takes_flat u8 (any_size 1 takes_u8))

pointed_has : Has (pointer_to (descriptor any)) (IfThere (IsListOf any IsSmall))
pointed_has =
    pointer_has {P = IsListOf any IsSmall} (descriptor any) (λ bytes. (descriptor_values any bytes).1)
    (λ bytes. (descriptor_values any bytes).0) (descriptor_complete any)

pub descriptor_pointer_values : HasValues descriptor_pointer (IfThere (IsListOf any IsSmall))
unfolding descriptor_pointer
descriptor_pointer_values = whole_values (pointer_to (descriptor any)) pointed_has

pub descriptor_pointer_complete : IsComplete descriptor_pointer
unfolding descriptor_pointer
descriptor_pointer_complete = whole_complete (pointer_to (descriptor any)) pointed_has

pub descriptor_pointer_onward : Takes 0 descriptor_pointer
unfolding descriptor_pointer
descriptor_pointer_onward =
    takes_whole (pointer_to (descriptor any)) (takes_pointer_to (descriptor any) (descriptor_onward any))

-- Bytes that are read or written at once are as many smalls.
use Rattle.std.proofs.Common.{◌≡◌, ℕ, zero, suc, ◌+◌, ◌-◌, ◌%◌, ◌<◌, ltb, Bool, true, false, List, [], ◌∷◌, length}
use Rattle.std.proofs.Common.{take, drop, Result, Ok, Err, inl, inr, refl, sym, ap, ◌∙◌, append_assoc, arith}
use Rattle.std.specs.Prelude.{if◌then◌else◌}
use Rattle.std.specs.Int.{w8, byte_len, from_le_bytes}
use Rattle.std.proofs.lemmas.Bool.{cases_lt, lt-ltb, le-ltb}
use Rattle.std.proofs.lemmas.List.{append-nil, drop-drop, length-drop}
use Rattle.std.proofs.lemmas.List.Elements.{All-tail}
use Rattle.ndr_core.specs.declared.error.NdrError.{NdrError}
use Rattle.ndr_core.specs.declared.error.NdrError.TheVariants.{Short}
use Rattle.ndr_core.specs.Bytes.{AreReadAtOnce, AreWrittenAtOnce}
use Rattle.ndr_core.specs.Cursor.{Cursor, ◌>>=◌, aligned, done, left, IsByte, Written, put_bytes, put_number}
use Rattle.ndr_core.specs.Parts.{times}
use Rattle.ndr_core.specs.Shapes.{u8}
use Rattle.ndr_core.proofs.Loop.{first_read}

-- ---- reading

-- a small that is read where the reading stands at this place
abbrev small_at : Cursor → ℕ → Result (ℕ × Cursor) NdrError
small_at c start =
    if ltb (length c.stub) (start + 1) then Err (Short start)
    else Ok (from_le_bytes w8 (take 1 (drop start c.stub)), record { stub = c.stub; place = start + 1 })

unpadded : (c : Cursor) → u8.read c ≡ small_at c c.place
unpadded c = let a : aligned (byte_len w8) c.place ≡ c.place = omega arith in ap (small_at c) a

no_small : (c : Cursor) → left c ≡ [] → u8.read c ≡ Err (Short c.place)
no_small c e =
    let n = length-drop c.place c.stub in
    let short : ltb (length c.stub) (c.place + 1) ≡ true = lt-ltb _ _ (omega (arith, n, ap length e)) in
    unpadded c ∙ rw short refl

-- the place after one small
abbrev next : Cursor → Cursor
next c = record { stub = c.stub; place = c.place + 1 }

one_small : (c : Cursor) (b : ℕ) (rest : List ℕ) → left c ≡ b ∷ rest → u8.read c ≡ Ok (b, next c)
one_small c b rest e =
    let n = length-drop c.place c.stub in
    let long : ltb (length c.stub) (c.place + 1) ≡ false = le-ltb _ _ (omega (arith, n, ap length e)) in
    unpadded c ∙ rw (long, e) refl

after_one : (c : Cursor) (b : ℕ) (rest : List ℕ) → left c ≡ b ∷ rest → left (next c) ≡ rest
after_one c b rest e = sym (drop-drop 1 c.place c.stub) ∙ ap (drop 1) e

-- so many bytes, or, where there are fewer, the place after the last
abbrev sliced : Bool → List ℕ → List ℕ → ℕ → ℕ → ℕ → Result (List ℕ × Cursor) NdrError
sliced fewer bytes stub place count size =
    if fewer then Err (Short (place + size)) else Ok (bytes, record { stub = stub; place = place + count })

abbrev slice : ℕ → List ℕ → Cursor → Result (List ℕ × Cursor) NdrError
slice count rest c = sliced (ltb (length rest) count) (take count rest) c.stub c.place count (length rest)

abbrev put_first : ℕ → Result (List ℕ × Cursor) NdrError → Result (List ℕ × Cursor) NdrError
put_first b read = read >>= λ r. done (b ∷ r.0) r.1

joined : (fewer : Bool) (b : ℕ) (bytes stub : List ℕ) (place count size : ℕ)
    → put_first b (sliced fewer bytes stub (place + 1) count size)
    ≡ sliced fewer (b ∷ bytes) stub place (suc count) (suc size)
joined true b bytes stub place count size =
    let e : place + 1 + size ≡ place + suc size = omega arith in rw e refl
joined false b bytes stub place count size =
    let e : place + 1 + count ≡ place + suc count = omega arith in rw e refl

one_more : (a b : ℕ) → ltb a b ≡ ltb (suc a) (suc b)
one_more a b =
    elim (cases_lt a b) [
      | inl lt ↦ lt-ltb a b lt ∙ sym (lt-ltb (suc a) (suc b) (omega (arith, lt)))
      | inr le ↦ le-ltb a b le ∙ sym (le-ltb (suc a) (suc b) (omega (arith, le)))
    ]

smalls : (count : ℕ) (rest : List ℕ) (c : Cursor) → left c ≡ rest → (times count u8).read c ≡ slice count rest c
unfolding times
smalls zero rest c e =
    let all : ltb (length rest) 0 ≡ false = le-ltb _ _ (omega arith) in
    let stays : c.place + 0 ≡ c.place = omega arith in
    rw (all, stays) refl
smalls (suc n) [] c e =
    let fewer : ltb 0 (suc n) ≡ true = lt-ltb _ _ (omega arith) in
    let stays : c.place + 0 ≡ c.place = omega arith in
    rw (no_small c e, fewer, stays) refl
smalls (suc n) (b ∷ rest) c e =
    first_read u8 (times n u8) c (next c) b (one_small c b rest e)
    ∙ ap (put_first b) (smalls n rest (next c) (after_one c b rest e))
    ∙ joined (ltb (length rest) n) b (take n rest) c.stub c.place n (length rest)
    ∙ ap (λ (fewer : Bool). sliced fewer (b ∷ take n rest) c.stub c.place (suc n) (suc (length rest)))
    (one_more (length rest) n)

pub read_at_once : AreReadAtOnce
read_at_once count c = smalls count (left c) c refl

-- ---- writing

small_put : (b : ℕ) (o : Written) → b < 256 → put_number w8 b o ≡ put_bytes (b ∷ []) o
small_put b o lt =
    let none : aligned (byte_len w8) (length o.bytes) - length o.bytes ≡ 0 = omega arith in
    let same : b % 256 ≡ b = omega (arith, lt) in
    rw (none, same, append-nil o.bytes) refl

pub written_at_once : AreWrittenAtOnce
unfolding times
written_at_once [] o h = rw (append-nil o.bytes) refl
written_at_once (b ∷ bytes) o h =
    written_at_once bytes (put_number w8 b o) (All-tail IsByte b bytes h)
    ∙ ap (put_bytes bytes) (small_put b o (h 0 b (omega arith)))
    ∙ ap (λ (all : List ℕ). let w : Written = record { bytes = all; pointers = o.pointers } in w)
    (append_assoc o.bytes (b ∷ []) bytes)

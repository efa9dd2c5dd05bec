-- The shapes that all others are made of. Each is a value: a row of a table, or a structure, is written by these words
-- as it stands in the IDL, from left to right, and has its laws with it.
use Rattle.std.proofs.Common.{◌≡◌, ℕ, ◌^◌, ◌<◌, Bool, true, [], ◌++◌, length, replicate, ◌-◌, nat_le, Err, refl, sym}
use Rattle.std.proofs.Common.{ap, ◌∙◌}
use Rattle.std.proofs.lemmas.List.{append-nil}
use Rattle.std.specs.Int.{Width, w8, w16, w32}
use Rattle.ndr_core.specs.Cursor.{Cursor, broken, done, aligned, aligned_cursor, number_at, testing, making, both}
use Rattle.ndr_core.specs.Cursor.{is_there, pointer_at, is_zero, second, put_number, put_padding, put_pointer}
use Rattle.ndr_core.specs.Codec.{Codec, behind}
use Rattle.ndr_core.specs.Numbers.{Number, IsNarrow, narrow8, narrow16, narrow32, number_found, number_only}
use Rattle.ndr_core.specs.Numbers.{number_grows, number_bytes, number_spelled, padded_bytes}
use Rattle.ndr_core.specs.steps.Laws.{such_found, such_only, given_found, given_only, unspelled_found, chain_found}
use Rattle.ndr_core.specs.steps.Laws.{chain_only, grows_on, spelled_before, made_found, made_only, pointer_grows}
use Rattle.ndr_core.specs.steps.Laws.{pointer_bytes, pointer_spelled, padding_spelled, padding_found}

-- ---- numbers: padding to the size, and the number, little-endian

abbrev number : (w : Width) (limit : ℕ) → IsNarrow w limit → Codec ℕ
number w limit narrow = record {
  read = number_at w;
  Spells = Number w;
  Fits = λ n. n < limit;
  write = put_number w;
  found = λ c d n. number_found w c d n;
  only = λ c d n. number_only w c d n;
  stays = λ c d n h. ap (λ (k : Cursor). k.stub) h.ends;
  grows = number_grows w;
  bytes = number_bytes w limit narrow;
  spelled = number_spelled w limit narrow;
}

-- small, short and long, unsigned
abbrev pub u8 : Codec ℕ
u8 = number w8 256 narrow8

abbrev pub u16 : Codec ℕ
u16 = number w16 (2 ^ 16) narrow16

abbrev pub u32 : Codec ℕ
u32 = number w32 (2 ^ 32) narrow32

-- a pointer: whether it isn't null. Any referent but 0 spells it, and the next one is written
abbrev pub pointer : Codec Bool
pointer = record {
  read = pointer_at;
  Spells = λ b c d. (n : ℕ) × Number w32 n c d × (is_there n ≡ b);
  Fits = λ b. Unit {0};
  write = put_pointer;
  found = λ c d b e. made_found u32 is_there c d b e;
  only = λ c d b h. made_only u32 is_there c d b h;
  stays = λ c d b h. ap (λ (k : Cursor). k.stub) h.1.ends;
  grows = pointer_grows;
  bytes = pointer_bytes;
  spelled = λ b o rest h. pointer_spelled b o rest;
}

-- padding to four of its own: any bytes, also past the end
abbrev pub padding4 : Codec (Unit {0})
padding4 = record {
  read = λ c. done tt (aligned_cursor 4 c);
  Spells = λ u c d. d ≡ aligned_cursor 4 c;
  Fits = λ u. Unit {0};
  write = λ u o. put_padding 4 o;
  found = λ c d u e. padding_found c d u e;
  only = λ c d u h. ap (λ (z : Cursor). done u z) (sym h);
  stays = λ c d u h. ap (λ (k : Cursor). k.stub) h;
  grows = λ u o. (replicate (aligned 4 (length o.bytes) - length o.bytes) 0, refl);
  bytes = λ u o h. padded_bytes 4 o.bytes h;
  spelled = λ u o rest h. padding_spelled o rest;
}

-- ---- a rule of a shape: a value that passes a test. Where it fails, the number that was read last, of this size, is
-- the bad place

abbrev pub such : {A : Type 0} → ℕ → (A → Bool) → Codec A → Codec A
such size test a = record {
  read = testing size test a.read;
  Spells = λ x c d. a.Spells x c d × (test x ≡ true);
  Fits = λ x. a.Fits x × (test x ≡ true);
  write = a.write;
  found = λ c d x e. such_found size test a c d x e;
  only = λ c d x h. such_only size test a c d x h;
  stays = λ c d x h. a.stays c d x h.0;
  grows = a.grows;
  bytes = a.bytes;
  spelled = λ x o rest h. (a.spelled x o rest h.0, h.1);
}

abbrev pub u8_such : (ℕ → Bool) → Codec ℕ
u8_such test = such 1 test u8

abbrev pub u16_such : (ℕ → Bool) → Codec ℕ
u16_such test = such 2 test u16

abbrev pub u32_such : (ℕ → Bool) → Codec ℕ
u32_such test = such 4 test u32

abbrev pub pointer_such : (Bool → Bool) → Codec Bool
pointer_such test = such 4 test pointer

-- ---- no bytes, which spell this value alone

abbrev pub given : {A : Type 0} → A → Codec A
given a = record {
  read = done a;
  Spells = λ b c d. (b ≡ a) × (d ≡ c);
  Fits = λ b. b ≡ a;
  write = λ b o. o;
  found = λ c d b e. given_found a b c d e;
  only = λ c d b h. given_only a b c d h;
  stays = λ c d b h. ap (λ (k : Cursor). k.stub) h.1;
  grows = λ b o. ([], sym (append-nil o.bytes));
  bytes = λ b o h. h;
  spelled = λ b o rest h. (h, refl);
}

-- ---- what nothing spells: no value is read here

abbrev pub unspelled : {A : Type 0} → Codec A
unspelled {A = A} = record {
  read = λ c. Err (broken 0 c);
  Spells = λ x c d. ⊥;
  Fits = λ x. ⊥;
  write = λ x o. o;
  found = λ c d x e. unspelled_found c d x e;
  only = λ c d x h. absurd h;
  stays = λ c d x h. absurd h;
  grows = λ x o. ([], sym (append-nil o.bytes));
  bytes = λ x o h. h;
  spelled = λ x o rest h. absurd h;
}

-- ---- one field and then another, whose shape may depend on the first

abbrev pub chain : {A B : Type 0} → Codec A → (A → Codec B) → Codec (A × B)
chain a b = record {
  read = both a.read (λ y. (b y).read);
  Spells = λ x c d. (m : Cursor) × a.Spells x.0 c m × (b x.0).Spells x.1 m d;
  Fits = λ x. a.Fits x.0 × (b x.0).Fits x.1;
  write = λ x o. (b x.0).write x.1 (a.write x.0 o);
  found = λ c d x e. chain_found a b c d x e;
  only = λ c d x h. chain_only a b c d x h;
  stays = λ c d x h. (b x.0).stays h.0 d x.1 h.2 ∙ a.stays c h.0 x.0 h.1;
  grows = λ x o. grows_on o (a.write x.0 o) ((b x.0).write x.1 (a.write x.0 o)) (a.grows x.0 o)
      ((b x.0).grows x.1 (a.write x.0 o));
  bytes = λ x o h. (b x.0).bytes x.1 (a.write x.0 o) (a.bytes x.0 o h);
  spelled = λ x o rest h. (
    behind (a.write x.0 o)
        (((b x.0).write x.1 (a.write x.0 o)).bytes ++ rest),
    spelled_before a x.0 o
        ((b x.0).write x.1 (a.write x.0 o)) rest h.0 ((b x.0).grows x.1 (a.write x.0 o)),
    (b x.0).spelled x.1
        (a.write x.0 o) rest h.1,
  );
}

-- ---- the value that `make` gives of what is read; for a value, its `parts` are written

abbrev pub made : {A B : Type 0} → (A → B) → (B → A) → Codec A → Codec B
made make parts a = record {
  read = making make a.read;
  Spells = λ y c d. (x : _) × a.Spells x c d × (make x ≡ y);
  Fits = λ y. a.Fits (parts y) × (make (parts y) ≡ y);
  write = λ y o. a.write (parts y) o;
  found = λ c d y e. made_found a make c d y e;
  only = λ c d y h. made_only a make c d y h;
  stays = λ c d y h. a.stays c d h.0 h.1;
  grows = λ y o. a.grows (parts y) o;
  bytes = λ y o h. a.bytes (parts y) o h;
  spelled = λ y o rest h. (parts y, a.spelled (parts y) o rest h.0, h.1);
}

-- ---- a field of which only the shape after it knows, as a count; `parts` says what is written for it

abbrev pub led_by : {A B : Type 0} → (B → A) → Codec A → (A → Codec B) → Codec B
led_by parts a f = made second (λ b. (parts b, b)) (chain a f)

-- a field that isn't kept, written as w, and then b
abbrev pub ignored : {A B : Type 0} → A → Codec A → Codec B → Codec B
ignored w a b = led_by (λ _. w) a (λ _. b)

-- a value, and after it a field that isn't kept, written as w
abbrev pub followed : {A B : Type 0} → B → Codec B → Codec A → Codec A
followed w b a = made (λ x. x.0) (λ x. (x, w)) (chain a (λ _. b))

-- the actual count of a varying array, after the offset 0: at most so many
abbrev pub varying : ℕ → Codec ℕ
varying most = ignored 0 (u32_such is_zero) (u32_such (λ n. nat_le n most))

-- the maximum count of a conformant array
abbrev pub conformant : Codec ℕ
conformant = u32

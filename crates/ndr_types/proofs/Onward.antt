-- Reading goes onward: of each shape, from those that it is made of.
use Rattle.std.proofs.Common.{ℕ, zero, suc, ◌+◌, ◌*◌, ◌/◌, ◌%◌, ◌≤◌, Bool, true, false, cond, List, [], ◌∷◌, length}
use Rattle.std.proofs.Common.{None, Result, Ok, Err, arith}
use Rattle.std.specs.Int.{Width, w8, w16, w32, byte_len}
use Rattle.ndr_core.specs.declared.error.NdrError.{NdrError}
use Rattle.ndr_core.specs.declared.error.NdrError.TheVariants.{Short, Count, Memory}
use Rattle.ndr_core.specs.Cursor.{Cursor, ◌>>=◌, done, broken, number_start, number_there, after_number, second}
use Rattle.ndr_core.specs.Cursor.{is_zero, is_there, test_passed}
use Rattle.ndr_core.specs.Codec.{Codec}
use Rattle.ndr_core.specs.Shapes.{u8, u16, u32, u32_such, such, given, chain, made, led_by, ignored, followed, padding4}
use Rattle.ndr_core.specs.Shapes.{pointer, varying}
use Rattle.ndr_core.specs.Parts.{Part, whole, cons, each, times, array, join, flat, part_of, front_of, some_of}
use Rattle.ndr_core.specs.Parts.{when_there, pointer_to, there, list, list_of, list_tail}
use Rattle.ndr_types.specs.Listed.{any, rid_name, rid_name_of, parts_of_rid_name, rid_names}
use Rattle.ndr_types.specs.Values.{then_small, then_short, uuid, handle, handle_of, rid_list, sid_list, text_list}
use Rattle.ndr_types.specs.Values.{privilege, privilege_of, parts_of_privilege, privilege_set, authority, sid, sid_of}
use Rattle.ndr_types.specs.Values.{parts_of_sid, sid_pointer, text, text_tail, units}
use Rattle.ndr_types.specs.Translations.{place, place_of, parts_of_place, first, with_entries, places, referenced}
use Rattle.ndr_types.specs.Laws.{Onward, GoesOnward}

-- what is read has so many bytes at least
pub record Takes {A : Type 0} (size : ℕ) (a : Codec A) : Type 0 where
  pub onward : (c : Cursor) → Onward c.place size (a.read c)

-- ---- numbers

numbered : (w : Width) (c : Cursor) (b : Bool) → c.place ≤ number_start w c
    → Onward {A = ℕ} c.place (byte_len w)
    (cond b (Err (Short (number_start w c))) (Ok (number_there w c, after_number w c)))
numbered w c true up = up
numbered w c false up = omega (arith, up)

pub takes_u8 : Takes 1 u8
takes_u8 = record { onward = λ c. numbered w8 c _ (omega arith) }

pub takes_u16 : Takes 2 u16
takes_u16 = record { onward = λ c. numbered w16 c _ (omega arith) }

pub takes_u32 : Takes 4 u32
takes_u32 = record { onward = λ c. numbered w32 c _ (omega arith) }

-- ---- combinations

weaker : {A : Type 0} (start size less : ℕ) (r : Result (A × Cursor) NdrError) → less ≤ size → Onward start size r
    → Onward start less r
weaker start size less (Ok x) le h = omega (arith, le, h)
weaker start size less (Err (Short p)) le h = h
weaker start size less (Err (Count p)) le h = h
weaker start size less (Err Memory) le h = h

from_behind : {A : Type 0} (start behind : ℕ) (size : ℕ) (r : Result (A × Cursor) NdrError) → start + size ≤ behind
    → Onward behind 0 r → Onward start size r
from_behind start behind size (Ok x) le h = omega (arith, le, h)
from_behind start behind size (Err (Short p)) le h = omega (arith, le, h)
from_behind start behind size (Err (Count p)) le h = omega (arith, le, h)
from_behind start behind size (Err Memory) le h = h

then_onward : {A B : Type 0} (start size : ℕ) (r : Result (A × Cursor) NdrError)
    (f : A × Cursor → Result (B × Cursor) NdrError) → Onward start size r
    → ((x : A × Cursor) → Onward x.1.place 0 (f x)) → Onward start size (r >>= f)
then_onward start size (Ok x) f h g = from_behind start x.1.place size (f x) h (g x)
then_onward start size (Err (Short p)) f h g = h
then_onward start size (Err (Count p)) f h g = h
then_onward start size (Err Memory) f h g = h

done_onward : {A : Type 0} (a : A) (c : Cursor) → Onward c.place 0 (done a c)
done_onward a c = omega arith

pub takes_chain : {A B : Type 0} (size : ℕ) {a : Codec A} {b : A → Codec B} → Takes size a → ((x : A) → Takes 0 (b x))
    → Takes size (chain a b)
takes_chain {A = A} {B = B} size {a = a} {b = b} p q = record {
  onward = λ c.
      then_onward c.place size (a.read c) (λ x. (b x.0).read x.1 >>= λ y. done {A = A × B} (x.0, y.0) y.1) (p.onward c)
      (λ x. then_onward x.1.place 0 ((b x.0).read x.1) (λ y. done {A = A × B} (x.0, y.0) y.1) ((q x.0).onward x.1)
      (λ y. done_onward {A = A × B} (x.0, y.0) y.1));
}

pub takes_made : {A B : Type 0} (size : ℕ) (make : A → B) (parts : B → A) {a : Codec A} → Takes size a
    → Takes size (made make parts a)
takes_made size make parts {a = a} p =
    record {
      onward = λ c. then_onward c.place size (a.read c) (λ x. done (make x.0) x.1) (p.onward c)
          (λ x. done_onward (make x.0) x.1);
    }

pub takes_led_by : {A B : Type 0} (size : ℕ) (parts : B → A) {a : Codec A} {f : A → Codec B} → Takes size a
    → ((x : A) → Takes 0 (f x)) → Takes size (led_by parts a f)
takes_led_by {A = A} {B = B} size parts p q = takes_made size second (λ b. (parts b, b)) (takes_chain size p q)

pub takes_ignored : {A B : Type 0} (size : ℕ) (w : A) {a : Codec A} {b : Codec B} → Takes size a → Takes 0 b
    → Takes size (ignored w a b)
takes_ignored size w p q = takes_led_by size (λ _. w) p (λ x. q)

tested : {A : Type 0} (start size : ℕ) (b : Bool) (x : A × Cursor) → start + size ≤ x.1.place
    → Onward start size (cond b (Ok x) (Err (broken size x.1)))
tested start size true x h = h
tested start size false x h = omega (arith, h)

testing_onward : {A : Type 0} (start size : ℕ) (test : A → Bool) (r : Result (A × Cursor) NdrError)
    → Onward start size r → Onward start size (r >>= test_passed size test)
testing_onward start size test (Ok x) h = tested start size (test x.0) x h
testing_onward start size test (Err (Short p)) h = h
testing_onward start size test (Err (Count p)) h = h
testing_onward start size test (Err Memory) h = h

pub takes_such : {A : Type 0} (size : ℕ) (test : A → Bool) {a : Codec A} → Takes size a → Takes size (such size test a)
takes_such size test {a = a} p = record { onward = λ c. testing_onward c.place size test (a.read c) (p.onward c) }

pub takes_pointer : Takes 4 pointer
takes_pointer = record {
  onward =
      λ c. then_onward c.place 4 (u32.read c) (λ x. done (is_there x.0) x.1) (takes_u32.onward c)
      (λ x. done_onward (is_there x.0) x.1);
}

pub any_size : {A : Type 0} (size : ℕ) {a : Codec A} → Takes size a → Takes 0 a
any_size size {a = a} p = record { onward = λ c. weaker c.place size 0 (a.read c) (omega arith) (p.onward c) }

-- a number, whatever its size is
pub long : Takes 0 u32
long = any_size 4 takes_u32

pub short : Takes 0 u16
short = any_size 2 takes_u16

pub such_long : (test : ℕ → Bool) → Takes 0 (u32_such test)
such_long test = any_size 4 (takes_such 4 test takes_u32)

pub takes_padding : Takes 0 padding4
takes_padding = record { onward = λ c. omega arith }

pub takes_followed : {A B : Type 0} (w : B) {b : Codec B} {a : Codec A} → Takes 0 a → Takes 0 b
    → Takes 0 (followed w b a)
takes_followed {A = A} {B = B} w {b = b} {a = a} p q =
    takes_made 0 (λ (x : A × B). x.0) (λ x. (x, w)) (takes_chain 0 {a = a} {b = λ _. b} p (λ x. q))

pub takes_varying : (most : ℕ) → Takes 4 (varying most)
takes_varying most = takes_ignored 4 0 (takes_such 4 is_zero takes_u32) (any_size 4 (takes_such 4 _ takes_u32))

pub takes_given : {A : Type 0} (a : A) → Takes 0 (given a)
takes_given a = record { onward = done_onward a }

takes_cons : {A : Type 0} {a : Codec A} {b : Codec (List A)} → Takes 0 a → Takes 0 b → Takes 0 (cons a b)
takes_cons {a = a} {b = b} p q =
    record {
      onward = λ c. then_onward c.place 0 ((chain a (λ _. b)).read c) (λ x. done (front_of x.0) x.1)
          ((takes_chain 0 {a = a} {b = λ _. b} p (λ x. q)).onward c) (λ x. done_onward (front_of x.0) x.1);
    }

pub takes_times : {A : Type 0} (n : ℕ) {a : Codec A} → Takes 0 a → Takes 0 (times n a)
unfolding times
takes_times zero p = takes_given []
takes_times (suc n) p = takes_cons p (takes_times n p)

takes_each : {S A : Type 0} (f : S → Codec A) (ss : List S) → ((s : S) → Takes 0 (f s)) → Takes 0 (each f ss)
unfolding each
takes_each f [] p = takes_given []
takes_each f (s ∷ ss) p = takes_cons (p s) (takes_each f ss p)

-- ---- parts

pub record TakesPart {S A : Type 0} (p : Part S A) : Type 0 where
  pub head : Takes 0 p.head
  pub tail : (s : S) → Takes 0 (p.tail s)

pub takes_whole : {S A : Type 0} (p : Part S A) → TakesPart p → Takes 0 (whole p)
takes_whole p q = takes_led_by 0 p.head_of q.head q.tail

pub takes_array : {S A : Type 0} (n : ℕ) (p : Part S A) → TakesPart p → TakesPart (array n p)
takes_array n p q = record { head = takes_times n q.head; tail = λ ss. takes_each p.tail ss q.tail }

pub takes_join : {S T A B : Type 0} (p : Part S A) (q : Part T B) → TakesPart p → TakesPart q → TakesPart (join p q)
takes_join p q f g = record
    { head = takes_chain 0 f.head (λ x. g.head); tail = λ s. takes_chain 0 (f.tail s.0) (λ x. g.tail s.1) }

pub takes_flat : {A : Type 0} (a : Codec A) → Takes 0 a → TakesPart (flat a)
takes_flat a p = record { head = p; tail = takes_given }

pub takes_part_of : {S A B : Type 0} (make : A → B) (parts : B → A) (p : Part S A) → TakesPart p
    → TakesPart (part_of make parts p)
takes_part_of make parts p q = record { head = q.head; tail = λ s. takes_made 0 make parts (q.tail s) }

pub takes_some : {A : Type 0} {a : Codec A} → Takes 0 a → (b : Bool) → Takes 0 (when_there b a)
takes_some {a = a} p true =
    record {
      onward = λ c. then_onward c.place 0 (a.read c) (λ x. done (some_of x.0) x.1) (p.onward c)
          (λ x. done_onward (some_of x.0) x.1);
    }
takes_some p false = takes_given None

pub takes_pointer_to : {A : Type 0} (a : Codec A) → Takes 0 a → TakesPart (pointer_to a)
takes_pointer_to a p = record { head = any_size 4 takes_pointer; tail = λ b. takes_some p b }

takes_there : {A : Type 0} (a : Codec A) → Takes 0 a → TakesPart (there a)
takes_there a p = record { head = any_size 4 (takes_such 4 _ takes_pointer); tail = λ b. p }

takes_list_tail : {S A : Type 0} (p : Part S A) → TakesPart p → (s : ℕ × Bool) → Takes 0 (list_tail p s)
takes_list_tail p q (n, true) =
    takes_ignored 0 n (any_size 4 (takes_such 4 _ takes_u32)) (takes_whole (array n p) (takes_array n p q))
takes_list_tail p q (n, false) = takes_given []

pub takes_list : {S A : Type 0} (most : ℕ) (p : Part S A) → TakesPart p → TakesPart (list most p)
unfolding list
takes_list most p q = record {
  head = takes_chain 0 (any_size 4 (takes_such 4 _ takes_u32)) (λ n. any_size 4 (takes_such 4 _ takes_pointer));
  tail = takes_list_tail p q;
}

pub list_onward : {S A : Type 0} (most : ℕ) (p : Part S A) → TakesPart p → Takes 0 (list_of most p)
unfolding list_of
list_onward most p q = takes_whole (list most p) (takes_list most p q)

-- ---- the shapes

then_small_onward : {a : Codec ℕ} → Takes 0 a → Takes 0 (then_small a)
then_small_onward p = takes_led_by 0 (λ n. n / 0x100) p
    (λ h. takes_made 0 (λ low. h * 0x100 + low) (λ n. n % 0x100) (any_size 1 takes_u8))

then_short_onward : {a : Codec ℕ} → Takes 0 a → Takes 0 (then_short a)
then_short_onward p = takes_led_by 0 (λ n. n / 0x10000) p
    (λ h. takes_made 0 (λ low. h * 0x10000 + low) (λ n. n % 0x10000) (any_size 2 takes_u16))

uuid_onward : Takes 0 uuid
unfolding uuid
uuid_onward =
    then_small_onward (then_small_onward
    (then_small_onward (then_small_onward
    (then_small_onward (then_small_onward
    (then_small_onward (then_small_onward (then_short_onward (then_short_onward (any_size 4 takes_u32))))))))))

pub handle_onward : Takes 0 handle
unfolding handle
handle_onward = takes_ignored 0 0 (any_size 4 takes_u32) (takes_made 0 handle_of (λ h. h.number) uuid_onward)

units_onward : (n : ℕ) → Takes 0 (units n)
units_onward n = takes_led_by 0 length (any_size 4 takes_u32)
    (λ most. takes_ignored 0 n (any_size 4 (takes_such 4 _ (takes_varying most)))
    (takes_times n (any_size 2 takes_u16)))

text_tail_onward : (s : ℕ × Bool) → Takes 0 (text_tail s)
text_tail_onward (n, true) = units_onward (n / 2)
text_tail_onward (n, false) = takes_given []

pub takes_text : TakesPart text
unfolding text
takes_text = record {
  head = takes_chain 0 (any_size 2 (takes_such 2 _ takes_u16))
      (λ n. takes_ignored 0 n (any_size 2 takes_u16) (any_size 4 (takes_such 4 _ takes_pointer)));
  tail = text_tail_onward;
}

pub text_onward : Takes 0 (whole text)
text_onward = takes_whole text takes_text

authority_onward : Takes 0 authority
unfolding authority
authority_onward = then_small_onward
    (then_small_onward (then_small_onward (then_small_onward (then_small_onward (any_size 1 takes_u8)))))

pub sid_onward : Takes 0 sid
unfolding sid
sid_onward = takes_led_by 0 (λ s. length s.subs) (any_size 4 takes_u32)
    (λ n. takes_ignored 0 1 (any_size 1 (takes_such 1 _ takes_u8))
    (takes_ignored 0 n (any_size 1 (takes_such 1 _ takes_u8))
    (takes_made 0 sid_of parts_of_sid (takes_chain 0 authority_onward (λ a. takes_times n (any_size 4 takes_u32))))))

pub takes_sid_pointer : TakesPart sid_pointer
unfolding sid_pointer
takes_sid_pointer = takes_there sid sid_onward

pub sid_list_onward : (most : ℕ) → Takes 0 (sid_list most)
sid_list_onward most = list_onward most sid_pointer takes_sid_pointer

pub rid_list_onward : (most : ℕ) → Takes 0 (rid_list most)
rid_list_onward most = list_onward most (flat u32) (takes_flat u32 (any_size 4 takes_u32))

pub text_list_onward : (most : ℕ) → Takes 0 (text_list most)
text_list_onward most = list_onward most text takes_text

privilege_onward : Takes 0 privilege
unfolding privilege
privilege_onward = takes_made 0 privilege_of parts_of_privilege
    (takes_chain 0 (any_size 4 takes_u32) (λ x. takes_chain 0 (any_size 4 takes_u32) (λ y. any_size 4 takes_u32)))

pub privilege_set_onward : Takes 0 privilege_set
unfolding privilege_set
privilege_set_onward = takes_led_by 0 length (any_size 4 takes_u32)
    (λ n. takes_ignored 0 n (any_size 4 (takes_such 4 _ takes_u32))
    (takes_ignored 0 0 (any_size 4 takes_u32) (takes_times n privilege_onward)))

takes_rid_name : TakesPart rid_name
unfolding rid_name
takes_rid_name = takes_part_of rid_name_of parts_of_rid_name (join (flat u32) text)
    (takes_join (flat u32) text (takes_flat u32 (any_size 4 takes_u32)) takes_text)

pub rid_names_onward : Takes 0 rid_names
unfolding rid_names
rid_names_onward = takes_whole (pointer_to (list_of any rid_name))
    (takes_pointer_to (list_of any rid_name) (list_onward any rid_name takes_rid_name))

takes_place : TakesPart place
unfolding place
takes_place = takes_part_of place_of parts_of_place (join text sid_pointer)
    (takes_join text sid_pointer takes_text takes_sid_pointer)

takes_places : TakesPart places
unfolding places
takes_places = let q = takes_list any place takes_place in record {
  head = takes_made 0 first with_entries (takes_chain 0 q.head (λ x. any_size 4 takes_u32));
  tail = q.tail;
}

pub referenced_onward : Takes 0 referenced
unfolding referenced
referenced_onward = takes_whole (pointer_to (whole places))
    (takes_pointer_to (whole places) (takes_whole places takes_places))

pub goes_onward : {A : Type 0} {shape : Codec A} → Takes 0 shape → GoesOnward shape
goes_onward p start = p.onward start

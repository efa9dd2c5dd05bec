-- Arrays, and shapes that a structure or an array embeds. A pointer's referent is deferred: it stands after the
-- outermost structure or array that embeds the pointer, in the pointers' order.
use Rattle.std.proofs.Common.{◌≡◌, ℕ, zero, suc, Bool, true, false, nat_le, ◌==◌, ◌||◌, Option, Some, None, List, []}
use Rattle.std.proofs.Common.{◌∷◌, ◌++◌, length, map, refl, sym}
use Rattle.std.proofs.lemmas.List.{append-nil}
use Rattle.ndr_core.specs.Cursor.{Cursor, making, both, Written, IsBytes}
use Rattle.ndr_core.specs.Codec.{Codec, Grows, behind}
use Rattle.ndr_core.specs.steps.Laws.{grows_on, made_found, made_only}
use Rattle.ndr_core.specs.Shapes.{u32_such, pointer, pointer_such, given, chain, made, led_by, ignored}

-- ---- lists

abbrev pub put_all : {A : Type 0} → Codec A → Codec (List A) → List A → Written → Written
put_all a b [] o = o
put_all a b (x ∷ xs) o = b.write xs (a.write x o)

abbrev pub AllFit : {A : Type 0} → Codec A → Codec (List A) → List A → Type 0
AllFit a b [] = ⊥
AllFit a b (x ∷ xs) = a.Fits x × b.Fits xs

abbrev pub front_of : {A : Type 0} → A × List A → List A
front_of p = p.0 ∷ p.1

abbrev pub FrontSpells : {A : Type 0} → Codec A → Codec (List A) → List A → Cursor → Cursor → Type 0
FrontSpells {A = A} a b xs c d = (x : A × List A) × (chain a (λ _. b)).Spells x c d × (front_of x ≡ xs)

pub cons_grows : {A : Type 0} (a : Codec A) (b : Codec (List A)) (xs : List A) (o : Written)
    → Grows o (put_all a b xs o)
cons_grows a b [] o = ([], sym (append-nil o.bytes))
cons_grows a b (x ∷ xs) o = grows_on o (a.write x o) (b.write xs (a.write x o)) (a.grows x o) (b.grows xs (a.write x o))

pub cons_bytes : {A : Type 0} (a : Codec A) (b : Codec (List A)) (xs : List A) (o : Written) → IsBytes o.bytes
    → IsBytes (put_all a b xs o).bytes
cons_bytes a b [] o h = h
cons_bytes a b (x ∷ xs) o h = b.bytes xs (a.write x o) (a.bytes x o h)

pub cons_spelled : {A : Type 0} (a : Codec A) (b : Codec (List A)) (xs : List A) (o : Written) (rest : List ℕ)
    → AllFit a b xs
    → FrontSpells a b xs (behind o ((put_all a b xs o).bytes ++ rest))
    (behind (put_all a b xs o) ((put_all a b xs o).bytes ++ rest))
cons_spelled a b [] o rest h = absurd h
cons_spelled a b (x ∷ xs) o rest h = ((x, xs), (chain a (λ _. b)).spelled (x, xs) o rest h, refl)

abbrev pub cons : {A : Type 0} → Codec A → Codec (List A) → Codec (List A)
cons a b = record {
  read = making front_of (both a.read (λ _. b.read));
  Spells = FrontSpells a b;
  Fits = AllFit a b;
  write = put_all a b;
  found = λ c d xs e. made_found (chain a (λ _. b)) front_of c d xs e;
  only = λ c d xs h. made_only (chain a (λ _. b)) front_of c d xs h;
  stays = λ c d xs h. (chain a (λ _. b)).stays c d h.0 h.1;
  grows = cons_grows a b;
  bytes = cons_bytes a b;
  spelled = cons_spelled a b;
}

-- one value for each state, as each state says
unfoldable pub each : {S A : Type 0} → (S → Codec A) → List S → Codec (List A)
each f [] = given []
each f (s ∷ ss) = cons (f s) (each f ss)

-- so many values
unfoldable pub times : {A : Type 0} → ℕ → Codec A → Codec (List A)
times zero a = given []
times (suc n) a = cons a (times n a)

-- ---- a shape that a structure or an array embeds: its head there, and its tail after what embeds it

pub record Part (S A : Type 0) : Type 1 where
  pub head : Codec S
  pub tail : S → Codec A
  -- the head of what is written
  pub head_of : A → S

-- alone
abbrev pub whole : {S A : Type 0} → Part S A → Codec A
whole p = led_by p.head_of p.head p.tail

abbrev pub PartFits : {S A : Type 0} → Part S A → A → Type 0
PartFits p a = p.head.Fits (p.head_of a) × (p.tail (p.head_of a)).Fits a

-- an array of so many
abbrev pub array : {S A : Type 0} → ℕ → Part S A → Part (List S) (List A)
array n p = record { head = times n p.head; tail = each p.tail; head_of = map p.head_of }

-- a structure of two
abbrev pub join : {S T A B : Type 0} → Part S A → Part T B → Part (S × T) (A × B)
join p q = record {
  head = chain p.head (λ _. q.head);
  tail = λ s. chain (p.tail s.0) (λ _. q.tail s.1);
  head_of = λ a. (p.head_of a.0, q.head_of a.1);
}

-- what has no pointers
abbrev pub flat : {A : Type 0} → Codec A → Part A A
flat a = record { head = a; tail = given; head_of = λ x. x }

-- the parts of one value, made of those of another
abbrev pub part_of : {S A B : Type 0} → (A → B) → (B → A) → Part S A → Part S B
part_of make parts p =
    record { head = p.head; tail = λ s. made make parts (p.tail s); head_of = λ b. p.head_of (parts b) }

-- ---- a value that is there

abbrev pub put_some : {A : Type 0} → Codec A → Option A → Written → Written
put_some a None o = o
put_some a (Some x) o = a.write x o

abbrev pub SomeFits : {A : Type 0} → Codec A → Option A → Type 0
SomeFits a None = ⊥
SomeFits a (Some x) = a.Fits x

abbrev pub SomeSpells : {A : Type 0} → Codec A → Option A → Cursor → Cursor → Type 0
SomeSpells {A = A} a y c d = (x : A) × a.Spells x c d × (Some x ≡ y)

abbrev pub some_of : {A : Type 0} → A → Option A
some_of x = Some x

pub some_grows : {A : Type 0} (a : Codec A) (y : Option A) (o : Written) → Grows o (put_some a y o)
some_grows a None o = ([], sym (append-nil o.bytes))
some_grows a (Some x) o = a.grows x o

pub some_bytes : {A : Type 0} (a : Codec A) (y : Option A) (o : Written) → IsBytes o.bytes
    → IsBytes (put_some a y o).bytes
some_bytes a None o h = h
some_bytes a (Some x) o h = a.bytes x o h

pub some_spelled : {A : Type 0} (a : Codec A) (y : Option A) (o : Written) (rest : List ℕ) → SomeFits a y
    → SomeSpells a y (behind o ((put_some a y o).bytes ++ rest))
    (behind (put_some a y o) ((put_some a y o).bytes ++ rest))
some_spelled a None o rest h = absurd h
some_spelled a (Some x) o rest h = (x, a.spelled x o rest h, refl)

abbrev pub some : {A : Type 0} → Codec A → Codec (Option A)
some a = record {
  read = making some_of a.read;
  Spells = SomeSpells a;
  Fits = SomeFits a;
  write = put_some a;
  found = λ c d y e. made_found a some_of c d y e;
  only = λ c d y h. made_only a some_of c d y h;
  stays = λ c d y h. a.stays c d h.0 h.1;
  grows = some_grows a;
  bytes = some_bytes a;
  spelled = some_spelled a;
}

abbrev pub when_there : {A : Type 0} → Bool → Codec A → Codec (Option A)
when_there true a = some a
when_there false a = given None

abbrev pub is_there_of : {A : Type 0} → Option A → Bool
is_there_of None = false
is_there_of (Some x) = true

-- a pointer to a value, or null
abbrev pub pointer_to : {A : Type 0} → Codec A → Part Bool (Option A)
pointer_to a = record { head = pointer; tail = λ b. when_there b a; head_of = is_there_of }

-- a pointer to a value, which isn't null
abbrev pub itself : Bool → Bool
itself b = b

abbrev pub always : {A : Type 0} → A → Bool
always x = true

abbrev pub there : {A : Type 0} → Codec A → Part Bool A
there a = record { head = pointer_such itself; tail = λ b. a; head_of = always }

-- ---- a count of at most so many, and a pointer to the array; the empty list is null

abbrev pub is_there_list : {A : Type 0} → List A → Bool
is_there_list [] = false
is_there_list (x ∷ xs) = true

abbrev pub list_head : ℕ → Codec (ℕ × Bool)
list_head most = chain (u32_such (λ n. nat_le n most)) (λ n. pointer_such (λ b. b || (n == 0)))

abbrev pub list_tail : {S A : Type 0} → Part S A → ℕ × Bool → Codec (List A)
list_tail p (n, true) = ignored n (u32_such (λ m. m == n)) (whole (array n p))
list_tail p (n, false) = given []

unfoldable pub list : {S A : Type 0} → ℕ → Part S A → Part (ℕ × Bool) (List A)
list most p = record { head = list_head most; tail = list_tail p; head_of = λ xs. (length xs, is_there_list xs) }

-- the list as a parameter of its own
unfoldable pub list_of : {S A : Type 0} → ℕ → Part S A → Codec (List A)
list_of most p = whole (list most p)

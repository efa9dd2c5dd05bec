-- Reading fields one after the other: a reader gives a value and the bytes after it, or nothing where the bytes spell
-- none.
use Rattle.std.specs.Prelude.{◌≡◌, ℕ, zero, suc, ◌==◌, Bool, List, [], ◌∷◌, length, take, drop}
use Rattle.std.specs.Prelude.{Option, Some, None, Result, Ok, Err, IfErr, if◌then◌else◌, nat_lt}
use Rattle.acct_base.specs.declared.fields.Unread.{Unread}
use Rattle.acct_base.specs.declared.fields.Unread.TheVariants.{Memory, Misspelled}

abbrev pub Reader : Type 0 → Type 0
Reader A = List ℕ → Option (A × List ℕ)

infixl 10 ◌>>=◌
abbrev pub ◌>>=◌ : {A B : Type 0} → Option A → (A → Option B) → Option B
(Some x) >>= f = f x
None >>= f = None

-- no byte is left over
abbrev pub is_end : List ℕ → Bool
is_end bytes = length bytes == 0

-- so many bytes
abbrev pub front_at : ℕ → Reader (List ℕ)
front_at n bytes = if nat_lt (length bytes) n then None else Some (take n bytes, drop n bytes)

-- so many of what one reader reads
unfoldable pub many : {A : Type 0} → Reader A → ℕ → Reader (List A)
many one zero bytes = Some ([], bytes)
many one (suc n) bytes = do
  first ← one bytes
  others ← many one n first.1
  Some (first.0 ∷ others.0, others.1)

-- Nothing was read: the bytes spell nothing, or memory ran out.
abbrev pub ReadsNothing : {Y : Type 0} → Unread → Option Y → Type 0
ReadsNothing Memory read = Unit {0}
ReadsNothing Misspelled read = read ≡ None

-- Where nothing was read, the bytes spell nothing: what takes no memory runs out of none.
abbrev pub NeverMemory : {Y : Type 0} → Result Y Unread → Type 0
NeverMemory result = IfErr result (λ e. e ≡ Misspelled)

-- What code reads, as it is seen, is the value that stands at the beginning, and the bytes after it are left.
abbrev pub ReadsBy : {X A : Type 0} → (X → A) → Result X Unread → List ℕ → Option (A × List ℕ) → Type 0
ReadsBy view (Ok x) after read = read ≡ Some (view x, after)
ReadsBy view (Err e) after read = ReadsNothing e read

-- The same of a value that is seen as it is.
abbrev pub Reads : {A : Type 0} → Result A Unread → List ℕ → Option (A × List ℕ) → Type 0
Reads result after read = ReadsBy (λ x. x) result after read

-- The same of a whole list of bytes, of which nothing is left to tell.
abbrev pub ReadsWhole : {A : Type 0} → Result A Unread → Option A → Type 0
ReadsWhole (Ok x) read = read ≡ Some x
ReadsWhole (Err e) read = ReadsNothing e read

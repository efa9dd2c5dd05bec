-- The lines of calls, one after another.
use Rattle.std.proofs.Common.{◌≡◌, ℕ, suc, ◌+◌, ◌<◌, ◌≤◌, List, [], ◌∷◌, ◌++◌, length, take, get_or, sym, ap}
use Rattle.std.proofs.Common.{◌∙◌, arith, append_assoc, length-append}
use Rattle.std.proofs.lemmas.List.{append-nil, length-take-le, take_more}
use Rattle.acct_calls.specs.declared.calls.Call.{Call}
use Rattle.acct_commands.specs.Generated.{opening_calls, user_calls, calls_for_users, closing_calls, call_line}
use Rattle.acct_commands.specs.Generated.{call_lines, beginning, generated}

-- those of two lists: the second goes on with the next call id
pub lines-append : (id : ℕ) (calls more : List Call)
    → call_lines id (calls ++ more) ≡ call_lines id calls ++ call_lines (id + length calls) more
unfolding call_lines
lines-append id [] more =
    let next : id ≡ id + length {A = Call} [] = omega arith in
    ap (λ (n : ℕ). call_lines n more) next
lines-append id (call ∷ calls) more =
    let next : id + 1 + length calls ≡ id + length (call ∷ calls) = omega arith in
    ap (λ (bs : List ℕ). call_line id call ++ bs) (lines-append (id + 1) calls more)
    ∙ sym (append_assoc (call_line id call) (call_lines (id + 1) calls) (call_lines (id + 1 + length calls) more))
    ∙ ap (λ (n : ℕ). call_line id call ++ call_lines (id + 1) calls ++ call_lines n more) next

one-line : (id : ℕ) (call : Call) → call_lines id (call ∷ []) ≡ call_line id call
unfolding call_lines
one-line id call = append-nil (call_line id call)

-- lines of more calls after those of some
pub lines-on : (before lines : List ℕ) (id : ℕ) (calls more : List Call) → lines ≡ before ++ call_lines id calls
    → lines ++ call_lines (id + length calls) more ≡ before ++ call_lines id (calls ++ more)
lines-on before lines id calls more is =
    ap (λ (bs : List ℕ). bs ++ call_lines (id + length calls) more) is
    ∙ append_assoc before (call_lines id calls) (call_lines (id + length calls) more)
    ∙ ap (λ (bs : List ℕ). before ++ bs) (sym (lines-append id calls more))

-- one more line
pub line-on : (before lines : List ℕ) (id : ℕ) (calls : List Call) (i : ℕ) (d : Call) → i < length calls
    → lines ≡ before ++ call_lines id (take i calls)
    → lines ++ call_line (id + i) (get_or calls i d) ≡ before ++ call_lines id (take (i + 1) calls)
line-on before lines id calls i d lt is =
    let call = get_or calls i d in
    let le : i ≤ length calls = omega (arith, lt) in
    let count : length (take i calls) ≡ i = length-take-le i calls le in
    sym (ap (λ (bs : List ℕ). lines ++ bs) (one-line (id + i) call))
    ∙ sym (ap (λ (n : ℕ). lines ++ call_lines (id + n) (call ∷ [])) count)
    ∙ lines-on before lines id (take i calls) (call ∷ []) is
    ∙ ap (λ (cs : List Call). before ++ call_lines id cs) (sym (take_more calls i d lt))

-- the calls of the users so far, and what stands before them
abbrev pub so_far : ℕ → List Call
so_far k = opening_calls ++ calls_for_users k

so-far-starts : so_far 0 ≡ opening_calls
unfolding calls_for_users
so-far-starts = append-nil opening_calls

so-far-goes-on : (k : ℕ) → so_far k ++ user_calls (k + 1) ≡ so_far (k + 1)
unfolding calls_for_users
so-far-goes-on k =
    let next : k + 1 ≡ suc k = omega arith in
    ap (λ (n : ℕ). so_far k ++ user_calls n) next
    ∙ append_assoc opening_calls (calls_for_users k) (user_calls (suc k))
    ∙ ap (λ (n : ℕ). so_far n) (sym next)

-- the lines before the first user
pub started : (lines longer : List ℕ) (opened : List Call) → lines ≡ beginning → opened ≡ opening_calls
    → longer ≡ lines ++ call_lines 2 opened → longer ≡ beginning ++ call_lines 2 (so_far 0)
started lines longer opened first is on =
    on ∙ ap (λ (bs : List ℕ). bs ++ call_lines 2 opened) first
    ∙ ap (λ (cs : List Call). beginning ++ call_lines 2 cs) (is ∙ sym so-far-starts)

-- more calls after those of some users
more-on : (lines longer : List ℕ) (k id : ℕ) (added more : List Call) → lines ≡ beginning ++ call_lines 2 (so_far k)
    → id ≡ 2 + length (so_far k) → added ≡ more → longer ≡ lines ++ call_lines id added
    → longer ≡ beginning ++ call_lines 2 (so_far k ++ more)
more-on lines longer k id added more before here is on =
    on ∙ ap (λ (n : ℕ). lines ++ call_lines n added) here
    ∙ ap (λ (cs : List Call). lines ++ call_lines (2 + length (so_far k)) cs) is
    ∙ lines-on beginning lines 2 (so_far k) more before

pub went-on : (lines longer : List ℕ) (k id : ℕ) (added : List Call) → lines ≡ beginning ++ call_lines 2 (so_far k)
    → id ≡ 2 + length (so_far k) → added ≡ user_calls (k + 1) → longer ≡ lines ++ call_lines id added
    → longer ≡ beginning ++ call_lines 2 (so_far (k + 1))
went-on lines longer k id added before here is on =
    more-on lines longer k id added (user_calls (k + 1)) before here is on
    ∙ ap (λ (cs : List Call). beginning ++ call_lines 2 cs) (so-far-goes-on k)

pub ended : (lines longer : List ℕ) (k users id : ℕ) (added : List Call) → k ≡ users
    → lines ≡ beginning ++ call_lines 2 (so_far k) → id ≡ 2 + length (so_far k) → added ≡ closing_calls users
    → longer ≡ lines ++ call_lines id added → longer ≡ generated users
ended lines longer k users id added all before here is on =
    more-on lines longer k id added (closing_calls users) before here is on
    ∙ ap (λ (n : ℕ). beginning ++ call_lines 2 (so_far n ++ closing_calls users)) all

-- the call id after the lines before the first user, and after those of one user more
pub count-started : (id : ℕ) (opened : List Call) → opened ≡ opening_calls → id ≡ 2 + length opened
    → id ≡ 2 + length (so_far 0)
count-started id opened is next = next ∙ ap (λ (cs : List Call). 2 + length cs) (is ∙ sym so-far-starts)

pub count-went-on : (id next k : ℕ) (added : List Call) → id ≡ 2 + length (so_far k) → added ≡ user_calls (k + 1)
    → next ≡ id + length added → next ≡ 2 + length (so_far (k + 1))
count-went-on id next k added here is on =
    let all : length (so_far k) + length (user_calls (k + 1)) ≡ length (so_far (k + 1)) =
    sym (length-append (so_far k) (user_calls (k + 1))) ∙ ap length (so-far-goes-on k) in
    let count : length added ≡ length (user_calls (k + 1)) = ap length is in
    omega arith

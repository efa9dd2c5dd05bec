-- What entries of other connections leave as it was, and the openings of connections.
use Rattle.std.proofs.Common.{◌≡◌, ◌≢◌, inl, inr, ℕ, ◌+◌, ◌≤◌, ◌<◌, ◌==◌, true, false, cond, List, [], ◌∷◌, ◌++◌}
use Rattle.std.proofs.Common.{length, refl, sym, ap, ◌∙◌, subst, arith, Option, Some, None}
use Rattle.std.specs.Prelude.{IfSome}
use Rattle.std.proofs.lemmas.Bool.{cases_eq}
use Rattle.std.proofs.lemmas.List.{append-nil}
use Rattle.std.proofs.lemmas.Bool.Decides.{nat_tests}
use Rattle.std.proofs.lemmas.List.Elements.{All-cons}
use Rattle.std.specs.List.{All}
use Rattle.acct_calls.specs.declared.calls.Call.{Call}
use Rattle.acct_calls.specs.declared.replies.Reply.{Reply}
use Rattle.acct_machine.specs.declared.entry.Entry.{Entry}
use Rattle.acct_machine.specs.declared.entry.Entry.TheVariants.{Opened, Called, Gone, Hooked}
use Rattle.acct_machine.specs.declared.state.Conn.{Conn}
use Rattle.acct_machine.specs.State.{State, Start, first, is_live}
use Rattle.acct_machine.specs.Step.{new_conn, acted, step, state_after, state_at}
use Rattle.acct_machine.specs.Legal.{May, LegalAfter, Legal, calls_of, replies_from, replies, FrontsAreLegal}
use Rattle.acct_machine.specs.Sound.{IsNumberedFrom, KeepsConnected}
use Rattle.acct_machine.specs.Passing.{conn_of, IsNumbered, AreOfOthers, OthersChangeNothing, EntriesAreNumbered}
use Rattle.acct_machine.specs.Passing.{OpenedOnce}
use Rattle.acct_machine.proofs.Conns.{live-push, live-ended-other, live-past, length-push, length-ended}
use Rattle.acct_machine.proofs.Lives.{same_live-acted}
use Rattle.acct_machine.proofs.History.{calls_of-append, replies-append, state_after-push, LegalAfter-push}

other : (conn k : ℕ) → conn ≢ k → (conn == k) ≡ false
other conn k ne = grind (arith, nat_tests)

-- a connection that isn't another, as one that an entry has
some-other : (conn k : ℕ) → Some conn ≢ Some k → conn ≢ k
some-other conn k ne same = ne (ap (λ n. Some n) same)

calls-quiet : (k : ℕ) (es : List Entry) → AreOfOthers k es → calls_of k es ≡ []
calls-quiet k [] quiet = refl
calls-quiet k (Opened conn listener ∷ es) quiet = calls-quiet k es quiet.1
calls-quiet k (Gone conn ∷ es) quiet = calls-quiet k es quiet.1
calls-quiet k (Hooked number ∷ es) quiet = calls-quiet k es quiet.1
calls-quiet k (Called conn call verdict bytes ∷ es) quiet =
    ap (λ b. cond b ((call, bytes) ∷ calls_of k es) (calls_of k es)) (other conn k (some-other conn k quiet.0))
    ∙ calls-quiet k es quiet.1

replies-quiet : (s : State) (k : ℕ) (es : List Entry) → AreOfOthers k es → replies_from s k es ≡ []
replies-quiet s k [] quiet = refl
replies-quiet s k (Opened conn listener ∷ es) quiet = replies-quiet (step s (Opened conn listener)) k es quiet.1
replies-quiet s k (Gone conn ∷ es) quiet = replies-quiet (step s (Gone conn)) k es quiet.1
replies-quiet s k (Hooked number ∷ es) quiet = replies-quiet (step s (Hooked number)) k es quiet.1
replies-quiet s k (Called conn call verdict bytes ∷ es) quiet =
    let e : Entry = Called conn call verdict bytes in
    let rest : List Reply = replies_from (step s e) k es in
    ap (λ b. cond b ((acted s conn call verdict).1 ∷ rest) rest) (other conn k (some-other conn k quiet.0))
    ∙ replies-quiet (step s e) k es quiet.1

live-step : (s : State) (k : ℕ) (e : Entry) → conn_of e ≢ Some k → is_live k (step s e).conns ≡ is_live k s.conns
live-step s k (Opened conn listener) ne = live-push k (new_conn conn listener) s.conns (some-other conn k ne)
live-step s k (Called conn call verdict bytes) ne = (same_live-acted s conn call verdict).lives k
live-step s k (Gone conn) ne = live-ended-other k conn s.conns (λ e. some-other conn k ne (sym e))
live-step s k (Hooked number) ne = refl

live-quiet : (s : State) (k : ℕ) (es : List Entry) → AreOfOthers k es
    → is_live k (state_after s es).conns ≡ is_live k s.conns
live-quiet s k [] quiet = refl
live-quiet s k (e ∷ es) quiet = live-quiet (step s e) k es quiet.1 ∙ live-step s k e quiet.0

state_after-append : (s : State) (xs ys : List Entry) → state_after s (xs ++ ys) ≡ state_after (state_after s xs) ys
state_after-append s [] ys = refl
state_after-append s (x ∷ xs) ys = state_after-append (step s x) xs ys

pub others-change-nothing : OthersChangeNothing
others-change-nothing start k before rest quiet =
    let s : State = state_at start before in record {
      calls = calls_of-append k before rest ∙ ap (λ (l : List (Call × ℕ)). calls_of k before ++ l)
          (calls-quiet k rest quiet) ∙ append-nil (calls_of k before);
      replies =
          replies-append (first start) k before rest ∙ ap (λ (l : List Reply). replies start k before ++ l)
          (replies-quiet s k rest quiet) ∙ append-nil (replies start k before);
      live = ap (λ (x : State). is_live k x.conns) (state_after-append (first start) before rest) ∙ live-quiet s k
          rest quiet;
    }

-- ---- a connection's number is at most the number of connections

pub live-within : (n k : ℕ) (conns : List Conn) → IsNumberedFrom n conns → is_live k conns ≡ true → k < n + length conns
live-within n k [] numbered live = absurd cc
live-within n k (c ∷ conns) numbered live = elim (cases_eq c.number k) [
  | inl same ↦ let is = numbered.0 in omega arith
  | inr ne ↦ let rest =
      live-within (n + 1) k conns numbered.1 (sym (live-past k c conns ne) ∙ live) in omega (arith, rest)
]

count-step : (s : State) (e : Entry) → length s.conns ≤ length (step s e).conns
count-step s (Opened conn listener) = omega (arith, length-push (new_conn conn listener) s.conns)
count-step s (Called conn call verdict bytes) = omega (arith, (same_live-acted s conn call verdict).count)
count-step s (Gone conn) = omega (arith, length-ended conn s.conns)
count-step s (Hooked number) = omega arith

count-after : (s : State) (es : List Entry) → length s.conns ≤ length (state_after s es).conns
count-after s [] = omega arith
count-after s (e ∷ es) = omega (arith, count-step s e, count-after (step s e) es)

-- the connection of an entry that may come next has at most the number of connections
abbrev AtMost : ℕ → Entry → Type 0
AtMost most e = IfSome (conn_of e) (λ (k : ℕ). k ≤ most)

may-number : (start : Start) (before : List Entry) (e : Entry) → IsNumberedFrom 1 (state_at start before).conns
    → May start before e → AtMost (length (step (state_at start before) e).conns) e
may-number start before (Opened conn listener) numbered may =
    omega (arith, may.0, length-push (new_conn conn listener) (state_at start before).conns)
may-number start before (Called conn call verdict bytes) numbered may =
    omega (
      arith,
      live-within 1 conn (state_at start before).conns numbered may.0,
      count-step (state_at start before)
          (Called conn call verdict bytes),
    )
may-number start before (Gone conn) numbered may =
    omega (
      arith,
      live-within 1 conn (state_at start before).conns numbered may,
      count-step (state_at start before)
          (Gone conn),
    )
may-number start before (Hooked number) numbered may = tt

-- an entry of a connection at most this one isn't of one above
not-above : (most k : ℕ) (conn : Option ℕ) → IfSome conn (λ (n : ℕ). n ≤ most) → most < k → conn ≢ Some k
not-above most k None le lt same = cc
not-above most k (Some n) le lt same = let is : n ≡ k = cc in omega (arith, le, lt, is)

-- each entry of `es` is of another connection than one that is opened after them all
others-before : KeepsConnected → (start : Start) (before es : List Entry) (k listener : ℕ) (after : List Entry)
    → Legal start before → LegalAfter start before (es ++ Opened k listener ∷ after)
    → (length (state_at start before).conns < k) × AreOfOthers k es
others-before connected start before [] k listener after was legal = (omega (arith, legal.0.0), tt)
others-before connected start before (e ∷ es) k listener after was legal =
    let longer : Legal start (before ++ e ∷ []) = LegalAfter-push start [] before e was legal.0 in
    let rest = others-before connected start (before ++ e ∷ []) es k listener after longer legal.1 in
    let next : length (state_at start (before ++ e ∷ [])).conns ≡ length (step (state_at start before) e).conns =
    ap (λ (x : State). length x.conns) (state_after-push (first start) before e) in
    let number = may-number start before e (connected start before was).numbered legal.0 in
    let differs : conn_of e ≢ Some k =
    not-above (length (step (state_at start before) e).conns) k (conn_of e) number (omega (arith, rest.0, next)) in
    (omega (arith, rest.0, next, count-step (state_at start before) e), (differs, rest.1))

pub opened-once : KeepsConnected → OpenedOnce
opened-once connected start k listener before after legal =
    (others-before connected start [] before k listener after tt legal).1

-- ---- each entry is of one of the connections

live-from : (n k : ℕ) (conns : List Conn) → IsNumberedFrom n conns → is_live k conns ≡ true → n ≤ k
live-from n k [] numbered live = absurd cc
live-from n k (c ∷ conns) numbered live = elim (cases_eq c.number k) [
  | inl same ↦ let is = numbered.0 in omega arith
  | inr ne ↦ let rest =
      live-from (n + 1) k conns numbered.1 (sym (live-past k c conns ne) ∙ live) in omega (arith, rest)
]

may-from : (start : Start) (before : List Entry) (e : Entry) → IsNumberedFrom 1 (state_at start before).conns
    → May start before e → IfSome (conn_of e) (λ (k : ℕ). 1 ≤ k)
may-from start before (Opened conn listener) numbered may = omega (arith, may.0)
may-from start before (Called conn call verdict bytes) numbered may =
    live-from 1 conn (state_at start before).conns numbered may.0
may-from start before (Gone conn) numbered may = live-from 1 conn (state_at start before).conns numbered may
may-from start before (Hooked number) numbered may = tt

abbrev IsOfOne : ℕ → Entry → Type 0
IsOfOne most e = IfSome (conn_of e) (IsNumbered most)

one-of : (most later : ℕ) (conn : Option ℕ) → IfSome conn (λ (k : ℕ). 1 ≤ k) → IfSome conn (λ (k : ℕ). k ≤ most)
    → most ≤ later → IfSome conn (IsNumbered later)
one-of most later None from here le = tt
one-of most later (Some k) from here le = (from, omega (arith, here, le))

entries-within : KeepsConnected → (start : Start) (before es : List Entry) → Legal start before
    → LegalAfter start before es → (s : State)
    → state_at start before ≡ s → All (IsOfOne (length (state_after s es).conns)) es
entries-within connected start before [] was legal s is = λ k d lt. absurd (omega (arith, lt))
entries-within connected start before (e ∷ es) was legal s is =
    let longer : Legal start (before ++ e ∷ []) = LegalAfter-push start [] before e was legal.0 in
    let next : state_at start (before ++ e ∷ []) ≡ step s e =
    state_after-push (first start) before e ∙ ap (λ (x : State). step x e) is in
    let numbered : IsNumberedFrom 1 (state_at start before).conns = (connected start before was).numbered in
    let here : AtMost (length (step s e).conns) e =
    subst (λ (x : State). AtMost (length (step x e).conns) e) is (may-number start before e numbered legal.0) in
    let head : IsOfOne (length (state_after (step s e) es).conns) e =
    one-of (length (step s e).conns) (length (state_after (step s e) es).conns) (conn_of e)
    (may-from start before e numbered legal.0) here (count-after (step s e) es) in
    All-cons (IsOfOne (length (state_after (step s e) es).conns)) e es head
    (entries-within connected start (before ++ e ∷ []) es longer legal.1 (step s e) next)

pub entries-are-numbered : KeepsConnected → EntriesAreNumbered
entries-are-numbered connected start history legal =
    entries-within connected start [] history tt legal (first start) refl

-- ---- prefixes

legal-front : (start : Start) (before xs ys : List Entry) → LegalAfter start before (xs ++ ys)
    → LegalAfter start before xs
legal-front start before [] ys legal = tt
legal-front start before (x ∷ xs) ys legal = (legal.0, legal-front start (before ++ x ∷ []) xs ys legal.1)

pub fronts-are-legal : FrontsAreLegal
fronts-are-legal start before rest legal = legal-front start [] before rest legal

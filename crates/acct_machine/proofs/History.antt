-- One more event at the end of a history.
use Rattle.std.proofs.Common.{◌≡◌, ℕ, ◌==◌, Bool, true, false, cond, List, [], ◌∷◌, ◌++◌, refl, sym, ap, subst}
use Rattle.std.proofs.Common.{append_assoc, length, arith}
use Rattle.std.proofs.lemmas.List.{append-nil}
use Rattle.acct_machine.specs.declared.entry.Entry.{Entry}
use Rattle.acct_machine.specs.declared.entry.Entry.TheVariants.{Opened, Called, Gone, Hooked}
use Rattle.acct_machine.specs.State.{State, Start}
use Rattle.acct_machine.specs.Step.{acted, step, state_after}
use Rattle.acct_machine.specs.Legal.{May, LegalAfter, calls_of, replies_from}

pub state_after-push : (s : State) (history : List Entry) (e : Entry)
    → state_after s (history ++ e ∷ []) ≡ step (state_after s history) e
state_after-push s [] e = refl
state_after-push s (a ∷ history) e = state_after-push (step s a) history e

pub LegalAfter-push : (start : Start) (before history : List Entry) (e : Entry) → LegalAfter start before history
    → May start (before ++ history) e
    → LegalAfter start before (history ++ e ∷ [])
LegalAfter-push start before [] e legal may = (subst (λ (es : List Entry). May start es e) (append-nil before) may, tt)
LegalAfter-push start before (a ∷ history) e legal may =
    let same : before ++ a ∷ history ≡ (before ++ a ∷ []) ++ history = sym (append_assoc before (a ∷ []) history) in (
      legal.0,
      LegalAfter-push start (before ++ a ∷ []) history e legal.1
          (subst (λ (es : List Entry). May start es e) same may),
    )

-- one element more at the beginning, where it is of the connection
one_more : {A : Type 0} (here : Bool) (x : A) (all xs ys : List A) → all ≡ xs ++ ys
    → cond here (x ∷ all) all ≡ cond here (x ∷ xs) xs ++ ys
one_more true x all xs ys is = ap (λ zs. x ∷ zs) is
one_more false x all xs ys is = is

-- the calls and the replies of a history and of what comes after it
pub calls_of-append : (k : ℕ) (history es : List Entry)
    → calls_of k (history ++ es) ≡ calls_of k history ++ calls_of k es
calls_of-append k [] es = refl
calls_of-append k (Opened conn listener ∷ history) es = calls_of-append k history es
calls_of-append k (Gone conn ∷ history) es = calls_of-append k history es
calls_of-append k (Hooked number ∷ history) es = calls_of-append k history es
calls_of-append k (Called conn call verdict bytes ∷ history) es =
    one_more (conn == k) (call, bytes) (calls_of k (history ++ es)) (calls_of k history) (calls_of k es)
    (calls_of-append k history es)

pub replies-append : (s : State) (k : ℕ) (history es : List Entry)
    → replies_from s k (history ++ es) ≡ replies_from s k history ++ replies_from (state_after s history) k es
replies-append s k [] es = refl
replies-append s k (Opened conn listener ∷ history) es = replies-append (step s (Opened conn listener)) k history es
replies-append s k (Gone conn ∷ history) es = replies-append (step s (Gone conn)) k history es
replies-append s k (Hooked number ∷ history) es = replies-append (step s (Hooked number)) k history es
replies-append s k (Called conn call verdict bytes ∷ history) es =
    let next : State = step s (Called conn call verdict bytes) in
    one_more (conn == k) (acted s conn call verdict).1 (replies_from next k (history ++ es))
    (replies_from next k history) (replies_from (state_after next history) k es) (replies-append next k history es)

-- as many replies as calls
longer : {A B : Type 0} (here : Bool) (x : A) (y : B) (xs : List A) (ys : List B) → length xs ≡ length ys
    → length (cond here (x ∷ xs) xs) ≡ length (cond here (y ∷ ys) ys)
longer true x y xs ys is = omega (arith, is)
longer false x y xs ys is = is

pub length-replies : (s : State) (k : ℕ) (history : List Entry)
    → length (replies_from s k history) ≡ length (calls_of k history)
length-replies s k [] = refl
length-replies s k (Opened conn listener ∷ history) = length-replies (step s (Opened conn listener)) k history
length-replies s k (Gone conn ∷ history) = length-replies (step s (Gone conn)) k history
length-replies s k (Hooked number ∷ history) = length-replies (step s (Hooked number)) k history
length-replies s k (Called conn call verdict bytes ∷ history) =
    let next : State = step s (Called conn call verdict bytes) in
    longer (conn == k) (acted s conn call verdict).1 (call, bytes) (replies_from next k history) (calls_of k history)
    (length-replies next k history)

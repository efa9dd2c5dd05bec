-- A turn appends the call numbered `next` or nothing, so the pass's calls on the connection stay below `next + 1`.
use Rattle.std.proofs.Common.{◌≡◌, ℕ, ◌+◌, ◌<◌, List, [], ◌∷◌, ◌++◌, length, drop, sym, ap, ◌∙◌, subst, ⊎_elim, arith}
use Rattle.std.proofs.Common.{Ok, Err, Result, append-nil}
use Rattle.std.specs.Prelude.{MatchResult}
use Rattle.std.proofs.Math.Seq.{drop-append_seam, drop-length}
use mathlib.Core.Option.{some}
use lib.ListN.{get_elem?}
use Rattle.atomic_table.proofs.Lists.{at_longer, at_snoc}
use Rattle.hist_lock.specs.Histories.{In, Opened, placed}
use Rattle.server_vectors.specs.declared.tests.lock.connections.Entry.{Entry}
use Rattle.server_vectors.specs.declared.tests.lock.connections.Entry.TheVariants.{Called}
use Rattle.server_vectors.specs.contracts.tests.lock.connections.LogKept.TheImpl.{lane-value}
use Rattle.server_vectors.proofs.tests.lock.connections.call_next.Goals as goal

-- the calls of the connection have the numbers below next
abbrev Numbered : List (ℕ × Entry) → ℕ → ℕ → Type 0
Numbered own conn next = (p n : ℕ) → In own p (Called conn n) → n < next

module _ (own : List (ℕ × Entry)) (h : List Entry) (conn next : ℕ) where
  abbrev Ready : List (ℕ × Entry) → Type 0
  Ready own' = Opened lane-value.it own' conn × Numbered own' conn (next + 1)

  called : Opened lane-value.it own conn → Numbered own conn next → Ready (own ++ (length h, Called conn next) ∷ [])
  called o m = (
    (o.0, o.1, (o.2.0, at_longer own _ o.2.0 _ o.2.1), o.3),
    λ p n i. ⊎_elim
        (λ (old : get_elem? own i.0 ≡ some (p, Called conn n)). let lt = m p n (i.0, old) in omega arith)
        (λ (new : (length h, Called conn next) ≡ (p, Called conn n)). let same : Called conn next
        ≡ Called conn n = ap (λ (z : ℕ × Entry). z.1) new in let number : next ≡ n = cc in omega arith)
        (at_snoc own _ _ i.0 i.1),
  )

  ready_on : {A B : Type 0} (own' : List (ℕ × Entry)) (h' : List Entry) (r : Result A B)
      → MatchResult r (λ _. h' ≡ h ++ Called conn next ∷ []) (λ _. h' ≡ h) → own' ≡ own
      ++ placed (length h) (drop (length h) h') → Opened lane-value.it own conn → Numbered own conn next → Ready own'
  ready_on own' h' (Ok a) is more o m = subst Ready
      (sym (more ∙ ap (λ l. own ++ placed (length h) (drop (length h) l)) is
      ∙ ap (λ l. own ++ placed (length h) l) (drop-append_seam h (Called conn next ∷ [])))) (called o m)
  ready_on own' h' (Err b) is more o m = subst Ready
      (sym (more ∙ ap (λ l. own ++ placed (length h) (drop (length h) l)) is
      ∙ ap (λ l. own ++ placed (length h) l) (drop-length h) ∙ append-nil own))
      (o, λ p n i. (let lt = m p n i in omega arith))

pub turn-requires-clause-job : goal.turn-requires-clause-job
turn-requires-clause-job g c history finds p n here = c.requires.numbers p n (finds.lanes p _ here c.requires.opened)

pub returns-clause-opened : goal.returns-clause-opened
returns-clause-opened g c = let t = c.turn.ensures.turn in
    (ready_on _ _ _ _ _ _ c.turn.result t.related t.own c.requires.opened c.requires.numbers).0

pub returns-clause-numbers : goal.returns-clause-numbers
returns-clause-numbers g c = let t = c.turn.ensures.turn in
    (ready_on _ _ _ _ _ _ c.turn.result t.related t.own c.requires.opened c.requires.numbers).1

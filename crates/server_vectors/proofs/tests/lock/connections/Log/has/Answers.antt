-- None of the entries walked so far is of the connection; at the end of the log that is said of all.
use Rattle.std.proofs.Common.{◌≡◌, ℕ, zero, suc, List, [], ◌∷◌, get_or, sym, ap, ◌∙◌, subst, arith, rules}
use mathlib.Core.Option.{some, some-injective, some-ne-none}
use mathlib.Core.Logic.{dite}
use native.Mathlib.Decide.{ℕ_discrete}
use lib.ListN.{get_elem?}
use Rattle.hist_lock.specs.Lanes.{IsOfLane}
use Rattle.server_vectors.specs.declared.tests.lock.connections.Entry.TheVariants.{Opened}
use Rattle.server_vectors.specs.contracts.tests.lock.connections.LogKept.TheImpl.{lane-value}
use Rattle.hist_lock.proofs.Views.{at_below}
use Rattle.server_vectors.proofs.tests.lock.connections.Log.has.Goals as goal

entry_at : {A : Type 0} (l : List A) (p : ℕ) (d e : A) → get_elem? l p ≡ some e → get_or l p d ≡ e
entry_at [] p d e at = absurd (some-ne-none e (sym at))
entry_at (x ∷ xs) zero d e at = some-injective x e at
entry_at (x ∷ xs) (suc p) d e at = entry_at xs p d e at

pub loop-entry-preserved : goal.loop-entry-preserved
loop-entry-preserved c p e lt at = dite (ℕ_discrete p c.loop-entry.entry-index)
    (λ is. subst (λ x. IsOfLane (lane-value.it x) c.args.conn → ⊥)
    (ap (λ i. get_or c.deref-entry-items.result.now i (Opened 0)) (sym is)
    ∙ entry_at c.deref-entry-items.result.now p (Opened 0) e at) (c.is_of.ensures (search rules)))
    (λ other. c.loop-entry.invariant p e (omega arith) at)

pub returns : goal.returns
returns c none_found p e at =
    let here = subst (λ l. get_elem? l p ≡ some e) (sym c.deref-entry-items.ensures.value) at in
    let below = at_below c.deref-entry-items.result.now p e here in
    let end = c.loop-entry-test.false in
    c.loop-entry.invariant p e (omega arith) here

-- A turn of a pass that opens a connection at a listener, or finds that the history takes none.
use Rattle.std.proofs.Common.{ℕ, List, ap, ◌∙◌}
use Rattle.hist_lock.specs.declared.view.View.{View}
use Rattle.acct_machine.specs.State.{Start}
use Rattle.acct_machine.specs.Legal.{Legal, conns_full}
use Rattle.acct_machine.specs.Shown.{Past}
use Rattle.acct_machine.specs.declared.entry.Entry.{Entry}
use Rattle.acct_machine.specs.declared.machine.Opened as answer
use Rattle.acct_machine.specs.declared.machine.Opened.TheVariants as opens
use Rattle.link_sessions.specs.Turns.{Turn, MachineOpens}
use Rattle.door_workers.specs.declared.kept.Begun.{Begun}
use Rattle.door_workers.specs.steps.Passing.{OpensOn}
use Rattle.door_workers.specs.steps.Opening.{OpensAt}

pub opens-at : (start : Start) (listener : ℕ) (out : answer.Opened) (v w : View Begun Entry)
    (finds : List Entry → Type 0) → Turn finds (MachineOpens start listener out) w.known → OpensOn start out v w
    → Legal start w.known → OpensAt start listener out v w
opens-at start listener (opens.Conn k) v w finds turn on legal = record {
  conn = on;
  legal = legal;
  before = turn.found;
  entered = ap (λ (past : Past). past.history) turn.does_it.opens.2;
}
opens-at start listener (opens.Full count) v w finds turn on legal = record {
  none = on;
  legal = legal;
  full = ap (λ (h : List Entry). conns_full start h) (ap (λ (past : Past). past.history) turn.does_it.opens.1)
      ∙ turn.does_it.opens.0;
}

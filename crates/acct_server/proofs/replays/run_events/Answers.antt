-- The history that `run_events` leaves is legal and denies exactly, and the keeper holds the rows it comes to.
use Rattle.std.proofs.Common.{◌≡◌, List, Some, ◌∙◌, sym, ap, subst}
use Rattle.acct_machine.specs.declared.entry.Entry.{Entry}
use Rattle.acct_machine.specs.State.{Start}
use Rattle.acct_machine.specs.Step.{state_at}
use Rattle.acct_machine.specs.Legal.{Legal}
use Rattle.acct_machine.specs.Outbox.{HoldsRows, AreCounted}
use Rattle.acct_rows.specs.Rows.{Lists}
use Rattle.acct_server.proofs.Denying.{denies-in}
use Rattle.acct_server.proofs.Transcribing.{transcribing}
use Rattle.acct_server.proofs.replays.run_events.Goals as goal

pub returns-clause-runs : goal.returns-clause-runs
returns-clause-runs g c =
    let run = c.run_lines-status in
    let start = c.args.run.machine.start in
    let history = run.new.run.machine.history in
    let parts = c.into_parts-opening in
    let hands : c.from_vec.result ≡ history = c.from_vec.ensures ∙ parts.ensures.history in
    let handed : Legal start parts.result.1.items =
    subst (λ (s : Start). Legal s parts.result.1.items) run.ensures.start parts.ensures.legal in
    let legal : Legal start history = subst (λ (h : List Entry). Legal start h) parts.ensures.history handed in
    rw hands (record {
      possible = run.ensures.status;
      opening = ap (λ (l : Lists). Some l) (parts.ensures.opening ∙ ap (λ (s : Start). s.rows) run.ensures.start);
      rows = ap (λ (l : Lists). Some l)
          (parts.ensures.rows ∙ ap (λ (s : Start). (state_at s history).rows) run.ensures.start);
      through = run.ensures.through;
      transcribes = λ through. transcribing c.streams_are_cut_anywhere.ensures start c.args.events.now history
          (run.ensures.through through).entries;
      breaks = run.ensures.breaks;
      write = run.ensures.write;
      faults = run.ensures.faults;
      stops = run.ensures.stops;
      legal = legal;
      denies = denies-in c.access_is_denied_exactly.ensures.exactly c.access_is_denied_exactly.ensures.ran start history
          legal;
    })

pub returns-clause-stored : goal.returns-clause-stored
returns-clause-stored g c =
    let run = c.run_lines-status in
    let parts = c.into_parts-opening in
    let history = run.new.run.machine.history in
    let hands : c.from_vec.result ≡ history = c.from_vec.ensures ∙ parts.ensures.history in
    rw hands (subst (λ (l : Lists). HoldsRows (g.K.Keeper.held parts.result.3) l)
    (parts.ensures.rows ∙ ap (λ (s : Start). (state_at s history).rows) run.ensures.start) parts.ensures.stored)

pub returns-clause-counts : goal.returns-clause-counts
returns-clause-counts g c =
    let run = c.run_lines-status in
    let parts = c.into_parts-opening in
    let start = c.args.run.machine.start in
    subst (λ (h : List Entry). AreCounted (g.K.Keeper.faults parts.result.3) start h) (sym c.from_vec.ensures)
    (subst (λ (s : Start). AreCounted (g.K.Keeper.faults parts.result.3) s parts.result.1.items) run.ensures.start
    parts.ensures.counts)

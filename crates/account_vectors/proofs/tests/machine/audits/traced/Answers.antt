-- The history of a machine is legal from the configuration and the rows where it began.
use Rattle.std.proofs.Common.{List, sym, subst}
use Rattle.acct_config.specs.declared.config.Config.{Config}
use Rattle.acct_machine.specs.declared.entry.Entry.{Entry}
use Rattle.acct_machine.specs.State.{Start}
use Rattle.acct_rows.specs.Rows.{Lists}
use Rattle.grant_audit.specs.Traced.{IsLegalFrom}
use Rattle.account_vectors.proofs.tests.machine.audits.traced.Goals as goal

pub trace_of-requires-clause-legal : goal.trace_of-requires-clause-legal
trace_of-requires-clause-legal g c =
    let start : Start = c.args.machine.now.past.start in
    let history : List Entry = c.history-history.result.now in
    let legal : IsLegalFrom start.config start.rows history =
    record { faults = start.faults; legal = c.history-history.ensures.legal } in
    subst (λ (k : Config). IsLegalFrom k c.opening_rows.result.now.lists history) (sym c.config-2.ensures.all)
    (subst (λ (r : Lists). IsLegalFrom start.config r history) (sym c.opening_rows.ensures.all) legal)

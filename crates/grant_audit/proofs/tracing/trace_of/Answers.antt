-- What is found event by event are the traces of the history, which are right.
use Rattle.std.proofs.Common.{rules, List, sym, subst}
use Rattle.std.specs.List.{All}
use Rattle.std.specs.Prelude.{nat_eq}
use Rattle.std.specs.HashMap.{get}
use Rattle.grant_audit.specs.declared.trace.Trace.{Trace}
use Rattle.grant_audit.specs.Following.{Walks}
use Rattle.grant_audit.specs.Traced.{IsTraced}
use Rattle.grant_audit.proofs.tracing.trace_of.Goals as goal

pub trace_all-walked-requires : goal.trace_all-walked-requires
trace_all-walked-requires c =
    let a = c.args in
    let r = c.requires in
    (c.walks_are_traces.ensures a.config.now a.rows.now.lists a.history.now r.right r.sound r.legal r.hooks
    c.in_ok-machine.machine.past (get nat_eq c.new-openings.result) c.in_ok-machine.ensures
    (λ number. search rules)).0

pub returns-in-Ok-clause-traces : goal.returns-in-Ok-clause-traces
returns-in-Ok-clause-traces c =
    let a = c.args in
    let r = c.requires in
    (c.walks_are_traces.ensures a.config.now a.rows.now.lists a.history.now r.right r.sound r.legal r.hooks
    c.in_ok-machine.machine.past (get nat_eq c.new-openings.result) c.in_ok-machine.ensures
    (λ number. search rules)).1 c.trace_all-walked.new.machine.past (get nat_eq c.trace_all-walked.new.openings)
    c.trace_all-walked.new.traces.items c.trace_all-walked.ensures.short
    (subst (λ (ts : List Trace). Walks c.in_ok-machine.machine.past (get nat_eq c.new-openings.result) 1 a.history.now
    ts c.trace_all-walked.new.machine.past (get nat_eq c.trace_all-walked.new.openings)
    c.trace_all-walked.new.traces.items) c.new-traces.ensures.items c.in-Ok.ensures.walks)

pub returns-in-Ok-clause-traced : goal.returns-in-Ok-clause-traced
returns-in-Ok-clause-traced c =
    let a = c.args in
    let r = c.requires in
    subst (λ (ts : List Trace). All (IsTraced a.config.now a.rows.now.lists a.history.now) ts)
    (sym (returns-in-Ok-clause-traces c))
    (c.traces_are_right.ensures a.config.now a.rows.now.lists a.history.now r.right r.sound r.legal)

-- A number leaves where it is the first one's.
use Rattle.std.proofs.Common.{arith}
use Rattle.account_hooks.specs.Memory.{jobs_in}
use Rattle.account_hooks.proofs.InMemory.{not-first, leaves-first, is-within}
use Rattle.account_hooks.proofs.memory_gate.MemoryGateHookGate.hooked.Goals as goal

pub returns-then-not-is_first-clause-past : goal.returns-then-not-is_first-clause-past
returns-then-not-is_first-clause-past c = λ job next same.
    let gate = c.args.self.now in
    not-first (jobs_in gate) gate.gone c.args.number job c.if-not-is_first.ensures.first next same

pub returns-clause-gone : goal.returns-clause-gone
returns-clause-gone c =
    let gate = c.args.self.now in
    leaves-first (jobs_in gate) gate.gone c.args.number c.if-not-is_first.ensures.first

pub returns-clause-nearer : goal.returns-clause-nearer
returns-clause-nearer c = λ done.
    let gate = c.args.self.now in
    let within = is-within gate.jobs.items gate.gone c.args.number c.if-not-is_first.ensures.first in
    omega (arith, within)

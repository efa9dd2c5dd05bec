-- What the machine tells of a row that leaves the outbox, of the jobs.
use Rattle.acct_machine.proofs.Gating.{hook-moves, hook-ready}
use Rattle.acct_machine.proofs.jobs.MachineHookGate.hooked.Goals as goal

pub returns-clause-past : goal.returns-clause-past
returns-clause-past g c =
    let by = c.hooks_are_told.ensures c.args.self.now.past c.hooked-answer.result c.args.number
    c.hooked-answer.new.self.past c.requires.good c.hooked-answer.ensures.hooks in by.past

pub returns-clause-ready : goal.returns-clause-ready
returns-clause-ready g c =
    hook-ready c.jobs_are_left.ensures c.args.self.now.past c.hooked-answer.new.self.past c.requires
    c.hooked-answer.ensures.start c.hooked-answer.ensures.legal

pub returns-clause-nearer : goal.returns-clause-nearer
returns-clause-nearer g c =
    let by = c.hooks_are_told.ensures c.args.self.now.past c.hooked-answer.result c.args.number
    c.hooked-answer.new.self.past c.requires.good c.hooked-answer.ensures.hooks in
    by.nearer c.has_few_entries.ensures

pub returns-clause-moves : goal.returns-clause-moves
returns-clause-moves g c =
    hook-moves c.args.self.now c.hooked-answer.new.self c.hooked-answer.result c.args.number
    c.hooked-answer.ensures.start c.hooked-answer.ensures.hooks c.hooked-answer.ensures.keeper

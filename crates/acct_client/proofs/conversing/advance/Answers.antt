-- Asking after a whole answer, and listening for one that isn't, each leave fewer steps to make.
use Rattle.std.proofs.Common.{◌<◌, Bool, IfOk, subst, sym}
use Rattle.acct_client.specs.steps.Parts.{Stands, steps_left}
use Rattle.acct_client.proofs.conversing.advance.Goals as goal

pub returns-then-is_whole-clause-less : goal.returns-then-is_whole-clause-less
returns-then-is_whole-clause-less g c = λ command old s.
    subst (λ (b : Bool). IfOk c.ask.result (λ (whole : Bool). steps_left c.ask.new.line.room c.ask.new.asker whole
    < steps_left c.args.line.now.room c.args.asker.now b)) (sym c.if-is_whole.true)
    (c.ask.ensures.less command old
    (subst (λ (b : Bool). Stands command old (g.L.Link.told c.args.link.now) c.args.asker.now
    c.args.line.now.room c.args.line.now.is_cut b) c.if-is_whole.true s))

pub returns-else-is_whole-clause-less : goal.returns-else-is_whole-clause-less
returns-else-is_whole-clause-less g c = λ command old s.
    subst (λ (b : Bool). IfOk c.listen.result (λ (whole : Bool). steps_left c.listen.new.line.room
    c.listen.new.asker whole < steps_left c.args.line.now.room c.args.asker.now b)) (sym c.if-is_whole.false)
    (c.listen.ensures.less command old
    (subst (λ (b : Bool). Stands command old (g.L.Link.told c.args.link.now) c.args.asker.now
    c.args.line.now.room c.args.line.now.is_cut b) c.if-is_whole.false s))

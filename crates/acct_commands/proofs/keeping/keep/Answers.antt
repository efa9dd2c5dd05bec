-- Where there is a period the world is asked to keep it, and `keep` answers the status that follows from this.
use Rattle.std.proofs.Common.{Option, sym, subst}
use Rattle.acct_world.specs.declared.period.Period.{Period}
use Rattle.acct_commands.specs.Commanded.{KeepsAny}
use Rattle.acct_commands.proofs.Worlds.{kept-one}
use Rattle.acct_commands.proofs.keeping.keep.Goals as goal

pub returns-in-Some : goal.returns-in-Some
returns-in-Some g c =
    let w = g.W.World in
    subst (λ (p : Option Period). KeepsAny (w.seen c.args.world.now) (w.seen c.keep_period.new.self) p c.args.ended
    c.status_after.result) (sym c.in-Some.is)
    (kept-one (w.seen c.args.world.now) (w.seen c.keep_period.new.self) c.in-Some.period c.args.ended
    c.status_after.result c.keep_period.result c.keep_period.ensures.keeps c.status_after.ensures)

-- That the server is too busy was taken, or it wasn't.
use Rattle.std.proofs.Common.{ℕ, List, OnOk, OnErr, subst}
use Rattle.link_sessions.proofs.Results.{either}
use Rattle.link_sessions.proofs.answers.turn_away.Goals as goal

pub returns-clause-taken : goal.returns-clause-taken
returns-clause-taken g c =
    let m = g.T.Taker in
    let old = c.args.taker.now in
    let new = c.take.new.self in
    let busy = c.fault_bytes-busy.ensures in
    either c.take.result
    (subst (λ (bs : List ℕ). OnOk c.take.result (m.takes old bs new)) busy c.take.ensures.ok)
    (subst (λ (bs : List ℕ). OnErr c.take.result (m.fails old bs new)) busy c.take.ensures.err)

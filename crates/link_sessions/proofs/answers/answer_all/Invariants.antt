-- What `answer_all` keeps: the acts so far are answered.
use Rattle.std.proofs.Common.{◌≡◌, take}
use Rattle.link_sessions.specs.Taking.{TakesActs}
use Rattle.link_sessions.proofs.answers.answer_all.Given as goal

abbrev pub invariant-loop-i : goal.invariant-loop-i
invariant-loop-i g l =
    let t = g.T.Taker in
    let m = g.G.Gate in
    record {
      serves : m.serves l.gate l.conn;
      moves : m.moves l.initial.gate l.conn l.gate;
      start : m.start l.gate ≡ m.start l.initial.gate;
      done : TakesActs t.takes m.start m.known m.finds m.serves l.conn (take l.i l.acts) l.initial.taker
          l.initial.gate l.taker l.gate;
    }

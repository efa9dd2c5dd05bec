-- A piece read and heard goes on the dialogue and leaves fewer steps to make; else the talk ends over all that came.
use Rattle.std.proofs.Common.{◌≡◌, Bool, arith, length, length-take, refl, subst, sym, take}
use Rattle.acct_client.specs.steps.Parts.{Stands}
use Rattle.acct_client.proofs.Ending.{heard-stands, heard-talks, listen-less, talks-unheard}
use Rattle.acct_client.proofs.conversing.listen.Goals as goal

pub returns-in-Err-clause-err : goal.returns-in-Err-clause-err
returns-in-Err-clause-err g c = λ command old s.
    talks-unheard command c.in-Err.end c.args.asker.now old (g.L.Link.told c.args.link.now)
    (g.L.Link.told c.piece.new.link) c.args.line.now.room c.args.line.now.is_cut s.received s.bytes (s.waits refl)
    s.link c.in-Err.ensures.err.0 c.in-Err.ensures.err.1

pub returns-in-Ok-hear-clause-ok : goal.returns-in-Ok-hear-clause-ok
returns-in-Ok-hear-clause-ok g c =
    let piece = take c.in-Ok.count c.piece.new.buffer in
    let size : length piece ≡ c.in-Ok.count = simp length-take (omega (arith, c.in-Ok.ensures.count.1)) in
    λ command old s. subst (λ (cut : Bool). Stands command old (g.L.Link.told c.piece.new.link) c.hear.new.asker
    c.piece.new.line.room cut c.in-Ok-hear.whole) (sym c.in-Ok.ensures.cut)
    (heard-stands command old (g.L.Link.told c.args.link.now) (g.L.Link.told c.piece.new.link) c.args.asker.now
    c.hear.new.asker c.args.line.now.room c.piece.new.line.room c.args.line.now.is_cut c.in-Ok-hear.whole piece s
    c.in-Ok.ensures.ok (omega (arith, size, c.in-Ok.ensures.count.2))
    (λ received bytes so_far. c.in-Ok-hear.ensures.ok command received bytes so_far)
    (λ received bytes so_far not_yet. c.in-Ok-hear.ensures.waits command received bytes so_far not_yet))

pub returns-in-Ok-hear-clause-less : goal.returns-in-Ok-hear-clause-less
returns-in-Ok-hear-clause-less g c = λ command old s.
    listen-less c.args.line.now.room c.piece.new.line.room c.args.asker.now c.hear.new.asker c.in-Ok-hear.whole
    (omega (arith, c.in-Ok.ensures.count.0, c.in-Ok.ensures.count.2))
    (c.in-Ok-hear.ensures.moves command s.received s.bytes s.dialogue)

pub returns-in-Err-hear-clause-err : goal.returns-in-Err-hear-clause-err
returns-in-Err-hear-clause-err g c =
    let piece = take c.in-Ok.count c.piece.new.buffer in
    let size : length piece ≡ c.in-Ok.count = simp length-take (omega (arith, c.in-Ok.ensures.count.1)) in
    λ command old s. heard-talks command c.in-Err-hear.end old (g.L.Link.told c.args.link.now)
    (g.L.Link.told c.piece.new.link) c.args.asker.now c.args.line.now.room c.piece.new.line.room
    c.args.line.now.is_cut piece c.hear.new.asker.lines s c.in-Ok.ensures.ok
    (omega (arith, size, c.in-Ok.ensures.count.2))
    (λ received bytes so_far. c.in-Err-hear.ensures.err command received bytes so_far)

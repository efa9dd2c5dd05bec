-- A piece fed after a stream gives the acts of the stream and the piece as one; after a stream nothing waits to be
-- heard, so that a piece of no byte takes no memory.
use Rattle.std.proofs.Common.{◌∙◌, ap, sym, subst}
use Rattle.std.proofs.lemmas.Result.{on_ok_weaker}
use Rattle.rpc_session.specs.declared.hearing.Hearing.{Hearing}
use Rattle.rpc_session.specs.Sessions.{joined, on, IsStill}
use Rattle.rpc_session.proofs.Steps.{heard_more}
use Rattle.rpc_session.proofs.Still.{still}
use Rattle.rpc_session.proofs.hearing.Bytes2Acts.feed.Goals as goal

pub returns-clause-stream : goal.returns-clause-stream
returns-clause-stream c = λ conn stream so_far.
    let before = c.args.acts.now.items in
    let piece = c.args.piece.now in
    let seen = ap (λ (h : Hearing). joined before (on h piece)) c.self.view_is in
    on_ok_weaker c.fed.result
    (λ told. heard_more c.streams_are_cut_anywhere.ensures conn stream piece c.args.self.now c.fed.new.hearing before
    c.fed.new.acts.items so_far (told ∙ seen))
    c.fed.ensures.ok

pub returns-clause-frugal : goal.returns-clause-frugal
returns-clause-frugal c = λ conn stream so_far none.
    c.fed.ensures.frugal
    (subst (λ (h : Hearing). IsStill h) (sym c.self.view_is)
    (still c.front_is_stable.ensures conn stream c.args.self.now c.args.acts.now.items so_far)) none

-- Without memory to join the piece to the rest the hearing is lost, and none of the piece's acts was added.
use Rattle.std.proofs.Common.{[], sym, refl, rules}
use Rattle.std.proofs.lemmas.List.{append-nil}
use Rattle.rpc_session.specs.Sessions.{on}
use Rattle.rpc_session.proofs.hearing.fed.Goals as goal

pub returns-in-Err-clause-err : goal.returns-in-Err-clause-err
returns-in-Err-clause-err c =
    let acts = c.args.acts.now.items in
    let all = (on c.args.hearing.now c.args.piece.now).acts in
    (search rules, ([], all, sym (append-nil acts), refl))

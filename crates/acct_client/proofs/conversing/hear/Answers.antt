-- A piece heard after those before is one stream with them: the dialogue goes on, waits or ends as over the whole.
use Rattle.acct_client.proofs.Ending.{heard-all, heard-ends, heard-moves, heard-on, whole-is}
use Rattle.acct_client.proofs.conversing.hear.Goals as goal

pub returns-in-Ok-clause-ok : goal.returns-in-Ok-clause-ok
returns-in-Ok-clause-ok c = λ command received bytes so_far.
    heard-on c.streams_are_cut_anywhere.ensures command c.args.asker.now c.take.new.self c.args.piece.now received bytes
    c.in-Ok.whole c.requires.awaiting so_far c.in-Ok.ensures.ok c.in-Ok.ensures.heard

pub returns-in-Ok-clause-whole : goal.returns-in-Ok-clause-whole
returns-in-Ok-clause-whole c =
    whole-is c.args.asker.now c.take.new.self c.args.piece.now c.in-Ok.whole c.in-Ok.ensures.ok

pub returns-in-Ok-clause-waits : goal.returns-in-Ok-clause-waits
returns-in-Ok-clause-waits c = λ command received bytes so_far not_yet.
    heard-all c.streams_are_cut_anywhere.ensures command c.args.asker.now c.take.new.self c.args.piece.now received
    bytes c.in-Ok.whole c.requires.awaiting so_far c.in-Ok.ensures.ok c.in-Ok.ensures.heard not_yet

pub returns-in-Ok-clause-moves : goal.returns-in-Ok-clause-moves
returns-in-Ok-clause-moves c = λ command received bytes so_far.
    heard-moves c.front_is_stable.ensures command c.args.asker.now c.take.new.self c.args.piece.now received bytes
    c.in-Ok.whole c.requires.awaiting so_far c.in-Ok.ensures.ok

pub returns-in-Err-clause-err : goal.returns-in-Err-clause-err
returns-in-Err-clause-err c = λ command received bytes so_far. rw c.end_of.ensures
    (heard-ends c.streams_are_cut_anywhere.ensures command c.args.asker.now c.take.new.self c.args.piece.now received
    bytes c.in-Err.error c.requires.awaiting so_far c.in-Err.ensures.err c.in-Err.ensures.last)

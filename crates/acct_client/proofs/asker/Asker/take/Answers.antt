-- After an error other than running out of memory, `Asker::take` is left with the dialogue of all of the stream so far.
use Rattle.std.proofs.Common.{◌∙◌}
use Rattle.acct_client.proofs.Asking.{last_of}
use Rattle.acct_client.proofs.asker.Asker.take.Goals as goal

pub returns-clause-last : goal.returns-clause-last
returns-clause-last c =
    last_of c.args.self.now c.replace-talk.result c.taken-talk.result.talk c.replace.new.dest c.args.piece.now _
    (c.replace-talk.ensures.value ∙ c.self.view_is) c.replace.ensures.after c.taken-talk.ensures.last

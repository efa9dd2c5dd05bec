-- What `asked` sends keeps what was taken; with nothing to send, the talk is the dialogue of the whole stream.
use Rattle.acct_client.proofs.Asking.{kept_asked, some_sent}
use Rattle.acct_client.proofs.asker.asked.Goals as goal

pub returns-in-Ok-clause-spoken : goal.returns-in-Ok-clause-spoken
returns-in-Ok-clause-spoken c =
    kept_asked c.front_is_stable.ensures c.args.talk.now c.is_some-talk.result _ c.requires.idle c.in-Ok.ensures
    (some_sent (λ b. b.items) c.in-Ok.bytes c.args.talk.now.state _ c.is_some-talk.ensures c.in-Ok.ensures)

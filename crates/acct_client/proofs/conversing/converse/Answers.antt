-- What was sent and the lines are those of the answers of all that was read.
use Rattle.acct_client.proofs.Spoken.{by_answers}
use Rattle.acct_client.proofs.conversing.converse.Goals as goal

pub returns : goal.returns
returns g c = λ command begun.
    by_answers c.dialogues_are_of_answers.ensures command c.exchange.result (g.L.Link.told c.args.link.now)
    (g.L.Link.told c.exchange.new.link) c.exchange.new.asker.lines (c.exchange.ensures command begun)

-- Where the caller gives a link, it is a new one, and the talk over it is the command's from its beginning.
use Rattle.std.proofs.Common.{IfSome, Option, Some, None}
use Rattle.acct_links.specs.Links.{IsNew}
use Rattle.acct_keeper.specs.declared.streams.Failed.{Failed}
use Rattle.acct_client.specs.Talks.{Sunk, TalksOver}
use Rattle.acct_client.proofs.calling.call.Goals as goal

some-more : {A : Type 0} (P Q : A → Type 0) (o : Option A) → ((a : A) → P a → Q a) → IfSome o P → IfSome o Q
some-more P Q None more p = tt
some-more P Q (Some a) more p = more a p

pub returns-in-Ok-clause-talks : goal.returns-in-Ok-clause-talks
returns-in-Ok-clause-talks g c = λ command begun.
    let told = g.C.L.Link.told in
    let before : Sunk = record { held = g.T.Sink.held c.args.out.now; faults = g.T.Sink.faults c.args.out.now } in
    let after : Sunk = record { held = g.T.Sink.held c.talk.new.out; faults = g.T.Sink.faults c.talk.new.out } in
    let over = λ (first : g.row.C-L.Denot) (now : g.row.C-L.Denot).
    TalksOver {E = Failed} command c.talk.result.end c.talk.result.printing (told first) (told now) before after in
    some-more (λ (now : g.row.C-L.Denot). over c.in-Ok.link now)
    (λ (now : g.row.C-L.Denot). (given : g.row.C-L.Denot) × IsNew (told given) × over given now)
    c.talk.result.link (λ now talks. (c.in-Ok.link, c.in-Ok.ensures.new, talks)) (c.talk.ensures.talks command begun)

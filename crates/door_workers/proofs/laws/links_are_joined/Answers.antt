-- What stands of the links of workers stands of them all where passes are joined, and so in the one history.
use Rattle.std.proofs.Common.{[]}
use Rattle.door_workers.proofs.LinksJoined.{was-working, joined-more, all-served}
use Rattle.door_workers.proofs.Worked.{idle-works}
use Rattle.door_workers.proofs.laws.links_are_joined.Goals as goal

pub returns-clause-idle : goal.returns-clause-idle
returns-clause-idle g c = λ start most v known own.
    was-working g.L.Link.told start most v [] (idle-works g.L.Link.told start most v known own)

pub returns-clause-alone : goal.returns-clause-alone
returns-clause-alone g c = λ start most v ss working. was-working g.L.Link.told start most v ss working

pub returns-clause-joined : goal.returns-clause-joined
returns-clause-joined g c = λ start most v w u ss ts takes left right.
    joined-more g.L.Link.told start most c.connections_are_opened_once.ensures v w u ss ts takes.own takes.apart
    takes.first takes.second takes.known left right

pub returns-clause-all : goal.returns-clause-all
returns-clause-all g c = λ start most v ss history joined legal known own.
    all-served g.L.Link.told start most c.others_change_nothing.ensures v ss history joined legal known own

-- A caller in memory holds new links alone: the one that `link` gives is new, and so are those that are left.
use Rattle.std.proofs.Common.{List, All, subst}
use Rattle.std.proofs.lemmas.List.Elements.{All-head, All-tail}
use Rattle.acct_links.specs.Links.{IsNew}
use Rattle.acct_links.proofs.memory_callers.MemoryCallerCaller.link.Goals as goal

pub invariant_of-self-2 : goal.invariant_of-self-2
invariant_of-self-2 g c = All-tail (λ link. IsNew (g.L.Link.told link)) c.take_first.result c.take_first.new.links.items
    (subst (λ (links : List g.row.L.Denot). All (λ link. IsNew (g.L.Link.told link)) links) c.take_first.ensures
    c.self.invariant)

pub returns-clause-new : goal.returns-clause-new
returns-clause-new g c = All-head (λ link. IsNew (g.L.Link.told link)) c.take_first.result c.take_first.new.links.items
    (subst (λ (links : List g.row.L.Denot). All (λ link. IsNew (g.L.Link.told link)) links) c.take_first.ensures
    c.self.invariant)

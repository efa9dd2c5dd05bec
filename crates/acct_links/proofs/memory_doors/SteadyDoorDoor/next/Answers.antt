-- `next` gives the first link to come, which is new; those after it are new too, and a closed door gives none.
use Rattle.std.proofs.Common.{List, All, drop, length, sym, subst, ap, ◌∙◌, arith, length-drop}
use Rattle.std.proofs.lemmas.List.Elements.{All-drop, All-head}
use Rattle.acct_links.specs.Links.{IsNew}
use Rattle.acct_links.specs.MemoryDoors.{SteadyDoorInMemory}
use Rattle.acct_links.proofs.memory_doors.SteadyDoorDoor.next.Goals as goal

pub invariant_of-self : goal.invariant_of-self
invariant_of-self g c =
    let links = c.self.inside.links.items in
    let fits = c.self.invariant.0 in
    rw c.pop_front.ensures.rest (
      omega (arith, fits, length-drop 1 links),
      c.self.invariant.1,
      λ closed. ap (λ (xs : List g.row.L.Denot). drop 1 xs) (c.self.invariant.2 closed),
      All-drop (λ link. IsNew (g.L.Link.told link)) 1 links c.self.invariant.3,
    )

pub returns-in-Some-clause-to_come : goal.returns-in-Some-clause-to_come
returns-in-Some-clause-to_come g c = rw c.pop_front.ensures.rest
    (All-drop (λ link. IsNew (g.L.Link.told link)) 1 c.self.inside.links.items c.self.invariant.3)

pub returns-in-Some-clause-coming : goal.returns-in-Some-clause-coming
returns-in-Some-clause-coming g c =
    sym (ap (λ (shown : SteadyDoorInMemory g.row.L.Denot). shown.coming) c.self.view_is) ∙ c.in-Some.ensures.items

pub returns-in-Some-clause-always : goal.returns-in-Some-clause-always
returns-in-Some-clause-always g c closed =
    let is_closed = ap (λ (shown : SteadyDoorInMemory g.row.L.Denot). shown.closed) c.self.view_is ∙ closed in
    cc (c.self.invariant.2 is_closed, c.in-Some.ensures.items)

pub returns-in-Some-clause-lent : goal.returns-in-Some-clause-lent
returns-in-Some-clause-lent g c =
    omega (arith, c.self.invariant.0, ap (λ (xs : List g.row.L.Denot). length xs) c.in-Some.ensures.items)

pub returns-in-Some-clause-new : goal.returns-in-Some-clause-new
returns-in-Some-clause-new g c = All-head (λ link. IsNew (g.L.Link.told link)) c.in-Some.link c.pop_front.new.self.items
    (subst (λ (links : List g.row.L.Denot). All (λ link. IsNew (g.L.Link.told link)) links) c.in-Some.ensures.items
    c.self.invariant.3)

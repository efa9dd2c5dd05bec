-- The doors so far and those dealt of the links that are left are all of them, and all of these links are new.
use Rattle.std.proofs.Common.{[], ◌∷◌, ◌++◌, All, ap, ◌∙◌, arith}
use Rattle.std.proofs.lemmas.List.Elements.{All-drop, All-nil}
use Rattle.acct_links.specs.Links.{IsNew}
use Rattle.acct_links.specs.MemoryDoors.{SteadyDoorInMemory, dealt, opened}
use Rattle.acct_links.proofs.Dealing.{dealt-more, first-has}
use Rattle.acct_links.proofs.memory_entrances.steady_doors.Goals as goal

pub new-requires : goal.new-requires
new-requires g c = rw (c.into_vec.ensures, c.next_links-links.ensures.first)
    (first-has (λ links. All (λ link. IsNew (g.L.Link.told link)) links) [] c.loop-i.plans.items
    (All-nil (λ link. IsNew (g.L.Link.told link))) c.loop-i.invariant.new)

pub returns-in_err-new-clause-new : goal.returns-in_err-new-clause-new
returns-in_err-new-clause-new g c = rw c.next_links-links.ensures.rest
    (All-drop (λ links. All (λ link. IsNew (g.L.Link.told link)) links) 1 c.loop-i.plans.items
    c.loop-i.invariant.new)

pub returns-in_err-push-clause-new : goal.returns-in_err-push-clause-new
returns-in_err-push-clause-new g c = rw c.next_links-links.ensures.rest
    (All-drop (λ links. All (λ link. IsNew (g.L.Link.told link)) links) 1 c.loop-i.plans.items
    c.loop-i.invariant.new)

pub loop-i-preserved : goal.loop-i-preserved
loop-i-preserved g c = record {
  doors = dealt-more (opened c.args.listener) [] c.args.workers c.loop-i._i c.loop-i.doors.items
      c.push.new.self.items (dealt (opened c.args.listener) [] c.args.workers c.args.plans.now.items)
      c.loop-i.plans.items c.next_links-links.new.plans.items (omega arith) c.loop-i.invariant.doors
      c.next_links-links.ensures.rest
      (c.in_ok-push.ensures.items
      ∙ ap (λ (door : SteadyDoorInMemory g.row.L.Denot). c.loop-i.doors.items ++ door ∷ [])
      (c.in_ok-new.ensures ∙ ap (opened c.args.listener) (c.into_vec.ensures ∙ c.next_links-links.ensures.first)));
  new = rw c.next_links-links.ensures.rest
      (All-drop (λ links. All (λ link. IsNew (g.L.Link.told link)) links) 1 c.loop-i.plans.items
      c.loop-i.invariant.new);
}

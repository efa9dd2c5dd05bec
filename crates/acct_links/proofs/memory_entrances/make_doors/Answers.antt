-- The doors so far and those dealt of the plans that are left are all of them, and every plan holds new links alone.
use Rattle.std.proofs.Common.{[], ◌∷◌, ◌++◌, All, ap, ◌∙◌, arith}
use Rattle.std.proofs.lemmas.List.Elements.{All-drop, All-nil}
use Rattle.acct_links.specs.Links.{IsNew}
use Rattle.acct_links.specs.MemoryDoors.{DoorInMemory, dealt, door_of, plain}
use Rattle.acct_links.proofs.Dealing.{dealt-more, first-has}
use Rattle.acct_links.proofs.memory_entrances.make_doors.Goals as goal

pub make_door-requires : goal.make_door-requires
make_door-requires g c = rw c.next_plan-plan.ensures.first
    (first-has (λ plan. All (λ link. IsNew (g.L.Link.told link)) plan.links) plain c.loop-i.plans.items
    (All-nil (λ link. IsNew (g.L.Link.told link))) c.loop-i.invariant.new)

pub returns-in_err-make_door-clause-new : goal.returns-in_err-make_door-clause-new
returns-in_err-make_door-clause-new g c = rw c.next_plan-plan.ensures.rest
    (All-drop (λ plan. All (λ link. IsNew (g.L.Link.told link)) plan.links) 1 c.loop-i.plans.items
    c.loop-i.invariant.new)

pub returns-in_err-push-clause-new : goal.returns-in_err-push-clause-new
returns-in_err-push-clause-new g c = rw c.next_plan-plan.ensures.rest
    (All-drop (λ plan. All (λ link. IsNew (g.L.Link.told link)) plan.links) 1 c.loop-i.plans.items
    c.loop-i.invariant.new)

pub loop-i-preserved : goal.loop-i-preserved
loop-i-preserved g c = record {
  doors = dealt-more (door_of c.args.listener) plain c.args.workers c.loop-i._i c.loop-i.doors.items
      c.push.new.self.items (dealt (door_of c.args.listener) plain c.args.workers c.args.plans.now.items)
      c.loop-i.plans.items c.next_plan-plan.new.plans.items (omega arith) c.loop-i.invariant.doors
      c.next_plan-plan.ensures.rest
      (c.in_ok-push.ensures.items
      ∙ ap (λ (door : DoorInMemory g.row.L.Denot). c.loop-i.doors.items ++ door ∷ [])
      (c.in_ok-make_door.ensures ∙ ap (door_of c.args.listener) c.next_plan-plan.ensures.first));
  new = rw c.next_plan-plan.ensures.rest
      (All-drop (λ plan. All (λ link. IsNew (g.L.Link.told link)) plan.links) 1 c.loop-i.plans.items
      c.loop-i.invariant.new);
}

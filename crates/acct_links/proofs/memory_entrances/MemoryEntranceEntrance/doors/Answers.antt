-- An entrance in memory gives the doors dealt of its plans: one for each worker, of the listener, open and unused.
use Rattle.std.proofs.Common.{◌≡◌, ◌∙◌, All, [], Some, false, length, refl, subst, ap}
use Rattle.acct_links.specs.declared.asking.Asking.{Asking}
use Rattle.acct_links.specs.Doors.{asked_after}
use Rattle.acct_links.specs.MemoryDoors.{EntranceInMemory, dealt, door_of, plain}
use Rattle.acct_links.proofs.Dealing.{dealt-each, free-cause, given-are, length-dealt}
use Rattle.acct_links.proofs.memory_entrances.MemoryEntranceEntrance.doors.Goals as goal

pub returns-clause-count : goal.returns-clause-count
returns-clause-count g c = given-are c.answer_with.result (λ doors. doors.items)
    (λ doors. length doors ≡ c.args.workers) c.in_ok-made.made.items
    (rw c.in_ok-made.ensures.doors (length-dealt (door_of c.args.listener) plain c.args.workers
    c.self.inside.plans.items)) c.answer_with.ensures.doors

pub returns-clause-listener : goal.returns-clause-listener
returns-clause-listener g c = given-are c.answer_with.result (λ doors. doors.items)
    (λ doors. All (λ door. door.door.listener ≡ c.args.listener) doors) c.in_ok-made.made.items
    (rw c.in_ok-made.ensures.doors (dealt-each (door_of c.args.listener) plain
    (λ door. door.door.listener ≡ c.args.listener) c.args.workers
    c.self.inside.plans.items (λ plan. refl))) c.answer_with.ensures.doors

pub returns-clause-open : goal.returns-clause-open
returns-clause-open g c = given-are c.answer_with.result (λ doors. doors.items)
    (λ doors. All (λ door. door.door.closed ≡ false) doors) c.in_ok-made.made.items
    (rw c.in_ok-made.ensures.doors (dealt-each (door_of c.args.listener) plain
    (λ door. door.door.closed ≡ false) c.args.workers
    c.self.inside.plans.items (λ plan. refl))) c.answer_with.ensures.doors

pub returns-clause-unused : goal.returns-clause-unused
returns-clause-unused g c = given-are c.answer_with.result (λ doors. doors.items)
    (λ doors. All (λ door. door.door.finished ≡ []) doors) c.in_ok-made.made.items
    (rw c.in_ok-made.ensures.doors (dealt-each (door_of c.args.listener) plain
    (λ door. door.door.finished ≡ []) c.args.workers
    c.self.inside.plans.items (λ plan. refl))) c.answer_with.ensures.doors

pub returns-clause-doors : goal.returns-clause-doors
returns-clause-doors g c = given-are c.answer_with.result (λ doors. doors.items)
    (λ doors. doors ≡ dealt (door_of c.args.listener) plain c.args.workers c.args.self.now.plans)
    c.in_ok-made.made.items (c.in_ok-made.ensures.doors
    ∙ ap (λ (shown : EntranceInMemory g.row.L.Denot). dealt (door_of c.args.listener) plain c.args.workers shown.plans)
    c.self.view_is) c.answer_with.ensures.doors

pub returns-clause-asked : goal.returns-clause-asked
returns-clause-asked g c =
    let asking : Asking = record {
      listener = c.args.listener;
      address = c.args.address.now;
      workers = c.args.workers;
      links = c.args.links;
    } in
    subst (λ (shown : EntranceInMemory g.row.L.Denot). Some c.answer_with.new.asked.items
    ≡ asked_after (Some shown.asked) asking c.answer_with.result) c.self.view_is c.answer_with.ensures.asked

pub returns-clause-cause : goal.returns-clause-cause
returns-clause-cause g c = free-cause c.answer_with.result c.args.self.now.faults c.self.inside.fault_count
    c.answer_with.ensures.free

-- A steady entrance gives the doors dealt of its links: one for each worker, of the listener, open and unused.
use Rattle.std.proofs.Common.{◌≡◌, ◌∙◌, All, [], Some, false, length, refl, subst, ap}
use Rattle.acct_links.specs.declared.asking.Asking.{Asking}
use Rattle.acct_links.specs.Doors.{asked_after}
use Rattle.acct_links.specs.MemoryDoors.{SteadyEntranceInMemory, dealt, opened}
use Rattle.acct_links.proofs.Dealing.{dealt-each, given-are, length-dealt}
use Rattle.acct_links.proofs.memory_entrances.SteadyEntranceEntrance.doors.Goals as goal

pub returns-clause-count : goal.returns-clause-count
returns-clause-count g c = given-are c.answer_with.result (λ doors. doors.items)
    (λ doors. length doors ≡ c.args.workers) c.in_ok-made.made.items
    (rw c.in_ok-made.ensures.doors (length-dealt (opened c.args.listener) [] c.args.workers
    c.self.inside.plans.items)) c.answer_with.ensures.doors

pub returns-clause-listener : goal.returns-clause-listener
returns-clause-listener g c = given-are c.answer_with.result (λ doors. doors.items)
    (λ doors. All (λ door. door.listener ≡ c.args.listener) doors) c.in_ok-made.made.items
    (rw c.in_ok-made.ensures.doors (dealt-each (opened c.args.listener) []
    (λ door. door.listener ≡ c.args.listener) c.args.workers
    c.self.inside.plans.items (λ plan. refl))) c.answer_with.ensures.doors

pub returns-clause-open : goal.returns-clause-open
returns-clause-open g c = given-are c.answer_with.result (λ doors. doors.items)
    (λ doors. All (λ door. door.closed ≡ false) doors) c.in_ok-made.made.items
    (rw c.in_ok-made.ensures.doors (dealt-each (opened c.args.listener) [] (λ door. door.closed ≡ false) c.args.workers
    c.self.inside.plans.items (λ plan. refl))) c.answer_with.ensures.doors

pub returns-clause-unused : goal.returns-clause-unused
returns-clause-unused g c = given-are c.answer_with.result (λ doors. doors.items)
    (λ doors. All (λ door. door.finished ≡ []) doors) c.in_ok-made.made.items
    (rw c.in_ok-made.ensures.doors (dealt-each (opened c.args.listener) [] (λ door. door.finished ≡ []) c.args.workers
    c.self.inside.plans.items (λ plan. refl))) c.answer_with.ensures.doors

pub returns-clause-doors : goal.returns-clause-doors
returns-clause-doors g c = given-are c.answer_with.result (λ doors. doors.items)
    (λ doors. doors ≡ dealt (opened c.args.listener) [] c.args.workers c.args.self.now.plans)
    c.in_ok-made.made.items (c.in_ok-made.ensures.doors
    ∙ ap (λ (shown : SteadyEntranceInMemory g.row.L.Denot).
    dealt (opened c.args.listener) [] c.args.workers shown.plans)
    c.self.view_is) c.answer_with.ensures.doors

pub returns-clause-asked : goal.returns-clause-asked
returns-clause-asked g c =
    let asking : Asking = record {
      listener = c.args.listener;
      address = c.args.address.now;
      workers = c.args.workers;
      links = c.args.links;
    } in
    subst (λ (shown : SteadyEntranceInMemory g.row.L.Denot). Some c.answer_with.new.asked.items
    ≡ asked_after (Some shown.asked) asking c.answer_with.result) c.self.view_is c.answer_with.ensures.asked

pub returns-clause-cause : goal.returns-clause-cause
returns-clause-cause g c = c.answer_with.ensures.cause

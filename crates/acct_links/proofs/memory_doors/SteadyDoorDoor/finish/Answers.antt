-- `finish` meets its contract, and its door stays sound: there was room for the link.
use Rattle.std.proofs.Common.{◌+◌, ◌<◌, ◌∷◌, ◌++◌, [], length, sym, subst, ap, ◌∙◌, arith}
use Rattle.acct_links.specs.MemoryDoors.{SteadyDoorInMemory, Lends}
use Rattle.acct_links.proofs.memory_doors.SteadyDoorDoor.finish.Goals as goal

pub push_reserved-requires : goal.push_reserved-requires
push_reserved-requires g c =
    let door = c.self.inside in
    let lends : length door.finished.items + length door.links.items < door.room =
    subst (λ (shown : SteadyDoorInMemory g.row.L.Denot). Lends shown) (sym c.self.view_is) c.requires in
    omega (arith, door.finished.ok.0, c.self.invariant.1)

pub invariant_of-self : goal.invariant_of-self
invariant_of-self g c =
    let door = c.self.inside in
    let lends : length door.finished.items + length door.links.items < door.room =
    subst (λ (shown : SteadyDoorInMemory g.row.L.Denot). Lends shown) (sym c.self.view_is) c.requires in (
      omega (arith, door.finished.ok.0, c.push_reserved.new.self.ok.0, c.push_reserved.ensures.len),
      omega (arith, c.self.invariant.1, c.push_reserved.ensures.capacity),
      c.self.invariant.2,
      c.self.invariant.3,
    )

pub returns-clause-finished : goal.returns-clause-finished
returns-clause-finished g c = c.push_reserved.ensures.items
    ∙ ap (λ (shown : SteadyDoorInMemory g.row.L.Denot). shown.finished ++ (c.args.conn, c.args.link) ∷ [])
    c.self.view_is

pub returns-clause-coming : goal.returns-clause-coming
returns-clause-coming g c = ap (λ (shown : SteadyDoorInMemory g.row.L.Denot). shown.coming) c.self.view_is

pub returns-clause-closed : goal.returns-clause-closed
returns-clause-closed g c = ap (λ (shown : SteadyDoorInMemory g.row.L.Denot). shown.closed) c.self.view_is

pub returns-clause-listener : goal.returns-clause-listener
returns-clause-listener g c = ap (λ (shown : SteadyDoorInMemory g.row.L.Denot). shown.listener) c.self.view_is

pub returns-clause-room : goal.returns-clause-room
returns-clause-room g c = ap (λ (shown : SteadyDoorInMemory g.row.L.Denot). shown.room) c.self.view_is

-- The entrance is handed out, or stays and the count of failures rises; all else stays, except what was asked.
use Rattle.acct_world.specs.Memory.{WorldInMemory}
use Rattle.acct_world.proofs.Holding.{entrance-taken, seen-entrance}
use Rattle.acct_world.proofs.memory.MemoryWorldWorld.take_entrance.Goals as goal

pub returns-clause-takes : goal.returns-clause-takes
returns-clause-takes g c =
    let s = c.self.inside in
    let w : WorldInMemory g.row.S.Denot g.row.T.Denot g.row.K.Denot g.row.E.Denot g.row.E-D.Denot g.row.C.Denot
    g.row.C-L.Denot g.row.P.Denot = record {
      name = s.name.items;
      config = s.config;
      events = s.events;
      sink = s.sink;
      keeper = s.keeper;
      entrance = s.entrance;
      doors = s.doors.items;
      caller = s.caller;
      talked = s.talked;
      spawner = s.spawner;
      periods = s.periods.items;
      asked = s.asked.items;
      source_faults = s.source_faults;
      sink_faults = s.sink_faults;
      keeper_faults = s.keeper_faults;
      entrance_faults = s.entrance_faults;
      caller_faults = s.caller_faults;
      spawner_faults = s.spawner_faults;
      takes = s.takes;
      failing = s.failing.items;
    } in
    seen-entrance w c.args.self.now _ c.hand.result c.self.view_is
    (entrance-taken w c.hand.new.place c.note.new.asked.items c.hand.new.faults c.note.new.takes c.in_ok-fails.fails
    c.hand.result c.in_ok-fails.ensures.noted c.hand.ensures)

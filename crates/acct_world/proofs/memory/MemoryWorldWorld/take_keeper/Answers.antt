-- The keeper is handed out under the empty name alone, or it stays and the count of failures rises.
use Rattle.std.proofs.Common.{◌≡◌, ◌∙◌, ◌++◌, ◌∷◌, [], List, ℕ, sym, ap}
use Rattle.std.specs.Str.{bytes_eq}
use Rattle.acct_world.specs.declared.part.Part.TheVariants as part
use Rattle.acct_world.specs.Memory.{WorldInMemory, is_empty_name}
use Rattle.acct_world.proofs.Holding.{keeper-taken, seen-keeper}
use Rattle.acct_world.proofs.memory.MemoryWorldWorld.take_keeper.Goals as goal

pub returns-clause-takes : goal.returns-clause-takes
returns-clause-takes g c =
    let s = c.self.inside in
    let n = c.args.name.now in
    let w : WorldInMemory g.row.S.Denot g.row.T.Denot g.row.K.Denot g.row.E.Denot g.row.E-D.Denot g.row.C.Denot
    g.row.C-L.Denot g.row.P.Denot = record {
      name = s.name.items;
      config = s.config;
      events = s.events;
      sink = s.sink;
      keeper = s.keeper;
      entrance = s.entrance;
      doors = s.doors.items;
      caller = s.caller;
      talked = s.talked;
      spawner = s.spawner;
      periods = s.periods.items;
      asked = s.asked.items;
      source_faults = s.source_faults;
      sink_faults = s.sink_faults;
      keeper_faults = s.keeper_faults;
      entrance_faults = s.entrance_faults;
      caller_faults = s.caller_faults;
      spawner_faults = s.spawner_faults;
      takes = s.takes;
      failing = s.failing.items;
    } in
    let named : c.in_ok-copy_of.field-0 ≡ n = c.in_ok-copy_of.ensures.copy ∙ c.as_bytes.ensures.value in
    let known : is_empty_name n ≡ c.is_same-is_known.result =
    ap (λ (bs : List ℕ). bytes_eq bs []) (sym c.as_bytes-2.ensures.value) ∙ sym c.is_same-is_known.ensures in
    seen-keeper g.K.Keeper.held w c.args.self.now _ n c.hand.result c.self.view_is
    (keeper-taken g.K.Keeper.held w n c.hand.new.place c.note.new.asked.items c.hand.new.faults c.note.new.takes
    c.in_ok-fails.fails c.is_same-is_known.result c.hand.result known
    (c.in_ok-fails.ensures.noted ∙ ap (λ (bs : List ℕ). s.asked.items ++ part.Keeper bs ∷ []) named) c.hand.ensures)

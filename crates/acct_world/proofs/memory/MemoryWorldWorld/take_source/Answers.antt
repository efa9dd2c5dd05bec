-- Under `-` the events can be had, under its own name the configuration, and under any other name nothing.
use Rattle.std.proofs.Common.{◌≡◌, ◌∙◌, ◌++◌, ◌∷◌, [], List, ℕ, sym, ap, true, false, codes}
use Rattle.std.specs.Str.{bytes_eq}
use Rattle.acct_world.specs.declared.part.Part.TheVariants as part
use Rattle.acct_world.specs.Memory.{WorldInMemory}
use Rattle.acct_world.proofs.Holding.{events-taken, config-taken, seen-source}
use Rattle.acct_world.proofs.memory.MemoryWorldWorld.take_source.Goals as goal

pub returns-then-is_same-clause-takes : goal.returns-then-is_same-clause-takes
returns-then-is_same-clause-takes g c =
    let s = c.self.inside in
    let n = c.args.name.now in
    let w : WorldInMemory g.row.S.Denot g.row.T.Denot g.row.K.Denot g.row.E.Denot g.row.E-D.Denot g.row.C.Denot
    g.row.C-L.Denot g.row.P.Denot = record {
      name = s.name.items;
      config = s.config;
      events = s.events;
      sink = s.sink;
      keeper = s.keeper;
      entrance = s.entrance;
      doors = s.doors.items;
      caller = s.caller;
      talked = s.talked;
      spawner = s.spawner;
      periods = s.periods.items;
      asked = s.asked.items;
      source_faults = s.source_faults;
      sink_faults = s.sink_faults;
      keeper_faults = s.keeper_faults;
      entrance_faults = s.entrance_faults;
      caller_faults = s.caller_faults;
      spawner_faults = s.spawner_faults;
      takes = s.takes;
      failing = s.failing.items;
    } in
    let named : c.in_ok-copy_of.field-0 ≡ n = c.in_ok-copy_of.ensures.copy ∙ c.as_bytes.ensures.value in
    let here : bytes_eq n (codes "-") ≡ true =
    ap (λ (bs : List ℕ). bytes_eq bs (codes "-")) (sym c.as_bytes-2.ensures.value) ∙ sym c.is_same.ensures
    ∙ c.if-is_same.true in
    seen-source w c.args.self.now _ n c.hand.result c.self.view_is
    (events-taken w n c.hand.new.place c.note.new.asked.items c.hand.new.faults c.note.new.takes c.in_ok-fails.fails
    c.hand.result here
    (c.in_ok-fails.ensures.noted ∙ ap (λ (bs : List ℕ). s.asked.items ++ part.Source bs ∷ []) named) c.hand.ensures)

pub returns-clause-takes : goal.returns-clause-takes
returns-clause-takes g c =
    let s = c.self.inside in
    let n = c.args.name.now in
    let h = c.hand-2 in
    let w : WorldInMemory g.row.S.Denot g.row.T.Denot g.row.K.Denot g.row.E.Denot g.row.E-D.Denot g.row.C.Denot
    g.row.C-L.Denot g.row.P.Denot = record {
      name = s.name.items;
      config = s.config;
      events = s.events;
      sink = s.sink;
      keeper = s.keeper;
      entrance = s.entrance;
      doors = s.doors.items;
      caller = s.caller;
      talked = s.talked;
      spawner = s.spawner;
      periods = s.periods.items;
      asked = s.asked.items;
      source_faults = s.source_faults;
      sink_faults = s.sink_faults;
      keeper_faults = s.keeper_faults;
      entrance_faults = s.entrance_faults;
      caller_faults = s.caller_faults;
      spawner_faults = s.spawner_faults;
      takes = s.takes;
      failing = s.failing.items;
    } in
    let named : c.in_ok-copy_of.field-0 ≡ n = c.in_ok-copy_of.ensures.copy ∙ c.as_bytes.ensures.value in
    let other : bytes_eq n (codes "-") ≡ false =
    ap (λ (bs : List ℕ). bytes_eq bs (codes "-")) (sym c.as_bytes-2.ensures.value) ∙ sym c.is_same.ensures
    ∙ c.if-is_same.false in
    let known : bytes_eq n s.name.items ≡ c.is_same-is_known.result =
    ap (λ (bs : List ℕ). bytes_eq bs s.name.items) (sym c.as_bytes-3.ensures.value)
    ∙ ap (λ (bs : List ℕ). bytes_eq c.as_bytes-3.result.now bs) (sym c.deref-2.ensures.value)
    ∙ sym c.is_same-is_known.ensures in
    seen-source w c.args.self.now _ n h.result c.self.view_is
    (config-taken w n h.new.place c.note.new.asked.items h.new.faults c.note.new.takes c.in_ok-fails.fails
    c.is_same-is_known.result h.result other known
    (c.in_ok-fails.ensures.noted ∙ ap (λ (bs : List ℕ). s.asked.items ++ part.Source bs ∷ []) named) h.ensures)

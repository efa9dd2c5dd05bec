-- Where `take_parts` is refused a part, it returns what it took, and else it has taken all.
use Rattle.std.proofs.Common.{◌∷◌, []}
use Rattle.acct_world.specs.declared.part.Part.TheVariants.{Source, Sink, Keeper}
use Rattle.acct_commands.specs.Commanded.{standard_input, no_name}
use Rattle.acct_commands.proofs.Worlds.{source-refused, sink-refused, keeper-refused, source-back, sink-back}
use Rattle.acct_commands.proofs.command.take_parts.Goals as goal

pub returns-in-Err : goal.returns-in-Err
returns-in-Err g c =
    let w = g.W.World in
    source-refused c.args.name.now (Source standard_input ∷ Sink ∷ Keeper no_name ∷ [])
    (w.seen c.args.world.now) (w.seen c.take_source.new.self) c.in-Err.e c.read_status.result
    c.in-Err.ensures.takes c.read_status.ensures

pub returns-in-Err-take_source : goal.returns-in-Err-take_source
returns-in-Err-take_source g c =
    let w = g.W.World in
    let status = c.read_status-in-Err-take_source in
    source-back c.args.name.now (Source standard_input ∷ Sink ∷ Keeper no_name ∷ [])
    (w.seen c.args.world.now) (w.seen c.take_source.new.self) (w.seen c.take_source-2.new.self)
    (w.seen c.give_source.new.self) c.in-Ok.config status.result c.in-Ok.ensures.takes
    (source-refused standard_input (Sink ∷ Keeper no_name ∷ []) (w.seen c.take_source.new.self)
    (w.seen c.take_source-2.new.self) c.in-Err-take_source.e status.result c.in-Err-take_source.ensures.takes
    status.ensures) c.give_source.ensures.gives

pub returns-in-Err-take_sink : goal.returns-in-Err-take_sink
returns-in-Err-take_sink g c =
    let w = g.W.World in
    let input = c.give_source-in-Err-take_sink in
    let config = c.give_source-in-Err-take_sink-2 in
    source-back c.args.name.now (Source standard_input ∷ Sink ∷ Keeper no_name ∷ [])
    (w.seen c.args.world.now) (w.seen c.take_source.new.self) (w.seen input.new.self) (w.seen config.new.self)
    c.in-Ok.config c.write_status.result c.in-Ok.ensures.takes
    (source-back standard_input (Sink ∷ Keeper no_name ∷ []) (w.seen c.take_source.new.self)
    (w.seen c.take_source-2.new.self) (w.seen c.take_sink.new.self) (w.seen input.new.self)
    c.in-Ok-take_source.events c.write_status.result c.in-Ok-take_source.ensures.takes
    (sink-refused (Keeper no_name ∷ []) (w.seen c.take_source-2.new.self) (w.seen c.take_sink.new.self)
    c.in-Err-take_sink.e c.write_status.result c.in-Err-take_sink.ensures.takes c.write_status.ensures)
    input.ensures.gives) config.ensures.gives

pub returns-in-Err-take_keeper : goal.returns-in-Err-take_keeper
returns-in-Err-take_keeper g c =
    let w = g.W.World in
    let sink = c.give_sink in
    let input = c.give_source-in-Err-take_keeper in
    let config = c.give_source-in-Err-take_keeper-2 in
    let status = c.store_status in
    source-back c.args.name.now (Source standard_input ∷ Sink ∷ Keeper no_name ∷ [])
    (w.seen c.args.world.now) (w.seen c.take_source.new.self) (w.seen input.new.self) (w.seen config.new.self)
    c.in-Ok.config status.result c.in-Ok.ensures.takes
    (source-back standard_input (Sink ∷ Keeper no_name ∷ []) (w.seen c.take_source.new.self)
    (w.seen c.take_source-2.new.self) (w.seen sink.new.self) (w.seen input.new.self)
    c.in-Ok-take_source.events status.result c.in-Ok-take_source.ensures.takes
    (sink-back (Keeper no_name ∷ []) (w.seen c.take_source-2.new.self) (w.seen c.take_sink.new.self)
    (w.seen c.take_keeper.new.self) (w.seen sink.new.self) c.in-Ok-take_sink.out status.result
    c.in-Ok-take_sink.ensures.takes
    (keeper-refused g.W.K.Keeper.held no_name [] (w.seen c.take_sink.new.self) (w.seen c.take_keeper.new.self)
    c.in-Err-take_keeper.e status.result c.in-Err-take_keeper.ensures.takes status.ensures)
    sink.ensures.gives) input.ensures.gives) config.ensures.gives

pub returns : goal.returns
returns g c =
    let w = g.W.World in record {
      one = w.seen c.take_source.new.self;
      two = w.seen c.take_source-2.new.self;
      three = w.seen c.take_sink.new.self;
      config = c.in-Ok.ensures.takes;
      events = c.in-Ok-take_source.ensures.takes;
      sink = c.in-Ok-take_sink.ensures.takes;
      keeper = c.in-Ok-take_keeper.ensures.takes;
    }

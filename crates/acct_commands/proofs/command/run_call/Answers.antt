-- Where `run_call` is refused a part, it returns what it took, and else it has made the call; its status isn't usage.
use Rattle.std.proofs.Common.{◌∷◌, [], inl, inr, None}
use Rattle.acct_world.specs.declared.part.Part.TheVariants.{Sink}
use Rattle.acct_commands.proofs.Callings.{has-called}
use Rattle.acct_commands.proofs.Usages.{refused-not-usage, talk-not-usage}
use Rattle.acct_commands.proofs.Worlds.{caller-refused, caller-back, sink-refused}
use Rattle.acct_commands.proofs.command.run_call.Goals as goal

pub returns-in-Err : goal.returns-in-Err
returns-in-Err g c =
    let w = g.W.World in
    let fails = caller-refused (Sink ∷ []) (w.seen c.args.world.now) (w.seen c.take_caller.new.self) c.in-Err.e
    c.link_status.result c.in-Err.ensures.takes c.link_status.ensures in
    record { calls = λ command begun. inl fails; not_usage = refused-not-usage _ _ _ _ fails }

pub returns-in-Err-take_sink : goal.returns-in-Err-take_sink
returns-in-Err-take_sink g c =
    let w = g.W.World in
    let status = c.write_status in
    let gives = c.give_caller in
    let fails = caller-back (Sink ∷ []) (w.seen c.args.world.now) (w.seen c.take_caller.new.self)
    (w.seen c.take_sink.new.self) (w.seen gives.new.self) c.in-Ok.caller None status.result c.in-Ok.ensures.takes
    (sink-refused [] (w.seen c.take_caller.new.self) (w.seen c.take_sink.new.self) c.in-Err-take_sink.e
    status.result c.in-Err-take_sink.ensures.takes status.ensures) gives.ensures.gives in
    record { calls = λ command begun. inl fails; not_usage = refused-not-usage _ _ _ _ fails }

pub returns : goal.returns
returns g c =
    let t = g.W.T.Sink in
    let k = g.W.C.Caller in
    let l = g.W.C.L.Link in
    let w = g.W.World in
    let r = c.call-end.result in
    let n = c.call-end.new in
    record {
      calls = λ command begun. inr (has-called (record {
        sunk = λ out. record { held = t.held out; faults = t.faults out };
        called = k.called;
        call_faults = k.faults;
        link = l.told;
      }) (record { address = c.args.address.now; command = command }) (w.seen c.args.world.now)
          (w.seen c.take_caller.new.self) (w.seen c.take_sink.new.self) (w.seen c.give_sink.new.self)
          (w.seen c.give_caller-2.new.self) c.in-Ok.caller n.caller c.in-Ok-take_sink.out n.out r.end r.printing r.link
          c.talk_status.result c.dialogues_come_to_their_ends.ensures c.talk_status.ensures c.in-Ok.ensures.takes
          c.in-Ok-take_sink.ensures.takes
          (c.call-end.ensures.talks command begun) c.call-end.ensures.none c.call-end.ensures.called
          c.call-end.ensures.later
          c.give_sink.ensures.gives c.give_caller-2.ensures.gives);
      not_usage = talk-not-usage r.end r.printing c.talk_status.result c.talk_status.ensures;
    }

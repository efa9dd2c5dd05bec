-- `run_lines` leaves the entries and output of the lines; a failed write or running out of memory leaves a prefix of
-- them.
use Rattle.std.proofs.Common.{Option, List, ℕ, ◌≡◌, ◌+◌, ◌-◌, ◌^◌, length, [], refl, true, sym, ap, ◌∙◌, subst, take}
use Rattle.std.proofs.Common.{arith, Err}
use Rattle.std.specs.Io.KnownBytes.{Appends}
use Rattle.acct_keeper.specs.Faults.{faults_after}
use Rattle.acct_server.specs.declared.events.LineError.{LineError}
use Rattle.acct_server.specs.declared.events.LineError.TheVariants.{NoMemory, Refused}
use Rattle.acct_server.specs.Replayed.{on_line}
use Rattle.acct_server.specs.steps.Running.{Running, standing, DoesLine}
use Rattle.acct_server.specs.Leaves.{RunsOut, is_write_fault}
use Rattle.acct_server.proofs.Bytes.{from_OnOk, from_OnErr, is_nil}
use Rattle.acct_server.proofs.Heard.{all-within, none-heard}
use Rattle.acct_server.proofs.Going.{going-starts, going-on, going-stops, going-may-stop, going-breaks, going-ends}
use Rattle.acct_server.proofs.Going.{going-end-breaks, going-refused, going-refused-breaks, going-fills}
use Rattle.acct_server.proofs.Going.{going-fill-breaks, going-fill-stops}
use Rattle.acct_server.proofs.replays.run_lines.Goals as goal

pub returns-in-Err-Refused-clause-through : goal.returns-in-Err-Refused-clause-through
returns-in-Err-Refused-clause-through g c = λ through.
    let t = g.T.Sink in
    let refused : c.line.result ≡ Err Refused =
    c.in-Err-Refused.is ∙ ap (λ (e : LineError). Err e) c.in-Err-Refused.field-0-is in
    going-refused c.args.run.now.machine.start (t.held c.args.out.now) (t.held c.loop-rest.out)
    (t.held c.finish-in-Err-Refused.new.out) c.args.bytes.now c.loop-rest.run c.line.new.self
    c.finish-in-Err-Refused.new.run c.loop-rest.number
    c.loop-rest.rest.now c.next_line.result.0.now c.next_line.result.1.now c.finish-in-Err-Refused.result
    c.loop-rest.invariant.going c.next_line.ensures.lines (c.line.ensures.refused refused)
    (c.finish-in-Err-Refused.ensures.through through)

pub returns-in-Err-Refused-clause-breaks : goal.returns-in-Err-Refused-clause-breaks
returns-in-Err-Refused-clause-breaks g c = λ fault.
    let t = g.T.Sink in
    let refused : c.line.result ≡ Err Refused =
    c.in-Err-Refused.is ∙ ap (λ (e : LineError). Err e) c.in-Err-Refused.field-0-is in
    going-refused-breaks c.args.run.now.machine.start (t.held c.args.out.now) (t.held c.loop-rest.out)
    (t.held c.finish-in-Err-Refused.new.out) c.args.bytes.now c.loop-rest.run c.line.new.self
    c.finish-in-Err-Refused.new.run c.loop-rest.number
    c.loop-rest.rest.now c.next_line.result.0.now c.next_line.result.1.now
    c.loop-rest.invariant.going c.next_line.ensures.lines (c.line.ensures.refused refused)
    (c.finish-in-Err-Refused.ensures.breaks fault)

pub returns-in-Err-Refused-clause-stops : goal.returns-in-Err-Refused-clause-stops
returns-in-Err-Refused-clause-stops g c = λ memory.
    let t = g.T.Sink in
    let refused : c.line.result ≡ Err Refused =
    c.in-Err-Refused.is ∙ ap (λ (e : LineError). Err e) c.in-Err-Refused.field-0-is in
    let kept = c.finish-in-Err-Refused.ensures.memory memory in
    let same : c.finish-in-Err-Refused.new.run ≡ c.loop-rest.run = kept.0 ∙ (c.line.ensures.refused refused).same in
    subst (λ (held : Option (List ℕ)). RunsOut c.args.run.now.machine.start (t.held c.args.out.now) held
    c.args.bytes.now
    c.finish-in-Err-Refused.new.run.machine.history) (sym kept.1)
    (going-stops c.args.run.now.machine.start (t.held c.args.out.now) (t.held c.loop-rest.out) c.args.bytes.now
    c.loop-rest.run c.finish-in-Err-Refused.new.run c.loop-rest.number c.loop-rest.rest.now c.loop-rest.invariant.going
    (ap (λ (r : Running). r.machine.history) same))

pub returns-in-Err-NoMemory-clause-stops : goal.returns-in-Err-NoMemory-clause-stops
returns-in-Err-NoMemory-clause-stops g c = λ memory.
    let t = g.T.Sink in
    let wanted : c.line.result ≡ Err NoMemory = c.in-Err-NoMemory.is
    ∙ ap (λ (e : LineError). Err e) c.in-Err-NoMemory.field-0-is in
    going-may-stop c.args.run.now.machine.start (t.held c.args.out.now) (t.held c.loop-rest.out) c.args.bytes.now
    c.loop-rest.run c.line.new.self c.loop-rest.number c.loop-rest.rest.now c.next_line.result.0.now
    c.next_line.result.1.now
    c.loop-rest.invariant.going c.next_line.ensures.lines (c.line.ensures.memory wanted)

pub returns-then-is_err-clause-breaks : goal.returns-then-is_err-clause-breaks
returns-then-is_err-clause-breaks g c = λ fault.
    let t = g.T.Sink in
    let part = from_OnErr c.write_all.result (sym c.is_err.ensures.value ∙ c.if-is_err.true) c.write_all.ensures.err in
    going-breaks c.args.run.now.machine.start (t.held c.args.out.now) (t.held c.loop-rest.out)
    (t.held c.write_all.new.out) c.args.bytes.now c.loop-rest.run c.line.new.self c.loop-rest.number
    c.loop-rest.rest.now c.next_line.result.0.now c.next_line.result.1.now c.in-Ok.ran.output.items c.in-Ok.ran.full
    part.0
    c.loop-rest.invariant.going c.next_line.ensures.lines c.in-Ok.ensures.does
    (subst (λ (bs : List ℕ). Appends (t.held c.loop-rest.out) (t.held c.write_all.new.out) (take part.0 bs))
    c.deref.ensures.value part.1)

pub loop-rest-preserved : goal.loop-rest-preserved
loop-rest-preserved g c =
    let t = g.T.Sink in
    record {
      going = going-on c.args.run.now.machine.start (t.held c.args.out.now) (t.held c.loop-rest.out)
          (t.held c.write_all.new.out) c.args.bytes.now c.loop-rest.run c.line.new.self c.loop-rest.number
          c.loop-rest.rest.now c.next_line.result.0.now c.next_line.result.1.now c.in-Ok.ran.output.items
          c.loop-rest.invariant.going c.next_line.ensures.lines
          (subst (λ (o : Option ℕ). DoesLine (λ verdicts. on_line verdicts (standing c.loop-rest.run)
          c.next_line.result.0.now) c.loop-rest.run c.in-Ok.ran.output.items o c.line.new.self) c.in_default.is
          c.in-Ok.ensures.does)
          (rw c.deref.ensures.value at (from_OnOk c.write_all.result
          (sym c.is_err.ensures.value ∙ c.if-is_err.false) c.write_all.ensures.ok));
      within = omega (arith, c.next_line.ensures.shorter);
      heard = λ n is.
          let all = length c.args.bytes.now in
          let before = all - length c.loop-rest.rest.now in
          let within = c.loop-rest.invariant.within in
          let parts = c.next_line.ensures.parts in
          all-within (before + length c.next_line.result.0.now) n c.line.new.self.peers
          (omega (arith, within, parts, is))
          (c.in-Ok.ensures.hears before (c.loop-rest.invariant.heard before (omega (arith, within))));
      faults = c.write_all.ensures.count
          ∙ ap (λ b. faults_after b (t.faults c.loop-rest.out)) (sym c.is_err.ensures.value ∙ c.if-is_err.false)
          ∙ c.loop-rest.invariant.faults;
    }

pub returns-clause-through : goal.returns-clause-through
returns-clause-through g c = λ through.
    let t = g.T.Sink in
    let empty : c.loop-rest.rest.now ≡ [] =
    is_nil c.loop-rest.rest.now (sym c.is_empty.ensures ∙ c.loop-rest-test.false) in
    going-ends c.args.run.now.machine.start (t.held c.args.out.now) (t.held c.loop-rest.out) (t.held c.finish-2.new.out)
    c.args.bytes.now c.loop-rest.run c.finish-2.new.run c.loop-rest.number c.loop-rest.rest.now c.finish-2.result
    c.loop-rest.invariant.going empty (c.finish-2.ensures.through through)

pub returns-clause-breaks : goal.returns-clause-breaks
returns-clause-breaks g c = λ fault.
    let t = g.T.Sink in
    let empty : c.loop-rest.rest.now ≡ [] =
    is_nil c.loop-rest.rest.now (sym c.is_empty.ensures ∙ c.loop-rest-test.false) in
    going-end-breaks c.args.run.now.machine.start (t.held c.args.out.now) (t.held c.loop-rest.out)
    (t.held c.finish-2.new.out) c.args.bytes.now c.loop-rest.run c.finish-2.new.run c.loop-rest.number
    c.loop-rest.rest.now c.loop-rest.invariant.going empty (c.finish-2.ensures.breaks fault)

pub returns-clause-stops : goal.returns-clause-stops
returns-clause-stops g c = λ memory.
    let t = g.T.Sink in
    let kept = c.finish-2.ensures.memory memory in
    subst (λ (held : Option (List ℕ)). RunsOut c.args.run.now.machine.start (t.held c.args.out.now) held
    c.args.bytes.now
    c.finish-2.new.run.machine.history) (sym kept.1)
    (going-stops c.args.run.now.machine.start (t.held c.args.out.now) (t.held c.loop-rest.out) c.args.bytes.now
    c.loop-rest.run c.finish-2.new.run c.loop-rest.number c.loop-rest.rest.now c.loop-rest.invariant.going
    (ap (λ (r : Running). r.machine.history) kept.0))

pub loop-rest-init : goal.loop-rest-init
loop-rest-init g c = record {
  going = going-starts (g.T.Sink.held c.args.out.now) c.args.bytes.now c.args.run.now c.requires.history
      c.requires.peers;
  within = omega arith;
  heard = λ n is. none-heard n c.args.run.now.peers c.requires.peers;
  faults = refl;
}

pub line-requires-clause-heard : goal.line-requires-clause-heard
line-requires-clause-heard g c =
    let before = length c.args.bytes.now - length c.loop-rest.rest.now in
    let within = c.loop-rest.invariant.within in
    let short = c.requires.short in
    all-within before (2 ^ 32) c.loop-rest.run.peers (omega (arith, short))
    (c.loop-rest.invariant.heard before (omega (arith, within)))

pub returns-in-Some-clause-through : goal.returns-in-Some-clause-through
returns-in-Some-clause-through g c = λ through.
    let t = g.T.Sink in
    let does = subst (λ (o : Option ℕ). DoesLine (λ verdicts. on_line verdicts (standing c.loop-rest.run)
    c.next_line.result.0.now) c.loop-rest.run c.in-Ok.ran.output.items o c.line.new.self) c.in-Some.is
    c.in-Ok.ensures.does in
    let appends : Appends (t.held c.loop-rest.out) (t.held c.write_all.new.out) c.in-Ok.ran.output.items =
    rw c.deref.ensures.value at (from_OnOk c.write_all.result (sym c.is_err.ensures.value ∙ c.if-is_err.false)
    c.write_all.ensures.ok) in
    going-fills c.args.run.now.machine.start (t.held c.args.out.now) (t.held c.loop-rest.out)
    (t.held c.write_all.new.out) (t.held c.finish.new.out) c.args.bytes.now c.loop-rest.run c.line.new.self
    c.finish.new.run c.loop-rest.number c.loop-rest.rest.now c.next_line.result.0.now c.next_line.result.1.now
    c.in-Ok.ran.output.items c.in-Some.count c.finish.result c.loop-rest.invariant.going c.next_line.ensures.lines does
    appends (c.finish.ensures.through through)

pub returns-in-Some-clause-breaks : goal.returns-in-Some-clause-breaks
returns-in-Some-clause-breaks g c = λ fault.
    let t = g.T.Sink in
    let does = subst (λ (o : Option ℕ). DoesLine (λ verdicts. on_line verdicts (standing c.loop-rest.run)
    c.next_line.result.0.now) c.loop-rest.run c.in-Ok.ran.output.items o c.line.new.self) c.in-Some.is
    c.in-Ok.ensures.does in
    let appends : Appends (t.held c.loop-rest.out) (t.held c.write_all.new.out) c.in-Ok.ran.output.items =
    rw c.deref.ensures.value at (from_OnOk c.write_all.result (sym c.is_err.ensures.value ∙ c.if-is_err.false)
    c.write_all.ensures.ok) in
    going-fill-breaks c.args.run.now.machine.start (t.held c.args.out.now) (t.held c.loop-rest.out)
    (t.held c.write_all.new.out) (t.held c.finish.new.out) c.args.bytes.now c.loop-rest.run c.line.new.self
    c.finish.new.run c.loop-rest.number c.loop-rest.rest.now c.next_line.result.0.now c.next_line.result.1.now
    c.in-Ok.ran.output.items c.in-Some.count c.loop-rest.invariant.going c.next_line.ensures.lines does appends
    (c.finish.ensures.breaks fault)

pub returns-in-Some-clause-stops : goal.returns-in-Some-clause-stops
returns-in-Some-clause-stops g c = λ memory.
    let t = g.T.Sink in
    let does = subst (λ (o : Option ℕ). DoesLine (λ verdicts. on_line verdicts (standing c.loop-rest.run)
    c.next_line.result.0.now) c.loop-rest.run c.in-Ok.ran.output.items o c.line.new.self) c.in-Some.is
    c.in-Ok.ensures.does in
    let appends : Appends (t.held c.loop-rest.out) (t.held c.write_all.new.out) c.in-Ok.ran.output.items =
    rw c.deref.ensures.value at (from_OnOk c.write_all.result (sym c.is_err.ensures.value ∙ c.if-is_err.false)
    c.write_all.ensures.ok) in
    let kept = c.finish.ensures.memory memory in
    subst (λ (held : Option (List ℕ)). RunsOut c.args.run.now.machine.start (t.held c.args.out.now) held
    c.args.bytes.now
    c.finish.new.run.machine.history) (sym kept.1)
    (going-fill-stops c.args.run.now.machine.start (t.held c.args.out.now) (t.held c.loop-rest.out)
    (t.held c.write_all.new.out) c.args.bytes.now c.loop-rest.run c.line.new.self c.finish.new.run c.loop-rest.number
    c.loop-rest.rest.now c.next_line.result.0.now c.next_line.result.1.now c.in-Ok.ran.output.items c.in-Some.count
    c.loop-rest.invariant.going c.next_line.ensures.lines does appends
    (ap (λ (r : Running). r.machine.history) kept.0))

pub returns-then-is_err-clause-faults : goal.returns-then-is_err-clause-faults
returns-then-is_err-clause-faults g c =
    let t = g.T.Sink in
    c.write_all.ensures.count
    ∙ ap (λ b. faults_after b (t.faults c.loop-rest.out)) (sym c.is_err.ensures.value ∙ c.if-is_err.true)
    ∙ ap (λ n. faults_after true n) c.loop-rest.invariant.faults

pub returns-in-Some-clause-faults : goal.returns-in-Some-clause-faults
returns-in-Some-clause-faults g c =
    let t = g.T.Sink in
    c.finish.ensures.faults
    ∙ ap (λ n. faults_after (is_write_fault c.finish.result) n)
    (c.write_all.ensures.count
    ∙ ap (λ b. faults_after b (t.faults c.loop-rest.out)) (sym c.is_err.ensures.value ∙ c.if-is_err.false)
    ∙ c.loop-rest.invariant.faults)

pub returns-in-Err-Refused-clause-faults : goal.returns-in-Err-Refused-clause-faults
returns-in-Err-Refused-clause-faults g c =
    c.finish-in-Err-Refused.ensures.faults
    ∙ ap (λ n. faults_after (is_write_fault c.finish-in-Err-Refused.result) n) c.loop-rest.invariant.faults

pub returns-clause-faults : goal.returns-clause-faults
returns-clause-faults g c =
    c.finish-2.ensures.faults ∙ ap (λ n. faults_after (is_write_fault c.finish-2.result) n)
    c.loop-rest.invariant.faults

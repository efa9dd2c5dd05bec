-- A plan leaves sound rows and takes the numbers of the outbox; `Store::pass` runs out of memory only where it may.
use Rattle.std.proofs.Common.{rules, ◌≡◌, subst, sym}
use Rattle.acct_rules.specs.declared.planned.Planned.{Planned}
use Rattle.acct_rules.specs.Profiles.{Operation}
use Rattle.acct_operations.specs.Frugal.{taken_by}
use Rattle.acct_operations.specs.Table.{operation}
use Rattle.acct_machine.specs.declared.entry.Verdict.TheVariants.{NoMemory}
use Rattle.acct_machine.specs.State.{State}
use Rattle.acct_machine.specs.Committing.{MayCommit}
use Rattle.acct_machine.specs.steps.Concluding.{Concludes}
use Rattle.acct_machine.specs.Step.{concluded_by, planned_of}
use Rattle.acct_machine.specs.Wants.{MayEndWith, WantsRoom}
use Rattle.acct_machine.proofs.Handles.{keeps}
use Rattle.acct_machine.proofs.Ruling.{planned-takes}
use Rattle.acct_machine.proofs.Wanting.{wants-room, may-have, is-frugal, Wants}
use Rattle.acct_machine.proofs.store.Store.pass.Goals as goal

pub plan-requires-clause-sound : goal.plan-requires-clause-sound
plan-requires-clause-sound g c = c.requires.sound.rows

pub conclude-requires-clause-may : goal.conclude-requires-clause-may
conclude-requires-clause-may g c =
    let o : Operation = operation c.args.work in
    let s : State = c.args.self.now in
    let is : planned_of o s c.args.conn c.args.call.now ≡ c.in-Ok.planned = search rules in
    subst (λ (p : Planned). MayCommit p.plan s.rows) is (record {
      before = c.requires.sound.rows;
      later = (keeps c.outs_stay_sound.ensures c.puts_are_found.ensures c.operations_are_right.ensures
          c.operations_keep_rows.ensures s.config s c.args.conn c.args.call.now o c.requires.right c.requires.sound
          c.requires.spelled c.requires.passed).sound;
      numbers = planned-takes o s c.args.conn c.args.call.now (c.operations_are_right.ensures.right c.args.work);
    })

pub returns-in-Ok : goal.returns-in-Ok
returns-in-Ok g c =
    let o : Operation = operation c.args.work in
    let s : State = c.args.self.now in
    let a = c.args in
    let r = c.conclude.result in
    let is : planned_of o s a.conn a.call.now ≡ c.in-Ok.planned = search rules in
    let whole = c.conclude.ensures in
    let wants : Wants (taken_by a.work) o s a.conn a.call.now r.0 =
    wants-room c.operations_are_frugal.ensures a.work s a.conn a.call.now r.0
    (subst (λ (p : Planned). WantsRoom s a.conn p r.0) (sym is) whole.allowed) in
    subst (λ (p : Planned). Concludes g.K.Keeper.held g.K.Keeper.faults a.keeper.now c.conclude.new.keeper
    (concluded_by s a.conn a.call.now p) (MayEndWith s a.conn a.call.now) s c.conclude.new.self r) (sym is) (record {
      state = whole.state;
      reply = whole.reply;
      allowed = (
        may-have c.operations_are_frugal.ensures a.work s a.conn a.call.now r.0 c.requires.passed wants,
        is-frugal a.work s a.conn a.call.now r.0 c.requires.found wants,
      );
      stored = whole.stored;
      counts = whole.counts;
      later = whole.later;
      quiet = whole.quiet;
    })

-- memory ran out while it was planned
pub returns-in-Err : goal.returns-in-Err
returns-in-Err g c =
    let a = c.args in
    let s : State = a.self.now in
    let o : Operation = operation a.work in
    let wants : Wants (taken_by a.work) o s a.conn a.call.now NoMemory = c.in-Err.ensures.frugal in
    record {
      state = search rules;
      reply = search rules;
      allowed = (
        may-have c.operations_are_frugal.ensures a.work s a.conn a.call.now NoMemory c.requires.passed wants,
        is-frugal a.work s a.conn a.call.now NoMemory c.requires.found wants,
      );
      stored = search rules;
      counts = search rules;
      later = search rules;
      quiet = search rules;
    }

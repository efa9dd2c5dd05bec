-- Where `run_audit` isn't handed out all parts, it has nothing else to do, and else it runs over them; its
-- status isn't usage.
use Rattle.std.proofs.Common.{inl, inr}
use Rattle.acct_server.specs.Replaying.{TellingReplay}
use Rattle.acct_commands.specs.Commanded.{auditing}
use Rattle.acct_commands.proofs.Worlds.{has-run}
use Rattle.acct_commands.proofs.Audits.{audit-not-usage}
use Rattle.acct_commands.proofs.Usages.{refused-not-usage, run-not-usage}
use Rattle.acct_commands.proofs.command.run_audit.Goals as goal

pub returns-in-Err : goal.returns-in-Err
returns-in-Err g c = record {
  commanded = inl c.in-Err.ensures;
  not_usage = refused-not-usage _ _ _ _ c.in-Err.ensures;
}

pub returns-in-Ok : goal.returns-in-Ok
returns-in-Ok g c =
    let s = g.W.S.Source in
    let t = g.W.T.Sink in
    let k = g.W.K.Keeper in
    let w = g.W.World in
    let parts = c.in-Ok in
    let told : TellingReplay _ _ _ = record {
      left = s.left;
      read_faults = s.faults;
      held = t.held;
      write_faults = t.faults;
      pairs = k.held;
      store_faults = k.faults;
    } in
    let runs = has-run (auditing told) c.args.name.now (w.seen c.args.world.now) (w.seen c.take_parts.new.world)
    (w.seen c.run_audit_parts.new.world)
    (record { config = parts.config; events = parts.events; out = parts.out; keeper = parts.keeper })
    c.run_audit_parts.result
    c.requires parts.ensures c.run_audit_parts.ensures in
    record {
      commanded = inr runs;
      not_usage = run-not-usage (auditing told) _ _ _ _ (audit-not-usage told) runs;
    }

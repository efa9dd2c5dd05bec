-- Where the words are no replay, no audit, no `gen`, no `serve` and no `hooks`, what `account` does is the call that
-- their form spells.
use Rattle.std.proofs.Common.{◌≡◌, List, ℕ, None, map, sym}
use Rattle.std.specs.String.{string_bytes}
use Rattle.acct_commands.specs.Words.{audit_form, gen_form, serve_form, hooks_form}
use Rattle.acct_commands.proofs.Callings.{does-call}
use Rattle.acct_commands.proofs.command.account.Goals as goal

pub returns-then-is_call_form-clause-commanded : goal.returns-then-is_call_form-clause-commanded
returns-then-is_call_form-clause-commanded g c =
    let s = g.W.S.Source in
    let t = g.W.T.Sink in
    let k = g.W.K.Keeper in
    let e = g.W.E.Entrance in
    let w = g.W.World in
    let words : List (List ℕ) = map string_bytes c.args.words.now.items in
    let no_audit : audit_form words ≡ None = c.in_default-audit_name.ensures in
    let no_gen : gen_form words ≡ None = sym c.in_default-gen_users.ensures.value in
    let no_serve : serve_form words ≡ None = c.in_default-serve_names.ensures in
    let no_hooks : hooks_form words ≡ None = c.in_default-hooks_names.ensures in
    does-call (record {
      replay = record {
        left = s.left;
        read_faults = s.faults;
        held = t.held;
        write_faults = t.faults;
        pairs = k.held;
        store_faults = k.faults;
      };
      serve = record {
        left = s.left;
        read_faults = s.faults;
        asked = e.asked;
        entrance_faults = e.faults;
        served = record {
          serving = record { door = g.W.E.D.Door; told = g.W.E.D.L.Link.told; pairs = k.held; faults = k.faults };
          spawner = g.W.P.Spawner;
        };
      };
      call = record {
        sunk = λ out. record { held = t.held out; faults = t.faults out };
        called = g.W.C.Caller.called;
        call_faults = g.W.C.Caller.faults;
        link = g.W.C.L.Link.told;
      };
      hooks = record {
        left = s.left;
        read_faults = s.faults;
        hooks = record {
          pairs = k.held;
          faults = k.faults;
          runs = g.W.P.Spawner.runs;
          failed = g.W.P.Spawner.failed;
        };
      };
    }) words (w.seen c.args.world.now) (w.seen c.run_client.new.world) c.run_client.result c.in_default.ensures no_audit
    no_gen no_serve no_hooks c.run_client.ensures.calls

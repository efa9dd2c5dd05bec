-- Each round so far but the last was full and the next went on from it; the last isn't full, or no more are allowed.
use Rattle.std.proofs.Common.{◌≡◌, ◌-◌, ◌<◌, ◌∷◌, [], ◌++◌, true, sym, ap, ◌∙◌, subst, arith}
use Rattle.std.proofs.lemmas.Bool.{false≢true}
use Rattle.acct_server.specs.Beside.{TellingBeside}
use Rattle.acct_commands.specs.Serving.{IsRound, ending, is_full}
use Rattle.acct_commands.proofs.GoingOn.{goes-on}
use Rattle.acct_commands.proofs.Periods.{so-far-one, so-far-more, so-far-all, keeps-more}
use Rattle.acct_commands.proofs.serving.serve_rounds.Goals as goal
use Rattle.acct_commands.proofs.serving.serve_rounds.Goals.{then-loop-alloc-test+else-more-gt1, else-loop-alloc-test}

pub loop-alloc-init : goal.loop-alloc-init
loop-alloc-init g c =
    let a = c.args in
    let telling : TellingBeside _ _ _ _ = record {
      serving = record {
        door = g.W.E.D.Door;
        told = g.W.E.D.L.Link.told;
        pairs = g.W.K.Keeper.held;
        faults = g.W.K.Keeper.faults;
      };
      spawner = g.W.P.Spawner;
    } in
    let e = c.serve_round-status.ensures in
    let r = e.runs in
    record {
      some = c.requires.right.limits.periods.0;
      rounds = (
        [],
        r.round,
        so-far-one telling a.config.now a.doors.now.items a.keeper a.spawner r.round r.is,
        r.left_doors,
        r.left_keeper,
        r.left_spawner,
        r.ends,
        r.keeps,
        a.doors.now.items,
        a.keeper,
        a.spawner,
        r.is,
      );
      few = e.few;
      configured = e.configured;
      handed = e.handed;
      not_usage = e.not_usage;
    }

pub loop-alloc-preserved : goal.loop-alloc-preserved
loop-alloc-preserved g c =
    let a = c.args in
    let telling : TellingBeside _ _ _ _ = record {
      serving = record {
        door = g.W.E.D.Door;
        told = g.W.E.D.L.Link.told;
        pairs = g.W.K.Keeper.held;
        faults = g.W.K.Keeper.faults;
      };
      spawner = g.W.P.Spawner;
    } in
    let config = a.config.now in
    let inv = c.loop-alloc.invariant in
    let earlier = inv.rounds.0 in
    let last = inv.rounds.1 in
    let e = c.serve_round.ensures in
    let r = e.runs in
    let more = c.loop-alloc.more in
    let again = c.if-more-gt1.true in
    let some : 0 < more - 1 = omega arith in
    let full : is_full (ending last) ≡ true =
    sym (ap (λ s. is_full s) inv.rounds.6) ∙ sym c.is_full.ensures ∙ c.loop-alloc-test.true in
    let is = subst (λ ds. IsRound telling config ds last.left.keeper last.spawner r.round) inv.rounds.3
    (subst (λ k. IsRound telling config c.loop-alloc.doors.items k last.spawner r.round) inv.rounds.4
    (subst (λ sp. IsRound telling config c.loop-alloc.doors.items c.loop-alloc.back sp r.round) inv.rounds.5 r.is)) in
    record {
      some = omega arith;
      rounds = (
        earlier ++ last ∷ [],
        r.round,
        so-far-more telling config (more - 1) a.doors.now.items a.keeper a.spawner earlier last r.round inv.rounds.2
            full some is
            (goes-on telling config c.serving_with_hooks_serves.ensures.serves inv.rounds.8 inv.rounds.9 inv.rounds.10
            last r.round c.requires.right c.pairs_are_of_one.ensures c.kept_states_are_sound.ensures inv.rounds.11 is
            full),
        r.left_doors,
        r.left_keeper,
        r.left_spawner,
        r.ends,
        keeps-more (g.W.World.seen a.world.now) (g.W.World.seen c.loop-alloc.world)
            (g.W.World.seen c.serve_round.new.world) (earlier ++ last ∷ []) r.round inv.rounds.7 r.keeps,
        last.doors,
        last.left.keeper,
        last.spawner,
        is,
      );
      few = e.few;
      configured = e.configured;
      handed = e.handed;
      not_usage = e.not_usage;
    }

pub returns-clause-runs : goal.returns-clause-runs
returns-clause-runs g c =
    let a = c.args in
    let telling : TellingBeside _ _ _ _ = record {
      serving = record {
        door = g.W.E.D.Door;
        told = g.W.E.D.L.Link.told;
        pairs = g.W.K.Keeper.held;
        faults = g.W.K.Keeper.faults;
      };
      spawner = g.W.P.Spawner;
    } in
    let inv = c.loop-alloc.invariant in
    let earlier = inv.rounds.0 in
    let last = inv.rounds.1 in
    let more = c.loop-alloc.more in
    record {
      earlier = earlier;
      last = last;
      are = so-far-all telling a.config.now (more - 1) a.doors.now.items a.keeper a.spawner earlier last inv.rounds.2
          (λ full. elim c.loop-alloc-test.branch [
            | then-loop-alloc-test+else-more-gt1 w ↦ let no = w.if-more-gt1.false in omega arith
            | else-loop-alloc-test w ↦ absurd (false≢true (sym w.loop-alloc-test.false ∙ c.is_full.ensures
                ∙ ap (λ s. is_full s) inv.rounds.6 ∙ full))
          ]);
      left_doors = inv.rounds.3;
      left_keeper = inv.rounds.4;
      left_spawner = inv.rounds.5;
      ends = inv.rounds.6;
      keeps = inv.rounds.7;
    }

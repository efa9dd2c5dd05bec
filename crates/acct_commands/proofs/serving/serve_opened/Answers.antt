-- With open doors the rounds are those that were served; where opening them fails, no round is and no period is kept.
use Rattle.std.proofs.Common.{[], ◌∷◌, ◌++◌, inl, inr, refl, sym, ◌∙◌, subst}
use Rattle.std.proofs.lemmas.List.{append-nil}
use Rattle.acct_commands.specs.Serving.{AreRounds}
use Rattle.acct_commands.proofs.serving.serve_opened.Goals as goal

pub returns-in-Ok-clause-runs : goal.returns-in-Ok-clause-runs
returns-in-Ok-clause-runs g c = λ first now.
    let runs = c.serve_rounds.ensures.runs in
    record {
      rounds = runs.earlier ++ runs.last ∷ [];
      leaves = λ spawning handed back by spelled. inr (inr (inr (record {
        config = c.args.config.now;
        spelled = spelled;
        by = by;
        doors = c.open_doors.new.doors.items;
        opens = c.in-Ok.ensures.ok;
        are = subst (λ sp. AreRounds (record {
          serving = record {
            door = g.W.E.D.Door;
            told = g.W.E.D.L.Link.told;
            pairs = g.W.K.Keeper.held;
            faults = g.W.K.Keeper.faults;
          };
          spawner = g.W.P.Spawner;
        }) c.args.config.now c.open_doors.new.doors.items c.args.keeper sp (runs.earlier ++ runs.last ∷ []))
            (sym handed) runs.are;
        earlier = runs.earlier;
        last = runs.last;
        splits = refl;
        is = runs.ends;
        left_doors = runs.left_doors;
        left_keeper = runs.left_keeper;
        left_spawner = back ∙ runs.left_spawner;
      })));
      keeps = runs.keeps;
    }

pub returns-in-Err-clause-runs : goal.returns-in-Err-clause-runs
returns-in-Err-clause-runs g c = λ first now. record {
  rounds = [];
  leaves = λ spawning handed back by spelled. inr (inr (inl (record {
    config = c.args.config.now;
    spelled = spelled;
    by = by;
    error = c.in-Err.e;
    stops = c.in-Err.ensures.err;
    is = c.entrance_status.ensures;
    keeper = refl;
    unused = back ∙ sym handed;
    none = refl;
  })));
  keeps = record {
    periods = λ tells. sym (append-nil (g.W.World.seen c.args.world.now).periods);
    others = refl;
  };
}

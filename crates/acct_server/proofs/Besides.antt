-- What serving with a hook promises, by what serving promises.
use Rattle.std.proofs.Common.{◌≡◌, ◌≤◌, List, Option, Some, None, IsSome, inl, inr, refl, sym, ap, ◌∙◌, subst}
use Rattle.acct_config.specs.declared.config.Config.{Config}
use Rattle.acct_config.specs.declared.config.Hook.{Hook}
use Rattle.acct_keeper.specs.Faults.{NotRisen}
use Rattle.acct_rows.specs.Rows.{Lists, Shown}
use Rattle.acct_server.specs.Beside.{TellingBeside, HasServedBeside, ServesNoneBeside, IsServeBeside, ServesBut}
use Rattle.acct_server.specs.Serving.{ServesQuietly, ServingIsComplete, IsComplete, IsServingsEnd, IsServe}
use Rattle.acct_server.specs.Serving.{served_status}
use Rattle.acct_server.specs.Headlines.{ServeComesTo, ServeGivesHeadline}
use Rattle.acct_server.specs.Replaying.{lists_in}
use Rattle.acct_server.specs.declared.serving.Served.{Served}
use Rattle.acct_server.specs.declared.status.Status.{Status}
use Rattle.acct_server.proofs.Outs.{beside-ends}

module _ {D L K P : Type 0} (telling : TellingBeside D L K P) where
  with-none : (config : Config) (before now : List D) (keeper : K) (spawner : P) (left : Served K) (after : P)
      → ServesNoneBeside telling config before now keeper spawner left after
      → telling.serving.faults keeper ≤ telling.serving.faults left.keeper
      → IsServe telling.serving config before now keeper (record left { status = left.status })
  with-none config before now keeper spawner left after none later = record {
    leaves = inl (record {
      opening = none.serves.opening;
      nothing = none.serves.nothing;
      rows = none.serves.rows;
      ends = none.serves.ends;
      doors = none.serves.doors;
      cause = none.serves.cause;
      kept = none.serves.kept;
    });
    later = later;
  }

  with-doors : (config : Config) (hook : Hook) (before now : List D) (keeper : K) (spawner : P) (left : Served K)
      (after : P) (has : HasServedBeside telling config hook before now keeper spawner left after)
      → telling.serving.faults keeper ≤ telling.serving.faults left.keeper
      → IsServe telling.serving config before now keeper (record left { status = served_status has.outcome })
  with-doors config hook before now keeper spawner left after has later =
      record { leaves = inr has.serves; later = later }

  no-rows : (left : Served K) (rows : Lists) → lists_in left.opening ≡ Some rows → left.opening ≡ None → ⊥
  no-rows left rows some none =
      let clash : None ≡ Some rows = sym (ap (λ (o : Option Shown). lists_in o) none) ∙ some in absurd cc

  pub serves-as-well : (config : Config) (hook : Hook) (before now : List D) (keeper : K) (spawner : P)
      (left : Served K) (after : P) → IsServeBeside telling config hook before now keeper spawner left after
      → ServesBut telling config before now keeper left
  serves-as-well config hook before now keeper spawner left after is = elim is.leaves [
    | inl none ↦ record {
      status = left.status;
      serves = with-none config before now keeper spawner left after none is.later;
      unserved = λ no. refl;
    }
    | inr has ↦ record {
      status = served_status has.outcome;
      serves = with-doors config hook before now keeper spawner left after has is.later;
      unserved = λ no. absurd (no-rows left has.serves.start.rows has.serves.opening no);
    }
  ]

  pub headline-beside : ServeGivesHeadline telling.serving → (config : Config) (hook : Hook) (before now : List D)
      (keeper : K) (spawner : P) (left : Served K) (after : P)
      → IsServeBeside telling config hook before now keeper spawner left after → IsSome left.opening
      → ServeComesTo telling.serving config before now keeper left
  headline-beside law config hook before now keeper spawner left after is some =
      let serves = serves-as-well config hook before now keeper spawner left after is in
      let comes = law config before now keeper (record left { status = serves.status }) serves.serves some in
      record { start = comes.start; headline = comes.headline }

  quiet-as : (before now : List D) (keeper : K) (left : Served K) (status : Status)
      → ServesQuietly telling.serving before now keeper left
      → ServesQuietly telling.serving before now keeper (record left { status = status })
  quiet-as before now keeper left status quiet = record {
    pairs = quiet.pairs;
    told = quiet.told;
    unbroken = quiet.unbroken;
    store = quiet.store;
    doors = quiet.doors;
  }

  pub complete-beside : ServingIsComplete telling.serving → (config : Config) (hook : Hook) (before now : List D)
      (keeper : K) (spawner : P) (left : Served K) (after : P)
      → IsServeBeside telling config hook before now keeper spawner left after
      → ServesQuietly telling.serving before now keeper left
      → NotRisen (telling.spawner.failed spawner) (telling.spawner.failed after)
      → IsComplete left.history left.status
  complete-beside law config hook before now keeper spawner left after is quiet still = elim is.leaves [
    | inl none ↦
        let all = law config before now keeper (record left { status = left.status })
        (with-none config before now keeper spawner left after none is.later)
        (quiet-as before now keeper left left.status quiet) in
        record { ends = all.ends; commits = all.commits }
    | inr has ↦
        let all = law config before now keeper (record left { status = served_status has.outcome })
        (with-doors config hook before now keeper spawner left after has is.later)
        (quiet-as before now keeper left (served_status has.outcome) quiet) in
        record {
          ends = subst (λ (s : Status). IsServingsEnd s) (sym has.status)
              (beside-ends has.outcome has.answer (telling.spawner.failed spawner) (telling.spawner.failed after)
              (telling.serving.faults keeper) has.serves.start.faults (telling.serving.faults left.keeper)
              has.serves.begun.count still quiet.store has.drains.held has.drains.fault has.fault all.ends);
          commits = all.commits;
        }
  ]

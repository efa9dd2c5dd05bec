-- What the command `gen N` does to a world. The functions tell of a sink the bytes that it holds, and its count of
-- faults.
use Rattle.std.specs.Prelude.{◌≡◌, ℕ, true, List, ◌∷◌, [], ◌++◌, ◌⊎◌, Option, Some}
use Rattle.acct_commands.specs.Generating.{IsGeneration}
use Rattle.acct_commands.specs.declared.generating.Generation.{Generation}
use Rattle.acct_world.specs.declared.part.Part.TheVariants.{Sink}
use Rattle.acct_server.specs.declared.status.Status.{Status}
use Rattle.acct_world.specs.World.{Seen}
use Rattle.acct_commands.specs.Commanded.{NotHandedOut, Keeps, period_between}

-- The sink was handed out: the summary of a replay of the generated events was written to it, the world keeps the
-- period that the replay left, and has the sink again. Nothing else was asked for.
pub record HasGenerated {S T K E D C L P : Type 0} (held : T → Option (List ℕ)) (faults : T → ℕ) (users : ℕ)
    (old new : Seen S T K E D C L P) (status : Status) : Type 0 where
  pub done : Generation
  pub before : T
  pub after : T
  pub generation : IsGeneration users (held before) (held after) (faults before) (faults after) done
  pub took : old.tells ≡ true → old.sink ≡ Some before
  pub gave : old.tells ≡ true → new.sink ≡ Some after
  pub sources : (name : List ℕ) → new.source name ≡ old.source name
  pub keepers : (name : List ℕ) → new.keeper name ≡ old.keeper name
  pub entrance : new.entrance ≡ old.entrance
  pub caller : new.caller ≡ old.caller
  pub spawner : new.spawner ≡ old.spawner
  pub asked : old.tells ≡ true → new.asked ≡ old.asked ++ Sink ∷ []
  pub keeps : Keeps old new (period_between done.opening done.history done.rows []) done.ended status

abbrev pub Generates : {S T K E D C L P : Type 0} → (T → Option (List ℕ)) → (T → ℕ) → ℕ → Seen S T K E D C L P
    → Seen S T K E D C L P → Status → Type 0
Generates held faults users old new status =
    NotHandedOut (Sink ∷ []) old new status ⊎ HasGenerated held faults users old new status

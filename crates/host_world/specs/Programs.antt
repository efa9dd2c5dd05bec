-- Programs of the system: what a spawner answers for the end of one, the command of a run, and its words.
use Rattle.std.specs.Prelude.{◌≡◌, ℕ, ℤ, List, [], ◌∷◌, ◌++◌, false, Option, Some, None, IfSome, unsigned_abs}
use Rattle.std.specs.Prelude.{string_bytes}
use Rattle.std.specs.Process.{exit_code, command_program, command_args, command_var, command_dir, clears_env}
use Rattle.std.specs.declared.alloc.Global.{Global}
use Rattle.std.specs.declared.process.command.Command.{Command}
use Rattle.account_hooks.specs.declared.runs.Ran.{Ran}
use Rattle.account_hooks.specs.declared.runs.Ran.TheVariants.{Exited, Failed}
use Rattle.host_world.specs.declared.program_end.ProgramEnd.{ProgramEnd}
use Rattle.host_world.specs.declared.failed_run.FailedRun.{FailedRun}
use Rattle.host_world.specs.declared.program_end.ProgramEnd.TheVariants.{Ended, NotStarted, NotWaited}

-- a program that ended by itself has a code, and one that a signal ended has none
abbrev pub ran_with : Option ℤ → Ran
ran_with (Some code) = Exited (unsigned_abs code)
ran_with None = Failed

abbrev pub ran_of : ProgramEnd → Ran
ran_of (Ended status) = ran_with (exit_code status)
ran_of (NotStarted error) = Failed
ran_of (NotWaited error) = Failed

-- A command of this program with these arguments, which runs in the folder of this process and in its environment.
pub record Runs (program : List ℕ) (arguments : List (List ℕ)) (command : Command Global) : Type 0 where
  pub program_is : command_program command ≡ program
  pub arguments_are : command_args command ≡ arguments
  pub keeps : clears_env command ≡ false
  pub sets_none : (name : List ℕ) → command_var command name ≡ None
  pub stays : command_dir command ≡ None

-- a text and others behind it, each after a space
abbrev pub spaced : List ℕ → List (List ℕ) → List ℕ
spaced text [] = text
spaced text (next ∷ texts) = spaced (text ++ 32 ∷ next) texts

-- what is kept of a run of this program with these arguments, for which a spawner answers so
pub record IsOfRun (program : List ℕ) (arguments : List (List ℕ)) (ran : Ran) (run : FailedRun) : Type 0 where
  pub words : IfSome run.words (λ words. string_bytes words ≡ spaced program arguments)
  pub end : ran_of run.end ≡ ran

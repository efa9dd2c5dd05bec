-- The arguments so far are the command's.
use Rattle.std.proofs.Common.{map, string_bytes, take}
use Rattle.host_world.specs.Programs.{Runs}
use Rattle.host_world.proofs.run_command.command_of.Given as goal

abbrev pub invariant-loop-argument : goal.invariant-loop-argument
invariant-loop-argument l = Runs l.program (map string_bytes (take l.argument-index l.arguments)) l.command

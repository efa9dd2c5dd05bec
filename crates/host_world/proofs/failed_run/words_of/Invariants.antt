-- What is left to be added, behind the text so far, makes the whole.
use Rattle.std.proofs.Common.{◌≡◌, map, string_bytes, drop}
use Rattle.host_world.specs.Programs.{spaced}
use Rattle.host_world.proofs.failed_run.words_of.Given as goal

abbrev pub invariant-loop-argument : goal.invariant-loop-argument
invariant-loop-argument l =
    spaced (string_bytes l.words) (map string_bytes (drop l.argument-index l.arguments))
    ≡ spaced l.program (map string_bytes l.arguments)

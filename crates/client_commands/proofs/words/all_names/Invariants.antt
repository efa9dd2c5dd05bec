-- The names so far are those that the first so many words spell, in units of 16 bits.
use Rattle.std.proofs.Common.{◌≡◌, map, take, string_bytes, length, All}
use Rattle.acct_calls.specs.Names.{AreUnits}
use Rattle.client_commands.specs.Words.{name_in}
use Rattle.client_commands.proofs.words.all_names.Given as goal

abbrev pub invariant-loop-word : goal.invariant-loop-word
invariant-loop-word l = record {
  names : l.names ≡ map name_in (map string_bytes (take l.word-index l.words));
  units : All AreUnits l.names;
  count : length l.names ≡ l.word-index;
}

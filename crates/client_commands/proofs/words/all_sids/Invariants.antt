-- Each word that was passed spells a SID, and these are the SIDs so far: the words left decide whether all do.
use Rattle.std.proofs.Common.{◌≡◌, map, drop, string_bytes, length, All}
use Rattle.dtyp_sid.specs.Sids.{IsSid}
use Rattle.client_commands.specs.Words.{sid_of_word, all_sids}
use Rattle.client_commands.proofs.Reading.{onto}
use Rattle.client_commands.proofs.words.all_sids.Given as goal

abbrev pub invariant-loop-word : goal.invariant-loop-word
invariant-loop-word l = record {
  sids : onto l.sids (all_sids (map string_bytes (drop l.word-index l.words))) ≡ all_sids (map string_bytes l.words);
  fit : All IsSid (map sid_of_word l.sids);
  count : length l.sids ≡ l.word-index;
}

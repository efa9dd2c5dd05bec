-- The SIDs so far are those of the first so many words.
use Rattle.std.proofs.Common.{◌≡◌, map, take}
use Rattle.client_commands.specs.Words.{sid_of_word}
use Rattle.client_commands.proofs.steps.sids_of_words.Given as goal

abbrev pub invariant-loop-word : goal.invariant-loop-word
invariant-loop-word l = l.sids.items ≡ map sid_of_word (take l.word-index l.words)

-- The SIDs read so far are those of the words that were passed.
use Rattle.std.proofs.Common.{◌++◌, ◌∷◌, [], ◌∙◌, sym, ap, map, take}
use Rattle.std.proofs.lemmas.List.{map_more}
use Rattle.client_commands.specs.Words.{sid_of_word}
use Rattle.client_commands.proofs.steps.sids_of_words.Goals as goal

pub loop-word-preserved : goal.loop-word-preserved
loop-word-preserved c =
    let words = c.args.words.now in
    let place = c.loop-word.word-index in
    let word = c.word-item.result in
    c.in_ok-push.ensures.items
    ∙ ap (λ sids. sids ++ sid_of_word word ∷ []) c.loop-word.invariant
    ∙ ap (λ w. map sid_of_word (take place words) ++ sid_of_word w ∷ []) c.word-item.is
    ∙ sym (map_more sid_of_word words place word c.loop-word-test.true)

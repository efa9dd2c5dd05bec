-- The SIDs so far, with those of the words left, are those of all the words, and each can be written.
use Rattle.std.proofs.Common.{◌≡◌, ◌+◌, ◌++◌, ◌∷◌, [], Some, ◌∙◌, sym, ap, subst, map, drop, string_bytes, length, All}
use Rattle.std.proofs.lemmas.List.{at_drop_more, map-append, length-append}
use Rattle.std.proofs.lemmas.List.Elements.{All-push}
use Rattle.dtyp_sid.specs.Sids.{IsSid}
use Rattle.client_commands.specs.Words.{sid_of_word, sid_word, all_sids}
use Rattle.client_commands.proofs.Reading.{onto, one_more}
use Rattle.client_commands.proofs.words.all_sids.Goals as goal

pub loop-word-preserved : goal.loop-word-preserved
loop-word-preserved c =
    let words = c.args.words.now in
    let place = c.loop-word.word-index in
    let word = c.word-item.result in
    let sids = c.loop-word.sids in
    let sid = c.in_ok-sid_word.field-0 in
    let rest = drop (place + 1) words in
    let added : c.push.new.self ≡ sids ++ sid ∷ [] = c.in_ok-push.ensures.ok in
    let read : sid_word (string_bytes word) ≡ Some sid = cc (c.deref.ensures, c.in_ok-sid_word.ensures.found) in
    record {
      sids =
          ap (λ s. onto s (all_sids (map string_bytes rest))) added
          ∙ one_more sids sid (string_bytes word) (map string_bytes rest) read
          ∙ ap (λ w. onto sids (all_sids (map string_bytes (w ∷ rest)))) c.word-item.is
          ∙ sym (at_drop_more (λ ws. onto sids (all_sids (map string_bytes ws))) words place word
          c.loop-word-test.true)
          ∙ c.loop-word.invariant.sids;
      fit =
          subst (λ s. All IsSid (map sid_of_word s)) (sym added)
          (subst (All IsSid) (sym (map-append sid_of_word sids (sid ∷ [])))
          (All-push IsSid (map sid_of_word sids) (sid_of_word sid) c.loop-word.invariant.fit
          c.in_ok-sid_word.ensures.fit));
      count = ap length added ∙ length-append sids (sid ∷ []) ∙ ap (λ n. n + 1) c.loop-word.invariant.count;
    }

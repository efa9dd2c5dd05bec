-- The names made so far, with those of the words left, are the names of all the words.
use Rattle.std.proofs.Common.{◌≡◌, ◌+◌, ◌++◌, ◌∷◌, [], ◌∙◌, sym, ap, subst, map, take, string_bytes, length, All}
use Rattle.std.proofs.lemmas.List.{map_more, map-append, length-append}
use Rattle.std.proofs.lemmas.List.Elements.{All-push}
use Rattle.acct_calls.specs.Names.{AreUnits}
use Rattle.client_commands.specs.Words.{name_in}
use Rattle.client_commands.proofs.words.all_names.Goals as goal

pub loop-word-preserved : goal.loop-word-preserved
loop-word-preserved c =
    let words = c.args.words.now in
    let place = c.loop-word.word-index in
    let word = c.word-item.result in
    let names = c.loop-word.names in
    let name = c.in_ok-spelled_name.field-0 in
    let before = map string_bytes (take place words) in
    let added : c.push.new.self ≡ names ++ name ∷ [] = c.in_ok-push.ensures.ok in
    let spelled : name ≡ name_in (string_bytes word) =
    cc (c.deref.ensures, c.in_ok-spelled_name.ensures.value) in
    record {
      names =
          added
          ∙ ap (λ n. n ++ name ∷ []) c.loop-word.invariant.names
          ∙ ap (λ n. map name_in before ++ n ∷ []) (spelled ∙ ap (λ w. name_in (string_bytes w)) c.word-item.is)
          ∙ sym (ap (map name_in) (map_more string_bytes words place word c.loop-word-test.true)
          ∙ map-append name_in before _);
      units =
          subst (All AreUnits) (sym added)
          (All-push AreUnits names name c.loop-word.invariant.units c.in_ok-spelled_name.ensures.fit);
      count =
          ap length added ∙ length-append names (name ∷ []) ∙ ap (λ n. n + 1) c.loop-word.invariant.count;
    }

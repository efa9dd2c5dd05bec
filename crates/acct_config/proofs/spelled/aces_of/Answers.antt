-- The ACEs so far and those of the texts to come are all of them: a text adds the ACE that it spells, or nothing.
use Rattle.std.proofs.Common.{◌≡◌, ◌+◌, ◌++◌, ◌∙◌, sym, ap, map, drop}
use Rattle.std.specs.List.{filter_map}
use Rattle.toml.specs.View.{view}
use Rattle.acct_config.specs.Values.{ace_of_text}
use Rattle.acct_config.specs.Spelled.{ace_at}
use Rattle.acct_config.proofs.Found.{found_more, none_more, none_of}
use Rattle.acct_config.proofs.spelled.aces_of.Goals.{in-Some+in_ok-push, in_default}
use Rattle.acct_config.proofs.spelled.aces_of.Goals as goal

pub loop-text-preserved : goal.loop-text-preserved
loop-text-preserved c =
    let texts = c.args.texts.now in
    let place = c.loop-text.text-index in
    let text = c.text-item.result in
    let aces = c.loop-text.aces.items in
    let rest = filter_map ace_at (map view (drop (place + 1) texts)) in
    let read : c.ace_of_text.result ≡ ace_at (view text) =
    c.ace_of_text.ensures ∙ ap ace_of_text c.text_of.ensures in
    elim c.match-ace_of_text.branch [
      | in-Some+in_ok-push w ↦
          rw w.aces-is (ap (λ m. m ++ rest) w.in_ok-push.ensures.items
          ∙ found_more ace_at view aces texts place text w.in-Some.ace c.loop-text-test.true c.text-item.is
          (sym read ∙ w.in-Some.is)
          ∙ c.loop-text.invariant)
      | in_default w ↦
          rw w.aces-is (none_more ace_at view aces texts place text c.loop-text-test.true c.text-item.is
          (sym read ∙ none_of c.ace_of_text.result w.in_default.not-Some)
          ∙ c.loop-text.invariant)
    ]

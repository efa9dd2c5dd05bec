-- The SIDs so far and those of the texts to come are all of them: a text adds the SID that it spells, or nothing.
use Rattle.std.proofs.Common.{◌+◌, ◌++◌, ◌∙◌, sym, ap, map, drop}
use Rattle.std.specs.List.{filter_map}
use Rattle.toml.specs.View.{view}
use Rattle.acct_config.specs.Rules.{sid_of}
use Rattle.acct_config.proofs.Found.{found_more, none_more, none_of}
use Rattle.acct_config.proofs.spelled.sids_of.Goals.{in-Some+in_ok-push, in_default}
use Rattle.acct_config.proofs.spelled.sids_of.Goals as goal

pub loop-text-preserved : goal.loop-text-preserved
loop-text-preserved c =
    let texts = c.args.texts.now in
    let place = c.loop-text.text-index in
    let text = c.text-item.result in
    let sids = c.loop-text.sids.items in
    let rest = filter_map sid_of (map view (drop (place + 1) texts)) in
    elim c.match-sid_of.branch [
      | in-Some+in_ok-push w ↦
          rw w.sids-is (ap (λ m. m ++ rest) w.in_ok-push.ensures.items
          ∙ found_more sid_of view sids texts place text w.in-Some.sid c.loop-text-test.true c.text-item.is
          (sym c.sid_of.ensures ∙ w.in-Some.is)
          ∙ c.loop-text.invariant)
      | in_default w ↦
          rw w.sids-is (none_more sid_of view sids texts place text c.loop-text-test.true c.text-item.is
          (sym c.sid_of.ensures ∙ none_of c.sid_of.result w.in_default.not-Some)
          ∙ c.loop-text.invariant)
    ]

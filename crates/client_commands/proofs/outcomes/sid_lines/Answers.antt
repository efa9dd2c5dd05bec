-- The lines so far, and those of the SIDs and entries ahead, are the lines of all SIDs.
use Rattle.std.proofs.Common.{◌≡◌, ◌++◌, ◌+◌, ◌∙◌, sym, ap, append_assoc, drop, get_or, slice_get}
use Rattle.std.specs.Option.{option_copied}
use Rattle.client_commands.specs.Outcomes.{sid_line, sid_lines}
use Rattle.client_commands.proofs.Listed.{sid_step}
use Rattle.client_commands.proofs.outcomes.sid_lines.Goals as goal

pub loop-place-preserved : goal.loop-place-preserved
loop-place-preserved c =
    let sids = c.args.sids.now in
    let entries = c.args.entries.now in
    let place = c.loop-place.place in
    let lines = c.loop-place.lines in
    let sid = c.index-sids-place.result in
    let entry = slice_get entries place in
    let rest = sid_lines (drop (place + 1) sids) (drop (place + 1) entries) in
    let found : option_copied c.named_at.result ≡ entry = c.named_at.ensures in
    ap (λ l. l ++ rest) (c.in_ok-push_sid_line.ensures
    ∙ ap (λ e. lines ++ sid_line sid e) found
    ∙ ap (λ n. lines ++ sid_line n entry) c.index-sids-place.is)
    ∙ append_assoc lines (sid_line (get_or sids place sid) entry) rest
    ∙ ap (λ l. lines ++ l) (sym (sid_step sids entries place sid c.loop-place-test.true))
    ∙ c.loop-place.invariant

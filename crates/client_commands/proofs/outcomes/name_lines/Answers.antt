-- The lines so far, and those of the names and entries ahead, are the lines of all names.
use Rattle.std.proofs.Common.{◌++◌, ◌+◌, ◌∙◌, sym, ap, append_assoc, drop, get_or, slice_get}
use Rattle.client_commands.specs.Outcomes.{entry_or_unmapped, name_line, name_lines}
use Rattle.client_commands.proofs.Listed.{name_step}
use Rattle.client_commands.proofs.outcomes.name_lines.Goals as goal

pub loop-place-preserved : goal.loop-place-preserved
loop-place-preserved c =
    let names = c.args.names.now in
    let entries = c.args.entries.now in
    let place = c.loop-place.place in
    let lines = c.loop-place.lines in
    let name = c.index-names-place.result in
    let entry = entry_or_unmapped (slice_get entries place) in
    let rest = name_lines (drop (place + 1) names) (drop (place + 1) entries) in
    ap (λ l. l ++ rest) (c.in_ok-push_name_line.ensures
    ∙ ap (λ e. lines ++ name_line name e) c.entry_at.ensures
    ∙ ap (λ n. lines ++ name_line n entry) c.index-names-place.is)
    ∙ append_assoc lines (name_line (get_or names place name) entry) rest
    ∙ ap (λ l. lines ++ l) (sym (name_step names entries place name c.loop-place-test.true))
    ∙ c.loop-place.invariant

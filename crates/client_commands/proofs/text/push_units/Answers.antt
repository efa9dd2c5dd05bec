-- The text so far and the text of the units left are that of all units; where no point is left it is whole.
use Rattle.std.proofs.Common.{◌++◌, sym, ap, ◌∙◌, append_assoc, string_bytes, encode_utf8}
use Rattle.std.proofs.lemmas.List.{append-nil}
use Rattle.client_commands.specs.Outcomes.{glyph, name_text}
use Rattle.client_commands.proofs.Names.{name_text-nil, name_text-first}
use Rattle.client_commands.proofs.text.push_units.Goals as goal

pub loop-point-preserved : goal.loop-point-preserved
loop-point-preserved c =
    let rest = c.in-Some.field-0.rest.now in
    let text = string_bytes c.loop-point.text in
    let one = encode_utf8 (glyph c.in-Some.field-0.point) in
    ap (λ l. l ++ name_text rest) (c.in_ok-push.ensures.bytes
    ∙ ap (λ p. text ++ encode_utf8 p) c.glyph.ensures)
    ∙ append_assoc text one (name_text rest)
    ∙ ap (λ l. text ++ l) (sym (name_text-first c.loop-point.left.now rest c.in-Some.field-0.point
    c.in-Some.ensures.points))
    ∙ c.loop-point.invariant

pub returns : goal.returns
returns c =
    let text = string_bytes c.loop-point.text in
    sym (append-nil text)
    ∙ ap (λ l. text ++ l) (sym (name_text-nil c.loop-point.left.now c.in_default.ensures.points))
    ∙ c.loop-point.invariant

-- The units that `from_text` made so far are the UTF-16 of the characters so far, and at the end of all of them.
use Rattle.std.proofs.Common.{◌++◌, sym, ap, ◌∙◌}
use Rattle.std.specs.Char.Escape.{encode_utf16}
use Rattle.std.proofs.lemmas.List.{map-id}
use Rattle.std.proofs.lemmas.Iterator.{YieldsList-from_chars}
use Rattle.std.proofs.lemmas.Iterator.Consumers.{YieldsList-end}
use Rattle.acct_calls.specs.Names.{units_of}
use Rattle.acct_calls.proofs.Points.{units_of-nil, units_of-more}
use Rattle.acct_calls.proofs.name.Name.from_text.Goals as goal

pub loop-c-init : goal.loop-c-init
loop-c-init c = c.in_ok-units.ensures.items ∙ sym units_of-nil

pub loop-c-preserved : goal.loop-c-preserved
loop-c-preserved c =
    c.in_ok-push_point.ensures
    ∙ ap (λ l. l ++ encode_utf16 c.in-Some.c) c.loop-c.invariant
    ∙ sym (units_of-more c.loop-c.yielded c.in-Some.c)

pub returns : goal.returns
returns c =
    let all = YieldsList-end (YieldsList-from_chars c.args.text.now c.utf8.text cc) c.loop-c.yielded _
    c.loop-c.yielded_by _ _ c.in-None.is c.next.ensures.steps in
    c.from_units.ensures ∙ c.loop-c.invariant ∙ ap units_of (sym (map-id c.loop-c.yielded) ∙ all.0)

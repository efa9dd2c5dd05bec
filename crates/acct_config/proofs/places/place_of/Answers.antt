-- What is read is the document that the bytes spell, and where they spell none the reader stopped within them.
use Rattle.std.proofs.Common.{◌≡◌, ℕ, ◌≤◌, List, length, take, Result, Ok, Err, Option, Some, None, IfOk, sym, ap, ◌∙◌}
use Rattle.std.proofs.Common.{true≢false, arith}
use Rattle.std.specs.Option.{is_some}
use Rattle.toml.specs.Data.{Members}
use Rattle.toml.specs.View.{members_view}
use Rattle.acct_config.specs.declared.places.Place.{Place}
use Rattle.acct_config.specs.declared.places.Place.TheVariants.{Line}
use Rattle.acct_config.specs.Document.{document}
use Rattle.acct_config.specs.Places.{IsLineOf}
use Rattle.acct_config.proofs.Parsed.{document-None, document-Some}
use Rattle.acct_config.proofs.places.place_of.Goals as goal

not_both : (bytes : List ℕ) (found : Members) → document bytes ≡ Some found → document bytes ≡ None → ⊥
not_both bytes found some none = true≢false (sym (ap is_some some) ∙ ap is_some none)

if_ok : {E : Type 0} (bytes : List ℕ) (found : Members) → document bytes ≡ Some found
    → (result : Result (Option Place) E) → IfOk result (λ place. document bytes ≡ None → IsLineOf bytes place)
if_ok bytes found some (Ok place) = λ none. absurd (not_both bytes found some none)
if_ok bytes found some (Err error) = tt

pub returns-in-Ok-clause-of_text : goal.returns-in-Ok-clause-of_text
returns-in-Ok-clause-of_text c =
    let table = c.in-Ok.table in
    let found = document-Some c.args.bytes.now (members_view table.entries) c.in-Ok.ensures.ok.0 c.in-Ok.ensures.ok.1 in
    if_ok c.args.bytes.now (members_view table.entries) found c.key_place.result

pub returns-in-Some-clause-of_document : goal.returns-in-Some-clause-of_document
returns-in-Some-clause-of_document c = λ some.
    let refused = c.in-Err.ensures.refused (λ memory. true≢false (c.in-Some.ensures.none.1 memory)) in
    absurd (true≢false (sym some ∙ ap is_some (document-None c.args.bytes.now refused)))

pub returns-in-Some-clause-of_text : goal.returns-in-Some-clause-of_text
returns-in-Some-clause-of_text c = λ none.
    let start = c.in-Some.ensures.range.0 in
    let within = c.in-Err.ensures.span in
    record {
      stop = c.in-Some.span.start;
      within = omega (arith, start, within.0, within.1);
      is_line = ap (λ line. Some (Line line)) c.line_ends.ensures;
    }

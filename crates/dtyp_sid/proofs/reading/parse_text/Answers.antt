-- The stage is that of the bytes read so far; a byte without a next stage, or an end too early, is the bad place.
use Rattle.std.proofs.Common.{◌≡◌, ℕ, ◌<◌, ◌≤◌, ap, sym, ◌∙◌, get_or, length, subst, List}
use Rattle.std.proofs.lemmas.List.{take_all}
use Rattle.dtyp_sid.specs.Reading.{read_on, stage_after}
use Rattle.dtyp_sid.specs.declared.reading.Stage.TheVariants.{Opening}
use Rattle.dtyp_sid.proofs.Texts.{read_byte, bad_at, bad_end, read_text, sid_of_text-none, sid_of_text-is}
use Rattle.dtyp_sid.proofs.reading.parse_text.Goals as goal

pub returns-in-None-clause-refused : goal.returns-in-None-clause-refused
returns-in-None-clause-refused c =
    let text = c.args.text.now in
    let bytes : c.as_bytes-bytes.result.now ≡ text = cc in
    let inside : c.loop-place.place < length text =
    subst (λ (bytes : List ℕ). c.loop-place.place < length bytes) bytes c.loop-place-test.true in
    let step : c.step.result ≡ stage_after c.loop-place.stage (get_or text c.loop-place.place 0) = c.step.ensures.value
    ∙ ap (λ bytes. stage_after c.loop-place.stage (get_or bytes c.loop-place.place 0)) bytes in
    bad_at text c.loop-place.place c.loop-place.stage inside c.loop-place.invariant.0 (sym step ∙ c.in-None.is)

pub returns-in-None-clause-value : goal.returns-in-None-clause-value
returns-in-None-clause-value c =
    let bad = returns-in-None-clause-refused c in
    sym (sid_of_text-none c.args.text.now bad.no_text)

pub loop-place-preserved : goal.loop-place-preserved
loop-place-preserved c =
    let text = c.args.text.now in
    let bytes : c.as_bytes-bytes.result.now ≡ text = cc in
    let inside : c.loop-place.place < length text =
    subst (λ (bytes : List ℕ). c.loop-place.place < length bytes) bytes c.loop-place-test.true in
    let step : c.step.result ≡ stage_after c.loop-place.stage (get_or text c.loop-place.place 0) = c.step.ensures.value
    ∙ ap (λ bytes. stage_after c.loop-place.stage (get_or bytes c.loop-place.place 0)) bytes in (
      read_byte text c.loop-place.place c.loop-place.stage inside c.loop-place.invariant.0 ∙ (sym step ∙ c.in-Some.is),
      c.in-Some.ensures.stage,
    )

pub returns-in-Some-finish-clause-ok : goal.returns-in-Some-finish-clause-ok
returns-in-Some-finish-clause-ok c =
    let text = c.args.text.now in
    let bytes : c.as_bytes-bytes.result.now ≡ text = cc in
    let behind : length text ≤ c.loop-place.place =
    subst (λ (bytes : List ℕ). length bytes ≤ c.loop-place.place) bytes c.loop-place-test.false in
    read_text text c.loop-place.stage c.in-Some-finish.sid
    (ap (read_on (Opening 0)) (sym (take_all c.loop-place.place text behind)) ∙ c.loop-place.invariant.0)
    (sym c.finish.ensures ∙ c.in-Some-finish.is)

pub returns-in-Some-finish-clause-value : goal.returns-in-Some-finish-clause-value
returns-in-Some-finish-clause-value c =
    sym (sid_of_text-is c.args.text.now c.in-Some-finish.sid (returns-in-Some-finish-clause-ok c))

pub returns-in-None-finish-clause-refused : goal.returns-in-None-finish-clause-refused
returns-in-None-finish-clause-refused c =
    let text = c.args.text.now in
    let bytes : c.as_bytes-bytes.result.now ≡ text = cc in
    let behind : length text ≤ c.loop-place.place =
    subst (λ (bytes : List ℕ). length bytes ≤ c.loop-place.place) bytes c.loop-place-test.false in
    bad_end text c.loop-place.stage
    (ap (read_on (Opening 0)) (sym (take_all c.loop-place.place text behind)) ∙ c.loop-place.invariant.0)
    (sym c.finish.ensures ∙ c.in-None-finish.is)

pub returns-in-None-finish-clause-value : goal.returns-in-None-finish-clause-value
returns-in-None-finish-clause-value c =
    let bad = returns-in-None-finish-clause-refused c in
    sym (sid_of_text-none c.args.text.now bad.no_text)

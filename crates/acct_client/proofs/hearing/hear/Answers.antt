-- Each turn of `hear` is one step of the model over the bytes that are left, stays within them and overflows nothing.
use Rattle.std.proofs.Common.{◌≡◌, ◌∙◌, sym, ap, arith, drop, length, List, ℕ, ◌+◌}
use Rattle.acct_client.specs.declared.hearing.Next.TheVariants as next
use Rattle.acct_client.specs.declared.hearing.Heard.TheVariants.{Waits, Answered}
use Rattle.acct_client.specs.Hearings.{heard_next, listening}
use Rattle.acct_client.proofs.Cutting.{whole_next, whole_given, on_waits, on_wrong, on_gives, on_goes}
use Rattle.acct_client.proofs.Places.{moved, dropped}
use Rattle.acct_client.proofs.hearing.hear.Goals as goal
use Rattle.std.proofs.Common.{None}

pub returns-in-Waits : goal.returns-in-Waits
returns-in-Waits c =
    let here = c.args.place + c.loop-bytes.at in
    let rest = drop c.loop-bytes.at c.loop-bytes.bytes in
    let read : c.rest_of.result.now ≡ rest = c.rest_of.ensures.value ∙ ap (drop c.loop-bytes.at) c.as_slice.ensures in
    let e : heard_next c.args.awaited here c.loop-bytes.reply rest ≡ next.Waits c.in-Waits.waiting =
    sym (c.in_ok-waiting.ensures ∙ ap (heard_next c.args.awaited here c.loop-bytes.reply) read) ∙ c.in-Waits.is in
    ap (λ (x : List ℕ). Waits (listening here c.in-Waits.waiting x)) c.in_ok-kept-in-Waits.ensures.rest
    ∙ sym (on_waits c.front_is_stable.ensures c.args.awaited here c.loop-bytes.reply c.in-Waits.waiting rest e)
    ∙ c.loop-bytes.invariant.hearing

pub returns-in-Wrong : goal.returns-in-Wrong
returns-in-Wrong c =
    let here = c.args.place + c.loop-bytes.at in
    let rest = drop c.loop-bytes.at c.loop-bytes.bytes in
    let read : c.rest_of.result.now ≡ rest = c.rest_of.ensures.value ∙ ap (drop c.loop-bytes.at) c.as_slice.ensures in
    let e : heard_next c.args.awaited here c.loop-bytes.reply rest ≡ next.Wrong c.in-Wrong.wrong =
    sym (c.in_ok-waiting.ensures ∙ ap (heard_next c.args.awaited here c.loop-bytes.reply) read) ∙ c.in-Wrong.is in
    sym (on_wrong c.front_is_stable.ensures c.args.awaited here c.loop-bytes.reply rest c.in-Wrong.wrong e)
    ∙ c.loop-bytes.invariant.hearing

pub overflow_add-result : goal.overflow_add-result
overflow_add-result c =
    let here = c.args.place + c.loop-bytes.at in
    let rest = drop c.loop-bytes.at c.loop-bytes.bytes in
    let read : c.rest_of.result.now ≡ rest = c.rest_of.ensures.value ∙ ap (drop c.loop-bytes.at) c.as_slice.ensures in
    let e : heard_next c.args.awaited here c.loop-bytes.reply rest ≡ next.Gives c.in-Gives.answer c.in-Gives.size =
    sym (c.in_ok-waiting.ensures ∙ ap (heard_next c.args.awaited here c.loop-bytes.reply) read) ∙ c.in-Gives.is in
    let whole = whole_given c.front_is_stable.ensures c.args.awaited here c.loop-bytes.reply rest c.in-Gives.answer
    c.in-Gives.size e in
    let there = whole.there in
    let left = c.rest_of.ensures.length in
    let long = ap length read in
    let seen = ap length c.as_slice.ensures in
    let same = ap length c.loop-bytes.invariant.same in
    let room = c.requires in
    omega (arith, there, left, long, seen, same, room)

pub overflow_add-at : goal.overflow_add-at
overflow_add-at c =
    let here = c.args.place + c.loop-bytes.at in
    let rest = drop c.loop-bytes.at c.loop-bytes.bytes in
    let read : c.rest_of.result.now ≡ rest = c.rest_of.ensures.value ∙ ap (drop c.loop-bytes.at) c.as_slice.ensures in
    let e : heard_next c.args.awaited here c.loop-bytes.reply rest ≡ next.Gives c.in-Gives.answer c.in-Gives.size =
    sym (c.in_ok-waiting.ensures ∙ ap (heard_next c.args.awaited here c.loop-bytes.reply) read) ∙ c.in-Gives.is in
    let whole = whole_given c.front_is_stable.ensures c.args.awaited here c.loop-bytes.reply rest c.in-Gives.answer
    c.in-Gives.size e in
    let there = whole.there in
    let left = c.rest_of.ensures.length in
    let long = ap length read in
    let seen = ap length c.as_slice.ensures in
    let same = ap length c.loop-bytes.invariant.same in
    let room = c.requires in
    omega (arith, there, left, long, seen, same, room)

pub kept-requires-in-Gives : goal.kept-requires-in-Gives
kept-requires-in-Gives c =
    let here = c.args.place + c.loop-bytes.at in
    let rest = drop c.loop-bytes.at c.loop-bytes.bytes in
    let read : c.rest_of.result.now ≡ rest = c.rest_of.ensures.value ∙ ap (drop c.loop-bytes.at) c.as_slice.ensures in
    let e : heard_next c.args.awaited here c.loop-bytes.reply rest ≡ next.Gives c.in-Gives.answer c.in-Gives.size =
    sym (c.in_ok-waiting.ensures ∙ ap (heard_next c.args.awaited here c.loop-bytes.reply) read) ∙ c.in-Gives.is in
    let whole = whole_given c.front_is_stable.ensures c.args.awaited here c.loop-bytes.reply rest c.in-Gives.answer
    c.in-Gives.size e in
    let there = whole.there in
    let left = c.rest_of.ensures.length in
    let long = ap length read in
    let seen = ap length c.as_slice.ensures in
    omega (arith, there, left, long, seen)

pub returns-in-Gives : goal.returns-in-Gives
returns-in-Gives c =
    let here = c.args.place + c.loop-bytes.at in
    let rest = drop c.loop-bytes.at c.loop-bytes.bytes in
    let read : c.rest_of.result.now ≡ rest = c.rest_of.ensures.value ∙ ap (drop c.loop-bytes.at) c.as_slice.ensures in
    let e : heard_next c.args.awaited here c.loop-bytes.reply rest ≡ next.Gives c.in-Gives.answer c.in-Gives.size =
    sym (c.in_ok-waiting.ensures ∙ ap (heard_next c.args.awaited here c.loop-bytes.reply) read) ∙ c.in-Gives.is in
    ap (λ (x : List ℕ). Answered c.in-Gives.answer (listening (here + c.in-Gives.size) None x))
    (c.in_ok-kept-in-Gives.ensures.rest ∙ sym (dropped c.in-Gives.size c.loop-bytes.at c.loop-bytes.bytes))
    ∙ sym (on_gives c.front_is_stable.ensures c.args.awaited here c.loop-bytes.reply rest c.in-Gives.answer
    c.in-Gives.size e)
    ∙ c.loop-bytes.invariant.hearing

pub overflow_add-at-in-Goes : goal.overflow_add-at-in-Goes
overflow_add-at-in-Goes c =
    let here = c.args.place + c.loop-bytes.at in
    let rest = drop c.loop-bytes.at c.loop-bytes.bytes in
    let read : c.rest_of.result.now ≡ rest = c.rest_of.ensures.value ∙ ap (drop c.loop-bytes.at) c.as_slice.ensures in
    let e : heard_next c.args.awaited here c.loop-bytes.reply rest ≡ next.Goes c.in-Goes.gathered c.in-Goes.size =
    sym (c.in_ok-waiting.ensures ∙ ap (heard_next c.args.awaited here c.loop-bytes.reply) read) ∙ c.in-Goes.is in
    let whole = whole_next c.front_is_stable.ensures c.args.awaited here c.loop-bytes.reply rest c.in-Goes.gathered
    c.in-Goes.size e in
    let there = whole.there in
    let left = c.rest_of.ensures.length in
    let long = ap length read in
    let seen = ap length c.as_slice.ensures in
    let same = ap length c.loop-bytes.invariant.same in
    let room = c.requires in
    omega (arith, there, left, long, seen, same, room)

pub loop-bytes-smaller : goal.loop-bytes-smaller
loop-bytes-smaller c =
    let here = c.args.place + c.loop-bytes.at in
    let rest = drop c.loop-bytes.at c.loop-bytes.bytes in
    let read : c.rest_of.result.now ≡ rest = c.rest_of.ensures.value ∙ ap (drop c.loop-bytes.at) c.as_slice.ensures in
    let e : heard_next c.args.awaited here c.loop-bytes.reply rest ≡ next.Goes c.in-Goes.gathered c.in-Goes.size =
    sym (c.in_ok-waiting.ensures ∙ ap (heard_next c.args.awaited here c.loop-bytes.reply) read) ∙ c.in-Goes.is in
    let whole = whole_next c.front_is_stable.ensures c.args.awaited here c.loop-bytes.reply rest c.in-Goes.gathered
    c.in-Goes.size e in
    let low = whole.low in
    let there = whole.there in
    let left = c.rest_of.ensures.length in
    let long = ap length read in
    let seen = ap length c.as_slice.ensures in
    omega (arith, low, there, left, long, seen)

pub loop-bytes-preserved : goal.loop-bytes-preserved
loop-bytes-preserved c =
    let here = c.args.place + c.loop-bytes.at in
    let rest = drop c.loop-bytes.at c.loop-bytes.bytes in
    let read : c.rest_of.result.now ≡ rest = c.rest_of.ensures.value ∙ ap (drop c.loop-bytes.at) c.as_slice.ensures in
    let e : heard_next c.args.awaited here c.loop-bytes.reply rest ≡ next.Goes c.in-Goes.gathered c.in-Goes.size =
    sym (c.in_ok-waiting.ensures ∙ ap (heard_next c.args.awaited here c.loop-bytes.reply) read) ∙ c.in-Goes.is in
    let whole = whole_next c.front_is_stable.ensures c.args.awaited here c.loop-bytes.reply rest c.in-Goes.gathered
    c.in-Goes.size e in
    let there = whole.there in
    let left = c.rest_of.ensures.length in
    let long = ap length read in
    let seen = ap length c.as_slice.ensures in
    record {
      within = omega (arith, there, left, long, seen);
      same = c.loop-bytes.invariant.same;
      hearing = moved c.args.awaited c.args.place c.loop-bytes.at c.in-Goes.size c.in-Goes.gathered c.loop-bytes.bytes
          ∙ sym (on_goes c.front_is_stable.ensures c.args.awaited here c.loop-bytes.reply c.in-Goes.gathered rest
          c.in-Goes.size e)
          ∙ c.loop-bytes.invariant.hearing;
    }

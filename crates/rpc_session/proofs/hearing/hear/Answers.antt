-- The acts so far and those of the bytes ahead are all acts; where memory ran out the first of them stand.
use Rattle.std.proofs.Common.{◌≡◌, ◌∙◌, sym, ap, arith, drop, length, List, ℕ, ◌+◌}
use Rattle.rpc_session.specs.declared.sessions.Act.{Act}
use Rattle.rpc_session.specs.declared.hearing.Next.TheVariants as next
use Rattle.rpc_session.specs.declared.hearing.Hearing.TheVariants.{Going, Ended}
use Rattle.rpc_session.specs.Sessions.{Begins, heard_next, hear}
use Rattle.rpc_session.proofs.Cutting.{whole_next}
use Rattle.rpc_session.proofs.Steps.{IsHearing, waiting, ended, goes, stopped, on_err, moved}
use Rattle.rpc_session.proofs.Still.{first_isnt_end, first_isnt_whole}
use Rattle.rpc_session.proofs.hearing.hear.Goals as goal

pub overflow_add-here : goal.overflow_add-here
overflow_add-here c =
    let within = c.loop-bytes.invariant.within in
    let same = ap length c.loop-bytes.invariant.same in
    let room = c.requires in
    omega (arith, within, same, room)

pub heard_next-requires : goal.heard_next-requires
heard_next-requires c =
    let within = c.loop-bytes.invariant.within in
    let same = ap length c.loop-bytes.invariant.same in
    let room = c.requires in
    let left = c.rest_of.ensures.length in
    let seen = ap length c.as_slice.ensures in
    omega (arith, within, same, room, left, seen)

pub returns-in_err-waiting-clause-err : goal.returns-in_err-waiting-clause-err
returns-in_err-waiting-clause-err c =
    let all = hear c.args.conn c.args.place c.args.session c.args.bytes in
    on_err c.from_residual.result (Begins c.args.acts.now.items c.loop-bytes.acts.items all.acts)
    (stopped c.args.acts.now.items c.loop-bytes.acts.items c.args.conn
    (c.args.place + c.loop-bytes.at) c.loop-bytes.session
    (drop c.loop-bytes.at c.loop-bytes.bytes) all c.loop-bytes.invariant.hearing)

pub returns-in-Err-clause-err : goal.returns-in-Err-clause-err
returns-in-Err-clause-err c =
    let all = hear c.args.conn c.args.place c.args.session c.args.bytes in
    stopped c.args.acts.now.items c.loop-bytes.acts.items c.args.conn
    (c.args.place + c.loop-bytes.at) c.loop-bytes.session
    (drop c.loop-bytes.at c.loop-bytes.bytes) all c.loop-bytes.invariant.hearing

pub returns-in_err-push-in-Ends-clause-err : goal.returns-in_err-push-in-Ends-clause-err
returns-in_err-push-in-Ends-clause-err c =
    let all = hear c.args.conn c.args.place c.args.session c.args.bytes in
    on_err c.from_residual-in_err-push-in-Ends.result (Begins c.args.acts.now.items c.push.new.self.items all.acts)
    (rw c.in_err-push-in-Ends.ensures.items
    (stopped c.args.acts.now.items c.loop-bytes.acts.items c.args.conn
    (c.args.place + c.loop-bytes.at) c.loop-bytes.session
    (drop c.loop-bytes.at c.loop-bytes.bytes) all c.loop-bytes.invariant.hearing))

pub returns-in-Err-add-clause-err : goal.returns-in-Err-add-clause-err
returns-in-Err-add-clause-err c =
    let all = hear c.args.conn c.args.place c.args.session c.args.bytes in
    rw c.in-Err-add.ensures.err
    (stopped c.args.acts.now.items c.loop-bytes.acts.items c.args.conn
    (c.args.place + c.loop-bytes.at) c.loop-bytes.session
    (drop c.loop-bytes.at c.loop-bytes.bytes) all c.loop-bytes.invariant.hearing)

pub returns-in-Ok-clause-ok : goal.returns-in-Ok-clause-ok
returns-in-Ok-clause-ok c =
    let all = hear c.args.conn c.args.place c.args.session c.args.bytes in
    let here = c.args.place + c.loop-bytes.at in
    let rest = drop c.loop-bytes.at c.loop-bytes.bytes in
    let read : c.rest_of.result.now ≡ rest = c.rest_of.ensures.value ∙ ap (drop c.loop-bytes.at) c.as_slice.ensures in
    let e : heard_next c.args.conn here c.loop-bytes.session rest ≡ next.Waits c.in-Waits.waiting =
    sym (c.in_ok-waiting.ensures.next ∙ ap (heard_next c.args.conn here c.loop-bytes.session) read) ∙ c.in-Waits.is in
    ap (λ (x : List ℕ). record {
      acts = c.loop-bytes.acts.items;
      leaves = Going c.args.conn here c.in-Waits.waiting x;
    }) c.in-Ok.ensures.rest
    ∙ waiting c.front_is_stable.ensures c.args.acts.now.items c.loop-bytes.acts.items c.args.conn here
    c.loop-bytes.session c.in-Waits.waiting rest all c.loop-bytes.invariant.hearing e

pub returns-in-Ends-clause-ok : goal.returns-in-Ends-clause-ok
returns-in-Ends-clause-ok c =
    let all = hear c.args.conn c.args.place c.args.session c.args.bytes in
    let here = c.args.place + c.loop-bytes.at in
    let rest = drop c.loop-bytes.at c.loop-bytes.bytes in
    let read : c.rest_of.result.now ≡ rest = c.rest_of.ensures.value ∙ ap (drop c.loop-bytes.at) c.as_slice.ensures in
    let e : heard_next c.args.conn here c.loop-bytes.session rest ≡ next.Ends c.in-Ends.act =
    sym (c.in_ok-waiting.ensures.next ∙ ap (heard_next c.args.conn here c.loop-bytes.session) read) ∙ c.in-Ends.is in
    ap (λ (x : List Act). record { acts = x; leaves = Ended }) c.in_ok-push-in-Ends.ensures.items
    ∙ ended c.front_is_stable.ensures c.args.acts.now.items c.loop-bytes.acts.items c.args.conn here
    c.loop-bytes.session rest all c.in-Ends.act c.loop-bytes.invariant.hearing e

pub returns-in_err-push-in-Ends-clause-frugal : goal.returns-in_err-push-in-Ends-clause-frugal
returns-in_err-push-in-Ends-clause-frugal c =
    let here = c.args.place + c.loop-bytes.at in
    let rest = drop c.loop-bytes.at c.loop-bytes.bytes in
    let read : c.rest_of.result.now ≡ rest = c.rest_of.ensures.value ∙ ap (drop c.loop-bytes.at) c.as_slice.ensures in
    let e : heard_next c.args.conn here c.loop-bytes.session rest ≡ next.Ends c.in-Ends.act =
    sym (c.in_ok-waiting.ensures.next ∙ ap (heard_next c.args.conn here c.loop-bytes.session) read) ∙ c.in-Ends.is in
    λ missing. absurd (first_isnt_end c.args.conn here c.loop-bytes.session c.args.bytes c.loop-bytes.bytes
    c.loop-bytes.at c.in-Ends.act c.loop-bytes.invariant.same (c.loop-bytes.invariant.still missing) missing e)

pub returns-in-Err-add-clause-frugal : goal.returns-in-Err-add-clause-frugal
returns-in-Err-add-clause-frugal c =
    let here = c.args.place + c.loop-bytes.at in
    let rest = drop c.loop-bytes.at c.loop-bytes.bytes in
    let read : c.rest_of.result.now ≡ rest = c.rest_of.ensures.value ∙ ap (drop c.loop-bytes.at) c.as_slice.ensures in
    let e : heard_next c.args.conn here c.loop-bytes.session rest
    ≡ next.Goes c.in-Goes.act c.in-Goes.after c.in-Goes.size =
    sym (c.in_ok-waiting.ensures.next ∙ ap (heard_next c.args.conn here c.loop-bytes.session) read) ∙ c.in-Goes.is in
    λ missing. absurd (first_isnt_whole c.args.conn here c.loop-bytes.session c.args.bytes c.loop-bytes.bytes
    c.loop-bytes.at c.in-Goes.act c.in-Goes.after c.in-Goes.size c.loop-bytes.invariant.same
    (c.loop-bytes.invariant.still missing) missing e)

pub overflow_add-at : goal.overflow_add-at
overflow_add-at c =
    let here = c.args.place + c.loop-bytes.at in
    let rest = drop c.loop-bytes.at c.loop-bytes.bytes in
    let read : c.rest_of.result.now ≡ rest = c.rest_of.ensures.value ∙ ap (drop c.loop-bytes.at) c.as_slice.ensures in
    let e : heard_next c.args.conn here c.loop-bytes.session rest
    ≡ next.Goes c.in-Goes.act c.in-Goes.after c.in-Goes.size =
    sym (c.in_ok-waiting.ensures.next ∙ ap (heard_next c.args.conn here c.loop-bytes.session) read) ∙ c.in-Goes.is in
    let whole = whole_next c.front_is_stable.ensures c.args.conn here c.loop-bytes.session rest c.in-Goes.act
    c.in-Goes.after c.in-Goes.size e in
    let there = whole.there in
    let left = c.rest_of.ensures.length in
    let long = ap length read in
    let seen = ap length c.as_slice.ensures in
    let same = ap length c.loop-bytes.invariant.same in
    let room = c.requires in
    omega (arith, there, left, long, seen, same, room)

pub loop-bytes-smaller : goal.loop-bytes-smaller
loop-bytes-smaller c =
    let here = c.args.place + c.loop-bytes.at in
    let rest = drop c.loop-bytes.at c.loop-bytes.bytes in
    let read : c.rest_of.result.now ≡ rest = c.rest_of.ensures.value ∙ ap (drop c.loop-bytes.at) c.as_slice.ensures in
    let e : heard_next c.args.conn here c.loop-bytes.session rest
    ≡ next.Goes c.in-Goes.act c.in-Goes.after c.in-Goes.size =
    sym (c.in_ok-waiting.ensures.next ∙ ap (heard_next c.args.conn here c.loop-bytes.session) read) ∙ c.in-Goes.is in
    let whole = whole_next c.front_is_stable.ensures c.args.conn here c.loop-bytes.session rest c.in-Goes.act
    c.in-Goes.after c.in-Goes.size e in
    let low = whole.low in
    let there = whole.there in
    let left = c.rest_of.ensures.length in
    let long = ap length read in
    let seen = ap length c.as_slice.ensures in
    omega (arith, low, there, left, long, seen)

pub loop-bytes-preserved : goal.loop-bytes-preserved
loop-bytes-preserved c =
    let all = hear c.args.conn c.args.place c.args.session c.args.bytes in
    let here = c.args.place + c.loop-bytes.at in
    let rest = drop c.loop-bytes.at c.loop-bytes.bytes in
    let read : c.rest_of.result.now ≡ rest = c.rest_of.ensures.value ∙ ap (drop c.loop-bytes.at) c.as_slice.ensures in
    let e : heard_next c.args.conn here c.loop-bytes.session rest
    ≡ next.Goes c.in-Goes.act c.in-Goes.after c.in-Goes.size =
    sym (c.in_ok-waiting.ensures.next ∙ ap (heard_next c.args.conn here c.loop-bytes.session) read) ∙ c.in-Goes.is in
    let whole = whole_next c.front_is_stable.ensures c.args.conn here c.loop-bytes.session rest c.in-Goes.act
    c.in-Goes.after c.in-Goes.size e in
    let there = whole.there in
    let left = c.rest_of.ensures.length in
    let long = ap length read in
    let seen = ap length c.as_slice.ensures in
    let more = goes c.front_is_stable.ensures c.args.acts.now.items c.loop-bytes.acts.items c.args.conn here
    c.loop-bytes.session c.in-Goes.after rest all c.in-Goes.act c.in-Goes.size c.loop-bytes.invariant.hearing e in
    let told : IsHearing c.args.acts.now.items c.add.new.acts.items c.args.conn (here + c.in-Goes.size) c.in-Goes.after
    (drop c.in-Goes.size rest) all = rw c.in-Ok-add.ensures.ok more in
    record {
      within = omega (arith, there, left, long, seen);
      same = c.loop-bytes.invariant.same;
      hearing = moved c.args.acts.now.items c.add.new.acts.items c.args.conn c.args.place c.loop-bytes.at c.in-Goes.size
          c.in-Goes.after c.loop-bytes.bytes all told;
      still = λ missing. absurd (first_isnt_whole c.args.conn here c.loop-bytes.session c.args.bytes c.loop-bytes.bytes
          c.loop-bytes.at c.in-Goes.act c.in-Goes.after c.in-Goes.size c.loop-bytes.invariant.same
          (c.loop-bytes.invariant.still missing) missing e);
    }

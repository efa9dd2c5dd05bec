-- The fragments so far, and those that the rest of the stub takes, are all of them.
use Rattle.std.proofs.Common.{◌≡◌, ◌∙◌, ap, arith, ℕ, ◌++◌, ◌*◌, ◌/◌, ◌-◌, ◌+◌, true, length, take}
use Rattle.rpc_session.specs.Answers.{first_flag, fragment, cut_stub}
use Rattle.rpc_session.proofs.Parts.{parts_go_on, parts_end}
use Rattle.rpc_session.proofs.fragments.cut_stub.Goals as goal

pub loop-rest-preserved : goal.loop-rest-preserved
loop-rest-preserved c =
    let most = 8 * ((c.args.size - 24) / 8) in
    let low = c.requires.low in
    let all = cut_stub (fragment c.args.head) most true c.args.stub.now in
    let out : c.push_fragment.new.out.items ≡ c.loop-rest.out.items
    ++ fragment c.args.head (first_flag c.loop-rest.first) (length c.loop-rest.rest.now)
    (take most c.loop-rest.rest.now) =
    c.in_ok-push_fragment.ensures
    ∙ (λ i. c.loop-rest.out.items ++ fragment c.args.head (c.first_flag.ensures.value i)
    (length c.loop-rest.rest.now) (c.front_of-part.ensures.value i)) in
    rw (out, c.rest_of-rest.ensures.value)
    (parts_go_on (fragment c.args.head) most c.loop-rest.first c.loop-rest.out.items c.loop-rest.rest.now all
    (omega (arith, low)) c.loop-rest-test.true c.loop-rest.invariant)

pub returns : goal.returns
returns c =
    let most = 8 * ((c.args.size - 24) / 8) in
    let all = cut_stub (fragment c.args.head) most true c.args.stub.now in
    c.in_ok-push_fragment-2.ensures
    ∙ ap (λ (flag : ℕ). c.loop-rest.out.items
    ++ fragment c.args.head (flag + 2) (length c.loop-rest.rest.now) c.loop-rest.rest.now)
    c.first_flag-flags.ensures.value
    ∙ parts_end (fragment c.args.head) most c.loop-rest.first c.loop-rest.out.items c.loop-rest.rest.now all
    c.loop-rest-test.false c.loop-rest.invariant

-- The pairs so far go on by one, and at the end they are the two lists.
use Rattle.std.proofs.Common.{◌≡◌, ◌+◌, List, [], ◌∷◌, ◌++◌, length, sym, ap, ◌∙◌}
use Rattle.std.proofs.lemmas.List.{length-append}
use Rattle.std.proofs.lemmas.Slice.Zip.{zip_turn, zip_end}
use Rattle.acct_calls.specs.declared.lists.RidBits.{RidBits}
use Rattle.ndr_types.specs.Listed.{rid_bits_of}
use Rattle.acct_stubs.proofs.MemberLists.{pair_more, pair_all}
use Rattle.acct_stubs.proofs.members.pair.Goals as goal

pub loop-rid-preserved : goal.loop-rid-preserved
loop-rid-preserved c =
    let n = length c.loop-rid.yielded in
    let turn =
    zip_turn c.args.rids.now c.args.attributes.now c.loop-rid.yielded c.into_iter-rid-iterator.result
    c.loop-rid.rid-iterator c.next.new.self c.next.result (cc) (cc) c.loop-rid.yielded_by
    (c.in-Some.rid, c.in-Some.bits) c.in-Some.is c.next.ensures.steps in
    let one_more : length (c.loop-rid.yielded ++ (c.in-Some.rid, c.in-Some.bits) ∷ []) ≡ n + 1 =
    length-append c.loop-rid.yielded _ in
    let more =
    pair_more c.args.rids.now c.args.attributes.now n c.in-Some.rid.now c.in-Some.bits.now turn.0 turn.1 (turn.2 0)
    (turn.3 0) in
    rw one_more
    (c.in_ok-push.ensures.ok
    ∙ ap (λ (l : List RidBits). l ++ rid_bits_of (c.in-Some.rid.now, c.in-Some.bits.now) ∷ []) c.loop-rid.invariant
    ∙ sym more)

pub returns : goal.returns
returns c =
    let end =
    zip_end c.args.rids.now c.args.attributes.now c.loop-rid.yielded c.into_iter-rid-iterator.result
    c.loop-rid.rid-iterator c.next.new.self c.next.result (cc)
    (cc) c.loop-rid.yielded_by c.in-None.is c.next.ensures.steps in
    let all = pair_all c.args.rids.now c.args.attributes.now (length c.loop-rid.yielded) end in
    cc

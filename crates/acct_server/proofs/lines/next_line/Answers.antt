-- Whether the first line ends in CR LF, in LF or at the last byte, it and the lines of the rest are all the lines.
use Rattle.std.proofs.Common.{◌≢◌, ◌-◌, ◌<◌, get_or, arith}
use Rattle.acct_server.proofs.FirstLine.{lines-feed_at, lines-return_at, lines-all_at}
use Rattle.acct_server.proofs.lines.next_line.Goals as goal
use Rattle.acct_server.proofs.lines.next_line.Goals.{else-at-gt0-via-then-at-gt0+else-bytes-at-eq13}
use Rattle.acct_server.proofs.lines.next_line.Goals.{else-at-gt0-via-else-at-gt0}

pub returns-then-bytes-at-eq13-clause-lines : goal.returns-then-bytes-at-eq13-clause-lines
returns-then-bytes-at-eq13-clause-lines c =
    lines-return_at c.loop-at.at c.args.bytes.now c.rest_of.result.now c.if-at-gt0.true c.loop-at-test.true
    c.loop-at.invariant.none c.if-bytes-at-eq10.true c.if-bytes-at-eq13.true c.rest_of.ensures.value

pub returns-then-bytes-at-eq10-clause-lines : goal.returns-then-bytes-at-eq10-clause-lines
returns-then-bytes-at-eq10-clause-lines c =
    let other : 0 < c.loop-at.at → get_or c.args.bytes.now (c.loop-at.at - 1) 0 ≢ 13 =
    λ some. elim c.else-at-gt0.branch [
      | else-at-gt0-via-then-at-gt0+else-bytes-at-eq13 w ↦ w.if-bytes-at-eq13.false
      | else-at-gt0-via-else-at-gt0 w ↦ absurd (omega (arith, w.if-at-gt0.false, some))
    ] in
    lines-feed_at c.loop-at.at c.args.bytes.now c.rest_of-then-bytes-at-eq10.result.now c.loop-at-test.true
    c.loop-at.invariant.none c.if-bytes-at-eq10.true other c.rest_of-then-bytes-at-eq10.ensures.value

pub returns-clause-lines : goal.returns-clause-lines
returns-clause-lines c =
    lines-all_at c.args.bytes.now c.rest_of-2.result.now c.requires
    (λ k below. c.loop-at.invariant.none k (omega arith)) c.rest_of-2.ensures.value

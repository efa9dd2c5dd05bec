-- The talk begins with nothing read and no answer awaited, and each step leaves fewer steps to make.
use Rattle.std.proofs.Common.{◌+◌, ◌≤◌, ap, arith, subst, sym}
use Rattle.acct_client.specs.Askers.{bytes_taken}
use Rattle.acct_client.specs.declared.dialogue.Talk.{Talk}
use Rattle.acct_client.specs.Talks.{most_read}
use Rattle.acct_client.proofs.Ending.{begun-stands}
use Rattle.acct_client.proofs.conversing.exchange.Goals as goal

pub loop-whole-init : goal.loop-whole-init
loop-whole-init g c = record {
  whole = ap (λ (t : Talk). t.is_awaiting) c.requires.1;
  room = subst (λ (t : Talk). bytes_taken t + most_read ≤ most_read) (sym c.requires.1) (omega arith);
  stands = λ command begun.
      begun-stands command c.args.asker.now (g.L.Link.told c.args.link.now) begun;
}

pub loop-whole-smaller : goal.loop-whole-smaller
loop-whole-smaller g c =
    c.in-Ok.ensures.less c.requires.0 (g.L.Link.told c.args.link.now)
    (c.loop-whole.invariant.stands c.requires.0 c.requires.1)

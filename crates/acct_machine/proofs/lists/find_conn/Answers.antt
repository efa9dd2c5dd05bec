-- Connection n stands at place n - 1, so `find_conn` finds it there, and none for 0 or a number past the last.
use Rattle.std.proofs.Common.{sym, arith}
use Rattle.std.proofs.lemmas.Bool.Decides.{nat_tests}
use Rattle.acct_machine.proofs.Places.{find-at, find-none}
use Rattle.acct_machine.proofs.lists.find_conn.Goals as goal

pub returns-then-number-eq0 : goal.returns-then-number-eq0
returns-then-number-eq0 c =
    sym (find-none c.args.conn c.args.conns.now c.requires (λ some. grind (arith, nat_tests)))

pub returns-then-number-conns : goal.returns-then-number-conns
returns-then-number-conns c =
    sym (find-none c.args.conn c.args.conns.now c.requires (λ some. grind (arith, nat_tests)))

pub returns : goal.returns
returns c =
    sym (find-at c.args.conn c.args.conns.now _ c.requires (grind (arith, nat_tests)) (grind (arith, nat_tests)))

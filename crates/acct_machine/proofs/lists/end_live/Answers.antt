-- Connection n stands at place n - 1, so `end_live` ends it there, and none for 0 or a number past the last.
use Rattle.std.proofs.Common.{◌-◌, set, sym, ◌∙◌, ap, arith}
use Rattle.std.proofs.lemmas.Bool.Decides.{nat_tests}
use Rattle.acct_machine.specs.declared.state.Conn.{Conn}
use Rattle.acct_machine.specs.Step.{live_ended}
use Rattle.acct_machine.proofs.Places.{map-at, map-none, ended-one}
use Rattle.acct_machine.proofs.lists.end_live.Goals as goal

pub returns-then-number-eq0-clause-items : goal.returns-then-number-eq0-clause-items
returns-then-number-eq0-clause-items c =
    sym (map-none (live_ended c.args.conn) c.args.conn c.args.conns.now.items (ended-one c.args.conn) c.requires
    (λ some. grind (arith, nat_tests)))

pub returns-then-number-len-clause-items : goal.returns-then-number-len-clause-items
returns-then-number-len-clause-items c =
    sym (map-none (live_ended c.args.conn) c.args.conn c.args.conns.now.items (ended-one c.args.conn) c.requires
    (λ some. grind (arith, nat_tests)))

pub returns-clause-items : goal.returns-clause-items
returns-clause-items c =
    let at = map-at (live_ended c.args.conn) c.args.conn c.args.conns.now.items _ (ended-one c.args.conn) c.requires
    (grind (arith, nat_tests)) (grind (arith, nat_tests)) in
    ap (λ (d : Conn). set c.args.conns.now.items (c.args.conn - 1) d)
    (c.with_end.ensures ∙ ap (λ (d : Conn). live_ended c.args.conn d) c.index.ensures) ∙ sym at

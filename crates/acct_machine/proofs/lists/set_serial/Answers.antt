-- Connection n stands at place n - 1, so its serial is set there, and none for 0 or a number past the last.
use Rattle.std.proofs.Common.{◌-◌, set, sym, ◌∙◌, ap, arith}
use Rattle.std.proofs.lemmas.Bool.Decides.{nat_tests}
use Rattle.acct_machine.specs.declared.state.Conn.{Conn}
use Rattle.acct_machine.specs.Step.{serial_set}
use Rattle.acct_machine.proofs.Places.{map-at, map-none, set-one}
use Rattle.acct_machine.proofs.lists.set_serial.Goals as goal

pub returns-then-number-eq0-clause-items : goal.returns-then-number-eq0-clause-items
returns-then-number-eq0-clause-items c =
    sym (map-none (serial_set c.args.conn c.args.serial) c.args.conn c.args.conns.now.items (set-one c.args.conn
    c.args.serial) c.requires
    (λ some. grind (arith, nat_tests)))

pub returns-then-number-len-clause-items : goal.returns-then-number-len-clause-items
returns-then-number-len-clause-items c =
    sym (map-none (serial_set c.args.conn c.args.serial) c.args.conn c.args.conns.now.items (set-one c.args.conn
    c.args.serial) c.requires
    (λ some. grind (arith, nat_tests)))

pub returns-clause-items : goal.returns-clause-items
returns-clause-items c =
    let at = map-at (serial_set c.args.conn c.args.serial) c.args.conn c.args.conns.now.items _ (set-one c.args.conn
    c.args.serial) c.requires
    (grind (arith, nat_tests)) (grind (arith, nat_tests)) in
    ap (λ (d : Conn). set c.args.conns.now.items (c.args.conn - 1) d)
    (c.with_serial.ensures ∙ ap (λ (d : Conn). serial_set c.args.conn c.args.serial d) c.index.ensures) ∙ sym at

-- Where there is a number below the end, the row is needed, and else the plan is refused.
use Rattle.std.proofs.Common.{◌≡◌, true, false, Some, refl, sym, ap, subst, arith}
use Rattle.std.proofs.lemmas.Bool.Decides.{nat_tests}
use Rattle.acct_tables.specs.declared.row.OutRow.{OutRow}
use Rattle.acct_machine.specs.Outbox.{out_row, is_full}
use Rattle.acct_machine.proofs.outbox.need_row.Goals as goal

pub returns-then-number-ge-OUT_END : goal.returns-then-number-ge-OUT_END
returns-then-number-ge-OUT_END c =
    let o : OutRow = out_row c.args.number c.args.action c.args.account.now in
    let full : is_full o ≡ true = grind (arith, nat_tests) in (o, refl, full)

pub returns : goal.returns
returns c =
    let o : OutRow = out_row c.args.number c.args.action c.args.account.now in
    let same : c.in_ok-out_row.field-0 ≡ o = c.in_ok-out_row.ensures in
    let some : is_full o ≡ false = grind (arith, nat_tests) in (
      ap (λ (x : OutRow). Some x) (sym same),
      subst (λ (x : OutRow). is_full x ≡ false) (sym same) some,
    )

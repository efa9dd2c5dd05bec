-- `Names::of` meets its contract: the keys of the accounts by name are their names.
use Rattle.std.proofs.Common.{Bor, map, ap, ◌∙◌}
use Rattle.acct_tables.specs.declared.row.AccountRow.{AccountRow}
use Rattle.acct_tables.proofs.Named.{names_are}
use Rattle.acct_tables.proofs.names.Names.of.Goals as goal

pub returns : goal.returns
returns c =
    let shown : Bor AccountRow → AccountRow = λ row. row.now in
    let same = c.deref.ensures.value in
    c.in_ok-keys_of.ensures
    ∙ names_are shown c.args.accounts.now c.deref.result.now (ap (map shown) same ∙ c.in_ok-rows.ensures)

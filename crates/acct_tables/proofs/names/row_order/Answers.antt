-- Of accounts in one domain the folded names are compared first, and then the RIDs, as in the order of their keys.
use Rattle.std.proofs.Common.{◌≡◌, sym, ◌∙◌, rules}
use Rattle.std.specs.declared.cmp.Ordering.TheVariants.{Equal}
use Rattle.std.specs.Ordering.{nat_cmp, ordering_then}
use Rattle.acct_calls.specs.Names.{folded_points}
use Rattle.acct_tables.specs.KeyedRows.{compare}
use Rattle.acct_tables.proofs.Named.{row_order}
use Rattle.acct_tables.proofs.names.row_order.Goals as goal

pub returns-in-Equal : goal.returns-in-Equal
returns-in-Equal c =
    let row = c.args.row.now in
    let d = c.args.domain in
    let n = c.args.name.now in
    let domains : Equal ≡ nat_cmp row.domain d = search rules in
    let names : c.fold_order.result ≡ compare (folded_points row.name) (folded_points n) = search rules in
    let is : c.then.result ≡ ordering_then c.fold_order.result (nat_cmp row.rid c.args.rid) = search rules in
    is ∙ sym (row_order row d n c.args.rid Equal c.fold_order.result domains names)

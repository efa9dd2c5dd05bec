-- A row after all others is put in its place last.
use Rattle.std.proofs.Common.{[], ap, ◌∙◌}
use Rattle.acct_tables.specs.KeyedRows.{put, put_each}
use Rattle.acct_tables.proofs.Each.{each-push}
use Rattle.acct_tables.proofs.unsorted.Unsorted.put.Goals as goal

pub returns-clause-rows : goal.returns-clause-rows
returns-clause-rows g c =
    let key = g.T.Keyed.key_of in
    ap (λ rs. put_each key rs []) c.push.ensures.rows ∙ each-push key c.self.inside.rows.items c.args.row []
    ∙ ap (λ shown. put key c.args.row shown.0) c.self.view_is

-- Sorted rows are put in the places that the rows are put in as they came.
use Rattle.std.proofs.Common.{◌≡◌, ap, ◌∙◌}
use Rattle.std.proofs.lemmas.Result.{IfOk-weaker}
use Rattle.acct_tables.proofs.Each.{each-stable}
use Rattle.acct_tables.proofs.unsorted.Unsorted.into_table.Goals as goal

pub returns : goal.returns
returns g c =
    IfOk-weaker _ _ (λ table. table.0 ≡ c.args.self.0)
    (λ table is. is ∙ each-stable g.T.Keyed.key_of _ _ c.in_ok-sort.ensures ∙ ap (λ shown. shown.0) c.self.view_is)
    c.table_of.ensures

-- A pair that spells a row puts that row in its place, and one that spells none leaves the rows as they were.
use Rattle.std.proofs.Common.{◌≡◌, [], ◌∷◌, Option, Some, None, sym, ap, ◌∙◌, rules}
use Rattle.acct_rows.specs.Loading.{somes, placed}
use Rattle.acct_tables.specs.Stored.{row_of}
use Rattle.acct_tables.specs.declared.row.Row.{Row}
use Rattle.acct_rows.proofs.pairs.loading.put_read.Goals as goal

pub returns-in-Some-clause-rows : goal.returns-in-Some-clause-rows
returns-in-Some-clause-rows c =
    let is : row_of c.args.pair.now ≡ Some c.in-Some.row = search rules in
    c.put.ensures.lists ∙ sym (ap (λ (o : Option Row). placed (somes (o ∷ [])) c.args.rows.now.lists) is)

pub returns-in-None-clause-rows : goal.returns-in-None-clause-rows
returns-in-None-clause-rows c =
    let is : row_of c.args.pair.now ≡ None = search rules in
    sym (ap (λ (o : Option Row). placed (somes (o ∷ [])) c.args.rows.now.lists) is)

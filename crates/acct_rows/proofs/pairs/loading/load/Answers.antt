-- `load` meets its contract: what is put in its place are the rows that are loaded.
use Rattle.std.proofs.Common.{◌≡◌, rules}
use Rattle.std.specs.Prelude.{All, OnOk, Result, Ok, Err}
use Rattle.acct_rows.specs.Loading.{IsReadWell, loaded}
use Rattle.acct_rows.proofs.pairs.loading.load.Goals as goal

either_way : {T E : Type 0} (r : Result T E) (P : Type 0) → P → OnOk r P
either_way (Ok x) P p = p
either_way (Err e) P p = tt

pub returns-in-Ok-clause-rows : goal.returns-in-Ok-clause-rows
returns-in-Ok-clause-rows c =
    let all : c.fill.new.rows.lists ≡ loaded c.args.pairs.now = search rules in
    search rules

pub returns-in-Ok-clause-spelled : goal.returns-in-Ok-clause-spelled
returns-in-Ok-clause-spelled c =
    either_way c.into_rows.result (All IsReadWell c.args.pairs.now) c.in-Ok.ensures.spelled

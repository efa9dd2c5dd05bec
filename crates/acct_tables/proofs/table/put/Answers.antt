-- A value set where its key stands, or else inserted where the key would go, is put in its place.
use Rattle.std.proofs.Common.{sym, ap, ◌∙◌, ◌≡◌, true, Ok, Err, rules, insert, is_ok, if◌then◌else◌}
use Rattle.acct_tables.proofs.Places.{put-placed}
use Rattle.acct_tables.proofs.table.put.Goals as goal

pub returns-in-Ok-clause-values : goal.returns-in-Ok-clause-values
returns-in-Ok-clause-values g c =
    put-placed g.O.Order.key_of c.args.value c.args.values.now.items (Ok c.in-Ok.i)
    (sym c.in-Ok.is ∙ c.place.ensures.found ∙ (cc))

pub returns-else-is_err-clause-values : goal.returns-else-is_err-clause-values
returns-else-is_err-clause-values g c =
    let placed = put-placed g.O.Order.key_of c.args.value c.args.values.now.items (Err c.in-Err.i)
    (sym c.in-Err.is ∙ c.place.ensures.found ∙ (cc)) in
    let ok : is_ok c.insert.result ≡ true = search rules in
    c.insert.ensures.items
    ∙ ap (λ b. if b then insert c.args.values.now.items c.in-Err.i c.args.value else c.args.values.now.items) ok
    ∙ placed

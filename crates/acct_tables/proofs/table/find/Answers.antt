-- The value at the first place that isn't below the prefix is the first within it, or no value is.
use Rattle.std.proofs.Common.{rules, ◌≡◌, ◌<◌, ◌≤◌, true, false, cond, Some, None, length, sym, ap, ◌∙◌}
use Rattle.acct_tables.specs.Keyed.{is_within}
use Rattle.acct_tables.proofs.Between.{front_first, first_there, first_past}
use Rattle.acct_tables.proofs.table.find.Goals as goal

pub returns-then-first-values : goal.returns-then-first-values
returns-then-first-values g c =
    let key = g.O.Order.key_of in
    let front = g.O.Fronts.front_of c.args.front.now in
    let past : length c.args.values.now ≤ c.first_within-first.result = search rules in
    sym (front_first key front c.args.values.now _ c.requires c.first_within-first.ensures.inside
    c.first_within-first.ensures.turns ∙ first_past (is_within key front) c.args.values.now _ past)

pub returns-then-is_eq : goal.returns-then-is_eq
returns-then-is_eq g c =
    let key = g.O.Order.key_of in
    let front = g.O.Fronts.front_of c.args.front.now in
    let x = c.index-values-first.result in
    let there : c.first_within-first.result < length c.args.values.now = search rules in
    let passes : is_within key front x ≡ true = search rules in
    sym (front_first key front c.args.values.now _ c.requires c.first_within-first.ensures.inside
    c.first_within-first.ensures.turns
    ∙ first_there (is_within key front) c.args.values.now _ x there c.index-values-first.is
    ∙ ap (λ b. cond b (Some x) None) passes)

pub returns-else-is_eq : goal.returns-else-is_eq
returns-else-is_eq g c =
    let key = g.O.Order.key_of in
    let front = g.O.Fronts.front_of c.args.front.now in
    let x = c.index-values-first.result in
    let there : c.first_within-first.result < length c.args.values.now = search rules in
    let fails : is_within key front x ≡ false = search rules in
    sym (front_first key front c.args.values.now _ c.requires c.first_within-first.ensures.inside
    c.first_within-first.ensures.turns
    ∙ first_there (is_within key front) c.args.values.now _ x there c.index-values-first.is
    ∙ ap (λ b. cond b (Some x) None) fails)

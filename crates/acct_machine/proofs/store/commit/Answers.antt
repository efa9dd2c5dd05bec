-- A commit asks the changes of the plan of the keeper, and nothing where there are none.
use Rattle.std.proofs.Common.{◌==◌, ℕ, sym, ap, ◌∙◌}
use Rattle.acct_rows.specs.Rows.{Lists, after}
use Rattle.acct_machine.proofs.Committing.{unchanged, unasked, same-rows, asked}
use Rattle.acct_machine.proofs.store.commit.Goals as goal

pub returns-then-not-has_change-clause-commits : goal.returns-then-not-has_change-clause-commits
returns-then-not-has_change-clause-commits g c =
    let rows : Lists = c.args.rows.now.lists in
    let plan = c.args.plan.now in
    unasked g.K.Keeper.held g.K.Keeper.faults c.args.keeper.now rows (after plan rows)
    (unchanged plan.puts plan.removes rows (sym c.has_change.ensures ∙ c.if-not-has_change.true))

pub returns-then-is_empty-clause-commits : goal.returns-then-is_empty-clause-commits
returns-then-is_empty-clause-commits g c =
    let rows : Lists = c.args.rows.now.lists in
    let changes = c.in_ok-changes.changes in
    unasked g.K.Keeper.held g.K.Keeper.faults c.args.keeper.now rows (after c.args.plan.now rows)
    (same-rows changes.items rows (after c.args.plan.now rows) c.in_ok-changes.ensures.none
    (ap (λ (n : ℕ). n == 0) (sym changes.ok.0) ∙ sym c.is_empty.ensures ∙ c.if-is_empty.true))

pub returns-clause-commits : goal.returns-clause-commits
returns-clause-commits g c =
    let rows : Lists = c.args.rows.now.lists in
    let changes = c.in_ok-changes.changes in
    asked g.K.Keeper.held g.K.Keeper.faults c.args.keeper.now c.commit.new.self rows (after c.args.plan.now rows)
    changes.items c.deref.result.now c.commit.result c.deref.ensures.value c.in_ok-changes.ensures.follows
    c.in_ok-changes.ensures.none
    (ap (λ (n : ℕ). n == 0) (sym changes.ok.0) ∙ sym c.is_empty.ensures ∙ c.if-is_empty.false)
    c.commit.ensures.ok c.commit.ensures.err c.commit.ensures.later c.commit.ensures.count

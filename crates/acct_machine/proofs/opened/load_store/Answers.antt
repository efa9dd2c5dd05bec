-- The rows have the pairs that the keeper holds then: those that were read, in format 2.
use Rattle.std.proofs.Common.{sym, ◌∙◌, refl}
use Rattle.acct_machine.proofs.Loaded.{are-pairs, kept-new, kept-old}
use Rattle.acct_machine.proofs.opened.load_store.Goals as goal

pub returns-then-not-is_old-clause-pairs : goal.returns-then-not-is_old-clause-pairs
returns-then-not-is_old-clause-pairs g c =
    are-pairs c.migrated_pairs_ascend.ensures c.in_ok-rows.rows.lists c.args.pairs.now c.requires.ascending
    c.in_ok-rows.ensures.pairs

pub returns-then-not-is_old-clause-kept : goal.returns-then-not-is_old-clause-kept
returns-then-not-is_old-clause-kept g c =
    kept-new (g.K.Keeper.held c.args.keeper.now) (g.K.Keeper.held c.args.keeper.now) c.args.pairs.now refl
    (sym c.is_old.ensures ∙ c.if-not-is_old.true) c.requires.held

pub returns-in-Ok-clause-pairs : goal.returns-in-Ok-clause-pairs
returns-in-Ok-clause-pairs g c =
    are-pairs c.migrated_pairs_ascend.ensures c.in_ok-rows.rows.lists c.args.pairs.now c.requires.ascending
    c.in_ok-rows.ensures.pairs

pub returns-in-Ok-clause-kept : goal.returns-in-Ok-clause-kept
returns-in-Ok-clause-kept g c =
    kept-old (g.K.Keeper.held c.args.keeper.now) (g.K.Keeper.held c.migrate.new.keeper) c.args.pairs.now
    (sym c.is_old.ensures ∙ c.if-not-is_old.false) c.requires.held c.in-Ok.ensures.ok

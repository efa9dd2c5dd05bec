-- A store that has pairs is opened with the rows that are read of them; what it holds then are these pairs in format 2.
use Rattle.std.proofs.Common.{◌≡◌, ℕ, ◌==◌, true, sym, subst, ◌∙◌, ap}
use Rattle.acct_keeper.specs.Pairs.{is_ascending}
use Rattle.acct_machine.specs.Opened.{count_after}
use Rattle.acct_machine.proofs.Loaded.{told-same, told-of, some, opened-of, kept-of, kept-seeded, stored-of, cause-of}
use Rattle.acct_machine.proofs.Loaded.{on-err-same}
use Rattle.acct_machine.proofs.opened.open_store.Goals as goal

pub load_store-requires-clause-ascending : goal.load_store-requires-clause-ascending
load_store-requires-clause-ascending g c =
    subst (λ ps. is_ascending ps ≡ true) (sym c.deref.ensures.value) c.in_ok-pairs.ensures.ascending

pub load_store-requires-clause-held : goal.load_store-requires-clause-held
load_store-requires-clause-held g c =
    told-same (g.K.Keeper.held c.args.keeper.now) (g.K.Keeper.held c.load.new.self) c.in_ok-pairs.pairs.items
    c.deref.result.now c.load.ensures.kept c.in_ok-pairs.ensures.all c.deref.ensures.value

pub returns-then-is_empty-clause-kept : goal.returns-then-is_empty-clause-kept
returns-then-is_empty-clause-kept g c =
    kept-seeded (g.K.Keeper.held c.args.keeper.now) (g.K.Keeper.held c.seed_store.new.keeper) c.in_ok-pairs.pairs.items
    c.seed_store.result (ap (λ (n : ℕ). n == 0) (sym c.in_ok-pairs.pairs.ok.0) ∙ sym c.is_empty.ensures
    ∙ c.if-is_empty.true) c.in_ok-pairs.ensures.all

pub returns-clause-opened : goal.returns-clause-opened
returns-clause-opened g c =
    opened-of c.args.config.now (g.K.Keeper.held c.args.keeper.now) c.deref.result.now c.load_store.result
    (some c.deref.result.now c.in_ok-pairs.pairs.items c.in_ok-pairs.pairs.len c.deref.ensures.value
    (sym c.in_ok-pairs.pairs.ok.0) (sym c.is_empty.ensures ∙ c.if-is_empty.false))
    (told-of (g.K.Keeper.held c.args.keeper.now) c.in_ok-pairs.pairs.items c.deref.result.now
    c.in_ok-pairs.ensures.all c.deref.ensures.value) c.load_store.ensures.unbroken c.load_store.ensures.pairs

pub returns-clause-kept : goal.returns-clause-kept
returns-clause-kept g c =
    kept-of (g.K.Keeper.held c.args.keeper.now) (g.K.Keeper.held c.load.new.self) (g.K.Keeper.held
    c.load_store.new.keeper) c.deref.result.now c.load_store.result c.load.ensures.kept
    (told-of (g.K.Keeper.held c.args.keeper.now) c.in_ok-pairs.pairs.items c.deref.result.now
    c.in_ok-pairs.ensures.all c.deref.ensures.value) c.load_store.ensures.kept

pub returns-clause-stored : goal.returns-clause-stored
returns-clause-stored g c =
    stored-of (g.K.Keeper.held c.load.new.self) (g.K.Keeper.held c.load_store.new.keeper) c.deref.result.now
    c.load_store.result c.load_store.ensures.kept c.load_store.ensures.tells c.load_store.ensures.pairs

pub returns-clause-err : goal.returns-clause-err
returns-clause-err g c =
    on-err-same (g.K.Keeper.held c.args.keeper.now) (g.K.Keeper.held c.load.new.self) (g.K.Keeper.held
    c.load_store.new.keeper) c.load_store.result c.load.ensures.kept c.load_store.ensures.err

pub returns-clause-cause : goal.returns-clause-cause
returns-clause-cause g c =
    cause-of (g.K.Keeper.held c.args.keeper.now) c.deref.result.now (g.K.Keeper.faults c.args.keeper.now)
    (g.K.Keeper.faults c.load.new.self) (g.K.Keeper.faults c.load_store.new.keeper) c.load_store.result
    c.in_ok-pairs.ensures.count
    (some c.deref.result.now c.in_ok-pairs.pairs.items c.in_ok-pairs.pairs.len c.deref.ensures.value
    (sym c.in_ok-pairs.pairs.ok.0) (sym c.is_empty.ensures ∙ c.if-is_empty.false))
    (told-of (g.K.Keeper.held c.args.keeper.now) c.in_ok-pairs.pairs.items c.deref.result.now
    c.in_ok-pairs.ensures.all c.deref.ensures.value) c.load_store.ensures.cause

pub returns-clause-count : goal.returns-clause-count
returns-clause-count g c =
    c.load_store.ensures.count ∙ ap (λ (n : ℕ). count_after n c.load_store.result) c.in_ok-pairs.ensures.count

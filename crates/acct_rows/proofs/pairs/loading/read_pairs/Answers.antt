-- `read_pairs` meets its contract: pairs in another order are the same pairs.
use Rattle.std.proofs.Common.{◌≡◌, true, List, sym, subst}
use Rattle.std.proofs.lemmas.Result.{MatchResult-weaker, IfOk-weaker, on_ok_weaker}
use Rattle.std.specs.List.Sorted.{IsPermutation}
use Rattle.acct_keeper.specs.declared.pairs.Pair.{Pair}
use Rattle.acct_tables.specs.KeyedRows.{is_ascending}
use Rattle.acct_rows.specs.PairRules.{pair_key}
use Rattle.acct_rows.specs.PairsOf.{HoldPairs, migrated}
use Rattle.acct_rows.proofs.Shuffled.{unbroken_alike, bad_alike, hold_alike}
use Rattle.acct_rows.proofs.pairs.loading.read_pairs.Goals as goal

pub returns-clause-pairs : goal.returns-clause-pairs
returns-clause-pairs c =
    IfOk-weaker c.read_ascending-2.result (λ rows. HoldPairs rows.lists (migrated c.deref.result.now))
    (λ rows. HoldPairs rows.lists (migrated c.args.pairs.now))
    (λ rows held. hold_alike c.args.pairs.now c.deref.result.now c.requires
    (subst (λ (qs : List Pair). IsPermutation c.args.pairs.now qs) (sym c.deref.ensures.value)
    c.in_ok-ascending.ensures.same)
    (subst (λ (qs : List Pair). is_ascending pair_key qs ≡ true) (sym c.deref.ensures.value)
    c.in_ok-ascending.ensures.ascending) rows.lists held) c.read_ascending-2.ensures.pairs

pub returns-clause-unbroken : goal.returns-clause-unbroken
returns-clause-unbroken c =
    on_ok_weaker c.read_ascending-2.result
    (λ unbroken. unbroken_alike c.args.pairs.now c.deref.result.now c.requires
    (subst (λ (qs : List Pair). IsPermutation c.args.pairs.now qs) (sym c.deref.ensures.value)
    c.in_ok-ascending.ensures.same)
    (subst (λ (qs : List Pair). is_ascending pair_key qs ≡ true) (sym c.deref.ensures.value)
    c.in_ok-ascending.ensures.ascending) unbroken) c.read_ascending-2.ensures.unbroken

pub returns-clause-broken : goal.returns-clause-broken
returns-clause-broken c =
    MatchResult-weaker c.read_ascending-2.result c.read_ascending-2.ensures.broken (λ rows none. none)
    (λ error bad. bad_alike c.args.pairs.now c.deref.result.now c.requires
    (subst (λ (qs : List Pair). IsPermutation c.args.pairs.now qs) (sym c.deref.ensures.value)
    c.in_ok-ascending.ensures.same)
    (subst (λ (qs : List Pair). is_ascending pair_key qs ≡ true) (sym c.deref.ensures.value)
    c.in_ok-ascending.ensures.ascending) error bad)

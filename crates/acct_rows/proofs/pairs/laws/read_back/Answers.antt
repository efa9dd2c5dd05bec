-- `read_back` meets its contract: the pairs of sound rows break no rule, and are of these rows alone.
use Rattle.std.proofs.Common.{◌≡◌, true, List, Result, Ok, Err, IfOk, refl, sym, ap, subst, ◌∙◌}
use Rattle.std.proofs.lemmas.Result.{MatchResult-weaker}
use Rattle.acct_keeper.specs.declared.pairs.Pair.{Pair}
use Rattle.acct_rows.specs.Loading.{BadPairs}
use Rattle.acct_rows.specs.PairRules.{AreUnbroken}
use Rattle.acct_rows.specs.PairsOf.{HoldPairs, migrated, keys_differ}
use Rattle.acct_rows.specs.Sound.{IsSoundRows}
use Rattle.acct_rows.specs.declared.pairs.loading.PairsError.{PairsError}
use Rattle.acct_rows.specs.declared.pairs.loading.PairsError.TheVariants.{BadPair, Memory}
use Rattle.acct_rows.proofs.Translated.{new_already}
use Rattle.acct_rows.proofs.pairs.laws.read_back.Goals as goal

pub from_pairs-requires : goal.from_pairs-requires
from_pairs-requires c =
    subst (λ (ps : List Pair). keys_differ ps ≡ true) (sym c.deref.ensures.value)
    (c.ascending_keys_differ.ensures c.in_ok-pairs.pairs.items c.in_ok-pairs.ensures.ascending)

both : {T E : Type 0} (r : Result T E) (P Q R : T → Type 0) → ((x : T) → P x → Q x → R x) → IfOk r P → IfOk r Q
    → IfOk r R
both (Ok x) P Q R step p q = step x p q
both (Err e) P Q R step p q = tt

pub returns-clause-same : goal.returns-clause-same
returns-clause-same c =
    both c.from_pairs.result (λ again. IsSoundRows again.lists)
    (λ again. HoldPairs again.lists (migrated c.deref.result.now)) (λ again. again.lists ≡ c.args.rows.now.lists)
    (λ again sound held. c.pairs_are_of_one.ensures again.lists c.args.rows.now.lists c.in_ok-pairs.pairs.items sound
    c.requires (subst (λ (ps : List Pair). HoldPairs again.lists ps)
    (ap migrated c.deref.ensures.value
    ∙ new_already c.args.rows.now.lists c.in_ok-pairs.pairs.items c.in_ok-pairs.ensures.held) held)
    c.in_ok-pairs.ensures.held) c.from_pairs.ensures.sound c.from_pairs.ensures.pairs

only_memory : (pairs : List Pair) → AreUnbroken pairs → (e : PairsError) → BadPairs pairs e → e ≡ Memory
only_memory pairs unbroken (BadPair key) bad = absurd (
    let broken = bad.broken in
    let whole = unbroken key in
    cc (broken, whole))
only_memory pairs unbroken Memory bad = refl

pub returns-clause-memory : goal.returns-clause-memory
returns-clause-memory c =
    MatchResult-weaker c.from_pairs.result c.from_pairs.ensures.broken (λ rows none. none)
    (λ error bad. only_memory c.in_ok-pairs.pairs.items
    (c.sound_is_unbroken.ensures.sound_breaks_none c.args.rows.now.lists c.in_ok-pairs.pairs.items c.requires
    c.in_ok-pairs.ensures) error
    (subst (λ (ps : List Pair). BadPairs ps error) c.deref.ensures.value bad))

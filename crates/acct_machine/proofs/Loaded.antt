-- The rows that are read of a store's pairs are those that it is opened with, and the pairs of format 2 are theirs.
use Rattle.std.proofs.Common.{◌≡◌, ◌≢◌, ℕ, ◌==◌, Bool, true, false, cond, List, [], ◌∷◌, length, Option, Some, None}
use Rattle.std.proofs.Common.{option_map, Result, Ok, Err, refl, sym, ap, subst, ◌∙◌, IfSome, IfOk, IfErr, OnOk, OnErr}
use Rattle.std.proofs.Common.{arith}
use Rattle.std.proofs.lemmas.Bool.Decides.{nat_tests}
use Rattle.acct_config.specs.declared.config.Config.{Config}
use Rattle.acct_keeper.specs.declared.pairs.Pair.{Pair}
use Rattle.acct_keeper.specs.Pairs.{after, is_ascending}
use Rattle.acct_rows.specs.PairRules.{is_old, AreUnbroken, IsSmallestBroken}
use Rattle.acct_rows.specs.PairsOf.{ArePairsOf, HoldPairs, MigratedPairsAscend, migration, migrated}
use Rattle.acct_rows.specs.Rows.{Lists, Shown}
use Rattle.acct_machine.specs.declared.opened.OpenError.{OpenError}
use Rattle.acct_machine.specs.declared.opened.OpenError.TheVariants.{StoreFault, StoredPair, Memory}
use Rattle.acct_machine.specs.Opened.{OpensRows, OpenCause, LoadCause, IsMigrated}
use Rattle.acct_machine.specs.Outbox.{HoldsRows}

never : (A : Type 0) → true ≡ false → A
never A p = cc

-- ---- format 2

-- the pairs of the rows that were read
pub are-pairs : MigratedPairsAscend → (rows : Lists) (pairs : List Pair) → is_ascending pairs ≡ true
    → HoldPairs rows (migrated pairs) → ArePairsOf rows (migrated pairs)
are-pairs ascend rows pairs h holds = record { ascending = ascend pairs h; held = holds }

-- pairs of format 2 are left as they are
pub kept-new : (held now : Option (List Pair)) (pairs : List Pair) → now ≡ held → is_old pairs ≡ false
    → IfSome held (λ told. told ≡ pairs) → IfSome held (λ told. now ≡ Some (migrated pairs))
kept-new None now pairs same new are = tt
kept-new (Some told) now pairs same new are =
    same
    ∙ ap (λ (ps : List Pair). Some ps) are
    ∙ sym (ap (λ (b : Bool). Some (cond b (after (migration ∷ []) pairs) pairs)) new)

-- and those of format 1 are migrated
pub kept-old : (held now : Option (List Pair)) (pairs : List Pair) → is_old pairs ≡ true
    → IfSome held (λ told. told ≡ pairs) → now ≡ option_map (after (migration ∷ [])) held
    → IfSome held (λ told. now ≡ Some (migrated pairs))
kept-old None now pairs old are is = tt
kept-old (Some told) now pairs old are is =
    is
    ∙ ap (λ (ps : List Pair). Some (after (migration ∷ []) ps)) are
    ∙ sym (ap (λ (b : Bool). Some (cond b (after (migration ∷ []) pairs) pairs)) old)

-- ---- what a store is opened with

-- what the keeper told are the pairs that were loaded, of which a slice was read
pub told-same : (held now : Option (List Pair)) (pairs slice : List Pair) → now ≡ held
    → IfSome held (λ told. pairs ≡ told) → slice ≡ pairs → IfSome now (λ told. told ≡ slice)
told-same held None pairs slice same are is = tt
told-same None (Some told) pairs slice same are is = cc
told-same (Some first) (Some told) pairs slice same are is =
    let e : told ≡ first = cc in e ∙ sym are ∙ sym is

pub told-of : (held : Option (List Pair)) (pairs slice : List Pair) → IfSome held (λ told. pairs ≡ told)
    → slice ≡ pairs → IfSome held (λ told. slice ≡ told)
told-of None pairs slice are is = tt
told-of (Some told) pairs slice are is = is ∙ are

-- and there are some
pub some : (slice pairs : List Pair) (count : ℕ) → slice ≡ pairs → length pairs ≡ count → (count == 0) ≡ false
    → (length slice == 0) ≡ false
some slice pairs count is counted full =
    ap (λ (ps : List Pair). length ps == 0) is ∙ ap (λ (n : ℕ). n == 0) counted ∙ full

opened-with : (config : Config) (told : List Pair) (rows : Lists) → (length told == 0) ≡ false → AreUnbroken told
    → ArePairsOf rows (migrated told) → OpensRows config told rows
opened-with config [] rows some unbroken are = never _ some
opened-with config (pair ∷ told) rows some unbroken are = (unbroken, are)

pub opened-of : (config : Config) (held : Option (List Pair)) (pairs : List Pair) (result : Result Shown OpenError)
    → (length pairs == 0) ≡ false → IfSome held (λ told. pairs ≡ told) → OnOk result (AreUnbroken pairs)
    → IfOk result (λ (rows : Shown). ArePairsOf rows.lists (migrated pairs))
    → IfOk result (λ (rows : Shown). IfSome held (λ told. OpensRows config told rows.lists))
opened-of config held pairs (Err e) some same unbroken are = tt
opened-of config None pairs (Ok rows) some same unbroken are = tt
opened-of config (Some told) pairs (Ok rows) some same unbroken are =
    subst (λ (ps : List Pair). OpensRows config ps rows.lists) same
    (opened-with config pairs rows.lists some unbroken are)

-- ---- what it holds then

is-migrated : (told : List Pair) (now : Option (List Pair)) → now ≡ Some (migrated told) → IsMigrated told now
is-migrated [] now is = tt
is-migrated (pair ∷ told) now is = is

kept-by : (held before now : Option (List Pair)) (pairs : List Pair) → before ≡ held
    → IfSome held (λ told. pairs ≡ told) → IfSome before (λ told. now ≡ Some (migrated pairs))
    → IfSome held (λ told. IsMigrated told now)
kept-by None before now pairs same are is = tt
kept-by (Some told) None now pairs same are is = cc
kept-by (Some told) (Some first) now pairs same are is =
    is-migrated told now (is ∙ ap (λ (ps : List Pair). Some (migrated ps)) are)

pub kept-of : (held before now : Option (List Pair)) (pairs : List Pair) (result : Result Shown OpenError)
    → before ≡ held → IfSome held (λ told. pairs ≡ told)
    → OnOk result (IfSome before (λ told. now ≡ Some (migrated pairs)))
    → OnOk result (IfSome held (λ told. IsMigrated told now))
kept-of held before now pairs (Err e) same are kept = tt
kept-of held before now pairs (Ok rows) same are kept = kept-by held before now pairs same are kept

-- a store without a pair had none to keep
pub kept-seeded : (held now : Option (List Pair)) (pairs : List Pair) (result : Result Shown OpenError)
    → (length pairs == 0) ≡ true → IfSome held (λ told. pairs ≡ told)
    → OnOk result (IfSome held (λ told. IsMigrated told now))
kept-seeded held now pairs (Err e) none are = tt
kept-seeded None now pairs (Ok rows) none are = tt
kept-seeded (Some told) now [] (Ok rows) none are = subst (λ (ps : List Pair). IsMigrated ps now) are tt
kept-seeded (Some told) now (pair ∷ pairs) (Ok rows) none are = absurd (grind (arith, nat_tests))

stored-by : (before now : Option (List Pair)) (pairs : List Pair) (rows : Lists)
    → IfSome before (λ told. now ≡ Some (migrated pairs)) → (before ≡ None → now ≡ None)
    → ArePairsOf rows (migrated pairs) → HoldsRows now rows
stored-by None now pairs rows kept tells are =
    subst (λ (held : Option (List Pair)). HoldsRows held rows) (sym (tells refl)) tt
stored-by (Some told) now pairs rows kept tells are =
    subst (λ (held : Option (List Pair)). HoldsRows held rows) (sym kept) are

pub stored-of : (before now : Option (List Pair)) (pairs : List Pair) (result : Result Shown OpenError)
    → OnOk result (IfSome before (λ told. now ≡ Some (migrated pairs))) → (before ≡ None → now ≡ None)
    → IfOk result (λ (rows : Shown). ArePairsOf rows.lists (migrated pairs))
    → IfOk result (λ (rows : Shown). HoldsRows now rows.lists)
stored-of before now pairs (Err e) kept tells are = tt
stored-of before now pairs (Ok rows) kept tells are = stored-by before now pairs rows.lists kept tells are

-- ---- why it isn't opened

-- an error of the pairs that were told is one of what the keeper holds
cause-by : (held : Option (List Pair)) (pairs : List Pair) (before later : ℕ) (e : OpenError)
    → (length pairs == 0) ≡ false → IfSome held (λ told. pairs ≡ told) → LoadCause pairs before later e
    → OpenCause held before later e
cause-by held pairs before later StoreFault some are cause = cause
cause-by held pairs before later Memory some are cause = tt
cause-by None pairs before later (StoredPair key) some are cause = tt
cause-by (Some told) pairs before later (StoredPair key) some are cause =
    subst (λ (ps : List Pair). (ps ≢ []) × IsSmallestBroken ps key) are
    (λ none. never _ (ap (λ (ps : List Pair). length ps == 0) (sym none) ∙ some), cause)

pub cause-of : (held : Option (List Pair)) (pairs : List Pair) (before now later : ℕ)
    (result : Result Shown OpenError) → now ≡ before → (length pairs == 0) ≡ false
    → IfSome held (λ told. pairs ≡ told) → IfErr result (LoadCause pairs now later)
    → IfErr result (OpenCause held before later)
cause-of held pairs before now later (Ok rows) same some are cause = tt
cause-of held pairs before now later (Err e) same some are cause =
    cause-by held pairs before later e some are
    (subst (λ (n : ℕ). LoadCause pairs n later e) same cause)

pub on-err-same : (held before now : Option (List Pair)) (result : Result Shown OpenError) → before ≡ held
    → OnErr result (now ≡ before) → OnErr result (now ≡ held)
on-err-same held before now (Ok rows) same is = tt
on-err-same held before now (Err e) same is = is ∙ same

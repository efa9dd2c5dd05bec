-- A replay under the configuration that its document spells.
use Rattle.std.proofs.Common.{◌≡◌, ℕ, ◌<◌, ◌≤◌, inl, inr, Bool, true, false, cond, List, [], length, Option, Some, None}
use Rattle.std.proofs.Common.{refl, ◌∙◌, ap, subst, arith, IfSome, ◌∷◌}
use Rattle.std.proofs.lemmas.Bool.Decides.{nat_tests}
use Rattle.std.specs.Prelude.{nat_lt}
use Rattle.acct_config.specs.declared.config.Config.{Config}
use Rattle.acct_config.specs.declared.errors.ConfigError.{ConfigError}
use Rattle.acct_config.specs.declared.errors.ConfigError.TheVariants as refusal
use Rattle.acct_config.specs.Errors.{IsFirst}
use Rattle.acct_config.specs.Rules.{first_broken}
use Rattle.acct_config.specs.Spelled.{IsSpelledBy}
use Rattle.acct_base.specs.Words.{is_within}
use Rattle.acct_machine.specs.declared.entry.Entry.{Entry}
use Rattle.acct_server.specs.declared.status.Status.{Status}
use Rattle.acct_server.specs.declared.status.Status.TheVariants.{Done, NoMemory, Usage, Config as ConfigBroken}
use Rattle.acct_server.specs.declared.status.Status.TheVariants.{ReadFault, WriteFault, StoreFault, StoredPair}
use Rattle.acct_server.specs.declared.status.Status.TheVariants.{EventLine, DoorFault, HistoryFull, PeerBytes}
use Rattle.acct_server.specs.declared.status.Status.TheVariants.{PeerFault}
use Rattle.acct_server.specs.declared.status.Status.TheVariants.{InputTooLong, Refused, HookHeld, HookStore, SpawnFault}
use Rattle.acct_keeper.specs.declared.whole.WholeError.{WholeError}
use Rattle.acct_keeper.specs.declared.whole.WholeError.TheVariants.{Fault, TooLong, Memory}
use Rattle.acct_keeper.specs.Faults.{Rose, NotRisen, most_bytes, WholeCause, IsWhole}
use Rattle.acct_keeper.specs.declared.pairs.Pair.{Pair}
use Rattle.acct_machine.specs.declared.opened.OpenError.{OpenError}
use Rattle.acct_machine.specs.declared.opened.OpenError.TheVariants as unopened
use Rattle.acct_machine.specs.Opened.{OpensRows, OpenCause, IsMigrated}
use Rattle.acct_machine.specs.State.{Start}
use Rattle.acct_machine.specs.Outbox.{HoldsRows, AreCounted}
use Rattle.acct_rows.specs.Rows.{Lists}
use Rattle.acct_server.specs.Begun.{IsBegun}
use Rattle.acct_server.specs.Leaves.{BreaksNone, IsConfigured, refused_status, spelled, IsRunThrough, IsOfRun}
use Rattle.acct_server.specs.Leaves.{ConfigCause, EventsCause, unread_status, unless_broken, StoreCause, StoreKept}
use Rattle.acct_server.specs.Leaves.{asked_before, IsAsked, unopened_status}
use Rattle.acct_server.specs.Replaying.{TellingReplay, Parts, RunsLines, HasRunLines, StopsAtStore, AsksFor, IsReplay}
use Rattle.acct_server.specs.Replayed.{replayed}
use Rattle.acct_server.specs.declared.replays.Replayed.{Replayed}

-- a configuration that is taken breaks no rule
pub breaks_none : (left : Option (List ℕ)) (config : Config) → IsConfigured left config → BreaksNone left
breaks_none None config configured = tt
breaks_none (Some document) config configured = configured.told.kept_all

-- so many listeners as a right configuration may have
pub few_listeners : (n : ℕ) → is_within 1 16 n ≡ true → n ≤ 16
few_listeners n within = grind (arith, nat_tests)

-- ---- the status that is asked for

not_long : (bytes : List ℕ) → length bytes ≤ most_bytes → nat_lt most_bytes (length bytes) ≡ false
not_long bytes short = grind (arith, nat_tests)

long : (bytes : List ℕ) → most_bytes < length bytes → nat_lt most_bytes (length bytes) ≡ true
long bytes more = grind (arith, nat_tests)

none-by : (l : Bool) (o : Option ℕ) (m : Bool) → l ≡ false → o ≡ None → m ≡ false
    → cond l (Some InputTooLong) (unless_broken o (cond m (Some InputTooLong) None)) ≡ None
none-by l o m short kept few = rw short (rw kept (rw few refl))

asked-none : (document bytes : List ℕ) → length document ≤ most_bytes → first_broken document ≡ None
    → length bytes ≤ most_bytes → asked_before document bytes ≡ None
asked-none document bytes short kept few =
    none-by (nat_lt most_bytes (length document)) (first_broken document) (nat_lt most_bytes (length bytes))
    (not_long document short) kept (not_long bytes few)

begun-spelled : (document : List ℕ) (config : Config) (pairs : List Pair) (faults : ℕ) (start : Start)
    → IsSpelledBy document config → IsBegun config (Some pairs) faults start
    → IsBegun (spelled document) (Some pairs) faults start
begun-spelled document config pairs faults start spells begun = record {
  under = begun.under ∙ spells.value;
  rows = subst (λ (c : Config). OpensRows c pairs start.rows) spells.value begun.rows;
  sound = begun.sound;
  count = begun.count;
}

asked-run : (document bytes : List ℕ) (pairs : List Pair) (history : List Entry) (count : ℕ) (start : Start)
    (status : Status)
    → asked_before document bytes ≡ None → IsBegun (spelled document) (Some pairs) count start
    → IsOfRun status → (status ≡ WriteFault → ⊥)
    → (IsRunThrough status → status ≡ (replayed start bytes history).status)
    → IsAsked document bytes pairs history status
asked-run document bytes pairs history count start Done before begun of_run none through =
    inr (inl (before, inr (record { count = count; start = start; begun = begun; is = through tt })))
asked-run document bytes pairs history count start NoMemory before begun of_run none through = inr (inr refl)
asked-run document bytes pairs history count start Usage before begun of_run none through = absurd of_run
asked-run document bytes pairs history count start (ConfigBroken n) before begun of_run none through = absurd of_run
asked-run document bytes pairs history count start ReadFault before begun of_run none through = absurd of_run
asked-run document bytes pairs history count start WriteFault before begun of_run none through = absurd (none refl)
asked-run document bytes pairs history count start StoreFault before begun of_run none through = absurd of_run
asked-run document bytes pairs history count start (StoredPair key) before begun of_run none through = absurd of_run
asked-run document bytes pairs history count start (EventLine n) before begun of_run none through =
    inr (inl (before, inr (record { count = count; start = start; begun = begun; is = through tt })))
asked-run document bytes pairs history count start DoorFault before begun of_run none through = absurd of_run
asked-run document bytes pairs history count start (HistoryFull n) before begun of_run none through =
    inr (inl (before, inr (record { count = count; start = start; begun = begun; is = through tt })))
asked-run document bytes pairs history count start (PeerBytes place) before begun of_run none through = absurd of_run
asked-run document bytes pairs history count start PeerFault before begun of_run none through = absurd of_run
asked-run document bytes pairs history count start InputTooLong before begun of_run none through = absurd of_run
asked-run document bytes pairs history count start (Refused n) before begun of_run none through = absurd of_run
asked-run document bytes pairs history count start (HookHeld n) before begun of_run none through = absurd of_run
asked-run document bytes pairs history count start (HookStore n) before begun of_run none through = absurd of_run
asked-run document bytes pairs history count start SpawnFault before begun of_run none through = absurd of_run

-- ---- what was read of the sources

pub told-spelled : (left : Option (List ℕ)) (whole given : List ℕ) (config : Config)
    → IfSome left (λ bytes. whole ≡ bytes) → given ≡ whole → IsSpelledBy given config
    → IfSome left (λ document. IsSpelledBy document config)
told-spelled None whole given config is same spells = tt
told-spelled (Some document) whole given config is same spells =
    subst (λ (bs : List ℕ). IsSpelledBy bs config) (same ∙ is) spells

pub told-short : (left : Option (List ℕ)) (whole : List ℕ) → IfSome left (λ bytes. whole ≡ bytes)
    → length whole ≤ most_bytes → IfSome left (λ document. length document ≤ most_bytes)
told-short None whole is few = tt
told-short (Some document) whole is few = subst (λ (bs : List ℕ). length bs ≤ most_bytes) is few

-- why the configuration isn't taken, or the events aren't
pub config-whole : (left : Option (List ℕ)) (before now : ℕ) (e : WholeError) → WholeCause left before now e
    → ConfigCause left before now (unread_status e)
config-whole left before now Fault cause = cause
config-whole left before now TooLong cause = cause
config-whole left before now Memory cause = tt

pub events-whole : (left : Option (List ℕ)) (before now : ℕ) (e : WholeError) → WholeCause left before now e
    → EventsCause left before now (unread_status e)
events-whole left before now Fault cause = cause
events-whole left before now TooLong cause = cause
events-whole left before now Memory cause = tt

-- why the store isn't opened
pub store-unopened : (held : Option (List Pair)) (before now : ℕ) (e : OpenError) → OpenCause held before now e
    → StoreCause held before now (unopened_status e)
store-unopened held before now unopened.StoreFault cause = cause
store-unopened held before now (unopened.StoredPair key) cause = cause
store-unopened held before now unopened.Memory cause = tt

-- what the keeper holds where memory ran out for the machine, once the store was opened
pub kept-before-machine : (config : Config) (held now : Option (List Pair)) (rows : Lists)
    → IfSome held (λ pairs. OpensRows config pairs rows) → IfSome held (λ pairs. IsMigrated pairs now)
    → HoldsRows now rows → StoreKept config held now NoMemory
kept-before-machine config None now rows opened kept stored = inr (refl, tt)
kept-before-machine config (Some []) now rows opened kept stored =
    inr (refl, subst (λ (r : Lists). HoldsRows now r) opened stored)
kept-before-machine config (Some (pair ∷ pairs)) now rows opened kept stored = inr (refl, kept)

pub config-rule : (left : Option (List ℕ)) (before now : ℕ) (whole given : List ℕ) (error : ConfigError)
    → IfSome left (λ bytes. whole ≡ bytes) → length whole ≤ most_bytes → given ≡ whole
    → IsFirst (first_broken given) error → ConfigCause left before now (refused_status error)
config-rule None before now whole given (refusal.Rule n) is few same first = tt
config-rule (Some document) before now whole given (refusal.Rule n) is few same first = (
  subst (λ (bs : List ℕ). first_broken bs ≡ Some n) (same ∙ is) first,
  subst
      (λ (bs : List ℕ). length bs ≤ most_bytes) is few,
)
config-rule left before now whole given refusal.Memory is few same first = tt

-- ---- where no count rose, the status is the one that is asked for

not_risen : (before now : ℕ) → NotRisen before now → Rose before now → ⊥
not_risen before now still rose = omega (arith, still.0, still.1, rose)

events-by : (l : Bool) (o : Option ℕ) (m : Bool) → o ≡ None → m ≡ true
    → cond l (Some InputTooLong) (unless_broken o (cond m (Some InputTooLong) None)) ≡ Some InputTooLong
events-by true o m kept many = refl
events-by false o m kept many = rw kept (rw many refl)

document-by : (l : Bool) (rest : Option Status) → l ≡ true → cond l (Some InputTooLong) rest ≡ Some InputTooLong
document-by l rest is = rw is refl

rule-by : (l : Bool) (o : Option ℕ) (n : ℕ) (rest : Option Status) → l ≡ false → o ≡ Some n
    → cond l (Some InputTooLong) (unless_broken o rest) ≡ Some (ConfigBroken n)
rule-by l o n rest short broken = rw short (rw broken refl)

-- the configuration wasn't taken
config-asked : (document bytes : List ℕ) (pairs : List Pair) (before now : ℕ) (history : List Entry) (status : Status)
    → ConfigCause (Some document) before now status → NotRisen before now
    → IsAsked document bytes pairs history status
config-asked document bytes pairs before now history Done cause still = absurd cause
config-asked document bytes pairs before now history NoMemory cause still = inr (inr refl)
config-asked document bytes pairs before now history Usage cause still = absurd cause
config-asked document bytes pairs before now history (ConfigBroken n) cause still =
    inl (rule-by (nat_lt most_bytes (length document)) (first_broken document) n _ (not_long document cause.1) cause.0)
config-asked document bytes pairs before now history ReadFault cause still =
    absurd (not_risen before now still cause)
config-asked document bytes pairs before now history WriteFault cause still = absurd cause
config-asked document bytes pairs before now history StoreFault cause still = absurd cause
config-asked document bytes pairs before now history (StoredPair key) cause still = absurd cause
config-asked document bytes pairs before now history (EventLine n) cause still = absurd cause
config-asked document bytes pairs before now history DoorFault cause still = absurd cause
config-asked document bytes pairs before now history (HistoryFull n) cause still = absurd cause
config-asked document bytes pairs before now history (PeerBytes place) cause still = absurd cause
config-asked document bytes pairs before now history PeerFault cause still = absurd cause
config-asked document bytes pairs before now history InputTooLong cause still =
    inl (document-by (nat_lt most_bytes (length document)) _ (long document cause))
config-asked document bytes pairs before now history (Refused n) cause still = absurd cause
config-asked document bytes pairs before now history (HookHeld n) cause still = absurd cause
config-asked document bytes pairs before now history (HookStore n) cause still = absurd cause
config-asked document bytes pairs before now history SpawnFault cause still = absurd cause

-- the events weren't
events-asked : (document bytes : List ℕ) (pairs : List Pair) (before now : ℕ) (history : List Entry) (status : Status)
    → first_broken document ≡ None → EventsCause (Some bytes) before now status → NotRisen before now
    → IsAsked document bytes pairs history status
events-asked document bytes pairs before now history Done none cause still = absurd cause
events-asked document bytes pairs before now history NoMemory none cause still = inr (inr refl)
events-asked document bytes pairs before now history Usage none cause still = absurd cause
events-asked document bytes pairs before now history (ConfigBroken n) none cause still = absurd cause
events-asked document bytes pairs before now history ReadFault none cause still =
    absurd (not_risen before now still cause)
events-asked document bytes pairs before now history WriteFault none cause still = absurd cause
events-asked document bytes pairs before now history StoreFault none cause still = absurd cause
events-asked document bytes pairs before now history (StoredPair key) none cause still = absurd cause
events-asked document bytes pairs before now history (EventLine n) none cause still = absurd cause
events-asked document bytes pairs before now history DoorFault none cause still = absurd cause
events-asked document bytes pairs before now history (HistoryFull n) none cause still = absurd cause
events-asked document bytes pairs before now history (PeerBytes place) none cause still = absurd cause
events-asked document bytes pairs before now history PeerFault none cause still = absurd cause
events-asked document bytes pairs before now history InputTooLong none cause still =
    inl (events-by (nat_lt most_bytes (length document)) (first_broken document) (nat_lt most_bytes (length bytes)) none
    (long bytes cause))
events-asked document bytes pairs before now history (Refused n) none cause still = absurd cause
events-asked document bytes pairs before now history (HookHeld n) none cause still = absurd cause
events-asked document bytes pairs before now history (HookStore n) none cause still = absurd cause
events-asked document bytes pairs before now history SpawnFault none cause still = absurd cause

-- the store wasn't opened
store-asked : (document bytes : List ℕ) (pairs : List Pair) (before now : ℕ) (history : List Entry) (status : Status)
    → asked_before document bytes ≡ None → StoreCause (Some pairs) before now status → NotRisen before now
    → IsAsked document bytes pairs history status
store-asked document bytes pairs before now history Done none cause still = absurd cause
store-asked document bytes pairs before now history NoMemory none cause still = inr (inr refl)
store-asked document bytes pairs before now history Usage none cause still = absurd cause
store-asked document bytes pairs before now history (ConfigBroken n) none cause still = absurd cause
store-asked document bytes pairs before now history ReadFault none cause still = absurd cause
store-asked document bytes pairs before now history WriteFault none cause still = absurd cause
store-asked document bytes pairs before now history StoreFault none cause still =
    absurd (not_risen before now still cause)
store-asked document bytes pairs before now history (StoredPair key) none cause still =
    inr (inl (none, inl (record { key = key; some = cause.0; broken = cause.1; is = refl })))
store-asked document bytes pairs before now history (EventLine n) none cause still = absurd cause
store-asked document bytes pairs before now history DoorFault none cause still = absurd cause
store-asked document bytes pairs before now history (HistoryFull n) none cause still = absurd cause
store-asked document bytes pairs before now history (PeerBytes place) none cause still = absurd cause
store-asked document bytes pairs before now history PeerFault none cause still = absurd cause
store-asked document bytes pairs before now history InputTooLong none cause still = absurd cause
store-asked document bytes pairs before now history (Refused n) none cause still = absurd cause
store-asked document bytes pairs before now history (HookHeld n) none cause still = absurd cause
store-asked document bytes pairs before now history (HookStore n) none cause still = absurd cause
store-asked document bytes pairs before now history SpawnFault none cause still = absurd cause

config-complete : (left events : Option (List ℕ)) (held : Option (List Pair)) (before now : ℕ) (history : List Entry)
    (status : Status) → ConfigCause left before now status → NotRisen before now
    → AsksFor left events held history status
config-complete None events held before now history status cause still = tt
config-complete (Some document) None held before now history status cause still = tt
config-complete (Some document) (Some bytes) None before now history status cause still = tt
config-complete (Some document) (Some bytes) (Some pairs) before now history status cause still =
    config-asked document bytes pairs before now history status cause still

events-complete : (left events : Option (List ℕ)) (held : Option (List Pair)) (before now : ℕ) (history : List Entry)
    (status : Status) → BreaksNone left → EventsCause events before now status → NotRisen before now
    → AsksFor left events held history status
events-complete None events held before now history status none cause still = tt
events-complete (Some document) None held before now history status none cause still = tt
events-complete (Some document) (Some bytes) None before now history status none cause still = tt
events-complete (Some document) (Some bytes) (Some pairs) before now history status none cause still =
    events-asked document bytes pairs before now history status none cause still

store-complete : (left events : Option (List ℕ)) (held : Option (List Pair)) (before now : ℕ) (history : List Entry)
    (status : Status) → BreaksNone left → IfSome left (λ document. length document ≤ most_bytes)
    → IfSome events (λ bytes. length bytes ≤ most_bytes) → StoreCause held before now status → NotRisen before now
    → AsksFor left events held history status
store-complete None events held before now history status none short few cause still = tt
store-complete (Some document) None held before now history status none short few cause still = tt
store-complete (Some document) (Some bytes) None before now history status none short few cause still = tt
store-complete (Some document) (Some bytes) (Some pairs) before now history status none short few cause still =
    store-asked document bytes pairs before now history status (asked-none document bytes short none few) cause still

run-complete : {K : Type 0} (left told : Option (List ℕ)) (pairs : Option (List Pair)) (config : Config)
    (events : List ℕ) (faults : ℕ) (start : Start) (held now : Option (List ℕ)) (before after : ℕ) (end : Replayed K)
    → IsConfigured left config
    → IfSome left (λ document. length document ≤ most_bytes) → IsWhole told events → IsBegun config pairs faults start
    → RunsLines start events held now before after end → NotRisen before after
    → AsksFor left told pairs end.history end.status
run-complete None told pairs config events faults start held now before after end configured short whole begun runs
    still =
    tt
run-complete (Some document) None pairs config events faults start held now before after end configured short whole
    begun runs still =
    tt
run-complete (Some document) (Some bytes) None config events faults start held now before after end configured short
    whole begun runs still =
    tt
run-complete (Some document) (Some bytes) (Some pairs) config events faults start held now before after end configured
    short whole begun runs still =
    subst (λ (bs : List ℕ). IsAsked document bs pairs end.history end.status) whole.all
    (asked-run document events pairs end.history faults start end.status
    (asked-none document events short configured.told.kept_all whole.within)
    (begun-spelled document config pairs faults start configured.told begun) runs.possible
    (λ fault. not_risen before after still (runs.write fault)) (λ ran. (runs.through ran).ends))

-- ---- a replay, by what it came to

-- a count that is as it was has not fallen
same-later : (m n : ℕ) → n ≡ m → m ≤ n
same-later m n same = omega (arith, same)

-- no machine was made
pub record MadeNone {K : Type 0} (left : Replayed K) : Type 0 where
  pub opening : left.opening ≡ None
  pub nothing : left.history ≡ []
  pub rows : left.rows ≡ None

pub made-none : {K : Type 0} (left : Replayed K) → left.opening ≡ None → left.history ≡ [] → left.rows ≡ None
    → MadeNone left
made-none left opening nothing rows = record { opening = opening; nothing = nothing; rows = rows }

pub config-not-taken : {S T K : Type 0} (told : TellingReplay S T K) (old new : Parts S T K) (left : Replayed K)
    → MadeNone left → new.out ≡ old.out → new.events ≡ old.events → new.keeper ≡ old.keeper
    → ConfigCause (told.left old.config) (told.read_faults old.config) (told.read_faults new.config) left.status
    → told.read_faults old.config ≤ told.read_faults new.config → IsReplay told old new left
config-not-taken told old new left none out events keeper cause later = record {
  leaves = inl (record {
    opening = none.opening;
    nothing = none.nothing;
    rows = none.rows;
    out = out;
    cause = inl (record { cause = cause; events = events; keeper = keeper });
  });
  complete = λ quiet. config-complete (told.left old.config) (told.left old.events) (told.pairs old.keeper)
      (told.read_faults old.config) (told.read_faults new.config) left.history left.status cause quiet.config;
  config_later = later;
  events_later = same-later (told.read_faults old.events) (told.read_faults new.events) (ap told.read_faults events);
  out_later = same-later (told.write_faults old.out) (told.write_faults new.out) (ap told.write_faults out);
  keeper_later =
      same-later (told.store_faults old.keeper) (told.store_faults new.keeper) (ap told.store_faults keeper);
}

pub events-not-taken : {S T K : Type 0} (told : TellingReplay S T K) (old new : Parts S T K) (left : Replayed K)
    → MadeNone left → new.out ≡ old.out → new.keeper ≡ old.keeper → BreaksNone (told.left old.config)
    → IfSome (told.left old.config) (λ document. length document ≤ most_bytes)
    → EventsCause (told.left old.events) (told.read_faults old.events) (told.read_faults new.events) left.status
    → told.read_faults old.config ≤ told.read_faults new.config
    → told.read_faults old.events ≤ told.read_faults new.events
    → IsReplay told old new left
events-not-taken told old new left none out keeper breaks short cause config_later events_later = record {
  leaves = inl (record {
    opening = none.opening;
    nothing = none.nothing;
    rows = none.rows;
    out = out;
    cause = inr (inl (record { taken = breaks; short = short; cause = cause; keeper = keeper }));
  });
  complete = λ quiet. events-complete (told.left old.config) (told.left old.events) (told.pairs old.keeper)
      (told.read_faults old.events) (told.read_faults new.events) left.history left.status breaks cause quiet.events;
  config_later = config_later;
  events_later = events_later;
  out_later = same-later (told.write_faults old.out) (told.write_faults new.out) (ap told.write_faults out);
  keeper_later =
      same-later (told.store_faults old.keeper) (told.store_faults new.keeper) (ap told.store_faults keeper);
}

pub store-not-opened : {S T K : Type 0} (told : TellingReplay S T K) (old new : Parts S T K) (left : Replayed K)
    → MadeNone left → new.out ≡ old.out → StopsAtStore told old new left.status
    → told.read_faults old.config ≤ told.read_faults new.config
    → told.read_faults old.events ≤ told.read_faults new.events
    → told.store_faults old.keeper ≤ told.store_faults new.keeper → IsReplay told old new left
store-not-opened told old new left none out stops config_later events_later keeper_later = record {
  leaves = inl (record {
    opening = none.opening;
    nothing = none.nothing;
    rows = none.rows;
    out = out;
    cause = inr (inr stops);
  });
  complete = λ quiet. store-complete (told.left old.config) (told.left old.events) (told.pairs old.keeper)
      (told.store_faults old.keeper) (told.store_faults new.keeper) left.history left.status stops.taken stops.short
      stops.read stops.cause quiet.keeper;
  config_later = config_later;
  events_later = events_later;
  out_later = same-later (told.write_faults old.out) (told.write_faults new.out) (ap told.write_faults out);
  keeper_later = keeper_later;
}

-- the keeper's count doesn't fall along a history
pub counted-later : (now : ℕ) (start : Start) (history : List Entry) (faults : ℕ) → AreCounted now start history
    → start.faults ≡ faults → faults ≤ now
counted-later now start history faults counts is = omega (arith, counts.later, is)

pub lines-run : {S T K : Type 0} (told : TellingReplay S T K) (old new : Parts S T K) (left : Replayed K)
    → HasRunLines told old new left → told.read_faults old.config ≤ told.read_faults new.config
    → told.read_faults old.events ≤ told.read_faults new.events → told.write_faults old.out ≤ told.write_faults new.out
    → IsReplay told old new left
lines-run told old new left has config_later events_later out_later = record {
  leaves = inr has;
  complete = λ quiet. run-complete (told.left old.config) (told.left old.events) (told.pairs old.keeper) has.config
      has.events (told.store_faults old.keeper) has.start (told.held old.out) (told.held new.out)
      (told.write_faults old.out) (told.write_faults new.out) left has.configured has.short has.whole has.begun has.runs
      quiet.out;
  config_later = config_later;
  events_later = events_later;
  out_later = out_later;
  keeper_later = counted-later (told.store_faults new.keeper) has.start left.history (told.store_faults old.keeper)
      has.counts has.begun.count;
}

-- What a replay leaves, by its status, and under which configuration its lines are run.
use Rattle.std.specs.Prelude.{◌≡◌, ℕ, List, Option, None, IfSome, ◌≢◌, ◌<◌, ◌≤◌, [], ◌∷◌, ◌++◌, ◌⊎◌, take, length, Some}
use Rattle.std.specs.Prelude.{if◌then◌else◌, nat_lt, Bool, true, false}
use Rattle.std.specs.Io.KnownBytes.{Appends}
use Rattle.std.specs.List.{flat_map}
use Rattle.acct_config.specs.Document.{whole}
use Rattle.acct_config.specs.Spelled.{IsRightConfig, config_of, IsSpelledBy}
use Rattle.acct_config.specs.Rules.{first_broken}
use Rattle.acct_config.specs.declared.config.Config.{Config}
use Rattle.acct_config.specs.declared.errors.ConfigError.{ConfigError}
use Rattle.acct_config.specs.declared.errors.ConfigError.TheVariants as refusal
use Rattle.acct_keeper.specs.Faults.{Rose, most_bytes}
use Rattle.acct_keeper.specs.declared.pairs.Pair.{Pair}
use Rattle.acct_keeper.specs.declared.whole.WholeError.{WholeError}
use Rattle.acct_keeper.specs.declared.whole.WholeError.TheVariants.{Fault, TooLong, Memory}
use Rattle.acct_rows.specs.PairRules.{IsSmallestBroken}
use Rattle.acct_rows.specs.PairsOf.{migrated}
use Rattle.acct_rows.specs.Seed.{seed_lists}
use Rattle.acct_machine.specs.State.{Start}
use Rattle.acct_machine.specs.Outbox.{HoldsRows}
use Rattle.acct_machine.specs.declared.entry.Entry.{Entry}
use Rattle.acct_machine.specs.declared.opened.OpenError.{OpenError}
use Rattle.acct_machine.specs.declared.opened.OpenError.TheVariants as unopened
use Rattle.acct_server.specs.Begun.{IsBegun}
use Rattle.acct_server.specs.Replayed.{Effect, replayed, ending, entries_of, output_of, line_bytes}
use Rattle.acct_server.specs.steps.Running.{Running, standing}
use Rattle.acct_server.specs.declared.status.Status.{Status}
use Rattle.acct_server.specs.declared.status.Status.TheVariants.{NoMemory, Config as ConfigBroken, Done, ReadFault}
use Rattle.acct_server.specs.declared.status.Status.TheVariants.{WriteFault, StoreFault, StoredPair, EventLine}
use Rattle.acct_server.specs.declared.status.Status.TheVariants.{HistoryFull, InputTooLong}

-- ======== under which configuration the lines are run

-- the configuration that a document spells
abbrev pub spelled : List ℕ → Config
spelled document = config_of (whole document)

-- the document that a source has left, if it tells, breaks no rule
abbrev pub BreaksNone : Option (List ℕ) → Type 0
BreaksNone left = IfSome left (λ document. first_broken document ≡ None)

-- a configuration is right, and the one that the document spells, if the source tells it
pub record IsConfigured (left : Option (List ℕ)) (config : Config) : Type 0 where
  pub right : IsRightConfig config
  pub told : IfSome left (λ document. IsSpelledBy document config)

-- the status of a document that isn't taken
abbrev pub refused_status : ConfigError → Status
refused_status (refusal.Rule number) = ConfigBroken number
refused_status refusal.Memory = NoMemory

-- ======== what a replay leaves, by its status

-- the lines were run to their end, to a refused one, or to one that found the history full
abbrev pub IsRunThrough : Status → Type 0
IsRunThrough Done = Unit {0}
IsRunThrough (EventLine n) = Unit {0}
IsRunThrough (HistoryFull count) = Unit {0}
IsRunThrough _ = ⊥

-- a status of the run of the lines
abbrev pub IsOfRun : Status → Type 0
IsOfRun Done = Unit {0}
IsOfRun NoMemory = Unit {0}
IsOfRun WriteFault = Unit {0}
IsOfRun (EventLine n) = Unit {0}
IsOfRun (HistoryFull count) = Unit {0}
IsOfRun _ = ⊥

abbrev pub is_write_fault : Status → Bool
is_write_fault WriteFault = true
is_write_fault _ = false

-- The history, the bytes written and the status are those of the events, with the verdicts of the history.
pub record Leaves (start : Start) (held now : Option (List ℕ)) (events : List ℕ) (history : List Entry)
    (status : Status) : Type 0 where
  pub entries : history ≡ entries_of (replayed start events history).effects
  pub lines : Appends held now (output_of (replayed start events history).effects)
  pub ends : status ≡ (replayed start events history).status

-- The sink failed at the lines of an event or of the end: the history has the entries up to this one's, the lines of
-- the events
-- before are written whole, and of its own a prefix.
pub record Breaks (start : Start) (held now : Option (List ℕ)) (events : List ℕ) (history : List Entry) : Type 0 where
  pub done : List Effect
  pub met : Effect
  pub ahead : List Effect
  pub written : ℕ
  pub splits : (replayed start events history).effects ≡ done ++ met ∷ ahead
  pub entries : history ≡ entries_of done ++ met.entries
  pub lines : Appends held now (output_of done ++ take written (flat_map line_bytes met.prints))

-- Memory ran out: the history is a prefix of the entries, and what is written a prefix of the lines.
pub record RunsOut (start : Start) (held now : Option (List ℕ)) (events : List ℕ) (history : List Entry) : Type 0 where
  pub later : List Entry
  pub written : ℕ
  pub entries : entries_of (replayed start events history).effects ≡ history ++ later
  pub lines : Appends held now (take written (output_of (replayed start events history).effects))

-- the connections that were open have been ended, and their lines are written
pub record Finishes (held now : Option (List ℕ)) (old new : Running) (status answer : Status) : Type 0 where
  pub entries : new.machine.history ≡ old.machine.history ++ (ending (standing old)).entries
  pub lines : Appends held now (flat_map line_bytes (ending (standing old)).prints)
  pub ends : answer ≡ status

-- the same, where the sink failed
pub record FinishBreaks (held now : Option (List ℕ)) (old new : Running) : Type 0 where
  pub written : ℕ
  pub entries : new.machine.history ≡ old.machine.history ++ (ending (standing old)).entries
  pub lines : Appends held now (take written (flat_map line_bytes (ending (standing old)).prints))

-- ---- before the lines

abbrev pub IsLong : Option (List ℕ) → Type 0
IsLong left = IfSome left (λ bytes. most_bytes < length bytes)

-- why the configuration wasn't taken, by what its source had left and by its counts before and after
abbrev pub ConfigCause : Option (List ℕ) → ℕ → ℕ → Status → Type 0
ConfigCause left before now (ConfigBroken n) =
    IfSome left (λ document. (first_broken document ≡ Some n) × (length document ≤ most_bytes))
ConfigCause left before now ReadFault = Rose before now
ConfigCause left before now InputTooLong = IsLong left
ConfigCause left before now NoMemory = Unit {0}
ConfigCause left before now _ = ⊥

-- why the events weren't
abbrev pub EventsCause : Option (List ℕ) → ℕ → ℕ → Status → Type 0
EventsCause left before now ReadFault = Rose before now
EventsCause left before now InputTooLong = IsLong left
EventsCause left before now NoMemory = Unit {0}
EventsCause left before now _ = ⊥

-- why the store wasn't opened, by what the keeper held and its counts before and after
abbrev pub StoreCause : Option (List Pair) → ℕ → ℕ → Status → Type 0
StoreCause held before now StoreFault = Rose before now
StoreCause held before now (StoredPair key) = IfSome held (λ pairs. (pairs ≢ []) × IsSmallestBroken pairs key)
StoreCause held before now NoMemory = Unit {0}
StoreCause held before now _ = ⊥

-- what a store holds once it is opened: the pairs of the seed rows where it held none, and else its pairs in format 2
abbrev pub IsOpenedOf : Config → List Pair → Option (List Pair) → Type 0
IsOpenedOf config [] now = HoldsRows now (seed_lists config.name config.sid)
IsOpenedOf config (pair ∷ pairs) now = now ≡ Some (migrated (pair ∷ pairs))

-- What the keeper holds where no machine was made: what it held, or, where memory ran out after that, what it holds
-- once it is opened.
abbrev pub StoreKept : Config → Option (List Pair) → Option (List Pair) → Status → Type 0
StoreKept config held now status =
    (now ≡ held) ⊎ ((status ≡ NoMemory) × IfSome held (λ pairs. IsOpenedOf config pairs now))

-- a status, or that of a rule that is broken
abbrev pub unless_broken : Option ℕ → Option Status → Option Status
unless_broken None status = status
unless_broken (Some n) status = Some (ConfigBroken n)

-- the status that a configuration and events ask for before the store is opened
abbrev pub asked_before : List ℕ → List ℕ → Option Status
asked_before document events =
    if nat_lt most_bytes (length document) then Some InputTooLong
    else unless_broken (first_broken document) (if nat_lt most_bytes (length events) then Some InputTooLong else None)

-- the stored pairs break a rule, and this is the status of the smallest broken key
pub record AsksPair (pairs : List Pair) (status : Status) : Type 0 where
  pub key : List ℕ
  pub some : pairs ≢ []
  pub broken : IsSmallestBroken pairs key
  pub is : status ≡ StoredPair key

-- the status of the events, from the rows with which the store is opened, with the verdicts of a history
pub record AsksRun (document events : List ℕ) (pairs : List Pair) (history : List Entry) (status : Status) : Type 0
  where
    pub count : ℕ
    pub start : Start
    pub begun : IsBegun (spelled document) (Some pairs) count start
    pub is : status ≡ (replayed start events history).status

-- The status that a configuration, events and stored pairs ask for, or memory ran out.
abbrev pub IsAsked : List ℕ → List ℕ → List Pair → List Entry → Status → Type 0
IsAsked document events pairs history status =
    (asked_before document events ≡ Some status)
    ⊎ (((asked_before document events ≡ None)
    × (AsksPair pairs status ⊎ AsksRun document events pairs history status))
    ⊎ (status ≡ NoMemory))

abbrev pub unread_status : WholeError → Status
unread_status Fault = ReadFault
unread_status TooLong = InputTooLong
unread_status Memory = NoMemory

abbrev pub unopened_status : OpenError → Status
unopened_status unopened.StoreFault = StoreFault
unopened_status (unopened.StoredPair key) = StoredPair key
unopened_status unopened.Memory = NoMemory

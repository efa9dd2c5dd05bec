-- The contract of a replay, and what came and was sent on one connection of it.
use Rattle.std.specs.Prelude.{◌≡◌, ℕ, ◌==◌, Bool, false, List, [], if◌then◌else◌, ◌≤◌, ◌⊎◌, Option, Some, None, IfSome}
use Rattle.std.specs.Prelude.{length}
use Rattle.std.specs.List.{flat_map, list_any}
use Rattle.std.specs.Option.{option_map}
use Rattle.acct_config.specs.declared.config.Config.{Config}
use Rattle.acct_keeper.specs.Faults.{Rose, NotRisen, faults_after, most_bytes, IsWhole}
use Rattle.acct_keeper.specs.declared.pairs.Pair.{Pair}
use Rattle.acct_rows.specs.Rows.{Lists, Shown}
use Rattle.acct_machine.specs.Legal.{replies, calls_of, Legal}
use Rattle.acct_machine.specs.State.{Start}
use Rattle.acct_machine.specs.Step.{state_at}
use Rattle.acct_machine.specs.Outbox.{HoldsRows, AreCounted}
use Rattle.acct_machine.specs.declared.entry.Entry.{Entry}
use Rattle.link_sessions.specs.Transcript.{IsTranscribed}
use Rattle.acct_server.specs.Begun.{IsBegun, DeniesExactlyIn}
use Rattle.acct_server.specs.Leaves.{BreaksNone, IsConfigured, Leaves, Breaks, RunsOut, IsRunThrough, IsOfRun}
use Rattle.acct_server.specs.Leaves.{ConfigCause, EventsCause, StoreCause, StoreKept, IsAsked, is_write_fault}
use Rattle.acct_server.specs.Replayed.{Effect, Printed, Out, IsClosed, IsGone, FoundFull, replayed, entries_of}
use Rattle.acct_server.specs.declared.replays.Replayed.{Replayed}
use Rattle.acct_server.specs.declared.status.Status.{Status}
use Rattle.acct_server.specs.declared.status.Status.TheVariants.{WriteFault, NoMemory}

-- ======== what came and what was sent on one connection of a replay

abbrev pub on_connection : ℕ → ℕ × List ℕ → List ℕ
on_connection k (conn, bytes) = if conn == k then bytes else []

abbrev pub sent_by_line : ℕ → Printed → List ℕ
sent_by_line k (Out conn bytes) = if conn == k then bytes else []
sent_by_line k (IsClosed conn place cause) = []
sent_by_line k (IsGone conn) = []
sent_by_line k (FoundFull conn) = []

abbrev pub brought : ℕ → Effect → List ℕ
brought k e = flat_map (on_connection k) e.brings

abbrev pub sent_in : ℕ → Effect → List ℕ
sent_in k e = flat_map (sent_by_line k) e.prints

-- the whole stream that came on a connection
abbrev pub received : ℕ → List Effect → List ℕ
received k effects = flat_map (brought k) effects

-- all that the lines say was sent on it
abbrev pub sent : ℕ → List Effect → List ℕ
sent k effects = flat_map (sent_in k) effects

-- a line says that the connection found the history full
abbrev pub is_full_line : ℕ → Printed → Bool
is_full_line k (Out conn bytes) = false
is_full_line k (IsClosed conn place cause) = false
is_full_line k (IsGone conn) = false
is_full_line k (FoundFull conn) = conn == k

abbrev pub full_in : ℕ → Effect → Bool
full_in k e = list_any (is_full_line k) e.prints

-- the connection found the history full
abbrev pub found_full : ℕ → List Effect → Bool
found_full k effects = list_any (full_in k) effects

-- However the lines of two replays cut what comes on a connection that didn't find the history full: where the same
-- bytes came in all, its calls are the same, and where these had the same replies, so is all that was sent.
abbrev pub CutsChangeNothing : Type 0
CutsChangeNothing =
    (start : Start) (left right : List ℕ) (one other : List Entry) (k : ℕ)
    → let first = (replayed start left one).effects in
    let second = (replayed start right other).effects in
    one ≡ entries_of first → other ≡ entries_of second → found_full k first ≡ false → found_full k second ≡ false
    → received k first ≡ received k second
    → (calls_of k one ≡ calls_of k other) × (replies start k one ≡ replies start k other → sent k first ≡ sent k second)

-- ======== the contract of a replay, by its sources, its sink and its keeper before and after it, and what it leaves
-- The functions tell of a source the bytes that it has left and its count of faults, of a sink the bytes that it holds
-- and its count, and of a keeper the pairs and its count.

-- what the parts of a replay tell
pub record TellingReplay (S T K : Type 0) : Type 0 where
  pub left : S → Option (List ℕ)
  pub read_faults : S → ℕ
  pub held : T → Option (List ℕ)
  pub write_faults : T → ℕ
  pub pairs : K → Option (List Pair)
  pub store_faults : K → ℕ

-- the parts at one time
pub record Parts (S T K : Type 0) : Type 0 where
  pub config : S
  pub events : S
  pub out : T
  pub keeper : K

-- the lists of rows that were left, if any were
abbrev pub lists_in : Option Shown → Option Lists
lists_in rows = option_map (λ (r : Shown). r.lists) rows

-- The configuration wasn't taken, and the events and the keeper are untouched.
pub record StopsAtConfig {S T K : Type 0} (told : TellingReplay S T K) (old new : Parts S T K) (status : Status)
    : Type 0
  where
    pub cause : ConfigCause (told.left old.config) (told.read_faults old.config) (told.read_faults new.config) status
    pub events : new.events ≡ old.events
    pub keeper : new.keeper ≡ old.keeper

-- It was, and the events weren't, and the keeper is untouched.
pub record StopsAtEvents {S T K : Type 0} (told : TellingReplay S T K) (old new : Parts S T K) (status : Status)
    : Type 0
  where
    pub taken : BreaksNone (told.left old.config)
    pub short : IfSome (told.left old.config) (λ document. length document ≤ most_bytes)
    pub cause : EventsCause (told.left old.events) (told.read_faults old.events) (told.read_faults new.events) status
    pub keeper : new.keeper ≡ old.keeper

-- Both were, and the store wasn't opened: the keeper holds what it held, except the seed rows where memory ran out.
pub record StopsAtStore {S T K : Type 0} (told : TellingReplay S T K) (old new : Parts S T K) (status : Status) : Type 0
  where
    pub taken : BreaksNone (told.left old.config)
    pub short : IfSome (told.left old.config) (λ document. length document ≤ most_bytes)
    pub read : IfSome (told.left old.events) (λ events. length events ≤ most_bytes)
    pub cause : StoreCause (told.pairs old.keeper) (told.store_faults old.keeper) (told.store_faults new.keeper) status
    pub config : Config
    pub configured : IsConfigured (told.left old.config) config
    pub kept : StoreKept config (told.pairs old.keeper) (told.pairs new.keeper) status

-- The lines weren't run: no machine was made, nothing has happened and nothing was written.
pub record HasNotRun {S T K : Type 0} (told : TellingReplay S T K) (old new : Parts S T K) (left : Replayed K)
    : Type 0 where
  pub opening : left.opening ≡ None
  pub nothing : left.history ≡ []
  pub rows : left.rows ≡ None
  pub out : new.out ≡ old.out
  pub cause : StopsAtConfig told old new left.status
      ⊎ (StopsAtEvents told old new left.status ⊎ StopsAtStore told old new left.status)

-- Lines were run from one beginning.
pub record RunsLines {K : Type 0} (start : Start) (events : List ℕ) (held now : Option (List ℕ)) (before after : ℕ)
    (left : Replayed K) : Type 0 where
  pub possible : IsOfRun left.status
  -- the rows from which the history began, and those of the state after it
  pub opening : lists_in left.opening ≡ Some start.rows
  pub rows : lists_in left.rows ≡ Some (state_at start left.history).rows
  -- run to the end, to a refused line or to a full history: history, lines and status are those of the events, with
  -- the verdicts of the history
  pub through : IsRunThrough left.status → Leaves start held now events left.history left.status
  -- what was sent on each connection is the transcript of the acts of what came, with the replies of its calls
  pub transcribes : IsRunThrough left.status → (k : ℕ)
      → let effects = (replayed start events left.history).effects in
      IsTranscribed start left.history k (found_full k effects) (received k effects) (sent k effects)
  -- after a fault of the sink, whose count rose: the entries up to the event whose lines met it, and a prefix of its
  -- lines
  pub breaks : left.status ≡ WriteFault → Breaks start held now events left.history
  pub write : left.status ≡ WriteFault → Rose before after
  -- a write failed where that is the status, and no other did
  pub faults : after ≡ faults_after (is_write_fault left.status) before
  -- where memory ran out: a prefix of the entries, and a prefix of the lines
  pub stops : left.status ≡ NoMemory → RunsOut start held now events left.history
  -- the history is legal, and access is denied there exactly where a grant or an opening's check lacks a bit
  pub legal : Legal start left.history
  pub denies : DeniesExactlyIn start left.history

-- The lines were run, under the one configuration that the document spells and over the bytes of the events, from the
-- rows whose pairs the keeper held, or the seed rows where it held none; where a source or the keeper doesn't tell,
-- under some right configuration, over some bytes, from some sound rows. The keeper holds the pairs of the rows after
-- them, and its count has risen by one at each commit that failed in the history, and at nothing else.
pub record HasRunLines {S T K : Type 0} (told : TellingReplay S T K) (old new : Parts S T K) (left : Replayed K)
    : Type 0
  where
    pub config : Config
    pub events : List ℕ
    pub start : Start
    pub configured : IsConfigured (told.left old.config) config
    pub short : IfSome (told.left old.config) (λ document. length document ≤ most_bytes)
    pub whole : IsWhole (told.left old.events) events
    pub begun : IsBegun config (told.pairs old.keeper) (told.store_faults old.keeper) start
    pub runs : RunsLines start events (told.held old.out) (told.held new.out) (told.write_faults old.out)
        (told.write_faults new.out) left
    pub stored : HoldsRows (told.pairs new.keeper) (state_at start left.history).rows
    pub counts : AreCounted (told.store_faults new.keeper) start left.history

-- no count rose
pub record AllQuiet {S T K : Type 0} (told : TellingReplay S T K) (old new : Parts S T K) : Type 0 where
  pub config : NotRisen (told.read_faults old.config) (told.read_faults new.config)
  pub events : NotRisen (told.read_faults old.events) (told.read_faults new.events)
  pub out : NotRisen (told.write_faults old.out) (told.write_faults new.out)
  pub keeper : NotRisen (told.store_faults old.keeper) (told.store_faults new.keeper)

-- where all tell, the status is the one that the configuration, the events and the pairs ask for
abbrev pub AsksFor : Option (List ℕ) → Option (List ℕ) → Option (List Pair) → List Entry → Status → Type 0
AsksFor document events held history status =
    IfSome document
    (λ document. IfSome events (λ bytes. IfSome held (λ pairs. IsAsked document bytes pairs history status)))

pub record IsReplay {S T K : Type 0} (told : TellingReplay S T K) (old new : Parts S T K) (left : Replayed K)
    : Type 0 where
  pub leaves : HasNotRun told old new left ⊎ HasRunLines told old new left
  -- where no count rose, the status is the one that is asked for, or memory ran out
  pub complete : AllQuiet told old new
      → AsksFor (told.left old.config) (told.left old.events) (told.pairs old.keeper) left.history left.status
  pub config_later : told.read_faults old.config ≤ told.read_faults new.config
  pub events_later : told.read_faults old.events ≤ told.read_faults new.events
  pub out_later : told.write_faults old.out ≤ told.write_faults new.out
  pub keeper_later : told.store_faults old.keeper ≤ told.store_faults new.keeper

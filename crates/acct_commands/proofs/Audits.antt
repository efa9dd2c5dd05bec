-- An audit reads its sources whole, replays their events in memory, and tells the traces of a history that was run to
-- its end.
use Rattle.std.proofs.Common.{◌≡◌, ◌≢◌, ℕ, ◌≤◌, inl, inr, ◌⊎◌, List, [], length, Option, Some, None, refl, sym, ◌∙◌}
use Rattle.std.proofs.Common.{subst, arith, IfSome}
use Rattle.acct_config.specs.declared.config.Config.{Config}
use Rattle.acct_config.specs.Spelled.{IsSpelledBy}
use Rattle.acct_keeper.specs.Faults.{Rose, NotRisen, most_bytes}
use Rattle.acct_keeper.specs.declared.pairs.Pair.{Pair}
use Rattle.acct_machine.specs.Legal.{Legal, hooked_count}
use Rattle.acct_machine.specs.declared.entry.Entry.{Entry}
use Rattle.acct_machine.specs.State.{Start}
use Rattle.acct_rows.specs.Rows.{Lists, Shown}
use Rattle.acct_server.specs.Leaves.{BreaksNone, IsRunThrough, ConfigCause, EventsCause}
use Rattle.acct_server.specs.Replaying.{TellingReplay, Parts, RunsLines, HasRunLines, AsksFor, IsReplay, lists_in}
use Rattle.acct_server.specs.declared.replays.Replayed.{Replayed}
use Rattle.acct_server.specs.declared.status.Status.{Status}
use Rattle.acct_server.specs.declared.status.Status.TheVariants.{Done, NoMemory, WriteFault, Usage}
use Rattle.acct_server.proofs.Configuring.{made-none, config-not-taken, events-not-taken}
use Rattle.acct_commands.specs.Auditing.{in_memory, AreTraceable, MayBeTraced, TellsTraces, HasNotRead, HasAudited}
use Rattle.acct_commands.specs.Auditing.{IsAudit}
use Rattle.acct_commands.specs.Generating.{IsWritten}
use Rattle.acct_commands.specs.declared.auditing.Audited.{Audited}
use Rattle.acct_commands.proofs.Summarizing.{not-run-has-cause, written-not-usage}
use Rattle.acct_commands.proofs.Unhooked.{replayed-none}
use Rattle.acct_commands.proofs.Usages.{replay-not-usage}

-- ---- what a replay left may be traced

-- no row left the outbox
none-left : {K : Type 0} (start : Start) (events : List ℕ) (held now : Option (List ℕ)) (before after : ℕ)
    (left : Replayed K)
    → RunsLines start events held now before after left → left.status ≡ Done → hooked_count left.history ≡ 0
none-left start events held now before after left runs is =
    let through : IsRunThrough left.status = subst IsRunThrough (sym is) tt in
    subst (λ (es : List Entry). hooked_count es ≡ 0) (sym (runs.through through).entries)
    (replayed-none start events left.history)

-- a history that is legal from a beginning under a configuration that is this one
legal-under : (start : Start) (config : Config) (history : List Entry) → start.config ≡ config → Legal start history
    → Legal (record { config = config; rows = start.rows; faults = start.faults }) history
legal-under start config history same legal =
    subst (λ (c : Config). Legal (record { config = c; rows = start.rows; faults = start.faults }) history) same legal

run-traceable : {S T K : Type 0} (told : TellingReplay S T K) (old new : Parts S T K) (left : Replayed K)
    (document : List ℕ) (config : Config)
    → told.left old.config ≡ Some document → IsSpelledBy document config → (has : HasRunLines told old new left)
    → left.status ≡ Done → AreTraceable config left.history has.start.rows
run-traceable told old new left document config tells spells has is =
    let other : IsSpelledBy document has.config =
    subst (λ (o : Option (List ℕ)). IfSome o (λ d. IsSpelledBy d has.config)) tells has.configured.told in
    record {
      sound = has.begun.sound;
      legal = record {
        faults = has.start.faults;
        legal = legal-under has.start config left.history (has.begun.under ∙ other.value ∙ sym spells.value)
            has.runs.legal;
      };
      hooks = λ silent. none-left has.start has.events _ _ _ _ left has.runs is;
    }

-- a replay that was run to its end has what its traces are asked of
pub replay-traceable : {S T K : Type 0} (told : TellingReplay S T K) (old new : Parts S T K) (left : Replayed K)
    (document : List ℕ) (config : Config)
    → told.left old.config ≡ Some document → IsSpelledBy document config → IsReplay told old new left
    → left.status ≡ Done → MayBeTraced config left.history (lists_in left.opening)
replay-traceable told old new left document config tells spells replayed is = elim replayed.leaves [
  | inl none ↦ elim (not-run-has-cause told old new left Done none is) [
    | inl never ↦ absurd never
    | inr other ↦ elim other [ inl never ↦ absurd never | inr never ↦ absurd never ]
  ]
  | inr has ↦ subst (λ (o : Option Lists). MayBeTraced config left.history o) (sym has.runs.opening)
      (run-traceable told old new left document config tells spells has is)
]

-- ---- how an audit ends

not-risen : (before now : ℕ) → NotRisen before now → Rose before now → ⊥
not-risen before now still rose = omega (arith, still.0, still.1, rose)

abbrev IsDone : Status → Type 0
IsDone Done = Unit {0}
IsDone _ = ⊥

done-or : (s : Status) → (s ≡ Done) ⊎ (s ≢ Done)
done-or Done = inl refl
done-or _ = inr (λ is. subst IsDone (sym is) tt)

written-ends : (text : List ℕ) (held now : Option (List ℕ)) (before after : ℕ) (ended : Status)
    → IsWritten text held now before after ended → NotRisen before after → (ended ≡ Done) ⊎ (ended ≡ NoMemory)
written-ends text held now before after Done written still = inl refl
written-ends text held now before after NoMemory written still = inr refl
written-ends text held now before after WriteFault written still = absurd (not-risen before after still written.1)
written-ends text held now before after _ written still = absurd written

-- where no write failed an audit ends as its replay did, or memory ran out
told-ends : {T : Type 0} (config : Config) (status : Status) (opening : Option Shown) (history : List Entry)
    (old new : T) (held now : Option (List ℕ)) (before after : ℕ) (ended : Status)
    → TellsTraces config status opening history old new held now before after ended → NotRisen before after
    → (ended ≡ status) ⊎ (ended ≡ NoMemory)
told-ends config status opening history old new held now before after ended tells still = elim (done-or status) [
  | inl is ↦ elim (written-ends _ held now before after ended (tells.done is).written still) [
    | inl done ↦ inl (done ∙ sym is)
    | inr none ↦ inr none
  ]
  | inr other ↦ inl (tells.others other).0
]

pub audit-not-usage : {S T K : Type 0} (told : TellingReplay S T K) (old new : Parts S T K) (left : Audited K)
    → IsAudit told old new left → left.ended ≢ Usage
audit-not-usage told old new left audit is = elim audit.leaves [
  | inl none ↦ elim none.cause [
    | inl config ↦ subst (λ (s : Status). ConfigCause (told.left old.config) (told.read_faults old.config)
        (told.read_faults new.config) s) is config.cause
    | inr events ↦ subst (λ (s : Status). EventsCause (told.left old.events) (told.read_faults old.events)
        (told.read_faults new.events) s) is events.cause
  ]
  | inr has ↦ elim (done-or has.replay.status) [
    | inl done ↦ written-not-usage _ (told.held old.out) (told.held new.out) (told.write_faults old.out)
        (told.write_faults new.out) left.ended (has.tells.done done).written is
    | inr other ↦ replay-not-usage (in_memory told) _ has.after has.replay has.replayed
        (sym (has.tells.others other).0 ∙ is)
  ]
]

-- ---- the status that is asked for

-- what asks for a status of the bytes that were read asks for it of the sources
asks-whole : (config events : Option (List ℕ)) (document bytes : List ℕ) (held : Option (List Pair))
    (history : List Entry) (ended : Status)
    → IfSome config (λ whole. document ≡ whole) → IfSome events (λ whole. bytes ≡ whole)
    → AsksFor (Some document) (Some bytes) held history ended → AsksFor config events held history ended
asks-whole None events document bytes held history ended config_is events_is asks = tt
asks-whole (Some config) None document bytes held history ended config_is events_is asks = tt
asks-whole (Some config) (Some events) document bytes held history ended config_is events_is asks =
    subst (λ (d : List ℕ). AsksFor (Some d) (Some events) held history ended) config_is
    (subst (λ (e : List ℕ). AsksFor (Some document) (Some e) held history ended) events_is asks)

-- memory may run out whatever is asked for
asks-memory : (config events : Option (List ℕ)) (held : Option (List Pair)) (history : List Entry) (ended : Status)
    → ended ≡ NoMemory → AsksFor config events held history ended
asks-memory None events held history ended is = tt
asks-memory (Some config) None held history ended is = tt
asks-memory (Some config) (Some events) None history ended is = tt
asks-memory (Some config) (Some events) (Some pairs) history ended is = inr (inr is)

asks-ended : (config events : Option (List ℕ)) (held : Option (List Pair)) (before after : List Entry)
    (status ended : Status)
    → after ≡ before → (ended ≡ status) ⊎ (ended ≡ NoMemory) → AsksFor config events held before status
    → AsksFor config events held after ended
asks-ended config events held before after status ended same ends asks = elim ends [
  | inl is ↦ subst (λ (s : Status). AsksFor config events held after s) (sym is)
      (subst (λ (es : List Entry). AsksFor config events held es status) (sym same) asks)
  | inr is ↦ asks-memory config events held after ended is
]

-- ---- an audit, by what it came to

-- what an audit that replayed nothing left, told as a replay
abbrev replay_of : {K : Type 0} → Audited K → Replayed K
replay_of left = record {
  status = left.ended;
  opening = left.opening;
  history = left.history;
  rows = left.rows;
  keeper = left.keeper;
}

as-replay : {S T K : Type 0} (told : TellingReplay S T K) (old new : Parts S T K) (left : Audited K)
    → HasNotRead told old new left → IsReplay told old new (replay_of left) → IsAudit told old new left
as-replay told old new left none replayed = record {
  leaves = inl none;
  complete = replayed.complete;
  config_later = replayed.config_later;
  events_later = replayed.events_later;
  out_later = replayed.out_later;
  keeper_later = replayed.keeper_later;
}

pub config-not-read : {S T K : Type 0} (told : TellingReplay S T K) (old new : Parts S T K) (left : Audited K)
    → left.opening ≡ None → left.history ≡ [] → left.rows ≡ None → new.out ≡ old.out → new.events ≡ old.events
    → new.keeper ≡ old.keeper
    → ConfigCause (told.left old.config) (told.read_faults old.config) (told.read_faults new.config) left.ended
    → told.read_faults old.config ≤ told.read_faults new.config → IsAudit told old new left
config-not-read told old new left opening history rows out events keeper cause later =
    as-replay told old new left (record {
      cause = inl (record { cause = cause; events = events; keeper = keeper });
      opening = opening;
      history = history;
      rows = rows;
      out = out;
    }) (config-not-taken told old new (replay_of left) (made-none (replay_of left) opening history rows) out events
    keeper cause later)

pub events-not-read : {S T K : Type 0} (told : TellingReplay S T K) (old new : Parts S T K) (left : Audited K)
    → left.opening ≡ None → left.history ≡ [] → left.rows ≡ None → new.out ≡ old.out → new.keeper ≡ old.keeper
    → BreaksNone (told.left old.config) → IfSome (told.left old.config) (λ document. length document ≤ most_bytes)
    → EventsCause (told.left old.events) (told.read_faults old.events) (told.read_faults new.events) left.ended
    → told.read_faults old.config ≤ told.read_faults new.config
    → told.read_faults old.events ≤ told.read_faults new.events → IsAudit told old new left
events-not-read told old new left opening history rows out keeper taken short cause config_later events_later =
    as-replay told old new left (record {
      cause = inr (record { taken = taken; short = short; cause = cause; keeper = keeper });
      opening = opening;
      history = history;
      rows = rows;
      out = out;
    }) (events-not-taken told old new (replay_of left) (made-none (replay_of left) opening history rows) out keeper
    taken short cause config_later events_later)

still-0 : NotRisen 0 0
still-0 = (refl, omega arith)

pub has-audited : {S T K : Type 0} (told : TellingReplay S T K) (old new : Parts S T K) (left : Audited K)
    → HasAudited told old new left → told.read_faults old.config ≤ told.read_faults new.config
    → told.read_faults old.events ≤ told.read_faults new.events → IsAudit told old new left
has-audited told old new left has config_later events_later = record {
  leaves = inr has;
  complete = λ quiet. asks-whole (told.left old.config) (told.left old.events) has.document has.events
      (told.pairs old.keeper) left.history left.ended has.document_is.all has.events_are.all
      (asks-ended (Some has.document) (Some has.events) (told.pairs old.keeper) has.replay.history left.history
      has.replay.status left.ended has.history
      (told-ends has.config has.replay.status has.replay.opening has.replay.history old.out new.out
      (told.held old.out) (told.held new.out) (told.write_faults old.out) (told.write_faults new.out) left.ended
      has.tells quiet.out)
      (has.replayed.complete (record {
        config = still-0;
        events = still-0;
        out = still-0;
        keeper = subst (λ k. NotRisen (told.store_faults old.keeper) (told.store_faults k)) has.keeper quiet.keeper;
      })));
  config_later = config_later;
  events_later = events_later;
  out_later = has.tells.later;
  keeper_later = subst (λ k. told.store_faults old.keeper ≤ told.store_faults k) (sym has.keeper)
      has.replayed.keeper_later;
}

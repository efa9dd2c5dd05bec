-- Where nothing failed outside, serving comes to its end, round after round.
use Rattle.std.proofs.Common.{◌≡◌, ℕ, ◌-◌, ◌<◌, ◌≤◌, inl, inr, Bool, true, false, List, ◌∷◌, [], ◌++◌, length}
use Rattle.std.proofs.Common.{Option, Some, None, sym, ◌∙◌, subst, arith}
use Rattle.std.specs.Prelude.{IfSome, IsSome, if◌then◌else◌}
use Rattle.acct_config.specs.Rules.{first_broken}
use Rattle.acct_config.specs.Spelled.{IsSpelledBy}
use Rattle.acct_config.specs.declared.config.Config.{Config}
use Rattle.acct_keeper.specs.Faults.{Rose, NotRisen, KeepCause, most_bytes}
use Rattle.acct_keeper.specs.declared.keeper.KeepError.{KeepError}
use Rattle.acct_keeper.specs.declared.keeper.KeepError.TheVariants as keep
use Rattle.acct_config.specs.declared.config.Hook.{Hook}
use Rattle.acct_server.specs.Beside.{TellingBeside, ServingBesideIsComplete}
use Rattle.acct_server.specs.Serving.{IsServingsEnd, ServesQuietly, ServingIsComplete}
use Rattle.acct_server.specs.Leaves.{ConfigCause, spelled}
use Rattle.acct_server.specs.declared.status.Status.{Status}
use Rattle.acct_server.specs.declared.status.Status.TheVariants as status
use Rattle.acct_commands.specs.Serving.{TellingServe, ServeParts, Spawning, Round, Follow, AreRounds, RunsQuietly}
use Rattle.acct_commands.specs.Serving.{AreQuiet, IsQuiet, LeavesParts, SpawnCause, ending, entrance_status}
use Rattle.acct_commands.proofs.Periods.{PeriodBy}

not-risen : (before now : ℕ) → NotRisen before now → Rose before now → ⊥
not-risen before now still rose = omega (arith, still.0, still.1, rose)

-- ---- before the doors are served

-- a document that is told, is short and breaks no rule
abbrev Told : Option (List ℕ) → List ℕ → Type 0
Told left document = (left ≡ Some document) × (length document ≤ most_bytes) × (first_broken document ≡ None)

config-ends : (left : Option (List ℕ)) (document : List ℕ) (before now : ℕ) (s : Status) → Told left document
    → NotRisen before now → ConfigCause left before now s → IsServingsEnd s
config-ends left document before now status.Done told still cause = tt
config-ends left document before now status.NoMemory told still cause = tt
config-ends left document before now (status.HistoryFull n) told still cause = tt
config-ends left document before now status.Usage told still cause = cause
config-ends left document before now (status.Config n) told still cause =
    let broken = subst (λ (o : Option (List ℕ)). IfSome o (λ bytes. (first_broken bytes ≡ Some n)
    × (length bytes ≤ most_bytes))) told.0 cause in
    let clash : None ≡ Some n = sym told.2 ∙ broken.0 in
    absurd cc
config-ends left document before now status.ReadFault told still cause = absurd (not-risen before now still cause)
config-ends left document before now status.InputTooLong told still cause =
    let long : most_bytes < length document =
    subst (λ (o : Option (List ℕ)). IfSome o (λ bytes. most_bytes < length bytes)) told.0 cause in
    absurd (omega (arith, long, told.1))
config-ends left document before now status.WriteFault told still cause = cause
config-ends left document before now status.StoreFault told still cause = cause
config-ends left document before now (status.StoredPair key) told still cause = cause
config-ends left document before now (status.EventLine n) told still cause = cause
config-ends left document before now status.DoorFault told still cause = cause
config-ends left document before now (status.PeerBytes n) told still cause = cause
config-ends left document before now status.PeerFault told still cause = cause
config-ends left document before now (status.Refused n) told still cause = cause
config-ends left document before now (status.HookHeld n) told still cause = cause
config-ends left document before now (status.HookStore n) told still cause = cause
config-ends left document before now status.SpawnFault told still cause = cause

entrance-ends : (before now : ℕ) (e : KeepError) → NotRisen before now → KeepCause before now e
    → IsServingsEnd (entrance_status e)
entrance-ends before now keep.Failed still cause = absurd (not-risen before now still cause)
entrance-ends before now keep.NoMemory still cause = tt

-- ---- the rounds

kept-ends : (kept : Bool) (s : Status) → IsServingsEnd s → IsServingsEnd (if kept then s else status.NoMemory)
kept-ends true s ends = ends
kept-ends false s ends = tt

-- each round comes to its end
abbrev EachEnds : {D K P : Type 0} → List (Round D K P) → Type 0
EachEnds [] = Unit {0}
EachEnds (round ∷ rounds) = IsServingsEnd (ending round) × EachEnds rounds

last-ends : {D K P : Type 0} (earlier : List (Round D K P)) (last : Round D K P) → EachEnds (earlier ++ last ∷ [])
    → IsServingsEnd (ending last)
last-ends [] last each = each.0
last-ends (round ∷ earlier) last each = last-ends earlier last each.1

module _ {D F K P : Type 0} (telling : TellingBeside D F K P) (config : Config)
    (complete : ServingIsComplete telling.serving) (beside : ServingBesideIsComplete telling) where
  round-ends : (o : Option Hook) (doors : List D) (keeper : K) (spawner : Option P) (round : Round D K P)
      → PeriodBy telling config o doors keeper spawner round
      → ServesQuietly telling.serving doors round.doors keeper round.left
      → RunsQuietly telling spawner round.spawner → IsServingsEnd round.left.status
  round-ends None doors keeper spawner round alone still runs =
      (complete config doors round.doors keeper round.left alone.serves still).ends
  round-ends (Some hook) doors keeper spawner round by still runs =
      let quiet : RunsQuietly telling (Some by.before) (Some by.after) =
      subst (λ (s : Option P). RunsQuietly telling s (Some by.after)) by.was
      (subst (λ (s : Option P). RunsQuietly telling spawner s) by.is runs) in
      (beside config hook doors round.doors keeper by.before round.left by.after by.serves still quiet).ends

  follow-end : (more : ℕ) (last : Round D K P) (rounds : List (Round D K P))
      → Follow telling config more last rounds
      → AreQuiet telling last.doors last.left.keeper last.spawner rounds → EachEnds rounds
  follow-end more last [] follow quiet = tt
  follow-end more last (round ∷ rounds) (full, (few, (is, (goes, follow)))) (still, runs, quiet) = (
    kept-ends round.kept round.left.status
        (round-ends config.hook last.doors last.left.keeper last.spawner round is.serves still runs),
    follow-end (more - 1) round rounds follow quiet,
  )

  rounds-end : (doors : List D) (keeper : K) (spawner : Option P) (rounds : List (Round D K P))
      → AreRounds telling config doors keeper spawner rounds → AreQuiet telling doors keeper spawner rounds
      → EachEnds rounds
  rounds-end doors keeper spawner [] are quiet = absurd are
  rounds-end doors keeper spawner (first ∷ rounds) (is, follow) (still, runs, quiet) = (
    kept-ends first.kept first.left.status
        (round-ends config.hook doors keeper spawner first is.serves still runs),
    follow-end (config.limits.max_periods - 1) first rounds follow quiet,
  )

-- a document without a hook spells no configuration with one
has-hook : (left : Option (List ℕ)) (document : List ℕ) (config : Config) → left ≡ Some document
    → IfSome left (λ bytes. IsSpelledBy bytes config) → IsSome config.hook → IsSome (spelled document).hook
has-hook left document config told by some =
    let is : IsSpelledBy document config =
    subst (λ (o : Option (List ℕ)). IfSome o (λ bytes. IsSpelledBy bytes config)) told by in
    subst (λ (c : Config). IsSome c.hook) is.value some

-- what runs programs was refused
spawner-ends : {P : Type 0} (spawning : Spawning P) (s : Status)
    → NotRisen spawning.faults_before spawning.faults_after → SpawnCause spawning s → IsServingsEnd s
spawner-ends spawning status.NoMemory still cause = tt
spawner-ends spawning status.SpawnFault still cause =
    absurd (not-risen spawning.faults_before spawning.faults_after still cause.0)
spawner-ends spawning _ still cause = absurd cause

-- ---- all

pub serving-completes : {S K E D F P : Type 0} (told : TellingServe S K E D F P) (before after : ServeParts S K E D)
    (spawning : Spawning P) (rounds : List (Round D K P)) (s : Status) → ServingIsComplete told.served.serving
    → ServingBesideIsComplete told.served → LeavesParts told before after spawning rounds s
    → IsQuiet told before after spawning rounds s → IsServingsEnd s
serving-completes {S} {K} {E} {D} {F} {P} told before after spawning rounds s complete beside leaves quiet =
    elim leaves [
      | inl stops ↦ config-ends (told.left before.config) quiet.document (told.read_faults before.config)
          (told.read_faults after.config) s (quiet.tells, quiet.short, quiet.unbroken) quiet.source stops.cause
      | inr taken ↦ elim taken [
        | inl refused ↦ spawner-ends spawning s
            (quiet.spawner (has-hook (told.left before.config) quiet.document refused.config quiet.tells
            refused.spelled.configured.told refused.hook)) refused.cause
        | inr opened ↦ elim opened [
          | inl stops ↦ subst (λ (x : Status). IsServingsEnd x) (sym stops.is)
              (entrance-ends (told.entrance_faults before.entrance) (told.entrance_faults after.entrance) stops.error
              quiet.entrance stops.stops.cause)
          | inr serves ↦ subst (λ (x : Status). IsServingsEnd x) (sym serves.is)
              (last-ends serves.earlier serves.last
              (subst (λ (rs : List (Round D K P)). EachEnds rs) serves.splits
              (rounds-end told.served serves.config complete beside serves.doors before.keeper spawning.handed rounds
              serves.are (quiet.each serves))))
        ]
      ]
    ]

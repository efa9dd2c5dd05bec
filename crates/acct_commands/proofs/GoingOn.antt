-- Over a keeper that tells its pairs, a period opens from the rows that the one before it left.
use Rattle.std.proofs.Common.{◌≡◌, ℕ, inl, inr, Bool, true, false, List, ◌∷◌, [], Option, Some, None, refl, sym, ap}
use Rattle.std.proofs.Common.{◌∙◌, subst}
use Rattle.std.specs.Prelude.{IfSome, IsSome, if◌then◌else◌}
use Rattle.acct_config.specs.declared.config.Config.{Config}
use Rattle.acct_config.specs.Spelled.{IsRightConfig}
use Rattle.acct_keeper.specs.declared.pairs.Pair.{Pair}
use Rattle.acct_machine.specs.Opened.{OpensRows}
use Rattle.acct_machine.specs.Sound.{KeepsSound}
use Rattle.acct_machine.specs.Step.{state_at}
use Rattle.acct_machine.specs.Outbox.{HoldsRows}
use Rattle.acct_keeper.specs.Pairs.{after}
use Rattle.acct_rows.specs.PairRules.{has_value, is_old}
use Rattle.acct_rows.specs.PairsOf.{ArePairsOf, HoldPairs, PairsAreOfOne, migration, migrated}
use Rattle.acct_tables.specs.Spelled.{format_pair, old_format_value}
use Rattle.acct_rows.specs.Rows.{Lists, Shown}
use Rattle.acct_rows.specs.Sound.{IsSoundRows}
use Rattle.acct_server.specs.Leaves.{StoreCause}
use Rattle.acct_server.specs.Replaying.{lists_in}
use Rattle.acct_server.specs.Beside.{TellingBeside, ServesAsWell}
use Rattle.acct_server.specs.Serving.{HasServedDoors}
use Rattle.acct_server.specs.declared.serving.Served.{Served}
use Rattle.acct_server.specs.declared.status.Status.{Status}
use Rattle.acct_server.specs.declared.status.Status.TheVariants as status
use Rattle.acct_commands.specs.Serving.{Round, IsRound, GoesOn, ending, is_full}
use Rattle.acct_commands.proofs.Periods.{served-as}

-- rows of which a keeper holds the pairs have a pair
some-pair : (rows : Lists) → ArePairsOf rows [] → ⊥
some-pair rows are =
    let none : None ≡ Some format_pair = (are.held format_pair).1 (inl refl) in
    absurd cc

-- and these are of format 2, so that they are left as they are
not-old : (rows : Lists) (pairs : List Pair) → ArePairsOf rows pairs → is_old pairs ≡ false
not-old rows pairs are =
    ap (λ (found : Option Pair). has_value old_format_value found) ((are.held format_pair).1 (inl refl))

migrated-same : (rows : Lists) (pairs : List Pair) → ArePairsOf rows pairs → migrated pairs ≡ pairs
migrated-same rows pairs are =
    ap (λ (old : Bool). if old then after (migration ∷ []) pairs else pairs) (not-old rows pairs are)

-- so the rows that it opens are those
opened-again : (config : Config) (rows opened : Lists) (pairs : List Pair) → PairsAreOfOne → IsSoundRows rows
    → IsSoundRows opened → ArePairsOf rows pairs → OpensRows config pairs opened → opened ≡ rows
opened-again config rows opened [] one sound sound_now are opens = absurd (some-pair rows are)
opened-again config rows opened (pair ∷ pairs) one sound sound_now are opens =
    one opened rows (pair ∷ pairs) sound_now sound
    (subst (λ (ps : List Pair). HoldPairs opened ps) (migrated-same rows (pair ∷ pairs) are) opens.1.held) are.held

told-again : (config : Config) (rows opened : Lists) (held : Option (List Pair)) → PairsAreOfOne → IsSoundRows rows
    → IsSoundRows opened → HoldsRows held rows → IfSome held (λ pairs. OpensRows config pairs opened)
    → IfSome held (λ pairs. opened ≡ rows)
told-again config rows opened None one sound sound_now holds opens = tt
told-again config rows opened (Some pairs) one sound sound_now holds opens =
    opened-again config rows opened pairs one sound sound_now holds opens

with-fact : (held : Option (List Pair)) (A B : Type 0) → IfSome held (λ pairs. A) → (A → B) → IfSome held (λ pairs. B)
with-fact None A B fact goes = tt
with-fact (Some pairs) A B fact goes = goes fact

-- a store that wasn't opened doesn't end a period as one whose history was full
not-full : (held : Option (List Pair)) (before now : ℕ) (s : Status) → StoreCause held before now s
    → is_full s ≡ true → ⊥
not-full held before now status.StoreFault cause full = absurd cc
not-full held before now (status.StoredPair key) cause full = absurd cc
not-full held before now status.NoMemory cause full = absurd cc
not-full held before now status.Done cause full = cause
not-full held before now status.Usage cause full = cause
not-full held before now (status.Config n) cause full = cause
not-full held before now status.ReadFault cause full = cause
not-full held before now status.WriteFault cause full = cause
not-full held before now (status.EventLine n) cause full = cause
not-full held before now status.DoorFault cause full = cause
not-full held before now (status.HistoryFull n) cause full = cause
not-full held before now (status.PeerBytes n) cause full = cause
not-full held before now status.PeerFault cause full = cause
not-full held before now status.InputTooLong cause full = cause
not-full held before now (status.Refused n) cause full = cause
not-full held before now (status.HookHeld n) cause full = cause
not-full held before now (status.HookStore n) cause full = cause
not-full held before now status.SpawnFault cause full = cause

with-none : (held : Option (List Pair)) (A : Type 0) → A → IfSome held (λ pairs. A)
with-none None A a = tt
with-none (Some pairs) A a = a

none-opened : (opening left : Option Shown) → opening ≡ None → IsSome opening → lists_in opening ≡ lists_in left
none-opened opening left none some =
    let no : IsSome {T = Shown} None = subst (λ (o : Option Shown). IsSome o) none some in
    absurd cc

-- a period whose history was full ended so
as-it-ended : (kept : Bool) (s : Status) → is_full (if kept then s else status.NoMemory) ≡ true → is_full s ≡ true
as-it-ended true s full = full
as-it-ended false s full = absurd cc

module _ {D F K P : Type 0} (telling : TellingBeside D F K P) (config : Config) where
  both-served : (doors now later : List D) (keeper : K) (left next : Served K) (s t : Status) → IsRightConfig config
      → PairsAreOfOne → KeepsSound
      → HasServedDoors telling.serving config doors now keeper (record left { status = s })
      → HasServedDoors telling.serving config now later left.keeper (record next { status = t })
      → IfSome (telling.serving.pairs left.keeper) (λ pairs. lists_in next.opening ≡ lists_in left.rows)
  both-served doors now later keeper left next s t right one keeps has has_next =
      with-fact (telling.serving.pairs left.keeper) _ _
      (told-again config (state_at has.start left.history).rows has_next.start.rows
      (telling.serving.pairs left.keeper) one
      (keeps has.start left.history (subst (λ (c : Config). IsRightConfig c) (sym has.begun.under) right)
      has.begun.sound
      has.served.links.legal).rows has_next.begun.sound has.stored has_next.begun.rows)
      (λ same. has_next.opening ∙ ap (λ (rows : Lists). Some rows) same ∙ sym has.rows)

  pub goes-on : ServesAsWell telling → (doors : List D) (keeper : K) (spawner : Option P) (last next : Round D K P)
      → IsRightConfig config → PairsAreOfOne → KeepsSound → IsRound telling config doors keeper spawner last
      → IsRound telling config last.doors last.left.keeper last.spawner next → is_full (ending last) ≡ true
      → GoesOn telling config last next
  goes-on law doors keeper spawner last next right one keeps is is_next full =
      let serves = served-as telling config law config.hook doors keeper spawner last is.serves in
      let again = served-as telling config law config.hook last.doors last.left.keeper last.spawner next
      is_next.serves in
      elim serves.serves.leaves [
        | inl none ↦ absurd (not-full (telling.serving.pairs keeper) (telling.serving.faults keeper)
            (telling.serving.faults last.left.keeper) last.left.status
            (subst (λ (s : Status). StoreCause (telling.serving.pairs keeper) (telling.serving.faults keeper)
            (telling.serving.faults last.left.keeper) s) (serves.unserved none.opening) none.cause)
            (as-it-ended last.kept last.left.status full))
        | inr has ↦ elim again.serves.leaves [
          | inl none ↦ with-none (telling.serving.pairs last.left.keeper) _
              (none-opened next.left.opening last.left.rows none.opening)
          | inr has_next ↦ with-fact (telling.serving.pairs last.left.keeper) _ _
              (both-served doors last.doors next.doors keeper last.left next.left serves.status again.status right one
              keeps has has_next)
              (λ same some. same)
        ]
      ]

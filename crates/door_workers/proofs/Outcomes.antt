-- What the workers come to, with one more, and the ends of their sessions.
use Rattle.std.proofs.Common.{◌≡◌, ◌≢◌, ◌⊎◌, inl, inr, ℕ, ◌+◌, List, [], ◌∷◌, ◌++◌, length, refl, sym, ap, ◌∙◌, subst}
use Rattle.std.proofs.Common.{arith, append_assoc}
use Rattle.std.specs.List.{flat_map}
use Rattle.std.specs.List.Sorted.{IsPermutation, IsNonDecreasingBy}
use Rattle.std.proofs.lemmas.List.{append-nil, map-append}
use Rattle.std.proofs.lemmas.List.Concat.{flat_map-append}
use Rattle.door_workers.specs.declared.ends.DoorEnd.{DoorEnd}
use Rattle.door_workers.specs.declared.ends.DoorEnd.TheVariants as stop
use Rattle.link_sessions.specs.declared.ends.Ended.{Ended}
use Rattle.door_workers.specs.Services.{Service, end_of}
use Rattle.door_workers.specs.Doors.{behind, behind_all, outcome_of, DoorRun, all_services, stops, ends_from, AreEnds}
use Rattle.door_workers.specs.Doors.{ComesTo}

behind_all-more : (so_far : DoorEnd) (ends : List DoorEnd) (end : DoorEnd)
    → behind_all so_far (ends ++ end ∷ []) ≡ behind (behind_all so_far ends) end
behind_all-more so_far [] end = refl
behind_all-more so_far (e ∷ ends) end = behind_all-more (behind so_far e) ends end

-- where the sum isn't out of memory, neither was the one before it nor the end after it
pub none-before : (so_far : DoorEnd) (end : DoorEnd) → behind so_far end ≢ stop.NoMemory
    → so_far ≢ stop.NoMemory
none-before so_far end not same =
    not (subst (λ (o : DoorEnd). behind o end ≡ stop.NoMemory) (sym same) refl)

wanted-behind : (so_far : DoorEnd) → behind so_far stop.NoMemory ≡ stop.NoMemory
wanted-behind stop.Closed = refl
wanted-behind stop.Failed = refl
wanted-behind (stop.Full n) = refl
wanted-behind stop.NoMemory = refl

pub none-behind : (so_far : DoorEnd) (end : DoorEnd) → behind so_far end ≢ stop.NoMemory → end ≢ stop.NoMemory
none-behind so_far end not same =
    not (subst (λ (e : DoorEnd). behind so_far e ≡ stop.NoMemory) (sym same) (wanted-behind so_far))

done-no-want : stop.Closed ≢ stop.NoMemory
done-no-want same = let other : stop.Closed ≡ stop.NoMemory = same in cc

failed-no-want : stop.Failed ≢ stop.NoMemory
failed-no-want same = let other : stop.Failed ≡ stop.NoMemory = same in cc

full-no-want : (n : ℕ) → stop.Full n ≢ stop.NoMemory
full-no-want n same = let other : stop.Full n ≡ stop.NoMemory = same in cc

-- where serving is done, or a door failed, or the history was full, memory didn't run out
pub is-no-want : (o : DoorEnd)
    → (o ≡ stop.Closed) ⊎ ((o ≡ stop.Failed) ⊎ ((n : ℕ) × (o ≡ stop.Full n))) → o ≢ stop.NoMemory
is-no-want o (inl is) same = done-no-want (sym is ∙ same)
is-no-want o (inr (inl is)) same = failed-no-want (sym is ∙ same)
is-no-want o (inr (inr (n, is))) same = full-no-want n (sym is ∙ same)

module _ {L : Type 0} where
  pub outcome-more : (runs : List (DoorRun L)) (run : DoorRun L)
      → outcome_of (stops (runs ++ run ∷ [])) ≡ behind (outcome_of (stops runs)) run.stop
  outcome-more runs run =
      ap (λ (l : List DoorEnd). outcome_of l) (map-append (λ (r : DoorRun L). r.stop) runs (run ∷ []))
      ∙ behind_all-more stop.Closed (stops runs) run.stop

  pub services-more : (runs : List (DoorRun L)) (run : DoorRun L)
      → all_services (runs ++ run ∷ []) ≡ all_services runs ++ run.services
  services-more runs run =
      flat_map-append (λ (r : DoorRun L). r.services) runs (run ∷ [])
      ∙ ap (λ (l : List (Service L)). all_services runs ++ l) (append-nil run.services)

  pub ends-more : (place : ℕ) (runs : List (DoorRun L)) (run : DoorRun L)
      → ends_from place (runs ++ run ∷ [])
      ≡ ends_from place runs ++ flat_map (end_of (place + length runs)) run.services
  ends-more place [] run =
      let same : place + length {A = DoorRun L} [] ≡ place = omega arith in
      append-nil (flat_map (end_of place) run.services)
      ∙ ap (λ n. flat_map (end_of n) run.services) (sym same)
  ends-more place (r ∷ runs) run =
      let first : List Ended = flat_map (end_of place) r.services in
      let same : place + 1 + length runs ≡ place + length (r ∷ runs) = omega arith in
      ap (λ (l : List Ended). first ++ l) (ends-more (place + 1) runs run)
      ∙ ap (λ n. first ++ (ends_from (place + 1) runs ++ flat_map (end_of n) run.services)) same
      ∙ sym (append_assoc first (ends_from (place + 1) runs)
      (flat_map (end_of (place + length (r ∷ runs))) run.services))

  sorted-ends : (runs : List (DoorRun L)) (answer : DoorEnd) (old new : List Ended)
      → (answer ≢ stop.NoMemory → (answer ≡ outcome_of (stops runs)) × (old ≡ ends_from 0 runs))
      → (answer ≢ stop.NoMemory → IsPermutation old new × IsNonDecreasingBy (λ (end : Ended). end.conn) new)
      → answer ≢ stop.NoMemory → (answer ≡ outcome_of (stops runs)) × AreEnds runs new
  sorted-ends runs answer old new was all not = (
    (was not).0,
    record {
      each = subst (λ (l : List Ended). IsPermutation l new) (was not).1 (all not).0;
      sorted = (all not).1;
    },
  )

  -- the ends by number
  pub comes-sorted : (runs : List (DoorRun L)) (answer : DoorEnd) (old new : List Ended)
      → (answer ≢ stop.NoMemory → (answer ≡ outcome_of (stops runs)) × (old ≡ ends_from 0 runs))
      → (answer ≡ stop.NoMemory → new ≡ [])
      → (answer ≢ stop.NoMemory → IsPermutation old new × IsNonDecreasingBy (λ (end : Ended). end.conn) new)
      → ComesTo runs answer new
  comes-sorted runs stop.NoMemory old new was none all = none refl
  comes-sorted runs stop.Closed old new was none all =
      sorted-ends runs stop.Closed old new was all done-no-want
  comes-sorted runs stop.Failed old new was none all =
      sorted-ends runs stop.Failed old new was all failed-no-want
  comes-sorted runs (stop.Full n) old new was none all =
      sorted-ends runs (stop.Full n) old new was all (full-no-want n)

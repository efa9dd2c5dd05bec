-- What stands of all links in the one history, once the lock is closed.
use Rattle.std.proofs.Common.{◌≡◌, ℕ, zero, suc, ◌+◌, List, [], ◌∷◌, ◌++◌, length, refl, sym, ap, ◌∙◌, subst, arith}
use Rattle.std.proofs.lemmas.List.{append-nil}
use mathlib.Core.Option.{some, some-injective, some-ne-none}
use Rattle.hist_lock.specs.Histories.{At, In, placed}
use Rattle.hist_lock.specs.declared.lock.HistLock.{HistLock}
use Rattle.hist_lock.specs.declared.view.View.{View}
use Rattle.acct_machine.specs.State.{Start}
use Rattle.acct_machine.specs.Shown.{Past}
use Rattle.acct_machine.specs.Legal.{Legal}
use Rattle.acct_machine.specs.declared.entry.Entry.{Entry}
use Rattle.acct_links.specs.Links.{Told}
use Rattle.acct_links.specs.declared.doors.Door.{Ghosts}
use Rattle.link_sessions.specs.Transcript.{IsFrontOf}
use Rattle.door_workers.specs.steps.Passing.{start_under}
use Rattle.door_workers.specs.declared.kept.Begun.{Begun}
use Rattle.door_workers.specs.declared.kept.Locked.{Locked}
use Rattle.link_sessions.specs.declared.ends.Ended.{Ended}
use Rattle.door_workers.specs.steps.Joining.{ServesAll}
use Rattle.door_workers.specs.steps.Working.{IsJoined}
use Rattle.door_workers.proofs.Places.{at-within, at-behind}
use Rattle.door_workers.specs.declared.ends.DoorEnd.{DoorEnd}
use Rattle.door_workers.specs.Doors.{IsServed, all_services}
use Rattle.door_workers.specs.steps.Hiring.{ClosesTo, WorksDoors}

placed-has : (n : ℕ) (h : List Entry) (p : ℕ) (e : Entry) → At h p e → In (placed n h) (n + p) e
placed-has n [] p e at = absurd (some-ne-none e (sym at))
placed-has n (d ∷ h) zero e at =
    (0, λ i. some (let same : n ≡ n + 0 = omega arith in (same i, some-injective d e at i)))
placed-has n (d ∷ h) (suc p) e at =
    let there = placed-has (n + 1) h p e at in
    let same : n + 1 + p ≡ n + suc p = omega arith in
    subst (λ m. In (placed n (d ∷ h)) m e) same (suc there.0, there.1)

-- a history of which a prefix has every entry is that prefix
no-more : (known rest : List Entry) → ((p : ℕ) (e : Entry) → At (known ++ rest) p e → At known p e) → rest ≡ []
no-more known [] all = refl
no-more known (e ∷ rest) all =
    let there : At (known ++ e ∷ rest) (length known + 0) e = at-behind known (e ∷ rest) 0 e refl in
    let less = at-within known (length known + 0) e (all (length known + 0) e there) in
    absurd (omega arith)

-- what a pass knows that owns each entry of a history is the history
pub known-whole : (v : View Begun Entry) (h : List Entry) → IsFrontOf v.known h → v.own ≡ placed 0 h
    → ((p : ℕ) (e : Entry) → In v.own p e → At v.known p e) → h ≡ v.known
known-whole v h front own known =
    let all : (p : ℕ) (e : Entry) → At (v.known ++ front.0) p e → At v.known p e = λ p e at.
    let here : At h p e = subst (λ (l : List Entry). At l p e) (sym front.1) at in
    let same : 0 + p ≡ p = omega arith in
    known p e (subst (λ (l : List (ℕ × Entry)). In l p e) (sym own)
    (subst (λ n. In (placed 0 h) n e) same (placed-has 0 h p e here))) in
    front.1 ∙ ap (λ (l : List Entry). v.known ++ l) (no-more v.known front.0 all) ∙ append-nil v.known

pub all-served : {D L K : Type 0} (door : Ghosts D L) (told : L → Told) (lock : HistLock (Locked K) Entry Begun)
    (start : Start) (most : ℕ) (v : View Begun Entry) (past : Past) (before now : List D) (answer : DoorEnd)
    (ends : List Ended) → start_under lock ≡ start → ServesAll told → ClosesTo lock v past
    → WorksDoors door told (start_under lock) most v before now answer ends
    → IsServed door told start most before now past.history answer ends
all-served {D} {L} door told lock start most v past before now answer ends same law closes works =
    let joined : IsJoined told start most v (all_services works.runs) =
    subst (λ (s : Start). IsJoined told s most v (all_services works.runs)) same works.links in
    let whole = known-whole v past.history closes.known closes.own joined.known in
    record {
      runs = works.runs;
      doors = works.doors;
      links = law start most v (all_services works.runs) past.history joined
          (subst (λ (l : List Entry). Legal start l) (sym whole) joined.legal) closes.known closes.own;
      comes = works.comes;
    }

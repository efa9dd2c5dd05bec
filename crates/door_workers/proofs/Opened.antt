-- A turn that opens a connection.
use Rattle.std.proofs.Common.{◌≡◌, ◌≢◌, ℕ, ◌⊎◌, inl, inr, ⊎_elim, List, [], ◌∷◌, ◌++◌, length, refl, sym, ap, ◌∙◌}
use Rattle.std.proofs.Common.{Some, subst}
use Rattle.atomic_table.proofs.Lists.{at_last}
use Rattle.hist_lock.specs.Lanes as lanes
use Rattle.hist_lock.specs.Histories.{At, In}
use Rattle.hist_lock.specs.Views.{Turn}
use Rattle.hist_lock.specs.declared.view.View.{View}
use Rattle.acct_machine.specs.declared.entry.Entry.{Entry}
use Rattle.acct_machine.specs.declared.entry.Entry.TheVariants as entry
use Rattle.acct_machine.specs.declared.machine.Opened as answer
use Rattle.acct_machine.specs.declared.machine.Opened.TheVariants as opens
use Rattle.acct_machine.specs.Shown.{Past}
use Rattle.acct_machine.specs.State.{Start, is_live}
use Rattle.acct_machine.specs.Step.{state_at}
use Rattle.acct_machine.specs.Machine.{SameCalls}
use Rattle.acct_machine.specs.Passing.{KeepsConnection, OthersChangeNothing, AreOfOthers, conn_of}
use Rattle.link_sessions.specs.Turns.{IfConn, HasNoCall, MachineOpens, shown}
use Rattle.door_workers.specs.steps.Lanes.{lane_of}
use Rattle.door_workers.specs.declared.kept.Begun.{Begun}
use Rattle.door_workers.specs.steps.Moving.{passes-then}
use Rattle.door_workers.specs.steps.Passing.{IsMine, OwnsLanes, ServesLive, OpensConn, OpensNone, OpensOn}
use Rattle.door_workers.proofs.Passing.{finds-passes, passes-one, others-at, own-same, own-more, mine-by, mine-longer}
use Rattle.door_workers.proofs.Passing.{in-longer, one, owns-same, owns-more}

module _ (others : OthersChangeNothing) (start : Start) (v w : View Begun Entry) (does : List Entry → List Entry
    → Type 0) (t : Turn lane_of does v w) (owns : OwnsLanes v) where
  none : t.after ≡ t.before → OpensNone start v w
  none is = let same = own-same v w t is in record {
    grows = t.grows;
    mine = λ j m. mine-by v w j same m;
    no_more = λ j m. mine-by w v j (sym same) m;
    others = λ j m. subst (λ (l : List Entry). KeepsConnection start j v.known l) (sym (t.known ∙ is))
        (finds-passes others start v j t.before owns m t.finds);
  }

  -- an own connection is another than the one that is opened, or it was before
  but-one : (k listener j : ℕ) → w.own ≡ v.own ++ (length t.before, entry.Opened k listener) ∷ [] → IsMine w j
      → (j ≡ k) ⊎ IsMine v j
  but-one k listener j is m =
      let x : ℕ × Entry = (length t.before, entry.Opened k listener) in
      ⊎_elim
      (λ (old : In v.own m.0 m.1). inr (m.0, m.1, old, m.3))
      (λ (new : x ≡ (m.0, m.1)). inl (let e : lanes.opens k ≡ lanes.opens j = ap (λ (y : ℕ × Entry). lane_of y.1) new
      ∙ m.3 in cc))
      (in-longer v.own x m.0 m.1 (subst (λ (own : List (ℕ × Entry)). In own m.0 m.1) is m.2))

  silent-opened : (k : ℕ) (found left : List Entry) → AreOfOthers k found
      → SameCalls (shown start found) (shown start left) → HasNoCall start left k
  silent-opened k found left fresh same =
      let passes = others start k [] found fresh in
      record { calls = same.calls k ∙ passes.calls; replies = same.replies k ∙ passes.replies }

  conn : (k listener : ℕ) → MachineOpens start listener (opens.Conn k) t.before t.after
      → OpensConn start k v w × OwnsLanes w
  conn k listener m =
      let e : Entry = entry.Opened k listener in
      let is : t.after ≡ t.before ++ e ∷ [] = ap (λ (s : Past). s.history) m.opens.2 in
      let longer = own-more v w t e is in
      let x : ℕ × Entry = (length t.before, e) in
      let last : IsMine w k = (
        length t.before,
        e,
        subst (λ (own : List (ℕ × Entry)). In own (length t.before) e) (sym longer)
            (length v.own, at_last v.own x (length v.own) refl),
        refl,
      ) in
      let other : (p : ℕ) (d : Entry) → At t.before p d → conn_of d ≢ Some k =
      λ p d at. others-at k t.before p d m.fresh at in
      let known : w.known ≡ t.after = t.known in
      let fresh : IsMine v k
      → ⊥ = λ mine. other mine.0 mine.1 (t.finds.own mine.0 mine.1 mine.2) (opener mine.1 k mine.3) in (
        record {
          serves = record {
            mine = last;
            live = ap (λ (l : List Entry). is_live k (state_at start l).conns) known
                ∙ m.live.live;
          };
          silent = subst (λ (l : List Entry). HasNoCall start l k) (sym known)
              (silent-opened k t.before t.after m.fresh m.calls);
          new = fresh;
          grows = t.grows;
          mine = λ j its. mine-longer v w x j longer its;
          no_more = λ j its. but-one k listener j longer its;
          others = λ j its. subst (λ (l : List Entry). KeepsConnection start j v.known l) (sym (known ∙ is))
              (passes-then start j v.known t.before (t.before ++ e ∷ [])
              (finds-passes others start v j t.before owns its t.finds)
              (passes-one others start j t.before e (λ same.
              fresh (subst (λ n. IsMine v n) (one j k (sym same)) its))));
        },
        owns-more v w t e is last
            (λ p d j at of its. ⊎_elim
            (λ (same : j ≡ k). absurd (other p d at (of ∙ ap (λ (n : ℕ). Some n) same)))
            (λ (was : IsMine v j). was) (but-one k listener j longer its)) owns,
      )
    where
      opener : (d : Entry) (n : ℕ) → lane_of d ≡ lanes.opens n → conn_of d ≡ Some n
      opener (entry.Opened c listener) n is = cc
      opener (entry.Called c call verdict bytes) n is = absurd cc
      opener (entry.Gone c) n is = absurd cc
      opener (entry.Hooked number) n is = absurd cc

  pub opens-on : (listener : ℕ) (out : answer.Opened) → MachineOpens start listener out t.before t.after
      → OpensOn start out v w × OwnsLanes w
  opens-on listener (opens.Conn k) m = conn k listener m
  opens-on listener (opens.Full count) m =
      let is : t.after ≡ t.before = ap (λ (s : Past). s.history) m.opens.1 in (none is, owns-same v w t is owns)

-- an opened connection is served, and has no call
pub served-by : (start : Start) (v w : View Begun Entry) (out : answer.Opened) (P : Type 0) → OpensOn start out v w → P
    → OwnsLanes w → IfConn out (λ k. P × OwnsLanes w × ServesLive start w k)
served-by start v w (opens.Conn k) P opened p owns = (p, owns, opened.serves)
served-by start v w (opens.Full count) P opened p owns = tt

pub silent-by : (start : Start) (v w : View Begun Entry) (out : answer.Opened) → OpensOn start out v w
    → IfConn out (HasNoCall start w.known)
silent-by start v w (opens.Conn k) opened = opened.silent
silent-by start v w (opens.Full count) opened = tt

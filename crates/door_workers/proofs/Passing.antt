-- What a pass knows of its connections, before and after a turn.
use Rattle.std.proofs.Common.{◌≡◌, ◌≢◌, ℕ, zero, suc, ◌+◌, ◌<◌, ◌⊎◌, inl, inr, ⊎_elim, true, List, [], ◌∷◌, ◌++◌}
use Rattle.std.proofs.Common.{length, Option, Some, None, IfSome}
use Rattle.std.proofs.Common.{drop, refl, sym, ap, ◌∙◌, subst, arith}
use Rattle.std.proofs.lemmas.List.{append-nil}
use mathlib.Core.Option.{some, some-injective, some-ne-none}
use lib.ListN.{get_elem?}
use Rattle.atomic_table.proofs.Lists.{at_longer, at_last, at_snoc}
use Rattle.hist_lock.specs.Lanes.{Mark, opens, within, home}
use Rattle.hist_lock.specs.Histories.{At, In, Opened, placed}
use Rattle.hist_lock.specs.Views.{IsOfOwnLane, Finds, Turn}
use Rattle.hist_lock.specs.declared.view.View.{View}
use Rattle.acct_calls.specs.declared.calls.Call.{Call}
use Rattle.acct_machine.specs.declared.entry.Entry.{Entry}
use Rattle.acct_machine.specs.declared.entry.Entry.TheVariants as entry
use Rattle.acct_machine.specs.declared.machine.Acted.{Acted}
use Rattle.acct_machine.specs.declared.machine.Acted.TheVariants as acted
use Rattle.acct_machine.specs.State.{Start, is_live}
use Rattle.acct_machine.specs.Shown.{Past}
use Rattle.acct_machine.specs.Step.{state_at}
use Rattle.acct_machine.specs.Legal.{Legal}
use Rattle.acct_machine.specs.Passing.{KeepsConnection, OthersChangeNothing, AreOfOthers, conn_of}
use Rattle.link_sessions.specs.Turns.{MachineActs, MachineEnds, Turn as GateTurn}
use Rattle.door_workers.specs.steps.Lanes.{lane_of}
use Rattle.door_workers.specs.declared.kept.Begun.{Begun}
use Rattle.door_workers.specs.steps.Moving.{passes-then}
use Rattle.door_workers.specs.steps.Passing.{IsMine, IsOfMine, OwnsLanes, ServesLive, MovesOn, IsPassing}

-- ---- places

pub at-behind : {A : Type 0} (xs ys : List A) (p : ℕ) (a : A) → get_elem? ys p ≡ some a
    → get_elem? (xs ++ ys) (length xs + p) ≡ some a
at-behind {A} [] ys p a at = let same : length {A = A} [] + p ≡ p = omega arith in subst
    (λ n. get_elem? ys n ≡ some a) (sym same) at
at-behind (x ∷ xs) ys p a at = let up : length (x ∷ xs) + p ≡ suc (length xs + p) = omega arith in rw up
    (at-behind xs ys p a at)

pub at-within : {A : Type 0} (xs : List A) (p : ℕ) (a : A) → get_elem? xs p ≡ some a → p < length xs
at-within [] p a at = absurd (some-ne-none a (sym at))
at-within (x ∷ xs) zero a at = omega arith
at-within (x ∷ xs) (suc p) a at = let rest = at-within xs p a at in omega arith

-- the entry at a place of a longer list stands in the shorter one, or is the last
pub at-snoc-at : {A : Type 0} (xs : List A) (a b : A) (p : ℕ) → get_elem? (xs ++ a ∷ []) p ≡ some b
    → (get_elem? xs p ≡ some b) ⊎ ((p ≡ length xs) × (a ≡ b))
at-snoc-at [] a b zero at = inr (refl, some-injective a b at)
at-snoc-at [] a b (suc p) at = absurd (some-ne-none b (sym at))
at-snoc-at (x ∷ xs) a b zero at = inl at
at-snoc-at (x ∷ xs) a b (suc p) at = ⊎_elim (λ (h : get_elem? xs p ≡ some b). inl h)
    (λ (h : (p ≡ length xs) × (a ≡ b)). inr (ap suc h.0, h.1)) (at-snoc-at xs a b p at)

-- no entry is of a connection, by the places
pub of-others : (k : ℕ) (es : List Entry) → ((p : ℕ) (e : Entry) → At es p e → conn_of e ≢ Some k) → AreOfOthers k es
of-others k [] other = tt
of-others k (e ∷ es) other = (other zero e refl, of-others k es (λ p d at. other (suc p) d at))

pub others-at : (k : ℕ) (es : List Entry) (p : ℕ) (e : Entry) → AreOfOthers k es → At es p e → conn_of e ≢ Some k
others-at k [] p e others at = absurd (some-ne-none e (sym at))
others-at k (d ∷ es) zero e others at = subst (λ (x : Entry). conn_of x ≢ Some k) (some-injective d e at) others.0
others-at k (d ∷ es) (suc p) e others at = others-at k es p e others.1 at

-- one more entry, of another connection
pub passes-one : OthersChangeNothing → (start : Start) (j : ℕ) (h : List Entry) (e : Entry) → conn_of e ≢ Some j
    → KeepsConnection start j h (h ++ e ∷ [])
passes-one others start j h e ne = others start j h (e ∷ []) (ne, tt)

-- ---- what a turn finds

pub own-lane : (v : View Begun Entry) (e : Entry) (k : ℕ) → conn_of e ≡ Some k → IsMine v k
    → IsOfOwnLane lane_of v (lane_of e)
own-lane v (entry.Opened conn listener) k is mine = let same : conn ≡ k = cc in subst (λ n. IsMine v n) (sym same) mine
own-lane v (entry.Called conn call verdict bytes) k is mine =
    let same : conn ≡ k = cc in subst (λ n. IsMine v n) (sym same) mine
own-lane v (entry.Gone conn) k is mine = let same : conn ≡ k = cc in subst (λ n. IsMine v n) (sym same) mine
own-lane v (entry.Hooked number) k is mine = absurd cc

-- a lane of one view is one of another that opened its connection too, if it has one, and is the first if the other is
lane-back : (v w : View Begun Entry) (e : Entry) → ((k : ℕ) → conn_of e ≡ Some k → IsMine w k → IsMine v k)
    → w.number ≡ v.number → IsOfOwnLane lane_of w (lane_of e) → IsOfOwnLane lane_of v (lane_of e)
lane-back v w (entry.Opened conn listener) back number own = back conn refl own
lane-back v w (entry.Called conn call verdict bytes) back number own = back conn refl own
lane-back v w (entry.Gone conn) back number own = back conn refl own
lane-back v w (entry.Hooked out) back number own = sym number ∙ own

-- the connection of an entry, if it has one, is one of another view too
pub conn-mine : (v w : View Begun Entry) (o : Option ℕ) → ((k : ℕ) → IsMine v k → IsMine w k) → IfSome o (IsMine v)
    → IfSome o (IsMine w)
conn-mine v w None more mine = tt
conn-mine v w (Some k) more mine = more k mine

-- an entry of a connection of one view is of one of another that opened it too
pub of-mine : (v w : View Begun Entry) (e : Entry) → ((k : ℕ) → IsMine v k → IsMine w k) → IsOfMine v e → IsOfMine w e
of-mine v w (entry.Opened conn listener) more mine = more conn mine
of-mine v w (entry.Called conn call verdict bytes) more mine = more conn mine
of-mine v w (entry.Gone conn) more mine = more conn mine
of-mine v w (entry.Hooked number) more mine = absurd mine

-- an entry of this connection is of one that the pass opened
pub of-conn-mine : (v : View Begun Entry) (e : Entry) (k : ℕ) → conn_of e ≡ Some k → IsMine v k → IsOfMine v e
of-conn-mine v (entry.Opened conn listener) k is mine =
    let same : conn ≡ k = cc in subst (λ n. IsMine v n) (sym same) mine
of-conn-mine v (entry.Called conn call verdict bytes) k is mine =
    let same : conn ≡ k = cc in subst (λ n. IsMine v n) (sym same) mine
of-conn-mine v (entry.Gone conn) k is mine =
    let same : conn ≡ k = cc in subst (λ n. IsMine v n) (sym same) mine
of-conn-mine v (entry.Hooked number) k is mine = absurd cc

pub if-mine : (v : View Begun Entry) (e : Entry) → IsOfMine v e → IfSome (conn_of e) (IsMine v)
if-mine v (entry.Opened conn listener) mine = mine
if-mine v (entry.Called conn call verdict bytes) mine = mine
if-mine v (entry.Gone conn) mine = mine
if-mine v (entry.Hooked number) mine = tt

-- an entry of a connection is of no home lane
pub not-home : (v : View Begun Entry) (e : Entry) → IsOfMine v e → lane_of e ≡ home → ⊥
not-home v (entry.Opened conn listener) mine is = absurd (let other : opens conn ≡ home = is in cc)
not-home v (entry.Called conn call verdict bytes) mine is = absurd (let other : within conn ≡ home = is in cc)
not-home v (entry.Gone conn) mine is = absurd (let other : within conn ≡ home = is in cc)
not-home v (entry.Hooked number) mine is = mine

-- what comes after what the pass knows is of no connection of the pass
pub finds-passes : OthersChangeNothing → (start : Start) (v : View Begun Entry) (k : ℕ) (h : List Entry) → OwnsLanes v
    → IsMine v k → Finds lane_of v h → KeepsConnection start k v.known h
finds-passes others start v k h owns mine finds =
    let rest : List Entry = finds.known.0 in
    subst (λ (l : List Entry). KeepsConnection start k v.known l) (sym finds.known.1)
    (others start k v.known rest (of-others k rest (λ p e at same.
    let there : At h (length v.known + p) e = subst (λ (l : List Entry). At l (length v.known + p) e)
    (sym finds.known.1) (at-behind v.known rest p e at) in
    let own : In v.own (length v.known + p) e = finds.lanes (length v.known + p) e there
    (own-lane v e k same mine) in
    let known = at-within v.known (length v.known + p) e (owns.finds.own (length v.known + p) e own) in
    absurd (omega (arith, known)))))

pub finds-live : OthersChangeNothing → (start : Start) (v : View Begun Entry) (k : ℕ) (h : List Entry) → OwnsLanes v
    → ServesLive start v k → Finds lane_of v h
    → is_live k (state_at start h).conns ≡ true
finds-live others start v k h owns serves finds = (finds-passes others start v k h owns serves.mine finds).live
    ∙ serves.live

-- ---- what a turn leaves

drop-all : {A : Type 0} (xs : List A) → drop (length xs) xs ≡ []
drop-all [] = refl
drop-all (x ∷ xs) = drop-all xs

drop-front : {A : Type 0} (xs ys : List A) → drop (length xs) (xs ++ ys) ≡ ys
drop-front [] ys = refl
drop-front (x ∷ xs) ys = drop-front xs ys

-- no entry more
pub own-same : {does : List Entry → List Entry → Type 0} (v w : View Begun Entry) (t : Turn lane_of does v w)
    → t.after ≡ t.before → w.own ≡ v.own
own-same v w t is = t.own ∙ ap (λ (l : List Entry). v.own ++ placed (length t.before) (drop (length t.before) l)) is
    ∙ ap (λ (l : List Entry). v.own ++ placed (length t.before) l) (drop-all t.before) ∙ append-nil v.own

-- one entry more
pub own-more : {does : List Entry → List Entry
    → Type 0} (v w : View Begun Entry) (t : Turn lane_of does v w) (e : Entry) → t.after ≡ t.before ++ e ∷ []
    → w.own ≡ v.own ++ (length t.before, e) ∷ []
own-more v w t e is = t.own ∙ ap (λ (l : List Entry). v.own ++ placed (length t.before) (drop (length t.before) l)) is
    ∙ ap (λ (l : List Entry). v.own ++ placed (length t.before) l) (drop-front t.before (e ∷ []))

pub mine-by : (v w : View Begun Entry) (k : ℕ) → w.own ≡ v.own → IsMine v k → IsMine w k
mine-by v w k is mine = subst (λ (own : List (ℕ × Entry)). Opened lane_of own k) (sym is) mine

pub mine-longer : (v w : View Begun Entry) (x : ℕ × Entry) (k : ℕ) → w.own ≡ v.own ++ x ∷ [] → IsMine v k → IsMine w k
mine-longer v w x k is mine = subst (λ (own : List (ℕ × Entry)). Opened lane_of own k) (sym is)
    (mine.0, mine.1, (mine.2.0, at_longer v.own (x ∷ []) mine.2.0 (mine.0, mine.1) mine.2.1), mine.3)

-- an entry of the longer own list is one of the shorter, or the last
pub in-longer : (own : List (ℕ × Entry)) (x : ℕ × Entry) (p : ℕ) (e : Entry) → In (own ++ x ∷ []) p e
    → In own p e ⊎ (x ≡ (p, e))
in-longer own x p e i = ⊎_elim (λ (h : get_elem? own i.0 ≡ some (p, e)). inl (i.0, h)) (λ (h : x ≡ (p, e)). inr h)
    (at_snoc own x (p, e) i.0 i.1)

-- no entry was appended
pub owns-same : {does : List Entry → List Entry → Type 0} (v w : View Begun Entry) (t : Turn lane_of does v w)
    → t.after ≡ t.before → OwnsLanes v → OwnsLanes w
owns-same v w t is owns =
    let same = own-same v w t is in
    let known : w.known ≡ t.before = t.known ∙ is in record {
      finds = record {
        known = ([], sym (append-nil w.known));
        own = λ p e i. subst (λ (l : List Entry). At l p e) (sym known)
            (t.finds.own p e (subst (λ (own : List (ℕ × Entry)). In own p e) same i));
        lanes = λ p e at mine. subst (λ (own : List (ℕ × Entry)). In own p e) (sym same)
            (t.finds.lanes p e (subst (λ (l : List Entry). At l p e) known at)
            (lane-back v w e (λ k of m. mine-by w v k (sym same) m) t.same.number mine));
      };
      opened = λ p e i. of-mine v w e (λ k m. mine-by v w k same m)
          (owns.opened p e (subst (λ (own : List (ℕ × Entry)). In own p e) same i));
    }

-- an entry was appended; its connection is one that the pass has opened, and of those before it no more are the pass's
pub owns-more : {does : List Entry → List Entry
    → Type 0} (v w : View Begun Entry) (t : Turn lane_of does v w) (e : Entry) → t.after ≡ t.before ++ e ∷ []
    → IsOfMine w e
    → ((p : ℕ) (d : Entry) (k : ℕ) → At t.before p d → conn_of d ≡ Some k → IsMine w k → IsMine v k)
    → OwnsLanes v → OwnsLanes w
owns-more v w t e is mine no_more owns =
    let longer = own-more v w t e is in
    let x : ℕ × Entry = (length t.before, e) in
    let known : w.known ≡ t.before ++ e ∷ [] = t.known ∙ is in
    let last : In w.own (length t.before) e = subst (λ (own : List (ℕ × Entry)). In own (length t.before) e)
    (sym longer) (length v.own, at_last v.own x (length v.own) refl) in
    record {
      finds = record {
        known = ([], sym (append-nil w.known));
        own = λ p d i. subst (λ (l : List Entry). At l p d) (sym known) (⊎_elim
            (λ (old : In v.own p d). at_longer t.before (e ∷ []) p d (t.finds.own p d old))
            (λ (new : x ≡ (p, d)). subst (λ (y : ℕ × Entry). At (t.before ++ e ∷ []) y.0 y.1) new
            (at_last t.before e (length t.before) refl))
            (in-longer v.own x p d (subst (λ (own : List (ℕ × Entry)). In own p d) longer i)));
        lanes = λ p d at of. ⊎_elim
            (λ (old : At t.before p d). let i = t.finds.lanes p d old
            (lane-back v w d (λ k its m. no_more p d k old its m) t.same.number of) in
            subst (λ (own : List (ℕ × Entry)). In own p d) (sym longer) (i.0, at_longer v.own (x ∷ []) i.0 (p, d) i.1))
            (λ (new : (p ≡ length t.before) × (e ≡ d)). subst (λ (y : ℕ × Entry). In w.own y.0 y.1)
            (λ i. (sym new.0 i, new.1 i)) last)
            (at-snoc-at t.before e d p (subst (λ (l : List Entry). At l p d) known at));
      };
      opened = λ p d i. ⊎_elim
          (λ (old : In v.own p d). of-mine v w d (λ k m. mine-longer v w x k longer m) (owns.opened p d old))
          (λ (new : x ≡ (p, d)). subst (λ (y : ℕ × Entry). IsOfMine w y.1) new mine)
          (in-longer v.own x p d (subst (λ (own : List (ℕ × Entry)). In own p d) longer i));
    }

-- ---- a turn of one connection

-- an entry that opens no lane makes no connection the pass's own
no-more : (v w : View Begun Entry) (x : ℕ × Entry) (j : ℕ) → w.own ≡ v.own ++ x ∷ [] → (lane_of x.1 ≡ opens j → ⊥)
    → IsMine w j → IsMine v j
no-more v w x j is not mine = ⊎_elim
    (λ (old : In v.own mine.0 mine.1). (mine.0, mine.1, old, mine.3))
    (λ (new : x ≡ (mine.0, mine.1)). absurd (not (ap (λ (y : ℕ × Entry). lane_of y.1) new ∙ mine.3)))
    (in-longer v.own x mine.0 mine.1 (subst (λ (own : List (ℕ × Entry)). In own mine.0 mine.1) is mine.2))

-- what a turn on a connection may have appended: nothing, or an entry that is of the connection and doesn't open it
pub data Appended (k : ℕ) (before after : List Entry) : Type 0 where
  nothing : after ≡ before → Appended k before after
  appends : (e : Entry) → after ≡ before ++ e ∷ [] → lane_of e ≡ within k → conn_of e ≡ Some k
      → Appended k before after

within-no : (m : Mark) (k j : ℕ) → m ≡ within k → m ≡ opens j → ⊥
within-no m k j is other = absurd (let e : within k ≡ opens j = sym is ∙ other in cc)

pub owns-on : {does : List Entry → List Entry → Type 0} (v w : View Begun Entry) (k : ℕ) (t : Turn lane_of does v w)
    → Appended k t.before t.after → IsMine v k → OwnsLanes v → OwnsLanes w
owns-on v w k t (nothing is) mine owns = owns-same v w t is owns
owns-on v w k t (appends e is lane conn) mine owns =
    let longer = own-more v w t e is in
    let x : ℕ × Entry = (length t.before, e) in
    owns-more v w t e is (of-conn-mine w e k conn (mine-longer v w x k longer mine))
    (λ p d j at of its. no-more v w x j longer (λ o. within-no (lane_of e) k j lane o) its) owns

pub one : (j k : ℕ) → Some j ≡ Some k → j ≡ k
one j k same = cc

pub moves-on : OthersChangeNothing
    → {does : List Entry → List Entry
    → Type 0} (start : Start) (v w : View Begun Entry) (k : ℕ) (t : Turn lane_of does v w)
    → Appended k t.before t.after → OwnsLanes v → MovesOn start k v w
moves-on others start v w k t (nothing is) owns =
    let same = own-same v w t is in record {
      number = t.same.number;
      grows = t.grows;
      mine = λ j m. mine-by v w j same m;
      no_more = λ j m. mine-by w v j (sym same) m;
      others = λ j ne m. subst (λ (l : List Entry). KeepsConnection start j v.known l) (sym (t.known ∙ is))
          (finds-passes others start v j t.before owns m t.finds);
    }
moves-on others start v w k t (appends e is lane conn) owns =
    let longer = own-more v w t e is in
    let x : ℕ × Entry = (length t.before, e) in record {
      number = t.same.number;
      grows = t.grows;
      mine = λ j m. mine-longer v w x j longer m;
      no_more = λ j m. no-more v w x j longer (λ o. within-no (lane_of e) k j lane o) m;
      others = λ j ne m. subst (λ (l : List Entry). KeepsConnection start j v.known l) (sym (t.known ∙ is))
          (passes-then start j v.known t.before (t.before ++ e ∷ [])
          (finds-passes others start v j t.before owns m t.finds)
          (passes-one others start j t.before e (λ same. ne (one j k (sym same ∙ conn)))));
    }

-- what a turn found: nothing that is said of a connection of the pass has changed
pub is-passing : OthersChangeNothing → (start : Start) (v : View Begun Entry) (h : List Entry) → OwnsLanes v
    → Finds lane_of v h → IsPassing start v h
is-passing others start v h owns finds = record {
  grows = finds.known;
  own = λ k mine. finds-passes others start v k h owns mine finds;
}

-- ---- the machine's turns

pub legal-known : (start : Start) (known after : List Entry) → known ≡ after → Legal start after → Legal start known
legal-known start known after same legal = subst (λ (l : List Entry). Legal start l) (sym same) legal

pub turn-on : OthersChangeNothing → {does : List Entry → List Entry → Type 0} (start : Start) (v w : View Begun Entry)
    (D : List Entry → List Entry → Type 0) → (t : Turn lane_of does v w) → OwnsLanes v → D t.before t.after
    → GateTurn (IsPassing start v) D w.known
turn-on others start v w D t owns done = record {
  found = t.before;
  finds_it = is-passing others start v t.before owns t.finds;
  does_it = subst (λ (l : List Entry). D t.before l) (sym t.known) done;
}

pub acts-appended : (start : Start) (k : ℕ) (call : Call) (n : ℕ) (out : Acted) (before after : List Entry)
    → MachineActs start k call n out before after → Appended k before after
acts-appended start k call n (acted.Reply reply) before after m =
    appends (entry.Called k call m.acts.verdict n) (ap (λ (s : Past). s.history) m.acts.entered) refl refl
acts-appended start k call n (acted.FullCalls count) before after m =
    nothing (ap (λ (s : Past). s.history) m.acts.1)
acts-appended start k call n (acted.FullBytes sum) before after m = nothing (ap (λ (s : Past). s.history) m.acts.2)

pub ends-appended : (start : Start) (k : ℕ) (before after : List Entry) → MachineEnds start k before after
    → Appended k before after
ends-appended start k before after m = appends (entry.Gone k) (ap (λ (s : Past). s.history) m.ends) refl refl

pub still-serves : OthersChangeNothing → {does : List Entry → List Entry → Type 0} (start : Start)
    (v w : View Begun Entry) (k : ℕ) (call : Call) (n : ℕ) (out : Acted) (t : Turn lane_of does v w) → OwnsLanes v
    → ServesLive start v k → MachineActs start k call n out t.before t.after → MovesOn start k v w
    → ServesLive start w k
still-serves others start v w k call n out t owns serves m moves = record {
  mine = moves.mine k serves.mine;
  live =
      ap (λ (l : List Entry). is_live k (state_at start l).conns) t.known
      ∙ m.live.lives k
      ∙ finds-live others start v k t.before owns serves t.finds;
}

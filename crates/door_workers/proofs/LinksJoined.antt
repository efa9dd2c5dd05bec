-- What workers served stands in the history that all of them made.
use Rattle.std.proofs.Common.{◌≡◌, ◌≢◌, ℕ, zero, suc, ◌+◌, ◌<◌, ◌⊎◌, inl, inr, ⊎_elim, Bool, true, false, cond, List}
use Rattle.std.proofs.Common.{[], ◌∷◌, ◌++◌, length, Option, Some, None, IfSome, refl, sym, ap, subst, arith}
use Rattle.std.proofs.Math.Dec.{ltb}
use mathlib.Core.Option.{some, some-injective, some-ne-none}
use Rattle.atomic_table.proofs.Lists.{at_longer}
use Rattle.hist_lock.specs.Lanes.{opens, within, home}
use Rattle.hist_lock.specs.Histories.{At, In, Apart, merged, longer, placed}
use Rattle.hist_lock.proofs.Places.{in_merged, merged_has}
use Rattle.hist_lock.specs.declared.view.View.{View}
use Rattle.acct_machine.specs.State.{Start}
use Rattle.acct_machine.specs.Legal.{Legal}
use Rattle.acct_machine.specs.Passing.{KeepsConnection, OthersChangeNothing, OpenedOnce, conn_of}
use Rattle.acct_machine.specs.declared.entry.Entry.{Entry}
use Rattle.acct_machine.specs.declared.entry.Entry.TheVariants as entry
use Rattle.acct_links.specs.Links.{Told}
use Rattle.link_sessions.specs.Transcript.{IsFrontOf}
use Rattle.door_workers.specs.steps.Lanes.{lane_of}
use Rattle.door_workers.specs.declared.kept.Begun.{Begun}
use Rattle.door_workers.specs.steps.Moving.{front-then, front-same}
use Rattle.door_workers.specs.steps.Passing.{IsMine}
use Rattle.door_workers.specs.Services.{Service, Serves, Unopened, IsOfConn, IsService}
use Rattle.door_workers.specs.Doors.{Has, AreServed}
use Rattle.door_workers.specs.steps.Working.{OwnsNoneBehind, WasService, IsWorking, IsJoined}
use Rattle.door_workers.proofs.Passing.{of-others, others-at, conn-mine, if-mine}
use Rattle.door_workers.proofs.Places.{at-behind, at-within, has-either, has-left, has-right, distinct-append}
use Rattle.door_workers.proofs.Staying.{serves-stays, none-stays}

-- ---- histories

starts-at : (xs ys : List Entry) (p : ℕ) (e : Entry) → IsFrontOf xs ys → At xs p e → At ys p e
starts-at xs ys p e starts at = subst (λ (l : List Entry). At l p e) (sym starts.1) (at_longer xs starts.0 p e at)

by-longer : (P : List Entry → Type 0) (xs ys : List Entry) → P xs → P ys → P (longer xs ys)
by-longer P xs ys p q = go (ltb (length xs) (length ys))
  where
    go : (b : Bool) → P (cond b ys xs)
    go true = q
    go false = p

opening-is : (e : Entry) (k : ℕ) → lane_of e ≡ opens k → (l : ℕ) × (e ≡ entry.Opened k l)
opening-is (entry.Opened conn listener) k is =
    (listener, let same : conn ≡ k = cc in ap (λ n. entry.Opened n listener) same)
opening-is (entry.Called conn call verdict bytes) k is = absurd (let e : within conn ≡ opens k = is in cc)
opening-is (entry.Gone conn) k is = absurd (let e : within conn ≡ opens k = is in cc)
opening-is (entry.Hooked number) k is = absurd (let e : home ≡ opens k = is in cc)

-- the connection of an entry of a pass is one that it opened
of-conn : (v : View Begun Entry) (o : Option ℕ) (k : ℕ) → o ≡ Some k → IfSome o (IsMine v) → IsMine v k
of-conn v None k is mine = absurd cc
of-conn v (Some j) k is mine = let same : j ≡ k = cc in subst (λ n. IsMine v n) same mine

-- a place splits a history
parted : (h : List Entry) (p : ℕ) (e : Entry) → At h p e
    → (before : List Entry) × (after : List Entry) × (h ≡ before ++ e ∷ after) × (length before ≡ p)
parted [] p e at = absurd (some-ne-none e (sym at))
parted (d ∷ h) zero e at = ([], h, ap (λ (x : Entry). x ∷ h) (some-injective d e at), refl)
parted (d ∷ h) (suc p) e at =
    let rest = parted h p e at in
    (d ∷ rest.0, rest.1, ap (λ (l : List Entry). d ∷ l) rest.2, ap suc rest.3)

at-front : (xs ys : List Entry) (p : ℕ) (e : Entry) → p < length xs → At (xs ++ ys) p e → At xs p e
at-front [] ys p e lt at = absurd (omega arith)
at-front (x ∷ xs) ys zero e lt at = at
at-front (x ∷ xs) ys (suc p) e lt at = at-front xs ys p e (omega arith) at

ordered : (p q : ℕ) → ((p < q) ⊎ (q < p)) ⊎ (p ≡ q)
ordered zero zero = inr refl
ordered zero (suc q) = let lt : zero < suc q = omega arith in inl (inl lt)
ordered (suc p) zero = let lt : zero < suc p = omega arith in inl (inr lt)
ordered (suc p) (suc q) = up (ordered p q)
  where
    up : ((p < q) ⊎ (q < p)) ⊎ (p ≡ q) → ((suc p < suc q) ⊎ (suc q < suc p)) ⊎ (suc p ≡ suc q)
    up (inl (inl lt)) = let more : suc p < suc q = omega arith in inl (inl more)
    up (inl (inr lt)) = let more : suc q < suc p = omega arith in inl (inr more)
    up (inr same) = inr (ap suc same)

-- a connection of a legal history has one opening
module _ (once : OpenedOnce) (start : Start) (h : List Entry) (legal : Legal start h) (k : ℕ) where
  not-before : (p q l m : ℕ) → At h p (entry.Opened k l) → At h q (entry.Opened k m) → p < q → ⊥
  not-before p q l m at-p at-q lt =
      let cut = parted h q (entry.Opened k m) at-q in
      let others = once start k m cut.0 cut.1 (subst (λ (x : List Entry). Legal start x) cut.2 legal) in
      let here : p < length cut.0 = let long = cut.3 in omega arith in
      others-at k cut.0 p (entry.Opened k l) others (at-front cut.0 (entry.Opened k m ∷ cut.1) p (entry.Opened k l) here
      (subst (λ (x : List Entry). At x p (entry.Opened k l)) cut.2 at-p)) refl

  same-place : (p q l m : ℕ) → At h p (entry.Opened k l) → At h q (entry.Opened k m) → p ≡ q
  same-place p q l m at-p at-q = go (ordered p q)
    where
      go : ((p < q) ⊎ (q < p)) ⊎ (p ≡ q) → p ≡ q
      go (inl (inl lt)) = absurd (not-before p q l m at-p at-q lt)
      go (inl (inr lt)) = absurd (not-before q p m l at-q at-p lt)
      go (inr same) = same

-- ---- one worker

module _ {L : Type 0} (told : L → Told) (start : Start) (most : ℕ) where
  was-service : (v : View Begun Entry) (ss : List (Service L)) (s : Service L) → IsWorking told start most v ss
      → Has ss s → WasService told start most v s
  was-service v ss (Serves s) working has = (
    working.mine (Serves s) has,
    (
      v.known,
      record {
        begins = front-same v.known;
        no_more = λ p e i same. at-within v.known p e (working.owns.finds.own p e i);
      },
      working.each (Serves s) has,
    ),
  )
  was-service v ss (Unopened count link) working has = working.each (Unopened count link) has

  pub was-working : (v : View Begun Entry) (ss : List (Service L)) → IsWorking told start most v ss
      → IsJoined told start most v ss
  was-working v ss working = record {
    legal = working.legal;
    known = working.owns.finds.own;
    opened = λ p e i. if-mine v e (working.owns.opened p e i);
    was = λ s has. was-service v ss s working has;
    all = working.all;
    once = working.once;
  }

  -- the pass opened the connection that a link served
  was-mine : (v : View Begun Entry) (s : Service L) (k : ℕ) → WasService told start most v s → IsOfConn k s
      → IsMine v k
  was-mine v (Serves s) k was of = subst (λ n. IsMine v n) of was.0
  was-mine v (Unopened count link) k was of = absurd of

  -- ---- two

  -- two passes that no place is in both of don't both open a connection of a legal history that both know
  both-mine : OpenedOnce → (h : List Entry) (v w : View Begun Entry) (k : ℕ) → Legal start h → Apart v.own w.own
      → ((p : ℕ) (e : Entry) → In v.own p e → At h p e) → ((p : ℕ) (e : Entry) → In w.own p e → At h p e) → IsMine v k
      → IsMine w k → ⊥
  both-mine once h v w k legal apart left right mine its =
      let d = opening-is mine.1 k mine.3 in
      let e = opening-is its.1 k its.3 in
      let same : mine.0 ≡ its.0 = same-place once start h legal k mine.0 its.0 d.0 e.0
      (subst (λ (x : Entry). At h mine.0 x) d.1 (left mine.0 mine.1 mine.2))
      (subst (λ (x : Entry). At h its.0 x) e.1 (right its.0 its.1 its.2)) in
      apart its.0 mine.1 its.1 (subst (λ n. In v.own n mine.1) same mine.2) its.2

  -- a link of one pass, where another pass was taken in that owns nothing of its connection
  pub was-on : (v u : View Begun Entry) (s : Service L) → ((k : ℕ) → IsMine v k → IsMine u k)
      → IsFrontOf v.known u.known
      → ((p : ℕ) (e : Entry) → In u.own p e → In v.own p e ⊎ ((k : ℕ) → conn_of e ≡ Some k → IsMine v k → ⊥))
      → WasService told start most v s → WasService told start most u s
  was-on v u (Serves s) mine grows either (m, (front, none, is)) = (
    mine s.conn m,
    (
      front,
      record {
        begins = front-then front v.known u.known none.begins grows;
        no_more = λ p e i same. ⊎_elim (λ (j : In v.own p e). none.no_more p e j same)
            (λ (not : (k : ℕ) → conn_of e ≡ Some k → IsMine v k → ⊥). absurd (not s.conn same m)) (either p e i);
      },
      is,
    ),
  )
  was-on v u (Unopened count link) mine grows either was = none-stays start count v.known u.known grows was

  module _ (once : OpenedOnce) (v w u : View Begun Entry) (ss ts : List (Service L))
      (own : u.own ≡ merged v.own w.own) (apart : Apart v.own w.own) (first : IsFrontOf v.known u.known)
      (second : IsFrontOf w.known u.known) where
    own-left : (p : ℕ) (e : Entry) → In v.own p e → In u.own p e
    own-left p e i =
        subst (λ (l : List (ℕ × Entry)). In l p e) (sym own) (merged_has v.own w.own p e (inl i))

    own-right : (p : ℕ) (e : Entry) → In w.own p e → In u.own p e
    own-right p e i =
        subst (λ (l : List (ℕ × Entry)). In l p e) (sym own) (merged_has v.own w.own p e (inr i))

    own-either : (p : ℕ) (e : Entry) → In u.own p e → In v.own p e ⊎ In w.own p e
    own-either p e i = in_merged v.own w.own p e (subst (λ (l : List (ℕ × Entry)). In l p e) own i)

    mine-left : (k : ℕ) → IsMine v k → IsMine u k
    mine-left k m = (m.0, m.1, own-left m.0 m.1 m.2, m.3)

    mine-right : (k : ℕ) → IsMine w k → IsMine u k
    mine-right k m = (m.0, m.1, own-right m.0 m.1 m.2, m.3)

    mine-either : (k : ℕ) → IsMine u k → IsMine v k ⊎ IsMine w k
    mine-either k m = ⊎_elim (λ (i : In v.own m.0 m.1). inl (m.0, m.1, i, m.3))
        (λ (i : In w.own m.0 m.1). inr (m.0, m.1, i, m.3)) (own-either m.0 m.1 m.2)

    module _ (left : IsJoined told start most v ss) (right : IsJoined told start most w ts)
        (legal : Legal start u.known) where
      at-left : (p : ℕ) (e : Entry) → In v.own p e → At u.known p e
      at-left p e i = starts-at v.known u.known p e first (left.known p e i)

      at-right : (p : ℕ) (e : Entry) → In w.own p e → At u.known p e
      at-right p e i = starts-at w.known u.known p e second (right.known p e i)

      never : (k : ℕ) → IsMine v k → IsMine w k → ⊥
      never k m n = both-mine once u.known v w k legal apart at-left at-right m n

      joined : IsJoined told start most u (ss ++ ts)
      joined = record {
        legal = legal;
        known = λ p e i. ⊎_elim (λ (j : In v.own p e). at-left p e j) (λ (j : In w.own p e). at-right p e j)
            (own-either p e i);
        opened = λ p e i. ⊎_elim
            (λ (j : In v.own p e). conn-mine v u (conn_of e) mine-left (left.opened p e j))
            (λ (j : In w.own p e). conn-mine w u (conn_of e) mine-right (right.opened p e j)) (own-either p e i);
        was = λ s has. ⊎_elim
            (λ (h : Has ss s). was-on v u s mine-left first (λ p e i. ⊎_elim (λ (j : In v.own p e). inl j)
            (λ (j : In w.own p e). inr (λ k of m. never k m (of-conn w (conn_of e) k of (right.opened p e j))))
            (own-either p e i))
            (left.was s h))
            (λ (h : Has ts s). was-on w u s mine-right second (λ p e i. ⊎_elim
            (λ (j : In v.own p e). inr (λ k of m. never k (of-conn v (conn_of e) k of (left.opened p e j)) m))
            (λ (j : In w.own p e). inl j) (own-either p e i)) (right.was s h))
            (has-either ss ts s has);
        all = λ k m. ⊎_elim
            (λ (l : IsMine v k). let s = left.all k l in (s.0, has-left ss ts s.0 s.1, s.2))
            (λ (r : IsMine w k). let s = right.all k r in (s.0, has-right ss ts s.0 s.1, s.2))
            (mine-either k m);
        once = distinct-append ss ts left.once right.once (λ s t k h g of-s of-t. never k
            (was-mine v s k (left.was s h) of-s) (was-mine w t k (right.was t g) of-t));
      }

    pub joined-more : u.known ≡ longer v.known w.known → IsJoined told start most v ss → IsJoined told start most w ts
        → IsJoined told start most u (ss ++ ts)
    joined-more known left right = joined left right (subst (λ (l : List Entry). Legal start l) (sym known)
        (by-longer (λ (l : List Entry). Legal start l) v.known w.known left.legal right.legal))

  -- ---- all

  placed-has : (n : ℕ) (h : List Entry) (p : ℕ) (e : Entry) → At h p e → In (placed n h) (n + p) e
  placed-has n [] p e at = absurd (some-ne-none e (sym at))
  placed-has n (d ∷ h) zero e at =
      (0, λ i. some (let same : n ≡ n + 0 = omega arith in (same i, some-injective d e at i)))
  placed-has n (d ∷ h) (suc p) e at =
      let there = placed-has (n + 1) h p e at in
      let same : n + 1 + p ≡ n + suc p = omega arith in
      subst (λ m. In (placed n (d ∷ h)) m e) same (suc there.0, there.1)

  -- after a prefix after which the pass that owns all owns no entry of a connection, there is none
  passes-front : OthersChangeNothing → (v : View Begun Entry) (k : ℕ) (front h : List Entry) → OwnsNoneBehind v k front
      → IsFrontOf v.known h → ((p : ℕ) (e : Entry) → At h p e → In v.own p e) → KeepsConnection start k front h
  passes-front others v k front h none known mine =
      let starts : IsFrontOf front h = front-then front v.known h none.begins known in
      let rest : List Entry = starts.0 in
      let quiet : (p : ℕ) (e : Entry) → At rest p e → conn_of e ≢ Some k = λ p e at same.
      let there : At h (length front + p) e = subst (λ (l : List Entry). At l (length front + p) e) (sym starts.1)
      (at-behind front rest p e at) in
      let less = none.no_more (length front + p) e (mine (length front + p) e there) same in
      absurd (omega arith) in
      subst (λ (l : List Entry). KeepsConnection start k front l) (sym starts.1)
      (others start k front rest (of-others k rest quiet))

  is-service : OthersChangeNothing → (v : View Begun Entry) (h : List Entry) (s : Service L) → IsFrontOf v.known h
      → ((p : ℕ) (e : Entry) → At h p e → In v.own p e) → WasService told start most v s
      → IsService told start most h s
  is-service others v h (Serves s) known mine (m, (front, none, is)) =
      serves-stays start most s.conn s.listener s.end (told s.given) (told s.back) front h
      (front-then front v.known h none.begins known) (passes-front others v s.conn front h none known mine) is
  is-service others v h (Unopened count link) known mine was = none-stays start count v.known h known was

  pub all-served : OthersChangeNothing → (v : View Begun Entry) (ss : List (Service L)) (h : List Entry)
      → IsJoined told start most v ss → Legal start h → IsFrontOf v.known h → v.own ≡ placed 0 h
      → AreServed told start most h ss
  all-served others v ss h joined legal known own =
      let mine : (p : ℕ) (e : Entry) → At h p e → In v.own p e = λ p e at.
      subst (λ (l : List (ℕ × Entry)). In l p e) (sym own) (let same : 0 + p ≡ p = omega arith in
      subst (λ n. In (placed 0 h) n e) same (placed-has 0 h p e at)) in
      record {
        legal = legal;
        each = λ s has. is-service others v h s known mine (joined.was s has);
        all = λ p k listener at.
            joined.all k (p, entry.Opened k listener, mine p (entry.Opened k listener) at, refl);
        once = joined.once;
      }

-- One link more, or none yet.
use Rattle.std.proofs.Common.{◌≡◌, ℕ, ◌⊎◌, inl, inr, ⊎_elim, List, [], ◌∷◌, ◌++◌, refl, sym, subst}
use Rattle.std.proofs.lemmas.List.{append-nil}
use mathlib.Core.Option.{some, some-ne-none}
use lib.ListN.{get_elem?}
use Rattle.hist_lock.specs.Histories.{At, In}
use Rattle.hist_lock.specs.declared.view.View.{View}
use Rattle.acct_machine.specs.State.{Start}
use Rattle.acct_machine.specs.Legal.{Legal}
use Rattle.acct_machine.specs.Passing.{KeepsConnection}
use Rattle.acct_machine.specs.declared.entry.Entry.{Entry}
use Rattle.acct_links.specs.Links.{Told, IsNew}
use Rattle.link_sessions.specs.Transcript.{IsFrontOf}
use Rattle.link_sessions.specs.Sessions.{IsSession, IsConversation}
use Rattle.door_workers.specs.declared.kept.Begun.{Begun}
use Rattle.door_workers.specs.steps.Moving.{front-then, front-same, passes-then}
use Rattle.door_workers.specs.steps.Passing.{IsMine, OwnsLanes, MovesOn}
use Rattle.door_workers.specs.Services.{Service, Served, Serves, Unopened, IsOfConn, IsService}
use Rattle.door_workers.specs.steps.Opening.{OpensWith, OpensNot}
use Rattle.door_workers.specs.Doors.{Has}
use Rattle.door_workers.specs.steps.Working.{IsMineOn, IsWorking}
use Rattle.door_workers.proofs.Places.{has-either, has-left, has-right, has-none, only, distinct-none, distinct-one}
use Rattle.door_workers.proofs.Places.{distinct-append}
use Rattle.door_workers.proofs.Staying.{serves-stays, none-stays}

module _ {L : Type 0} where
  -- what stands of a link stays where nothing that is said of its connection changes
  pub service-stays : (told : L → Told) (start : Start) (most : ℕ) (before after : List Entry) (s : Service L)
      → IsFrontOf before after → ((k : ℕ) → IsOfConn k s → KeepsConnection start k before after)
      → IsService told start most before s → IsService told start most after s
  service-stays told start most before after (Serves s) grows passes is =
      serves-stays start most s.conn s.listener s.end (told s.given) (told s.back) before after grows
      (passes s.conn refl) is
  service-stays told start most before after (Unopened count link) grows passes is =
      none-stays start count before after grows is

  pub mine-of : (v : View Begun Entry) (s : Service L) (k : ℕ) → IsMineOn v s → IsOfConn k s → IsMine v k
  mine-of v (Serves s) k mine of = subst (λ n. IsMine v n) of mine
  mine-of v (Unopened count link) k mine of = absurd of

  pub mine-on : (v w : View Begun Entry) (s : Service L) → ((k : ℕ) → IsMine v k → IsMine w k) → IsMineOn v s
      → IsMineOn w s
  mine-on v w (Serves s) more mine = more s.conn mine
  mine-on v w (Unopened count link) more mine = tt

  -- one link more, of which this stands in what the pass knows then
  module _ (told : L → Told) (start : Start) (most : ℕ) (v w : View Begun Entry) (ss : List (Service L))
      (s : Service L) (working : IsWorking told start most v ss) where
    one-more : Legal start w.known → OwnsLanes w → ((k : ℕ) → IsMine v k → IsMine w k) → IsMineOn w s
        → IsFrontOf v.known w.known → ((k : ℕ) → IsMine v k → KeepsConnection start k v.known w.known)
        → IsService told start most w.known s → ((k : ℕ) → IsMine w k → IsOfConn k s ⊎ IsMine v k)
        → ((k : ℕ) → IsOfConn k s → IsMine v k → ⊥) → IsWorking told start most w (ss ++ s ∷ [])
    one-more legal owns mine here grows passes is no_more fresh = record {
      legal = legal;
      owns = owns;
      mine = λ t has. ⊎_elim
          (λ (h : Has ss t). mine-on v w t mine (working.mine t h))
          (λ (h : Has (s ∷ []) t). subst (λ (u : Service L). IsMineOn w u) (only s t h) here)
          (has-either ss (s ∷ []) t has);
      each = λ t has. ⊎_elim
          (λ (h : Has ss t). service-stays told start most v.known w.known t grows
          (λ k of. passes k (mine-of v t k (working.mine t h) of)) (working.each t h))
          (λ (h : Has (s ∷ []) t). subst (λ (u : Service L). IsService told start most w.known u) (only s t h) is)
          (has-either ss (s ∷ []) t has);
      all = λ k m. ⊎_elim
          (λ (of : IsOfConn k s). (s, has-right ss (s ∷ []) s (0, refl), of))
          (λ (was : IsMine v k). let t = working.all k was in (t.0, has-left ss (s ∷ []) t.0 t.1, t.2))
          (no_more k m);
      once = distinct-append ss (s ∷ []) working.once (distinct-one s) (λ t u k h g of-t of-u.
          fresh k (subst (λ (x : Service L). IsOfConn k x) (sym (only s u g)) of-u)
          (mine-of v t k (working.mine t h) of-t));
    }

  pub worked : (told : L → Told) (start : Start) (most : ℕ) (v u w : View Begun Entry) (ss : List (Service L))
      (s : Served L) → IsWorking told start most v ss → OpensWith start s.listener s.conn v u
      → MovesOn start s.conn u w → OwnsLanes w → IsNew (told s.given)
      → IsSession start s.conn most s.end (told s.given) (told s.back) u.known w.known
      → IsWorking told start most w (ss ++ Serves s ∷ [])
  worked told start most v u w ss s working opens moves owns new session =
      let conn = opens.conn in
      one-more told start most v w ss (Serves s) working session.legal owns
      (λ k m. moves.mine k (conn.mine k m))
      (moves.mine s.conn conn.serves.mine)
      (front-then v.known u.known w.known conn.grows moves.grows)
      (λ k m. passes-then start k v.known u.known w.known (conn.others k m)
      (moves.others k (λ same. conn.new (subst (λ n. IsMine v n) same m)) (conn.mine k m)))
      (record {
        new = new;
        before = opens.before;
        conversation = subst
            (λ (l : List Entry). IsConversation start s.conn most s.end (told s.given) (told s.back) l w.known)
            opens.entered session.conversation;
        faults = session.faults;
        gone = record { before = session.before; after = []; is = session.gone };
      })
      (λ k m. ⊎_elim (λ (same : k ≡ s.conn). inl (sym same)) (λ (was : IsMine v k). inr was)
      (conn.no_more k (moves.no_more k m)))
      (λ k of m. conn.new (subst (λ n. IsMine v n) (sym of) m))

  pub not-opened : (told : L → Told) (start : Start) (most : ℕ) (v w : View Begun Entry) (ss : List (Service L))
      (count : ℕ) (link : L) → IsWorking told start most v ss → OpensNot start count v w → OwnsLanes w
      → IsWorking told start most w (ss ++ Unopened count link ∷ [])
  not-opened told start most v w ss count link working opens owns =
      let none = opens.none in
      one-more told start most v w ss (Unopened count link) working opens.legal owns none.mine tt none.grows none.others
      (record { found = w.known; front = front-same w.known; full = opens.full })
      (λ k m. inr (none.no_more k m)) (λ k of m. absurd of)

  -- nothing was served yet
  pub idle-works : (told : L → Told) (start : Start) (most : ℕ) (v : View Begun Entry) → v.known ≡ [] → v.own ≡ []
      → IsWorking told start most v []
  idle-works told start most v known own =
      let no_own : (p : ℕ) (e : Entry) → In v.own p e → ⊥ = λ p e i. some-ne-none (p, e)
      (sym (subst (λ (l : List (ℕ × Entry)). get_elem? l i.0 ≡ some (p, e)) own i.1)) in
      let no_known : (p : ℕ) (e : Entry) → At v.known p e → ⊥ = λ p e at. some-ne-none e
      (sym (subst (λ (l : List Entry). get_elem? l p ≡ some e) known at)) in
      record {
        legal = subst (λ (l : List Entry). Legal start l) (sym known) tt;
        owns = record {
          finds = record {
            known = ([], sym (append-nil v.known));
            own = λ p e i. absurd (no_own p e i);
            lanes = λ p e at of. absurd (no_known p e at);
          };
          opened = λ p e i. absurd (no_own p e i);
        };
        mine = λ t has. absurd (has-none t has);
        each = λ t has. absurd (has-none t has);
        all = λ k m. absurd (no_own m.0 m.1 m.2);
        once = distinct-none;
      }

-- What a pass knows of the links that were served over it.
use Rattle.std.specs.Prelude.{◌≡◌, ℕ, ◌<◌, List, length, Some, IfSome}
use Rattle.hist_lock.specs.Histories.{At, In}
use Rattle.hist_lock.specs.declared.view.View.{View}
use Rattle.acct_machine.specs.State.{Start}
use Rattle.acct_machine.specs.Legal.{Legal}
use Rattle.acct_machine.specs.Passing.{conn_of}
use Rattle.acct_machine.specs.declared.entry.Entry.{Entry}
use Rattle.acct_links.specs.Links.{Told}
use Rattle.link_sessions.specs.Transcript.{IsFrontOf}
use Rattle.door_workers.specs.declared.kept.Begun.{Begun}
use Rattle.door_workers.specs.steps.Passing.{IsMine, OwnsLanes}
use Rattle.door_workers.specs.Services.{Service, Serves, Unopened, IsService}
use Rattle.door_workers.specs.Doors.{AreDistinct, Has, IsServedOn}

-- After a prefix of what the pass knows, it owns no entry of the connection that the link served.
pub record OwnsNoneBehind (v : View Begun Entry) (k : ℕ) (front : List Entry) : Type 0 where
  pub begins : IsFrontOf front v.known
  pub no_more : (p : ℕ) (e : Entry) → In v.own p e → conn_of e ≡ Some k → p < length front

module _ {L : Type 0} where
  -- the pass opened the connection that the link served
  abbrev pub IsMineOn : View Begun Entry → Service L → Type 0
  IsMineOn v (Serves s) = IsMine v s.conn
  IsMineOn v (Unopened count link) = Unit {0}

  -- Between two links: each link that was served over the pass stands in what it knows, and each connection that the
  -- pass opened was served on just one of them.
  pub record IsWorking (told : L → Told) (start : Start) (most : ℕ) (v : View Begun Entry) (ss : List (Service L))
      : Type 0 where
    pub legal : Legal start v.known
    pub owns : OwnsLanes v
    pub mine : (s : Service L) → Has ss s → IsMineOn v s
    pub each : (s : Service L) → Has ss s → IsService told start most v.known s
    pub all : (k : ℕ) → IsMine v k → IsServedOn ss k
    pub once : AreDistinct ss

  -- a link stood in the history as of a prefix of what the pass knows, after which the pass owns no entry of the
  -- connection that it served
  abbrev pub WasService : (L → Told) → Start → ℕ → View Begun Entry → Service L → Type 0
  WasService told start most v (Serves s) = IsMine v s.conn × ((front : List Entry) × OwnsNoneBehind v s.conn front
      × IsService told start most front (Serves s))
  WasService told start most v (Unopened count link) = IsService told start most v.known (Unopened count link)

  -- Of a pass that took the passes of workers in, with the links of all.
  pub record IsJoined (told : L → Told) (start : Start) (most : ℕ) (v : View Begun Entry) (ss : List (Service L))
      : Type 0 where
    pub legal : Legal start v.known
    pub known : (p : ℕ) (e : Entry) → In v.own p e → At v.known p e
    pub opened : (p : ℕ) (e : Entry) → In v.own p e → IfSome (conn_of e) (IsMine v)
    pub was : (s : Service L) → Has ss s → WasService told start most v s
    pub all : (k : ℕ) → IsMine v k → IsServedOn ss k
    pub once : AreDistinct ss

-- A link was served, or given back unread.
use Rattle.std.proofs.Common.{◌≡◌, ℕ, List, Option, Some, refl, sym, ◌∙◌}
use Rattle.std.proofs.lemmas.List.{append-nil}
use Rattle.hist_lock.specs.declared.view.View.{View}
use Rattle.acct_machine.specs.State.{Start}
use Rattle.acct_machine.specs.declared.entry.Entry.{Entry}
use Rattle.acct_links.specs.Links.{Told, IsNew}
use Rattle.acct_links.specs.declared.doors.Door.{Ghosts}
use Rattle.door_workers.specs.declared.kept.Begun.{Begun}
use Rattle.door_workers.specs.steps.Passing.{OwnsLanes}
use Rattle.link_sessions.specs.declared.ends.Ended.{Ended}
use Rattle.door_workers.specs.declared.ends.DoorEnd.{DoorEnd}
use Rattle.door_workers.specs.declared.ends.DoorEnd.TheVariants as stop
use Rattle.door_workers.specs.Services.{Served, Serves, Unopened}
use Rattle.door_workers.specs.steps.Opening.{OpensWith, OpensNot}
use Rattle.door_workers.specs.steps.Serving.{TakesBack, ServesLink, HandlesLink}
use Rattle.door_workers.proofs.Runs.{notes-link}
use Rattle.door_workers.proofs.Worked.{worked, not-opened}

module _ {D L : Type 0} (door : Ghosts D L) (told : L → Told) (start : Start) (most place : ℕ) (link : L)
    (old new : D) (ends_before ends_behind : List Ended) where
  pub link-served : (k : ℕ) (v u w : View Begun Entry) (answer : Option DoorEnd)
      → OpensWith start (door.listener old) k v u → IsNew (told link) → OwnsLanes w
      → ServesLink door told start most place k link u w old new ends_before ends_behind answer
      → HandlesLink door told start most place link v w old new ends_before ends_behind answer
  link-served k v u w answer opens fresh owns serves =
      let s : Served L = record {
        conn = k;
        listener = door.listener old;
        given = link;
        back = serves.back;
        end = serves.end;
      } in
      record {
        service = Serves s;
        given = refl;
        at = refl;
        works = λ ss working.
            worked told start most v u w ss s working opens serves.moves owns fresh serves.session;
        takes = serves.takes;
        ends = notes-link answer place s ends_before ends_behind serves.notes;
      }

  pub link-unopened : (count : ℕ) (v w : View Begun Entry) → OpensNot start count v w → OwnsLanes w
      → TakesBack door told 0 link old new → ends_behind ≡ ends_before
      → HandlesLink door told start most place link v w old new ends_before ends_behind (Some (stop.Full count))
  link-unopened count v w opens owns takes same = record {
    service = Unopened count link;
    given = refl;
    at = tt;
    works = λ ss working. not-opened told start most v w ss count link working opens owns;
    takes = takes;
    ends = (refl, same ∙ sym (append-nil ends_before));
  }

-- What stands of a link in a history stays as it is where other connections' entries come after it.
use Rattle.std.proofs.Common.{ℕ, List, ◌∷◌, ◌++◌, ap, ◌∙◌, append_assoc}
use Rattle.acct_machine.specs.State.{Start}
use Rattle.acct_machine.specs.Passing.{KeepsConnection}
use Rattle.acct_machine.specs.declared.entry.Entry.{Entry}
use Rattle.acct_machine.specs.declared.entry.Entry.TheVariants.{Gone}
use Rattle.acct_links.specs.Links.{Told}
use Rattle.link_sessions.specs.Transcript.{IsFrontOf}
use Rattle.link_sessions.specs.declared.ends.SessionEnd.{SessionEnd}
use Rattle.link_sessions.proofs.Staying.{conversation-stays}
use Rattle.door_workers.specs.steps.Moving.{front-then}
use Rattle.door_workers.specs.Services.{HasGone, ServesConn, TakesNone}

-- a connection that is gone is gone in what comes after
pub gone-stays : (k : ℕ) (before after : List Entry) → IsFrontOf before after → HasGone k before → HasGone k after
gone-stays k before after grows is = record {
  before = is.before;
  after = is.after ++ grows.0;
  is = grows.1 ∙ ap (λ (l : List Entry). l ++ grows.0) is.is ∙ append_assoc is.before (Gone k ∷ is.after) grows.0;
}

pub serves-stays : (start : Start) (most k listener : ℕ) (answer : SessionEnd) (given back : Told)
    (before after : List Entry) → IsFrontOf before after → KeepsConnection start k before after
    → ServesConn start most k listener answer given back before
    → ServesConn start most k listener answer given back after
serves-stays start most k listener answer given back before after grows passes is = record {
  new = is.new;
  before = is.before;
  conversation = conversation-stays start k most answer given back _ before after grows passes.calls passes.replies
      is.conversation;
  faults = is.faults;
  gone = gone-stays k before after grows is.gone;
}

pub none-stays : (start : Start) (count : ℕ) (before after : List Entry) → IsFrontOf before after
    → TakesNone start count before → TakesNone start count after
none-stays start count before after grows is = record {
  found = is.found;
  front = front-then is.found before after is.front grows;
  full = is.full;
}

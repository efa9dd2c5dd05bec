-- The next request goes after those sent so far and fewer steps are left, or the talk ends as its dialogue does.
use Rattle.std.proofs.Common.{◌<◌, ◌++◌, ℕ, List, true, arith, subst, sym}
use Rattle.acct_client.specs.steps.Parts.{SentSoFar, Stands, steps_left}
use Rattle.acct_client.proofs.Ending.{Asked, ask-less, asked-dialogue, asked-stands, asked-talks, talks-done}
use Rattle.acct_client.proofs.Ending.{talks-lost}
use Rattle.acct_client.proofs.conversing.ask.Goals as goal

pub returns-in-Err-clause-err : goal.returns-in-Err-clause-err
returns-in-Err-clause-err g c = λ command old s.
    talks-lost command c.args.asker.now old (g.L.Link.told c.args.link.now) c.args.line.now.room
    c.args.line.now.is_cut s.received s.bytes c.next.new.self.lines s.dialogue s.link

pub returns-in-Ok-None-clause-err : goal.returns-in-Ok-None-clause-err
returns-in-Ok-None-clause-err g c = λ command old s.
    talks-done command c.args.asker.now c.next.new.self old (g.L.Link.told c.args.link.now) c.args.line.now.room
    c.args.line.now.is_cut s.received s.bytes c.requires.idle s.dialogue s.link
    (sym (rw c.in-Ok-None.field-0-is at c.in-Ok-None.ensures.bytes)) c.in-Ok-None.ensures.ok
    (rw c.in-Ok-None.field-0-is at c.in-Ok-None.ensures.spoken)

pub returns-in-Ok-clause-ok : goal.returns-in-Ok-clause-ok
returns-in-Ok-clause-ok g c =
    let now = g.L.Link.told c.args.link.now in
    let new = g.L.Link.told c.request.new.link in
    let cut = c.args.line.now.is_cut in
    let cut' = c.request.new.line.is_cut in
    let b : List ℕ = c.in-Ok-Some.bytes.items in
    let asked : Asked c.args.asker.now c.next.new.self now new cut cut' b = record {
      idle = c.requires.idle;
      sends = sym (rw c.in-Ok-Some.field-0-is at c.in-Ok-Some.ensures.bytes);
      same = c.in-Ok-Some.ensures.ok;
      kept = rw c.in-Ok-Some.field-0-is at c.in-Ok-Some.ensures.spoken;
      unread = c.request.ensures.unread;
      sent = λ old before le so_far. subst (λ (x : List ℕ). SentSoFar cut' old new (before ++ x))
          c.deref.ensures.value (c.request.ensures.sent old before le so_far);
    } in
    λ command old s. subst (λ (room : ℕ). Stands command old new c.hear.new.asker room cut' c.in-Ok.whole)
    (sym c.request.ensures.room)
    (asked-stands c.front_is_stable.ensures command old now new c.args.asker.now c.next.new.self c.hear.new.asker
    c.args.line.now.room cut cut' c.in-Ok.whole b s asked
    (λ received bytes so_far. c.in-Ok.ensures.ok command received bytes so_far)
    (λ received bytes so_far not_yet. c.in-Ok.ensures.waits command received bytes so_far not_yet))

pub returns-in-Ok-clause-less : goal.returns-in-Ok-clause-less
returns-in-Ok-clause-less g c =
    let now = g.L.Link.told c.args.link.now in
    let new = g.L.Link.told c.request.new.link in
    let cut = c.args.line.now.is_cut in
    let cut' = c.request.new.line.is_cut in
    let b : List ℕ = c.in-Ok-Some.bytes.items in
    let asked : Asked c.args.asker.now c.next.new.self now new cut cut' b = record {
      idle = c.requires.idle;
      sends = sym (rw c.in-Ok-Some.field-0-is at c.in-Ok-Some.ensures.bytes);
      same = c.in-Ok-Some.ensures.ok;
      kept = rw c.in-Ok-Some.field-0-is at c.in-Ok-Some.ensures.spoken;
      unread = c.request.ensures.unread;
      sent = λ old before le so_far. subst (λ (x : List ℕ). SentSoFar cut' old new (before ++ x))
          c.deref.ensures.value (c.request.ensures.sent old before le so_far);
    } in
    λ command old s. subst (λ (room : ℕ). steps_left room c.hear.new.asker c.in-Ok.whole
    < steps_left c.args.line.now.room c.args.asker.now true) (sym c.request.ensures.room)
    (ask-less c.args.line.now.room c.args.asker.now c.next.new.self c.hear.new.asker c.in-Ok.whole
    c.in-Ok-Some.ensures.ok (omega (arith, c.requires.room))
    (c.in-Ok.ensures.moves command s.received (s.bytes ++ b)
    (asked-dialogue c.front_is_stable.ensures command old now new c.args.asker.now c.next.new.self
    c.args.line.now.room cut cut' b s asked)))

pub returns-clause-err : goal.returns-clause-err
returns-clause-err g c =
    let now = g.L.Link.told c.args.link.now in
    let new = g.L.Link.told c.request.new.link in
    let cut = c.args.line.now.is_cut in
    let cut' = c.request.new.line.is_cut in
    let b : List ℕ = c.in-Ok-Some.bytes.items in
    let asked : Asked c.args.asker.now c.next.new.self now new cut cut' b = record {
      idle = c.requires.idle;
      sends = sym (rw c.in-Ok-Some.field-0-is at c.in-Ok-Some.ensures.bytes);
      same = c.in-Ok-Some.ensures.ok;
      kept = rw c.in-Ok-Some.field-0-is at c.in-Ok-Some.ensures.spoken;
      unread = c.request.ensures.unread;
      sent = λ old before le so_far. subst (λ (x : List ℕ). SentSoFar cut' old new (before ++ x))
          c.deref.ensures.value (c.request.ensures.sent old before le so_far);
    } in
    λ command old s. asked-talks c.front_is_stable.ensures command c.in-Err-hear.end old now new c.args.asker.now
    c.next.new.self c.args.line.now.room cut cut' b c.hear.new.asker.lines s asked
    (λ received bytes so_far. c.in-Err-hear.ensures.err command received bytes so_far)

-- The answers to requests over a gate.
use Rattle.std.proofs.Common.{◌≡◌, ℕ, List, Some, None, refl, sym, ap, ◌∙◌, subst}
use Rattle.acct_machine.specs.State.{Start}
use Rattle.acct_calls.specs.declared.calls.Call.{Call}
use Rattle.acct_calls.specs.declared.replies.Reply.{Reply}
use Rattle.acct_machine.specs.declared.entry.Entry.{Entry}
use Rattle.acct_machine.specs.declared.machine.Acted.TheVariants as acts
use Rattle.acct_machine.specs.Machine.{OneMoreCall}
use Rattle.acct_machine.specs.Legal.{calls_full, bytes_full, call_full, TakesCall}
use Rattle.acct_machine.specs.Shown.{Past}
use Rattle.rpc_session.specs.declared.sessions.Request.{Request}
use Rattle.link_sessions.specs.Transcript.{answer_bytes}
use Rattle.link_sessions.specs.Turns.{shown, Turn, MachineActs}
use Rattle.link_sessions.specs.Answering.{EntersCall, AnswersCall, FindsFull}

taken : (start : Start) (history : List Entry) (size : ℕ) → TakesCall start history size
    → call_full start history size ≡ None
taken start history size takes = rw (takes.few, takes.short) refl

-- a turn entered the call
pub call-entered : (start : Start) (k : ℕ) (finds : List Entry → Type 0) (left : List Entry) (size : ℕ) (call : Call)
    (reply : Reply)
    → Turn finds (MachineActs start k call size (acts.Reply reply)) left → EntersCall start k finds left call size
call-entered start k finds left size call reply turn =
    let enters = turn.does_it.acts in record {
      found = turn.found;
      finds_it = turn.finds_it;
      taken = taken start turn.found size enters.taken;
      verdict = enters.verdict;
      entered = ap (λ (m : Past). m.history) enters.entered;
      live = turn.does_it.live;
      more = subst (λ (r : Reply). OneMoreCall (shown start turn.found) (shown start left) k call size r) enters.reply
          turn.does_it.calls;
    }

-- and its reply was put into bytes
pub call-answered : (start : Start) (k : ℕ) (finds : List Entry → Type 0) (left : List Entry) (asked : Request)
    (size : ℕ) (call : Call) (reply : Reply) (bytes : List ℕ)
    → Turn finds (MachineActs start k call size (acts.Reply reply)) left
    → bytes ≡ answer_bytes asked call.face call.opnum reply
    → AnswersCall start k finds left asked size call bytes
unfolding call-entered
call-answered start k finds left asked size call reply bytes turn is = record {
  enters = call-entered start k finds left size call reply turn;
  bytes_are = is ∙ ap (λ (r : Reply). answer_bytes asked call.face call.opnum r) turn.does_it.acts.reply;
}

-- a turn left the history as it was, which takes no such call
full-calls : (start : Start) (history : List Entry) (size count : ℕ) → calls_full start history ≡ Some count
    → call_full start history size ≡ Some count
full-calls start history size count is = rw is refl

full-bytes : (start : Start) (history : List Entry) (size sum : ℕ) → calls_full start history ≡ None
    → bytes_full start history size ≡ Some sum → call_full start history size ≡ Some sum
full-bytes start history size sum few is = rw (few, is) refl

same-history : (start : Start) (left found : List Entry) → shown start left ≡ shown start found → found ≡ left
same-history start left found is = sym (ap (λ (m : Past). m.history) is)

pub calls-found : (start : Start) (k : ℕ) (finds : List Entry → Type 0) (left : List Entry) (size : ℕ) (call : Call)
    (count : ℕ)
    → Turn finds (MachineActs start k call size (acts.FullCalls count)) left → FindsFull start finds left size count
calls-found start k finds left size call count turn =
    let same = same-history start left turn.found turn.does_it.acts.1 in record {
      finds_it = subst finds same turn.finds_it;
      full = subst (λ (h : List Entry). call_full start h size ≡ Some count) same
          (full-calls start turn.found size count turn.does_it.acts.0);
    }

pub bytes-found : (start : Start) (k : ℕ) (finds : List Entry → Type 0) (left : List Entry) (size : ℕ) (call : Call)
    (sum : ℕ)
    → Turn finds (MachineActs start k call size (acts.FullBytes sum)) left → FindsFull start finds left size sum
bytes-found start k finds left size call sum turn =
    let same = same-history start left turn.found turn.does_it.acts.2 in record {
      finds_it = subst finds same turn.finds_it;
      full = subst (λ (h : List Entry). call_full start h size ≡ Some sum) same
          (full-bytes start turn.found size sum turn.does_it.acts.0 turn.does_it.acts.1);
    }

-- What a job of a turn does to the history under the lock, by the machine's own clauses.
use Rattle.std.proofs.Common.{◌≡◌, ℕ, ap, subst}
use Rattle.acct_calls.specs.declared.calls.Call.{Call}
use Rattle.acct_machine.specs.declared.machine.Acted.{Acted}
use Rattle.acct_machine.specs.declared.machine.Acted.TheVariants as acted
use Rattle.acct_machine.specs.declared.machine.Opened.{Opened}
use Rattle.acct_machine.specs.declared.machine.Opened.TheVariants as answer
use Rattle.acct_machine.specs.State.{Start}
use Rattle.acct_machine.specs.Legal.{Legal}
use Rattle.acct_machine.specs.Machine.{Opens, OpensFresh, OpensLive, SameCalls, Acts, ActsCalls, SameLive, Ends}
use Rattle.acct_machine.specs.Machine.{OneLessLive, state_of}
use Rattle.acct_machine.specs.Shown.{Past}
use Rattle.link_sessions.specs.Turns.{MachineOpens, MachineActs, MachineEnds, shown}

-- the history begins where it began
opening-start : (old new : Past) (listener : ℕ) (out : Opened) → Opens old listener out new → new.start ≡ old.start
opening-start old new listener (answer.Conn k) opens = ap (λ (s : Past). s.start) opens.2
opening-start old new listener (answer.Full count) opens = ap (λ (s : Past). s.start) opens.1

acting-start : (old new : Past) (k : ℕ) (call : Call) (n : ℕ) (out : Acted) → Acts old k call n out new
    → new.start ≡ old.start
acting-start old new k call n (acted.Reply reply) acts = ap (λ (s : Past). s.start) acts.entered
acting-start old new k call n (acted.FullCalls count) acts = ap (λ (s : Past). s.start) acts.1
acting-start old new k call n (acted.FullBytes sum) acts = ap (λ (s : Past). s.start) acts.2

pub opening-does : (old new : Past) (listener : ℕ) (out : Opened) → Opens old listener out new → OpensFresh old out
    → OpensLive old out new → SameCalls old new → Legal new.start new.history
    → MachineOpens old.start listener out old.history new.history
opening-does old new listener out opens fresh live calls legal =
    let is = opening-start old new listener out opens in record {
      opens = subst (λ (s : Start). Opens old listener out (shown s new.history)) is opens;
      fresh = fresh;
      live = subst (λ (s : Start). OpensLive old out (shown s new.history)) is live;
      calls = subst (λ (s : Start). SameCalls old (shown s new.history)) is calls;
      legal = subst (λ (s : Start). Legal s new.history) is legal;
    }

pub acting-does : (old new : Past) (k : ℕ) (call : Call) (n : ℕ) (out : Acted) → Acts old k call n out new
    → SameLive (state_of old) (state_of new) → ActsCalls old k call n out new → Legal new.start new.history
    → MachineActs old.start k call n out old.history new.history
acting-does old new k call n out acts live calls legal =
    let is = acting-start old new k call n out acts in record {
      acts = subst (λ (s : Start). Acts old k call n out (shown s new.history)) is acts;
      live = subst (λ (s : Start). SameLive (state_of old) (state_of (shown s new.history))) is live;
      calls = subst (λ (s : Start). ActsCalls old k call n out (shown s new.history)) is calls;
      legal = subst (λ (s : Start). Legal s new.history) is legal;
    }

pub ending-does : (old new : Past) (k : ℕ) → Ends old k new → OneLessLive (state_of old) (state_of new) k
    → SameCalls old new → Legal new.start new.history → MachineEnds old.start k old.history new.history
ending-does old new k ends live calls legal =
    let is : new.start ≡ old.start = ap (λ (s : Past). s.start) ends in record {
      ends = subst (λ (s : Start). Ends old k (shown s new.history)) is ends;
      live = subst (λ (s : Start). OneLessLive (state_of old) (state_of (shown s new.history)) k) is live;
      calls = subst (λ (s : Start). SameCalls old (shown s new.history)) is calls;
      legal = subst (λ (s : Start). Legal s new.history) is legal;
    }

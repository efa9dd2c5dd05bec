-- A call leaves which connections are live.
use Rattle.std.proofs.Common.{◌≡◌, ℕ, ◌+◌, refl}
use Rattle.acct_calls.specs.declared.calls.Call.{Call}
use Rattle.acct_machine.specs.declared.entry.Verdict.{Verdict}
use Rattle.acct_machine.specs.State.{State, last_serial}
use Rattle.acct_machine.specs.Step.{acted}
use Rattle.acct_machine.specs.Shown.{live_count}
use Rattle.acct_machine.specs.Machine.{SameLive}
use Rattle.acct_machine.proofs.Conns.{live-set, length-set, count-set}
use Rattle.acct_machine.proofs.Cases.{acted-cases}

-- which connections are live, and how many there are
pub same_live-acted : (s : State) (conn : ℕ) (call : Call) (verdict : Verdict)
    → SameLive s (acted s conn call verdict).0
same_live-acted s conn call verdict = acted-cases (λ (x : State). SameLive s x) s conn call verdict (record {
  same = record { lives = λ k. refl; count = refl };
  planned = λ o passed. record { lives = λ k. refl; count = refl };
  opened = λ o opening granted ran passed effect grant. record {
    lives = λ k. live-set k conn (last_serial conn s.conns + 1) s.conns;
    count = length-set conn (last_serial conn s.conns + 1) s.conns;
  };
})

pub live_count-acted : (s : State) (conn : ℕ) (call : Call) (verdict : Verdict)
    → live_count (acted s conn call verdict).0.conns ≡ live_count s.conns
live_count-acted s conn call verdict =
    acted-cases (λ (x : State). live_count x.conns ≡ live_count s.conns) s conn call verdict (record {
      same = refl;
      planned = λ o passed. refl;
      opened = λ o opening granted ran passed effect grant. count-set conn (last_serial conn s.conns + 1) s.conns;
    })

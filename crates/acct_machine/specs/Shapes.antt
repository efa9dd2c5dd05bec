-- Which shape the replies of a legal history have.
use Rattle.std.specs.Prelude.{ℕ, ◌^◌, ◌<◌, List, length, ⊤}
use Rattle.acct_calls.specs.declared.calls.Call.{Call}
use Rattle.acct_calls.specs.declared.replies.Reply.{Reply}
use Rattle.acct_calls.specs.declared.replies.Reply.TheVariants.{Fault, Done}
use Rattle.acct_config.specs.Spelled.{IsRightConfig}
use Rattle.acct_layouts.specs.ReplyShapes.{HasShape}
use Rattle.acct_rows.specs.Rows.{HasRoom}
use Rattle.acct_rows.specs.Sound.{IsSoundRows}
use Rattle.acct_machine.specs.declared.entry.Verdict.{Verdict}
use Rattle.acct_machine.specs.declared.entry.Entry.{Entry}
use Rattle.acct_machine.specs.declared.entry.Entry.TheVariants.{Called}
use Rattle.acct_machine.specs.State.{Start}
use Rattle.acct_machine.specs.Step.{acted, state_at}
use Rattle.acct_machine.specs.Legal.{May, Legal}

-- a reply that is no fault has the shape of the call's operation
abbrev pub IsAnswer : Call → Reply → Type 0
IsAnswer call (Fault fault) = ⊤
IsAnswer call (Done status outs) = HasShape call.face call.opnum (Done status outs)

-- So it is with the reply of each call of a legal history that begins with sound rows under a right configuration, as
-- long as it has fewer than 2^64 events and each list of rows fewer than 2^32.
abbrev pub RepliesAreShaped : Type 0
RepliesAreShaped =
    (start : Start) (before : List Entry) (conn : ℕ) (call : Call) (verdict : Verdict) (bytes : ℕ)
    → IsRightConfig start.config → IsSoundRows start.rows → Legal start before
    → May start before (Called conn call verdict bytes) → length before < 2 ^ 64
    → HasRoom (state_at start before).rows 0
    → IsAnswer call (acted (state_at start before) conn call verdict).1

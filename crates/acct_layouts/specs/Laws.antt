-- The law of refusals.
use Rattle.std.specs.Prelude.{◌≡◌, ℕ, Some}
use Rattle.acct_calls.specs.declared.calls.Call.{Call}
use Rattle.acct_calls.specs.declared.replies.Reply.TheVariants.{Done}
use Rattle.acct_layouts.specs.Values.{IsLong}
use Rattle.acct_layouts.specs.CallShapes.{CanBeSpelled}
use Rattle.acct_layouts.specs.Refusals.{refused_outs}
use Rattle.acct_layouts.specs.ReplyShapes.{HasShape}
use Rattle.acct_layouts.specs.Table.{layout_of}
use Rattle.acct_layouts.specs.declared.table.Layout.{Layout}

-- A reply of any status with the outputs of a refusal has the shape of the operation, where the call is one that can be
-- spelled.
abbrev pub RefusalsHaveShape : Type 0
RefusalsHaveShape = (call : Call) (layout : Layout) (status : ℕ) → CanBeSpelled call
    → layout_of call.face call.opnum ≡ Some layout → IsLong status
    → HasShape call.face call.opnum (Done status (refused_outs layout.outputs call.args call.handle))

-- What an interface owes for the codecs of the layouts that it has alone.
use Rattle.std.specs.Prelude.{◌≡◌, true}
use Rattle.ndr_core.specs.Cursor.{Cursor, IsBytes}
use Rattle.acct_calls.specs.declared.calls.Args.{Args}
use Rattle.acct_calls.specs.declared.replies.Reply.{Reply}
use Rattle.acct_layouts.specs.CallShapes.{AreArguments}
use Rattle.acct_layouts.specs.ReplyShapes.{IsReplyOf, RefersRightly}
use Rattle.acct_layouts.specs.declared.fields.Fields.{Fields}
use Rattle.acct_layouts.specs.declared.outputs.Outputs.{Outputs}
use Rattle.ndr_types.specs.Laws.{GoesOnward, IsWritable}
use Rattle.acct_stubs.specs.Shared.{are_own, own_outputs}
use Rattle.acct_stubs.specs.Arguments.{Wire}

-- What some bytes spell can be written, and is of the layout's kind. What is of the kind can be written, where the
-- interface has the layout. Reading goes onward, and takes no memory. A refusal that refers to a domain may be spelled,
-- and isn't written.
pub record IsLawful (w : Wire) : Type 0 where
  pub writable : (f : Fields) → IsWritable (w.fields f)
  pub kind : (f : Fields) (a : Args) → (w.fields f).Fits a → AreArguments f a
  pub fits : (f : Fields) (a : Args) → are_own w.face f ≡ true → AreArguments f a → (w.fields f).Fits a
  pub onward : (f : Fields) → GoesOnward (w.fields f)
  pub writable_reply : (o : Outputs) (r : Reply) (start end : Cursor) → IsBytes start.stub
      → (w.replies o).Spells r start end → RefersRightly r → (w.replies o).Fits r
  pub reply_kind : (o : Outputs) (r : Reply) → (w.replies o).Fits r → IsReplyOf o r
  pub reply_fits : (o : Outputs) (r : Reply) → own_outputs w.face o ≡ true → IsReplyOf o r → (w.replies o).Fits r
  pub reply_onward : (o : Outputs) → GoesOnward (w.replies o)

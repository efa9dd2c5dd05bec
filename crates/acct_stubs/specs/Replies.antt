-- Replies as stubs: which bytes spell a reply, which reply some bytes are, or why they are none, how a reply is
-- spelled, and the laws of these.
use Rattle.std.specs.Prelude.{◌≡◌, ◌≢◌, ℕ, List, [], ◌++◌, ◌↔◌, Option, Some, None, Result, Ok, Err}
use Rattle.ndr_core.specs.Cursor.{Cursor, IsBytes}
use Rattle.ndr_core.specs.declared.error.NdrError.{NdrError}
use Rattle.acct_calls.specs.declared.replies.Reply.{Reply}
use Rattle.acct_layouts.specs.ReplyShapes.{HasShape, RefersRightly}
use Rattle.acct_layouts.specs.Table.{layout_of}
use Rattle.acct_layouts.specs.declared.table.Layout.{Layout}
use Rattle.acct_stubs.specs.Calls.{nothing_written, refused_at, start}
use Rattle.acct_stubs.specs.Outputs.{reply_stub}
use Rattle.acct_stubs.specs.Arguments.{Wire}
use Rattle.acct_stubs.specs.declared.errors.WireError.{WireError}
use Rattle.acct_stubs.specs.declared.errors.WireError.TheVariants.{Memory, NotServed}

-- A prefix of the stub is the outputs and the status of the reply, as the operation has them.
abbrev pub SpellsReply : Wire → ℕ → Reply → List ℕ → Type 0
SpellsReply w opnum r stub =
    (layout : Layout) × (layout_of w.face opnum ≡ Some layout)
    × (end : Cursor) × (reply_stub w layout.outputs).Spells r (start stub) end

-- ---- reading

abbrev pub reply_read : Result (Reply × Cursor) NdrError → Result Reply WireError
reply_read (Ok x) = Ok x.0
reply_read (Err e) = Err (refused_at e)

abbrev pub reply_in : Wire → ℕ → Option Layout → List ℕ → Result Reply WireError
reply_in w opnum None stub = Err (NotServed opnum)
reply_in w opnum (Some layout) stub = reply_read ((reply_stub w layout.outputs).read (start stub))

-- the reply that the stub spells, or why it spells none
unfoldable pub reply_at : Wire → ℕ → List ℕ → Result Reply WireError
reply_at w opnum stub = reply_in w opnum (layout_of w.face opnum) stub

-- ---- writing

abbrev pub reply_spelled_in : Wire → Option Layout → Reply → List ℕ
reply_spelled_in w None r = []
reply_spelled_in w (Some layout) r = ((reply_stub w layout.outputs).write r nothing_written).bytes

-- the one spelling that is written: referents in order, zeros for padding
unfoldable pub spell_reply : Wire → ℕ → Reply → List ℕ
spell_reply w opnum r = reply_spelled_in w (layout_of w.face opnum) r

-- ---- the laws

-- A reply is read from a stub exactly where the stub spells it.
abbrev pub IsReplyReadWhereSpelled : Wire → Type 0
IsReplyReadWhereSpelled w =
    (opnum : ℕ) (stub : List ℕ) (r : Reply) → (reply_at w opnum stub ≡ Ok r) ↔ SpellsReply w opnum r stub

-- No stub is read as out of memory, which the code alone may be.
abbrev pub NoReplyWantsMemory : Wire → Type 0
NoReplyWantsMemory w = (opnum : ℕ) (stub : List ℕ) → reply_at w opnum stub ≢ Err Memory

-- No stub spells two replies of one opnum.
abbrev pub HasOneReply : Wire → Type 0
HasOneReply w =
    (opnum : ℕ) (left right : Reply) (stub : List ℕ) → SpellsReply w opnum left stub → SpellsReply w opnum right stub
    → left ≡ right

-- Some stub spells the reply.
abbrev pub IsSpelledReply : Wire → ℕ → Reply → Type 0
IsSpelledReply w opnum r = (stub : List ℕ) × IsBytes stub × SpellsReply w opnum r stub

-- The replies that have an operation's shape are exactly those that some stub spells, of which no refusal refers to
-- a domain.
abbrev pub AreTheSpelledReplies : Wire → Type 0
AreTheSpelledReplies w =
    (opnum : ℕ) (r : Reply) → HasShape w.face opnum r ↔ (IsSpelledReply w opnum r × RefersRightly r)

-- The same, where no reply refers to domains.
abbrev pub EachSpelledReplyHasShape : Wire → Type 0
EachSpelledReplyHasShape w = (opnum : ℕ) (r : Reply) → HasShape w.face opnum r ↔ IsSpelledReply w opnum r

-- What is written for a reply is bytes, and is read again as that reply, whatever bytes follow.
abbrev pub IsReplyReadAgain : Wire → Type 0
IsReplyReadAgain w =
    (opnum : ℕ) (r : Reply) (rest : List ℕ) → HasShape w.face opnum r
    → IsBytes (spell_reply w opnum r) × (reply_at w opnum (spell_reply w opnum r ++ rest) ≡ Ok r)

-- Calls as stubs: which bytes spell a call, which call some bytes are, or why they are none, how a call is spelled, and
-- the laws of these.
use Rattle.std.specs.Prelude.{◌≡◌, ◌≢◌, ℕ, Bool, false, List, [], ◌++◌, ◌↔◌, Option, Some, None, Result, Ok, Err}
use Rattle.std.specs.Prelude.{if◌then◌else◌}
use Rattle.ndr_core.specs.Codec.{Codec}
use Rattle.ndr_core.specs.Cursor.{Cursor, second, IsBytes, Written}
use Rattle.ndr_core.specs.Shapes.{chain, made, u16}
use Rattle.ndr_core.specs.declared.error.NdrError.{NdrError}
use Rattle.ndr_core.specs.declared.error.NdrError.TheVariants as ndr
use Rattle.acct_calls.specs.declared.calls.Args.{Args}
use Rattle.acct_calls.specs.declared.calls.Call.{Call}
use Rattle.acct_calls.specs.declared.calls.Face.{Face}
use Rattle.acct_calls.specs.declared.handle.Handle.{Handle}
use Rattle.acct_layouts.specs.CallShapes.{CanBeSpelled}
use Rattle.acct_layouts.specs.Values.{is_password_class}
use Rattle.acct_layouts.specs.Table.{layout_of}
use Rattle.acct_layouts.specs.declared.fields.Fields.{Fields}
use Rattle.acct_layouts.specs.declared.fields.Fields.TheVariants as fields
use Rattle.acct_layouts.specs.declared.table.Layout.{Layout}
use Rattle.ndr_types.specs.Translations.{place}
use Rattle.ndr_types.specs.Values.{handle, handle_of}
use Rattle.acct_stubs.specs.Arguments.{arguments, Wire}
use Rattle.acct_stubs.specs.declared.errors.WireError.{WireError}
use Rattle.acct_stubs.specs.declared.errors.WireError.TheVariants.{BadStub, Memory, NotServed}

-- ---- a whole stub

-- an opening of the server brings the zero handle
abbrev pub without_handle : Args → Handle × Args
without_handle a = (handle_of 0, a)

-- the handle, except an opening of the server, and what stands after it
unfoldable pub stub_of : Wire → Fields → Codec (Handle × Args)
stub_of w (fields.Connect c) = made without_handle second (arguments w (fields.Connect c))
stub_of w f = chain handle (λ _. arguments w f)

abbrev pub start : List ℕ → Cursor
start stub = record { stub = stub; place = 0 }

-- A prefix of the stub is the handle and the arguments of the call, as its operation has them.
abbrev pub Spells : Wire → Call → List ℕ → Type 0
Spells w call stub =
    (call.face ≡ w.face) × (layout : Layout) × (layout_of w.face call.opnum ≡ Some layout)
    × (end : Cursor) × (stub_of w layout.fields).Spells (call.handle, call.args) (start stub) end

-- ---- what isn't served

abbrev pub carries_password : Fields → ℕ → Bool
carries_password (fields.Class s) class = is_password_class s class
carries_password (fields.Put s) class = is_password_class s class
carries_password _ class = false

-- The class stands after the handle, in bytes 20 and 21.
unfoldable pub class_behind : Codec (Handle × ℕ)
class_behind = chain handle (λ _. u16)

abbrev pub withheld_class : Fields → Result ((Handle × ℕ) × Cursor) NdrError → Bool
withheld_class f (Ok x) = carries_password f x.0.1
withheld_class f (Err e) = false

abbrev pub is_withheld : Fields → List ℕ → Bool
is_withheld f stub = withheld_class f (class_behind.read (start stub))

-- The opnum is on the table, and the class isn't one that carries a password.
abbrev pub IsServed : Wire → ℕ → List ℕ → Type 0
IsServed w opnum stub =
    (layout : Layout) × (layout_of w.face opnum ≡ Some layout) × (is_withheld layout.fields stub ≡ false)

-- ---- reading

abbrev pub call_of : Face → ℕ → Handle × Args → Call
call_of face opnum x = record { face = face; opnum = opnum; handle = x.0; args = x.1 }

abbrev pub refused_at : NdrError → WireError
refused_at (ndr.Short place) = BadStub place
refused_at (ndr.Count place) = BadStub place
refused_at ndr.Memory = Memory

abbrev pub call_read : Face → ℕ → Result ((Handle × Args) × Cursor) NdrError → Result Call WireError
call_read face opnum (Ok x) = Ok (call_of face opnum x.0)
call_read face opnum (Err e) = Err (refused_at e)

abbrev pub call_in : Wire → ℕ → Option Layout → List ℕ → Result Call WireError
call_in w opnum None stub = Err (NotServed opnum)
call_in w opnum (Some layout) stub =
    if is_withheld layout.fields stub then Err (NotServed opnum)
    else call_read w.face opnum ((stub_of w layout.fields).read (start stub))

-- the call that the stub spells, or why it spells none
unfoldable pub call_at : Wire → ℕ → List ℕ → Result Call WireError
call_at w opnum stub = call_in w opnum (layout_of w.face opnum) stub

-- ReadsAllIfRoom, of the family of Reads, of a whole stub, which has no cursor: value and refusal are this, and
-- memory may run out anywhere.
abbrev pub ReadsAllIfRoom : {A : Type 0} → Result A WireError → Result A WireError → Type 0
ReadsAllIfRoom (Err Memory) right = Unit {0}
ReadsAllIfRoom result right = result ≡ right

-- ---- writing

abbrev pub nothing_written : Written
nothing_written = record { bytes = []; pointers = 0 }

abbrev pub spelled_in : Wire → Option Layout → Call → List ℕ
spelled_in w None call = []
spelled_in w (Some layout) call =
    ((stub_of w layout.fields).write (call.handle, call.args) nothing_written).bytes

-- the one spelling that is written: referents in order, zeros for padding
unfoldable pub spell : Wire → Call → List ℕ
spell w call = spelled_in w (layout_of w.face call.opnum) call

-- Some served stub spells the call.
abbrev pub IsSpelled : Wire → Call → Type 0
IsSpelled w call = (stub : List ℕ) × IsBytes stub × IsServed w call.opnum stub × Spells w call stub

-- The call is of the interface, and can be encoded.
abbrev pub IsCallOf : Wire → Call → Type 0
IsCallOf w call = (call.face ≡ w.face) × CanBeSpelled call

-- ---- the laws

-- A call is read from a stub exactly where the stub is served and spells it.
abbrev pub IsReadWhereSpelled : Wire → Type 0
IsReadWhereSpelled w =
    (opnum : ℕ) (stub : List ℕ) (call : Call)
    → (call_at w opnum stub ≡ Ok call) ↔ ((call.opnum ≡ opnum) × IsServed w opnum stub × Spells w call stub)

-- No stub is read as out of memory, which the code alone may be.
abbrev pub NoCallWantsMemory : Wire → Type 0
NoCallWantsMemory w = (opnum : ℕ) (stub : List ℕ) → call_at w opnum stub ≢ Err Memory

-- No stub spells two calls of one opnum.
abbrev pub HasOneCall : Wire → Type 0
HasOneCall w =
    (left right : Call) (stub : List ℕ) → left.opnum ≡ right.opnum → Spells w left stub → Spells w right stub
    → left ≡ right

-- The calls of the interface that can be encoded are exactly those that some served stub spells.
abbrev pub AreTheSpelledCalls : Wire → Type 0
AreTheSpelledCalls w = (call : Call) → IsCallOf w call ↔ IsSpelled w call

-- What is written for a call is bytes, and is read again as that call, whatever bytes follow.
abbrev pub IsReadAgain : Wire → Type 0
IsReadAgain w =
    (call : Call) (rest : List ℕ) → IsCallOf w call
    → IsBytes (spell w call) × (call_at w call.opnum (spell w call ++ rest) ≡ Ok call)

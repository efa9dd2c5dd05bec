-- A served stub is read exactly as the one call that it spells, and what a lawful interface writes is read again.
use Rattle.std.proofs.Common.{◌≡◌, ℕ, Bool, true, false, cond, List, [], ◌++◌, Option, Some, None, Result, Ok, Err}
use Rattle.std.proofs.Common.{refl, ◌⊎◌, inl, inr, sym, ap, subst, ◌∙◌}
use Rattle.std.specs.Prelude.{IfOk}
use Rattle.std.proofs.lemmas.List.{append-nil}
use Rattle.std.proofs.lemmas.List.Elements.{All-nil}
use Rattle.ndr_core.specs.Cursor.{Cursor, IsByte, IsBytes}
use Rattle.ndr_core.specs.Shapes.{u16}
use Rattle.ndr_core.specs.steps.Steps.{ok_is}
use Rattle.ndr_core.specs.declared.error.NdrError.{NdrError}
use Rattle.ndr_core.specs.declared.error.NdrError.TheVariants as ndr
use Rattle.acct_calls.specs.declared.calls.Args.{Args}
use Rattle.acct_calls.specs.declared.calls.Call.{Call}
use Rattle.acct_calls.specs.declared.calls.Face.{Face}
use Rattle.acct_calls.specs.declared.handle.Handle.{Handle}
use Rattle.acct_layouts.specs.Table.{layout_of}
use Rattle.acct_layouts.specs.declared.fields.Fields.{Fields}
use Rattle.acct_layouts.specs.declared.fields.Fields.TheVariants as fields
use Rattle.acct_layouts.specs.declared.table.Layout.{Layout}
use Rattle.ndr_types.specs.Values.{handle}
use Rattle.acct_stubs.proofs.CallValues.{FieldsFit, call_fits, call_kind, class_of}
use Rattle.acct_stubs.proofs.Complete.{stub_complete}
use Rattle.acct_stubs.specs.Arguments.{arguments, Wire}
use Rattle.acct_stubs.specs.Calls.{ReadsAllIfRoom, AreTheSpelledCalls, HasOneCall, IsCallOf, IsReadAgain}
use Rattle.acct_stubs.specs.Calls.{IsReadWhereSpelled}
use Rattle.acct_stubs.specs.Calls.{IsServed, IsSpelled, Spells, call_at, call_in, call_of, call_read, carries_password}
use Rattle.acct_stubs.specs.Calls.{class_behind, is_withheld, nothing_written, spell, spelled_in, start, stub_of}
use Rattle.acct_stubs.specs.Calls.{withheld_class}
use Rattle.acct_stubs.specs.Infos.{class_set}
use Rattle.acct_stubs.specs.Lawful.{IsLawful}
use Rattle.acct_stubs.specs.declared.errors.WireError.{WireError}
use Rattle.acct_stubs.specs.declared.errors.WireError.TheVariants.{NotServed}

-- ---- what is read is spelled

read_ok : (face : Face) (opnum : ℕ) (r : Result ((Handle × Args) × Cursor) NdrError) (call : Call)
    → call_read face opnum r ≡ Ok call
    → (x : (Handle × Args) × Cursor) × (r ≡ Ok x) × (call_of face opnum x.0 ≡ call)
read_ok face opnum (Ok x) call e = (x, refl, cc)
read_ok face opnum (Err e) call h = absurd cc

abbrev not_served : ℕ → Result Call WireError
not_served opnum = Err (NotServed opnum)

abbrev some_layout : Layout → Option Layout
some_layout layout = Some layout

chosen : {A : Type 0} (b : Bool) (x y z : A) → cond b x y ≡ z → ((b ≡ true) × (x ≡ z)) ⊎ ((b ≡ false) × (y ≡ z))
chosen true x y z e = inl (refl, e)
chosen false x y z e = inr (refl, e)

abbrev IsFound : Wire → ℕ → List ℕ → Call → Type 0
IsFound w opnum stub call = (call.opnum ≡ opnum) × IsServed w opnum stub × Spells w call stub

found_in : (w : Wire) (opnum : ℕ) (o : Option Layout) (stub : List ℕ) (call : Call) → layout_of w.face opnum ≡ o
    → call_in w opnum o stub ≡ Ok call → IsFound w opnum stub call
found_in w opnum None stub call h e = absurd cc
found_in w opnum (Some layout) stub call h e =
    let shape = stub_of w layout.fields in
    let read = call_read w.face opnum (shape.read (start stub)) in
    elim (chosen (is_withheld layout.fields stub) (not_served opnum) read (Ok call) e) [
      | inl p ↦ absurd (let q : not_served opnum ≡ Ok call = p.1 in cc)
      | inr p ↦
          let f = read_ok w.face opnum (shape.read (start stub)) call p.1 in
          let s = shape.found (start stub) f.0.1 f.0.0 f.1 in
          subst (λ (k : Call). IsFound w opnum stub k) f.2 (refl, (layout, h, p.0), (refl, layout, h, f.0.1, s))
    ]

pub call_found : (w : Wire) (opnum : ℕ) (stub : List ℕ) (call : Call) → call_at w opnum stub ≡ Ok call
    → IsFound w opnum stub call
unfolding call_at
call_found w opnum stub call e = found_in w opnum (layout_of w.face opnum) stub call refl e

-- ---- what is served and spelled is read

same_layout : (w : Wire) (opnum : ℕ) (p q : Layout) → layout_of w.face opnum ≡ Some p
    → layout_of w.face opnum ≡ Some q → p ≡ q
same_layout w opnum p q l r = let e : some_layout p ≡ Some q = sym l ∙ r in cc

-- a call of this interface, as it is read
as_read : (w : Wire) (call : Call) → call.face ≡ w.face → call_of w.face call.opnum (call.handle, call.args) ≡ call
as_read w call face = ap (λ (f : Face). call_of f call.opnum (call.handle, call.args)) (sym face)

only_in : (w : Wire) (call : Call) (stub : List ℕ) → IsServed w call.opnum stub → Spells w call stub
    → call_in w call.opnum (layout_of w.face call.opnum) stub ≡ Ok call
only_in w call stub served h =
    let layout = h.1 in
    let shape = stub_of w layout.fields in
    let same = same_layout w call.opnum layout served.0 h.2 served.1 in
    let free : is_withheld layout.fields stub ≡ false =
    ap (λ (r : Layout). is_withheld r.fields stub) same ∙ served.2 in
    let read = shape.only (start stub) h.3 (call.handle, call.args) h.4 in
    let whole = call_read w.face call.opnum (shape.read (start stub)) in
    ap (λ (o : Option Layout). call_in w call.opnum o stub) h.2
    ∙ ap (λ (b : Bool). cond b (not_served call.opnum) whole) free
    ∙ ap (call_read w.face call.opnum) read ∙ ap (λ (k : Call). Ok k) (as_read w call h.0)

pub call_only : (w : Wire) (opnum : ℕ) (stub : List ℕ) (call : Call) → call.opnum ≡ opnum → IsServed w opnum stub
    → Spells w call stub → call_at w opnum stub ≡ Ok call
unfolding call_at
call_only w opnum stub call e served h =
    subst (λ (n : ℕ). call_in w n (layout_of w.face n) stub ≡ Ok call) e
    (only_in w call stub (subst (λ (n : ℕ). IsServed w n stub) (sym e) served) h)

pub read_where_spelled : (w : Wire) → IsReadWhereSpelled w
read_where_spelled w opnum stub call =
    (call_found w opnum stub call, λ h. call_only w opnum stub call h.0 h.1 h.2)

pub is_found : (w : Wire) (opnum : ℕ) (stub : List ℕ) (r : Result Call WireError)
    → ReadsAllIfRoom r (call_at w opnum stub) → IfOk r (λ call. IsFound w opnum stub call)
is_found w opnum stub (Ok call) h = call_found w opnum stub call (sym h)
is_found w opnum stub (Err e) h = tt

-- ---- no stub spells two calls

pub one_call : (w : Wire) → HasOneCall w
one_call w left right stub e p q =
    let same = same_layout w left.opnum p.1 q.1 p.2 (ap (layout_of w.face) e ∙ q.2) in
    let x = (stub_of w p.1.fields).only (start stub) p.3 (left.handle, left.args) p.4 in
    let y =
    ap (λ (r : Layout). (stub_of w r.fields).read (start stub)) same
    ∙ (stub_of w q.1.fields).only (start stub) q.3 (right.handle, right.args) q.4 in
    let both = ok_is ((left.handle, left.args), p.3) ((right.handle, right.args), q.3) (ndr.Count 0) (sym x ∙ y) in
    sym (as_read w left p.0)
    ∙ ap (λ (v : (Handle × Args) × Cursor). call_of w.face left.opnum v.0) both
    ∙ ap (λ (n : ℕ). call_of w.face n (right.handle, right.args)) e ∙ as_read w right q.0

-- ---- a stub that spells a call tells whether the call is served

class_there : (f : Fields) (h : Handle) (class : ℕ) (stub : List ℕ) (middle end : Cursor)
    → handle.Spells h (start stub) middle → u16.Spells class middle end
    → is_withheld f stub ≡ carries_password f class
unfolding class_behind
class_there f h class stub middle end p q =
    ap (withheld_class f) (class_behind.only (start stub) end (h, class) (middle, p, q))

nothing_withheld : (f : Fields) → ((class : ℕ) → carries_password f class ≡ false)
    → (r : Result ((Handle × ℕ) × Cursor) NdrError) → withheld_class f r ≡ false
nothing_withheld f none (Ok x) = none x.0.1
nothing_withheld f none (Err e) = refl

abbrev TellsClass : Fields → List ℕ → Args → Type 0
TellsClass f stub a = is_withheld f stub ≡ carries_password f (class_of a)

class_read : (w : Wire) (f : Fields) (h : Handle) (a : Args) (stub : List ℕ) (end : Cursor)
    → (stub_of w f).Spells (h, a) (start stub) end → TellsClass f stub a
unfolding stub_of arguments class_set
class_read w (fields.Connect c) h a stub end s =
    nothing_withheld (fields.Connect c) (λ class. refl) (class_behind.read (start stub))
class_read w (fields.Scalar p) h a stub end s =
    nothing_withheld (fields.Scalar p) (λ class. refl) (class_behind.read (start stub))
class_read w (fields.Search p) h a stub end s =
    nothing_withheld (fields.Search p) (λ class. refl) (class_behind.read (start stub))
class_read w (fields.Creation c) h a stub end s =
    nothing_withheld (fields.Creation c) (λ class. refl) (class_behind.read (start stub))
class_read w (fields.Policy p) h a stub end s =
    nothing_withheld (fields.Policy p) (λ class. refl) (class_behind.read (start stub))
class_read w (fields.Translation t) h a stub end s =
    nothing_withheld (fields.Translation t) (λ class. refl) (class_behind.read (start stub))
class_read w (fields.Security p) h a stub end s =
    nothing_withheld (fields.Security p) (λ class. refl) (class_behind.read (start stub))
class_read w (fields.Class k) h a stub end s =
    let there = class_there (fields.Class k) h s.2.0 stub s.0 end s.1 s.2.1 in
    subst (λ (b : Args). TellsClass (fields.Class k) stub b) s.2.2 there
class_read w (fields.Put k) h a stub end s =
    let there = class_there (fields.Put k) h s.2.0.0 stub s.0 s.2.1.0 s.1 s.2.1.1 in
    subst (λ (b : Args). TellsClass (fields.Put k) stub b) s.2.2 there

-- ---- writing and reading again

abbrev IsAgain : Wire → Call → List ℕ → List ℕ → Type 0
IsAgain w call bytes rest =
    IsBytes bytes × IsServed w call.opnum (bytes ++ rest) × Spells w call (bytes ++ rest)

again_in : (w : Wire) (call : Call) (o : Option Layout) (rest : List ℕ) → layout_of w.face call.opnum ≡ o
    → call.face ≡ w.face → FieldsFit w o call → IsAgain w call (spelled_in w o call) rest
again_in w call None rest h face fits = absurd fits
again_in w call (Some layout) rest h face fits =
    let shape = stub_of w layout.fields in
    let s = shape.spelled (call.handle, call.args) nothing_written rest fits.0 in
    let stub = (shape.write (call.handle, call.args) nothing_written).bytes ++ rest in
    let free = class_read w layout.fields call.handle call.args stub _ s ∙ fits.1 in
    (shape.bytes (call.handle, call.args) nothing_written (All-nil IsByte), (layout, h, free), (face, layout, h, _, s))

pub spelled_again : (w : Wire) → IsLawful w → (call : Call) (rest : List ℕ) → IsCallOf w call
    → IsAgain w call (spell w call) rest
unfolding spell
spelled_again w l call rest can =
    again_in w call (layout_of w.face call.opnum) rest refl can.0 (call_fits w l call can)

pub read_again : (w : Wire) → IsLawful w → IsReadAgain w
read_again w l call rest can =
    let h = spelled_again w l call rest can in
    (h.0, call_only w call.opnum (spell w call ++ rest) call refl h.1 h.2)

-- ---- the calls that can be written are those that some served stub spells

fields_in : (w : Wire) → IsLawful w → (call : Call) (stub : List ℕ) (o : Option Layout)
    → layout_of w.face call.opnum ≡ o → IsBytes stub → IsServed w call.opnum stub → Spells w call stub
    → FieldsFit w o call
fields_in w l call stub None h bytes served s = let e : some_layout s.1 ≡ None = sym s.2 ∙ h in absurd cc
fields_in w l call stub (Some layout) h bytes served s =
    let same = same_layout w call.opnum s.1 layout s.2 h in
    let also = same_layout w call.opnum served.0 layout served.1 h in
    let value : Handle × Args = (call.handle, call.args) in
    let spells = subst (λ (r : Layout). (stub_of w r.fields).Spells value (start stub) s.3) same s.4 in
    let free = subst (λ (r : Layout). is_withheld r.fields stub ≡ false) also served.2 in
    let read = class_read w layout.fields call.handle call.args stub s.3 spells in
    ((stub_complete w l layout.fields).fits value (start stub) s.3 bytes spells, sym read ∙ free)

pub can_be_spelled : (w : Wire) → IsLawful w → (call : Call) (stub : List ℕ) → IsBytes stub
    → IsServed w call.opnum stub → Spells w call stub → IsCallOf w call
can_be_spelled w l call stub bytes served s =
    let fits = fields_in w l call stub (layout_of w.face call.opnum) refl bytes served s in
    (s.0, call_kind w l call s.0 fits)

some_stub : (w : Wire) → IsLawful w → (call : Call) → IsCallOf w call → IsSpelled w call
some_stub w l call can =
    let h = spelled_again w l call [] can in
    let e = append-nil (spell w call) in
    let served = subst (λ (s : List ℕ). IsServed w call.opnum s) e h.1 in
    (spell w call, h.0, served, subst (λ (s : List ℕ). Spells w call s) e h.2)

pub the_spelled_calls : (w : Wire) → IsLawful w → AreTheSpelledCalls w
the_spelled_calls w l call = (some_stub w l call, λ h. can_be_spelled w l call h.0 h.1 h.2 h.3)

pub can_be_written : (w : Wire) → IsLawful w → (opnum : ℕ) (stub : List ℕ) (r : Result Call WireError) → IsBytes stub
    → ReadsAllIfRoom r (call_at w opnum stub) → IfOk r (λ call. IsCallOf w call)
can_be_written w l opnum stub (Ok call) bytes h =
    let f = call_found w opnum stub call (sym h) in
    can_be_spelled w l call stub bytes (subst (λ (n : ℕ). IsServed w n stub) (sym f.0) f.1) f.2
can_be_written w l opnum stub (Err e) bytes h = tt

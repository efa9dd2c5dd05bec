-- A stub is read exactly as the one reply that it spells, and what a lawful interface writes is read again.
use Rattle.std.proofs.Common.{◌≡◌, ℕ, Bool, true, false, List, [], ◌++◌, Option, Some, None, Result, Ok, Err, refl, sym}
use Rattle.std.proofs.Common.{ap, subst, ◌∙◌}
use Rattle.std.specs.Prelude.{IfOk, ◌||◌}
use Rattle.std.proofs.lemmas.List.{append-nil}
use Rattle.std.proofs.lemmas.List.Elements.{All-nil}
use Rattle.ndr_core.specs.Cursor.{Cursor, IsByte, IsBytes}
use Rattle.ndr_core.specs.declared.error.NdrError.{NdrError}
use Rattle.acct_calls.specs.declared.replies.Reply.{Reply}
use Rattle.acct_layouts.specs.ReplyShapes.{HasShape, RefersRightly}
use Rattle.acct_layouts.specs.Table.{layout_of}
use Rattle.acct_layouts.specs.declared.outputs.Outputs.{Outputs}
use Rattle.acct_layouts.specs.declared.table.Layout.{Layout}
use Rattle.acct_stubs.proofs.CompleteReplies.{reply_writable, shared_writable}
use Rattle.acct_stubs.proofs.ReplyValues.{OutputsFit, refers_rightly, reply_kind, shape_fits, shape_kind, shape_refers}
use Rattle.acct_stubs.proofs.Shared.{layouts_of_their_face}
use Rattle.acct_stubs.specs.Calls.{ReadsAllIfRoom, nothing_written, start}
use Rattle.acct_stubs.specs.Lawful.{IsLawful}
use Rattle.acct_stubs.specs.Outputs.{reply_stub}
use Rattle.acct_stubs.specs.Replies.{AreTheSpelledReplies, EachSpelledReplyHasShape, HasOneReply, IsReplyReadAgain}
use Rattle.acct_stubs.specs.Replies.{IsReplyReadWhereSpelled, IsSpelledReply, SpellsReply, reply_at, reply_in}
use Rattle.acct_stubs.specs.Replies.{reply_read, reply_spelled_in, spell_reply}
use Rattle.acct_stubs.specs.Shared.{own_outputs, shared_outputs}
use Rattle.acct_stubs.specs.Arguments.{Wire}
use Rattle.acct_stubs.specs.declared.errors.WireError.{WireError}

abbrev some_layout : Layout → Option Layout
some_layout layout = Some layout

same_layout : (w : Wire) (opnum : ℕ) (p q : Layout) → layout_of w.face opnum ≡ Some p
    → layout_of w.face opnum ≡ Some q → p ≡ q
same_layout w opnum p q l r = let e : some_layout p ≡ Some q = sym l ∙ r in cc

read_ok : (x : Result (Reply × Cursor) NdrError) (r : Reply) → reply_read x ≡ Ok r → (end : Cursor) × (x ≡ Ok (r, end))
read_ok (Ok x) r e = (x.1, let is : x.0 ≡ r = cc in ap (λ (k : Reply). Ok (k, x.1)) is)
read_ok (Err e) r h = absurd cc

found_in : (w : Wire) (opnum : ℕ) (o : Option Layout) (stub : List ℕ) (r : Reply) → layout_of w.face opnum ≡ o
    → reply_in w opnum o stub ≡ Ok r → SpellsReply w opnum r stub
found_in w opnum None stub r h e = absurd cc
found_in w opnum (Some layout) stub r h e =
    let f = read_ok ((reply_stub w layout.outputs).read (start stub)) r e in
    (layout, h, f.0, (reply_stub w layout.outputs).found (start stub) f.0 r f.1)

pub reply_found : (w : Wire) (opnum : ℕ) (stub : List ℕ) (r : Reply) → reply_at w opnum stub ≡ Ok r
    → SpellsReply w opnum r stub
unfolding reply_at
reply_found w opnum stub r e = found_in w opnum (layout_of w.face opnum) stub r refl e

pub reply_only : (w : Wire) (opnum : ℕ) (stub : List ℕ) (r : Reply) → SpellsReply w opnum r stub
    → reply_at w opnum stub ≡ Ok r
unfolding reply_at
reply_only w opnum stub r h =
    ap (λ (o : Option Layout). reply_in w opnum o stub) h.1
    ∙ ap reply_read ((reply_stub w h.0.outputs).only (start stub) h.2 r h.3)

pub read_where_spelled : (w : Wire) → IsReplyReadWhereSpelled w
read_where_spelled w opnum stub r = (reply_found w opnum stub r, reply_only w opnum stub r)

pub is_found : (w : Wire) (opnum : ℕ) (stub : List ℕ) (x : Result Reply WireError)
    → ReadsAllIfRoom x (reply_at w opnum stub) → IfOk x (λ r. SpellsReply w opnum r stub)
is_found w opnum stub (Ok r) h = reply_found w opnum stub r (sym h)
is_found w opnum stub (Err e) h = tt

abbrev ok_reply : Reply → Result Reply WireError
ok_reply r = Ok r

pub one_reply : (w : Wire) → HasOneReply w
one_reply w opnum left right stub p q =
    let e : ok_reply left ≡ Ok right = sym (reply_only w opnum stub left p) ∙ reply_only w opnum stub right q in cc

again_in : (w : Wire) (opnum : ℕ) (o : Option Layout) (r : Reply) (rest : List ℕ) → layout_of w.face opnum ≡ o
    → OutputsFit w o r
    → IsBytes (reply_spelled_in w o r) × SpellsReply w opnum r (reply_spelled_in w o r ++ rest)
again_in w opnum None r rest h fits = absurd fits
again_in w opnum (Some layout) r rest h fits =
    let shape = reply_stub w layout.outputs in
    (shape.bytes r nothing_written (All-nil IsByte), (layout, h, _, shape.spelled r nothing_written rest fits))

spelled_again : (w : Wire) → IsLawful w → (opnum : ℕ) (r : Reply) (rest : List ℕ) → HasShape w.face opnum r
    → IsBytes (spell_reply w opnum r) × SpellsReply w opnum r (spell_reply w opnum r ++ rest)
unfolding spell_reply
spelled_again w l opnum r rest has =
    again_in w opnum (layout_of w.face opnum) r rest refl (shape_fits w l opnum r has)

pub read_again : (w : Wire) → IsLawful w → IsReplyReadAgain w
read_again w l opnum r rest has =
    let h = spelled_again w l opnum r rest has in (h.0, reply_only w opnum (spell_reply w opnum r ++ rest) r h.1)

-- ---- the replies of a shape are those that some stub spells

outputs_in : (w : Wire) → IsLawful w → (opnum : ℕ) (stub : List ℕ) (r : Reply) (o : Option Layout)
    → layout_of w.face opnum ≡ o → IsBytes stub → SpellsReply w opnum r stub → RefersRightly r → OutputsFit w o r
outputs_in w l opnum stub r None h bytes s refers = let e : some_layout s.0 ≡ None = sym s.1 ∙ h in absurd cc
outputs_in w l opnum stub r (Some layout) h bytes s refers =
    let same = same_layout w opnum s.0 layout s.1 h in
    let spells = subst (λ (k : Layout). (reply_stub w k.outputs).Spells r (start stub) s.2) same s.3 in
    reply_writable w l layout.outputs r (start stub) s.2 bytes spells refers

pub has_shape : (w : Wire) → IsLawful w → (opnum : ℕ) (stub : List ℕ) (r : Reply) → IsBytes stub
    → SpellsReply w opnum r stub → RefersRightly r → HasShape w.face opnum r
has_shape w l opnum stub r bytes s refers =
    shape_kind w l opnum r (outputs_in w l opnum stub r (layout_of w.face opnum) refl bytes s refers)

some_stub : (w : Wire) → IsLawful w → (opnum : ℕ) (r : Reply) → HasShape w.face opnum r → IsSpelledReply w opnum r
some_stub w l opnum r has =
    let h = spelled_again w l opnum r [] has in
    let e = append-nil (spell_reply w opnum r) in
    (spell_reply w opnum r, h.0, subst (λ (s : List ℕ). SpellsReply w opnum r s) e h.1)

pub the_spelled_replies : (w : Wire) → IsLawful w → AreTheSpelledReplies w
the_spelled_replies w l opnum r = (
  λ has. (some_stub w l opnum r has, shape_refers w.face opnum r has),
  λ h. has_shape w l opnum h.0.0 r h.0.1 h.0.2 h.1,
)

pub can_be_written : (w : Wire) → IsLawful w → (opnum : ℕ) (stub : List ℕ) (x : Result Reply WireError)
    → IsBytes stub → ReadsAllIfRoom x (reply_at w opnum stub) → IfOk x (λ r. RefersRightly r → HasShape w.face opnum r)
can_be_written w l opnum stub (Ok r) bytes h =
    λ refers. has_shape w l opnum stub r bytes (reply_found w opnum stub r (sym h)) refers
can_be_written w l opnum stub (Err e) bytes h = tt

-- ---- an interface without outputs of its own

of_both : (a b : Bool) → b ≡ false → (a || b) ≡ true → a ≡ true
of_both true b e h = refl
of_both false b e h = absurd (let k : false ≡ true = sym e ∙ h in cc)

-- Each reply that some stub spells refers rightly, where the interface has the outputs of both alone.
pub shared_refers : (w : Wire) → IsLawful w → ((o : Outputs) → own_outputs w.face o ≡ false) → (opnum : ℕ)
    → (stub : List ℕ) (r : Reply) → IsBytes stub → SpellsReply w opnum r stub → RefersRightly r
shared_refers w l none opnum stub r bytes s =
    let o = s.0.outputs in
    let shared =
    of_both (shared_outputs o) (own_outputs w.face o) (none o) (layouts_of_their_face w.face opnum s.0 s.1).1 in
    let fits = (shared_writable w o shared).fits r (start stub) s.2 bytes s.3 in
    refers_rightly o r (reply_kind w l o r fits)

pub the_shared_replies : (w : Wire) → IsLawful w → ((o : Outputs) → own_outputs w.face o ≡ false)
    → EachSpelledReplyHasShape w
the_shared_replies w l none opnum r = (
  some_stub w l opnum r,
  λ h. has_shape w l opnum h.0 r h.1 h.2 (shared_refers w l none opnum h.0 r h.1 h.2),
)

pub shared_can_be_written : (w : Wire) → IsLawful w → ((o : Outputs) → own_outputs w.face o ≡ false) → (opnum : ℕ)
    → (stub : List ℕ) (x : Result Reply WireError) → IsBytes stub → ReadsAllIfRoom x (reply_at w opnum stub)
    → IfOk x (λ r. HasShape w.face opnum r)
shared_can_be_written w l none opnum stub (Ok r) bytes h =
    let found = reply_found w opnum stub r (sym h) in
    has_shape w l opnum stub r bytes found (shared_refers w l none opnum stub r bytes found)
shared_can_be_written w l none opnum stub (Err e) bytes h = tt

-- The replies of an operation's shape are those that its codec can write.
use Rattle.std.specs.Prelude.{◌||◌}
use Rattle.std.proofs.Common.{◌≡◌, ℕ, true, List, [], Option, Some, None, refl, sym, ap, subst, ◌∙◌, arith}
use Rattle.ndr_core.specs.Codec.{Codec}
use Rattle.ndr_core.specs.Parts.{Part, flat, list_of, pointer_to}
use Rattle.ndr_core.specs.Shapes.{u32}
use Rattle.dtyp_sid.specs.Sids.{IsSid}
use Rattle.acct_calls.specs.declared.calls.Face.{Face}
use Rattle.acct_calls.specs.declared.lists.RidName.{RidName}
use Rattle.acct_calls.specs.declared.replies.Outs.{Outs}
use Rattle.acct_calls.specs.declared.replies.Outs.TheVariants as outs
use Rattle.acct_calls.specs.declared.replies.Reply.{Reply}
use Rattle.acct_calls.specs.declared.replies.Reply.TheVariants as reply
use Rattle.acct_layouts.specs.Values.{IfThere, IsAccount, IsListed, IsLong, IsMember, display_arm}
use Rattle.acct_layouts.specs.ReplyShapes.{AreLists, AreOutputs, ArePlain, AreShown, HasOutputs, HasShape, IsReplyOf}
use Rattle.acct_layouts.specs.ReplyShapes.{AreSecurity, RefersRightly, domains_of}
use Rattle.acct_layouts.specs.Table.{layout_of}
use Rattle.acct_layouts.specs.declared.classes.Subject.{Subject}
use Rattle.acct_layouts.specs.declared.outputs.Listed.{Listed}
use Rattle.acct_layouts.specs.declared.outputs.Listed.TheVariants as listed
use Rattle.acct_layouts.specs.declared.outputs.Outputs.{Outputs}
use Rattle.acct_layouts.specs.declared.outputs.Outputs.TheVariants as outputs
use Rattle.acct_layouts.specs.declared.outputs.ScalarOutputs.{ScalarOutputs}
use Rattle.acct_layouts.specs.declared.outputs.ScalarOutputs.TheVariants as scalar
use Rattle.acct_layouts.specs.declared.table.Layout.{Layout}
use Rattle.ndr_types.proofs.Digits.{handle_values}
use Rattle.ndr_types.proofs.Parts.{Has, whole_fits, whole_kind}
use Rattle.ndr_types.proofs.Records.{pointer_has, rid_bits_has}
use Rattle.ndr_types.proofs.ShapeValues.{list_complete, list_values, rid_names_values}
use Rattle.ndr_types.proofs.Sids.{long_has, sid_complete, sid_fits, sid_kind, sid_pointer_has}
use Rattle.ndr_types.proofs.Texts.{text_has}
use Rattle.ndr_types.specs.Listed.{any, rid_bits}
use Rattle.ndr_types.specs.Laws.{IsListOf}
use Rattle.ndr_types.specs.Values.{sid, sid_pointer, text}
use Rattle.acct_stubs.proofs.CompleteReplies.{count_fits, revision_fits}
use Rattle.acct_stubs.proofs.DisplayValues.{rows_fit, rows_kind}
use Rattle.acct_stubs.proofs.InfoValues.{class_fits, class_kind}
use Rattle.acct_stubs.specs.Infos.{displayed, members}
use Rattle.acct_stubs.proofs.MemberLists.{members_values}
use Rattle.acct_stubs.proofs.SecurityValues.{outs_fit, outs_kind, outs_refer}
use Rattle.acct_stubs.proofs.Shared.{layouts_of_their_face}
use Rattle.acct_stubs.specs.Lawful.{IsLawful}
use Rattle.acct_stubs.specs.Outputs.{listed_outs, plain_outs, reply_stub, shown_outs, with_status}
use Rattle.acct_stubs.specs.Shared.{own_outputs, shared_outputs}
use Rattle.acct_stubs.specs.Arguments.{Wire}

-- ---- handles, numbers and SIDs

to_sid : Has (pointer_to sid) (IfThere IsSid)
to_sid = pointer_has sid sid_fits sid_kind sid_complete

plain_kind : (p : ScalarOutputs) (o : Outs) → (plain_outs p).Fits o → ArePlain p o
unfolding plain_outs
plain_kind scalar.Nothing outs.Nothing f = tt
plain_kind scalar.Nothing _ f = absurd (cc f)
plain_kind scalar.Handle (outs.Handle h) f = (handle_values h).0 f.0
plain_kind scalar.HandleBack (outs.Handle h) f = (handle_values h).0 f.0
plain_kind scalar.Connected (outs.Handle h) f = (handle_values h).0 f.0.1.0
plain_kind scalar.Connected _ f = absurd (cc f.0.1.1)
plain_kind scalar.Created (outs.Created h granted rid) f =
    ((handle_values h).0 f.0.0, (let e : 0 ≡ granted = cc f.1 in sym e), f.0.1)
plain_kind scalar.Granted (outs.Created h granted rid) f = ((handle_values h).0 f.0.0, f.0.1.0, f.0.1.1)
plain_kind scalar.Sid (outs.OneSid s) f = whole_kind (pointer_to sid) to_sid s f.0
plain_kind _ _ f = absurd (cc f.1)

plain_fits : (p : ScalarOutputs) (o : Outs) → ArePlain p o → (plain_outs p).Fits o
unfolding plain_outs
plain_fits scalar.Nothing outs.Nothing is = refl
plain_fits scalar.Handle (outs.Handle h) is = ((handle_values h).1 is, refl)
plain_fits scalar.HandleBack (outs.Handle h) is = ((handle_values h).1 is, refl)
plain_fits scalar.Connected (outs.Handle h) is = ((revision_fits, ((handle_values h).1 is, refl)), refl)
plain_fits scalar.Created (outs.Created h granted rid) is =
    (((handle_values h).1 is.0, is.2), ap (λ (n : ℕ). outs.Created h n rid) (sym is.1))
plain_fits scalar.Granted (outs.Created h granted rid) is = (((handle_values h).1 is.0, (is.1, is.2)), refl)
plain_fits scalar.Sid (outs.OneSid s) is = (whole_fits (pointer_to sid) to_sid s is, refl)
plain_fits _ _ is = absurd is

-- ---- lists

-- a list of any length that its count can say
listed_kind : {S A : Type 0} {P : A → Type 0} (p : Part S A) → Has p P → (xs : List A) → (list_of any p).Fits xs
    → IsListed P xs
listed_kind p q xs f = let k = (list_values any p q xs).0 f in (k.1, k.2)

listed_fits : {S A : Type 0} {P : A → Type 0} (p : Part S A) → Has p P → (xs : List A) → IsListed P xs
    → (list_of any p).Fits xs
listed_fits p q xs is = (list_values any p q xs).1 (omega (arith, is.0), is.0, is.1)

entries_kind : (entries : Option (List RidName)) → IfThere (IsListOf any IsAccount) entries
    → IfThere (IsListed IsAccount) entries
entries_kind None is = tt
entries_kind (Some xs) is = (is.1, is.2)

entries_fit : (entries : Option (List RidName)) → IfThere (IsListed IsAccount) entries
    → IfThere (IsListOf any IsAccount) entries
entries_fit None is = tt
entries_fit (Some xs) is = (omega (arith, is.0), is.0, is.1)

to_groups : Has (pointer_to (list_of any rid_bits)) (IfThere (IsListed IsMember))
to_groups =
    pointer_has (list_of any rid_bits) (listed_fits rid_bits rid_bits_has) (listed_kind rid_bits rid_bits_has)
    (list_complete any rid_bits rid_bits_has)

lists_kind : (l : Listed) (o : Outs) → (listed_outs l).Fits o → AreLists l o
unfolding listed_outs displayed
lists_kind listed.Page (outs.Page context entries) f =
    (f.0.0, entries_kind entries ((rid_names_values entries).0 f.0.1.0))
lists_kind listed.Rids (outs.RidList rids) f = listed_kind (flat u32) long_has rids f.0
lists_kind listed.RidUses (outs.RidUses rids uses) f =
    (listed_kind (flat u32) long_has rids f.0.0, listed_kind (flat u32) long_has uses f.0.1)
lists_kind listed.NameUses (outs.NameUses names uses) f =
    (listed_kind text text_has names f.0.0, listed_kind (flat u32) long_has uses f.0.1)
lists_kind listed.Groups (outs.Pairs groups) f = whole_kind (pointer_to (list_of any rid_bits)) to_groups groups f.0
lists_kind listed.Members (outs.Pairs members) f = (members_values members).0 f.0
lists_kind listed.Sids (outs.SidList sids) f = listed_kind sid_pointer sid_pointer_has sids f.0
lists_kind listed.Display (outs.Display class total returned rows) f =
    (f.0.1.1.0, f.0.0, f.0.1.0, rows_kind (display_arm class) rows f.0.1.1.1.0.1)
lists_kind _ _ f = absurd (cc f.1)

lists_fit : (l : Listed) (o : Outs) → AreLists l o → (listed_outs l).Fits o
unfolding listed_outs displayed
lists_fit listed.Page (outs.Page context entries) is =
    let f = (rid_names_values entries).1 (entries_fit entries is.1) in
    ((is.0, (f, count_fits entries f)), refl)
lists_fit listed.Rids (outs.RidList rids) is = (listed_fits (flat u32) long_has rids is, refl)
lists_fit listed.RidUses (outs.RidUses rids uses) is =
    ((listed_fits (flat u32) long_has rids is.0, listed_fits (flat u32) long_has uses is.1), refl)
lists_fit listed.NameUses (outs.NameUses names uses) is =
    ((listed_fits text text_has names is.0, listed_fits (flat u32) long_has uses is.1), refl)
lists_fit listed.Groups (outs.Pairs groups) is =
    (whole_fits (pointer_to (list_of any rid_bits)) to_groups groups is, refl)
lists_fit listed.Members (outs.Pairs members) is = ((members_values members).1 is, refl)
lists_fit listed.Sids (outs.SidList sids) is = (listed_fits sid_pointer sid_pointer_has sids is, refl)
lists_fit listed.Display (outs.Display class total returned rows) is =
    ((is.1, (is.2, (is.0, ((tt, rows_fit (display_arm class) rows is.3), refl)))), refl)
lists_fit _ _ is = absurd is

-- a status, and outputs of a kind
abbrev pub HasStatusAnd : (Outs → Type 0) → Reply → Type 0
HasStatusAnd P (reply.Done status x) = IsLong status × P x
HasStatusAnd P (reply.Fault status) = ⊥

-- ---- classes

shown_kind : (s : Subject) (o : Outs) → (shown_outs s).Fits o → AreShown s o
unfolding shown_outs
shown_kind s (outs.Shown class value) f = class_kind s class value f.0
shown_kind s _ f = absurd (cc f.1)

shown_fits : (s : Subject) (o : Outs) → AreShown s o → (shown_outs s).Fits o
unfolding shown_outs
shown_fits s (outs.Shown class value) is = (class_fits s class value is, refl)
shown_fits s _ is = absurd is

-- ---- only translations refer to domains

plain_refers : (p : ScalarOutputs) (o : Outs) → ArePlain p o → domains_of o ≡ []
plain_refers scalar.Nothing (outs.Sids domains entries mapped) is = absurd is
plain_refers _ (outs.Sids domains entries mapped) is = absurd is
plain_refers scalar.Nothing (outs.Names domains entries mapped) is = absurd is
plain_refers _ (outs.Names domains entries mapped) is = absurd is
plain_refers scalar.Nothing (outs.SidRefs domains entries mapped) is = absurd is
plain_refers _ (outs.SidRefs domains entries mapped) is = absurd is
plain_refers _ _ is = refl

lists_refer : (l : Listed) (o : Outs) → AreLists l o → domains_of o ≡ []
lists_refer listed.Page (outs.Sids domains entries mapped) is = absurd is
lists_refer _ (outs.Sids domains entries mapped) is = absurd is
lists_refer listed.Page (outs.Names domains entries mapped) is = absurd is
lists_refer _ (outs.Names domains entries mapped) is = absurd is
lists_refer listed.Page (outs.SidRefs domains entries mapped) is = absurd is
lists_refer _ (outs.SidRefs domains entries mapped) is = absurd is
lists_refer _ _ is = refl

shown_refers : (s : Subject) (o : Outs) → AreShown s o → domains_of o ≡ []
shown_refers s (outs.Sids domains entries mapped) is = absurd is
shown_refers s (outs.Names domains entries mapped) is = absurd is
shown_refers s (outs.SidRefs domains entries mapped) is = absurd is
shown_refers s _ is = refl

-- ---- whole replies

status_kind : (o : Codec Outs) {P : Outs → Type 0} → ((x : Outs) → o.Fits x → P x) → (r : Reply)
    → (with_status o).Fits r → HasStatusAnd P r
unfolding with_status
status_kind o kind (reply.Done status x) f = (f.0.1, kind x f.0.0)
status_kind o kind (reply.Fault status) f = absurd (cc f.1)

status_fits : (o : Codec Outs) {P : Outs → Type 0} → ((x : Outs) → P x → o.Fits x) → (r : Reply)
    → HasStatusAnd P r → (with_status o).Fits r
unfolding with_status
status_fits o fits (reply.Done status x) is = ((fits x is.1, is.0), refl)
status_fits o fits (reply.Fault status) is = absurd is

-- no refusal refers to a domain where no reply does
is_reply : (o : Outputs) → ((x : Outs) → AreOutputs o x → domains_of x ≡ []) → (r : Reply)
    → HasStatusAnd (AreOutputs o) r → IsReplyOf o r
is_reply o none (reply.Done status x) h = (h.0, h.1, λ refused. none x h.1)
is_reply o none (reply.Fault status) h = h

has_status : (o : Outputs) (r : Reply) → IsReplyOf o r → HasStatusAnd (AreOutputs o) r
has_status o (reply.Done status x) h = (h.0, h.1)
has_status o (reply.Fault status) h = h

pub refers_rightly : (o : Outputs) (r : Reply) → IsReplyOf o r → RefersRightly r
refers_rightly o (reply.Done status x) h = h.2
refers_rightly o (reply.Fault status) h = tt

pub reply_kind : (w : Wire) → IsLawful w → (o : Outputs) (r : Reply) → (reply_stub w o).Fits r → IsReplyOf o r
unfolding reply_stub
reply_kind w l (outputs.Scalar p) r f =
    is_reply (outputs.Scalar p) (plain_refers p) r (status_kind _ {P = ArePlain p} (plain_kind p) r f)
reply_kind w l (outputs.Listed k) r f =
    is_reply (outputs.Listed k) (lists_refer k) r (status_kind _ {P = AreLists k} (lists_kind k) r f)
reply_kind w l (outputs.Shown s) r f =
    is_reply (outputs.Shown s) (shown_refers s) r (status_kind _ {P = AreShown s} (shown_kind s) r f)
reply_kind w l (outputs.Policy p) r f = l.reply_kind (outputs.Policy p) r f
reply_kind w l (outputs.Translation t) r f = l.reply_kind (outputs.Translation t) r f
reply_kind w l outputs.Security r f =
    is_reply outputs.Security outs_refer r (status_kind _ {P = AreSecurity} outs_kind r f)

abbrev AreOutputsOf : Wire → Outputs → Type 0
AreOutputsOf w o = shared_outputs o || own_outputs w.face o ≡ true

reply_fits : (w : Wire) → IsLawful w → (o : Outputs) (r : Reply) → AreOutputsOf w o → IsReplyOf o r
    → (reply_stub w o).Fits r
unfolding reply_stub
reply_fits w l (outputs.Scalar p) r own is =
    status_fits _ {P = ArePlain p} (plain_fits p) r (has_status (outputs.Scalar p) r is)
reply_fits w l (outputs.Listed k) r own is =
    status_fits _ {P = AreLists k} (lists_fit k) r (has_status (outputs.Listed k) r is)
reply_fits w l (outputs.Shown s) r own is =
    status_fits _ {P = AreShown s} (shown_fits s) r (has_status (outputs.Shown s) r is)
reply_fits w l (outputs.Policy p) r own is = l.reply_fits (outputs.Policy p) r own is
reply_fits w l (outputs.Translation t) r own is = l.reply_fits (outputs.Translation t) r own is
reply_fits w l outputs.Security r own is =
    status_fits _ {P = AreSecurity} outs_fit r (has_status outputs.Security r is)

-- what the layout's codec can write
abbrev pub OutputsFit : Wire → Option Layout → Reply → Type 0
OutputsFit w None r = ⊥
OutputsFit w (Some layout) r = (reply_stub w layout.outputs).Fits r

outputs_kind : (w : Wire) → IsLawful w → (layout : Option Layout) (r : Reply) → OutputsFit w layout r
    → HasOutputs layout r
outputs_kind w l None r f = absurd f
outputs_kind w l (Some layout) r f = reply_kind w l layout.outputs r f

outputs_fit : (w : Wire) → IsLawful w → (opnum : ℕ) (layout : Option Layout) (r : Reply)
    → layout_of w.face opnum ≡ layout → HasOutputs layout r → OutputsFit w layout r
outputs_fit w l opnum None r e is = absurd is
outputs_fit w l opnum (Some layout) r e is =
    reply_fits w l layout.outputs r (layouts_of_their_face w.face opnum layout e).1 is

refers_in : (layout : Option Layout) (r : Reply) → HasOutputs layout r → RefersRightly r
refers_in None r is = absurd is
refers_in (Some layout) r is = refers_rightly layout.outputs r is

pub shape_refers : (face : Face) (opnum : ℕ) (r : Reply) → HasShape face opnum r → RefersRightly r
unfolding HasShape
shape_refers face opnum r is = refers_in (layout_of face opnum) r is

pub shape_kind : (w : Wire) → IsLawful w → (opnum : ℕ) (r : Reply) → OutputsFit w (layout_of w.face opnum) r
    → HasShape w.face opnum r
unfolding HasShape
shape_kind w l opnum r f = outputs_kind w l (layout_of w.face opnum) r f

pub shape_fits : (w : Wire) → IsLawful w → (opnum : ℕ) (r : Reply) → HasShape w.face opnum r
    → OutputsFit w (layout_of w.face opnum) r
unfolding HasShape
shape_fits w l opnum r is = outputs_fit w l opnum (layout_of w.face opnum) r refl is

-- ---- what a writer knows of the layout that it looked up

there : (w : Wire) (o : Option Layout) (r : Reply) → OutputsFit w o r → (layout : Layout) × (o ≡ Some layout)
there w None r f = absurd f
there w (Some layout) r f = (layout, refl)

pub has_layout : (w : Wire) → IsLawful w → (opnum : ℕ) (r : Reply) → HasShape w.face opnum r
    → (face : Face) (found : Option Layout) → face ≡ w.face → found ≡ layout_of face opnum
    → (layout : Layout) × (found ≡ Some layout)
has_layout w l opnum r has face found same is =
    let t = there w (layout_of w.face opnum) r (shape_fits w l opnum r has) in
    (t.0, is ∙ ap (λ (k : Face). layout_of k opnum) same ∙ t.1)

pub layout_can_write : (w : Wire) → IsLawful w → (opnum : ℕ) (r : Reply) → HasShape w.face opnum r
    → (face : Face) (layout : Layout) → face ≡ w.face → layout_of face opnum ≡ Some layout
    → (reply_stub w layout.outputs).Fits r
layout_can_write w l opnum r has face layout same is =
    let e = ap (λ (k : Face). layout_of k opnum) (sym same) ∙ is in
    subst (λ (o : Option Layout). OutputsFit w o r) e (shape_fits w l opnum r has)

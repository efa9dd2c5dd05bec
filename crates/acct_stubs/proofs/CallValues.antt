-- The calls that can be encoded are those that the codecs of their operations can write, and whose class carries no
-- password.
use Rattle.std.proofs.Common.{◌≡◌, ℕ, ◌^◌, ◌<◌, ◌≤◌, true, false, ◌||◌, All, List, length, Option, Some, None, refl}
use Rattle.std.proofs.Common.{sym, ap, subst, ◌∙◌, arith, lit<}
use Rattle.std.specs.Prelude.{nat_le}
use Rattle.std.proofs.lemmas.Bool.{le-leb, eq-eqb}
use Rattle.ndr_core.specs.Parts.{Part, PartFits, flat}
use Rattle.ndr_core.specs.Shapes.{u32}
use Rattle.acct_codes.specs.Limits.{most_searched, most_member_sids}
use Rattle.acct_calls.specs.declared.calls.Args.{Args}
use Rattle.acct_calls.specs.declared.calls.Args.TheVariants as args
use Rattle.acct_calls.specs.declared.calls.Call.{Call}
use Rattle.acct_calls.specs.declared.calls.Face.{Face}
use Rattle.acct_calls.specs.declared.handle.Handle.{Handle}
use Rattle.acct_layouts.specs.CallShapes.{AreArguments, ArePlainArgs, AreSearchArgs, CanBeSpelled, HasArguments}
use Rattle.acct_layouts.specs.CallShapes.{IsHandleOf}
use Rattle.acct_layouts.specs.Values.{set_arm}
use Rattle.acct_layouts.specs.Table.{layout_of}
use Rattle.acct_layouts.specs.declared.fields.Fields.{Fields}
use Rattle.acct_layouts.specs.declared.fields.Fields.TheVariants as fields
use Rattle.acct_layouts.specs.declared.fields.ScalarFields.{ScalarFields}
use Rattle.acct_layouts.specs.declared.fields.ScalarFields.TheVariants as plain
use Rattle.acct_layouts.specs.declared.fields.Search.{Search}
use Rattle.acct_layouts.specs.declared.fields.Search.TheVariants as search
use Rattle.acct_layouts.specs.declared.table.Layout.{Layout}
use Rattle.ndr_types.proofs.Digits.{handle_values}
use Rattle.ndr_types.proofs.Parts.{Has, all_as, array_all, array_fits, whole_fits, whole_kind}
use Rattle.ndr_types.proofs.ShapeValues.{list_values}
use Rattle.ndr_types.proofs.Sids.{long_has, sid_fits, sid_kind, sid_pointer_has}
use Rattle.ndr_types.proofs.Texts.{text_has}
use Rattle.ndr_types.specs.Values.{handle_of, sid_pointer, text}
use Rattle.acct_stubs.proofs.Asked.{sought_count}
use Rattle.acct_stubs.proofs.InfoValues.{set_fits, set_kind}
use Rattle.acct_stubs.proofs.SecurityValues.{security_fits, security_kind}
use Rattle.acct_stubs.proofs.Shared.{layouts_of_their_face}
use Rattle.acct_stubs.specs.Arguments.{arguments, plain_args, searched, sought, Wire}
use Rattle.acct_stubs.specs.Calls.{IsCallOf, carries_password, stub_of}
use Rattle.acct_stubs.specs.Infos.{class_set}
use Rattle.acct_stubs.specs.Lawful.{IsLawful}
use Rattle.acct_stubs.specs.Shared.{are_own, are_shared}

-- ---- numbers, SIDs and texts

plain_kind : (p : ScalarFields) (a : Args) → (plain_args p).Fits a → ArePlainArgs p a
unfolding plain_args
plain_kind plain.Nothing args.Nothing f = tt
plain_kind plain.Nothing _ f = absurd (cc f)
plain_kind plain.Rid (args.Rid rid) f = f.0
plain_kind plain.Member (args.RidBits rid bits) f = (f.0.0, f.0.1)
plain_kind plain.Sid (args.OneSid s) f = sid_kind s f.0
plain_kind plain.Name (args.OneName (Some name)) f = whole_kind text text_has name f.0
plain_kind plain.OpenDomain (args.AccessSid access s) f = (f.0.0, sid_kind s f.0.1)
plain_kind plain.OpenAccount (args.AccessRid access rid) f = (f.0.0, f.0.1)
plain_kind _ _ f = absurd (cc f.1)

plain_fits : (p : ScalarFields) (a : Args) → ArePlainArgs p a → (plain_args p).Fits a
unfolding plain_args
plain_fits plain.Nothing args.Nothing is = refl
plain_fits plain.Rid (args.Rid rid) is = (is, refl)
plain_fits plain.Member (args.RidBits rid bits) is = ((is.0, is.1), refl)
plain_fits plain.Sid (args.OneSid s) is = (sid_fits s is, refl)
plain_fits plain.Name (args.OneName (Some name)) is = (whole_fits text text_has name is, refl)
plain_fits plain.OpenDomain (args.AccessSid access s) is = ((is.0, sid_fits s is.1), refl)
plain_fits plain.OpenAccount (args.AccessRid access rid) is = ((is.0, is.1), refl)
plain_fits _ _ is = absurd is

-- ---- lists

sought_kind : {S A : Type 0} {P : A → Type 0} (p : Part S A) → Has p P → (xs : List A) → (sought p).Fits xs
    → (length xs ≤ most_searched) × All P xs
unfolding sought
sought_kind {P = P} p q xs f =
    let a = f.0.1.0.1.0.1.0.1.0 in
    (sought_count p xs f, all_as {P = PartFits p} {Q = P} xs q.kind (array_all p (length xs) xs a.0 a.1).1)

sought_fits : {S A : Type 0} {P : A → Type 0} (p : Part S A) → Has p P → (xs : List A)
    → (length xs ≤ most_searched) × All P xs → (sought p).Fits xs
unfolding sought
sought_fits {P = P} p q xs is =
    let n = length xs in
    let small : n < 2 ^ 32 = omega (arith, is.0) in
    let few : nat_le n most_searched ≡ true = le-leb n most_searched is.0 in
    let a = array_fits p xs (all_as {P = P} {Q = PartFits p} xs q.fits is.1) in (
      (
        (small, few),
        (
          ((lit< tt, few), (((lit< tt, refl), (((small, eq-eqb n n refl), (a, refl)), refl)), refl)),
          refl,
        ),
      ),
      refl,
    )

search_kind : (s : Search) (a : Args) → (searched s).Fits a → AreSearchArgs s a
unfolding searched
search_kind search.Page (args.Page context filter preferred) f = (f.0.0, (let e : 0 ≡ filter = cc f.1 in sym e), f.0.1)
search_kind search.FilteredPage (args.Page context filter preferred) f = (f.0.0, f.0.1.0, f.0.1.1)
search_kind search.Sids (args.SidList sids) f =
    let k = (list_values most_member_sids sid_pointer sid_pointer_has sids).0 f.0 in (k.0, k.2)
search_kind search.Names (args.NameList names) f = sought_kind text text_has names f.0
search_kind search.Rids (args.RidList rids) f = sought_kind (flat u32) long_has rids f.0
search_kind search.Display (args.Display class index count preferred) f = (f.0.0, f.0.1.0, f.0.1.1.0, f.0.1.1.1)
search_kind _ _ f = absurd (cc f.1)

search_fits : (s : Search) (a : Args) → AreSearchArgs s a → (searched s).Fits a
unfolding searched
search_fits search.Page (args.Page context filter preferred) is =
    ((is.0, is.2), ap (λ (n : ℕ). args.Page context n preferred) (sym is.1))
search_fits search.FilteredPage (args.Page context filter preferred) is = ((is.0, (is.1, is.2)), refl)
search_fits search.Sids (args.SidList sids) is =
    ((list_values most_member_sids sid_pointer sid_pointer_has sids).1 (is.0, omega (arith, is.0), is.1), refl)
search_fits search.Names (args.NameList names) is = (sought_fits text text_has names is, refl)
search_fits search.Rids (args.RidList rids) is = (sought_fits (flat u32) long_has rids is, refl)
search_fits search.Display (args.Display class index count preferred) is = ((is.0, (is.1, (is.2, is.3))), refl)
search_fits _ _ is = absurd is

-- ---- what stands after the handle

-- the class that arguments bring
abbrev pub class_of : Args → ℕ
class_of (args.Class class) = class
class_of (args.Put class value) = class
class_of _ = 0

-- no class that carries a password
abbrev pub IsFree : Fields → Args → Type 0
IsFree f a = carries_password f (class_of a) ≡ false

-- Arguments that can be encoded bring no such class.
are_free : (f : Fields) (a : Args) → AreArguments f a → IsFree f a
are_free (fields.Connect c) a is = refl
are_free (fields.Scalar p) a is = refl
are_free (fields.Search s) a is = refl
are_free (fields.Creation c) a is = refl
are_free (fields.Policy p) a is = refl
are_free (fields.Translation t) a is = refl
are_free (fields.Security s) a is = refl
are_free (fields.Class s) (args.Class class) is = is.1
are_free (fields.Put s) (args.Put class value) is = is.0.1
are_free _ _ is = absurd is

arguments_kind : (w : Wire) → IsLawful w → (f : Fields) (a : Args) → (arguments w f).Fits a → IsFree f a
    → AreArguments f a
unfolding arguments class_set
arguments_kind w l (fields.Connect c) a fits free = l.kind (fields.Connect c) a fits
arguments_kind w l (fields.Scalar p) a fits free = plain_kind p a fits
arguments_kind w l (fields.Search s) a fits free = search_kind s a fits
arguments_kind w l (fields.Creation c) a fits free = l.kind (fields.Creation c) a fits
arguments_kind w l (fields.Class s) (args.Class class) fits free = (fits.0, free)
arguments_kind w l (fields.Put s) (args.Put class value) fits free =
    ((fits.0.0, free), set_kind class (set_arm s class) value fits.0.1)
arguments_kind w l (fields.Policy p) a fits free = l.kind (fields.Policy p) a fits
arguments_kind w l (fields.Translation t) a fits free = l.kind (fields.Translation t) a fits
arguments_kind w l (fields.Security s) a fits free = security_kind s a fits
arguments_kind w l _ _ fits free = absurd (cc fits.1)

abbrev IsFieldsOf : Wire → Fields → Type 0
IsFieldsOf w f = are_shared f || are_own w.face f ≡ true

arguments_fit : (w : Wire) → IsLawful w → (f : Fields) (a : Args) → IsFieldsOf w f → AreArguments f a
    → (arguments w f).Fits a
unfolding arguments class_set
arguments_fit w l (fields.Connect c) a own is = l.fits (fields.Connect c) a own is
arguments_fit w l (fields.Scalar p) a own is = plain_fits p a is
arguments_fit w l (fields.Search s) a own is = search_fits s a is
arguments_fit w l (fields.Creation c) a own is = l.fits (fields.Creation c) a own is
arguments_fit w l (fields.Class s) (args.Class class) own is = (is.0, refl)
arguments_fit w l (fields.Put s) (args.Put class value) own is =
    ((is.0.0, set_fits class (set_arm s class) value is.0.0 is.1), refl)
arguments_fit w l (fields.Policy p) a own is = l.fits (fields.Policy p) a own is
arguments_fit w l (fields.Translation t) a own is = l.fits (fields.Translation t) a own is
arguments_fit w l (fields.Security s) a own is = security_fits s a is
arguments_fit w l _ _ own is = absurd is

-- ---- whole calls

stub_kind : (w : Wire) → IsLawful w → (f : Fields) (h : Handle) (a : Args) → (stub_of w f).Fits (h, a) → IsFree f a
    → IsHandleOf f h × AreArguments f a
unfolding stub_of
stub_kind w l (fields.Connect c) h a fits free =
    (ap (λ (x : Handle × Args). x.0.number) (sym fits.1), arguments_kind w l (fields.Connect c) a fits.0 free)
stub_kind w l (fields.Scalar p) h a fits free =
    ((handle_values h).0 fits.0, arguments_kind w l (fields.Scalar p) a fits.1 free)
stub_kind w l (fields.Search s) h a fits free =
    ((handle_values h).0 fits.0, arguments_kind w l (fields.Search s) a fits.1 free)
stub_kind w l (fields.Creation c) h a fits free =
    ((handle_values h).0 fits.0, arguments_kind w l (fields.Creation c) a fits.1 free)
stub_kind w l (fields.Class s) h a fits free =
    ((handle_values h).0 fits.0, arguments_kind w l (fields.Class s) a fits.1 free)
stub_kind w l (fields.Put s) h a fits free =
    ((handle_values h).0 fits.0, arguments_kind w l (fields.Put s) a fits.1 free)
stub_kind w l (fields.Policy p) h a fits free =
    ((handle_values h).0 fits.0, arguments_kind w l (fields.Policy p) a fits.1 free)
stub_kind w l (fields.Translation t) h a fits free =
    ((handle_values h).0 fits.0, arguments_kind w l (fields.Translation t) a fits.1 free)
stub_kind w l (fields.Security s) h a fits free =
    ((handle_values h).0 fits.0, arguments_kind w l (fields.Security s) a fits.1 free)

stub_fits : (w : Wire) (f : Fields) (h : Handle) (a : Args) → IsHandleOf f h → (arguments w f).Fits a
    → (stub_of w f).Fits (h, a)
unfolding stub_of
stub_fits w (fields.Connect c) h a is fits = (fits, ap (λ (n : ℕ). (handle_of n, a)) (sym is))
stub_fits w (fields.Scalar p) h a is fits = ((handle_values h).1 is, fits)
stub_fits w (fields.Search s) h a is fits = ((handle_values h).1 is, fits)
stub_fits w (fields.Creation c) h a is fits = ((handle_values h).1 is, fits)
stub_fits w (fields.Class s) h a is fits = ((handle_values h).1 is, fits)
stub_fits w (fields.Put s) h a is fits = ((handle_values h).1 is, fits)
stub_fits w (fields.Policy p) h a is fits = ((handle_values h).1 is, fits)
stub_fits w (fields.Translation t) h a is fits = ((handle_values h).1 is, fits)
stub_fits w (fields.Security s) h a is fits = ((handle_values h).1 is, fits)

-- what the layout's codec can write
abbrev pub FieldsFit : Wire → Option Layout → Call → Type 0
FieldsFit w None call = ⊥
FieldsFit w (Some layout) call =
    (stub_of w layout.fields).Fits (call.handle, call.args) × IsFree layout.fields call.args

layout_kind : (w : Wire) → IsLawful w → (layout : Option Layout) (call : Call) → FieldsFit w layout call
    → HasArguments layout call
layout_kind w l None call f = absurd f
layout_kind w l (Some layout) call f = stub_kind w l layout.fields call.handle call.args f.0 f.1

layout_fits : (w : Wire) → IsLawful w → (opnum : ℕ) (layout : Option Layout) (call : Call)
    → layout_of w.face opnum ≡ layout → HasArguments layout call → FieldsFit w layout call
layout_fits w l opnum None call e is = absurd is
layout_fits w l opnum (Some layout) call e is =
    let own = (layouts_of_their_face w.face opnum layout e).0 in
    let a = arguments_fit w l layout.fields call.args own is.1 in
    (stub_fits w layout.fields call.handle call.args is.0 a, are_free layout.fields call.args is.1)

abbrev CallHas : Face → Call → Type 0
CallHas face call = HasArguments (layout_of face call.opnum) call

pub call_kind : (w : Wire) → IsLawful w → (call : Call) → call.face ≡ w.face
    → FieldsFit w (layout_of w.face call.opnum) call → CanBeSpelled call
unfolding CanBeSpelled
call_kind w l call face f =
    subst (λ (k : Face). CallHas k call) (sym face) (layout_kind w l (layout_of w.face call.opnum) call f)

pub call_fits : (w : Wire) → IsLawful w → (call : Call) → IsCallOf w call
    → FieldsFit w (layout_of w.face call.opnum) call
unfolding CanBeSpelled
call_fits w l call is =
    layout_fits w l call.opnum (layout_of w.face call.opnum) call refl
    (subst (λ (k : Face). CallHas k call) is.0 is.1)

-- ---- what a writer knows of the layout that it looked up

there : (w : Wire) (o : Option Layout) (call : Call) → FieldsFit w o call → (layout : Layout) × (o ≡ Some layout)
there w None call f = absurd f
there w (Some layout) call f = (layout, refl)

pub has_layout : (w : Wire) → IsLawful w → (call : Call) → IsCallOf w call → (face : Face) (found : Option Layout)
    → face ≡ w.face → found ≡ layout_of face call.opnum → (layout : Layout) × (found ≡ Some layout)
has_layout w l call can face found same is =
    let t = there w (layout_of w.face call.opnum) call (call_fits w l call can) in
    (t.0, is ∙ ap (λ (k : Face). layout_of k call.opnum) same ∙ t.1)

pub layout_can_write : (w : Wire) → IsLawful w → (call : Call) → IsCallOf w call → (face : Face) (layout : Layout)
    → face ≡ w.face → layout_of face call.opnum ≡ Some layout
    → (stub_of w layout.fields).Fits (call.handle, call.args)
layout_can_write w l call can face layout same is =
    let e = ap (λ (k : Face). layout_of k call.opnum) (sym same) ∙ is in
    (subst (λ (o : Option Layout). FieldsFit w o call) e (call_fits w l call can)).0

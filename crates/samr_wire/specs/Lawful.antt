-- The codecs of this interface's own layouts are lawful.
use Rattle.std.proofs.Common.{◌≡◌, ℕ, true, false, refl, sym, ap, ◌∙◌, lit<}
use Rattle.ndr_core.proofs.Complete.{IsComplete, chain_complete, followed_complete, ignored_complete, made_complete}
use Rattle.ndr_core.proofs.Complete.{u32_complete}
use Rattle.ndr_core.specs.Shapes.{made, u32}
use Rattle.acct_calls.specs.declared.calls.Args.{Args}
use Rattle.acct_calls.specs.declared.calls.Args.TheVariants as args
use Rattle.acct_calls.specs.declared.calls.Face.TheVariants.{Samr}
use Rattle.acct_calls.specs.declared.replies.Reply.{Reply}
use Rattle.acct_codes.specs.Accounts.{user_normal_account}
use Rattle.acct_layouts.specs.CallShapes.{AreArguments, AreConnectArgs, AreCreationArgs}
use Rattle.acct_layouts.specs.declared.fields.Connect.{Connect}
use Rattle.acct_layouts.specs.declared.fields.Connect.TheVariants as connect
use Rattle.acct_layouts.specs.declared.fields.Creation.{Creation}
use Rattle.acct_layouts.specs.declared.fields.Creation.TheVariants as creation
use Rattle.acct_layouts.specs.declared.fields.Fields.{Fields}
use Rattle.acct_layouts.specs.declared.fields.Fields.TheVariants as fields
use Rattle.acct_layouts.specs.declared.outputs.Outputs.{Outputs}
use Rattle.acct_layouts.specs.declared.outputs.Outputs.TheVariants as outputs
use Rattle.ndr_types.proofs.Onward.{Takes, long, such_long, takes_chain, takes_followed, takes_given, takes_ignored}
use Rattle.ndr_types.proofs.Onward.{takes_made, text_onward}
use Rattle.ndr_types.proofs.Parts.{whole_fits, whole_kind}
use Rattle.ndr_types.proofs.ShapeValues.{text_complete}
use Rattle.ndr_types.proofs.Texts.{text_has}
use Rattle.ndr_types.specs.Values.{text}
use Rattle.acct_stubs.proofs.Complete.{server_name_complete, server_name_fits, unspelled_complete}
use Rattle.acct_stubs.proofs.Onward.{server_name_onward, takes_unspelled}
use Rattle.acct_stubs.specs.Lawful.{IsLawful}
use Rattle.acct_stubs.specs.Outputs.{is_one}
use Rattle.acct_stubs.specs.Shared.{are_own, opens_server, own_outputs}
use Rattle.samr_wire.specs.Interface.{created, made_in, typed_in, connect_args, desired_access, revision_asked}
use Rattle.samr_wire.specs.Interface.{own_fields, samr}

-- ======== what some stub spells can be written

revision_fits : revision_asked.Fits tt
unfolding revision_asked
revision_fits = (((lit< tt, refl), (((lit< tt, refl), ((lit< tt, ((lit< tt, refl), refl)), refl)), refl)), refl)

revision_complete : IsComplete revision_asked
revision_complete = record { fits = λ u c d bytes h. revision_fits }

access_complete : IsComplete (made args.Access desired_access u32)
access_complete = made_complete args.Access desired_access u32_complete (λ x h. (h, refl))

connect_complete : (c : Connect) → IsComplete (connect_args c)
unfolding connect_args
connect_complete connect.Connect2 = ignored_complete tt server_name_complete access_complete server_name_fits
connect_complete connect.Connect4 =
    ignored_complete tt server_name_complete
    (ignored_complete 2 u32_complete access_complete (lit< tt)) server_name_fits
connect_complete connect.OpenPolicy2 = unspelled_complete
connect_complete connect.Connect5 =
    ignored_complete tt server_name_complete
    (followed_complete tt access_complete revision_complete revision_fits) server_name_fits

-- ---- new accounts

created_complete : (c : Creation) → IsComplete (created c)
unfolding created
created_complete creation.Account =
    made_complete (λ x. args.Make x.0 0 x.1) made_in (chain_complete text_complete (λ x h. u32_complete))
    (λ x h. (h, refl))
created_complete creation.User =
    made_complete (λ x. args.Make x.0 user_normal_account x.1) made_in
    (chain_complete text_complete (λ x h. u32_complete)) (λ x h. (h, refl))
created_complete creation.TypedUser =
    made_complete (λ x. args.Make x.0 x.1.0 x.1.1) typed_in
    (chain_complete text_complete (λ x h. chain_complete u32_complete (λ y k. u32_complete))) (λ x h. (h, refl))

-- ======== reading goes onward

revision_asked_onward : Takes 0 revision_asked
unfolding revision_asked
revision_asked_onward =
    takes_ignored 0 1 (such_long is_one)
    (takes_ignored 0 1 (such_long is_one) (takes_ignored 0 3 long (takes_ignored 0 0 long (takes_given tt))))

connect_onward : (c : Connect) → Takes 0 (connect_args c)
unfolding connect_args
connect_onward connect.Connect2 = takes_ignored 0 tt server_name_onward (takes_made 0 _ _ long)
connect_onward connect.Connect4 = takes_ignored 0 tt server_name_onward (takes_ignored 0 2 long (takes_made 0 _ _ long))
connect_onward connect.OpenPolicy2 = takes_unspelled
connect_onward connect.Connect5 =
    takes_ignored 0 tt server_name_onward
    (takes_followed tt (takes_made 0 _ _ long) revision_asked_onward)

-- ---- new accounts

created_onward : (c : Creation) → Takes 0 (created c)
unfolding created
created_onward creation.Account = takes_made 0 _ _ (takes_chain 0 text_onward (λ x. long))
created_onward creation.User = takes_made 0 _ _ (takes_chain 0 text_onward (λ x. long))
created_onward creation.TypedUser = takes_made 0 _ _ (takes_chain 0 text_onward (λ x. takes_chain 0 long (λ y. long)))

-- ======== what can be written is what the layout's arguments are

-- ---- openings

connect_kind : (c : Connect) (a : Args) → (connect_args c).Fits a → AreConnectArgs c a
unfolding connect_args
connect_kind connect.Connect2 (args.Access access) f = f.0.1.0
connect_kind connect.Connect2 _ f = absurd (cc f.0.1.1)
connect_kind connect.Connect4 (args.Access access) f = f.0.1.0.1.0
connect_kind connect.Connect4 _ f = absurd (cc f.0.1.0.1.1)
connect_kind connect.Connect5 (args.Access access) f = f.0.1.0.0.0
connect_kind connect.Connect5 _ f = absurd (cc f.0.1.0.0.1)
connect_kind connect.OpenPolicy2 _ f = absurd f

connect_fits : (c : Connect) (a : Args) → opens_server c ≡ true → AreConnectArgs c a → (connect_args c).Fits a
unfolding connect_args
connect_fits connect.Connect2 (args.Access access) own is = ((server_name_fits, (is, refl)), refl)
connect_fits connect.Connect4 (args.Access access) own is = ((server_name_fits, ((lit< tt, (is, refl)), refl)), refl)
connect_fits connect.Connect5 (args.Access access) own is =
    ((server_name_fits, (((is, refl), revision_fits), refl)), refl)
connect_fits connect.OpenPolicy2 _ own is = absurd cc
connect_fits _ _ own is = absurd is

-- ---- new accounts

creation_kind : (c : Creation) (a : Args) → (created c).Fits a → AreCreationArgs c a
unfolding created
creation_kind creation.Account (args.Make name bits access) f =
    (whole_kind text text_has name f.0.0, (let e : 0 ≡ bits = cc f.1 in sym e), f.0.1)
creation_kind creation.User (args.Make name bits access) f =
    (whole_kind text text_has name f.0.0, (let e : user_normal_account ≡ bits = cc f.1 in sym e), f.0.1)
creation_kind creation.TypedUser (args.Make name bits access) f =
    (whole_kind text text_has name f.0.0, f.0.1.0, f.0.1.1)
creation_kind _ _ f = absurd (cc f.1)

creation_fits : (c : Creation) (a : Args) → AreCreationArgs c a → (created c).Fits a
unfolding created
creation_fits creation.Account (args.Make name bits access) is =
    ((whole_fits text text_has name is.0, is.2), ap (λ (n : ℕ). args.Make name n access) (sym is.1))
creation_fits creation.User (args.Make name bits access) is =
    ((whole_fits text text_has name is.0, is.2), ap (λ (n : ℕ). args.Make name n access) (sym is.1))
creation_fits creation.TypedUser (args.Make name bits access) is =
    ((whole_fits text text_has name is.0, (is.1, is.2)), refl)
creation_fits _ _ is = absurd is

-- ======== the interface

own_complete : (f : Fields) → IsComplete (own_fields f)
unfolding own_fields
own_complete (fields.Connect c) = connect_complete c
own_complete (fields.Creation c) = created_complete c
own_complete (fields.Scalar p) = unspelled_complete
own_complete (fields.Search s) = unspelled_complete
own_complete (fields.Class s) = unspelled_complete
own_complete (fields.Put s) = unspelled_complete
own_complete (fields.Policy p) = unspelled_complete
own_complete (fields.Translation t) = unspelled_complete
own_complete (fields.Security s) = unspelled_complete

own_onward : (f : Fields) → Takes 0 (own_fields f)
unfolding own_fields
own_onward (fields.Connect c) = connect_onward c
own_onward (fields.Creation c) = created_onward c
own_onward (fields.Scalar p) = takes_unspelled
own_onward (fields.Search s) = takes_unspelled
own_onward (fields.Class s) = takes_unspelled
own_onward (fields.Put s) = takes_unspelled
own_onward (fields.Policy p) = takes_unspelled
own_onward (fields.Translation t) = takes_unspelled
own_onward (fields.Security s) = takes_unspelled

own_kind : (f : Fields) (a : Args) → (own_fields f).Fits a → AreArguments f a
unfolding own_fields
own_kind (fields.Connect c) a fits = connect_kind c a fits
own_kind (fields.Creation c) a fits = creation_kind c a fits
own_kind (fields.Scalar p) a fits = absurd fits
own_kind (fields.Search s) a fits = absurd fits
own_kind (fields.Class s) a fits = absurd fits
own_kind (fields.Put s) a fits = absurd fits
own_kind (fields.Policy p) a fits = absurd fits
own_kind (fields.Translation t) a fits = absurd fits
own_kind (fields.Security s) a fits = absurd fits

own_fit : (f : Fields) (a : Args) → are_own Samr f ≡ true → AreArguments f a → (own_fields f).Fits a
unfolding own_fields
own_fit (fields.Connect c) a own is = connect_fits c a own is
own_fit (fields.Creation c) a own is = creation_fits c a is
own_fit (fields.Scalar p) a own is = absurd cc
own_fit (fields.Search s) a own is = absurd cc
own_fit (fields.Class s) a own is = absurd cc
own_fit (fields.Put s) a own is = absurd cc
own_fit (fields.Policy p) a own is = absurd cc
own_fit (fields.Translation t) a own is = absurd cc
own_fit (fields.Security s) a own is = absurd cc

pub no_outputs : (o : Outputs) → own_outputs Samr o ≡ false
no_outputs (outputs.Scalar p) = refl
no_outputs (outputs.Listed l) = refl
no_outputs (outputs.Shown s) = refl
no_outputs (outputs.Policy p) = refl
no_outputs (outputs.Translation t) = refl
no_outputs outputs.Security = refl

own_reply : (o : Outputs) (r : Reply) → own_outputs Samr o ≡ true → ⊥
own_reply o r own = let e = sym (no_outputs o) ∙ own in absurd (let k : false ≡ true = e in cc)

pub samr_lawful : IsLawful samr
samr_lawful = record {
  writable = λ f. (own_complete f).fits;
  kind = own_kind;
  fits = own_fit;
  onward = λ f. (own_onward f).onward;
  writable_reply = λ o r start end bytes s refers. absurd s;
  reply_kind = λ o r fits. absurd fits;
  reply_fits = λ o r own is. absurd (own_reply o r own);
  reply_onward = λ o. (takes_unspelled {A = Reply}).onward;
}

-- The outputs of a refusal have the shape of their operation.
use Rattle.std.proofs.Common.{◌≡◌, ℕ, ◌^◌, ◌<◌, [], Option, Some, None, refl, sym, subst, lit<}
use Rattle.std.proofs.lemmas.List.Elements.{All-nil}
use Rattle.dtyp_sid.specs.Sids.{IsSid}
use Rattle.acct_calls.specs.declared.calls.Args.{Args}
use Rattle.acct_calls.specs.declared.calls.Args.TheVariants as args
use Rattle.acct_calls.specs.declared.handle.Handle.{Handle}
use Rattle.acct_calls.specs.declared.replies.Reply.TheVariants.{Done}
use Rattle.acct_layouts.specs.Values.{IsDomain, IsHandle, IsAccount, IsListed, IsLong, IsText, IsDisplayedGroup}
use Rattle.acct_layouts.specs.Values.{IsDisplayedUser, IsTranslatedName, IsTranslatedSid, IsSidRef, display_arm}
use Rattle.acct_layouts.specs.CallShapes.{AreArguments, AreConnectArgs, ArePlainArgs, ArePolicyArgs, AreSearchArgs}
use Rattle.acct_layouts.specs.CallShapes.{AreSecurityArgs, AreTranslationArgs, HasArguments, IsHandleOf, CanBeSpelled}
use Rattle.acct_layouts.specs.Laws.{RefusalsHaveShape}
use Rattle.acct_layouts.specs.Refusals.{context_of, display_class_of, refused_outs}
use Rattle.acct_layouts.specs.ReplyShapes.{AreDisplayed, AreOutputs, HasOutputs, HasShape, domains_of}
use Rattle.acct_layouts.specs.declared.classes.DisplayArm.{DisplayArm}
use Rattle.acct_layouts.specs.declared.classes.DisplayArm.TheVariants as display
use Rattle.acct_layouts.specs.declared.fields.Connect.{Connect}
use Rattle.acct_layouts.specs.declared.fields.Connect.TheVariants as connect
use Rattle.acct_layouts.specs.declared.fields.Fields.{Fields}
use Rattle.acct_layouts.specs.declared.fields.Fields.TheVariants as fields
use Rattle.acct_layouts.specs.declared.fields.ScalarFields.{ScalarFields}
use Rattle.acct_layouts.specs.declared.fields.ScalarFields.TheVariants as plain
use Rattle.acct_layouts.specs.declared.fields.PolicyFields.{PolicyFields}
use Rattle.acct_layouts.specs.declared.fields.PolicyFields.TheVariants as policies
use Rattle.acct_layouts.specs.declared.fields.Search.{Search}
use Rattle.acct_layouts.specs.declared.fields.Search.TheVariants as search
use Rattle.acct_layouts.specs.declared.fields.SecurityFields.{SecurityFields}
use Rattle.acct_layouts.specs.declared.fields.SecurityFields.TheVariants as security
use Rattle.acct_layouts.specs.declared.fields.Translation.{Translation}
use Rattle.acct_layouts.specs.declared.fields.Translation.TheVariants as translation
use Rattle.acct_layouts.specs.declared.outputs.Listed.TheVariants as listed
use Rattle.acct_layouts.specs.declared.outputs.Outputs.{Outputs}
use Rattle.acct_layouts.specs.declared.outputs.Outputs.TheVariants as outputs
use Rattle.acct_layouts.specs.declared.outputs.ScalarOutputs.TheVariants as scalar
use Rattle.acct_layouts.specs.declared.outputs.PolicyOutputs.TheVariants as policy
use Rattle.acct_layouts.specs.declared.table.Layout.{Layout}

no_elements : {A : Type 0} (P : A → Type 0) → IsListed P []
no_elements P = (lit< tt, All-nil P)

-- ---- what a call brings that comes back

no_opening : (c : Connect) (context filter preferred : ℕ) → AreConnectArgs c (args.Page context filter preferred) → ⊥
no_opening connect.Connect2 context filter preferred h = h
no_opening _ context filter preferred h = h

no_plain : (p : ScalarFields) (context filter preferred : ℕ) → ArePlainArgs p (args.Page context filter preferred) → ⊥
no_plain plain.Nothing context filter preferred h = h
no_plain _ context filter preferred h = h

no_policy : (p : PolicyFields) (context filter preferred : ℕ) → ArePolicyArgs p (args.Page context filter preferred) → ⊥
no_policy policies.Account context filter preferred h = h
no_policy _ context filter preferred h = h

no_translation : (t : Translation) (context filter preferred : ℕ)
    → AreTranslationArgs t (args.Page context filter preferred) → ⊥
no_translation translation.Names context filter preferred h = h
no_translation translation.Sids context filter preferred h = h
no_translation translation.Names2 context filter preferred h = h
no_translation translation.Sids2 context filter preferred h = h
no_translation translation.Names3 context filter preferred h = h

no_security : (s : SecurityFields) (context filter preferred : ℕ)
    → AreSecurityArgs s (args.Page context filter preferred) → ⊥
no_security security.Query context filter preferred h = h
no_security security.Set context filter preferred h = h

searched_context : (s : Search) (context filter preferred : ℕ) → AreSearchArgs s (args.Page context filter preferred)
    → IsLong context
searched_context search.Page context filter preferred h = h.0
searched_context search.FilteredPage context filter preferred h = h.0
searched_context _ context filter preferred h = absurd h

page_context : (f : Fields) (context filter preferred : ℕ) → AreArguments f (args.Page context filter preferred)
    → IsLong context
page_context (fields.Connect c) context filter preferred h = absurd (no_opening c context filter preferred h)
page_context (fields.Scalar p) context filter preferred h = absurd (no_plain p context filter preferred h)
page_context (fields.Search s) context filter preferred h = searched_context s context filter preferred h
page_context (fields.Policy p) context filter preferred h = absurd (no_policy p context filter preferred h)
page_context (fields.Translation t) context filter preferred h = absurd (no_translation t context filter preferred h)
page_context (fields.Security s) context filter preferred h = absurd (no_security s context filter preferred h)
page_context _ context filter preferred h = absurd h

context_is_long : (f : Fields) (a : Args) → AreArguments f a → IsLong (context_of a)
context_is_long f (args.Page context filter preferred) h = page_context f context filter preferred h
context_is_long f _ h = lit< tt

no_opening_of : (c : Connect) (class index count preferred : ℕ)
    → AreConnectArgs c (args.Display class index count preferred) → ⊥
no_opening_of connect.Connect2 class index count preferred h = h
no_opening_of _ class index count preferred h = h

no_plain_of : (p : ScalarFields) (class index count preferred : ℕ)
    → ArePlainArgs p (args.Display class index count preferred) → ⊥
no_plain_of plain.Nothing class index count preferred h = h
no_plain_of _ class index count preferred h = h

no_policy_of : (p : PolicyFields) (class index count preferred : ℕ)
    → ArePolicyArgs p (args.Display class index count preferred) → ⊥
no_policy_of policies.Account class index count preferred h = h
no_policy_of _ class index count preferred h = h

no_translation_of : (t : Translation) (class index count preferred : ℕ)
    → AreTranslationArgs t (args.Display class index count preferred) → ⊥
no_translation_of translation.Names class index count preferred h = h
no_translation_of translation.Sids class index count preferred h = h
no_translation_of translation.Names2 class index count preferred h = h
no_translation_of translation.Sids2 class index count preferred h = h
no_translation_of translation.Names3 class index count preferred h = h

no_security_of : (s : SecurityFields) (class index count preferred : ℕ)
    → AreSecurityArgs s (args.Display class index count preferred) → ⊥
no_security_of security.Query class index count preferred h = h
no_security_of security.Set class index count preferred h = h

searched_class : (s : Search) (class index count preferred : ℕ)
    → AreSearchArgs s (args.Display class index count preferred) → class < 2 ^ 16
searched_class search.Display class index count preferred h = h.0
searched_class _ class index count preferred h = absurd h

asked_class : (f : Fields) (class index count preferred : ℕ) → AreArguments f (args.Display class index count preferred)
    → class < 2 ^ 16
asked_class (fields.Connect c) class index count preferred h = absurd (no_opening_of c class index count preferred h)
asked_class (fields.Scalar p) class index count preferred h = absurd (no_plain_of p class index count preferred h)
asked_class (fields.Search s) class index count preferred h = searched_class s class index count preferred h
asked_class (fields.Policy p) class index count preferred h = absurd (no_policy_of p class index count preferred h)
asked_class (fields.Translation t) class index count preferred h =
    absurd (no_translation_of t class index count preferred h)
asked_class (fields.Security s) class index count preferred h = absurd (no_security_of s class index count preferred h)
asked_class _ class index count preferred h = absurd h

class_is_short : (f : Fields) (a : Args) → AreArguments f a → display_class_of a < 2 ^ 16
class_is_short f (args.Display class index count preferred) h = asked_class f class index count preferred h
class_is_short f _ h = lit< tt

zero_fits : (h : Handle) → h.number ≡ 0 → IsHandle h
zero_fits h e = let P : ℕ → Type 0 = λ n. n < 2 ^ 128 in subst P (sym e) (lit< tt)

handle_fits : (f : Fields) (h : Handle) → IsHandleOf f h → IsHandle h
handle_fits (fields.Connect c) h is = zero_fits h is
handle_fits _ h is = is

-- ---- the outputs

none_displayed : (arm : Option DisplayArm) → AreDisplayed arm []
none_displayed None = refl
none_displayed (Some display.User) = no_elements IsDisplayedUser
none_displayed (Some display.Group) = no_elements IsDisplayedGroup

are_outputs : (o : Outputs) (a : Args) (h : Handle) → IsLong (context_of a) → display_class_of a < 2 ^ 16 → IsHandle h
    → AreOutputs o (refused_outs o a h)
are_outputs (outputs.Scalar scalar.Nothing) a h long short fits = tt
are_outputs (outputs.Scalar scalar.Handle) a h long short fits = lit< tt
are_outputs (outputs.Scalar scalar.HandleBack) a h long short fits = fits
are_outputs (outputs.Scalar scalar.Connected) a h long short fits = lit< tt
are_outputs (outputs.Scalar scalar.Created) a h long short fits = (lit< tt, refl, lit< tt)
are_outputs (outputs.Scalar scalar.Granted) a h long short fits = (lit< tt, lit< tt, lit< tt)
are_outputs (outputs.Scalar scalar.Sid) a h long short fits = tt
are_outputs (outputs.Listed listed.Page) a h long short fits = (long, tt)
are_outputs (outputs.Listed listed.Rids) a h long short fits = no_elements IsLong
are_outputs (outputs.Listed listed.RidUses) a h long short fits = (no_elements IsLong, no_elements IsLong)
are_outputs (outputs.Listed listed.NameUses) a h long short fits = (no_elements IsText, no_elements IsLong)
are_outputs (outputs.Listed listed.Groups) a h long short fits = tt
are_outputs (outputs.Listed listed.Members) a h long short fits = tt
are_outputs (outputs.Listed listed.Sids) a h long short fits = no_elements IsSid
are_outputs (outputs.Listed listed.Display) a h long short fits =
    (short, lit< tt, lit< tt, none_displayed (display_arm (display_class_of a)))
are_outputs (outputs.Shown s) a h long short fits = refl
are_outputs (outputs.Policy policy.PrivilegePage) a h long short fits = (long, no_elements IsAccount)
are_outputs (outputs.Policy policy.SidPage) a h long short fits = (long, no_elements IsSid)
are_outputs (outputs.Policy policy.Privileges) a h long short fits = tt
are_outputs (outputs.Policy policy.SystemAccess) a h long short fits = lit< tt
are_outputs (outputs.Policy policy.Luid) a h long short fits = (lit< tt, lit< tt)
are_outputs (outputs.Policy policy.Name) a h long short fits = tt
are_outputs (outputs.Policy policy.Rights) a h long short fits = no_elements IsText
are_outputs (outputs.Translation translation.Names) a h long short fits =
    (no_elements IsDomain, no_elements IsTranslatedSid, lit< tt)
are_outputs (outputs.Translation translation.Sids) a h long short fits =
    (no_elements IsDomain, no_elements IsTranslatedName, lit< tt)
are_outputs (outputs.Translation translation.Names2) a h long short fits =
    (no_elements IsDomain, no_elements IsTranslatedSid, lit< tt)
are_outputs (outputs.Translation translation.Sids2) a h long short fits =
    (no_elements IsDomain, no_elements IsTranslatedName, lit< tt)
are_outputs (outputs.Translation translation.Names3) a h long short fits =
    (no_elements IsDomain, no_elements IsSidRef, lit< tt)
are_outputs outputs.Security a h long short fits = tt

no_domains : (o : Outputs) (a : Args) (h : Handle) → domains_of (refused_outs o a h) ≡ []
no_domains (outputs.Scalar scalar.Nothing) a h = refl
no_domains (outputs.Scalar scalar.Handle) a h = refl
no_domains (outputs.Scalar scalar.HandleBack) a h = refl
no_domains (outputs.Scalar scalar.Connected) a h = refl
no_domains (outputs.Scalar scalar.Created) a h = refl
no_domains (outputs.Scalar scalar.Granted) a h = refl
no_domains (outputs.Scalar scalar.Sid) a h = refl
no_domains (outputs.Listed listed.Page) a h = refl
no_domains (outputs.Listed listed.Rids) a h = refl
no_domains (outputs.Listed listed.RidUses) a h = refl
no_domains (outputs.Listed listed.NameUses) a h = refl
no_domains (outputs.Listed listed.Groups) a h = refl
no_domains (outputs.Listed listed.Members) a h = refl
no_domains (outputs.Listed listed.Sids) a h = refl
no_domains (outputs.Listed listed.Display) a h = refl
no_domains (outputs.Shown s) a h = refl
no_domains (outputs.Policy policy.PrivilegePage) a h = refl
no_domains (outputs.Policy policy.SidPage) a h = refl
no_domains (outputs.Policy policy.Privileges) a h = refl
no_domains (outputs.Policy policy.SystemAccess) a h = refl
no_domains (outputs.Policy policy.Luid) a h = refl
no_domains (outputs.Policy policy.Name) a h = refl
no_domains (outputs.Policy policy.Rights) a h = refl
no_domains (outputs.Translation translation.Names) a h = refl
no_domains (outputs.Translation translation.Sids) a h = refl
no_domains (outputs.Translation translation.Names2) a h = refl
no_domains (outputs.Translation translation.Sids2) a h = refl
no_domains (outputs.Translation translation.Names3) a h = refl
no_domains outputs.Security a h = refl

-- ---- whole replies

pub refusals_have_shape : RefusalsHaveShape
unfolding CanBeSpelled HasShape
refusals_have_shape call layout status can is long =
    let has = subst (λ (o : Option Layout). HasArguments o call) is can in
    let outs = refused_outs layout.outputs call.args call.handle in
    let context = context_is_long layout.fields call.args has.1 in
    let class = class_is_short layout.fields call.args has.1 in
    let back = handle_fits layout.fields call.handle has.0 in
    let shaped = are_outputs layout.outputs call.args call.handle context class back in
    let empty = no_domains layout.outputs call.args call.handle in
    subst (λ (o : Option Layout). HasOutputs o (Done status outs)) (sym is) (long, shaped, λ refused. empty)

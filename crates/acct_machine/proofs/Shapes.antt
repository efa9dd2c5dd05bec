-- The replies in a legal history have the shapes of their operations.
use Rattle.std.proofs.Common.{◌≡◌, ℕ, ◌^◌, ◌<◌, true, false, Option, Some, None}
use Rattle.std.proofs.Common.{bit_and}
use Rattle.std.proofs.Common.{refl, sym, ◌∙◌, subst, arith}
use Rattle.std.proofs.lemmas.Nat.{and_le_r}
use Rattle.acct_codes.specs.declared.kind.Kind.{Kind}
use Rattle.acct_codes.specs.declared.kind.Kind.TheVariants as kind
use Rattle.acct_codes.specs.Rights.{valid_rights}
use Rattle.acct_calls.specs.declared.calls.Call.{Call}
use Rattle.acct_calls.specs.declared.handle.Handle.{Handle}
use Rattle.acct_calls.specs.declared.replies.Outs.{Outs}
use Rattle.acct_calls.specs.declared.replies.Outs.TheVariants as outs
use Rattle.acct_calls.specs.declared.replies.Reply.TheVariants.{Done}
use Rattle.acct_layouts.specs.Values.{IsHandle, IsLong}
use Rattle.acct_layouts.specs.declared.outputs.Outputs.{Outputs}
use Rattle.acct_layouts.specs.declared.outputs.Outputs.TheVariants as outputs
use Rattle.acct_layouts.specs.declared.outputs.ScalarOutputs.{ScalarOutputs}
use Rattle.acct_layouts.specs.declared.outputs.ScalarOutputs.TheVariants as scalar
use Rattle.acct_layouts.specs.declared.outputs.Listed.{Listed}
use Rattle.acct_layouts.specs.declared.outputs.Listed.TheVariants as listed
use Rattle.acct_layouts.specs.declared.outputs.PolicyOutputs.{PolicyOutputs}
use Rattle.acct_layouts.specs.declared.outputs.PolicyOutputs.TheVariants as policy
use Rattle.acct_layouts.specs.declared.fields.Translation.{Translation}
use Rattle.acct_layouts.specs.declared.fields.Translation.TheVariants as translation
use Rattle.acct_layouts.specs.declared.table.Layout.{Layout}
use Rattle.acct_layouts.specs.CallShapes.{CanBeSpelled, HasArguments}
use Rattle.acct_layouts.specs.Laws.{RefusalsHaveShape}
use Rattle.acct_layouts.specs.Refusals.{is_refusal}
use Rattle.acct_layouts.specs.ReplyShapes.{ArePlain, AreLists, ArePolicyOuts, AreTranslated, AreOutputs}
use Rattle.acct_layouts.specs.ReplyShapes.{HasOutputs, HasShape}
use Rattle.acct_layouts.specs.Table.{layout_of}
use Rattle.acct_rules.specs.Planned.{shown_grant, filled}
use Rattle.acct_machine.specs.Step.{refused_by, refusal_outs, filled_by}

-- ---- refusals

refused-shaped : RefusalsHaveShape → (call : Call) (status : ℕ) → CanBeSpelled call → IsLong status
    → (layout : Option Layout)
    → layout_of call.face call.opnum ≡ layout → HasShape call.face call.opnum (Done status (refused_by layout call))
unfolding CanBeSpelled
refused-shaped law call status spelled long None is =
    let none : HasArguments None call = subst (λ (x : Option Layout). HasArguments x call) is spelled in absurd none
refused-shaped law call status spelled long (Some layout) is = law call layout status spelled is long

pub refusal-shaped : RefusalsHaveShape → (call : Call) (status : ℕ) → CanBeSpelled call → IsLong status
    → HasShape call.face call.opnum (Done status (refusal_outs call))
refusal-shaped law call status spelled long =
    refused-shaped law call status spelled long (layout_of call.face call.opnum) refl

-- ---- openings

plain-handle : (p : ScalarOutputs) (zero handle : Handle) → ArePlain p (outs.Handle zero) → IsHandle handle
    → ArePlain p (outs.Handle handle)
plain-handle scalar.Handle zero handle are fits = fits
plain-handle scalar.HandleBack zero handle are fits = fits
plain-handle scalar.Connected zero handle are fits = fits
plain-handle _ zero handle are fits = absurd are

lists-handle : (l : Listed) (zero handle : Handle) → AreLists l (outs.Handle zero) → AreLists l (outs.Handle handle)
lists-handle listed.Page zero handle are = absurd are
lists-handle _ zero handle are = absurd are

policy-handle : (p : PolicyOutputs) (zero handle : Handle) → ArePolicyOuts p (outs.Handle zero)
    → ArePolicyOuts p (outs.Handle handle)
policy-handle policy.Luid zero handle are = absurd are
policy-handle _ zero handle are = absurd are

translated-handle : (t : Translation) (zero handle : Handle) → AreTranslated t (outs.Handle zero)
    → AreTranslated t (outs.Handle handle)
translated-handle translation.Names zero handle are = absurd are
translated-handle _ zero handle are = absurd are

handle-are : (o : Outputs) (zero handle : Handle) → AreOutputs o (outs.Handle zero) → IsHandle handle
    → AreOutputs o (outs.Handle handle)
handle-are (outputs.Scalar p) zero handle are fits = plain-handle p zero handle are fits
handle-are (outputs.Listed l) zero handle are fits = lists-handle l zero handle are
handle-are (outputs.Shown s) zero handle are fits = absurd are
handle-are (outputs.Policy p) zero handle are fits = policy-handle p zero handle are
handle-are (outputs.Translation t) zero handle are fits = translated-handle t zero handle are
handle-are outputs.Security zero handle are fits = absurd are

plain-created : (p : ScalarOutputs) (zero handle : Handle) (none granted rid : ℕ)
    → ArePlain p (outs.Created zero none rid) → IsHandle handle → IsLong granted
    → ArePlain p (outs.Created handle (shown_grant (outputs.Scalar p) granted) rid)
plain-created scalar.Created zero handle none granted rid are fits long = (fits, refl, are.2)
plain-created scalar.Granted zero handle none granted rid are fits long = (fits, long, are.2)
plain-created _ zero handle none granted rid are fits long = absurd are

lists-created : (l : Listed) (zero handle : Handle) (none granted rid : ℕ) → AreLists l (outs.Created zero none rid)
    → AreLists l (outs.Created handle granted rid)
lists-created listed.Page zero handle none granted rid are = absurd are
lists-created _ zero handle none granted rid are = absurd are

policy-created : (p : PolicyOutputs) (zero handle : Handle) (none granted rid : ℕ)
    → ArePolicyOuts p (outs.Created zero none rid)
    → ArePolicyOuts p (outs.Created handle granted rid)
policy-created policy.Luid zero handle none granted rid are = absurd are
policy-created _ zero handle none granted rid are = absurd are

translated-created : (t : Translation) (zero handle : Handle) (none granted rid : ℕ)
    → AreTranslated t (outs.Created zero none rid)
    → AreTranslated t (outs.Created handle granted rid)
translated-created translation.Names zero handle none granted rid are = absurd are
translated-created _ zero handle none granted rid are = absurd are

created-are : (o : Outputs) (zero handle : Handle) (none granted rid : ℕ) → AreOutputs o (outs.Created zero none rid)
    → IsHandle handle → IsLong granted
    → AreOutputs o (outs.Created handle (shown_grant o granted) rid)
created-are (outputs.Scalar p) zero handle none granted rid are fits long =
    plain-created p zero handle none granted rid are fits long
created-are (outputs.Listed l) zero handle none granted rid are fits long = lists-created l zero handle none 0 rid are
created-are (outputs.Shown s) zero handle none granted rid are fits long = absurd are
created-are (outputs.Policy p) zero handle none granted rid are fits long = policy-created p zero handle none 0 rid are
created-are (outputs.Translation t) zero handle none granted rid are fits long =
    translated-created t zero handle none 0 rid are
created-are outputs.Security zero handle none granted rid are fits long = absurd are

filled-are : (o : Outputs) (handle : Handle) (granted : ℕ) (out : Outs) → AreOutputs o out → IsHandle handle
    → IsLong granted
    → AreOutputs o (filled o handle granted out)
filled-are o handle granted (outs.Handle zero) are fits long = handle-are o zero handle are fits
filled-are o handle granted (outs.Created zero none rid) are fits long =
    created-are o zero handle none granted rid are fits long
filled-are o handle granted _ are fits long = are

filled-by-shaped : (layout : Option Layout) (handle : Handle) (granted status : ℕ) (out : Outs)
    → is_refusal status ≡ false → IsHandle handle
    → IsLong granted → HasOutputs layout (Done status out)
    → HasOutputs layout (Done status (filled_by layout handle granted out))
filled-by-shaped None handle granted status out other fits long has = has
filled-by-shaped (Some layout) handle granted status out other fits long has = (
  has.0,
  filled-are layout.outputs handle granted out has.1 fits long,
  λ is. absurd
      (let e : true ≡ false = sym is ∙ other in cc),
)

pub filled-shaped : (call : Call) (handle : Handle) (granted status : ℕ) (out : Outs) → is_refusal status ≡ false
    → IsHandle handle → IsLong granted
    → HasShape call.face call.opnum (Done status out)
    → HasShape call.face call.opnum (Done status (filled_by (layout_of call.face call.opnum) handle granted out))
unfolding HasShape
filled-shaped call handle granted status out other fits long has =
    filled-by-shaped (layout_of call.face call.opnum) handle granted status out other fits long has

-- ---- grants

rights-long : (k : Kind) → valid_rights k < 2 ^ 32
rights-long kind.Server = omega arith
rights-long kind.Domain = omega arith
rights-long kind.Group = omega arith
rights-long kind.Alias = omega arith
rights-long kind.User = omega arith
rights-long kind.Policy = omega arith
rights-long kind.Account = omega arith

pub grant-long : (k : Kind) (granted : ℕ) → bit_and granted (valid_rights k) ≡ granted → IsLong granted
grant-long k granted valid = omega (arith, and_le_r granted (valid_rights k), valid, rights-long k)

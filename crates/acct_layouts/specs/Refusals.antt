-- Which statuses are refusals (MS-ERREF 2.3), and which outputs a refusal has: zero handles, null pointers, zero
-- numbers and empty lists.
use Rattle.std.specs.Prelude.{ℕ, Bool, ◌&&◌, ◌==◌, not, nat_le, [], None}
use Rattle.acct_calls.specs.Calls.{zero_handle}
use Rattle.acct_calls.specs.declared.calls.Args.{Args}
use Rattle.acct_calls.specs.declared.calls.Args.TheVariants as args
use Rattle.acct_calls.specs.declared.handle.Handle.{Handle}
use Rattle.acct_calls.specs.declared.replies.Outs.{Outs}
use Rattle.acct_calls.specs.declared.replies.Outs.TheVariants as outs
use Rattle.acct_codes.specs.Statuses.{status_none_mapped}
use Rattle.acct_layouts.specs.declared.fields.Translation.{Translation}
use Rattle.acct_layouts.specs.declared.fields.Translation.TheVariants as translation
use Rattle.acct_layouts.specs.declared.outputs.Listed.{Listed}
use Rattle.acct_layouts.specs.declared.outputs.Listed.TheVariants as listed
use Rattle.acct_layouts.specs.declared.outputs.Outputs.{Outputs}
use Rattle.acct_layouts.specs.declared.outputs.Outputs.TheVariants as outputs
use Rattle.acct_layouts.specs.declared.outputs.ScalarOutputs.{ScalarOutputs}
use Rattle.acct_layouts.specs.declared.outputs.ScalarOutputs.TheVariants as scalar
use Rattle.acct_layouts.specs.declared.outputs.PolicyOutputs.{PolicyOutputs}
use Rattle.acct_layouts.specs.declared.outputs.PolicyOutputs.TheVariants as policy

-- An error, of which both severity bits are set; but STATUS_NONE_MAPPED, whose reply is full.
abbrev pub is_refusal : ℕ → Bool
is_refusal status = nat_le 0xC0000000 status && not (status == status_none_mapped)

-- where the enumeration begins that a call asks for
abbrev pub context_of : Args → ℕ
context_of (args.Page context filter preferred) = context
context_of _ = 0

-- the class of what a call asks to be displayed
abbrev pub display_class_of : Args → ℕ
display_class_of (args.Display class index count preferred) = class
display_class_of _ = 0

-- A handle that is sent in and out comes back as it was given.
abbrev pub refused_plain : ScalarOutputs → Handle → Outs
refused_plain scalar.Nothing h = outs.Nothing
refused_plain scalar.Handle h = outs.Handle zero_handle
refused_plain scalar.HandleBack h = outs.Handle h
refused_plain scalar.Connected h = outs.Handle zero_handle
refused_plain scalar.Created h = outs.Created zero_handle 0 0
refused_plain scalar.Granted h = outs.Created zero_handle 0 0
refused_plain scalar.Sid h = outs.OneSid None

-- The context of an enumeration and the class of what is displayed come back as they were given.
abbrev pub refused_lists : Listed → Args → Outs
refused_lists listed.Page a = outs.Page (context_of a) None
refused_lists listed.Rids a = outs.RidList []
refused_lists listed.RidUses a = outs.RidUses [] []
refused_lists listed.NameUses a = outs.NameUses [] []
refused_lists listed.Groups a = outs.Pairs None
refused_lists listed.Members a = outs.Pairs None
refused_lists listed.Sids a = outs.SidList []
refused_lists listed.Display a = outs.Display (display_class_of a) 0 0 []

abbrev pub refused_policy : PolicyOutputs → Args → Outs
refused_policy policy.PrivilegePage a = outs.PrivilegePage (context_of a) []
refused_policy policy.SidPage a = outs.SidPage (context_of a) []
refused_policy policy.Privileges a = outs.Privileges None
refused_policy policy.SystemAccess a = outs.Bits 0
refused_policy policy.Luid a = outs.Luid 0 0
refused_policy policy.Name a = outs.OneName None
refused_policy policy.Rights a = outs.NameList []

abbrev pub refused_translation : Translation → Outs
refused_translation translation.Names = outs.Sids [] [] 0
refused_translation translation.Sids = outs.Names [] [] 0
refused_translation translation.Names2 = outs.Sids [] [] 0
refused_translation translation.Sids2 = outs.Names [] [] 0
refused_translation translation.Names3 = outs.SidRefs [] [] 0

-- the outputs of a refusal of a call that brought these arguments and this handle
abbrev pub refused_outs : Outputs → Args → Handle → Outs
refused_outs (outputs.Scalar p) a h = refused_plain p h
refused_outs (outputs.Listed l) a h = refused_lists l a
refused_outs (outputs.Shown s) a h = outs.Shown 0 None
refused_outs (outputs.Policy p) a h = refused_policy p a
refused_outs (outputs.Translation t) a h = refused_translation t
refused_outs outputs.Security a h = outs.Security None

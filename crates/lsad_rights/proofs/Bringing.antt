-- What a call brings that some served stub spells: SIDs, and privileges whose attributes have 32 bits.
use Rattle.std.proofs.Common.{◌≡◌, ℕ, true, false, All, Some, None, subst}
use Rattle.acct_calls.specs.declared.calls.Args.{Args}
use Rattle.acct_calls.specs.declared.calls.Args.TheVariants as args
use Rattle.acct_calls.specs.declared.calls.Call.{Call}
use Rattle.acct_calls.specs.declared.calls.Face.{Face}
use Rattle.acct_calls.specs.declared.calls.Face.TheVariants.{Lsa}
use Rattle.acct_codes.specs.Opnums.{lsar_create_account, lsar_add_privileges_to_account, lsar_add_account_rights}
use Rattle.acct_layouts.specs.Values.{IfThere, IsPrivilege}
use Rattle.acct_layouts.specs.CallShapes.{CanBeSpelled, HasArguments, ArePolicyArgs}
use Rattle.acct_layouts.specs.Table.{layout_of, lsa_layout}
use Rattle.acct_layouts.specs.declared.fields.PolicyFields.TheVariants as policy
use Rattle.acct_rules.specs.Asked.{asked_sid}
use Rattle.dtyp_sid.specs.Sids.{IsSid}
use Rattle.lsad_rights.specs.RightsChanges.{brought_sid}
use Rattle.lsad_rights.specs.Holdings.{brought_privileges}

-- the arguments are those of the layout
arguments : (call : Call) (face : Face) (opnum : ℕ) → call.face ≡ face → call.opnum ≡ opnum → CanBeSpelled call
    → HasArguments (layout_of face opnum) call
unfolding CanBeSpelled
arguments call face opnum faces opnums spelled =
    subst (λ f. HasArguments (layout_of f opnum) call) faces
    (subst (λ n. HasArguments (layout_of call.face n) call) opnums spelled)

-- a SID that an account is created for
asks-sid : (a : Args) → ArePolicyArgs policy.Account a → IfThere IsSid (asked_sid a)
asks-sid (args.AccessSid x y) n = n.1
asks-sid _ n = absurd n

-- the SID of an account whose rights are added
adds-sid : (a : Args) → ArePolicyArgs policy.AddRights a → IfThere IsSid (brought_sid a)
adds-sid (args.Rights x false z) n = n.0
adds-sid (args.Rights x true z) n = absurd n
adds-sid _ n = absurd n

-- the privileges that are added
adds-privileges : (a : Args) → ArePolicyArgs policy.AddPrivileges a → All IsPrivilege (brought_privileges a)
adds-privileges (args.Privileges false (Some set)) n = n.1
adds-privileges (args.Privileges false None) n = absurd n
adds-privileges (args.Privileges true set) n = absurd n
adds-privileges _ n = absurd n

pub created-sid : (call : Call) → call.face ≡ Lsa → call.opnum ≡ lsar_create_account → CanBeSpelled call
    → IfThere IsSid (asked_sid call.args)
unfolding lsa_layout
created-sid call face opnum spelled =
    asks-sid call.args (arguments call Lsa lsar_create_account face opnum spelled).1

pub added-sid : (call : Call) → call.face ≡ Lsa → call.opnum ≡ lsar_add_account_rights → CanBeSpelled call
    → IfThere IsSid (brought_sid call.args)
unfolding lsa_layout
added-sid call face opnum spelled =
    adds-sid call.args (arguments call Lsa lsar_add_account_rights face opnum spelled).1

pub added-privileges : (call : Call) → call.face ≡ Lsa → call.opnum ≡ lsar_add_privileges_to_account
    → CanBeSpelled call → All IsPrivilege (brought_privileges call.args)
unfolding lsa_layout
added-privileges call face opnum spelled =
    adds-privileges call.args (arguments call Lsa lsar_add_privileges_to_account face opnum spelled).1

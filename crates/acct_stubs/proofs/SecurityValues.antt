-- Which descriptors can be written where they are asked for or set, that what some stub spells can be, and that reading
-- goes onward.
use Rattle.std.proofs.Common.{◌≡◌, ℕ, ◌<◌, ◌^◌, List, [], length, Option, Some, None, refl, arith}
use Rattle.ndr_core.proofs.Complete.{IsComplete, chain_complete, made_complete, u32_complete}
use Rattle.acct_codes.specs.Limits.{most_descriptor}
use Rattle.acct_calls.specs.declared.calls.Args.{Args}
use Rattle.acct_calls.specs.declared.calls.Args.TheVariants as args
use Rattle.acct_calls.specs.declared.replies.Outs.{Outs}
use Rattle.acct_calls.specs.declared.replies.Outs.TheVariants as outs
use Rattle.acct_layouts.specs.Values.{IfThere, IsListed, IsSmall}
use Rattle.acct_layouts.specs.CallShapes.{AreSecurityArgs}
use Rattle.acct_layouts.specs.ReplyShapes.{AreSecurity, domains_of}
use Rattle.acct_layouts.specs.declared.fields.SecurityFields.{SecurityFields}
use Rattle.acct_layouts.specs.declared.fields.SecurityFields.TheVariants as security
use Rattle.ndr_types.proofs.ByteArrays.{descriptor_complete, descriptor_onward, descriptor_pointer_complete}
use Rattle.ndr_types.proofs.ByteArrays.{descriptor_pointer_onward, descriptor_pointer_values, descriptor_values}
use Rattle.ndr_types.proofs.Onward.{Takes, long, takes_chain, takes_made}
use Rattle.ndr_types.specs.Listed.{any, descriptor, descriptor_pointer}
use Rattle.ndr_types.specs.Bounds.{IsCounted}
use Rattle.ndr_types.specs.Laws.{IsListOf}
use Rattle.acct_stubs.specs.Arguments.{bits_in, security_args, security_in, security_out, security_outs}

-- ---- what is asked for and set

pub security_kind : (s : SecurityFields) (a : Args) → (security_args s).Fits a → AreSecurityArgs s a
unfolding security_args
security_kind security.Query (args.Bits info) f = f.0
security_kind security.Set (args.Security info bytes) f =
    let k = (descriptor_values most_descriptor bytes).0 f.0.1 in (f.0.0, k.0, k.2)
security_kind _ _ f = absurd (cc f.1)

pub security_fits : (s : SecurityFields) (a : Args) → AreSecurityArgs s a → (security_args s).Fits a
unfolding security_args
security_fits security.Query (args.Bits info) is = (is, refl)
security_fits security.Set (args.Security info bytes) is =
    ((is.0, (descriptor_values most_descriptor bytes).1 (is.1, omega (arith, is.1), is.2)), refl)
security_fits _ _ is = absurd is

pub security_complete : (s : SecurityFields) → IsComplete (security_args s)
unfolding security_args
security_complete security.Query = made_complete args.Bits bits_in u32_complete (λ x h. (h, refl))
security_complete security.Set =
    made_complete (λ x. args.Security x.0 x.1) security_in
    (chain_complete u32_complete (λ x h. descriptor_complete most_descriptor)) (λ x h. (h, refl))

pub security_onward : (s : SecurityFields) → Takes 0 (security_args s)
unfolding security_args
security_onward security.Query = takes_made 0 _ _ long
security_onward security.Set = takes_made 0 _ _ (takes_chain 0 long (λ x. descriptor_onward most_descriptor))

-- ---- what is answered

answered_kind : (bytes : Option (List ℕ)) → IfThere (IsListOf any IsSmall) bytes → IfThere (IsListed IsSmall) bytes
answered_kind None is = tt
answered_kind (Some xs) is = (is.1, is.2)

answered_fits : (bytes : Option (List ℕ)) → IfThere (IsListed IsSmall) bytes → IfThere (IsListOf any IsSmall) bytes
answered_fits None is = tt
answered_fits (Some xs) is = (omega (arith, is.0), is.0, is.1)

pub outs_kind : (o : Outs) → security_outs.Fits o → AreSecurity o
unfolding security_outs
outs_kind (outs.Security bytes) f = answered_kind bytes ((descriptor_pointer_values bytes).0 f.0)
outs_kind _ f = absurd (cc f.1)

pub outs_fit : (o : Outs) → AreSecurity o → security_outs.Fits o
unfolding security_outs
outs_fit (outs.Security bytes) is = ((descriptor_pointer_values bytes).1 (answered_fits bytes is), refl)
outs_fit _ is = absurd is

pub outs_complete : IsComplete security_outs
unfolding security_outs
outs_complete = made_complete outs.Security security_out descriptor_pointer_complete (λ x h. (h, refl))

pub outs_onward : Takes 0 security_outs
unfolding security_outs
outs_onward = takes_made 0 _ _ descriptor_pointer_onward

pub outs_refer : (o : Outs) → AreSecurity o → domains_of o ≡ []
outs_refer (outs.Security bytes) is = refl
outs_refer _ is = absurd is

-- ---- what the writers ask for

pub bytes_counted : (most : ℕ) (bytes : List ℕ) → (descriptor most).Fits bytes → length bytes < 2 ^ 32
bytes_counted most bytes f = ((descriptor_values most bytes).0 f).1

counted : (bytes : Option (List ℕ)) → IfThere (IsListOf any IsSmall) bytes → IfThere IsCounted bytes
counted None is = tt
counted (Some xs) is = is.1

pub pointer_counted : (bytes : Option (List ℕ)) → descriptor_pointer.Fits bytes → IfThere IsCounted bytes
pointer_counted bytes f = counted bytes ((descriptor_pointer_values bytes).0 f)

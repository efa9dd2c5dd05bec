-- What a call brings that some served stub spells: attributes of 32 bits, and a SID.
use Rattle.std.proofs.Common.{◌≡◌, ℕ, subst}
use Rattle.acct_calls.specs.declared.calls.Args.{Args}
use Rattle.acct_calls.specs.declared.calls.Args.TheVariants as args
use Rattle.acct_calls.specs.declared.calls.Call.{Call}
use Rattle.acct_calls.specs.declared.calls.Face.{Face}
use Rattle.acct_calls.specs.declared.calls.Face.TheVariants.{Samr}
use Rattle.acct_codes.specs.Opnums.{samr_add_member_to_group, samr_add_member_to_alias}
use Rattle.acct_layouts.specs.Values.{IsLong, IfThere}
use Rattle.acct_layouts.specs.CallShapes.{CanBeSpelled, HasArguments, ArePlainArgs}
use Rattle.acct_layouts.specs.Table.{layout_of, samr_layout}
use Rattle.acct_layouts.specs.declared.fields.ScalarFields.TheVariants as plain
use Rattle.acct_rules.specs.Asked.{asked_sid}
use Rattle.dtyp_sid.specs.Sids.{IsSid}
use Rattle.samr_members.specs.Members.{added_attributes}

-- the arguments are those of the layout
arguments : (call : Call) (face : Face) (opnum : ℕ) → call.face ≡ face → call.opnum ≡ opnum → CanBeSpelled call
    → HasArguments (layout_of face opnum) call
unfolding CanBeSpelled
arguments call face opnum faces opnums spelled =
    subst (λ f. HasArguments (layout_of f opnum) call) faces
    (subst (λ n. HasArguments (layout_of call.face n) call) opnums spelled)

record Asks (a : Args) : Type 0 where
  attributes : ArePlainArgs plain.Member a → IsLong (added_attributes a)
  sid : ArePlainArgs plain.Sid a → IfThere IsSid (asked_sid a)

asks : (a : Args) → Asks a
asks (args.RidBits x y) = record { attributes = λ n. n.1; sid = λ n. absurd n }
asks (args.OneSid x) = record { attributes = λ n. absurd n; sid = λ n. n }
asks _ = record { attributes = λ n. absurd n; sid = λ n. absurd n }

pub long-attributes : (call : Call) → call.face ≡ Samr → call.opnum ≡ samr_add_member_to_group → CanBeSpelled call
    → IsLong (added_attributes call.args)
unfolding samr_layout
long-attributes call face opnum spelled =
    (asks call.args).attributes (arguments call Samr samr_add_member_to_group face opnum spelled).1

pub whole-sid : (call : Call) → call.face ≡ Samr → call.opnum ≡ samr_add_member_to_alias → CanBeSpelled call
    → IfThere IsSid (asked_sid call.args)
unfolding samr_layout
whole-sid call face opnum spelled =
    (asks call.args).sid (arguments call Samr samr_add_member_to_alias face opnum spelled).1

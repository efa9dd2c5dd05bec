-- What a call brings that some served stub spells: the context of an enumeration is a number of 32 bits.
use Rattle.std.proofs.Common.{◌≡◌, ℕ, subst}
use Rattle.acct_calls.specs.declared.calls.Args.{Args}
use Rattle.acct_calls.specs.declared.calls.Args.TheVariants as args
use Rattle.acct_calls.specs.declared.calls.Call.{Call}
use Rattle.acct_calls.specs.declared.calls.Face.{Face}
use Rattle.acct_layouts.specs.Values.{IsLong}
use Rattle.acct_layouts.specs.CallShapes.{CanBeSpelled, HasArguments, AreSearchArgs}
use Rattle.acct_layouts.specs.Table.{layout_of}
use Rattle.acct_layouts.specs.declared.fields.Search.TheVariants as search
use Rattle.acct_rules.specs.Asked.{asked_context}

-- the arguments are those of the layout
pub arguments : (call : Call) (face : Face) (opnum : ℕ) → call.face ≡ face → call.opnum ≡ opnum → CanBeSpelled call
    → HasArguments (layout_of face opnum) call
unfolding CanBeSpelled
arguments call face opnum faces opnums spelled =
    subst (λ f. HasArguments (layout_of f opnum) call) faces
    (subst (λ n. HasArguments (layout_of call.face n) call) opnums spelled)

pub context-long : (a : Args) → AreSearchArgs search.Page a → IsLong (asked_context a)
context-long (args.Page context filter preferred) are = are.0
context-long _ are = absurd are

-- What a call asks for that some served stub spells: few names and RIDs, and numbers of 32 bits.
use Rattle.std.proofs.Common.{◌≡◌, ℕ, ◌≤◌, length, subst}
use Rattle.acct_calls.specs.declared.calls.Args.{Args}
use Rattle.acct_calls.specs.declared.calls.Args.TheVariants as args
use Rattle.acct_calls.specs.declared.calls.Call.{Call}
use Rattle.acct_calls.specs.declared.calls.Face.{Face}
use Rattle.acct_layouts.specs.Values.{IsLong}
use Rattle.acct_layouts.specs.CallShapes.{CanBeSpelled, HasArguments, ArePlainArgs, AreSearchArgs}
use Rattle.acct_layouts.specs.Table.{layout_of}
use Rattle.acct_layouts.specs.declared.fields.ScalarFields.TheVariants as plain
use Rattle.acct_layouts.specs.declared.fields.Search.TheVariants as search
use Rattle.acct_rules.specs.Asked.{asked_names, asked_rids, asked_context, asked_rid}

-- the arguments are those of the layout
pub arguments : (call : Call) (face : Face) (opnum : ℕ) → call.face ≡ face → call.opnum ≡ opnum → CanBeSpelled call
    → HasArguments (layout_of face opnum) call
unfolding CanBeSpelled
arguments call face opnum faces opnums spelled =
    subst (λ f. HasArguments (layout_of f opnum) call) faces
    (subst (λ n. HasArguments (layout_of call.face n) call) opnums spelled)

pub record Asks (a : Args) : Type 0 where
  pub names : AreSearchArgs search.Names a → length (asked_names a) ≤ 1000
  pub rids : AreSearchArgs search.Rids a → length (asked_rids a) ≤ 1000
  pub page : AreSearchArgs search.Page a → IsLong (asked_context a)
  pub rid : ArePlainArgs plain.Rid a → IsLong (asked_rid a)

pub asks : (a : Args) → Asks a
asks (args.Page x y z) = record { names = λ n. absurd n; rids = λ n. absurd n; page = λ n. n.0; rid = λ n. absurd n }
asks (args.Rid x) = record { names = λ n. absurd n; rids = λ n. absurd n; page = λ n. absurd n; rid = λ n. n }
asks (args.NameList x) = record { names = λ n. n.0; rids = λ n. absurd n; page = λ n. absurd n; rid = λ n. absurd n }
asks (args.RidList x) = record { names = λ n. absurd n; rids = λ n. n.0; page = λ n. absurd n; rid = λ n. absurd n }
asks _ = record { names = λ n. absurd n; rids = λ n. absurd n; page = λ n. absurd n; rid = λ n. absurd n }

-- What a call asks for that some served stub spells: few names, and few SIDs.
use Rattle.std.proofs.Common.{◌≡◌, ℕ, ◌≤◌, All, length, subst}
use Rattle.acct_calls.specs.declared.calls.Args.{Args}
use Rattle.acct_calls.specs.declared.calls.Args.TheVariants as args
use Rattle.acct_calls.specs.declared.calls.Call.{Call}
use Rattle.acct_calls.specs.declared.calls.Face.{Face}
use Rattle.acct_layouts.specs.CallShapes.{CanBeSpelled, HasArguments, AreNamesAsked, AreSidsAsked}
use Rattle.acct_layouts.specs.Table.{layout_of}
use Rattle.dtyp_sid.specs.Sids.{IsSid}
use Rattle.lsat_translate.specs.Translations.{asked_names, asked_sids}

-- the arguments are those of the layout
pub arguments : (call : Call) (face : Face) (opnum : ℕ) → call.face ≡ face → call.opnum ≡ opnum → CanBeSpelled call
    → HasArguments (layout_of face opnum) call
unfolding CanBeSpelled
arguments call face opnum faces opnums spelled =
    subst (λ f. HasArguments (layout_of f opnum) call) faces
    (subst (λ n. HasArguments (layout_of call.face n) call) opnums spelled)

record Asks (a : Args) : Type 0 where
  names : AreNamesAsked a → length (asked_names a) ≤ 1000
  sids : AreSidsAsked a → (length (asked_sids a) ≤ 20480) × All IsSid (asked_sids a)

asks : (a : Args) → Asks a
asks args.Nothing = record { names = λ n. absurd n; sids = λ n. absurd n }
asks (args.Access x) = record { names = λ n. absurd n; sids = λ n. absurd n }
asks (args.AccessRid x y) = record { names = λ n. absurd n; sids = λ n. absurd n }
asks (args.AccessSid x y) = record { names = λ n. absurd n; sids = λ n. absurd n }
asks (args.Make x y z) = record { names = λ n. absurd n; sids = λ n. absurd n }
asks (args.Page x y z) = record { names = λ n. absurd n; sids = λ n. absurd n }
asks (args.Display w x y z) = record { names = λ n. absurd n; sids = λ n. absurd n }
asks (args.Class x) = record { names = λ n. absurd n; sids = λ n. absurd n }
asks (args.Put x y) = record { names = λ n. absurd n; sids = λ n. absurd n }
asks (args.Rid x) = record { names = λ n. absurd n; sids = λ n. absurd n }
asks (args.RidBits x y) = record { names = λ n. absurd n; sids = λ n. absurd n }
asks (args.OneSid x) = record { names = λ n. absurd n; sids = λ n. absurd n }
asks (args.SidList x) = record { names = λ n. absurd n; sids = λ n. absurd n }
asks (args.NameList x) = record { names = λ n. absurd n; sids = λ n. absurd n }
asks (args.RidList x) = record { names = λ n. absurd n; sids = λ n. absurd n }
asks (args.OneName x) = record { names = λ n. absurd n; sids = λ n. absurd n }
asks (args.Luid x y) = record { names = λ n. absurd n; sids = λ n. absurd n }
asks (args.Bits x) = record { names = λ n. absurd n; sids = λ n. absurd n }
asks (args.Privileges x y) = record { names = λ n. absurd n; sids = λ n. absurd n }
asks (args.Rights x y z) = record { names = λ n. absurd n; sids = λ n. absurd n }
asks (args.LookNames x y) = record { names = λ n. n.1; sids = λ n. absurd n }
asks (args.LookSids x y) = record { names = λ n. absurd n; sids = λ n. (n.1, n.2) }
asks (args.Policy x y) = record { names = λ n. absurd n; sids = λ n. absurd n }
asks (args.Security x y) = record { names = λ n. absurd n; sids = λ n. absurd n }

pub few-names : (a : Args) → AreNamesAsked a → length (asked_names a) ≤ 1000
few-names a = (asks a).names

pub few-sids : (a : Args) → AreSidsAsked a → (length (asked_sids a) ≤ 20480) × All IsSid (asked_sids a)
few-sids a = (asks a).sids

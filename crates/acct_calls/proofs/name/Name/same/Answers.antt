-- `same` is true just where the code points of the two names are equal after folding.
use Rattle.std.proofs.Common.{◌≡◌, IsTrue, sym, subst}
use Rattle.std.specs.Prelude.{◌↔◌, Bool}
use Rattle.acct_calls.specs.Names.{is_same, AreSame}
use Rattle.acct_calls.proofs.Folds.{tells_same}
use Rattle.acct_calls.proofs.name.Name.same.Goals as goal

pub returns-clause-meaning : goal.returns-clause-meaning
returns-clause-meaning c =
    let ours = c.args.self.now in
    let theirs = c.args.other.now in
    let is : c.same_units.result ≡ is_same ours theirs = cc in
    subst (λ (b : Bool). IsTrue b ↔ AreSame ours theirs) (sym is) (tells_same ours theirs)

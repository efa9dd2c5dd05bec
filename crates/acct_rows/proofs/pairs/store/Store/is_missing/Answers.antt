-- `Store::is_missing` meets its contract: an account that is there at its key may be of another kind.
use Rattle.std.proofs.Common.{◌≡◌, Some, None, sym, ap, ◌∙◌, rules}
use Rattle.std.specs.Prelude.{not}
use Rattle.acct_rows.specs.PairRules.{account_in}
use Rattle.acct_tables.specs.Selected.{same_kind}
use Rattle.acct_rows.proofs.Found.{missing_if_other, missing_if_none}
use Rattle.acct_rows.proofs.pairs.store.Store.is_missing.Goals as goal

pub returns-in-Some : goal.returns-in-Some
returns-in-Some c =
    let pairs = c.args.self.now in
    let a = c.in-Some.account.now in
    let found : account_in pairs c.args.domain c.args.rid ≡ Some a = search rules in
    let is : c.ne.result ≡ not (same_kind c.args.kind a.kind) = search rules in
    is ∙ sym (missing_if_other c.args.kind pairs c.args.domain c.args.rid a found)

pub returns-in_ok-is_there-in-None : goal.returns-in_ok-is_there-in-None
returns-in_ok-is_there-in-None c =
    let pairs = c.args.self.now in
    let none : account_in pairs c.args.domain c.args.rid ≡ None = search rules in
    ap not c.in_ok-is_there-in-None.ensures ∙ sym (missing_if_none c.args.kind pairs c.args.domain c.args.rid none)

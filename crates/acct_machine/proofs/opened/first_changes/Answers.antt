-- Puts of pairs that ascend, made where no pair is, leave just these, and they are the pairs of the rows.
use Rattle.std.proofs.Common.{[], List, sym, ◌∙◌, ap, subst}
use Rattle.acct_keeper.specs.declared.pairs.Change.{Change}
use Rattle.acct_keeper.specs.declared.pairs.Pair.{Pair}
use Rattle.acct_keeper.specs.Pairs.{after}
use Rattle.acct_rows.specs.PairsOf.{ArePairsOf}
use Rattle.acct_machine.proofs.Puts.{all-put}
use Rattle.acct_machine.proofs.opened.first_changes.Goals as goal

pub returns : goal.returns
returns c =
    let are = c.in_ok-pairs.ensures in
    subst (λ (ps : List Pair). ArePairsOf c.args.rows.now.lists ps)
    (sym (ap (λ (cs : List Change). after cs []) c.in_ok-changes.ensures ∙ all-put _ are.ascending)) are

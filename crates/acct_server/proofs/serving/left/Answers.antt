-- Access is denied in what serving left exactly as in any legal history, since its machine's history is one.
use Rattle.std.proofs.Common.{List, subst}
use Rattle.acct_machine.specs.declared.entry.Entry.{Entry}
use Rattle.acct_machine.specs.Legal.{Legal}
use Rattle.acct_server.proofs.Denying.{denies-in}
use Rattle.acct_server.proofs.serving.left.Goals as goal

pub returns-clause-denies : goal.returns-clause-denies
returns-clause-denies g c =
    let past = c.args.served.machine.past in
    let parts = c.into_parts-opening in
    denies-in c.access_is_denied_exactly.ensures.exactly c.access_is_denied_exactly.ensures.ran past.start past.history
    (subst (λ (h : List Entry). Legal past.start h) parts.ensures.history parts.ensures.legal)

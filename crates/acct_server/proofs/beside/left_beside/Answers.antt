-- The status is that of the doors and of the drains, whose count of faults was compared with the keeper's.
use Rattle.std.proofs.Common.{ℕ, subst}
use Rattle.acct_server.specs.Beside.{Settles}
use Rattle.acct_server.proofs.beside.left_beside.Goals as goal

pub returns-clause-status : goal.returns-clause-status
returns-clause-status g c =
    let told = c.settled-answer in (
      told.result,
      subst (λ (n : ℕ). Settles n c.args.hooked.answer told.result) c.faults.ensures told.ensures,
      c.status_of.ensures,
    )

-- Each handle that is open after a history was opened in it by a call that ran, and has that opening's grant.
use Rattle.std.proofs.Common.{[], refl, arith}
use Rattle.acct_machine.specs.State.{first}
use Rattle.acct_machine.proofs.Granting.{granted-after}
use Rattle.acct_machine.proofs.laws.grants_come_from_openings.Goals as goal

pub returns : goal.returns
returns c = λ start history. granted-after start [] history (first start) refl (λ k d lt. absurd (omega (arith, lt)))

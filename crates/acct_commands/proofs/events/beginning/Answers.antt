-- The first line opens the connection, and the next brings the bind.
use Rattle.std.proofs.Common.{◌≡◌, [], ◌∷◌, ◌++◌, rules}
use Rattle.std.specs.Prelude.{codes}
use Rattle.acct_commands.proofs.Taking.{taken-begins}
use Rattle.acct_commands.proofs.events.beginning.Goals as goal

pub returns-clause-taken : goal.returns-clause-taken
returns-clause-taken c =
    let opens : c.in_ok-lines.lines.items ≡ codes "open 1 a" ++ 10 ∷ [] = search rules in
    c.in_ok-push_data.ensures.taken (taken-begins c.in_ok-lines.lines.items opens)

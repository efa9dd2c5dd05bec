-- A plan without a row of the outbox takes no out number.
use Rattle.std.proofs.Common.{sym, ◌∙◌}
use Rattle.account_vectors.proofs.Numbers.{take-none}
use Rattle.account_vectors.proofs.tests.puts.apply.Goals as goal

pub apply-requires-clause-numbers : goal.apply-requires-clause-numbers
apply-requires-clause-numbers c =
    take-none c.reserve.new.self.lists.next_out c.args.plan.puts (sym c.puts_out_row.ensures ∙ c.if-puts_out_row.false)

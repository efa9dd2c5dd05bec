-- The calls of a history are those of its entries that are calls.
use Rattle.std.proofs.Common.{◌≡◌, List, ◌∷◌, [], length, refl, arith}
use Rattle.std.specs.List.{filter}
use Rattle.acct_machine.specs.Legal.{call_count}
use Rattle.acct_machine.specs.declared.entry.Entry.{Entry}
use Rattle.acct_machine.specs.declared.entry.Entry.TheVariants.{Opened, Called, Gone, Hooked}
use Rattle.acct_commands.specs.Generating.{is_call}

pub calls-counted : (history : List Entry) → length (filter is_call history) ≡ call_count history
calls-counted [] = refl
calls-counted (Opened conn listener ∷ history) = calls-counted history
calls-counted (Called conn call verdict bytes ∷ history) = omega (arith, calls-counted history)
calls-counted (Gone conn ∷ history) = calls-counted history
calls-counted (Hooked number ∷ history) = calls-counted history

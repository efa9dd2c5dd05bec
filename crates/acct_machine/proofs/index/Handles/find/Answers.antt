-- What the index by number finds is the handle of the connection with the number, or none where there is none.
use Rattle.std.proofs.Common.{◌≡◌, true, Some, None, option_map, List, ap, ◌∙◌, rules}
use Rattle.std.specs.List.{find}
use Rattle.acct_tables.specs.Keyed.{is_within, is_ascending}
use Rattle.acct_machine.specs.declared.arrivals.Arrival.{Arrival}
use Rattle.acct_machine.specs.declared.arrivals.Numbered.TheVariants as numbers
use Rattle.acct_machine.specs.State.{find_handle}
use Rattle.acct_machine.specs.steps.Arrivals.{number_key, number_front}
use Rattle.acct_machine.specs.steps.Indexed.{held_of}
use Rattle.acct_machine.proofs.Indexes.{found}
use Rattle.acct_machine.proofs.index.Handles.find.Goals as goal

pub returns-in-Some : goal.returns-in-Some
returns-in-Some c =
    let xs : List Arrival = c.self.inside.numbers.0 in
    let h : is_ascending number_key xs ≡ true = search rules in
    let is : Some c.in-Some.arrival.now
    ≡ find (is_within number_key (number_front (numbers.Handle c.args.conn c.args.number))) xs = search rules in
    ap (option_map held_of) is ∙ found c.args.conn c.args.number xs h
    ∙ ap (λ pair. find_handle c.args.conn c.args.number pair.0) c.self.view_is

pub returns-in-None : goal.returns-in-None
returns-in-None c =
    let xs : List Arrival = c.self.inside.numbers.0 in
    let h : is_ascending number_key xs ≡ true = search rules in
    let is : None ≡ find (is_within number_key (number_front (numbers.Handle c.args.conn c.args.number))) xs =
    search rules in
    ap (option_map held_of) is ∙ found c.args.conn c.args.number xs h
    ∙ ap (λ pair. find_handle c.args.conn c.args.number pair.0) c.self.view_is

-- The handles of a connection, taken by key from the index by object, leave those of other connections there.
use Rattle.std.proofs.Common.{◌≡◌, ◌==◌, Bool, true, not, List, sym, ap, ◌∙◌, rules}
use Rattle.std.specs.List.{filter}
use Rattle.acct_tables.specs.Keyed.{is_within, is_ascending, sorted, without_all}
use Rattle.acct_machine.specs.declared.arrivals.Arrival.{Arrival}
use Rattle.acct_machine.specs.declared.arrivals.Numbered.TheVariants as numbers
use Rattle.acct_machine.specs.steps.Arrivals.{number_key, number_front, object_key}
use Rattle.acct_machine.proofs.Indexes.{objects_gone, others_alike, conn_within}
use Rattle.acct_machine.proofs.index.leave_conn.Goals as goal

pub returns-clause-others : goal.returns-clause-others
returns-clause-others c =
    let xs : List Arrival = c.args.numbers.now.0 in
    let all : List Arrival = c.args.objects.now.0 in
    let p : Arrival → Bool = is_within number_key (number_front (numbers.Conn c.args.conn)) in
    let h : is_ascending number_key xs ≡ true = search rules in
    let gone : c.within-gone.result.now ≡ filter p xs = c.within-gone.ensures in
    c.remove_all.ensures.values ∙ ap (λ (ys : List Arrival). without_all object_key ys all) gone
    ∙ ap (λ (ys : List Arrival). without_all object_key (filter p xs) ys) c.requires
    ∙ objects_gone p xs h
    ∙ others_alike p (λ a. a.held.conn == c.args.conn) (conn_within c.args.conn) (sorted object_key xs)
    ∙ ap (λ (ys : List Arrival). filter (λ a. not (a.held.conn == c.args.conn)) ys) (sym c.requires)

-- After `drop_handle` both indices hold the same handles: all but the connection's of that number, as they came in.
use Rattle.std.proofs.Common.{◌≡◌, Bool, true, not, List, sym, ap, subst, ◌∙◌, rules, arith}
use Rattle.std.specs.List.{filter}
use Rattle.acct_tables.specs.Keyed.{is_within, is_ascending, sorted, without_all}
use Rattle.acct_machine.specs.declared.arrivals.Arrival.{Arrival}
use Rattle.acct_machine.specs.declared.arrivals.Numbered.TheVariants as numbers
use Rattle.acct_machine.specs.State.{is_handle, without_handle}
use Rattle.acct_machine.specs.steps.Arrivals.{number_key, number_front, object_key}
use Rattle.acct_machine.specs.steps.Indexed.{arrived, CameBefore}
use Rattle.acct_machine.proofs.Indexes.{objects_gone, objects_left, arrived_without, before_filter, handle_within}
use Rattle.acct_machine.proofs.index.Handles.drop_handle.Goals as goal

pub invariant_of-self : goal.invariant_of-self
invariant_of-self c =
    let xs : List Arrival = c.self.inside.numbers.0 in
    let p : Arrival → Bool = is_within number_key (number_front (numbers.Handle c.args.conn c.args.number)) in
    let h : is_ascending number_key xs ≡ true = search rules in
    let now : c.remove_within.new.self.0 ≡ filter (λ x. not (p x)) xs = c.remove_within.ensures.values in
    let gone : c.within.result.now ≡ filter p xs = c.within.ensures in
    record {
      same = c.remove_all.ensures.values
          ∙ ap (λ (ys : List Arrival). without_all object_key ys c.self.inside.objects.0) gone
          ∙ ap (λ (ys : List Arrival). without_all object_key (filter p xs) ys) c.self.invariant.same
          ∙ objects_gone p xs h ∙ objects_left p xs h ∙ ap (λ (ys : List Arrival). sorted object_key ys) (sym now);
      before = subst (λ (ys : List Arrival). CameBefore c.self.inside.next ys) (sym now)
          (before_filter c.self.inside.next (λ x. not (p x)) xs c.self.invariant.before);
      turns = c.self.invariant.turns;
      by_number = omega (arith, c.self.invariant.by_number, c.remove_within.ensures.room);
      by_object = omega (arith, c.self.invariant.by_object, c.remove_all.ensures.room);
    }

pub returns-clause-handles : goal.returns-clause-handles
returns-clause-handles c =
    let xs : List Arrival = c.self.inside.numbers.0 in
    let p : Arrival → Bool = is_within number_key (number_front (numbers.Handle c.args.conn c.args.number)) in
    let h : is_ascending number_key xs ≡ true = search rules in
    ap (λ (ys : List Arrival). arrived ys) c.remove_within.ensures.values
    ∙ arrived_without p xs h (is_handle c.args.conn c.args.number) (handle_within c.args.conn c.args.number)
    ∙ ap (λ pair. without_handle c.args.conn c.args.number pair.0) c.self.view_is

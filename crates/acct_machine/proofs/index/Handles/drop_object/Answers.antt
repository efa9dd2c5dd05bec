-- After `drop_object` both indices hold the same handles: those to other objects, in the order they came in.
use Rattle.std.proofs.Common.{◌≡◌, Bool, true, not, List, sym, ap, subst, ◌∙◌, rules, arith}
use Rattle.std.specs.List.{filter}
use Rattle.acct_tables.specs.Keys.{same_object}
use Rattle.acct_tables.specs.Keyed.{is_within, is_ascending, sorted}
use Rattle.acct_machine.specs.declared.arrivals.Arrival.{Arrival}
use Rattle.acct_machine.specs.declared.state.Held.{Held}
use Rattle.acct_machine.specs.State.{without_object}
use Rattle.acct_machine.specs.steps.Arrivals.{number_key, object_key, object_front}
use Rattle.acct_machine.specs.steps.Indexed.{arrived, CameBefore}
use Rattle.acct_machine.proofs.Indexes.{objects_left, others_alike, arrived_without, before_filter, object_within}
use Rattle.acct_machine.proofs.index.Handles.drop_object.Goals as goal

pub invariant_of-self : goal.invariant_of-self
invariant_of-self c =
    let xs : List Arrival = c.self.inside.numbers.0 in
    let p : Arrival → Bool = is_within object_key (object_front c.args.object) in
    let q : Arrival → Bool = λ a. same_object a.held.object c.args.object in
    let h : is_ascending number_key xs ≡ true = search rules in
    let now : c.leave_object.new.numbers.0 ≡ filter (λ x. not (p x)) xs =
    c.leave_object.ensures.others ∙ sym (others_alike p q (object_within c.args.object) xs) in
    record {
      same = c.remove_within.ensures.values
          ∙ ap (λ (ys : List Arrival). filter (λ x. not (p x)) ys) c.self.invariant.same
          ∙ objects_left p xs h ∙ ap (λ (ys : List Arrival). sorted object_key ys) (sym now);
      before = subst (λ (ys : List Arrival). CameBefore c.self.inside.next ys) (sym now)
          (before_filter c.self.inside.next (λ x. not (p x)) xs c.self.invariant.before);
      turns = c.self.invariant.turns;
      by_number = omega (arith, c.self.invariant.by_number, c.leave_object.ensures.room);
      by_object = omega (arith, c.self.invariant.by_object, c.remove_within.ensures.room);
    }

pub returns-clause-handles : goal.returns-clause-handles
returns-clause-handles c =
    let xs : List Arrival = c.self.inside.numbers.0 in
    let p : Arrival → Bool = is_within object_key (object_front c.args.object) in
    let q : Arrival → Bool = λ a. same_object a.held.object c.args.object in
    let h : is_ascending number_key xs ≡ true = search rules in
    ap (λ (ys : List Arrival). arrived ys)
    (c.leave_object.ensures.others ∙ sym (others_alike p q (object_within c.args.object) xs))
    ∙ arrived_without p xs h (λ (h : Held). same_object h.object c.args.object) (object_within c.args.object)
    ∙ ap (λ pair. without_object c.args.object pair.0) c.self.view_is

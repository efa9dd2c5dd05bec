-- After `drop_conn` both indices hold the same handles: those of other connections, in the order they came in.
use Rattle.std.proofs.Common.{◌≡◌, ◌==◌, Bool, true, not, List, sym, ap, subst, ◌∙◌, rules, arith}
use Rattle.std.specs.List.{filter}
use Rattle.acct_tables.specs.Keyed.{is_within, is_ascending, sorted}
use Rattle.acct_machine.specs.declared.arrivals.Arrival.{Arrival}
use Rattle.acct_machine.specs.declared.arrivals.Numbered.TheVariants as numbers
use Rattle.acct_machine.specs.declared.state.Held.{Held}
use Rattle.acct_machine.specs.State.{without_conn}
use Rattle.acct_machine.specs.steps.Arrivals.{number_key, number_front, object_key}
use Rattle.acct_machine.specs.steps.Indexed.{arrived, CameBefore}
use Rattle.acct_machine.proofs.Indexes.{objects_left, others_alike, arrived_without, before_filter, conn_within}
use Rattle.acct_machine.proofs.index.Handles.drop_conn.Goals as goal

pub invariant_of-self : goal.invariant_of-self
invariant_of-self c =
    let xs : List Arrival = c.self.inside.numbers.0 in
    let p : Arrival → Bool = is_within number_key (number_front (numbers.Conn c.args.conn)) in
    let h : is_ascending number_key xs ≡ true = search rules in
    let now : c.remove_within.new.self.0 ≡ filter (λ x. not (p x)) xs = c.remove_within.ensures.values in
    record {
      same = c.leave_conn.ensures.others
          ∙ ap (λ (ys : List Arrival). filter (λ a. not (a.held.conn == c.args.conn)) ys) c.self.invariant.same
          ∙ sym (others_alike p (λ a. a.held.conn == c.args.conn) (conn_within c.args.conn) (sorted object_key xs))
          ∙ objects_left p xs h ∙ ap (λ (ys : List Arrival). sorted object_key ys) (sym now);
      before = subst (λ (ys : List Arrival). CameBefore c.self.inside.next ys) (sym now)
          (before_filter c.self.inside.next (λ x. not (p x)) xs c.self.invariant.before);
      turns = c.self.invariant.turns;
      by_number = omega (arith, c.self.invariant.by_number, c.remove_within.ensures.room);
      by_object = omega (arith, c.self.invariant.by_object, c.leave_conn.ensures.room);
    }

pub returns-clause-handles : goal.returns-clause-handles
returns-clause-handles c =
    let xs : List Arrival = c.self.inside.numbers.0 in
    let p : Arrival → Bool = is_within number_key (number_front (numbers.Conn c.args.conn)) in
    let h : is_ascending number_key xs ≡ true = search rules in
    ap (λ (ys : List Arrival). arrived ys) c.remove_within.ensures.values
    ∙ arrived_without p xs h (λ (h : Held). h.conn == c.args.conn) (conn_within c.args.conn)
    ∙ ap (λ pair. without_conn c.args.conn pair.0) c.self.view_is

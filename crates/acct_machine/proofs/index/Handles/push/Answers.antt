-- A handle that comes in goes into both indices with the latest turn, so that it stands last among the handles.
use Rattle.std.proofs.Common.{◌≡◌, ◌+◌, true, List, [], ◌∷◌, ◌++◌, refl, sym, ap, subst, ◌∙◌, rules, arith}
use Rattle.acct_tables.specs.Keyed.{is_ascending, sorted, put}
use Rattle.acct_machine.specs.declared.arrivals.Arrival.{Arrival}
use Rattle.acct_machine.specs.steps.Arrivals.{number_key, object_key}
use Rattle.acct_machine.specs.steps.Indexed.{arrived, CameBefore}
use Rattle.acct_machine.proofs.Indexes.{objects_put, arrived_put, before_put}
use Rattle.acct_machine.proofs.index.Handles.push.Goals as goal

pub invariant_of-self : goal.invariant_of-self
invariant_of-self c =
    let xs : List Arrival = c.self.inside.numbers.0 in
    let a : Arrival = record { held = c.args.held; turn = c.self.inside.next } in
    let h : is_ascending number_key xs ≡ true = search rules in
    let seen : c.self.inside.spare ≡ c.args.self.now.1 = ap (λ pair. pair.1) c.self.view_is in
    let now : c.put.new.self.0 ≡ put number_key a xs = c.put.ensures.values in
    record {
      same = c.put-2.ensures.values ∙ ap (λ (ys : List Arrival). put object_key a ys) c.self.invariant.same
          ∙ sym (objects_put c.self.inside.next a refl xs c.self.invariant.before h)
          ∙ ap (λ (ys : List Arrival). sorted object_key ys) (sym now);
      before = subst (λ (ys : List Arrival). CameBefore (c.self.inside.next + 1) ys) (sym now)
          (before_put c.self.inside.next (c.self.inside.next + 1) a xs c.self.invariant.before refl (omega arith));
      turns = omega (arith, seen, c.requires, c.self.invariant.turns);
      by_number = omega (arith, seen, c.requires, c.self.invariant.by_number, c.put.ensures.room);
      by_object = omega (arith, seen, c.requires, c.self.invariant.by_object, c.put-2.ensures.room);
    }

pub returns-clause-handles : goal.returns-clause-handles
returns-clause-handles c =
    let xs : List Arrival = c.self.inside.numbers.0 in
    let a : Arrival = record { held = c.args.held; turn = c.self.inside.next } in
    let h : is_ascending number_key xs ≡ true = search rules in
    ap (λ (ys : List Arrival). arrived ys) c.put.ensures.values
    ∙ arrived_put c.self.inside.next a refl xs c.self.invariant.before h
    ∙ ap (λ pair. pair.0 ++ c.args.held ∷ []) c.self.view_is

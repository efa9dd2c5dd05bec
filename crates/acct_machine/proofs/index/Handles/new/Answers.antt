-- Where no handle came in, both indices are empty, and so is the list of handles.
use Rattle.std.proofs.Common.{List, sym, ap, subst, ◌∙◌, arith}
use Rattle.acct_tables.specs.Keyed.{sorted}
use Rattle.acct_machine.specs.declared.arrivals.Arrival.{Arrival}
use Rattle.acct_machine.specs.steps.Arrivals.{object_key}
use Rattle.acct_machine.specs.steps.Indexed.{arrived, CameBefore}
use Rattle.acct_machine.proofs.Indexes.{none_arrived}
use Rattle.acct_machine.proofs.index.Handles.new.Goals as goal

pub invariant_of-result : goal.invariant_of-result
invariant_of-result c = record {
  same = c.new-2.ensures.values ∙ ap (λ (xs : List Arrival). sorted object_key xs) (sym c.new.ensures.values);
  before = subst (λ (xs : List Arrival). CameBefore 0 xs) (sym c.new.ensures.values) tt;
  turns = omega arith;
  by_number = omega arith;
  by_object = omega arith;
}

pub returns : goal.returns
returns c = ap (λ (xs : List Arrival). (arrived xs, 0)) c.new.ensures.values ∙ ap (λ hs. (hs, 0)) none_arrived

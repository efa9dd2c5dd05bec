-- The handles to an object, taken by key from the index by number, leave those to other objects there.
use Rattle.std.proofs.Common.{◌≡◌, Bool, true, List, ap, ◌∙◌, rules}
use Rattle.std.specs.List.{filter}
use Rattle.acct_tables.specs.Keys.{same_object}
use Rattle.acct_tables.specs.Keyed.{is_within, is_ascending, without_all}
use Rattle.acct_machine.specs.declared.arrivals.Arrival.{Arrival}
use Rattle.acct_machine.specs.steps.Arrivals.{number_key, object_key, object_front}
use Rattle.acct_machine.proofs.Indexes.{numbers_gone, others_alike, object_within}
use Rattle.acct_machine.proofs.index.leave_object.Goals as goal

pub returns-clause-others : goal.returns-clause-others
returns-clause-others c =
    let xs : List Arrival = c.args.numbers.now.0 in
    let object = c.args.object.now in
    let p : Arrival → Bool = is_within object_key (object_front object) in
    let h : is_ascending number_key xs ≡ true = search rules in
    let gone : c.within-gone.result.now ≡ filter p c.args.objects.now.0 = c.within-gone.ensures in
    c.remove_all.ensures.values
    ∙ ap (λ (ys : List Arrival). without_all number_key ys xs)
    (gone ∙ ap (λ (ys : List Arrival). filter p ys) c.requires)
    ∙ numbers_gone p xs h
    ∙ others_alike p (λ a. same_object a.held.object object) (object_within object) xs

-- The ends are sorted by the numbers of their connections.
use Rattle.std.proofs.Common.{refl, rules}
use Rattle.std.proofs.lemmas.List.Sorted.{IsNonDecreasingBy-from_sort_by_key}
use Rattle.link_sessions.specs.declared.ends.Ended.{Ended}
use Rattle.door_workers.proofs.Outcomes.{is-no-want}
use Rattle.door_workers.proofs.joining.Sum.sort.Goals as goal

pub returns-in-Closed : goal.returns-in-Closed
returns-in-Closed c =
    let e = c.sort_unstable_by_key.ensures in
    record {
      outcome = refl;
      none = λ same. absurd (is-no-want c.args.self.now.outcome c.in-Closed.is same);
      all = λ not. (
        e.permutation,
        IsNonDecreasingBy-from_sort_by_key (λ (end : Ended). end.conn) c.sort_unstable_by_key.new.self.items e.sorted
            (λ a r f' k. search rules),
      );
    }

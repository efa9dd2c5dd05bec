-- The names so far have their RIDs and uses.
use Rattle.std.proofs.Common.{◌≡◌, take, map}
use Rattle.acct_rows.specs.Rows.{find_name}
use Rattle.acct_rules.specs.Asked.{asked_names}
use Rattle.samr_objects.specs.Domains.{rid_in, use_in}
use Rattle.samr_objects.proofs.lookups.look_names.Given as goal

abbrev pub invariant-loop-name : goal.invariant-loop-name
invariant-loop-name l =
    let found = map (find_name l.rows.lists (l.domain)) (take l.name-index (asked_names l.args)) in
    record { rids : l.rids ≡ map rid_in found; uses : l.uses ≡ map use_in found }

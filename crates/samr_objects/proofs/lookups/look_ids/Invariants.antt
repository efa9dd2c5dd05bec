-- The RIDs so far have their names and uses.
use Rattle.std.proofs.Common.{◌≡◌, take, map}
use Rattle.acct_rows.specs.Rows.{account_at}
use Rattle.acct_rules.specs.Asked.{asked_rids}
use Rattle.samr_objects.specs.Domains.{name_in, use_in}
use Rattle.samr_objects.proofs.lookups.look_ids.Given as goal

abbrev pub invariant-loop-rid : goal.invariant-loop-rid
invariant-loop-rid l =
    let found = map (account_at l.rows.lists (l.domain)) (take l.rid-index (asked_rids l.args)) in
    record { names : l.names ≡ map name_in found; uses : l.uses ≡ map use_in found }

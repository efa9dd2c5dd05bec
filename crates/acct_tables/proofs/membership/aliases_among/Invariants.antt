-- The RIDs so far are the aliases of the domain that have the SIDs passed as members, SID by SID.
use Rattle.std.proofs.Common.{◌≡◌, take}
use Rattle.acct_tables.specs.steps.Indexes.{held_by}
use Rattle.acct_tables.proofs.membership.aliases_among.Given as goal

abbrev pub invariant-loop-sid : goal.invariant-loop-sid
invariant-loop-sid l = l.rids.items ≡ held_by l.domain l.rows (take l.sid-index l.sids)

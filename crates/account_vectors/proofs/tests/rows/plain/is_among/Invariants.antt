-- None of the SIDs that were passed is this one: what is to come decides.
use Rattle.std.proofs.Common.{◌≡◌, drop}
use Rattle.std.specs.List.{list_any}
use Rattle.dtyp_sid.specs.Sids.{sid_eq}
use Rattle.account_vectors.proofs.tests.rows.plain.is_among.Given as goal

abbrev pub invariant-loop-other : goal.invariant-loop-other
invariant-loop-other l = list_any (sid_eq l.sid) (drop l.other-index l.sids) ≡ list_any (sid_eq l.sid) l.sids

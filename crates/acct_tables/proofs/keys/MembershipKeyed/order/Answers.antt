-- Comparing the SIDs, then the domains, then the aliases is comparing the keys of the memberships.
use Rattle.std.proofs.Common.{◌≡◌, sym, ◌∙◌, rules}
use Rattle.std.specs.Ordering.{nat_cmp, ordering_then}
use Rattle.dtyp_sid.specs.Sids.{sid_cmp}
use Rattle.acct_tables.proofs.Holding.{held_order}
use Rattle.acct_tables.proofs.keys.MembershipKeyed.order.Goals as goal

pub returns : goal.returns
returns c =
    let row = c.args.row.now in
    let key = c.args.key.now in
    let is : c.then-2.result
    ≡ ordering_then (ordering_then (sid_cmp row.member key.0) (nat_cmp row.domain key.1)) (nat_cmp row.alias key.2) =
    search rules in
    is ∙ sym (held_order row.member key.0 row.domain key.1 row.alias key.2)

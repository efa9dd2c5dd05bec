-- `stored_at` meets its contract: what is found has a spelling.
use Rattle.std.proofs.Common.{[], ◌∷◌}
use Rattle.acct_tables.specs.Keys.{domain_key, account_key, member_key, alias_key, lsa_key, desc_key, out_key}
use Rattle.acct_tables.specs.Keys.{sid_key, object_key}
use Rattle.acct_tables.specs.Spelled.{FitsDomain, FitsAccount, FitsMember, FitsAlias, FitsLsa, FitsDesc, FitsOut}
use Rattle.acct_rows.proofs.RowsAt.{found_fits}
use Rattle.acct_rows.proofs.pairs.changes.stored_at.Goals as goal

pub found_pair-requires : goal.found_pair-requires
found_pair-requires c =
    found_fits FitsDomain domain_key (c.in-Domain.number ∷ []) c.args.rows.now.lists.domains c.requires.domains _
    c.domain.ensures

pub found_pair-requires-in-Account : goal.found_pair-requires-in-Account
found_pair-requires-in-Account c =
    found_fits FitsAccount account_key (c.in-Account.domain ∷ c.in-Account.rid ∷ []) c.args.rows.now.lists.accounts
    c.requires.accounts _ c.find_rid.ensures

pub found_pair-requires-in-Member : goal.found_pair-requires-in-Member
found_pair-requires-in-Member c =
    found_fits FitsMember member_key (c.in-Member.group ∷ c.in-Member.user ∷ []) c.args.rows.now.lists.members
    c.requires.members _ c.member.ensures

pub found_pair-requires-in-Alias : goal.found_pair-requires-in-Alias
found_pair-requires-in-Alias c =
    found_fits FitsAlias alias_key (c.in-Alias.domain ∷ c.in-Alias.alias ∷ sid_key c.in-Alias.member)
    c.args.rows.now.lists.aliases c.requires.aliases _ c.alias_row.ensures

pub found_pair-requires-in-Lsa : goal.found_pair-requires-in-Lsa
found_pair-requires-in-Lsa c =
    found_fits FitsLsa lsa_key (sid_key c.in-Lsa.sid) c.args.rows.now.lists.lsa c.requires.lsa _ c.lsa_account.ensures

pub found_pair-requires-in-Desc : goal.found_pair-requires-in-Desc
found_pair-requires-in-Desc c =
    found_fits FitsDesc desc_key (object_key c.in-Desc.object) c.args.rows.now.lists.descriptors c.requires.descriptors _
    c.descriptor_row.ensures

pub found_pair-requires-in-Out : goal.found_pair-requires-in-Out
found_pair-requires-in-Out c =
    found_fits FitsOut out_key (c.in-Out.number ∷ []) c.args.rows.now.lists.outs c.requires.outs _ c.out_row.ensures

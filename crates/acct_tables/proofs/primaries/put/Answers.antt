-- Without the old entry, and with the new one put, the entries are those of the accounts with the row put.
use Rattle.std.proofs.Common.{ap, ◌∙◌}
use Rattle.acct_tables.specs.KeyedRows.{put, without}
use Rattle.acct_tables.specs.steps.Primaries.{primary_key, by_primary, primaries_of}
use Rattle.acct_tables.specs.Keys.{account_key}
use Rattle.acct_tables.proofs.PrimaryGroups.{primaries_put}
use Rattle.acct_tables.proofs.primaries.put.Goals as goal

pub returns-clause-entries : goal.returns-clause-entries
returns-clause-entries c =
    let accounts = c.args.accounts.now in
    let others = c.remove.ensures.entries ∙ ap (λ k. primaries_of (without account_key k accounts)) c.key.ensures in
    c.put.ensures.rows ∙ ap (λ e. put primary_key e c.remove.new.entries.0) c.by_primary.ensures
    ∙ ap (put primary_key (by_primary c.args.row.now)) others
    ∙ primaries_put accounts c.requires.rows c.args.row.now

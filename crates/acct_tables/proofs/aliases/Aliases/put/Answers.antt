-- A row put among the alias rows is put in the index by SID as well, which stays the memberships of the rows.
use Rattle.std.proofs.Common.{◌≡◌, true, sym, ap, ◌∙◌, rules}
use Rattle.acct_tables.specs.steps.Indexes.{membership_key, membership_of, memberships_of}
use Rattle.acct_tables.specs.KeyedRows.{put, is_ascending}
use Rattle.acct_tables.specs.Keys.{alias_key}
use Rattle.acct_tables.proofs.Holding.{memberships_put}
use Rattle.acct_tables.proofs.aliases.Aliases.put.Goals as goal

pub invariant_of-self : goal.invariant_of-self
invariant_of-self c =
    let h : is_ascending alias_key c.self.inside.rows.0 ≡ true = search rules in (
      c.put.ensures.rows ∙ ap (λ m. put membership_key m c.self.inside.memberships.0) c.entry_of.ensures
          ∙ ap (put membership_key (membership_of c.args.row)) c.self.invariant.0
          ∙ memberships_put c.self.inside.rows.0 h c.args.row ∙ ap memberships_of (sym c.put-2.ensures.rows),
      search rules,
      search rules,
    )

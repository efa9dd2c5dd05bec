-- A row taken from the alias rows is taken from the index by SID as well, which stays the memberships of the rows.
use Rattle.std.proofs.Common.{◌≡◌, true, sym, ap, ◌∙◌, rules}
use Rattle.acct_tables.specs.steps.Indexes.{held, membership_key, memberships_of}
use Rattle.acct_tables.specs.KeyedRows.{without, is_ascending}
use Rattle.acct_tables.specs.Keys.{alias_key}
use Rattle.acct_tables.proofs.Holding.{memberships_without}
use Rattle.acct_tables.proofs.aliases.Aliases.remove.Goals as goal

pub invariant_of-self : goal.invariant_of-self
invariant_of-self c =
    let key = c.args.key.now in
    let h : is_ascending alias_key c.self.inside.rows.0 ≡ true = search rules in (
      c.remove.ensures.rows ∙ ap (without membership_key (held key.2 key.0 key.1)) c.self.invariant.0
          ∙ memberships_without c.self.inside.rows.0 h key.0 key.1 key.2
          ∙ ap memberships_of (sym c.remove-2.ensures.rows),
      search rules,
      search rules,
    )

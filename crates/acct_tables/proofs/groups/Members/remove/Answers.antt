-- A row taken from the member rows is taken from the index by user as well, which stays that of the rows.
use Rattle.std.proofs.Common.{◌≡◌, true, [], ◌∷◌, sym, ap, ◌∙◌, rules}
use Rattle.acct_tables.specs.KeyedRows.{without, is_ascending}
use Rattle.acct_tables.specs.Keys.{member_key}
use Rattle.acct_tables.specs.steps.Users.{user_key, users_of}
use Rattle.acct_tables.proofs.Users.{users_without}
use Rattle.acct_tables.proofs.groups.Members.remove.Goals as goal

pub invariant_of-self : goal.invariant_of-self
invariant_of-self c =
    let key = c.args.key.now in
    let h : is_ascending member_key c.self.inside.rows.0 ≡ true = search rules in (
      c.remove.ensures.rows ∙ ap (without user_key (key.1 ∷ key.0 ∷ [])) c.self.invariant.0
          ∙ users_without c.self.inside.rows.0 h key.0 key.1 ∙ ap users_of (sym c.remove-2.ensures.rows),
      search rules,
      search rules,
    )

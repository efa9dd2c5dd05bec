-- A row put among the member rows is put in the index by user as well, which stays that of the rows.
use Rattle.std.proofs.Common.{◌≡◌, true, sym, ap, ◌∙◌, rules}
use Rattle.acct_tables.specs.KeyedRows.{put, is_ascending}
use Rattle.acct_tables.specs.Keys.{member_key}
use Rattle.acct_tables.specs.steps.Users.{user_key, by_user, users_of}
use Rattle.acct_tables.proofs.Users.{users_put}
use Rattle.acct_tables.proofs.groups.Members.put.Goals as goal

pub invariant_of-self : goal.invariant_of-self
invariant_of-self c =
    let h : is_ascending member_key c.self.inside.rows.0 ≡ true = search rules in (
      c.put.ensures.rows ∙ ap (put user_key (by_user c.args.row)) c.self.invariant.0
          ∙ users_put c.self.inside.rows.0 h c.args.row ∙ ap users_of (sym c.put-2.ensures.rows),
      search rules,
      search rules,
    )

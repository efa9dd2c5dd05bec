-- The RIDs that the index by SID gives, ascending and each once, are those of the aliases with one of the SIDs.
use Rattle.std.proofs.Common.{◌≡◌, true, rules, subst}
use Rattle.std.specs.Result.{IfOk}
use Rattle.std.specs.Prelude.{◌↔◌, ℕ}
use Rattle.std.specs.List.{Contains}
use Rattle.acct_tables.specs.steps.Indexes.{held_by, memberships_of}
use Rattle.acct_tables.specs.KeyedRows.{is_ascending}
use Rattle.acct_tables.specs.Keys.{alias_key}
use Rattle.acct_tables.proofs.Holding.{held_are_found}
use Rattle.acct_tables.proofs.aliases.Aliases.aliases_of.Goals as goal

pub returns-clause-rids : goal.returns-clause-rids
returns-clause-rids c =
    let aliases = c.args.self.now.0 in
    let d = c.args.domain in
    let sids = c.args.sids.now in
    let h : is_ascending alias_key aliases ≡ true = search rules in
    let index : c.rows.result.now ≡ memberships_of aliases = search rules in
    let members : IfOk c.aliases_among.result (λ ns. (n : ℕ)
    → Contains ns n ↔ Contains (held_by d (memberships_of aliases) sids) n) =
    subst (λ ms. IfOk c.aliases_among.result (λ ns. (n : ℕ) → Contains ns n ↔ Contains (held_by d ms sids) n)) index
    c.aliases_among.ensures.members in
    held_are_found d sids aliases c.aliases_among.result h c.aliases_among.ensures.rising members

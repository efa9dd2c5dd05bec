-- An account's alias rows are, in order, those with its SID below it, its members, and those with its SID above it.
use Rattle.std.proofs.Common.{◌≡◌, Bool, true, false, ◌++◌, map, ap, ◌∙◌, rules}
use Rattle.std.specs.List.{filter}
use Rattle.acct_tables.specs.steps.Indexes.{memberships_of}
use Rattle.acct_tables.specs.KeyedRows.{is_ascending}
use Rattle.acct_tables.specs.Selected.{key_of_alias, is_alias_row_of, is_in_alias}
use Rattle.acct_tables.specs.Keys.{alias_key}
use Rattle.acct_tables.specs.steps.Naming.{is_beside_alias, has_sid, alias_row}
use Rattle.acct_tables.proofs.NamedRows.{pushed, is_held, held_found, aliases_are}
use Rattle.acct_tables.proofs.aliases.Aliases.push_keys.Goals as goal

pub returns : goal.returns
returns c =
    let aliases = c.args.self.now.0 in
    let d = c.args.domain in
    let rid = c.args.rid in
    let sid = c.args.sid.now in
    let h : is_ascending alias_key aliases ≡ true = search rules in
    let index : c.rows.result.now ≡ memberships_of aliases = search rules in
    let own = filter (is_held sid) aliases in
    let held : map alias_row c.memberships_among-held.result.now ≡ own =
    ap (map alias_row) (c.memberships_among-held.ensures ∙ ap (filter (has_sid sid)) index)
    ∙ held_found sid aliases h in
    let side = λ (above : Bool). ap (λ xs. map key_of_alias (filter (is_beside_alias above d rid) xs)) held in
    pushed key_of_alias (filter (is_alias_row_of d rid sid) aliases) (filter (is_beside_alias false d rid) own)
    (filter (is_in_alias d rid) aliases) (filter (is_beside_alias true d rid) own) _ _ _ _
    (aliases_are d rid sid aliases h)
    (c.in_ok-push_memberships.ensures ∙ ap (λ ks. c.args.keys.now ++ ks) (side false))
    (c.in_ok-push_aliases.ensures ∙ ap (λ xs. c.push_memberships.new.keys ++ map key_of_alias xs) c.members.ensures)
    (c.in_ok-push_memberships-2.ensures ∙ ap (λ ks. c.push_aliases.new.keys ++ ks) (side true))

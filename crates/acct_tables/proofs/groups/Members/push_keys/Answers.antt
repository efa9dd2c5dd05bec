-- In the account domain an account's member rows are its lower groups, its members and its higher groups; else none.
use Rattle.std.proofs.Common.{◌≡◌, ◌==◌, Bool, true, false, ◌++◌, map, sym, ap, ◌∙◌, arith, rules}
use Rattle.std.proofs.lemmas.Bool.Decides.{nat_tests}
use Rattle.std.proofs.lemmas.List.{append-nil}
use Rattle.std.specs.List.{filter}
use Rattle.acct_tables.specs.KeyedRows.{is_ascending}
use Rattle.acct_tables.specs.Selected.{key_of_member, is_member_of, is_in_group, is_of_user}
use Rattle.acct_tables.specs.Keys.{member_key}
use Rattle.acct_tables.specs.steps.Naming.{is_beside_group}
use Rattle.acct_tables.proofs.NamedRows.{pushed, no_members, members_are}
use Rattle.acct_tables.proofs.groups.Members.push_keys.Goals as goal

pub returns-then-domain-ne-ACCOUNT_DOMAIN : goal.returns-then-domain-ne-ACCOUNT_DOMAIN
returns-then-domain-ne-ACCOUNT_DOMAIN c =
    let keys = c.args.keys.now in
    let other : (c.args.domain == 0) ≡ false = grind (arith, nat_tests) in
    sym (append-nil keys)
    ∙ ap (λ ms. keys ++ map key_of_member ms) (sym (no_members c.args.domain c.args.rid c.args.self.now.0 other))

pub returns : goal.returns
returns c =
    let members = c.args.self.now.0 in
    let rid = c.args.rid in
    let here : (c.args.domain == 0) ≡ true = grind (arith, nat_tests) in
    let h : is_ascending member_key members ≡ true = search rules in
    let own = filter (is_of_user rid) members in
    let side = λ (above : Bool). ap (λ ms. map key_of_member (filter (is_beside_group above rid) ms))
    c.groups-groups.ensures in
    pushed key_of_member (filter (is_member_of c.args.domain rid) members) (filter (is_beside_group false rid) own)
    (filter (is_in_group rid) members) (filter (is_beside_group true rid) own) _ _ _ _
    (members_are c.args.domain rid members here h)
    (c.in_ok-push_groups.ensures ∙ ap (λ ks. c.args.keys.now ++ ks) (side false))
    (c.in_ok-push_members.ensures
    ∙ ap (λ ms. c.push_groups.new.keys ++ map key_of_member ms) c.members.ensures)
    (c.in_ok-push_groups-2.ensures ∙ ap (λ ks. c.push_members.new.keys ++ ks) (side true))

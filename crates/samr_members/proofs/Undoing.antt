-- A member that was added may be removed, and the rows then are as they were.
use Rattle.std.proofs.Common.{◌≡◌, ℕ, Bool, true, false, not, Option, Some, None, is_some, refl, sym, ap, subst}
use Rattle.std.proofs.Common.{◌∙◌, arith}
use Rattle.std.specs.Prelude.{◌&&◌}
use Rattle.std.proofs.lemmas.Bool.Decides.{nat_tests}
use Rattle.acct_calls.specs.declared.calls.Args.{Args}
use Rattle.acct_codes.specs.declared.kind.Kind.TheVariants as kind
use Rattle.acct_rows.specs.Laws.{EachIsGood, PutsAreFound, PutsAreUndone}
use Rattle.acct_tables.specs.Keys.{domain_of, rid_of}
use Rattle.acct_rows.specs.Rows.{Lists, account_at, member_at, alias_row_at, is_of, after, remove_row}
use Rattle.acct_rows.specs.Sound.{IsSoundRows}
use Rattle.acct_tables.specs.declared.object.Object.{Object}
use Rattle.acct_tables.specs.declared.row.AccountRow.{AccountRow}
use Rattle.acct_tables.specs.declared.row.RowKey.TheVariants as keys
use Rattle.acct_rules.specs.Asked.{asked_rid, asked_sid}
use Rattle.acct_rules.specs.Planned.{none_fails, puts, removes}
use Rattle.dtyp_sid.specs.Sids.{SidValue}
use Rattle.samr_members.specs.Members.{is_alias_member, added_row, added_rows, removed_keys, add_alias_member}
use Rattle.samr_members.specs.Members.{remove_alias_member, added_rid, added_member, is_user, is_member, is_primary}
use Rattle.samr_members.specs.Members.{has_primary, add_group_member, remove_group_member}
use Rattle.samr_members.specs.Laws.{with_member, with_alias_member}

-- ---- conditions

first-is : (u rest : Bool) → (not (not u) && rest) ≡ true → u ≡ true
first-is true rest none = refl
first-is false rest none = cc

second-is : (u m : Bool) → (not (not u) && (not m && true)) ≡ true → m ≡ false
second-is true true none = cc
second-is true false none = refl
second-is false m none = cc

only-is : (m : Bool) → (not m && true) ≡ true → m ≡ false
only-is true none = cc
only-is false none = refl

none-there : {A : Type 0} (o : Option A) → is_some o ≡ false → o ≡ None
none-there None is = refl
none-there (Some a) is = cc

all-hold : (u m p : Bool) → u ≡ true → m ≡ true → p ≡ false
    → (not (not u) && (not (not m) && (not p && true))) ≡ true
all-hold u m p user member primary = rw (user, member, primary) refl

-- ---- groups

-- a user that isn't a member of a group doesn't have it as its primary group
not-primary : EachIsGood → (r : Lists) (group user : ℕ) (o : Option AccountRow) (b : Bool) → IsSoundRows r
    → account_at r 0 user ≡ o → is_of kind.User o ≡ true → is_member r group user ≡ false → has_primary group o ≡ b
    → b ≡ false
not-primary each r group user None b sound there is-user apart is = cc
not-primary each r group user (Some a) false sound there is-user apart is = refl
not-primary each r group user (Some a) true sound there is-user apart is =
    let primary : a.primary ≡ group = grind (arith, nat_tests, is) in
    let rid : a.rid ≡ user = (each r sound).account_rid 0 user a there in
    let member : is_some (member_at r a.primary a.rid) ≡ true =
    (sound.account_rules 0 user a there).primary_member is-user in
    let moved : is_some (member_at r group user) ≡ true =
    subst (λ g. is_some (member_at r g user) ≡ true) primary
    (subst (λ u. is_some (member_at r a.primary u) ≡ true) rid member) in
    cc (moved, apart)

abbrev Allows : Lists → Object → Args → ℕ → Type 0
Allows r group added rid =
    (not (not (is_user (with_member r group added) rid))
    && (not (not (is_member (with_member r group added) (rid_of group) rid))
    && (not (is_primary (with_member r group added) (rid_of group) rid) && true)))
    ≡ true

pub group-allows : EachIsGood → PutsAreFound → (r : Lists) (group : Object) (added removed : Args) → IsSoundRows r
    → none_fails (add_group_member r group added).conditions ≡ true → asked_rid removed ≡ added_rid added
    → none_fails (remove_group_member (with_member r group added) group removed).conditions ≡ true
group-allows each found r group added removed sound none same =
    let rid = added_rid added in
    let user : is_user r rid ≡ true = first-is (is_user r rid) _ none in
    let apart : is_member r (rid_of group) rid ≡ false =
    second-is (is_user r rid) (is_member r (rid_of group) rid) none in
    let here : is_member (with_member r group added) (rid_of group) rid ≡ true =
    ap is_some ((found r).member (added_member group added)) in
    let primary : is_primary r (rid_of group) rid ≡ false =
    not-primary each r (rid_of group) rid (account_at r 0 rid) (is_primary r (rid_of group) rid) sound refl user apart
    refl in
    subst (Allows r group added) (sym same)
    (all-hold (is_user (with_member r group added) rid) (is_member (with_member r group added) (rid_of group) rid)
    (is_primary (with_member r group added) (rid_of group) rid) user here primary)

pub group-undone : PutsAreUndone → (r : Lists) (group : Object) (added removed : Args)
    → none_fails (add_group_member r group added).conditions ≡ true → asked_rid removed ≡ added_rid added
    → after (remove_group_member (with_member r group added) group removed).planned.plan (with_member r group added)
    ≡ r
group-undone undone r group added removed none same =
    let apart : is_member r (rid_of group) (added_rid added) ≡ false =
    second-is (is_user r (added_rid added)) (is_member r (rid_of group) (added_rid added)) none in
    ap (λ rid. remove_row (keys.Member (rid_of group) rid) (with_member r group added)) same
    ∙ (undone r).member (added_member group added)
    (none-there (member_at r (rid_of group) (added_rid added)) apart)

-- ---- aliases

back : PutsAreUndone → (r : Lists) (alias : Object) (sid : Option SidValue) → is_alias_member r alias sid ≡ false
    → after (removes (removed_keys alias sid)).plan (after (puts (added_rows alias sid)).plan r) ≡ r
back undone r alias None apart = refl
back undone r alias (Some sid) apart =
    (undone r).alias (added_row alias sid)
    (none-there (alias_row_at r (domain_of alias) (rid_of alias) sid) apart)

pub alias-undone : PutsAreUndone → (r : Lists) (alias : Object) (added removed : Args)
    → none_fails (add_alias_member r alias added).conditions ≡ true → asked_sid removed ≡ asked_sid added
    → after (remove_alias_member (with_alias_member r alias added) alias removed).planned.plan
    (with_alias_member r alias added) ≡ r
alias-undone undone r alias added removed none same =
    ap (λ sid. after (removes (removed_keys alias sid)).plan (with_alias_member r alias added)) same
    ∙ back undone r alias (asked_sid added) (only-is (is_alias_member r alias (asked_sid added)) none)

-- Deletions have their statuses and outputs, and leave sound rows with nothing of the account.
use Rattle.std.proofs.Common.{◌≡◌, ℕ, ◌<◌, ◌≤◌, ◌==◌, nat_lt, nat_le, Bool, true, false, ◌&&◌, ◌||◌, not, cond}
use Rattle.std.proofs.Common.{List, [], ◌∷◌, length, Option, Some, None, is_some, refl, sym, ap, subst, ◌∙◌, arith}
use Rattle.std.proofs.Common.{lit<}
use Rattle.std.specs.Cmp.{first_so, second_so}
use Rattle.std.specs.List.{list_any}
use Rattle.std.specs.Prelude.{zero, suc}
use Rattle.std.proofs.lemmas.Bool.Decides.{nat_tests}
use Rattle.acct_calls.specs.Names.{is_domain_sid}
use Rattle.acct_calls.specs.declared.replies.Outs.TheVariants as outs
use Rattle.acct_codes.specs.Limits.{most_domain_subs}
use Rattle.acct_codes.specs.Accounts.{domain_group_rid_users, first_created_rid}
use Rattle.acct_codes.specs.Statuses.{status_success}
use Rattle.acct_codes.specs.declared.kind.Kind.{Kind}
use Rattle.acct_codes.specs.declared.kind.Kind.TheVariants as kind
use Rattle.acct_layouts.specs.ReplyShapes.{HasShape}
use Rattle.acct_layouts.specs.Table.{samr_layout, lsa_layout}
use Rattle.acct_tables.specs.KeyedRows.{same_key, at}
use Rattle.acct_rows.specs.Laws.{EachIsGood, IsNoPrimary, OthersAreNoPrimary, RemovedAccountsStaySound, NamingIsRemoved}
use Rattle.acct_rows.specs.Laws.{IsWithout, RemovedDescriptorsStaySound}
use Rattle.acct_rows.specs.Rows.{exists}
use Rattle.acct_tables.specs.Keys.{kind_of, domain_of, rid_of, same_object}
use Rattle.acct_rows.specs.Rows.{Lists, domain_at, account_at, is_of, after}
use Rattle.acct_tables.specs.Keys.{domain_key, account_key}
use Rattle.acct_tables.specs.Selected.{same_kind}
use Rattle.acct_rows.specs.Rows.{is_primary, remove_row}
use Rattle.acct_tables.specs.Selected.{has_primary}
use Rattle.acct_rows.specs.Sound.{IsSoundRows, next_rid_of}
use Rattle.acct_tables.specs.Good.{IsGoodDomain, is_account_kind}
use Rattle.acct_tables.specs.declared.object.Object.{Object}
use Rattle.acct_tables.specs.declared.object.Object.TheVariants as objects
use Rattle.acct_tables.specs.declared.row.AccountRow.{AccountRow}
use Rattle.acct_tables.specs.declared.row.DomainRow.{DomainRow}
use Rattle.acct_tables.specs.declared.row.RowKey.TheVariants as keys
use Rattle.acct_rules.specs.Operations.{IsRight, KeepsRows, Keeps}
use Rattle.acct_calls.specs.Calls.{zero_handle}
use Rattle.acct_rules.specs.Planned.{answers}
use Rattle.acct_rules.specs.declared.planned.Effect.TheVariants as effects
use Rattle.acct_rules.specs.declared.planned.Planned.{Planned}
use Rattle.dtyp_sid.specs.Sids.{with_last, SidValue}
use Rattle.samr_objects.specs.Accounts.{is_special, account_sid, keys_of, deletes}
use Rattle.samr_objects.specs.Domains.{sid_of_rid}
use Rattle.samr_objects.specs.Laws.{IsGone, Deletes}
use Rattle.samr_objects.specs.Table.{delete_group_in_domain, delete_alias_in_domain, delete_user_in_domain}
use Rattle.samr_objects.proofs.Modest.{modest-keys}

-- ---- statuses and outputs

pub delete_group-right : IsRight delete_group_in_domain
unfolding HasShape samr_layout lsa_layout
delete_group-right = record {
  laid_out = refl;
  refuses = λ r described object asked. refl;
  succeeds = λ r described object asked. refl;
  frugal = λ r described object asked. refl;
  modest = λ r described object asked. modest-keys r object (account_sid r object);
  shaped = λ r described object call few is none. (lit< tt, lit< tt, λ refused. refl);
}

pub delete_alias-right : IsRight delete_alias_in_domain
unfolding HasShape samr_layout lsa_layout
delete_alias-right = record {
  laid_out = refl;
  refuses = λ r described object asked. refl;
  succeeds = λ r described object asked. refl;
  frugal = λ r described object asked. refl;
  modest = λ r described object asked. modest-keys r object (account_sid r object);
  shaped = λ r described object call few is none. (lit< tt, lit< tt, λ refused. refl);
}

pub delete_user-right : IsRight delete_user_in_domain
unfolding HasShape samr_layout lsa_layout
delete_user-right = record {
  laid_out = refl;
  refuses = λ r described object asked. refl;
  succeeds = λ r described object asked. refl;
  frugal = λ r described object asked. refl;
  modest = λ r described object asked. modest-keys r object (account_sid r object);
  shaped = λ r described object call few is none. (lit< tt, lit< tt, λ refused. refl);
}

-- ---- conditions

-- the first condition doesn't fail, nor does the second
pub first-holds : (a b : Bool) → (not a && b) ≡ true → a ≡ false
first-holds true b h = cc
first-holds false b h = refl

pub second-holds : (a b : Bool) → (not a && (not b && true)) ≡ true → b ≡ false
second-holds true b h = cc
second-holds false true h = cc
second-holds false false h = refl

-- ---- the account

pub one-kind : (j k : Kind) → same_kind j k ≡ true → j ≡ k
one-kind kind.Server kind.Server h = refl
one-kind kind.Domain kind.Domain h = refl
one-kind kind.Group kind.Group h = refl
one-kind kind.Alias kind.Alias h = refl
one-kind kind.User kind.User h = refl
one-kind kind.Policy kind.Policy h = refl
one-kind kind.Account kind.Account h = refl
one-kind j k h = cc

-- an object of a kind that accounts have
pub is-account : (k : Kind) (object : Object) → is_account_kind k ≡ true → same_kind k (kind_of object) ≡ true
    → is_account_kind (kind_of object) ≡ true
is-account k object account taken = ap is_account_kind (sym (one-kind k (kind_of object) taken)) ∙ account

pub kind-there : (r : Lists) (object : Object) → is_account_kind (kind_of object) ≡ true → exists r object ≡ true
    → is_of (kind_of object) (account_at r (domain_of object) (rid_of object)) ≡ true
kind-there r objects.Server account there = cc
kind-there r (objects.Domain n) account there = cc
kind-there r (objects.Group rid) account there = there
kind-there r (objects.Alias n rid) account there = there
kind-there r (objects.User rid) account there = there
kind-there r objects.Policy account there = cc
kind-there r (objects.Account sid) account there = cc

some-there : (k : Kind) (o : Option AccountRow) → is_of k o ≡ true → (a : AccountRow) × (o ≡ Some a)
some-there k None is = cc
some-there k (Some a) is = (a, refl)

pub account-there : (r : Lists) (object : Object) → is_account_kind (kind_of object) ≡ true → exists r object ≡ true
    → (a : AccountRow) × (account_at r (domain_of object) (rid_of object) ≡ Some a)
account-there r object account there =
    some-there (kind_of object) (account_at r (domain_of object) (rid_of object)) (kind-there r object account there)

-- its RID is below the next one
rid-below : EachIsGood → (r : Lists) (domain rid : ℕ) (a : AccountRow) → IsSoundRows r
    → account_at r domain rid ≡ Some a → rid < next_rid_of (domain_at r domain)
rid-below each r domain rid a sound there =
    subst (λ n. n < next_rid_of (domain_at r domain)) ((each r sound).account_rid domain rid a there)
    (subst (λ n. a.rid < next_rid_of (domain_at r n)) ((each r sound).account_domain domain rid a there)
    (sound.account_rules domain rid a there).below)

-- ---- its SID

account-roomy : (sid : SidValue) → is_domain_sid sid ≡ true → nat_le (length sid.subs) most_domain_subs ≡ true
unfolding is_domain_sid
account-roomy sid is = second_so _ _ (first_so _ _ is)

roomy-by : (d : DomainRow) → IsGoodDomain d → (n : ℕ) → d.number ≡ n → n ≤ 1
    → nat_le (length d.sid.subs) most_domain_subs ≡ true
roomy-by d good zero is most = account-roomy d.sid (good.account_sid is)
roomy-by d good (suc zero) is most =
    ap (λ (sid : SidValue). nat_le (length sid.subs) most_domain_subs) (good.builtin_sided is)
roomy-by d good (suc (suc n)) is most = absurd (omega (arith, most))

sid-in : (d : Option DomainRow) (rid : ℕ) → ((row : DomainRow) → d ≡ Some row → IsGoodDomain row)
    → rid < next_rid_of d → (sid : SidValue) × (sid_of_rid d rid ≡ Some sid)
sid-in None rid good below = absurd (omega (arith, below))
sid-in (Some d) rid good below =
    let whole : IsGoodDomain d = good d refl in (
      with_last d.sid rid,
      ap (λ b. cond b (Some (with_last d.sid rid)) None) (roomy-by d whole d.number refl whole.number_most),
    )

sid-there : EachIsGood → (r : Lists) (object : Object) → IsSoundRows r → is_account_kind (kind_of object) ≡ true
    → exists r object ≡ true → (sid : SidValue) × (account_sid r object ≡ Some sid)
sid-there each r object sound account there =
    let a = account-there r object account there in
    sid-in (domain_at r (domain_of object)) (rid_of object) (sound.domain_rules (domain_of object))
    (rid-below each r (domain_of object) (rid_of object) a.0 sound a.1)

-- ---- which accounts may go

others : (rid : ℕ) → nat_lt rid first_created_rid ≡ false → (rid == domain_group_rid_users) ≡ false
others rid special = grind (arith, nat_tests)

-- an account that isn't well-known isn't the group of all users
not-users : (object : Object) → is_special object ≡ false
    → same_object object (objects.Group domain_group_rid_users) ≡ false
not-users objects.Server special = refl
not-users (objects.Domain n) special = refl
not-users (objects.Group rid) special = others rid special
not-users (objects.Alias n rid) special = refl
not-users (objects.User rid) special = refl
not-users objects.Policy special = refl
not-users (objects.Account sid) special = refl

either-no : (a b : Bool) → (a || b) ≡ false → (a ≡ false) × (b ≡ false)
either-no true b h = cc
either-no false b h = (refl, h)

pick-no : (p : AccountRow → Bool) (b : Bool) (x u : AccountRow) (rest : Option AccountRow) → p x ≡ false
    → (rest ≡ Some u → p u ≡ false) → cond b (Some x) rest ≡ Some u → p u ≡ false
pick-no p true x u rest here later is = let same : x ≡ u = cc in ap p (sym same) ∙ here
pick-no p false x u rest here later is = later is

-- what no account passes isn't passed by one that is found
none-passes : (p : AccountRow → Bool) (q : List ℕ) (xs : List AccountRow) (u : AccountRow) → list_any p xs ≡ false
    → at account_key q xs ≡ Some u → p u ≡ false
none-passes p q [] u none is = cc
none-passes p q (x ∷ xs) u none is =
    let both = either-no (p x) (list_any p xs) none in
    pick-no p (same_key q (account_key x)) x u (at account_key q xs) both.0 (none-passes p q xs u both.1) is

equals : (m n : ℕ) → m ≡ n → (m == n) ≡ true
equals m n e = grind (arith, nat_tests)

no-primary : (r : Lists) (domain rid : ℕ) → is_primary r rid ≡ false → IsNoPrimary r domain rid
no-primary r domain rid none j u there user account-domain same =
    let no : has_primary rid u ≡ false = none-passes (has_primary rid) (0 ∷ j ∷ []) r.accounts u none there in
    let yes : has_primary rid u ≡ true = ap (λ b. b && (u.primary == rid)) user ∙ equals u.primary rid same in
    cc (no, yes)

no-group : (k : Kind) (o : Option AccountRow) → same_kind kind.Group k ≡ false → is_of k o ≡ true
    → is_of kind.Group o ≡ false
no-group k None other is = refl
no-group k (Some a) other is = ap (same_kind kind.Group) (sym (one-kind k a.kind is)) ∙ other

-- ---- what is left

-- what is planned for an account of a SID
abbrev deletes-of : Lists → Object → Option SidValue → Planned
deletes-of r object sid =
    record (answers status_success (outs.Handle zero_handle)) {
      plan = record { puts = []; removes = keys_of r object sid };
      effect = effects.Deletes object;
    }

keeps : RemovedAccountsStaySound → EachIsGood → (r : Lists) (object : Object) → IsSoundRows r
    → is_account_kind (kind_of object) ≡ true → exists r object ≡ true → is_special object ≡ false
    → IsNoPrimary r (domain_of object) (rid_of object) → Keeps r (deletes r object)
keeps removed each r object sound account there special primary =
    let sid = sid-there each r object sound account there in
    let law = removed r object sid.0 sound account there (not-users object special) primary in
    subst (λ o. Keeps r (deletes-of r object o)) (sym sid.1)
    (record { sound = law.sound; stays = law.stays; opens = λ opening is. cc })

gone : NamingIsRemoved → RemovedDescriptorsStaySound → EachIsGood → (r : Lists) (object : Object) → IsSoundRows r
    → is_account_kind (kind_of object) ≡ true → exists r object ≡ true
    → IsGone object r (after (deletes r object).plan r)
gone removed dropped each r object sound account there =
    let sid = sid-there each r object sound account there in
    let a = account-there r object account there in
    let left : Lists = remove_row (keys.Desc object) r in
    let without : (s : SidValue) → account_sid r object ≡ Some s
    → IsWithout (domain_of object) (rid_of object) s left (after (deletes r object).plan r) = λ s is.
    subst (λ o. IsWithout (domain_of object) (rid_of object) s left (after (deletes-of r object o).plan r)) (sym is)
    (removed left (domain_of object) (rid_of object) s (dropped r object sound).sound) in
    record {
      sid_there = ap is_some sid.1;
      rows = without;
      below =
          subst (λ ds. rid_of object < next_rid_of (at domain_key (domain_of object ∷ []) ds))
          (sym (without sid.0 sid.1).domains)
          (rid-below each r (domain_of object) (rid_of object) a.0 sound a.1);
    }

-- an account that isn't a group is no user's primary group
other-keeps : OthersAreNoPrimary → (k : Kind) → is_account_kind k ≡ true → same_kind kind.Group k ≡ false → (r : Lists)
    (object : Object) → IsSoundRows r → exists r object ≡ true → same_kind k (kind_of object) ≡ true
    → IsNoPrimary r (domain_of object) (rid_of object)
other-keeps others k account other r object sound there taken =
    let is-other : same_kind kind.Group (kind_of object) ≡ false =
    ap (same_kind kind.Group) (sym (one-kind k (kind_of object) taken)) ∙ other in
    others r (domain_of object) (rid_of object) sound
    (no-group (kind_of object) (account_at r (domain_of object) (rid_of object)) is-other
    (kind-there r object (is-account k object account taken) there))

-- ---- the three operations

pub delete_group-keeps : RemovedAccountsStaySound → EachIsGood → KeepsRows delete_group_in_domain
delete_group-keeps removed each r described object call is none =
    keeps removed each r object is.rows (is-account kind.Group object refl is.taken) is.there
    (first-holds (is_special object) _ none)
    (no-primary r (domain_of object) (rid_of object)
    (second-holds (is_special object) (is_primary r (rid_of object)) none))

pub delete_alias-keeps : RemovedAccountsStaySound → OthersAreNoPrimary → EachIsGood → KeepsRows delete_alias_in_domain
delete_alias-keeps removed others each r described object call is none =
    keeps removed each r object is.rows (is-account kind.Alias object refl is.taken) is.there
    (first-holds (is_special object) _ none)
    (other-keeps others kind.Alias refl refl r object is.rows is.there is.taken)

pub delete_user-keeps : RemovedAccountsStaySound → OthersAreNoPrimary → EachIsGood → KeepsRows delete_user_in_domain
delete_user-keeps removed others each r described object call is none =
    keeps removed each r object is.rows (is-account kind.User object refl is.taken) is.there
    (first-holds (is_special object) _ none)
    (other-keeps others kind.User refl refl r object is.rows is.there is.taken)

pub groups-go : NamingIsRemoved → RemovedDescriptorsStaySound → EachIsGood → Deletes delete_group_in_domain
groups-go removed dropped each r described object call is none =
    gone removed dropped each r object is.rows (is-account kind.Group object refl is.taken) is.there

pub aliases-go : NamingIsRemoved → RemovedDescriptorsStaySound → EachIsGood → Deletes delete_alias_in_domain
aliases-go removed dropped each r described object call is none =
    gone removed dropped each r object is.rows (is-account kind.Alias object refl is.taken) is.there

pub users-go : NamingIsRemoved → RemovedDescriptorsStaySound → EachIsGood → Deletes delete_user_in_domain
users-go removed dropped each r described object call is none =
    gone removed dropped each r object is.rows (is-account kind.User object refl is.taken) is.there

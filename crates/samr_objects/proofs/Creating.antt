-- The creations are right, and keep the rows: a new account takes a free RID and a free name.
use Rattle.std.proofs.Common.{◌≡◌, ℕ, ◌+◌, ◌^◌, ◌<◌, ◌≤◌, ◌==◌, Bool, true, false, not, cond, List, []}
use Rattle.std.proofs.Common.{◌∷◌}
use Rattle.std.proofs.Common.{Option, Some, None, is_some, refl, sym, ap, subst, ◌∙◌, arith, lit<}
use Rattle.std.specs.Prelude.{◌&&◌, ◌||◌, ◌++◌}
use Rattle.std.proofs.lemmas.Bool.Decides.{nat_tests}
use Rattle.std.proofs.lemmas.List.Elements.{All-nil}
use Rattle.std.specs.List.{find}
use Rattle.std.specs.declared.cmp.Ordering.{Ordering}
use Rattle.std.specs.declared.cmp.Ordering.TheVariants.{Less, Equal, Greater}
use Rattle.acct_calls.specs.Names.{AreUnits, IsEquivalence, is_same, is_valid_name}
use Rattle.acct_calls.specs.declared.replies.Outs.TheVariants as outs
use Rattle.acct_tables.specs.KeyedRows.{compare, by_order, put}
use Rattle.acct_calls.specs.declared.calls.Args.{Args}
use Rattle.acct_calls.specs.declared.calls.Args.TheVariants as args
use Rattle.acct_calls.specs.declared.calls.Call.{Call}
use Rattle.acct_calls.specs.declared.calls.Face.TheVariants.{Samr}
use Rattle.acct_codes.specs.Accounts.{new_group_attributes, domain_group_rid_users, most_rid, user_normal_account}
use Rattle.acct_codes.specs.Accounts.{user_workstation_trust_account, user_server_trust_account}
use Rattle.acct_codes.specs.Opnums.{samr_create_group_in_domain, samr_create_alias_in_domain}
use Rattle.acct_codes.specs.Opnums.{samr_create_user_in_domain, samr_create_user2_in_domain}
use Rattle.acct_codes.specs.Statuses.{status_not_supported, status_invalid_parameter}
use Rattle.acct_codes.specs.declared.kind.Kind.{Kind}
use Rattle.acct_codes.specs.declared.kind.Kind.TheVariants as kind
use Rattle.acct_layouts.specs.Values.{IsLong}
use Rattle.acct_layouts.specs.CallShapes.{CanBeSpelled, AreCreationArgs}
use Rattle.acct_layouts.specs.ReplyShapes.{HasShape}
use Rattle.acct_layouts.specs.Table.{samr_layout, lsa_layout}
use Rattle.acct_layouts.specs.declared.fields.Creation.{Creation}
use Rattle.acct_layouts.specs.declared.fields.Creation.TheVariants as creation
use Rattle.acct_rows.specs.Laws.{EachIsGood, NextIsFree, DomainsStaySound, AddedAccountsStaySound, AddedUsersStaySound}
use Rattle.acct_rows.specs.Laws.{PutsAreFound, IsNew, nothing}
use Rattle.acct_rows.specs.Laws as laws
use Rattle.acct_rows.specs.Rows.{exists}
use Rattle.acct_tables.specs.Keys.{kind_of, domain_of}
use Rattle.acct_rows.specs.Rows.{Lists, domain_at, account_at, find_name, is_of, put_row, with_puts}
use Rattle.acct_tables.specs.Selected.{same_kind}
use Rattle.acct_tables.specs.Keys.{account_key}
use Rattle.acct_tables.specs.Selected.{has_name}
use Rattle.acct_tables.specs.Keys.{builtin_domain}
use Rattle.acct_rows.specs.Sound.{IsSoundRows, next_rid_of}
use Rattle.acct_tables.specs.Good.{IsGoodDomain, IsGoodRow, is_user_type, control_is_good}
use Rattle.acct_tables.specs.Good.{is_account_kind, good_place, good_bits, good_primary}
use Rattle.acct_tables.specs.declared.object.Object.{Object}
use Rattle.acct_tables.specs.declared.object.Object.TheVariants as objects
use Rattle.acct_tables.specs.declared.row.AccountRow.{AccountRow}
use Rattle.acct_tables.specs.declared.row.DomainRow.{DomainRow}
use Rattle.acct_tables.specs.declared.row.MemberRow.{MemberRow}
use Rattle.acct_tables.specs.declared.row.Row.{Row}
use Rattle.acct_tables.specs.declared.row.Row.TheVariants as rows
use Rattle.acct_rules.specs.Asked.{made_name, made_type, or_empty}
use Rattle.acct_rules.specs.Operations.{Keeps, IsRight, KeepsRows, is_condition_status}
use Rattle.acct_calls.specs.Calls.{zero_handle}
use Rattle.acct_rules.specs.Planned.{creates, none_fails, when}
use Rattle.samr_objects.specs.Accounts.{new_conditions, new_rid, risen, risen_row, new_account, new_rows, new_group}
use Rattle.samr_objects.specs.Accounts.{new_user, new_control, new_member, is_invalid_name, holder, is_another}
use Rattle.samr_objects.specs.Accounts.{exists_as, exists_status, gives_no_rid}
use Rattle.samr_objects.specs.Laws.{IsCreated, Creates}
use Rattle.samr_objects.specs.Table.{create_group_in_domain, create_alias_in_domain, create_user_in_domain}
use Rattle.samr_objects.specs.Table.{create_user2_in_domain}
use Rattle.samr_objects.proofs.Asking.{arguments}
use Rattle.samr_objects.proofs.Modest.{modest-account, modest-user}
use Rattle.samr_objects.proofs.Shaping.{next-long}

-- ---- statuses

kind-known : (k : Kind) → is_condition_status (exists_as k) ≡ true
kind-known kind.Server = refl
kind-known kind.Domain = refl
kind-known kind.Group = refl
kind-known kind.Alias = refl
kind-known kind.User = refl
kind-known kind.Policy = refl
kind-known kind.Account = refl

exists-known : (o : Option AccountRow) → is_condition_status (exists_status o) ≡ true
exists-known None = refl
exists-known (Some a) = kind-known a.kind

-- the status of a collision is one of a condition, and so are those after it
known-there : (b : Bool) → b ≡ true → (b && true) ≡ true
known-there b h = cc

-- ---- what is asked for

creation-units : (c : Creation) (a : Args) → AreCreationArgs c a → AreUnits (or_empty (made_name a))
creation-units c (args.Make x y z) h = h.0.1
creation-units c _ h = absurd h

long-rid : (r : Lists) (n : ℕ) → IsSoundRows r → IsLong (next_rid_of (domain_at r n))
long-rid r n sound = omega (arith, next-long r n (domain_at r n) sound refl)

-- ---- conditions that none fails

-- what the conditions of a new account leave
record MayBe (r : Lists) (k : Kind) (n : ℕ) (name : Option (List ℕ)) : Type 0 where
  valid : is_valid_name k (or_empty name) ≡ true
  unused : find_name r n (or_empty name) ≡ None
  rids : gives_no_rid (domain_at r n) ≡ false

is-off : (b : Bool) → not b ≡ true → b ≡ false
is-off true h = cc
is-off false h = refl

is-on : (b : Bool) → not (not b) ≡ true → b ≡ true
is-on true h = refl
is-on false h = cc

first-of : (a b : Bool) → (a && b) ≡ true → a ≡ true
first-of true b h = refl
first-of false b h = cc

second-of : (a b : Bool) → (a && b) ≡ true → b ≡ true
second-of true b h = h
second-of false b h = cc

none-there : (o : Option AccountRow) → not (is_another None o) ≡ true → o ≡ None
none-there None h = refl
none-there (Some a) h = cc

may-be : (r : Lists) (k : Kind) (n : ℕ) (name : Option (List ℕ))
    → (not (is_invalid_name k name)
    && (not (is_another None (holder r n name)) && (not (gives_no_rid (domain_at r n)) && true))) ≡ true
    → MayBe r k n name
may-be r k n None h = cc
may-be r k n (Some name) h = record {
  valid = is-on _ (first-of _ _ h);
  unused = none-there _ (first-of _ _ (second-of _ _ h));
  rids = is-off _ (first-of _ _ (second-of _ _ (second-of _ _ h)));
}

-- ---- the rows after a creation

pub record RowLaws : Type 0 where
  pub each : EachIsGood
  pub puts : PutsAreFound
  pub free : NextIsFree
  pub domains : DomainsStaySound
  pub added : AddedAccountsStaySound
  pub users : AddedUsersStaySound

-- an account that takes the next RID of its domain
record Takes (r : Lists) (d : DomainRow) (a : AccountRow) : Type 0 where
  sound : IsSoundRows r
  domain : domain_at r a.domain ≡ Some d
  rid : a.rid ≡ d.next_rid
  below : d.next_rid < most_rid
  good : IsGoodRow a
  unused : find_name r a.domain a.name ≡ None

risen-good : (d : DomainRow) → IsGoodDomain d → d.next_rid < most_rid → IsGoodDomain (risen d)
risen-good d good below = record {
  sid_whole = good.sid_whole;
  name_units = good.name_units;
  oem_units = good.oem_units;
  number_most = good.number_most;
  account_name = good.account_name;
  account_sid = good.account_sid;
  builtin_named = good.builtin_named;
  builtin_sided = good.builtin_sided;
  oem_most = good.oem_most;
  next_least = let least = good.next_least in omega arith;
  next_most = omega arith;
}

abbrev with-risen : Lists → DomainRow → Lists
with-risen r d = put_row (rows.Domain (risen d)) r

at-number : EachIsGood → (r : Lists) (d : DomainRow) (a : AccountRow) → Takes r d a → d.number ≡ a.domain
at-number each r d a t = (each r t.sound).domain_number a.domain d t.domain

stands : RowLaws → (r : Lists) (d : DomainRow) (a : AccountRow) → Takes r d a → domain_at r d.number ≡ Some d
stands l r d a t = subst (λ n. domain_at r n ≡ Some d) (sym (at-number l.each r d a t)) t.domain

risen-keeps : RowLaws → (r : Lists) (d : DomainRow) (a : AccountRow) → Takes r d a
    → laws.Keeps nothing r (with-risen r d)
risen-keeps l r d a t =
    l.domains r d (risen d) t.sound (stands l r d a t)
    (risen-good d (t.sound.domain_rules a.domain d t.domain) t.below) (omega arith)

domain-stands : EachIsGood → PutsAreFound → (r : Lists) (d : DomainRow) (a : AccountRow) → Takes r d a
    → domain_at (with-risen r d) a.domain ≡ Some (risen d)
domain-stands each puts r d a t =
    subst (λ n. domain_at (with-risen r d) n ≡ Some (risen d)) (at-number each r d a t) ((puts r).domain (risen d))

-- the RID is below the next one now
now-below : (o : Option DomainRow) (d : DomainRow) (rid : ℕ) → o ≡ Some (risen d) → rid ≡ d.next_rid
    → rid < next_rid_of o
now-below None d rid there is = cc
now-below (Some e) d rid there is =
    let same : e.next_rid ≡ d.next_rid + 1 = cc in
    omega arith

is-new : RowLaws → (r : Lists) (d : DomainRow) (a : AccountRow) → Takes r d a → IsNew (with-risen r d) a
is-new l r d a t = record {
  good = t.good;
  below = now-below (domain_at (with-risen r d) a.domain) d a.rid (domain-stands l.each l.puts r d a t) t.rid;
  rid_free =
      subst (λ i. account_at r a.domain i ≡ None) (sym t.rid) (l.free r a.domain d t.sound t.domain);
  name_free = t.unused;
}

-- what a creation leaves: sound rows, in which all is there that was there, and what was created
record Made (r later : Lists) (object : Object) : Type 0 where
  sound : IsSoundRows later
  stays : (x : Object) → exists r x ≡ true → exists later x ≡ true
  there : exists later object ≡ true

chain : (r middle later : Lists) (object : Object) → laws.Keeps nothing r middle → laws.Keeps nothing middle later
    → exists later object ≡ true → Made r later object
chain r middle later object first second there = record {
  sound = second.sound;
  stays = λ x was. second.stays x (first.stays x was refl) refl;
  there = there;
}

abbrev with-account : Lists → DomainRow → AccountRow → Lists
with-account r d a = put_row (rows.Account a) (with-risen r d)

account-made : RowLaws → (r : Lists) (d : DomainRow) (a : AccountRow) (object : Object) → Takes r d a
    → same_kind kind.User a.kind ≡ false → exists (with-account r d a) object ≡ true
    → Made r (with-account r d a) object
account-made l r d a object t other there =
    chain r (with-risen r d) (with-account r d a) object (risen-keeps l r d a t)
    (l.added (with-risen r d) a (risen-keeps l r d a t).sound (is-new l r d a t) other) there

user-made : RowLaws → (r : Lists) (d : DomainRow) (a : AccountRow) (m : MemberRow) (object : Object) → Takes r d a
    → same_kind kind.User a.kind ≡ true → a.primary ≡ domain_group_rid_users → m ≡ new_member a.rid
    → exists (with-account r d a) object ≡ true
    → Made r (put_row (rows.Member m) (with-account r d a)) object
user-made l r d a m object t user primary member there =
    let keeps : laws.Keeps nothing r (with-risen r d) = risen-keeps l r d a t in
    chain r (with-risen r d) (put_row (rows.Member m) (with-account r d a)) object keeps
    (l.users (with-risen r d) a m keeps.sound (is-new l r d a t) user
    (subst (λ g. is_of kind.Group (account_at (with-risen r d) 0 g) ≡ true) (sym primary) keeps.sound.users_group)
    (cc) (cc) (subst (λ x. x.attributes < 2 ^ 32) (sym member) (lit< tt)))
    there

-- ---- creations

creates-keep : (r : Lists) (object : Object) (desired rid : ℕ) (puts : List Row) → Made r (with_puts puts r) object
    → Keeps r (creates object desired rid puts)
creates-keep r object desired rid puts made = record {
  sound = made.sound;
  stays = λ x was other. made.stays x was;
  opens = λ opening is.
      let same : opening.object ≡ object = cc in
      let e : exists (with_puts puts r) opening.object ≡ exists (with_puts puts r) object = cc in
      e ∙ made.there;
}

-- a domain that is there
domain-is : (r : Lists) (x : Object) → same_kind kind.Domain (kind_of x) ≡ true → exists r x ≡ true
    → is_some (domain_at r (domain_of x)) ≡ true
domain-is r (objects.Domain n) domain there = there
domain-is r objects.Server domain there = cc
domain-is r (objects.Group i) domain there = cc
domain-is r (objects.Alias n i) domain there = cc
domain-is r (objects.User i) domain there = cc
domain-is r objects.Policy domain there = cc
domain-is r (objects.Account s) domain there = cc

number-most : (r : Lists) (n : ℕ) (d : DomainRow) → EachIsGood → IsSoundRows r → domain_at r n ≡ Some d → n ≤ 1
number-most r n d each sound there =
    let good : IsGoodDomain d = sound.domain_rules n d there in
    let most = good.number_most in
    let is : d.number ≡ n = (each r sound).domain_number n d there in
    omega arith

is-there : (P : Type 0) (r : Lists) (n : ℕ) (o : Option DomainRow) → domain_at r n ≡ o → is_some o ≡ true
    → ((d : DomainRow) → domain_at r n ≡ Some d → P) → P
is-there P r n None is there go = cc
is-there P r n (Some d) is there go = go d is

below-most : (d : DomainRow) → gives_no_rid (Some d) ≡ false → d.next_rid < most_rid
below-most d gives = grind (arith, nat_tests)

pick-type : (P : ℕ → Type 0) (bits : ℕ) → P user_normal_account → P user_workstation_trust_account
    → P user_server_trust_account → (x y z : Bool) → (bits == user_normal_account) ≡ x
    → (bits == user_workstation_trust_account) ≡ y → (bits == user_server_trust_account) ≡ z
    → (x || (y || z)) ≡ true → P bits
pick-type P bits a b c true y z ex ey ez is =
    let e : user_normal_account ≡ bits = grind (arith, nat_tests) in
    subst P e a
pick-type P bits a b c false true z ex ey ez is =
    let e : user_workstation_trust_account ≡ bits = grind (arith, nat_tests) in
    subst P e b
pick-type P bits a b c false false true ex ey ez is =
    let e : user_server_trust_account ≡ bits = grind (arith, nat_tests) in
    subst P e c
pick-type P bits a b c false false false ex ey ez is = cc

-- what holds of each type holds of a type
each-type : (P : ℕ → Type 0) (bits : ℕ) → P user_normal_account → P user_workstation_trust_account
    → P user_server_trust_account → is_user_type bits ≡ true → P bits
each-type P bits a b c is = pick-type P bits a b c _ _ _ refl refl refl is

control-good : (bits : ℕ) → is_user_type bits ≡ true → control_is_good (new_control bits) ≡ true
control-good bits is = each-type (λ n. control_is_good (new_control n) ≡ true) bits refl refl refl is

control-fits : (bits : ℕ) → is_user_type bits ≡ true → new_control bits < 2 ^ 32
control-fits bits is = each-type (λ n. new_control n < 2 ^ 32) bits (lit< tt) (lit< tt) (lit< tt) is

with-domain : (P : Type 0) (r : Lists) (n : ℕ) → is_some (domain_at r n) ≡ true
    → ((d : DomainRow) → domain_at r n ≡ Some d → P) → P
with-domain P r n there go = is-there P r n (domain_at r n) refl there go

abbrev row : Lists → Kind → ℕ → Args → ℕ → ℕ → AccountRow
row r k n asked bits primary = record (new_account r k n asked) { bits = bits; primary = primary }

-- the numbers of an account that go with its kind
record Fits (k : Kind) (n bits primary : ℕ) : Type 0 where
  known : is_account_kind k ≡ true
  place : good_place n k ≡ true
  fit : bits < 2 ^ 32
  control : good_bits k bits ≡ true
  group : good_primary k primary ≡ true

takes : (r : Lists) (k : Kind) (n : ℕ) (d : DomainRow) (asked : Args) (bits primary : ℕ) → IsSoundRows r
    → domain_at r n ≡ Some d → Fits k n bits primary → AreUnits (or_empty (made_name asked))
    → MayBe r k n (made_name asked) → Takes r d (row r k n asked bits primary)
takes r k n d asked bits primary sound there fits units may = record {
  sound = sound;
  domain = there;
  rid = ap next_rid_of there;
  below = below-most d (subst (λ o. gives_no_rid o ≡ false) there may.rids);
  good = record {
    name_units = units;
    full_name_units = All-nil (λ unit. unit < 2 ^ 16);
    comment_units = All-nil (λ unit. unit < 2 ^ 16);
    bits_fit = fits.fit;
    kind_known = fits.known;
    place = fits.place;
    named = may.valid;
    full_name_most = omega arith;
    comment_most = omega arith;
    control = fits.control;
    primary_kind = fits.group;
  };
  unused = may.unused;
}

puts-are : (r : Lists) (d : DomainRow) (a : AccountRow) → domain_at r a.domain ≡ Some d
    → with_puts (new_rows r a) r ≡ with-account r d a
puts-are r d a there = ap (λ o. with_puts (risen_row o ++ rows.Account a ∷ []) r) there

user-puts-are : (r : Lists) (d : DomainRow) (a : AccountRow) (m : MemberRow) → domain_at r a.domain ≡ Some d
    → with_puts (new_rows r a ++ rows.Member m ∷ []) r ≡ put_row (rows.Member m) (with-account r d a)
user-puts-are r d a m there = ap (λ o. with_puts ((risen_row o ++ rows.Account a ∷ []) ++ rows.Member m ∷ []) r) there

account-there : RowLaws → (r : Lists) (d : DomainRow) (a : AccountRow)
    → account_at (with-account r d a) a.domain a.rid ≡ Some a
account-there l r d a = (l.puts (with-risen r d)).account a

-- ---- groups

in-account-domain : (n : ℕ) → n ≤ 1 → not (n == 1) ≡ true → n ≡ 0
in-account-domain n most other = grind (arith, nat_tests)

group-fits : (n : ℕ) → n ≡ 0 → Fits kind.Group n new_group_attributes 0
group-fits n zero = record {
  known = refl;
  place = subst (λ m. good_place m kind.Group ≡ true) (sym zero) refl;
  fit = lit< tt;
  control = refl;
  group = refl;
}

group-made : RowLaws → (r : Lists) (n : ℕ) (d : DomainRow) (asked : Args) → IsSoundRows r → domain_at r n ≡ Some d
    → n ≡ 0 → AreUnits (or_empty (made_name asked)) → MayBe r kind.Group n (made_name asked)
    → Made r (with_puts (new_rows r (new_group r n asked)) r) (objects.Group (new_rid r n))
group-made l r n d asked sound there zero units may =
    let a : AccountRow = new_group r n asked in
    let found : account_at (with-account r d a) 0 a.rid ≡ Some a =
    subst (λ m. account_at (with-account r d a) m a.rid ≡ Some a) zero (account-there l r d a) in
    subst (λ later. Made r later (objects.Group (new_rid r n))) (sym (puts-are r d a there))
    (account-made l r d a (objects.Group (new_rid r n))
    (takes r kind.Group n d asked new_group_attributes 0 sound there (group-fits n zero) units may) refl
    (ap (is_of kind.Group) found))

-- ---- aliases

place-by : (n : ℕ) (x y : Bool) → (n == 0) ≡ x → (n == 1) ≡ y → n ≤ 1 → (x || (y && true)) ≡ true
place-by n true y ex ey most = refl
place-by n false true ex ey most = refl
place-by n false false ex ey most = absurd (grind (arith, nat_tests))

alias-place : (n : ℕ) → n ≤ 1 → good_place n kind.Alias ≡ true
alias-place n most = place-by n (n == 0) (n == 1) refl refl most

alias-fits : (n : ℕ) → n ≤ 1 → Fits kind.Alias n 0 0
alias-fits n most = record {
  known = refl;
  place = alias-place n most;
  fit = lit< tt;
  control = refl;
  group = refl;
}

alias-made : RowLaws → (r : Lists) (n : ℕ) (d : DomainRow) (asked : Args) → IsSoundRows r → domain_at r n ≡ Some d
    → AreUnits (or_empty (made_name asked)) → MayBe r kind.Alias n (made_name asked)
    → Made r (with_puts (new_rows r (new_account r kind.Alias n asked)) r) (objects.Alias n (new_rid r n))
alias-made l r n d asked sound there units may =
    let a : AccountRow = new_account r kind.Alias n asked in
    subst (λ later. Made r later (objects.Alias n (new_rid r n))) (sym (puts-are r d a there))
    (account-made l r d a (objects.Alias n (new_rid r n))
    (takes r kind.Alias n d asked 0 0 sound there (alias-fits n (number-most r n d l.each sound there)) units may) refl
    (ap (is_of kind.Alias) (account-there l r d a)))

-- ---- users

user-fits : (n bits : ℕ) → n ≡ 0 → is_user_type bits ≡ true
    → Fits kind.User n (new_control bits) domain_group_rid_users
user-fits n bits zero is = record {
  known = refl;
  place = subst (λ m. good_place m kind.User ≡ true) (sym zero) refl;
  fit = control-fits bits is;
  control = control-good bits is;
  group = refl;
}

abbrev user-rows : Lists → ℕ → Args → List Row
user-rows r n asked = new_rows r (new_user r n asked) ++ rows.Member (new_member (new_rid r n)) ∷ []

new-user-made : RowLaws → (r : Lists) (n : ℕ) (d : DomainRow) (asked : Args) → IsSoundRows r → domain_at r n ≡ Some d
    → n ≡ 0 → is_user_type (made_type asked) ≡ true → AreUnits (or_empty (made_name asked))
    → MayBe r kind.User n (made_name asked)
    → Made r (with_puts (user-rows r n asked) r) (objects.User (new_rid r n))
new-user-made l r n d asked sound there zero is units may =
    let a : AccountRow = new_user r n asked in
    let found : account_at (with-account r d a) 0 a.rid ≡ Some a =
    subst (λ m. account_at (with-account r d a) m a.rid ≡ Some a) zero (account-there l r d a) in
    subst (λ later. Made r later (objects.User (new_rid r n)))
    (sym (user-puts-are r d a (new_member a.rid) there))
    (user-made l r d a (new_member a.rid) (objects.User (new_rid r n))
    (takes r kind.User n d asked (new_control (made_type asked)) domain_group_rid_users sound there
    (user-fits n (made_type asked) zero is) units may) refl refl refl (ap (is_of kind.User) found))

-- ---- what the operations owe

abbrev IsCreation : ℕ → Creation → Call → Type 0
IsCreation opnum c call = call.face ≡ Samr → call.opnum ≡ opnum → CanBeSpelled call → AreCreationArgs c call.args

group-asks : (call : Call) → IsCreation samr_create_group_in_domain creation.Account call
unfolding samr_layout
group-asks call face opnum spelled = (arguments call Samr samr_create_group_in_domain face opnum spelled).1

alias-asks : (call : Call) → IsCreation samr_create_alias_in_domain creation.Account call
unfolding samr_layout
alias-asks call face opnum spelled = (arguments call Samr samr_create_alias_in_domain face opnum spelled).1

user-asks : (call : Call) → IsCreation samr_create_user_in_domain creation.User call
unfolding samr_layout
user-asks call face opnum spelled = (arguments call Samr samr_create_user_in_domain face opnum spelled).1

user2-asks : (call : Call) → IsCreation samr_create_user2_in_domain creation.TypedUser call
unfolding samr_layout
user2-asks call face opnum spelled = (arguments call Samr samr_create_user2_in_domain face opnum spelled).1

pub create_group-right : IsRight create_group_in_domain
unfolding HasShape samr_layout lsa_layout
create_group-right = record {
  laid_out = refl;
  refuses = λ r described object asked. known-there _ (exists-known (holder r (domain_of object) (made_name asked)));
  succeeds = λ r described object asked. refl;
  frugal = λ r described object asked. refl;
  modest = λ r described object asked.
      modest-account (domain_at r (domain_of object)) (new_group r (domain_of object) asked);
  shaped = λ r described object call few is none.
      (lit< tt, (lit< tt, refl, long-rid r (domain_of object) is.rows), λ refused. refl);
}

pub create_alias-right : IsRight create_alias_in_domain
unfolding HasShape samr_layout lsa_layout
create_alias-right = record {
  laid_out = refl;
  refuses = λ r described object asked. known-there _ (exists-known (holder r (domain_of object) (made_name asked)));
  succeeds = λ r described object asked. refl;
  frugal = λ r described object asked. refl;
  modest = λ r described object asked.
      modest-account (domain_at r (domain_of object)) (new_account r kind.Alias (domain_of object) asked);
  shaped = λ r described object call few is none.
      (lit< tt, (lit< tt, refl, long-rid r (domain_of object) is.rows), λ refused. refl);
}

pub create_user-right : IsRight create_user_in_domain
unfolding HasShape samr_layout lsa_layout
create_user-right = record {
  laid_out = refl;
  refuses = λ r described object asked. known-there _ (exists-known (holder r (domain_of object) (made_name asked)));
  succeeds = λ r described object asked. refl;
  frugal = λ r described object asked. refl;
  modest = λ r described object asked.
      modest-user (domain_at r (domain_of object)) (new_user r (domain_of object) asked)
      (new_member (new_rid r (domain_of object)));
  shaped = λ r described object call few is none.
      (lit< tt, (lit< tt, refl, long-rid r (domain_of object) is.rows), λ refused. refl);
}

pub create_user2-right : IsRight create_user2_in_domain
unfolding HasShape samr_layout lsa_layout
create_user2-right = record {
  laid_out = refl;
  refuses = λ r described object asked. known-there _ (exists-known (holder r (domain_of object) (made_name asked)));
  succeeds = λ r described object asked. refl;
  frugal = λ r described object asked. refl;
  modest = λ r described object asked.
      modest-user (domain_at r (domain_of object)) (new_user r (domain_of object) asked)
      (new_member (new_rid r (domain_of object)));
  shaped = λ r described object call few is none.
      (lit< tt, (lit< tt, lit< tt, long-rid r (domain_of object) is.rows), λ refused. refl);
}

group-in : RowLaws → (r : Lists) (n : ℕ) (d : DomainRow) (asked : Args) → IsSoundRows r → domain_at r n ≡ Some d
    → AreUnits (or_empty (made_name asked))
    → none_fails (when (n == builtin_domain) status_not_supported ∷ new_conditions r kind.Group n asked) ≡ true
    → Made r (with_puts (new_rows r (new_group r n asked)) r) (objects.Group (new_rid r n))
group-in l r n d asked sound there units none =
    group-made l r n d asked sound there
    (in-account-domain n (number-most r n d l.each sound there) (first-of _ _ none)) units
    (may-be r kind.Group n (made_name asked) (second-of _ _ none))

user-in : RowLaws → (r : Lists) (n : ℕ) (d : DomainRow) (asked : Args) → IsSoundRows r → domain_at r n ≡ Some d
    → AreUnits (or_empty (made_name asked))
    → none_fails (when (n == builtin_domain) status_not_supported
    ∷ when (not (is_user_type (made_type asked))) status_invalid_parameter
    ∷ new_conditions r kind.User n asked) ≡ true
    → Made r (with_puts (user-rows r n asked) r) (objects.User (new_rid r n))
user-in l r n d asked sound there units none =
    new-user-made l r n d asked sound there
    (in-account-domain n (number-most r n d l.each sound there) (first-of _ _ none))
    (is-on _ (first-of _ _ (second-of _ _ none))) units
    (may-be r kind.User n (made_name asked) (second-of _ _ (second-of _ _ none)))

pub create_group-keeps : RowLaws → KeepsRows create_group_in_domain
create_group-keeps l r described object call is none =
    creates-keep r _ _ _ _ (with-domain _ r (domain_of object) (domain-is r object is.taken is.there) (λ d there.
    group-in l r (domain_of object) d call.args is.rows there
    (creation-units creation.Account call.args (group-asks call is.face is.opnum is.spelled)) none))

pub create_alias-keeps : RowLaws → KeepsRows create_alias_in_domain
create_alias-keeps l r described object call is none =
    creates-keep r _ _ _ _ (with-domain _ r (domain_of object) (domain-is r object is.taken is.there) (λ d there.
    alias-made l r (domain_of object) d call.args is.rows there
    (creation-units creation.Account call.args (alias-asks call is.face is.opnum is.spelled))
    (may-be r kind.Alias (domain_of object) (made_name call.args) none)))

pub create_user-keeps : RowLaws → KeepsRows create_user_in_domain
create_user-keeps l r described object call is none =
    creates-keep r _ _ _ _ (with-domain _ r (domain_of object) (domain-is r object is.taken is.there) (λ d there.
    user-in l r (domain_of object) d call.args is.rows there
    (creation-units creation.User call.args (user-asks call is.face is.opnum is.spelled)) none))

pub create_user2-keeps : RowLaws → KeepsRows create_user2_in_domain
create_user2-keeps l r described object call is none =
    creates-keep r _ _ _ _ (with-domain _ r (domain_of object) (domain-is r object is.taken is.there) (λ d there.
    user-in l r (domain_of object) d call.args is.rows there
    (creation-units creation.TypedUser call.args (user2-asks call is.face is.opnum is.spelled)) none))

-- ---- what was created is found

-- an element that is put, of which the test holds, is the first of which it holds
put-first : (p : AccountRow → Bool) (a x : AccountRow) (xs rest : List AccountRow) (o : Ordering) (b : Bool) → p x ≡ b
    → p a ≡ true → cond b (Some x) (find p xs) ≡ None → (find p xs ≡ None → find p rest ≡ Some a)
    → find p (by_order o (a ∷ x ∷ xs) (a ∷ xs) (x ∷ rest)) ≡ Some a
put-first p a x xs rest Less b test is none later = rw is
put-first p a x xs rest Equal b test is none later = rw is
put-first p a x xs rest Greater true test is none later = cc
put-first p a x xs rest Greater false test is none later = rw test (later none)

find-put : (p : AccountRow → Bool) (a : AccountRow) (xs : List AccountRow) → p a ≡ true → find p xs ≡ None
    → find p (put account_key a xs) ≡ Some a
find-put p a [] is none = rw is
find-put p a (x ∷ xs) is none =
    put-first p a x xs (put account_key a xs) (compare (account_key a) (account_key x)) (p x) refl is none
    (find-put p a xs is)

both-true : (x y : Bool) → x ≡ true → y ≡ true → (x && y) ≡ true
both-true true y hx hy = hy
both-true false y hx hy = hx

own-name : IsEquivalence → (a : AccountRow) → has_name a.domain a.name a ≡ true
own-name same a =
    both-true (a.domain == a.domain) (is_same a.name a.name) (grind (arith, nat_tests)) (same.reflexive a.name)

pub record FoundLaws : Type 0 where
  pub same : IsEquivalence
  pub each : EachIsGood
  pub puts : PutsAreFound
  pub free : NextIsFree

created : FoundLaws → (r : Lists) (d : DomainRow) (a : AccountRow) → Takes r d a
    → IsCreated a.kind r (with-account r d a) a.domain a.name (outs.Created zero_handle 0 a.rid)
created l r d a t = record {
  account = a;
  of_kind = refl;
  shown = refl;
  named = refl;
  rid_was_free = subst (λ i. account_at r a.domain i ≡ None) (sym t.rid) (l.free r a.domain d t.sound t.domain);
  found_by_rid = (l.puts (with-risen r d)).account a;
  found_by_name = find-put (has_name a.domain a.name) a r.accounts (own-name l.same a) t.unused;
  next_is_above =
      ap next_rid_of (domain-stands l.each l.puts r d a t) ∙ ap (λ n. n + 1) (sym t.rid);
}

-- the member row of a user changes no account
with-member : (r : Lists) (d : DomainRow) (a : AccountRow) (m : MemberRow)
    → IsCreated a.kind r (with-account r d a) a.domain a.name (outs.Created zero_handle 0 a.rid)
    → IsCreated a.kind r (put_row (rows.Member m) (with-account r d a)) a.domain a.name
    (outs.Created zero_handle 0 a.rid)
with-member r d a m was = record {
  account = was.account;
  of_kind = was.of_kind;
  shown = was.shown;
  named = was.named;
  rid_was_free = was.rid_was_free;
  found_by_rid = was.found_by_rid;
  found_by_name = was.found_by_name;
  next_is_above = was.next_is_above;
}

group-created : FoundLaws → (r : Lists) (n : ℕ) (d : DomainRow) (asked : Args) → IsSoundRows r
    → domain_at r n ≡ Some d → AreUnits (or_empty (made_name asked))
    → none_fails (when (n == builtin_domain) status_not_supported ∷ new_conditions r kind.Group n asked) ≡ true
    → IsCreated kind.Group r (with_puts (new_rows r (new_group r n asked)) r) n (or_empty (made_name asked))
    (outs.Created zero_handle 0 (new_rid r n))
group-created l r n d asked sound there units none =
    let most : n ≤ 1 = number-most r n d l.each sound there in
    let a : AccountRow = new_group r n asked in
    subst (λ later. IsCreated a.kind r later n a.name (outs.Created zero_handle 0 a.rid)) (sym (puts-are r d a there))
    (created l r d a
    (takes r kind.Group n d asked new_group_attributes 0 sound there
    (group-fits n (in-account-domain n most (first-of _ _ none))) units
    (may-be r kind.Group n (made_name asked) (second-of _ _ none))))

alias-created : FoundLaws → (r : Lists) (n : ℕ) (d : DomainRow) (asked : Args) → IsSoundRows r
    → domain_at r n ≡ Some d → AreUnits (or_empty (made_name asked))
    → none_fails (new_conditions r kind.Alias n asked) ≡ true
    → IsCreated kind.Alias r (with_puts (new_rows r (new_account r kind.Alias n asked)) r) n
    (or_empty (made_name asked)) (outs.Created zero_handle 0 (new_rid r n))
alias-created l r n d asked sound there units none =
    let most : n ≤ 1 = number-most r n d l.each sound there in
    let a : AccountRow = new_account r kind.Alias n asked in
    subst (λ later. IsCreated a.kind r later n a.name (outs.Created zero_handle 0 a.rid)) (sym (puts-are r d a there))
    (created l r d a
    (takes r kind.Alias n d asked 0 0 sound there (alias-fits n most) units
    (may-be r kind.Alias n (made_name asked) none)))

user-created : FoundLaws → (r : Lists) (n : ℕ) (d : DomainRow) (asked : Args) → IsSoundRows r
    → domain_at r n ≡ Some d → AreUnits (or_empty (made_name asked))
    → none_fails (when (n == builtin_domain) status_not_supported
    ∷ when (not (is_user_type (made_type asked))) status_invalid_parameter
    ∷ new_conditions r kind.User n asked) ≡ true
    → IsCreated kind.User r (with_puts (user-rows r n asked) r) n (or_empty (made_name asked))
    (outs.Created zero_handle 0 (new_rid r n))
user-created l r n d asked sound there units none =
    let most : n ≤ 1 = number-most r n d l.each sound there in
    let a : AccountRow = new_user r n asked in
    subst (λ later. IsCreated a.kind r later n a.name (outs.Created zero_handle 0 a.rid))
    (sym (user-puts-are r d a (new_member a.rid) there))
    (with-member r d a (new_member a.rid) (created l r d a
    (takes r kind.User n d asked (new_control (made_type asked)) domain_group_rid_users sound there
    (user-fits n (made_type asked) (in-account-domain n most (first-of _ _ none))
    (is-on _ (first-of _ _ (second-of _ _ none)))) units
    (may-be r kind.User n (made_name asked) (second-of _ _ (second-of _ _ none))))))

pub create_group-found : FoundLaws → Creates kind.Group create_group_in_domain
create_group-found l r described object call is none =
    with-domain _ r (domain_of object) (domain-is r object is.taken is.there) (λ d there.
    group-created l r (domain_of object) d call.args is.rows there
    (creation-units creation.Account call.args (group-asks call is.face is.opnum is.spelled)) none)

pub create_alias-found : FoundLaws → Creates kind.Alias create_alias_in_domain
create_alias-found l r described object call is none =
    with-domain _ r (domain_of object) (domain-is r object is.taken is.there) (λ d there.
    alias-created l r (domain_of object) d call.args is.rows there
    (creation-units creation.Account call.args (alias-asks call is.face is.opnum is.spelled)) none)

pub create_user-found : FoundLaws → Creates kind.User create_user_in_domain
create_user-found l r described object call is none =
    with-domain _ r (domain_of object) (domain-is r object is.taken is.there) (λ d there.
    user-created l r (domain_of object) d call.args is.rows there
    (creation-units creation.User call.args (user-asks call is.face is.opnum is.spelled)) none)

pub create_user2-found : FoundLaws → Creates kind.User create_user2_in_domain
create_user2-found l r described object call is none =
    with-domain _ r (domain_of object) (domain-is r object is.taken is.there) (λ d there.
    user-created l r (domain_of object) d call.args is.rows there
    (creation-units creation.TypedUser call.args (user2-asks call is.face is.opnum is.spelled)) none)

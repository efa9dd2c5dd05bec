-- The rows that a database without rows begins with are sound
use Rattle.std.proofs.Common.{◌≡◌, ℕ, ◌+◌, ◌^◌, ◌<◌, ◌≤◌, ◌==◌, nat_lt, nat_le, Bool, true, false, not, cond, ◌&&◌}
use Rattle.std.proofs.Common.{◌||◌, codes}
use Rattle.std.proofs.Common.{List, [], ◌∷◌, ◌++◌, map, length, is_some, Some, refl, sym, ap, subst, ◌∙◌, arith}
use Rattle.std.proofs.lemmas.Bool.Decides.{nat_tests}
use Rattle.std.proofs.lemmas.List.Elements.{All-nil, All-cons, All-push}
use Rattle.std.specs.List.{list_all}
use Rattle.std.specs.Char.{to_ascii_lowercase}
use Rattle.std.specs.Str.{bytes_eq, chars}
use Rattle.std.specs.Ordering.{nat_cmp, ordering_then}
use Rattle.std.specs.declared.cmp.Ordering.TheVariants.{Less, Equal}
use Rattle.std.specs.Cmp.{first_so, second_so, tied_itself, nat_cmp_total}
use Rattle.ucd_case.specs.CaseFolding.{simple_fold}
use Rattle.ucd_case.proofs.CaseFoldingLemmas.{simple_fold-ascii}
use Rattle.acct_codes.specs.declared.kind.Kind.TheVariants.{Group, Alias, User}
use Rattle.acct_codes.specs.Limits.{most_domain_subs}
use Rattle.acct_codes.specs.Accounts.{domain_user_rid_admin, domain_user_rid_guest, domain_group_rid_admins}
use Rattle.acct_codes.specs.Accounts.{domain_group_rid_users, domain_group_rid_guests, domain_alias_rid_admins}
use Rattle.acct_codes.specs.Accounts.{domain_alias_rid_users, domain_alias_rid_guests, first_created_rid}
use Rattle.acct_codes.specs.Accounts.{user_normal_account}
use Rattle.dtyp_sid.specs.Sids.{with_last, SidValue, IsSid}
use Rattle.acct_calls.specs.Names.{AreUnits, is_surrogate, code_points, units_of, folded_point, folded_points, is_same}
use Rattle.acct_calls.specs.Names.{is_valid_name, name_of_text, builtin_name, is_domain_name, is_domain_sid}
use Rattle.acct_tables.specs.KeyedRows.{compare, at, is_ascending}
use Rattle.acct_rows.specs.Rows.{Lists, account_at, member_at}
use Rattle.acct_tables.specs.Keys.{sid_key, domain_key, account_key, member_key, alias_key}
use Rattle.acct_rows.specs.Rows.{is_of}
use Rattle.acct_tables.specs.declared.row.AccountRow.{AccountRow}
use Rattle.acct_tables.specs.declared.row.MemberRow.{MemberRow}
use Rattle.acct_tables.specs.declared.row.AliasRow.{AliasRow}
use Rattle.acct_tables.specs.Good.{control_is_good, IsGoodDomain}
use Rattle.acct_rows.specs.Sound.{IsGoodAccount, IsSoundRows}
use Rattle.acct_tables.specs.Good.{IsGoodMember}
use Rattle.acct_rows.specs.Seed.{guest_control, seed_user, seed_group, seed_alias, seed_domains, seed_accounts}
use Rattle.acct_rows.specs.Seed.{seed_members, seed_aliases, seed_lists}
use Rattle.acct_tables.proofs.Lookups.{key_found}
use Rattle.acct_tables.proofs.Passing.{Each, found_is, found_passes}

-- lists that differ in their last number alone are ordered by it
last_decides : (front : List ℕ) (i j : ℕ) → nat_cmp i j ≡ Less → compare (front ++ i ∷ []) (front ++ j ∷ []) ≡ Less
last_decides [] i j e = ap (λ r. ordering_then r Equal) e
last_decides (n ∷ front) i j e =
    ap (λ r. ordering_then r (compare (front ++ i ∷ []) (front ++ j ∷ []))) (tied_itself nat_cmp_total n)
    ∙ last_decides front i j e

pub seed_aliases_ascend : (sid : SidValue) → is_ascending alias_key (seed_aliases sid) ≡ true
seed_aliases_ascend sid =
    rw (
      last_decides (sid.authority ∷ sid.subs) domain_user_rid_admin domain_group_rid_admins refl,
      last_decides (sid.authority ∷ sid.subs) domain_user_rid_guest domain_group_rid_guests refl,
    ) refl

-- a domain's SID has a slot for a RID
pub has_slot : (sid : SidValue) → is_domain_sid sid ≡ true → length sid.subs ≤ most_domain_subs
unfolding is_domain_sid
has_slot sid right =
    let most : nat_le (length sid.subs) most_domain_subs ≡ true = second_so _ _ (first_so _ _ right) in
    grind (arith, nat_tests)

-- ASCII folds to lower case
ascii_plain : (c : ℕ) → nat_lt c 128 ≡ true → is_surrogate c ≡ false
ascii_plain c small = let below : c < 128 = grind (arith, nat_tests) in grind (arith, nat_tests)

ascii_folds : (c : ℕ) → nat_lt c 128 ≡ true → folded_point c ≡ to_ascii_lowercase c
unfolding folded_point
ascii_folds c small =
    let below : c < 128 = grind (arith, nat_tests) in
    ap (λ b. cond b c (simple_fold c)) (ascii_plain c small) ∙ simple_fold-ascii c below

all_fold : (text : List ℕ) → list_all (λ c. nat_lt c 128) text ≡ true
    → map folded_point text ≡ map to_ascii_lowercase text
all_fold [] small = refl
all_fold (c ∷ text) small =
    ap (λ n. n ∷ map folded_point text) (ascii_folds c (first_so _ _ small))
    ∙ ap (λ ns. to_ascii_lowercase c ∷ ns) (all_fold text (second_so _ _ small))

-- the name in lower case
abbrev lower : AccountRow → List ℕ
lower a = map to_ascii_lowercase (code_points a.name)

abbrev is_ascii : AccountRow → Bool
is_ascii a = list_all (λ c. nat_lt c 128) (code_points a.name)

folds_to_lower : (a : AccountRow) → is_ascii a ≡ true → folded_points a.name ≡ lower a
unfolding folded_points
folds_to_lower a ascii = all_fold (code_points a.name) ascii

seed_is_ascii : list_all is_ascii seed_accounts ≡ true
unfolding chars code_points units_of
seed_is_ascii = refl

-- two accounts of one domain with one name in lower case have one RID
abbrev are_apart : AccountRow → AccountRow → Bool
are_apart a b = not ((a.domain == b.domain) && bytes_eq (lower a) (lower b)) || (a.rid == b.rid)

seed_is_apart : list_all (λ a. list_all (are_apart a) seed_accounts) seed_accounts ≡ true
unfolding chars code_points units_of
seed_is_apart = refl

same_by_lower : (a b : AccountRow) → is_ascii a ≡ true → is_ascii b ≡ true → is_same a.name b.name ≡ true
    → bytes_eq (lower a) (lower b) ≡ true
unfolding is_same
same_by_lower a b a_ascii b_ascii same =
    ap (λ ns. bytes_eq ns (lower b)) (sym (folds_to_lower a a_ascii))
    ∙ ap (bytes_eq (folded_points a.name)) (sym (folds_to_lower b b_ascii)) ∙ same

by_rid : (a b : AccountRow) → are_apart a b ≡ true → a.domain ≡ b.domain → bytes_eq (lower a) (lower b) ≡ true
    → a.rid ≡ b.rid
by_rid a b apart domains lowered =
    let one : (a.domain == b.domain) ≡ true = grind (arith, nat_tests) in
    let tested : (not ((a.domain == b.domain) && bytes_eq (lower a) (lower b)) || (a.rid == b.rid)) ≡ (a.rid == b.rid) =
    rw (one, lowered) refl in
    let rids : (a.rid == b.rid) ≡ true = sym tested ∙ apart in
    grind (arith, nat_tests)

seed_names_differ : (domain i j : ℕ) (a b : AccountRow) → at account_key (domain ∷ i ∷ []) seed_accounts ≡ Some a
    → at account_key (domain ∷ j ∷ []) seed_accounts ≡ Some b → is_same a.name b.name ≡ true → i ≡ j
seed_names_differ domain i j a b there_a there_b same =
    let key_a : account_key a ≡ domain ∷ i ∷ [] = key_found account_key (domain ∷ i ∷ []) seed_accounts a there_a in
    let key_b : account_key b ≡ domain ∷ j ∷ [] = key_found account_key (domain ∷ j ∷ []) seed_accounts b there_b in
    let a_ascii : is_ascii a ≡ true =
    found_passes account_key is_ascii (domain ∷ i ∷ []) seed_accounts a seed_is_ascii there_a in
    let b_ascii : is_ascii b ≡ true =
    found_passes account_key is_ascii (domain ∷ j ∷ []) seed_accounts b seed_is_ascii there_b in
    let row : list_all (are_apart a) seed_accounts ≡ true =
    found_passes account_key (λ x. list_all (are_apart x) seed_accounts)
    (domain ∷ i ∷ []) seed_accounts a seed_is_apart there_a in
    let apart : are_apart a b ≡ true =
    found_passes account_key (are_apart a) (domain ∷ j ∷ []) seed_accounts b row there_b in
    let domains : a.domain ≡ b.domain = cc in
    let one : a.rid ≡ b.rid = by_rid a b apart domains (same_by_lower a b a_ascii b_ascii same) in
    cc

also : {P R : Type 0} → P → R → P × R
also p r = (p, r)

-- numbers that pass the test are units
abbrev is_unit : ℕ → Bool
is_unit unit = nat_lt unit (2 ^ 16)

units : (ns : List ℕ) → list_all is_unit ns ≡ true → AreUnits ns
units [] pass = All-nil (λ unit. unit < 2 ^ 16)
units (n ∷ ns) pass =
    let first : nat_lt n (2 ^ 16) ≡ true = first_so _ _ pass in
    All-cons (λ unit. unit < 2 ^ 16) n ns (grind (arith, nat_tests)) (units ns (second_so _ _ pass))

no_units : AreUnits []
no_units = All-nil (λ unit. unit < 2 ^ 16)

-- a SID with room for a RID is one with it
counted : (ns : List ℕ) (rid : ℕ) → length (ns ++ rid ∷ []) ≡ length ns + 1
counted [] rid = refl
counted (n ∷ ns) rid = omega (arith, counted ns rid)

with_last_whole : (sid : SidValue) (rid : ℕ) → IsSid sid → length sid.subs ≤ most_domain_subs → rid < 2 ^ 32
    → IsSid (with_last sid rid)
with_last_whole sid rid whole few fits = record {
  authority_fits = whole.authority_fits;
  count_fits = omega (arith, counted sid.subs rid, few);
  subs_fit = All-push (λ sub. sub < 2 ^ 32) sid.subs rid whole.subs_fit fits;
}

-- the rows of the seed keep the rules
module _ (name : List ℕ) (sid : SidValue) where
  user_is_good : (rid : ℕ) (text : List ℕ) (control primary : ℕ) → is_valid_name User (name_of_text text) ≡ true
      → list_all is_unit (name_of_text text) ≡ true → control_is_good control ≡ true → control < 2 ^ 32
      → rid < first_created_rid
      → is_of Group (account_at (seed_lists name sid) 0 primary) ≡ true
      → is_some (member_at (seed_lists name sid) primary rid) ≡ true
      → IsGoodAccount (seed_lists name sid) (seed_user rid text control primary)
  user_is_good rid text control primary valid whole good fits low group member = record {
    itself = record {
      name_units = units (name_of_text text) whole;
      full_name_units = no_units;
      comment_units = no_units;
      bits_fit = fits;
      kind_known = refl;
      place = refl;
      named = valid;
      full_name_most = omega arith;
      comment_most = omega arith;
      control = good;
      primary_kind = refl;
    };
    below = low;
    primary_group = λ _. group;
    primary_member = λ _. member;
  }

  group_is_good : (rid : ℕ) (text : List ℕ) → is_valid_name Group (name_of_text text) ≡ true
      → list_all is_unit (name_of_text text) ≡ true → rid < first_created_rid
      → IsGoodAccount (seed_lists name sid) (seed_group rid text)
  group_is_good rid text valid whole low = record {
    itself = record {
      name_units = units (name_of_text text) whole;
      full_name_units = no_units;
      comment_units = no_units;
      bits_fit = omega arith;
      kind_known = refl;
      place = refl;
      named = valid;
      full_name_most = omega arith;
      comment_most = omega arith;
      control = refl;
      primary_kind = refl;
    };
    below = low;
    primary_group = λ user. cc;
    primary_member = λ user. cc;
  }

  alias_is_good : (rid : ℕ) (text : List ℕ) → is_valid_name Alias (name_of_text text) ≡ true
      → list_all is_unit (name_of_text text) ≡ true → rid < first_created_rid
      → IsGoodAccount (seed_lists name sid) (seed_alias rid text)
  alias_is_good rid text valid whole low = record {
    itself = record {
      name_units = units (name_of_text text) whole;
      full_name_units = no_units;
      comment_units = no_units;
      bits_fit = omega arith;
      kind_known = refl;
      place = refl;
      named = valid;
      full_name_most = omega arith;
      comment_most = omega arith;
      control = refl;
      primary_kind = refl;
    };
    below = low;
    primary_group = λ user. cc;
    primary_member = λ user. cc;
  }

  accounts_are_good : Each (IsGoodAccount (seed_lists name sid)) seed_accounts
  unfolding is_valid_name chars code_points units_of
  accounts_are_good =
      also (user_is_good domain_user_rid_admin (codes "Administrator") user_normal_account domain_group_rid_users
      refl refl refl (omega arith) (omega arith) refl refl)
      (also (user_is_good domain_user_rid_guest (codes "Guest") guest_control domain_group_rid_guests
      refl refl refl (omega arith) (omega arith) refl refl)
      (also (group_is_good domain_group_rid_admins (codes "Domain Admins") refl refl (omega arith))
      (also (group_is_good domain_group_rid_users (codes "Domain Users") refl refl (omega arith))
      (also (group_is_good domain_group_rid_guests (codes "Domain Guests") refl refl (omega arith))
      (also (alias_is_good domain_alias_rid_admins (codes "Administrators") refl refl (omega arith))
      (also (alias_is_good domain_alias_rid_users (codes "Users") refl refl (omega arith))
      (also (alias_is_good domain_alias_rid_guests (codes "Guests") refl refl (omega arith)) tt)))))))

  domains_are_good : is_domain_name name ≡ true → is_domain_sid sid ≡ true → AreUnits name → IsSid sid
      → Each IsGoodDomain (seed_domains name sid)
  unfolding chars units_of
  domains_are_good named sided whole sided_whole = (
    record {
      sid_whole = sided_whole;
      name_units = whole;
      oem_units = no_units;
      number_most = omega arith;
      account_name = λ _. named;
      account_sid = λ _. sided;
      builtin_named = λ no. absurd (omega arith);
      builtin_sided = λ no. absurd (omega arith);
      oem_most = omega arith;
      next_least = omega arith;
      next_most = omega arith;
    },
    (
      record {
        sid_whole = record {
          authority_fits = omega arith;
          count_fits = omega arith;
          subs_fit = All-cons (λ sub. sub < 2 ^ 32) 32 [] (omega arith) (All-nil (λ sub. sub < 2 ^ 32));
        };
        name_units = units builtin_name refl;
        oem_units = no_units;
        number_most = omega arith;
        account_name = λ no. absurd (omega arith);
        account_sid = λ no. absurd (omega arith);
        builtin_named = λ _. refl;
        builtin_sided = λ _. refl;
        oem_most = omega arith;
        next_least = omega arith;
        next_most = omega arith;
      },
      tt,
    ),
  )

  abbrev group_there : MemberRow → Bool
  group_there m = is_of Group (account_at (seed_lists name sid) 0 m.group)

  abbrev user_there : MemberRow → Bool
  user_there m = is_of User (account_at (seed_lists name sid) 0 m.user)

  abbrev alias_there : AliasRow → Bool
  alias_there a = is_of Alias (account_at (seed_lists name sid) a.domain a.alias)

  members_are_good : Each IsGoodMember seed_members
  members_are_good = also (omega arith) (also (omega arith) (also (omega arith) tt))

  aliases_are_good : IsSid sid → length sid.subs ≤ most_domain_subs
      → Each (λ (a : AliasRow). IsSid a.member) (seed_aliases sid)
  aliases_are_good whole few =
      also (with_last_whole sid domain_user_rid_admin whole few (omega arith))
      (also (with_last_whole sid domain_group_rid_admins whole few (omega arith))
      (also (with_last_whole sid domain_group_rid_users whole few (omega arith))
      (also (with_last_whole sid domain_user_rid_guest whole few (omega arith))
      (also (with_last_whole sid domain_group_rid_guests whole few (omega arith)) tt))))

  seed_is_sound : is_domain_name name ≡ true → is_domain_sid sid ≡ true → AreUnits name → IsSid sid
      → IsSoundRows (seed_lists name sid)
  seed_is_sound named sided whole sided_whole = record {
    domains_ascend = refl;
    accounts_ascend = refl;
    members_ascend = refl;
    aliases_ascend = seed_aliases_ascend sid;
    lsa_ascend = refl;
    descriptors_ascend = refl;
    outs_ascend = refl;
    domain_rules = λ number d there. found_is domain_key IsGoodDomain (number ∷ []) (seed_domains name sid) d
        (domains_are_good named sided whole sided_whole) there;
    has_account_domain = refl;
    has_builtin_domain = refl;
    account_rules = λ domain rid a there. found_is account_key (IsGoodAccount (seed_lists name sid))
        (domain ∷ rid ∷ []) seed_accounts a accounts_are_good there;
    names_differ = seed_names_differ;
    users_group = refl;
    member_groups = λ group user m there.
        let key : member_key m ≡ group ∷ user ∷ [] = key_found member_key (group ∷ user ∷ []) seed_members m there in
        let same : m.group ≡ group = cc in
        subst (λ n. is_of Group (account_at (seed_lists name sid) 0 n) ≡ true) same
        (found_passes member_key group_there (group ∷ user ∷ []) seed_members m refl there);
    member_users = λ group user m there.
        let key : member_key m ≡ group ∷ user ∷ [] = key_found member_key (group ∷ user ∷ []) seed_members m there in
        let same : m.user ≡ user = cc in
        subst (λ n. is_of User (account_at (seed_lists name sid) 0 n) ≡ true) same
        (found_passes member_key user_there (group ∷ user ∷ []) seed_members m refl there);
    alias_rows = λ domain alias member a there.
        let key : alias_key a ≡ domain ∷ alias ∷ sid_key member =
        key_found alias_key (domain ∷ alias ∷ sid_key member) (seed_aliases sid) a there in
        let domains : a.domain ≡ domain = cc in
        let aliases : a.alias ≡ alias = cc in
        subst (λ n. is_of Alias (account_at (seed_lists name sid) n alias) ≡ true) domains
        (subst (λ n. is_of Alias (account_at (seed_lists name sid) a.domain n) ≡ true) aliases
        (found_passes alias_key alias_there (domain ∷ alias ∷ sid_key member) (seed_aliases sid) a refl there));
    member_rules = λ group user m there. found_is member_key IsGoodMember (group ∷ user ∷ []) seed_members m
        members_are_good there;
    alias_members = λ domain alias member a there. found_is alias_key (λ (x : AliasRow). IsSid x.member)
        (domain ∷ alias ∷ sid_key member) (seed_aliases sid) a
        (aliases_are_good sided_whole (has_slot sid sided)) there;
    lsa_rules = λ member l there. cc;
    desc_rules = λ object d there. cc;
    desc_objects = λ object d there. cc;
    out_rules = λ number o there. cc;
    outs_below = λ number o there. cc;
    outs_run_on = λ number o there later. cc;
    next_least = omega arith;
    next_most = omega arith;
  }

pub seeded_is_sound : (name : List ℕ) (sid : SidValue) (lists : Lists) → is_domain_name name ≡ true
    → is_domain_sid sid ≡ true → AreUnits name → IsSid sid
    → lists ≡ seed_lists name sid → IsSoundRows lists
seeded_is_sound name sid lists named sided whole sided_whole are =
    subst IsSoundRows (sym are) (seed_is_sound name sid named sided whole sided_whole)

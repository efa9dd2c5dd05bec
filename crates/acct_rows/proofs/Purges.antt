-- Rows without an account and without every row that names it are sound
use Rattle.std.proofs.Common.{◌≡◌, ◌≢◌, ℕ, ◌==◌, ◌&&◌, ◌||◌, Bool, true, false, List, [], ◌∷◌}
use Rattle.std.proofs.Common.{◌++◌, map}
use Rattle.std.proofs.Common.{Option, Some, None, refl, sym, ap, subst, ◌∙◌, inl, inr, is_some, arith}
use Rattle.std.specs.List.{filter}
use Rattle.std.proofs.lemmas.Bool.Decides.{nat_tests}
use Rattle.acct_codes.specs.declared.kind.Kind.{Kind}
use Rattle.acct_codes.specs.declared.kind.Kind.TheVariants.{Server, Domain, Group, Alias, User, Policy, Account}
use Rattle.dtyp_sid.specs.Sids.{SidValue}
use Rattle.acct_tables.specs.KeyedRows.{at, without, without_all}
use Rattle.acct_rows.specs.Rows.{Lists, is_of}
use Rattle.acct_tables.specs.Keys.{account_key, member_key, alias_key, desc_key, sid_key}
use Rattle.acct_tables.specs.Selected.{same_kind}
use Rattle.acct_rows.specs.Rows.{account_at, member_at, desc_at, remove_row, removed, naming}
use Rattle.acct_tables.specs.Selected.{is_member_of, is_alias_row_of, key_of_member, key_of_alias}
use Rattle.acct_tables.specs.Keys.{object_key}
use Rattle.acct_rows.specs.Rows.{exists}
use Rattle.acct_tables.specs.Keys.{same_object}
use Rattle.acct_tables.specs.declared.object.Object.{Object}
use Rattle.acct_tables.specs.declared.object.Object.TheVariants as objects
use Rattle.acct_rows.specs.Sound.{IsGoodAccount, IsSoundRows}
use Rattle.acct_rows.specs.Laws.{Keeps, IsNoPrimary, OthersAreNoPrimary, RemovedAccountsStaySound}
use Rattle.acct_tables.specs.declared.row.AccountRow.{AccountRow}
use Rattle.acct_tables.specs.declared.row.MemberRow.{MemberRow}
use Rattle.acct_tables.specs.declared.row.AliasRow.{AliasRow}
use Rattle.acct_tables.specs.declared.row.DescRow.{DescRow}
use Rattle.acct_tables.specs.declared.row.RowKey.{RowKey}
use Rattle.acct_tables.specs.declared.row.RowKey.TheVariants as keys
use Rattle.acct_tables.proofs.Ascending.{is_ascending-filter}
use Rattle.acct_tables.proofs.Lookups.{there_or_not, key_found}
use Rattle.acct_tables.proofs.Orders.{tested}
use Rattle.acct_tables.proofs.Removals.{without_found, without_keeps, is_ascending-without_all, purged_found}
use Rattle.acct_tables.proofs.Removals.{purged_keeps}
use Rattle.acct_rows.proofs.Moves.{user_domain, another, there_still, removed_desc_sound}
use Rattle.acct_tables.proofs.Equals.{equals}

-- the rows that are left
abbrev pub left : Lists → ℕ → ℕ → SidValue → Lists
left r domain rid sid = record {
  domains = r.domains;
  accounts = without account_key (domain ∷ rid ∷ []) r.accounts;
  members = without_all member_key (map member_key (filter (is_member_of domain rid) r.members)) r.members;
  aliases = without_all alias_key (map alias_key (filter (is_alias_row_of domain rid sid) r.aliases)) r.aliases;
  lsa = r.lsa;
  descriptors = r.descriptors;
  outs = r.outs;
  next_out = r.next_out;
}

removed-append : (xs ys : List RowKey) (r : Lists) → removed (xs ++ ys) r ≡ removed ys (removed xs r)
removed-append [] ys r = refl
removed-append (x ∷ xs) ys r = removed-append xs ys _

removed-members : (ms : List MemberRow) (r : Lists)
    → removed (map key_of_member ms) r ≡ record r { members = without_all member_key (map member_key ms) r.members }
removed-members [] r = refl
removed-members (m ∷ ms) r = removed-members ms _

removed-aliases : (xs : List AliasRow) (r : Lists)
    → removed (map key_of_alias xs) r ≡ record r { aliases = without_all alias_key (map alias_key xs) r.aliases }
removed-aliases [] r = refl
removed-aliases (x ∷ xs) r = removed-aliases xs _

pub all_removed : (r : Lists) (domain rid : ℕ) (sid : SidValue)
    → removed (naming r domain rid sid) r ≡ left r domain rid sid
all_removed r domain rid sid =
    let ms = filter (is_member_of domain rid) r.members in
    let xs = filter (is_alias_row_of domain rid sid) r.aliases in
    removed-append (map key_of_member ms ++ map key_of_alias xs) (keys.Account domain rid ∷ []) r
    ∙ ap (removed (keys.Account domain rid ∷ [])) (removed-append (map key_of_member ms) (map key_of_alias xs) r
    ∙ ap (removed (map key_of_alias xs)) (removed-members ms r) ∙ removed-aliases xs _)

one_kind : (j k : Kind) → same_kind j k ≡ true → j ≡ k
one_kind Server Server h = refl
one_kind Domain Domain h = refl
one_kind Group Group h = refl
one_kind Alias Alias h = refl
one_kind User User h = refl
one_kind Policy Policy h = refl
one_kind Account Account h = refl
one_kind j k h = cc

differs : (m n : ℕ) → m ≢ n → (m == n) ≡ false
differs m n apart = grind (arith, nat_tests)

is_zero : (n : ℕ) → (n == 0) ≡ true → n ≡ 0
is_zero n e = grind (arith, nat_tests)

apart_from : (m n : ℕ) → (m == n) ≡ false → m ≢ n
apart_from m n e same = let t : (m == n) ≡ true = equals m n same in cc (t, e)

-- a member row that doesn't name the account, and one that does
not_named : (domain rid g u : ℕ) → (domain ≡ 0 → (g ≢ rid) × (u ≢ rid))
    → ((domain == 0) && ((g == rid) || (u == rid))) ≡ false
not_named domain rid g u apart =
    elim (tested (domain == 0)) [
      | inl t ↦
          let other : (g ≢ rid) × (u ≢ rid) = apart (is_zero domain t) in
          rw (t, differs g rid other.0, differs u rid other.1) refl
      | inr t ↦ rw (t) refl
    ]

named_group : (domain rid g u : ℕ) → domain ≡ 0 → g ≡ rid → ((domain == 0) && ((g == rid) || (u == rid))) ≡ true
named_group domain rid g u zero same = rw (equals domain 0 zero, equals g rid same) refl

or_true : (b : Bool) → (b || true) ≡ true
or_true true = refl
or_true false = refl

named_user : (domain rid g u : ℕ) → domain ≡ 0 → u ≡ rid → ((domain == 0) && ((g == rid) || (u == rid))) ≡ true
named_user domain rid g u zero same = rw (equals domain 0 zero, equals u rid same) (or_true (g == rid))

named_alias : (domain rid : ℕ) (sid : SidValue) (a : AliasRow) → a.domain ≡ domain → a.alias ≡ rid
    → is_alias_row_of domain rid sid a ≡ true
named_alias domain rid sid a domains aliases = rw (equals a.domain domain domains, equals a.alias rid aliases) refl

-- one account is of one kind
kinds_meet : (o : Option AccountRow) (j k : Kind) → is_of j o ≡ true → is_of k o ≡ true → j ≡ k
kinds_meet None j k h i = cc
kinds_meet (Some a) j k h i = one_kind j a.kind h ∙ sym (one_kind k a.kind i)

pub no_primary : OthersAreNoPrimary
no_primary r domain rid sound other j u there user zero primary =
    let group : is_of Group (account_at r 0 u.primary) ≡ true = (sound.account_rules 0 j u there).primary_group user in
    let here : is_of Group (account_at r domain rid) ≡ true =
    subst (λ n. is_of Group (account_at r n rid) ≡ true) (sym zero)
    (subst (λ n. is_of Group (account_at r 0 n) ≡ true) primary group) in
    cc (here, other)

module _ (r : Lists) (domain rid : ℕ) (sid : SidValue) (kind : Kind) (sound : IsSoundRows r)
    (there : is_of kind (account_at r domain rid) ≡ true) (users : domain ≡ 0 → rid ≢ 513)
    (primary : IsNoPrimary r domain rid) where
  -- another account stays
  other_stays : (k : Kind) (n i : ℕ) → (domain ∷ rid ∷ []) ≢ (n ∷ i ∷ []) → is_of k (account_at r n i) ≡ true
      → is_of k (account_at (left r domain rid sid) n i) ≡ true
  other_stays k n i apart was =
      ap (is_of k) (without_keeps account_key (n ∷ i ∷ []) (domain ∷ rid ∷ []) r.accounts apart) ∙ was

  -- so does an account of another kind
  account_stays : (k : Kind) (n i : ℕ) → (k ≡ kind → (domain ∷ rid ∷ []) ≢ (n ∷ i ∷ []))
      → is_of k (account_at r n i) ≡ true
      → is_of k (account_at (left r domain rid sid) n i) ≡ true
  account_stays k n i apart was = other_stays k n i (λ same.
      let here : is_of k (account_at r domain rid) ≡ true = ap (λ q. is_of k (at account_key q r.accounts)) same
      ∙ was in
      apart (kinds_meet (account_at r domain rid) k kind here there) same) was

  member_alike : (x y : MemberRow) → member_key x ≡ member_key y → is_member_of domain rid x ≡ is_member_of domain rid y
  member_alike x y e =
      let group : x.group ≡ y.group = cc in
      let user : x.user ≡ y.user = cc in
      ap (λ n. (domain == 0) && ((n == rid) || (x.user == rid))) group
      ∙ ap (λ n. (domain == 0) && ((y.group == rid) || (n == rid))) user

  good_stays : (n i : ℕ) (a : AccountRow) → account_at r n i ≡ Some a → (domain ∷ rid ∷ []) ≢ (n ∷ i ∷ [])
      → IsGoodAccount r a
      → IsGoodAccount (left r domain rid sid) a
  good_stays n i a e apart good =
      let key : account_key a ≡ n ∷ i ∷ [] = key_found account_key (n ∷ i ∷ []) r.accounts a e in
      record {
        itself = good.itself;
        below = good.below;
        primary_group = λ user. other_stays Group 0 a.primary (λ same.
            let zero : a.domain ≡ 0 = user_domain a.domain a.kind user good.itself.place in
            let here : account_at r 0 i ≡ Some a =
            (let n_is : n ≡ 0 = cc (key, zero) in ap (λ k. account_at r k i) (sym n_is) ∙ e) in
            primary i a here user (cc) (cc)) (good.primary_group user);
        primary_member = λ user. elim (there_or_not (member_at r a.primary a.rid)) [
          | inl w ↦
              let zero : a.domain ≡ 0 = user_domain a.domain a.kind user good.itself.place in
              let here : account_at r 0 i ≡ Some a =
              (let n_is : n ≡ 0 = cc (key, zero) in ap (λ k. account_at r k i) (sym n_is) ∙ e) in
              let member : member_key w.0 ≡ a.primary ∷ a.rid ∷ [] =
              key_found member_key (a.primary ∷ a.rid ∷ []) r.members w.0 w.1 in
              let unnamed : is_member_of domain rid w.0 ≡ false =
              not_named domain rid w.0.group w.0.user (λ domain_is. (
                λ same. primary i a here user domain_is (cc (member, same)),
                λ same. apart (cc (member, same, key, zero, domain_is)),
              )) in
              ap is_some (purged_keeps member_key (is_member_of domain rid) member_alike
              (a.primary ∷ a.rid ∷ []) r.members w.0 w.1 unnamed)
          | inr none ↦ absurd (let no_row : is_some (member_at r a.primary a.rid) ≡ false = ap is_some none in
              let some = good.primary_member user in cc (some, no_row))
        ];
      }

  pub sound_left : ((x : Object) (d : DescRow) → desc_at r x ≡ Some d → exists (left r domain rid sid) x ≡ true)
      → IsSoundRows (left r domain rid sid)
  sound_left described = record {
    domains_ascend = sound.domains_ascend;
    accounts_ascend = is_ascending-filter account_key _ r.accounts sound.accounts_ascend;
    members_ascend = is_ascending-without_all member_key
        (map member_key (filter (is_member_of domain rid) r.members)) r.members sound.members_ascend;
    aliases_ascend = is_ascending-without_all alias_key
        (map alias_key (filter (is_alias_row_of domain rid sid) r.aliases)) r.aliases sound.aliases_ascend;
    lsa_ascend = sound.lsa_ascend;
    descriptors_ascend = sound.descriptors_ascend;
    outs_ascend = sound.outs_ascend;
    domain_rules = sound.domain_rules;
    has_account_domain = sound.has_account_domain;
    has_builtin_domain = sound.has_builtin_domain;
    account_rules = λ n i a e.
        let found = without_found account_key (n ∷ i ∷ []) (domain ∷ rid ∷ []) r.accounts a e in
        good_stays n i a found.0 found.1 (sound.account_rules n i a found.0);
    names_differ = λ n i j a b ea eb one. sound.names_differ n i j a b
        (without_found account_key (n ∷ i ∷ []) (domain ∷ rid ∷ []) r.accounts a ea).0
        (without_found account_key (n ∷ j ∷ []) (domain ∷ rid ∷ []) r.accounts b eb).0 one;
    users_group = other_stays Group 0 513 (λ same. users (cc) (cc)) sound.users_group;
    member_groups = λ g u m e.
        let found = purged_found member_key (is_member_of domain rid) (g ∷ u ∷ []) r.members m e in
        let key : member_key m ≡ g ∷ u ∷ [] = key_found member_key (g ∷ u ∷ []) r.members m found.0 in
        other_stays Group 0 g (λ same.
        let yes : is_member_of domain rid m ≡ true = named_group domain rid m.group m.user (cc) (cc (key, same)) in
        cc (yes, found.1))
        (sound.member_groups g u m found.0);
    member_users = λ g u m e.
        let found = purged_found member_key (is_member_of domain rid) (g ∷ u ∷ []) r.members m e in
        let key : member_key m ≡ g ∷ u ∷ [] = key_found member_key (g ∷ u ∷ []) r.members m found.0 in
        other_stays User 0 u (λ same.
        let yes : is_member_of domain rid m ≡ true = named_user domain rid m.group m.user (cc) (cc (key, same)) in
        cc (yes, found.1))
        (sound.member_users g u m found.0);
    alias_rows = λ n i s a e.
        let found = purged_found alias_key (is_alias_row_of domain rid sid) (n ∷ i ∷ sid_key s) r.aliases a e in
        let key : alias_key a ≡ n ∷ i ∷ sid_key s = key_found alias_key (n ∷ i ∷ sid_key s) r.aliases a found.0 in
        other_stays Alias n i (λ same.
        let yes : is_alias_row_of domain rid sid a ≡ true =
        named_alias domain rid sid a (cc (key, same)) (cc (key, same)) in cc (yes, found.1))
        (sound.alias_rows n i s a found.0);
    member_rules = λ g u m e. sound.member_rules g u m
        (purged_found member_key (is_member_of domain rid) (g ∷ u ∷ []) r.members m e).0;
    alias_members = λ n i s a e. sound.alias_members n i s a
        (purged_found alias_key (is_alias_row_of domain rid sid) (n ∷ i ∷ sid_key s) r.aliases a e).0;
    lsa_rules = sound.lsa_rules;
    desc_rules = sound.desc_rules;
    desc_objects = described;
    out_rules = sound.out_rules;
    outs_below = sound.outs_below;
    outs_run_on = sound.outs_run_on;
    next_least = sound.next_least;
    next_most = sound.next_most;
  }

-- the rows without a descriptor, which are as sound
abbrev bare : Object → Lists → Lists
bare object r = remove_row (keys.Desc object) r

bare_sound : (object : Object) (r : Lists) → IsSoundRows r → IsSoundRows (bare object r)
bare_sound object r sound = (removed_desc_sound r object sound).sound

-- the rows that are left by a plan
kept_left : (object : Object) (r : Lists) (domain rid : ℕ) (sid : SidValue) → IsSoundRows r
    → (((x : Object) (d : DescRow) → desc_at (bare object r) x ≡ Some d
    → exists (left (bare object r) domain rid sid) x ≡ true)
    → IsSoundRows (left (bare object r) domain rid sid))
    → ((x : Object) → exists (bare object r) x ≡ true → same_object x object ≡ false
    → exists (left (bare object r) domain rid sid) x ≡ true)
    → Keeps (λ x. same_object x object) r (removed (keys.Desc object ∷ naming r domain rid sid) r)
kept_left object r domain rid sid sound left_sound stays =
    subst (Keeps (λ x. same_object x object) r) (sym (all_removed (bare object r) domain rid sid)) (record {
      sound = left_sound (λ x d e.
          let found = without_found desc_key (object_key x) (object_key object) r.descriptors d e in
          stays x ((bare_sound object r sound).desc_objects x d e) (another x object found.1));
      stays = λ x was other. stays x (there_still r (bare object r) refl refl refl x was) other;
    })

-- a group that is not of all users
not_users : (r : Lists) (kind : Kind) (domain rid : ℕ) → IsSoundRows r → is_of kind (account_at r domain rid) ≡ true
    → kind ≢ Group
    → domain ≡ 0 → rid ≢ 513
not_users r kind domain rid sound there other zero same =
    let here : is_of kind (account_at r 0 513) ≡ true =
    subst (λ n. is_of kind (account_at r 0 n) ≡ true) same
    (subst (λ n. is_of kind (account_at r n rid) ≡ true) zero there) in
    other (kinds_meet (account_at r 0 513) kind Group here sound.users_group)

group_left : (r : Lists) (rid : ℕ) (sid : SidValue) → IsSoundRows r → is_of Group (account_at r 0 rid) ≡ true
    → rid ≢ 513
    → IsNoPrimary r 0 rid → (x : Object) → exists r x ≡ true → same_object x (objects.Group rid) ≡ false
    → exists (left r 0 rid sid) x ≡ true
group_left r rid sid sound there users primary objects.Server was other = refl
group_left r rid sid sound there users primary objects.Policy was other = refl
group_left r rid sid sound there users primary (objects.Domain n) was other = was
group_left r rid sid sound there users primary (objects.Account s) was other = was
group_left r rid sid sound there users primary (objects.Group i) was other =
    account_stays r 0 rid sid Group sound there (λ _. users) primary Group 0 i
    (λ e same. apart_from i rid other (cc)) was
group_left r rid sid sound there users primary (objects.Alias n i) was other =
    account_stays r 0 rid sid Group sound there (λ _. users) primary Alias n i (λ e same. cc) was
group_left r rid sid sound there users primary (objects.User i) was other =
    account_stays r 0 rid sid Group sound there (λ _. users) primary User 0 i (λ e same. cc) was

user_left : (r : Lists) (rid : ℕ) (sid : SidValue) → IsSoundRows r → is_of User (account_at r 0 rid) ≡ true → rid ≢ 513
    → IsNoPrimary r 0 rid → (x : Object) → exists r x ≡ true → same_object x (objects.User rid) ≡ false
    → exists (left r 0 rid sid) x ≡ true
user_left r rid sid sound there users primary objects.Server was other = refl
user_left r rid sid sound there users primary objects.Policy was other = refl
user_left r rid sid sound there users primary (objects.Domain n) was other = was
user_left r rid sid sound there users primary (objects.Account s) was other = was
user_left r rid sid sound there users primary (objects.User i) was other =
    account_stays r 0 rid sid User sound there (λ _. users) primary User 0 i (λ e same. apart_from i rid other (cc)) was
user_left r rid sid sound there users primary (objects.Alias n i) was other =
    account_stays r 0 rid sid User sound there (λ _. users) primary Alias n i (λ e same. cc) was
user_left r rid sid sound there users primary (objects.Group i) was other =
    account_stays r 0 rid sid User sound there (λ _. users) primary Group 0 i (λ e same. cc) was

and_false : (a b : Bool) → a ≡ true → (a && b) ≡ false → b ≡ false
and_false true b t h = h
and_false false b t h = cc

alias_left : (r : Lists) (domain rid : ℕ) (sid : SidValue) → IsSoundRows r
    → is_of Alias (account_at r domain rid) ≡ true
    → (domain ≡ 0 → rid ≢ 513) → IsNoPrimary r domain rid → (x : Object) → exists r x ≡ true
    → same_object x (objects.Alias domain rid) ≡ false → exists (left r domain rid sid) x ≡ true
alias_left r domain rid sid sound there users primary objects.Server was other = refl
alias_left r domain rid sid sound there users primary objects.Policy was other = refl
alias_left r domain rid sid sound there users primary (objects.Domain n) was other = was
alias_left r domain rid sid sound there users primary (objects.Account s) was other = was
alias_left r domain rid sid sound there users primary (objects.Alias n i) was other =
    account_stays r domain rid sid Alias sound there users primary Alias n i (λ e same.
    let n_is : n ≡ domain = cc in
    let i_is : i ≡ rid = cc in
    apart_from i rid (and_false (n == domain) (i == rid) (equals n domain n_is) other) i_is) was
alias_left r domain rid sid sound there users primary (objects.Group i) was other =
    account_stays r domain rid sid Alias sound there users primary Group 0 i (λ e same. cc) was
alias_left r domain rid sid sound there users primary (objects.User i) was other =
    account_stays r domain rid sid Alias sound there users primary User 0 i (λ e same. cc) was

pub removed_account_sound : RemovedAccountsStaySound
removed_account_sound r objects.Server sid sound account there users primary = cc
removed_account_sound r objects.Policy sid sound account there users primary = cc
removed_account_sound r (objects.Domain n) sid sound account there users primary = cc
removed_account_sound r (objects.Account s) sid sound account there users primary = cc
removed_account_sound r (objects.Group rid) sid sound account there users primary =
    let object = objects.Group rid in
    let b = bare object r in
    let sound_b : IsSoundRows b = bare_sound object r sound in
    let others : rid ≢ 513 = apart_from rid 513 users in
    kept_left object r 0 rid sid sound (sound_left b 0 rid sid Group sound_b there (λ _. others) primary)
    (group_left b rid sid sound_b there others primary)
removed_account_sound r (objects.User rid) sid sound account there users primary =
    let object = objects.User rid in
    let b = bare object r in
    let sound_b : IsSoundRows b = bare_sound object r sound in
    let others : rid ≢ 513 = not_users r User 0 rid sound there (λ e. cc) refl in
    kept_left object r 0 rid sid sound (sound_left b 0 rid sid User sound_b there (λ _. others) primary)
    (user_left b rid sid sound_b there others primary)
removed_account_sound r (objects.Alias n rid) sid sound account there users primary =
    let object = objects.Alias n rid in
    let b = bare object r in
    let sound_b : IsSoundRows b = bare_sound object r sound in
    let others : n ≡ 0 → rid ≢ 513 = not_users r Alias n rid sound there (λ e. cc) in
    kept_left object r n rid sid sound (sound_left b n rid sid Alias sound_b there others primary)
    (alias_left b n rid sid sound_b there others primary)

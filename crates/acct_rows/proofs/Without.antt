-- The rows without an account and without every row that names it: the others, as they were
use Rattle.std.proofs.Common.{◌≡◌, ◌≢◌, ℕ, ◌==◌, ◌&&◌, ◌||◌, not, Bool, true, false, cond, All, List, [], ◌∷◌, map}
use Rattle.std.proofs.Common.{Some, None, refl, sym, ap, subst, ◌∙◌, inl, inr}
use Rattle.std.specs.Cmp.{first_so, second_so}
use Rattle.std.specs.List.{filter, list_any}
use Rattle.std.proofs.lemmas.List.Elements.{All-nil, All-cons, All-head, All-tail, All-weaker}
use Rattle.dtyp_sid.specs.Sids.{SidValue, sid_eq}
use Rattle.acct_tables.specs.KeyedRows.{same_key, at, without, without_all}
use Rattle.acct_rows.specs.Laws.{IsWithout, NamingIsRemoved}
use Rattle.acct_rows.specs.Rows.{Lists, account_at}
use Rattle.acct_tables.specs.Selected.{is_member_of, is_alias_row_of}
use Rattle.acct_tables.specs.Keys.{account_key, member_key, alias_key}
use Rattle.acct_rows.specs.Rows.{find_name}
use Rattle.acct_tables.specs.Selected.{has_name}
use Rattle.acct_rows.specs.Sound.{IsSoundRows}
use Rattle.acct_tables.specs.declared.row.AccountRow.{AccountRow}
use Rattle.acct_tables.specs.declared.row.AliasRow.{AliasRow}
use Rattle.acct_tables.specs.declared.row.MemberRow.{MemberRow}
use Rattle.acct_tables.proofs.Ascending.{is_ascending-filter}
use Rattle.acct_tables.proofs.Lookups.{there_or_not, at-without}
use Rattle.acct_tables.proofs.Orders.{tested, same_key-itself}
use Rattle.acct_rows.proofs.Moves.{search_found}
use Rattle.acct_tables.proofs.Equals.{equal_is}
use Rattle.acct_rows.proofs.Purges.{left, all_removed}
use Rattle.acct_tables.proofs.Removals.{unlisted, without_found}

-- ---- filters

filter-all : {A : Type 0} (xs : List A) → filter (λ x. true) xs ≡ xs
filter-all [] = refl
filter-all (x ∷ xs) = ap (λ ys. x ∷ ys) (filter-all xs)

filter-either : {A : Type 0} (p q : A → Bool) (xs : List A)
    → filter (λ x. not (q x)) (filter (λ x. not (p x)) xs) ≡ filter (λ x. not (p x || q x)) xs
filter-either p q [] = refl
filter-either p q (x ∷ xs) =
    elim (p x) as (λ b. filter (λ x. not (q x))
    (cond (not b) (x ∷ filter (λ x. not (p x)) xs) (filter (λ x. not (p x)) xs))
    ≡ cond (not (b || q x)) (x ∷ filter (λ x. not (p x || q x)) xs) (filter (λ x. not (p x || q x)) xs)) [
      | true ↦ filter-either p q xs
      | false ↦ ap (λ ys. cond (not (q x)) (x ∷ ys) ys) (filter-either p q xs)
    ]

filter-alike : {A : Type 0} (p q : A → Bool) (xs : List A) → All (λ x. p x ≡ q x) xs
    → filter (λ x. not (p x)) xs ≡ filter (λ x. not (q x)) xs
filter-alike p q [] all = refl
filter-alike p q (x ∷ xs) all =
    ap (λ b. cond (not b) (x ∷ filter (λ x. not (p x)) xs) (filter (λ x. not (p x)) xs))
    (All-head (λ x. p x ≡ q x) x xs all)
    ∙ ap (λ ys. cond (not (q x)) (x ∷ ys) ys) (filter-alike p q xs (All-tail (λ x. p x ≡ q x) x xs all))

-- ---- rows without those that pass a test

module _ {A : Type 0} (key : A → List ℕ) where
  abbrev among : List (List ℕ) → A → Bool
  among ks x = list_any (λ k. same_key k (key x)) ks

  without_all-is : (ks : List (List ℕ)) (xs : List A) → without_all key ks xs ≡ filter (λ x. not (among ks x)) xs
  without_all-is [] xs = sym (filter-all xs)
  without_all-is (k ∷ ks) xs =
      without_all-is ks (without key k xs) ∙ filter-either (λ x. same_key k (key x)) (among ks) xs

  grown : (b : Bool) (x y : A) (rest : List A) → among (map key rest) y ≡ true
      → among (map key (cond b (x ∷ rest) rest)) y ≡ true
  grown true x y rest had = elim (same_key (key x) (key y)) as (λ b. (b || among (map key rest) y) ≡ true)
      [ true ↦ refl | false ↦ had ]
  grown false x y rest had = had

  module _ (p : A → Bool) where
    passing : (xs : List A) → All (λ x. p x ≡ true → among (map key (filter p xs)) x ≡ true) xs
    passing [] = All-nil _
    passing (x ∷ xs) =
        All-cons (λ y. p y ≡ true → among (map key (filter p (x ∷ xs))) y ≡ true) x xs
        (λ t. ap (λ b. among (map key (cond b (x ∷ filter p xs) (filter p xs))) x) t
        ∙ ap (λ b. b || among (map key (filter p xs)) x) (same_key-itself (key x)))
        (All-weaker (λ y. p y ≡ true → among (map key (filter p xs)) y ≡ true)
        (λ y. p y ≡ true → among (map key (filter p (x ∷ xs))) y ≡ true)
        (λ y had t. grown (p x) x y (filter p xs) (had t)) xs (passing xs))

    pub purged-is : ((x y : A) → key x ≡ key y → p x ≡ p y) → (xs : List A)
        → without_all key (map key (filter p xs)) xs ≡ filter (λ x. not (p x)) xs
    purged-is alike xs =
        without_all-is (map key (filter p xs)) xs
        ∙ filter-alike (among (map key (filter p xs))) p xs
        (All-weaker (λ x. p x ≡ true → among (map key (filter p xs)) x ≡ true)
        (λ x. among (map key (filter p xs)) x ≡ p x)
        (λ x when. elim (tested (p x)) [
          | inl t ↦ when t ∙ sym t
          | inr f ↦ unlisted key p alike (key x) xs x refl f ∙ sym f
        ]) xs (passing xs))

-- ---- an account

member_alike : (domain rid : ℕ) (x y : MemberRow) → member_key x ≡ member_key y
    → is_member_of domain rid x ≡ is_member_of domain rid y
member_alike domain rid x y e =
    let group : x.group ≡ y.group = cc in
    let user : x.user ≡ y.user = cc in
    ap (λ n. (domain == 0) && ((n == rid) || (x.user == rid))) group
    ∙ ap (λ n. (domain == 0) && ((y.group == rid) || (n == rid))) user

alias_alike : (domain rid : ℕ) (sid : SidValue) (x y : AliasRow) → alias_key x ≡ alias_key y
    → is_alias_row_of domain rid sid x ≡ is_alias_row_of domain rid sid y
alias_alike domain rid sid x y e =
    let domains : x.domain ≡ y.domain = cc in
    let aliases : x.alias ≡ y.alias = cc in
    let authority : x.member.authority ≡ y.member.authority = cc in
    let subs : x.member.subs ≡ y.member.subs = cc in
    ap (λ n. ((n == domain) && (x.alias == rid)) || sid_eq x.member sid) domains
    ∙ ap (λ n. ((y.domain == domain) && (n == rid)) || sid_eq x.member sid) aliases
    ∙ ap (λ n. ((y.domain == domain) && (y.alias == rid))
    || sid_eq (record { authority = n; subs = x.member.subs }) sid) authority
    ∙ ap (λ ns. ((y.domain == domain) && (y.alias == rid))
    || sid_eq (record { authority = y.member.authority; subs = ns }) sid) subs

rid-gone : (r : Lists) (domain rid : ℕ) (sid : SidValue) → account_at (left r domain rid sid) domain rid ≡ None
rid-gone r domain rid sid =
    at-without account_key (domain ∷ rid ∷ []) (domain ∷ rid ∷ []) r.accounts
    ∙ ap (λ b. cond (not b) (account_at r domain rid) None) (same_key-itself (domain ∷ rid ∷ []))

-- an account with the name that is left had another RID, which no two accounts of one name have
name-gone : (r : Lists) (domain rid : ℕ) (sid : SidValue) (a : AccountRow) → IsSoundRows r
    → account_at r domain rid ≡ Some a → find_name (left r domain rid sid) domain a.name ≡ None
name-gone r domain rid sid a sound there =
    elim (there_or_not (find_name (left r domain rid sid) domain a.name)) [
      | inr none ↦ none
      | inl w ↦
          let found : (at account_key (account_key w.0) (left r domain rid sid).accounts ≡ Some w.0)
          × (has_name domain a.name w.0 ≡ true) =
          search_found account_key (has_name domain a.name) (left r domain rid sid).accounts w.0
          (is_ascending-filter account_key _ r.accounts sound.accounts_ascend) w.1 in
          let was : (account_at r w.0.domain w.0.rid ≡ Some w.0) × ((domain ∷ rid ∷ []) ≢ account_key w.0) =
          without_found account_key (account_key w.0) (domain ∷ rid ∷ []) r.accounts w.0 found.0 in
          let same : (w.0.domain == domain) ≡ true = first_so _ _ found.1 in
          let in_domain : w.0.domain ≡ domain = equal_is w.0.domain domain same in
          let here : account_at r domain w.0.rid ≡ Some w.0 =
          subst (λ n. account_at r n w.0.rid ≡ Some w.0) in_domain was.0 in
          let rids : w.0.rid ≡ rid =
          sound.names_differ domain w.0.rid rid w.0 a here there (second_so _ _ found.1) in
          absurd (was.1 (ap (λ n. n ∷ rid ∷ []) (sym in_domain) ∙ ap (λ n. w.0.domain ∷ n ∷ []) (sym rids)))
    ]

pub naming_removed : NamingIsRemoved
naming_removed r domain rid sid sound =
    subst (IsWithout domain rid sid r) (sym (all_removed r domain rid sid)) (record {
      domains = refl;
      accounts = refl;
      members = purged-is member_key (is_member_of domain rid) (member_alike domain rid) r.members;
      aliases = purged-is alias_key (is_alias_row_of domain rid sid) (alias_alike domain rid sid) r.aliases;
      lsa = refl;
      descriptors = refl;
      outs = refl;
      next_out = refl;
      rid_free = rid-gone r domain rid sid;
      name_free = λ a there. name-gone r domain rid sid a sound there;
    })

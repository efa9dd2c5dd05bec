-- What a plan leaves at each key, and rows that are equal at every key.
use Rattle.std.proofs.Common.{◌≡◌, ◌≢◌, ℕ, ◌==◌, Bool, true, false, ◌&&◌, ◌||◌, cond, List, [], ◌∷◌}
use Rattle.std.proofs.Common.{Option, Some, None, refl, sym, ap, subst, ◌∙◌, arith, inl, inr, ◌⊎◌}
use Rattle.std.specs.Prelude.{option_map, not, All, IfSome}
use Rattle.std.specs.List.{list_any, AllByRecursion}
use Rattle.std.specs.Cmp.{first_so, second_so}
use Rattle.std.specs.Cmp.Lexicographic.{nat_list_cmp_total}
use Rattle.std.specs.Ordering.{ordering_reverse}
use Rattle.std.specs.declared.cmp.Ordering.TheVariants.{Less, Greater}
use Rattle.std.proofs.lemmas.Bool.Decides.{nat_tests}
use Rattle.std.proofs.lemmas.List.Elements.{recursion_from_All}
use Rattle.dtyp_sid.specs.Sids.{SidValue, sid_eq, EqualSidsAreOne}
use Rattle.acct_rows.specs.Changes.{row_at, same_row_key, is_put}
use Rattle.acct_tables.specs.KeyedRows.{compare, same_key, at, without, below_all, is_ascending}
use Rattle.acct_rows.specs.PairsOf.{AllFit, AreTables, IsRowOf}
use Rattle.acct_tables.specs.Keys.{object_key}
use Rattle.acct_rows.specs.Rows.{Lists}
use Rattle.acct_tables.specs.Keys.{domain_key, account_key, member_key, alias_key, lsa_key, desc_key, out_key}
use Rattle.acct_rows.specs.Rows.{domain_at, account_at, lsa_at, desc_at, out_at, put_row, remove_row, removed}
use Rattle.acct_tables.specs.Keys.{sid_key}
use Rattle.acct_rows.specs.Rows.{place_row, next_after, with_puts}
use Rattle.acct_rows.specs.Loading.{placed}
use Rattle.acct_rows.specs.Sound.{IsSoundRows}
use Rattle.acct_tables.specs.Spelled.{key_of, Fits, FitsDomain, FitsAccount, FitsMember, FitsAlias, FitsLsa, FitsDesc}
use Rattle.acct_tables.specs.Spelled.{FitsOut}
use Rattle.acct_tables.specs.declared.object.Object.{Object}
use Rattle.acct_tables.specs.declared.row.DomainRow.{DomainRow}
use Rattle.acct_tables.specs.declared.row.AccountRow.{AccountRow}
use Rattle.acct_tables.specs.declared.row.LsaRow.{LsaRow}
use Rattle.acct_tables.specs.declared.row.DescRow.{DescRow}
use Rattle.acct_tables.specs.declared.row.OutRow.{OutRow}
use Rattle.acct_tables.specs.declared.row.Row.{Row}
use Rattle.acct_tables.specs.declared.row.Row.TheVariants as rows
use Rattle.acct_tables.specs.declared.row.RowKey.{RowKey}
use Rattle.acct_tables.specs.declared.row.RowKey.TheVariants as keys
use Rattle.acct_tables.proofs.Ascending.{In, below_in}
use Rattle.acct_tables.proofs.Lookups.{at-without, below_apart, key_found, put_here, put_elsewhere, there_or_not}
use Rattle.acct_tables.proofs.Standing.{at_in, in_at}
use Rattle.acct_tables.proofs.Orders.{same_key-is, same_key-itself, tested}
use Rattle.acct_tables.proofs.Equals.{one_sid}
use Rattle.acct_tables.proofs.ObjectKeys.{one_object, same_object_is, same_object_itself}

all_in : {A : Type 0} (P : A → Type 0) (a : A) (xs : List A) → AllByRecursion P xs → In a xs → P a
all_in P a [] all i = absurd i
all_in P a (x ∷ xs) all (inl i) = subst P (sym i) all.0
all_in P a (x ∷ xs) all (inr i) = all_in P a xs all.1 i

-- what is found in rows that have spellings has one
pub found_fits : {A : Type 0} (F : A → Type 0) (key : A → List ℕ) (q : List ℕ) (xs : List A) → All F xs
    → (found : Option A) → found ≡ at key q xs → IfSome found F
found_fits F key q xs all None e = tt
found_fits F key q xs all (Some a) e = all_in F a xs (recursion_from_All F xs all) (at_in key q a xs (sym e))

domain_found_fits : (lists : Lists) (number : ℕ) (d : DomainRow) → AllFit lists → domain_at lists number ≡ Some d
    → FitsDomain d
domain_found_fits lists number d fit e =
    all_in FitsDomain d lists.domains (recursion_from_All FitsDomain lists.domains fit.domains)
    (at_in domain_key (number ∷ []) d lists.domains e)

account_found_fits : (lists : Lists) (domain rid : ℕ) (a : AccountRow) → AllFit lists
    → account_at lists domain rid ≡ Some a → FitsAccount a
account_found_fits lists domain rid a fit e =
    all_in FitsAccount a lists.accounts (recursion_from_All FitsAccount lists.accounts fit.accounts)
    (at_in account_key (domain ∷ rid ∷ []) a lists.accounts e)

lsa_found_fits : (lists : Lists) (sid : SidValue) (l : LsaRow) → AllFit lists → lsa_at lists sid ≡ Some l
    → FitsLsa l
lsa_found_fits lists sid l fit e =
    all_in FitsLsa l lists.lsa (recursion_from_All FitsLsa lists.lsa fit.lsa)
    (at_in lsa_key (sid_key sid) l lists.lsa e)

desc_found_fits : (lists : Lists) (object : Object) (d : DescRow) → AllFit lists → desc_at lists object ≡ Some d
    → FitsDesc d
desc_found_fits lists object d fit e =
    all_in FitsDesc d lists.descriptors (recursion_from_All FitsDesc lists.descriptors fit.descriptors)
    (at_in desc_key (object_key object) d lists.descriptors e)

out_found_fits : (lists : Lists) (number : ℕ) (o : OutRow) → AllFit lists → out_at lists number ≡ Some o
    → FitsOut o
out_found_fits lists number o fit e =
    all_in FitsOut o lists.outs (recursion_from_All FitsOut lists.outs fit.outs)
    (at_in out_key (number ∷ []) o lists.outs e)

pub row_fits : (lists : Lists) → AllFit lists → (row : Row) → IsRowOf lists row → Fits row
row_fits lists fit (rows.Domain d) e = domain_found_fits lists d.number d fit e
row_fits lists fit (rows.Account a) e = account_found_fits lists a.domain a.rid a fit e
row_fits lists fit (rows.Member m) e =
    all_in FitsMember m lists.members (recursion_from_All FitsMember lists.members fit.members)
    (at_in member_key (m.group ∷ m.user ∷ []) m lists.members e)
row_fits lists fit (rows.Alias a) e =
    all_in FitsAlias a lists.aliases (recursion_from_All FitsAlias lists.aliases fit.aliases)
    (at_in alias_key (a.domain ∷ a.alias ∷ sid_key a.member) a lists.aliases e)
row_fits lists fit (rows.Lsa l) e = lsa_found_fits lists l.sid l fit e
row_fits lists fit (rows.Desc d) e = desc_found_fits lists d.object d fit e
row_fits lists fit (rows.Out o) e = out_found_fits lists o.number o fit e

-- ---- keys

module _ (equal_sids : EqualSidsAreOne) where
  same_number : (m n : ℕ) → (m == n) ≡ true → m ≡ n
  same_number m n e = grind (arith, nat_tests)

  same_is : (j k : RowKey) → same_row_key j k ≡ true → j ≡ k
  same_is (keys.Domain a) (keys.Domain b) e = ap (λ n. keys.Domain n) (same_number a b e)
  same_is (keys.Account a i) (keys.Account b j) e =
      let one = same_number a b (first_so (a == b) (i == j) e) in
      let two = same_number i j (second_so (a == b) (i == j) e) in
      rw (one, two) refl
  same_is (keys.Member a i) (keys.Member b j) e =
      let one = same_number a b (first_so (a == b) (i == j) e) in
      let two = same_number i j (second_so (a == b) (i == j) e) in
      rw (one, two) refl
  same_is (keys.Alias a i s) (keys.Alias b j t) e =
      let rest = second_so (a == b) ((i == j) && sid_eq s t) e in
      let one = same_number a b (first_so (a == b) ((i == j) && sid_eq s t) e) in
      let two = same_number i j (first_so (i == j) (sid_eq s t) rest) in
      let three = (equal_sids s t).0.0 (second_so (i == j) (sid_eq s t) rest) in
      rw (one, two, three) refl
  same_is (keys.Lsa s) (keys.Lsa t) e = ap (λ n. keys.Lsa n) ((equal_sids s t).0.0 e)
  same_is (keys.Desc x) (keys.Desc y) e = ap (λ z. keys.Desc z) (same_object_is x y e)
  same_is (keys.Out m) (keys.Out n) e = ap (λ k. keys.Out k) (same_number m n e)
  same_is j k e = absurd cc

  number_itself : (n : ℕ) → (n == n) ≡ true
  number_itself n = grind (arith, nat_tests)

  both : (a b : Bool) → a ≡ true → b ≡ true → (a && b) ≡ true
  both a b p q = rw (p, q) refl

  pub same_itself : (k : RowKey) → same_row_key k k ≡ true
  same_itself (keys.Domain a) = number_itself a
  same_itself (keys.Account a i) = both (a == a) (i == i) (number_itself a) (number_itself i)
  same_itself (keys.Member a i) = both (a == a) (i == i) (number_itself a) (number_itself i)
  same_itself (keys.Alias a i s) =
      both (a == a) ((i == i) && sid_eq s s) (number_itself a)
      (both (i == i) (sid_eq s s) (number_itself i) ((equal_sids s s).0.1 refl))
  same_itself (keys.Lsa s) = (equal_sids s s).0.1 refl
  same_itself (keys.Desc x) = same_object_itself x
  same_itself (keys.Out n) = number_itself n

  pub same_or_not : (j k : RowKey) → (j ≡ k) ⊎ ((same_row_key j k ≡ false) × (j ≢ k))
  same_or_not j k =
      elim (tested (same_row_key j k)) [
        | inl t ↦ inl (same_is j k t)
        | inr t ↦ inr (
          t,
          λ e. (
              let is : same_row_key j k ≡ true = ap (same_row_key j) (sym e) ∙ same_itself j in
              cc (is, t)),
        )
      ]

-- ---- what is found after a put and a removal

module _ {A : Type 0} (key : A → List ℕ) where
  without_here : (q : List ℕ) (xs : List A) → at key q (without key q xs) ≡ None
  without_here q xs =
      at-without key q q xs ∙ ap (λ b. cond (not b) (at key q xs) None) (same_key-itself q)

  without_apart : (q k : List ℕ) (xs : List A) → q ≢ k → at key q (without key k xs) ≡ at key q xs
  without_apart q k xs apart =
      elim (tested (same_key k q)) [
        | inl t ↦ absurd (apart (sym (same_key-is k q t)))
        | inr t ↦ at-without key q k xs ∙ ap (λ b. cond (not b) (at key q xs) None) t
      ]

-- the next out number isn't looked at
next_unseen : (lists : Lists) (next : ℕ) (key : RowKey) → row_at (record lists { next_out = next }) key ≡ row_at lists key
next_unseen lists next (keys.Domain number) = refl
next_unseen lists next (keys.Account domain rid) = refl
next_unseen lists next (keys.Member group user) = refl
next_unseen lists next (keys.Alias domain alias member) = refl
next_unseen lists next (keys.Lsa sid) = refl
next_unseen lists next (keys.Desc object) = refl
next_unseen lists next (keys.Out number) = refl

pub row_place_here : (lists : Lists) (row : Row) → row_at (place_row row lists) (key_of row) ≡ Some row
row_place_here lists (rows.Domain d) = ap (option_map (λ x. rows.Domain x)) (put_here domain_key d lists.domains)
row_place_here lists (rows.Account a) = ap (option_map (λ x. rows.Account x)) (put_here account_key a lists.accounts)
row_place_here lists (rows.Member m) = ap (option_map (λ x. rows.Member x)) (put_here member_key m lists.members)
row_place_here lists (rows.Alias a) = ap (option_map (λ x. rows.Alias x)) (put_here alias_key a lists.aliases)
row_place_here lists (rows.Lsa l) = ap (option_map (λ x. rows.Lsa x)) (put_here lsa_key l lists.lsa)
row_place_here lists (rows.Desc d) = ap (option_map (λ x. rows.Desc x)) (put_here desc_key d lists.descriptors)
row_place_here lists (rows.Out o) = ap (option_map (λ x. rows.Out x)) (put_here out_key o lists.outs)

pub row_put_here : (lists : Lists) (row : Row) → row_at (put_row row lists) (key_of row) ≡ Some row
row_put_here lists row =
    next_unseen (place_row row lists) (next_after row lists.next_out) (key_of row) ∙ row_place_here lists row

domain_is : (m n : ℕ) → (m ∷ []) ≡ (n ∷ []) → keys.Domain m ≡ keys.Domain n
domain_is m n e =
    let is : m ≡ n = cc in
    ap (λ x. keys.Domain x) is

account_is : (a i b j : ℕ) → (a ∷ i ∷ []) ≡ (b ∷ j ∷ []) → keys.Account a i ≡ keys.Account b j
account_is a i b j e =
    let one : a ≡ b = cc in
    let two : i ≡ j = cc in
    rw (one, two) refl

member_is : (a i b j : ℕ) → (a ∷ i ∷ []) ≡ (b ∷ j ∷ []) → keys.Member a i ≡ keys.Member b j
member_is a i b j e =
    let one : a ≡ b = cc in
    let two : i ≡ j = cc in
    rw (one, two) refl

alias_is : (a i b j : ℕ) (s t : SidValue) → (a ∷ i ∷ sid_key s) ≡ (b ∷ j ∷ sid_key t)
    → keys.Alias a i s ≡ keys.Alias b j t
alias_is a i b j s t e =
    let one : a ≡ b = cc in
    let two : i ≡ j = cc in
    let rest : sid_key s ≡ sid_key t = cc in
    let three = one_sid s t rest in
    rw (one, two, three) refl

out_is : (m n : ℕ) → (m ∷ []) ≡ (n ∷ []) → keys.Out m ≡ keys.Out n
out_is m n e =
    let is : m ≡ n = cc in
    ap (λ x. keys.Out x) is

pub row_place_apart : (lists : Lists) (row : Row) (key : RowKey) → key ≢ key_of row
    → row_at (place_row row lists) key ≡ row_at lists key
row_place_apart lists (rows.Domain d) (keys.Domain n) apart =
    ap (option_map (λ x. rows.Domain x)) (put_elsewhere domain_key (n ∷ []) d lists.domains
    (λ e. apart (domain_is n d.number e)))
row_place_apart lists (rows.Account a) (keys.Account n i) apart =
    ap (option_map (λ x. rows.Account x)) (put_elsewhere account_key (n ∷ i ∷ []) a lists.accounts
    (λ e. apart (account_is n i a.domain a.rid e)))
row_place_apart lists (rows.Member m) (keys.Member n i) apart =
    ap (option_map (λ x. rows.Member x)) (put_elsewhere member_key (n ∷ i ∷ []) m lists.members
    (λ e. apart (member_is n i m.group m.user e)))
row_place_apart lists (rows.Alias a) (keys.Alias n i s) apart =
    ap (option_map (λ x. rows.Alias x)) (put_elsewhere alias_key (n ∷ i ∷ sid_key s) a lists.aliases
    (λ e. apart (alias_is n i a.domain a.alias s a.member e)))
row_place_apart lists (rows.Lsa l) (keys.Lsa s) apart =
    ap (option_map (λ x. rows.Lsa x)) (put_elsewhere lsa_key (sid_key s) l lists.lsa
    (λ e. apart (ap (λ x. keys.Lsa x) (one_sid s l.sid e))))
row_place_apart lists (rows.Desc d) (keys.Desc x) apart =
    ap (option_map (λ y. rows.Desc y)) (put_elsewhere desc_key (object_key x) d lists.descriptors
    (λ e. apart (ap (λ y. keys.Desc y) (one_object x d.object e))))
row_place_apart lists (rows.Out o) (keys.Out n) apart =
    ap (option_map (λ x. rows.Out x)) (put_elsewhere out_key (n ∷ []) o lists.outs
    (λ e. apart (out_is n o.number e)))
row_place_apart lists row key apart = refl

pub row_put_apart : (lists : Lists) (row : Row) (key : RowKey) → key ≢ key_of row
    → row_at (put_row row lists) key ≡ row_at lists key
row_put_apart lists row key apart =
    next_unseen (place_row row lists) (next_after row lists.next_out) key ∙ row_place_apart lists row key apart

pub row_removed_here : (lists : Lists) (key : RowKey) → row_at (remove_row key lists) key ≡ None
row_removed_here lists (keys.Domain n) =
    ap (option_map (λ x. rows.Domain x)) (without_here domain_key (n ∷ []) lists.domains)
row_removed_here lists (keys.Account n i) =
    ap (option_map (λ x. rows.Account x)) (without_here account_key (n ∷ i ∷ []) lists.accounts)
row_removed_here lists (keys.Member n i) =
    ap (option_map (λ x. rows.Member x)) (without_here member_key (n ∷ i ∷ []) lists.members)
row_removed_here lists (keys.Alias n i s) =
    ap (option_map (λ x. rows.Alias x)) (without_here alias_key (n ∷ i ∷ sid_key s) lists.aliases)
row_removed_here lists (keys.Lsa s) =
    ap (option_map (λ x. rows.Lsa x)) (without_here lsa_key (sid_key s) lists.lsa)
row_removed_here lists (keys.Desc x) =
    ap (option_map (λ y. rows.Desc y)) (without_here desc_key (object_key x) lists.descriptors)
row_removed_here lists (keys.Out n) =
    ap (option_map (λ x. rows.Out x)) (without_here out_key (n ∷ []) lists.outs)

pub row_removed_apart : (lists : Lists) (gone key : RowKey) → key ≢ gone
    → row_at (remove_row gone lists) key ≡ row_at lists key
row_removed_apart lists (keys.Domain m) (keys.Domain n) apart =
    ap (option_map (λ x. rows.Domain x)) (without_apart domain_key (n ∷ []) (m ∷ []) lists.domains
    (λ e. apart (domain_is n m e)))
row_removed_apart lists (keys.Account m j) (keys.Account n i) apart =
    ap (option_map (λ x. rows.Account x)) (without_apart account_key (n ∷ i ∷ []) (m ∷ j ∷ []) lists.accounts
    (λ e. apart (account_is n i m j e)))
row_removed_apart lists (keys.Member m j) (keys.Member n i) apart =
    ap (option_map (λ x. rows.Member x)) (without_apart member_key (n ∷ i ∷ []) (m ∷ j ∷ []) lists.members
    (λ e. apart (member_is n i m j e)))
row_removed_apart lists (keys.Alias m j t) (keys.Alias n i s) apart =
    ap (option_map (λ x. rows.Alias x)) (without_apart alias_key (n ∷ i ∷ sid_key s) (m ∷ j ∷ sid_key t) lists.aliases
    (λ e. apart (alias_is n i m j s t e)))
row_removed_apart lists (keys.Lsa t) (keys.Lsa s) apart =
    ap (option_map (λ x. rows.Lsa x)) (without_apart lsa_key (sid_key s) (sid_key t) lists.lsa
    (λ e. apart (ap (λ x. keys.Lsa x) (one_sid s t e))))
row_removed_apart lists (keys.Desc y) (keys.Desc x) apart =
    ap (option_map (λ z. rows.Desc z)) (without_apart desc_key (object_key x) (object_key y) lists.descriptors
    (λ e. apart (ap (λ z. keys.Desc z) (one_object x y e))))
row_removed_apart lists (keys.Out m) (keys.Out n) apart =
    ap (option_map (λ x. rows.Out x)) (without_apart out_key (n ∷ []) (m ∷ []) lists.outs
    (λ e. apart (out_is n m e)))
row_removed_apart lists gone key apart = refl

either : (a b : Bool) → a ≡ true → (a || b) ≡ true
either a b e = rw e refl

or_true : (a b : Bool) → b ≡ true → (a || b) ≡ true
or_true true b e = refl
or_true false b e = e

-- ---- what is found after a plan

abbrev pub among : List RowKey → RowKey → Bool
among gone key = list_any (same_row_key key) gone

module _ (equal_sids : EqualSidsAreOne) where
  pub removed_at : (gone : List RowKey) (lists : Lists) (key : RowKey)
      → row_at (removed gone lists) key ≡ cond (among gone key) None (row_at lists key)
  removed_at [] lists key = refl
  removed_at (g ∷ gs) lists key =
      removed_at gs (remove_row g lists) key
      ∙ elim (same_or_not equal_sids key g) [
        | inl e ↦
            let none : row_at (remove_row g lists) key ≡ None =
            ap (row_at (remove_row g lists)) e ∙ row_removed_here lists g in
            let same : same_row_key key g ≡ true = ap (same_row_key key) (sym e) ∙ same_itself equal_sids key in
            nothing (among gs key) (row_at (remove_row g lists) key) none
            ∙ sym (ap (λ b. cond b None (row_at lists key)) (either (same_row_key key g) (among gs key) same))
        | inr n ↦
            ap (cond (among gs key) None) (row_removed_apart lists g key n.1)
            ∙ sym (ap (λ b. cond (b || among gs key) None (row_at lists key)) n.0)
      ]
    where
      nothing : (b : Bool) (o : Option Row) → o ≡ None → cond b None o ≡ None
      nothing true o e = refl
      nothing false o e = e

  -- where no later row has the key, what was there stays
  pub puts_elsewhere : (puts : List Row) (lists : Lists) (key : RowKey) → is_put puts key ≡ false
      → row_at (with_puts puts lists) key ≡ row_at lists key
  puts_elsewhere [] lists key none = refl
  puts_elsewhere (p ∷ ps) lists key none =
      elim (same_or_not equal_sids key (key_of p)) [
        | inl e ↦ absurd (
            let same : same_row_key key (key_of p) ≡ true =
            ap (same_row_key key) (sym e) ∙ same_itself equal_sids key in
            let is : is_put (p ∷ ps) key ≡ true = either (same_row_key key (key_of p)) (is_put ps key) same in
            cc (is, none))
        | inr n ↦
            let later : is_put ps key ≡ false = sym (ap (λ b. b || is_put ps key) n.0) ∙ none in
            puts_elsewhere ps (put_row p lists) key later ∙ row_put_apart lists p key n.1
      ]

  -- the last row of a key is found there
  pub last_found : (row : Row) (later : List Row) (lists : Lists) → is_put later (key_of row) ≡ false
      → row_at (with_puts (row ∷ later) lists) (key_of row) ≡ Some row
  last_found row later lists none = puts_elsewhere later (put_row row lists) (key_of row) none ∙ row_put_here lists row

-- ---- rows in their places

-- what is placed looks at no next out number, and changes none
place_next : (row : Row) (lists : Lists) (next : ℕ)
    → place_row row (record lists { next_out = next }) ≡ record (place_row row lists) { next_out = next }
place_next (rows.Domain d) lists next = refl
place_next (rows.Account a) lists next = refl
place_next (rows.Member m) lists next = refl
place_next (rows.Alias a) lists next = refl
place_next (rows.Lsa l) lists next = refl
place_next (rows.Desc d) lists next = refl
place_next (rows.Out o) lists next = refl

place_keeps : (row : Row) (lists : Lists) → (place_row row lists).next_out ≡ lists.next_out
place_keeps (rows.Domain d) lists = refl
place_keeps (rows.Account a) lists = refl
place_keeps (rows.Member m) lists = refl
place_keeps (rows.Alias a) lists = refl
place_keeps (rows.Lsa l) lists = refl
place_keeps (rows.Desc d) lists = refl
place_keeps (rows.Out o) lists = refl

pub placed_keeps : (puts : List Row) (lists : Lists) → (placed puts lists).next_out ≡ lists.next_out
placed_keeps [] lists = refl
placed_keeps (row ∷ puts) lists = placed_keeps puts (place_row row lists) ∙ place_keeps row lists

placed_next : (puts : List Row) (lists : Lists) (next : ℕ)
    → placed puts (record lists { next_out = next }) ≡ record (placed puts lists) { next_out = next }
placed_next [] lists next = refl
placed_next (row ∷ puts) lists next =
    ap (placed puts) (place_next row lists next) ∙ placed_next puts (place_row row lists) next

puts_placed : (puts : List Row) (lists : Lists) (key : RowKey)
    → row_at (with_puts puts lists) key ≡ row_at (placed puts lists) key
puts_placed [] lists key = refl
puts_placed (row ∷ puts) lists key =
    let next = next_after row lists.next_out in
    puts_placed puts (put_row row lists) key
    ∙ ap (λ l. row_at l key) (placed_next puts (place_row row lists) next)
    ∙ next_unseen (placed puts (place_row row lists)) next key

-- the last row of a key is found there
pub last_placed : EqualSidsAreOne → (row : Row) (later : List Row) (lists : Lists) → is_put later (key_of row) ≡ false
    → row_at (placed (row ∷ later) lists) (key_of row) ≡ Some row
last_placed equal_sids row later lists none =
    sym (puts_placed (row ∷ later) lists (key_of row)) ∙ last_found equal_sids row later lists none

-- ---- rows that are equal at every key are the same

module _ {A : Type 0} (key : A → List ℕ) where
  alike : (xs ys : List A) → is_ascending key xs ≡ true → is_ascending key ys ≡ true
      → ((q : List ℕ) → at key q xs ≡ at key q ys) → xs ≡ ys
  alike [] [] up on f = refl
  alike [] (y ∷ ys) up on f = absurd (
      let e : Some y ≡ None = sym (in_at key y (y ∷ ys) on (inl refl)) ∙ sym (f (key y)) in cc)
  alike (x ∷ xs) [] up on f = absurd (
      let e : Some x ≡ None = sym (in_at key x (x ∷ xs) up (inl refl)) ∙ f (key x) in cc)
  alike (x ∷ xs) (y ∷ ys) up on f =
      let above : below_all key (key x) xs ≡ true = first_so (below_all key (key x) xs) (is_ascending key xs) up in
      let over : below_all key (key y) ys ≡ true = first_so (below_all key (key y) ys) (is_ascending key ys) on in
      let left : In x (y ∷ ys) =
      at_in key (key x) x (y ∷ ys) (sym (f (key x)) ∙ in_at key x (x ∷ xs) up (inl refl)) in
      let right : In y (x ∷ xs) =
      at_in key (key y) y (x ∷ xs) (f (key y) ∙ in_at key y (y ∷ ys) on (inl refl)) in
      let same : x ≡ y = first x y xs ys above over left right in
      let rest : xs ≡ ys = alike xs ys (second_so (below_all key (key x) xs) (is_ascending key xs) up)
      (second_so (below_all key (key y) ys) (is_ascending key ys) on) (λ q. behind x y xs ys same above over q (f q)) in
      ap (λ z. z ∷ xs) same ∙ ap (λ zs. y ∷ zs) rest
    where
      first : (x y : A) (xs ys : List A) → below_all key (key x) xs ≡ true → below_all key (key y) ys ≡ true
          → In x (y ∷ ys) → In y (x ∷ xs) → x ≡ y
      first x y xs ys above over (inl e) right = e
      first x y xs ys above over (inr i) (inl e) = sym e
      first x y xs ys above over (inr i) (inr j) = absurd (
          let lt : compare (key y) (key x) ≡ Less = below_in key (key y) x ys over i in
          let gt : compare (key x) (key y) ≡ Less = below_in key (key x) y xs above j in
          let turned : compare (key y) (key x) ≡ Greater =
          nat_list_cmp_total.antisymm (key y) (key x) ∙ ap ordering_reverse gt in
          cc (lt, turned))

      behind : (x y : A) (xs ys : List A) → x ≡ y → below_all key (key x) xs ≡ true → below_all key (key y) ys ≡ true
          → (q : List ℕ) → at key q (x ∷ xs) ≡ at key q (y ∷ ys) → at key q xs ≡ at key q ys
      behind x y xs ys same above over q e =
          elim (tested (same_key q (key x))) [
            | inl t ↦
                let is : q ≡ key x = same_key-is q (key x) t in
                let one : at key q xs ≡ None = ap (λ k. at key k xs) is ∙ below_apart key (key x) xs above in
                let two : at key q ys ≡ None =
                ap (λ k. at key k ys) (is ∙ ap key same) ∙ below_apart key (key y) ys over in
                one ∙ sym two
            | inr t ↦
                let u : same_key q (key y) ≡ false = ap (λ z. same_key q (key z)) (sym same) ∙ t in
                sym (ap (λ b. cond b (Some x) (at key q xs)) t) ∙ e ∙ ap (λ b. cond b (Some y) (at key q ys)) u
          ]

  agree : (xs ys : List A) → ((x : A) → at key (key x) xs ≡ Some x → at key (key x) ys ≡ Some x) → (q : List ℕ) (x : A)
      → at key q xs ≡ Some x → at key q ys ≡ Some x
  agree xs ys to q x e =
      let is : key x ≡ q = key_found key q xs x e in
      ap (λ k. at key k ys) (sym is) ∙ to x (ap (λ k. at key k xs) is ∙ e)

  pub same_rows : (xs ys : List A) → is_ascending key xs ≡ true → is_ascending key ys ≡ true
      → ((x : A) → at key (key x) xs ≡ Some x → at key (key x) ys ≡ Some x)
      → ((x : A) → at key (key x) ys ≡ Some x → at key (key x) xs ≡ Some x) → xs ≡ ys
  same_rows xs ys up on to from = alike xs ys up on (λ q. elim (there_or_not (at key q xs)) [
    | inl t ↦ t.1 ∙ sym (agree xs ys to q t.0 t.1)
    | inr n ↦ elim (there_or_not (at key q ys)) [
      | inl t ↦ absurd (let e = agree ys xs from q t.0 t.1 in cc (e, n))
      | inr m ↦ n ∙ sym m
    ]
  ])

pub same_lists : (lists others : Lists) → AreTables lists → AreTables others
    → ((row : Row) → IsRowOf lists row → IsRowOf others row) → ((row : Row) → IsRowOf others row → IsRowOf lists row)
    → lists.next_out ≡ others.next_out → lists ≡ others
same_lists lists others up on to from next =
    let d = same_rows domain_key lists.domains others.domains up.domains on.domains (λ x e. to (rows.Domain x) e)
    (λ x e. from (rows.Domain x) e) in
    let a = same_rows account_key lists.accounts others.accounts up.accounts on.accounts (λ x e. to (rows.Account x) e)
    (λ x e. from (rows.Account x) e) in
    let m = same_rows member_key lists.members others.members up.members on.members (λ x e. to (rows.Member x) e)
    (λ x e. from (rows.Member x) e) in
    let l = same_rows alias_key lists.aliases others.aliases up.aliases on.aliases (λ x e. to (rows.Alias x) e)
    (λ x e. from (rows.Alias x) e) in
    let s = same_rows lsa_key lists.lsa others.lsa up.lsa on.lsa (λ x e. to (rows.Lsa x) e)
    (λ x e. from (rows.Lsa x) e) in
    let t = same_rows desc_key lists.descriptors others.descriptors up.descriptors on.descriptors
    (λ x e. to (rows.Desc x) e) (λ x e. from (rows.Desc x) e) in
    let o = same_rows out_key lists.outs others.outs up.outs on.outs (λ x e. to (rows.Out x) e)
    (λ x e. from (rows.Out x) e) in
    λ i. record {
      domains = d i;
      accounts = a i;
      members = m i;
      aliases = l i;
      lsa = s i;
      descriptors = t i;
      outs = o i;
      next_out = next i;
    }

pub sound_tables : (lists : Lists) → IsSoundRows lists → AreTables lists
sound_tables lists sound = record {
  domains = sound.domains_ascend;
  accounts = sound.accounts_ascend;
  members = sound.members_ascend;
  aliases = sound.aliases_ascend;
  lsa = sound.lsa_ascend;
  descriptors = sound.descriptors_ascend;
  outs = sound.outs_ascend;
}

-- Rows whose keys are a range stand together: the members of an alias, and the accounts of a domain after a RID
use Rattle.std.proofs.Common.{◌≡◌, ℕ, ◌≤◌, ◌==◌, leb, nat_lt, Bool, true, false, ◌&&◌}
use Rattle.std.proofs.Common.{List, [], ◌∷◌, refl, sym, ap, ◌∙◌, arith}
use Rattle.std.specs.Prelude.{not}
use Rattle.std.specs.List.Sorted.{IsPartitionedBy}
use Rattle.std.specs.Cmp.Lexicographic.{nat_list_cmp_total}
use Rattle.std.specs.Ordering.{nat_cmp, is_lt, is_le, ordering_then}
use Rattle.std.specs.declared.cmp.Ordering.{Ordering}
use Rattle.std.specs.declared.cmp.Ordering.TheVariants.{Less, Equal, Greater}
use Rattle.std.proofs.lemmas.Bool.Decides.{nat_tests}
use Rattle.std.proofs.lemmas.Cmp.{ranked}
use Rattle.acct_tables.proofs.Between.{turns, between}
use Rattle.acct_tables.proofs.Orders.{le_then_le, le_then_lt}
use Rattle.acct_tables.specs.KeyedRows.{compare, is_ascending}
use Rattle.acct_tables.specs.Ranges.{is_behind}
use Rattle.acct_tables.specs.Keys.{account_key, alias_key, sid_key}
use Rattle.acct_tables.specs.Selected.{is_in_alias}
use Rattle.acct_tables.specs.declared.row.AccountRow.{AccountRow}
use Rattle.acct_tables.specs.declared.row.AliasRow.{AliasRow}
use Rattle.acct_tables.proofs.Orders.{tied-is}

and_true : (b : Bool) → (b && true) ≡ b
and_true true = refl
and_true false = refl

-- ---- keys

-- what is below a key that isn't above another isn't above it either
pub still_le : (j k q : List ℕ) → compare j k ≡ Less → is_le (compare k q) ≡ true → is_le (compare j q) ≡ true
still_le j k q lt e =
    elim (compare k q) as (λ r. compare k q ≡ r → is_le r ≡ true → is_le (compare j q) ≡ true) [
      | Less ↦ λ is t. ap is_le (nat_list_cmp_total.trans j k q lt is)
      | Equal ↦ λ is t. ap is_le (ap (compare j) (sym (tied-is k q is)) ∙ lt)
      | Greater ↦ λ is t. cc
    ] refl e

first_le : (m n : ℕ) (js ks : List ℕ) → is_le (compare (m ∷ js) (n ∷ ks)) ≡ true → m ≤ n
first_le m n js ks e =
    elim (nat_cmp m n) as (λ r. r ≡ nat_cmp m n → is_le (ordering_then r (compare js ks)) ≡ true → m ≤ n) [
      | Less ↦ λ is t. let lt = ranked m n Less is in omega arith
      | Equal ↦ λ is t. let same = ranked m n Equal is in omega arith
      | Greater ↦ λ is t. cc
    ] refl e

le_true : (m n : ℕ) → m ≤ n → leb m n ≡ true
le_true m n le = grind (arith, nat_tests)

true_le : (m n : ℕ) → leb m n ≡ true → m ≤ n
true_le m n t = grind (arith, nat_tests)

-- ---- the accounts of a domain after a RID

module _ (domain rid : ℕ) where
  abbrev pub not_behind : AccountRow → Bool
  not_behind a = is_le (compare (account_key a) (domain ∷ rid ∷ []))

  abbrev pub up_to_domain : AccountRow → Bool
  up_to_domain a = leb a.domain domain

  pub not_behind_turns : (xs : List AccountRow) → is_ascending account_key xs ≡ true → IsPartitionedBy not_behind xs
  not_behind_turns =
      turns account_key not_behind (λ x y lt e. still_le (account_key x) (account_key y) (domain ∷ rid ∷ []) lt e)

  pub domain_turns : (xs : List AccountRow) → is_ascending account_key xs ≡ true → IsPartitionedBy up_to_domain xs
  domain_turns =
      turns account_key up_to_domain
      (λ x y lt e.
      let lower : x.domain ≤ y.domain = first_le x.domain y.domain (x.rid ∷ []) (y.rid ∷ []) (ap is_le lt) in
      let upper : y.domain ≤ domain = true_le y.domain domain e in
      le_true x.domain domain (omega arith))

  pub domain_later : (a : AccountRow) → not_behind a ≡ true → up_to_domain a ≡ true
  domain_later a e = le_true a.domain domain (first_le a.domain domain (a.rid ∷ []) (rid ∷ []) e)

  behind_of_one : (a : AccountRow) (r : Ordering) → r ≡ nat_cmp a.rid rid
      → not (is_le (ordering_then r Equal)) ≡ nat_lt rid a.rid
  behind_of_one a Less is =
      let lt = ranked a.rid rid Less is in
      let other : nat_lt rid a.rid ≡ false = grind (arith, nat_tests) in
      sym other
  behind_of_one a Equal is =
      let same = ranked a.rid rid Equal is in
      let other : nat_lt rid a.rid ≡ false = grind (arith, nat_tests) in
      sym other
  behind_of_one a Greater is =
      let gt = ranked a.rid rid Greater is in
      let behind : nat_lt rid a.rid ≡ true = grind (arith, nat_tests) in
      sym behind

  behind_of : (a : AccountRow) (r : Ordering) → r ≡ nat_cmp a.domain domain
      → (not (is_le (ordering_then r (ordering_then (nat_cmp a.rid rid) Equal))) && leb a.domain domain)
      ≡ ((a.domain == domain) && nat_lt rid a.rid)
  behind_of a Less is =
      let lt = ranked a.domain domain Less is in
      let other : (a.domain == domain) ≡ false = grind (arith, nat_tests) in
      sym (ap (λ b. b && nat_lt rid a.rid) other)
  behind_of a Equal is =
      let same = ranked a.domain domain Equal is in
      let equal : (a.domain == domain) ≡ true = grind (arith, nat_tests) in
      let up : leb a.domain domain ≡ true = grind (arith, nat_tests) in
      ap (λ b. b && leb a.domain domain) (behind_of_one a (nat_cmp a.rid rid) refl)
      ∙ ap (λ b. nat_lt rid a.rid && b) up ∙ and_true (nat_lt rid a.rid)
      ∙ sym (ap (λ b. b && nat_lt rid a.rid) equal)
  behind_of a Greater is =
      let gt = ranked a.domain domain Greater is in
      let other : (a.domain == domain) ≡ false = grind (arith, nat_tests) in
      let over : leb a.domain domain ≡ false = grind (arith, nat_tests) in
      over ∙ sym (ap (λ b. b && nat_lt rid a.rid) other)

  pub behind_is : (a : AccountRow) → between not_behind up_to_domain a ≡ is_behind domain rid a
  behind_is a = behind_of a (nat_cmp a.domain domain) refl

-- ---- the members of an alias

abbrev pub front : AliasRow → List ℕ
front a = a.domain ∷ a.alias ∷ []

-- the keys' prefixes don't fall
pub fronts : (x y : AliasRow) → compare (alias_key x) (alias_key y) ≡ Less → is_le (compare (front x) (front y)) ≡ true
fronts x y lt = by_domain (nat_cmp x.domain y.domain) lt
  where
    by_alias : (r : Ordering) → ordering_then r (compare (sid_key x.member) (sid_key y.member)) ≡ Less
        → is_le (ordering_then r Equal) ≡ true
    by_alias Less e = refl
    by_alias Equal e = refl
    by_alias Greater e = cc

    by_domain : (r : Ordering)
        → ordering_then r (ordering_then (nat_cmp x.alias y.alias) (compare (sid_key x.member) (sid_key y.member))) ≡
        Less
        → is_le (ordering_then r (ordering_then (nat_cmp x.alias y.alias) Equal)) ≡ true
    by_domain Less e = refl
    by_domain Equal e = by_alias (nat_cmp x.alias y.alias) e
    by_domain Greater e = cc

module _ (domain alias : ℕ) where
  abbrev pub below_alias : AliasRow → Bool
  below_alias a = is_lt (compare (front a) (domain ∷ alias ∷ []))

  abbrev pub up_to_alias : AliasRow → Bool
  up_to_alias a = is_le (compare (front a) (domain ∷ alias ∷ []))

  pub below_alias_turns : (xs : List AliasRow) → is_ascending alias_key xs ≡ true → IsPartitionedBy below_alias xs
  below_alias_turns =
      turns alias_key below_alias (λ x y lt e. le_then_lt (front x) (front y) (domain ∷ alias ∷ []) (fronts x y lt) e)

  pub up_to_alias_turns : (xs : List AliasRow) → is_ascending alias_key xs ≡ true → IsPartitionedBy up_to_alias xs
  up_to_alias_turns =
      turns alias_key up_to_alias (λ x y lt e. le_then_le (front x) (front y) (domain ∷ alias ∷ []) (fronts x y lt) e)

  pub alias_later : (a : AliasRow) → below_alias a ≡ true → up_to_alias a ≡ true
  alias_later a e = by_order (compare (front a) (domain ∷ alias ∷ [])) e
    where
      by_order : (r : Ordering) → is_lt r ≡ true → is_le r ≡ true
      by_order Less t = refl
      by_order Equal t = cc
      by_order Greater t = cc

  one_alias : (a : AliasRow) (r : Ordering) → r ≡ nat_cmp a.alias alias
      → (not (is_lt (ordering_then r Equal)) && is_le (ordering_then r Equal)) ≡ (a.alias == alias)
  one_alias a Less is =
      let lt = ranked a.alias alias Less is in
      let other : (a.alias == alias) ≡ false = grind (arith, nat_tests) in
      sym other
  one_alias a Equal is =
      let same = ranked a.alias alias Equal is in
      let equal : (a.alias == alias) ≡ true = grind (arith, nat_tests) in
      sym equal
  one_alias a Greater is =
      let gt = ranked a.alias alias Greater is in
      let other : (a.alias == alias) ≡ false = grind (arith, nat_tests) in
      sym other

  one_domain : (a : AliasRow) (r : Ordering) → r ≡ nat_cmp a.domain domain
      → (not (is_lt (ordering_then r (ordering_then (nat_cmp a.alias alias) Equal)))
      && is_le (ordering_then r (ordering_then (nat_cmp a.alias alias) Equal)))
      ≡ ((a.domain == domain) && (a.alias == alias))
  one_domain a Less is =
      let lt = ranked a.domain domain Less is in
      let other : (a.domain == domain) ≡ false = grind (arith, nat_tests) in
      sym (ap (λ b. b && (a.alias == alias)) other)
  one_domain a Equal is =
      let same = ranked a.domain domain Equal is in
      let equal : (a.domain == domain) ≡ true = grind (arith, nat_tests) in
      one_alias a (nat_cmp a.alias alias) refl ∙ sym (ap (λ b. b && (a.alias == alias)) equal)
  one_domain a Greater is =
      let gt = ranked a.domain domain Greater is in
      let other : (a.domain == domain) ≡ false = grind (arith, nat_tests) in
      sym (ap (λ b. b && (a.alias == alias)) other)

  pub in_alias_is : (a : AliasRow) → between below_alias up_to_alias a ≡ is_in_alias domain alias a
  in_alias_is a = one_domain a (nat_cmp a.domain domain) refl

-- The rows that name an account: those of its group or alias, and on either side those of its user or SID
use Rattle.std.proofs.Common.{◌≡◌, ℕ, ◌≤◌, ◌==◌, Bool, true, false, ◌&&◌, ◌||◌, cond, List, [], ◌∷◌, ◌++◌, map}
use Rattle.std.proofs.Common.{refl, sym, ap, ◌∙◌, inl, inr, arith, append_assoc}
use Rattle.std.specs.Prelude.{not}
use Rattle.std.specs.List.{filter}
use Rattle.std.specs.List.Sorted.{IsPartitionedBy}
use Rattle.std.specs.declared.cmp.Ordering.{Ordering}
use Rattle.std.specs.declared.cmp.Ordering.TheVariants.{Less, Equal, Greater}
use Rattle.std.specs.Ordering.{nat_cmp, is_eq, is_lt, is_le, ordering_then}
use Rattle.std.specs.Cmp.{second_so, first_so}
use Rattle.std.proofs.lemmas.Bool.Decides.{nat_tests}
use Rattle.std.proofs.lemmas.List.{map-append}
use Rattle.dtyp_sid.specs.Sids.{SidValue, sid_eq, sid_cmp}
use Rattle.dtyp_sid.proofs.Equal.{equal_sids}
use Rattle.acct_tables.specs.steps.Indexes.{index, membership_key, membership_of, memberships_of}
use Rattle.acct_tables.specs.KeyedRows.{compare, is_ascending}
use Rattle.acct_tables.specs.Selected.{is_member_of, is_alias_row_of, is_in_group}
use Rattle.acct_tables.specs.Keys.{member_key, alias_key, sid_key}
use Rattle.acct_tables.specs.Selected.{is_in_alias, is_of_user}
use Rattle.acct_tables.specs.steps.Naming.{is_beside_group, is_beside_alias, has_sid, alias_row}
use Rattle.acct_tables.specs.declared.membership.Membership.{Membership}
use Rattle.acct_tables.specs.declared.row.AliasRow.{AliasRow}
use Rattle.acct_tables.specs.declared.row.MemberRow.{MemberRow}
use Rattle.acct_tables.proofs.Ascending.{In, below_in}
use Rattle.acct_tables.proofs.Between.{turns, alike, between}
use Rattle.acct_tables.proofs.Orders.{le_then_lt, le_then_le, tested}
use Rattle.acct_tables.proofs.BetweenRows.{front, fronts, in_alias_is}
use Rattle.acct_tables.proofs.Holding.{held_order, membership_tells}
use Rattle.acct_tables.proofs.Indexed.{in_index}
use Rattle.acct_tables.proofs.Equals.{one_sid}
use Rattle.acct_tables.proofs.Sides.{either}
use Rattle.acct_tables.proofs.Together.{group_le}
use Rattle.acct_tables.proofs.Users.{filter_put}

-- keys that are pushed part by part
pub pushed : {A B : Type 0} (f : A → B) (all low mid high : List A) (old first second new : List B)
    → all ≡ low ++ mid ++ high → first ≡ old ++ map f low → second ≡ first ++ map f mid → new ≡ second ++ map f high
    → new ≡ old ++ map f all
pushed f all low mid high old first second new e lows mids highs =
    highs
    ∙ ap (λ ks. ks ++ map f high) (mids ∙ ap (λ ks. ks ++ map f mid) lows ∙ append_assoc old (map f low) (map f mid))
    ∙ append_assoc old (map f low ++ map f mid) (map f high)
    ∙ ap (λ ks. old ++ ks) (ap (λ ks. ks ++ map f high) (sym (map-append f low mid))
    ∙ sym (map-append f (low ++ mid) high) ∙ ap (map f) (sym e))

-- ---- member rows

eq_is : (m n : ℕ) → is_eq (nat_cmp m n) ≡ (m == n)
eq_is m n = grind (arith, nat_tests)

lt_down : (l m n : ℕ) → l ≤ m → is_lt (nat_cmp m n) ≡ true → is_lt (nat_cmp l n) ≡ true
lt_down l m n le t = grind (arith, nat_tests)

le_down : (l m n : ℕ) → l ≤ m → is_le (nat_cmp m n) ≡ true → is_le (nat_cmp l n) ≡ true
le_down l m n le t = grind (arith, nat_tests)

none : {A : Type 0} (p : A → Bool) (xs : List A) → filter (λ x. false && p x) xs ≡ []
none p [] = refl
none p (x ∷ xs) = none p xs

pub no_members : (domain rid : ℕ) (members : List MemberRow) → (domain == 0) ≡ false
    → filter (is_member_of domain rid) members ≡ []
no_members domain rid members other =
    alike (is_member_of domain rid) (λ m. false && ((m.group == rid) || (m.user == rid)))
    (λ m. ap (λ b. b && ((m.group == rid) || (m.user == rid))) other) members
    ∙ none (λ m. (m.group == rid) || (m.user == rid)) members

pub members_are : (domain rid : ℕ) (members : List MemberRow) → (domain == 0) ≡ true
    → is_ascending member_key members ≡ true
    → filter (is_member_of domain rid) members
    ≡ filter (is_beside_group false rid) (filter (is_of_user rid) members)
    ++ filter (is_in_group rid) members
    ++ filter (is_beside_group true rid) (filter (is_of_user rid) members)
members_are domain rid members here h =
    alike (is_member_of domain rid) (λ m. is_in_group rid m || is_of_user rid m)
    (λ m. ap (λ b. b && ((m.group == rid) || (m.user == rid))) here) members
    ∙ either member_key (λ m. nat_cmp m.group rid) (is_in_group rid) (is_of_user rid) (λ m. eq_is m.group rid)
    (λ x y lt t. lt_down x.group y.group rid (group_le x y lt) t)
    (λ x y lt t. le_down x.group y.group rid (group_le x y lt) t) members h

-- ---- the memberships of a SID

parts : (r s t : Ordering) → ordering_then (ordering_then r s) t ≡ Less → is_le r ≡ true
parts Less s t e = refl
parts Equal s t e = refl
parts Greater s t e = cc

sids_rise : (x y : Membership) → compare (membership_key x) (membership_key y) ≡ Less
    → is_le (compare (sid_key x.member) (sid_key y.member)) ≡ true
sids_rise x y lt =
    parts (sid_cmp x.member y.member) (nat_cmp x.domain y.domain) (nat_cmp x.alias y.alias)
    (sym (held_order x.member y.member x.domain y.domain x.alias y.alias) ∙ lt)

later : (r : Ordering) → is_lt r ≡ true → is_le r ≡ true
later Less t = refl
later Equal t = cc
later Greater t = cc

between_is : (r : Ordering) → (not (is_lt r) && is_le r) ≡ is_eq r
between_is Less = refl
between_is Equal = refl
between_is Greater = refl

equal_if : (r : Ordering) → is_eq r ≡ true → r ≡ Equal
equal_if Less e = cc
equal_if Equal e = refl
equal_if Greater e = cc

eq_sid : (s t : SidValue) → is_eq (sid_cmp s t) ≡ sid_eq s t
eq_sid s t =
    elim (tested (sid_eq s t)) [
      | inl same ↦ ap is_eq ((equal_sids s t).1.1 ((equal_sids s t).0.0 same)) ∙ sym same
      | inr differ ↦ elim (tested (is_eq (sid_cmp s t))) [
        | inl tied ↦ absurd (
            let is : sid_eq s t ≡ true = (equal_sids s t).0.1 ((equal_sids s t).1.0 (equal_if (sid_cmp s t) tied)) in
            cc (is, differ))
        | inr other ↦ other ∙ sym differ
      ]
    ]

module _ (sid : SidValue) where
  abbrev pub below_sid : Membership → Bool
  below_sid m = is_lt (sid_cmp m.member sid)

  abbrev pub up_to_sid : Membership → Bool
  up_to_sid m = is_le (sid_cmp m.member sid)

  pub below_sid_turns : (xs : List Membership) → is_ascending membership_key xs ≡ true → IsPartitionedBy below_sid xs
  below_sid_turns =
      turns membership_key below_sid
      (λ x y lt e. le_then_lt (sid_key x.member) (sid_key y.member) (sid_key sid) (sids_rise x y lt) e)

  pub up_to_sid_turns : (xs : List Membership) → is_ascending membership_key xs ≡ true → IsPartitionedBy up_to_sid xs
  up_to_sid_turns =
      turns membership_key up_to_sid
      (λ x y lt e. le_then_le (sid_key x.member) (sid_key y.member) (sid_key sid) (sids_rise x y lt) e)

  pub sid_later : (m : Membership) → below_sid m ≡ true → up_to_sid m ≡ true
  sid_later m e = later (sid_cmp m.member sid) e

  pub has_sid_is : (m : Membership) → between below_sid up_to_sid m ≡ has_sid sid m
  has_sid_is m = between_is (sid_cmp m.member sid) ∙ eq_sid m.member sid

-- ---- alias rows

abbrev pub is_held : SidValue → AliasRow → Bool
is_held sid a = sid_eq a.member sid

first_two : (r s : Ordering) → ordering_then r (ordering_then s Equal) ≡ Less → ordering_then r s ≡ Less
first_two Less s e = refl
first_two Equal Less e = refl
first_two Equal Equal e = cc
first_two Equal Greater e = cc
first_two Greater s e = cc

-- rows of one SID stand by domain and alias
held_rise : (a b : AliasRow) → a.member ≡ b.member → compare (alias_key a) (alias_key b) ≡ Less
    → compare (membership_key (membership_of a)) (membership_key (membership_of b)) ≡ Less
held_rise a b same lt =
    let tie : sid_cmp a.member b.member ≡ Equal = (equal_sids a.member b.member).1.1 same in
    held_order a.member b.member a.domain b.domain a.alias b.alias
    ∙ ap (λ r. ordering_then (ordering_then r (nat_cmp a.domain b.domain)) (nat_cmp a.alias b.alias)) tie
    ∙ first_two (nat_cmp a.domain b.domain) (nat_cmp a.alias b.alias)
    (ap (λ r. ordering_then (nat_cmp a.domain b.domain) (ordering_then (nat_cmp a.alias b.alias) r)) (sym tie) ∙ lt)

held_are : (sid : SidValue) (aliases : List AliasRow) → is_ascending alias_key aliases ≡ true
    → map alias_row (filter (has_sid sid) (index membership_of membership_key aliases)) ≡ filter (is_held sid) aliases
held_are sid [] h = refl
held_are sid (a ∷ rest) h =
    let others = held_are sid rest (second_so _ _ h) in
    ap (map alias_row) (filter_put membership_key (has_sid sid) (membership_of a)
    (index membership_of membership_key rest) under alikes)
    ∙ both (is_held sid a) others
  where
    one : (s : SidValue) → sid_eq s sid ≡ true → s ≡ sid
    one s t = (equal_sids s sid).0.0 t

    under : has_sid sid (membership_of a) ≡ true → (b : Membership) → In b (index membership_of membership_key rest)
        → has_sid sid b ≡ true → compare (membership_key (membership_of a)) (membership_key b) ≡ Less
    under t b i s =
        let w = in_index membership_of alias_key membership_key membership_tells b rest i in
        let lt : compare (alias_key a) (alias_key w.0) ≡ Less =
        below_in alias_key (alias_key a) w.0 rest (first_so _ _ h) w.1 in
        let member : b.member ≡ w.0.member = ap (λ (m : Membership). m.member) w.2 in
        ap (λ m. compare (membership_key (membership_of a)) (membership_key m)) w.2
        ∙ held_rise a w.0 (one a.member t ∙ sym (one b.member s) ∙ member) lt

    alikes : (b : Membership) → membership_key (membership_of a) ≡ membership_key b
        → has_sid sid (membership_of a) ≡ has_sid sid b
    alikes b e =
        let k : alias_key a ≡ alias_key (alias_row b) = membership_tells a (alias_row b) e in
        let member : sid_key a.member ≡ sid_key b.member = cc in
        ap (λ s. sid_eq s sid) (one_sid a.member b.member member)

    both : (b : Bool)
        → map alias_row (filter (has_sid sid) (index membership_of membership_key rest)) ≡ filter (is_held sid) rest
        → map alias_row (cond b (membership_of a ∷ filter (has_sid sid) (index membership_of membership_key rest))
        (filter (has_sid sid) (index membership_of membership_key rest)))
        ≡ cond b (a ∷ filter (is_held sid) rest) (filter (is_held sid) rest)
    both true e = ap (λ xs. a ∷ xs) e
    both false e = e

pub held_found : (sid : SidValue) (aliases : List AliasRow) → is_ascending alias_key aliases ≡ true
    → map alias_row (filter (has_sid sid) (memberships_of aliases)) ≡ filter (is_held sid) aliases
unfolding memberships_of
held_found sid aliases h = held_are sid aliases h

pub aliases_are : (domain rid : ℕ) (sid : SidValue) (aliases : List AliasRow) → is_ascending alias_key aliases ≡ true
    → filter (is_alias_row_of domain rid sid) aliases
    ≡ filter (is_beside_alias false domain rid) (filter (is_held sid) aliases)
    ++ filter (is_in_alias domain rid) aliases
    ++ filter (is_beside_alias true domain rid) (filter (is_held sid) aliases)
aliases_are domain rid sid aliases h =
    either alias_key (λ a. compare (front a) (domain ∷ rid ∷ [])) (is_in_alias domain rid) (is_held sid)
    (λ a. sym (between_is (compare (front a) (domain ∷ rid ∷ []))) ∙ in_alias_is domain rid a)
    (λ x y lt t. le_then_lt (front x) (front y) (domain ∷ rid ∷ []) (fronts x y lt) t)
    (λ x y lt t. le_then_le (front x) (front y) (domain ∷ rid ∷ []) (fronts x y lt) t) aliases h

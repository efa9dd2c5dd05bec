-- The pairs of all rows have different keys, and once sorted they are the pairs of the rows.
use Rattle.std.proofs.Common.{◌≡◌, ℕ, ◌+◌, ◌≤◌, ◌==◌, Bool, true, false, cond, List, [], ◌∷◌, ◌++◌}
use Rattle.std.proofs.Common.{map, Option, Some, None, refl, sym, ap, subst, ◌∙◌, arith, inl, inr}
use Rattle.std.specs.List.{AllByRecursion}
use Rattle.std.specs.List.Sorted.{IsPermutation, IsSortedBy}
use Rattle.std.specs.Cmp.{tied_itself, first_so, second_so}
use Rattle.std.specs.Cmp.Lexicographic.{nat_list_cmp_total}
use Rattle.std.specs.declared.cmp.Ordering.TheVariants.{Less, Equal}
use Rattle.std.proofs.lemmas.List.Elements.{recursion_from_All}
use Rattle.std.proofs.lemmas.List.Sorted.{IsPermutation-sym}
use Rattle.dtyp_sid.specs.Sids.{WrittenBytesAreRead, WrittenBytesHaveLengths, ReadBytesAreWritten}
use Rattle.acct_keeper.specs.declared.pairs.Pair.{Pair}
use Rattle.acct_tables.specs.KeyedRows.{compare, same_key, below_all, is_ascending}
use Rattle.acct_tables.specs.Keys.{object_key}
use Rattle.acct_rows.specs.Rows.{Lists}
use Rattle.acct_tables.specs.Keys.{domain_key, account_key, member_key, alias_key, lsa_key, desc_key, out_key, sid_key}
use Rattle.acct_rows.specs.Sound.{IsSoundRows}
use Rattle.acct_tables.specs.Spelled.{stored_key, key_of, pair_of, format_key, next_out_key, next_out_pair, Fits}
use Rattle.acct_tables.specs.Spelled.{FitsDomain, FitsAccount, FitsMember, FitsAlias, FitsLsa, FitsDesc, FitsOut}
use Rattle.acct_tables.specs.Stored.{row_key, lettered, byte_at}
use Rattle.acct_rows.specs.PairRules.{pair_key}
use Rattle.acct_rows.specs.PairsOf.{IsRowOf, IsNextOut, IsPairOf, ArePairsOf, domain_pairs, account_pairs}
use Rattle.acct_rows.specs.PairsOf.{member_pairs, alias_pairs, lsa_pairs, desc_pairs, out_pairs, next_out_pairs}
use Rattle.acct_rows.specs.PairsOf.{all_pairs}
use Rattle.acct_tables.specs.declared.row.DomainRow.{DomainRow}
use Rattle.acct_tables.specs.declared.row.AccountRow.{AccountRow}
use Rattle.acct_tables.specs.declared.row.MemberRow.{MemberRow}
use Rattle.acct_tables.specs.declared.row.AliasRow.{AliasRow}
use Rattle.acct_tables.specs.declared.row.LsaRow.{LsaRow}
use Rattle.acct_tables.specs.declared.row.DescRow.{DescRow}
use Rattle.acct_tables.specs.declared.row.OutRow.{OutRow}
use Rattle.acct_tables.specs.declared.row.Row.{Row}
use Rattle.acct_tables.specs.declared.row.Row.TheVariants as rows
use Rattle.acct_tables.specs.declared.row.RowKey.{RowKey}
use Rattle.acct_tables.specs.declared.row.RowKey.TheVariants as keys
use Rattle.acct_tables.proofs.Ascending.{In}
use Rattle.acct_tables.proofs.Lookups.{same_Some}
use Rattle.acct_tables.proofs.Standing.{in_map, map_in, in_permutation, at_in, in_at, one_if}
use Rattle.acct_tables.proofs.Orders.{same_key-is, less, tested}
use Rattle.acct_tables.proofs.Sorted.{in_left, in_right, in_either}
use Rattle.acct_rows.proofs.Fitting.{all_fit}
use Rattle.acct_tables.proofs.Equals.{equals, equal_is}
use Rattle.acct_tables.proofs.SpelledRows.{key_again, fits_key}
use Rattle.acct_rows.proofs.Members.{count, count-append, count-permutation, precedes, sorted_ascends, ascending-kept}

-- which list the row of a key is in
abbrev is_domain : Option RowKey → Bool
is_domain (Some (keys.Domain number)) = true
is_domain _ = false

abbrev is_account : Option RowKey → Bool
is_account (Some (keys.Account domain rid)) = true
is_account _ = false

abbrev is_member : Option RowKey → Bool
is_member (Some (keys.Member group user)) = true
is_member _ = false

abbrev is_alias : Option RowKey → Bool
is_alias (Some (keys.Alias domain alias member)) = true
is_alias _ = false

abbrev is_lsa : Option RowKey → Bool
is_lsa (Some (keys.Lsa sid)) = true
is_lsa _ = false

abbrev is_desc : Option RowKey → Bool
is_desc (Some (keys.Desc object)) = true
is_desc _ = false

abbrev is_out : Option RowKey → Bool
is_out (Some (keys.Out number)) = true
is_out _ = false

abbrev lists_of : Option RowKey → ℕ
lists_of o = one_if (is_domain o) + (one_if (is_account o) + (one_if (is_member o) + (one_if (is_alias o)
    + (one_if (is_lsa o) + (one_if (is_desc o) + one_if (is_out o))))))

one_list : (o : Option RowKey) → lists_of o ≤ 1
one_list None = omega arith
one_list (Some (keys.Domain number)) = omega arith
one_list (Some (keys.Account domain rid)) = omega arith
one_list (Some (keys.Member group user)) = omega arith
one_list (Some (keys.Alias domain alias member)) = omega arith
one_list (Some (keys.Lsa sid)) = omega arith
one_list (Some (keys.Desc object)) = omega arith
one_list (Some (keys.Out number)) = omega arith

format_is_none : row_key format_key ≡ None
unfolding row_key byte_at lettered
format_is_none = refl

next_out_is_none : row_key next_out_key ≡ None
unfolding row_key byte_at lettered
next_out_is_none = refl

-- the pair of the next out number, where there is one
next_listed : (n : ℕ) (p : Pair) → In p (next_out_pairs n) → IsNextOut n p
next_listed n p i =
    elim (tested (n == 1)) [
      | inl t ↦ absurd (subst (λ b. In p (cond b [] (next_out_pair n ∷ []))) t i)
      | inr t ↦ elim (subst (λ b. In p (cond b [] (next_out_pair n ∷ []))) t i) [
        | inl e ↦ (λ is. cc (t, equals n 1 is), e)
        | inr e ↦ absurd e
      ]
    ]

next_listing : (n : ℕ) (p : Pair) → IsNextOut n p → In p (next_out_pairs n)
next_listing n p is =
    elim (tested (n == 1)) [
      | inl t ↦ absurd (is.0 (equal_is n 1 t))
      | inr t ↦ subst (λ b. In p (cond b [] (next_out_pair n ∷ []))) (sym t) (inl is.1)
    ]

next_once : (n : ℕ) (k : List ℕ) → count k (next_out_pairs n) ≤ one_if (same_key k next_out_key)
next_once n k =
    elim (n == 1) as (λ b. count k (cond b [] (next_out_pair n ∷ [])) ≤ one_if (same_key k next_out_key)) [
      | true ↦ omega arith
      | false ↦ omega arith
    ]

module _ (back : WrittenBytesAreRead) (sizes : WrittenBytesHaveLengths) (only : ReadBytesAreWritten) where
  -- a key has one row key
  key_read : (k : List ℕ) (row : Row) → Fits row → same_key k (stored_key (key_of row)) ≡ true
      → row_key k ≡ Some (key_of row)
  key_read k row fits e =
      ap row_key (same_key-is _ _ e) ∙ key_again back sizes only (key_of row) (fits_key back sizes only row fits)

  module _ {A : Type 0} (key : A → List ℕ) (row : A → Row) (Good : A → Type 0) (fits : (x : A) → Good x → Fits (row x))
      (one : (x y : A) → key_of (row x) ≡ key_of (row y) → key x ≡ key y)
      (kind : Option RowKey → Bool) (mine : (x : A) → kind (Some (key_of (row x))) ≡ true) where
    abbrev pair : A → Pair
    pair x = pair_of (row x)

    none : (k : List ℕ) (x : A) (xs : List A) → row_key k ≡ Some (key_of (row x)) → below_all key (key x) xs ≡ true
        → AllByRecursion Good xs → count k (map pair xs) ≡ 0
    none k x [] is below good = refl
    none k x (y ∷ ys) is below good =
        elim (tested (same_key k (stored_key (key_of (row y))))) [
          | inl t ↦ absurd (
              let read = key_read k (row y) (fits y good.0) t in
              let same : key x ≡ key y = one x y (same_Some (sym is ∙ read)) in
              let lt : compare (key x) (key y) ≡ Less = less _ (first_so _ _ below) in
              let eq : compare (key x) (key y) ≡ Equal =
              ap (λ j. compare (key x) j) (sym same) ∙ tied_itself nat_list_cmp_total (key x) in
              cc (lt, eq))
          | inr t ↦
              let rest = none k x ys is (second_so _ _ below) good.1 in
              let zero_here : one_if (same_key k (stored_key (key_of (row y)))) ≡ 0 = ap one_if t in
              omega arith
        ]

    at_most : (k : List ℕ) (xs : List A) → is_ascending key xs ≡ true → AllByRecursion Good xs
        → count k (map pair xs) ≤ one_if (kind (row_key k))
    at_most k [] up good = omega arith
    at_most k (x ∷ xs) up good =
        elim (tested (same_key k (stored_key (key_of (row x))))) [
          | inl t ↦
              let read = key_read k (row x) (fits x good.0) t in
              let rest = none k x xs read (first_so _ _ up) good.1 in
              let here : one_if (same_key k (stored_key (key_of (row x)))) ≡ 1 = ap one_if t in
              let is : one_if (kind (row_key k)) ≡ 1 = ap (λ o. one_if (kind o)) read ∙ ap one_if (mine x) in
              omega arith
          | inr t ↦
              let rest = at_most k xs (second_so _ _ up) good.1 in
              let here : one_if (same_key k (stored_key (key_of (row x)))) ≡ 0 = ap one_if t in
              omega arith
        ]

  one_domain : (x y : DomainRow) → key_of (rows.Domain x) ≡ key_of (rows.Domain y) → domain_key x ≡ domain_key y
  one_domain x y e = cc

  one_account : (x y : AccountRow) → key_of (rows.Account x) ≡ key_of (rows.Account y) → account_key x ≡ account_key y
  one_account x y e = cc

  one_member : (x y : MemberRow) → key_of (rows.Member x) ≡ key_of (rows.Member y) → member_key x ≡ member_key y
  one_member x y e = cc

  one_alias : (x y : AliasRow) → key_of (rows.Alias x) ≡ key_of (rows.Alias y) → alias_key x ≡ alias_key y
  one_alias x y e =
      let d : x.domain ≡ y.domain = cc in
      let a : x.alias ≡ y.alias = cc in
      let m : x.member ≡ y.member = cc in
      rw (d, a, m) refl

  one_lsa : (x y : LsaRow) → key_of (rows.Lsa x) ≡ key_of (rows.Lsa y) → lsa_key x ≡ lsa_key y
  one_lsa x y e =
      let s : x.sid ≡ y.sid = cc in
      ap sid_key s

  one_desc : (x y : DescRow) → key_of (rows.Desc x) ≡ key_of (rows.Desc y) → desc_key x ≡ desc_key y
  one_desc x y e =
      let o : x.object ≡ y.object = cc in
      ap object_key o

  one_out : (x y : OutRow) → key_of (rows.Out x) ≡ key_of (rows.Out y) → out_key x ≡ out_key y
  one_out x y e =
      let n : x.number ≡ y.number = cc in
      ap (λ k. k ∷ []) n

  once : (lists : Lists) → IsSoundRows lists → (k : List ℕ) → count k (all_pairs lists) ≤ 1
  once lists sound k =
      let fit = all_fit lists sound in
      let d : count k (domain_pairs lists.domains) ≤ one_if (is_domain (row_key k)) =
      at_most domain_key (λ x. rows.Domain x) FitsDomain (λ x f. f) one_domain is_domain (λ x. refl) k lists.domains
      sound.domains_ascend (recursion_from_All FitsDomain lists.domains fit.domains) in
      let a : count k (account_pairs lists.accounts) ≤ one_if (is_account (row_key k)) =
      at_most account_key (λ x. rows.Account x) FitsAccount (λ x f. f) one_account is_account (λ x. refl) k
      lists.accounts sound.accounts_ascend (recursion_from_All FitsAccount lists.accounts fit.accounts) in
      let m : count k (member_pairs lists.members) ≤ one_if (is_member (row_key k)) =
      at_most member_key (λ x. rows.Member x) FitsMember (λ x f. f) one_member is_member (λ x. refl) k
      lists.members sound.members_ascend (recursion_from_All FitsMember lists.members fit.members) in
      let l : count k (alias_pairs lists.aliases) ≤ one_if (is_alias (row_key k)) =
      at_most alias_key (λ x. rows.Alias x) FitsAlias (λ x f. f) one_alias is_alias (λ x. refl) k
      lists.aliases sound.aliases_ascend (recursion_from_All FitsAlias lists.aliases fit.aliases) in
      let s : count k (lsa_pairs lists.lsa) ≤ one_if (is_lsa (row_key k)) =
      at_most lsa_key (λ x. rows.Lsa x) FitsLsa (λ x f. f) one_lsa is_lsa (λ x. refl) k
      lists.lsa sound.lsa_ascend (recursion_from_All FitsLsa lists.lsa fit.lsa) in
      let x : count k (desc_pairs lists.descriptors) ≤ one_if (is_desc (row_key k)) =
      at_most desc_key (λ y. rows.Desc y) FitsDesc (λ x f. f) one_desc is_desc (λ x. refl) k
      lists.descriptors sound.descriptors_ascend (recursion_from_All FitsDesc lists.descriptors fit.descriptors) in
      let o : count k (out_pairs lists.outs) ≤ one_if (is_out (row_key k)) =
      at_most out_key (λ y. rows.Out y) FitsOut (λ x f. f) one_out is_out (λ x. refl) k
      lists.outs sound.outs_ascend (recursion_from_All FitsOut lists.outs fit.outs) in
      let n = next_once lists.next_out k in
      let ns = next_out_pairs lists.next_out in
      let ds = domain_pairs lists.domains in
      let accounts = account_pairs lists.accounts in
      let ms = member_pairs lists.members in
      let ls = alias_pairs lists.aliases in
      let ss = lsa_pairs lists.lsa in
      let ts = desc_pairs lists.descriptors in
      let os = out_pairs lists.outs in
      let en = count-append k ns (ds ++ (accounts ++ (ms ++ (ls ++ (ss ++ (ts ++ os)))))) in
      let e0 = count-append k ds (accounts ++ (ms ++ (ls ++ (ss ++ (ts ++ os))))) in
      let e1 = count-append k accounts (ms ++ (ls ++ (ss ++ (ts ++ os)))) in
      let e2 = count-append k ms (ls ++ (ss ++ (ts ++ os))) in
      let e3 = count-append k ls (ss ++ (ts ++ os)) in
      let e4 = count-append k ss (ts ++ os) in
      let e5 = count-append k ts os in
      elim (tested (same_key k format_key)) [
        | inl t ↦
            let read : row_key k ≡ None = ap row_key (same_key-is _ _ t) ∙ format_is_none in
            let nothing : lists_of (row_key k) ≡ 0 = ap lists_of read in
            let here : one_if (same_key k format_key) ≡ 1 = ap one_if t in
            let other : one_if (same_key k next_out_key) ≡ 0 =
            ap (λ (j : List ℕ). one_if (same_key j next_out_key)) (same_key-is k format_key t) in
            omega arith
        | inr t ↦ elim (tested (same_key k next_out_key)) [
          | inl u ↦
              let read : row_key k ≡ None = ap row_key (same_key-is _ _ u) ∙ next_out_is_none in
              let nothing : lists_of (row_key k) ≡ 0 = ap lists_of read in
              let here : one_if (same_key k format_key) ≡ 0 = ap one_if t in
              let one : one_if (same_key k next_out_key) ≡ 1 = ap one_if u in
              omega arith
          | inr u ↦
              let all = one_list (row_key k) in
              let here : one_if (same_key k format_key) ≡ 0 = ap one_if t in
              let zero_next : one_if (same_key k next_out_key) ≡ 0 = ap one_if u in
              omega arith
        ]
      ]

  -- the pairs of all rows are those of the rows
  listed : (lists : Lists) → IsSoundRows lists → (p : Pair) → In p (all_pairs lists) → IsPairOf lists p
  listed lists sound p (inl e) = inl e
  listed lists sound p (inr e) =
      elim (in_either p (next_out_pairs lists.next_out) _ e) [
        | inl i ↦ inr (inl (next_listed lists.next_out p i))
        | inr e ↦ elim (in_either p (domain_pairs lists.domains) _ e) [
          | inl i ↦
              let x = map_in (λ y. pair_of (rows.Domain y)) p lists.domains i in
              inr (inr (rows.Domain x.0, in_at domain_key x.0 lists.domains sound.domains_ascend x.1, x.2))
          | inr e ↦ elim (in_either p (account_pairs lists.accounts) _ e) [
            | inl i ↦
                let x = map_in (λ y. pair_of (rows.Account y)) p lists.accounts i in
                inr (inr (rows.Account x.0, in_at account_key x.0 lists.accounts sound.accounts_ascend x.1, x.2))
            | inr e ↦ elim (in_either p (member_pairs lists.members) _ e) [
              | inl i ↦
                  let x = map_in (λ y. pair_of (rows.Member y)) p lists.members i in
                  inr (inr (rows.Member x.0, in_at member_key x.0 lists.members sound.members_ascend x.1, x.2))
              | inr e ↦ elim (in_either p (alias_pairs lists.aliases) _ e) [
                | inl i ↦
                    let x = map_in (λ y. pair_of (rows.Alias y)) p lists.aliases i in
                    inr (inr (rows.Alias x.0, in_at alias_key x.0 lists.aliases sound.aliases_ascend x.1, x.2))
                | inr e ↦ elim (in_either p (lsa_pairs lists.lsa) _ e) [
                  | inl i ↦
                      let x = map_in (λ y. pair_of (rows.Lsa y)) p lists.lsa i in
                      inr (inr (rows.Lsa x.0, in_at lsa_key x.0 lists.lsa sound.lsa_ascend x.1, x.2))
                  | inr e ↦ elim (in_either p (desc_pairs lists.descriptors) (out_pairs lists.outs) e) [
                    | inl i ↦
                        let x = map_in (λ y. pair_of (rows.Desc y)) p lists.descriptors i in
                        inr (inr (rows.Desc x.0, in_at desc_key x.0 lists.descriptors sound.descriptors_ascend x.1, x.2))
                    | inr i ↦
                        let x = map_in (λ y. pair_of (rows.Out y)) p lists.outs i in
                        inr (inr (rows.Out x.0, in_at out_key x.0 lists.outs sound.outs_ascend x.1, x.2))
                  ]
                ]
              ]
            ]
          ]
        ]
      ]

  row_listed : (lists : Lists) (row : Row) → IsRowOf lists row → In (pair_of row) (all_pairs lists)
  row_listed lists (rows.Domain d) e =
      inr (in_right _ (next_out_pairs lists.next_out) _ (in_left _ (domain_pairs lists.domains) _ (in_map (λ x. pair_of (rows.Domain x)) d lists.domains (at_in domain_key (d.number ∷ []) d lists.domains e))))
  row_listed lists (rows.Account a) e =
      inr (in_right _ (next_out_pairs lists.next_out) _ (in_right _ (domain_pairs lists.domains) _ (in_left _ (account_pairs lists.accounts) _ (in_map (λ x. pair_of (rows.Account x)) a lists.accounts (at_in account_key (a.domain ∷ a.rid ∷ []) a lists.accounts e)))))
  row_listed lists (rows.Member m) e =
      inr (in_right _ (next_out_pairs lists.next_out) _ (in_right _ (domain_pairs lists.domains) _ (in_right _ (account_pairs lists.accounts) _ (in_left _ (member_pairs lists.members) _ (in_map (λ x. pair_of (rows.Member x)) m lists.members (at_in member_key (m.group ∷ m.user ∷ []) m lists.members e))))))
  row_listed lists (rows.Alias a) e =
      inr (in_right _ (next_out_pairs lists.next_out) _ (in_right _ (domain_pairs lists.domains) _ (in_right _ (account_pairs lists.accounts) _ (in_right _ (member_pairs lists.members) _ (in_left _ (alias_pairs lists.aliases) _ (in_map (λ x. pair_of (rows.Alias x)) a lists.aliases (at_in alias_key (a.domain ∷ a.alias ∷ sid_key a.member) a lists.aliases e)))))))
  row_listed lists (rows.Lsa l) e =
      inr (in_right _ (next_out_pairs lists.next_out) _ (in_right _ (domain_pairs lists.domains) _ (in_right _ (account_pairs lists.accounts) _ (in_right _ (member_pairs lists.members) _ (in_right _ (alias_pairs lists.aliases) _ (in_left _ (lsa_pairs lists.lsa) _ (in_map (λ x. pair_of (rows.Lsa x)) l lists.lsa (at_in lsa_key (sid_key l.sid) l lists.lsa e))))))))
  row_listed lists (rows.Desc d) e =
      inr (in_right _ (next_out_pairs lists.next_out) _ (in_right _ (domain_pairs lists.domains) _ (in_right _ (account_pairs lists.accounts) _ (in_right _ (member_pairs lists.members) _ (in_right _ (alias_pairs lists.aliases) _ (in_right _ (lsa_pairs lists.lsa) _ (in_left _ (desc_pairs lists.descriptors) _ (in_map (λ x. pair_of (rows.Desc x)) d lists.descriptors (at_in desc_key (object_key d.object) d lists.descriptors e)))))))))
  row_listed lists (rows.Out o) e =
      inr (in_right _ (next_out_pairs lists.next_out) _ (in_right _ (domain_pairs lists.domains) _ (in_right _ (account_pairs lists.accounts) _ (in_right _ (member_pairs lists.members) _ (in_right _ (alias_pairs lists.aliases) _ (in_right _ (lsa_pairs lists.lsa) _ (in_right _ (desc_pairs lists.descriptors) (out_pairs lists.outs) (in_map (λ x. pair_of (rows.Out x)) o lists.outs (at_in out_key (o.number ∷ []) o lists.outs e)))))))))

  listing : (lists : Lists) (p : Pair) → IsPairOf lists p → In p (all_pairs lists)
  listing lists p (inl e) = inl e
  listing lists p (inr (inl is)) = inr (in_left _ (next_out_pairs lists.next_out) _ (next_listing lists.next_out p is))
  listing lists p (inr (inr e)) = subst (λ q. In q (all_pairs lists)) (sym e.2) (row_listed lists e.0 e.1)

  pub sorted_are_pairs : (lists : Lists) (ps qs : List Pair) → IsSoundRows lists → ps ≡ all_pairs lists
      → IsPermutation ps qs → IsSortedBy precedes qs → ArePairsOf lists qs
  sorted_are_pairs lists ps qs sound is perm up =
      let few : (k : List ℕ) → count k qs ≤ 1 =
      λ k. (let same = count-permutation k ps qs perm in
      let all : count k ps ≤ 1 = subst (λ xs. count k xs ≤ 1) (sym is) (once lists sound k) in omega arith) in
      let ascends = sorted_ascends qs up few in
      let keyed : is_ascending pair_key qs ≡ true = ascending-kept qs ∙ ascends in
      record {
        ascending = ascends;
        held = λ p. (
          (λ e. listed lists sound p (subst (λ xs. In p xs) is
              (in_permutation p qs ps (IsPermutation-sym ps qs perm) (at_in pair_key p.key p qs e)))),
          (λ e. in_at pair_key p qs keyed
              (in_permutation p ps qs perm (subst (λ xs. In p xs) (sym is) (listing lists p e)))),
        );
      }

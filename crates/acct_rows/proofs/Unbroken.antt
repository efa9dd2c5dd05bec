-- The pairs of sound rows break no rule, and rows whose pairs break none are sound.
use Rattle.std.proofs.Common.{◌≡◌, ◌≢◌, ℕ, zero, suc, ◌+◌, ◌^◌, ◌<◌, ◌≤◌, ◌==◌, nat_lt, Bool, true, false, ◌&&◌, ◌||◌}
use Rattle.std.proofs.Common.{List, [], ◌∷◌, Option, Some, None, refl, sym, ap, subst, ◌∙◌, arith, inl, inr, ◌⊎◌}
use Rattle.std.specs.Prelude.{is_some, option_map, not, nat_le}
use Rattle.std.specs.List.{list_any}
use Rattle.std.specs.Str.{bytes_eq}
use Rattle.std.proofs.lemmas.Bool.Decides.{nat_tests}
use Rattle.std.proofs.lemmas.Slice.Eq.{bytes_eq-Decides}
use Rattle.acct_codes.specs.declared.kind.Kind.{Kind}
use Rattle.acct_codes.specs.declared.kind.Kind.TheVariants.{Group, Alias, User}
use Rattle.acct_codes.specs.Accounts.{domain_group_rid_users}
use Rattle.dtyp_sid.specs.Sids.{SidValue, EqualSidsAreOne, WrittenBytesAreRead, WrittenBytesHaveLengths}
use Rattle.dtyp_sid.specs.Sids.{ReadBytesAreWritten}
use Rattle.acct_calls.specs.Names.{is_same, IsEquivalence}
use Rattle.acct_keeper.specs.declared.pairs.Pair.{Pair}
use Rattle.acct_tables.specs.KeyedRows.{same_key, is_ascending}
use Rattle.acct_rows.specs.Rows.{Lists, domain_at, account_at, member_at, alias_row_at}
use Rattle.acct_tables.specs.Keys.{domain_key, account_key}
use Rattle.acct_rows.specs.Rows.{lsa_at, desc_at, out_at}
use Rattle.acct_tables.specs.Keys.{member_key, alias_key, lsa_key, desc_key, out_key}
use Rattle.acct_tables.specs.Selected.{same_kind}
use Rattle.acct_rows.specs.Rows.{is_of, exists}
use Rattle.acct_rows.specs.Sound.{IsGoodAccount, IsSoundRows, next_rid_of}
use Rattle.acct_tables.specs.Good.{IsGoodDomain, IsGoodOut}
use Rattle.acct_tables.specs.Spelled.{rid_bytes, stored_key, key_of, pair_of, format_key, format_value}
use Rattle.acct_tables.specs.Spelled.{old_format_value}
use Rattle.acct_tables.specs.Spelled.{format_pair, next_out_key, next_out_value, next_out_pair, Fits, FitsObject}
use Rattle.acct_tables.specs.Stored.{row_of, next_out_of}
use Rattle.acct_rows.specs.PairRules.{pair_key, pair_at, is_there, is_missing, is_past, is_past_next}
use Rattle.acct_rows.specs.PairRules.{is_earlier, has_taken_name, lacks_group_or_user, lacks_primary}
use Rattle.acct_rows.specs.PairRules.{breaks_among, breaks_rule, is_format, is_broken_pair, needed_keys}
use Rattle.acct_tables.specs.RowRules.{breaks_alone}
use Rattle.acct_rows.specs.PairRules.{is_broken_at, is_broken, is_old, next_out_in, is_next_out, lacks, is_out_of_turn}
use Rattle.acct_rows.specs.PairRules.{is_misnumbered, AreUnbroken}
use Rattle.acct_rows.specs.PairsOf.{IsRowOf, IsPairOf, HoldPairs}
use Rattle.acct_tables.specs.declared.row.DomainRow.{DomainRow}
use Rattle.acct_tables.specs.declared.row.AccountRow.{AccountRow}
use Rattle.acct_tables.specs.declared.row.MemberRow.{MemberRow}
use Rattle.acct_tables.specs.declared.row.AliasRow.{AliasRow}
use Rattle.acct_tables.specs.declared.row.DescRow.{DescRow}
use Rattle.acct_tables.specs.declared.row.OutRow.{OutRow}
use Rattle.acct_tables.specs.declared.object.Object.{Object}
use Rattle.acct_tables.specs.declared.object.Object.TheVariants as objects
use Rattle.acct_tables.specs.declared.row.Row.{Row}
use Rattle.acct_tables.specs.declared.row.Row.TheVariants as rows
use Rattle.acct_tables.specs.declared.row.RowKey.{RowKey}
use Rattle.acct_tables.specs.declared.row.RowKey.TheVariants as keys
use Rattle.acct_tables.proofs.Ascending.{In}
use Rattle.acct_tables.proofs.Lookups.{there_or_not, key_found}
use Rattle.acct_tables.proofs.Standing.{at_in, in_at}
use Rattle.acct_tables.proofs.Orders.{same_key-is, tested}
use Rattle.acct_tables.proofs.ReadRows.{FitsKey}
use Rattle.acct_tables.proofs.SpelledRows.{fits_key, spelled_rows_are_read}
use Rattle.acct_rows.specs.Changes.{row_at}
use Rattle.acct_rows.proofs.Translated.{domain_found, account_found, member_found, alias_found, lsa_found, desc_found}
use Rattle.acct_rows.proofs.Translated.{out_found, format_none, next_out_none, next_read, next_read_bounds, not_format}
use Rattle.acct_rows.proofs.Translated.{not_next_out, not_old, next_there, next_known, row_there, there_is, domain_is}
use Rattle.acct_tables.proofs.Equals.{nat_cases}
use Rattle.acct_rows.proofs.Translated.{missing_is}
use Rattle.acct_tables.proofs.Judged.{either_false, both_false, not_false, not_true, domain_good, account_good}
use Rattle.acct_tables.proofs.Judged.{lsa_good}
use Rattle.acct_tables.proofs.Judged.{out_good, good_domain, good_account, good_lsa, good_out, IsUsersGroup, users_kind}

any_false : {A : Type 0} (p : A → Bool) (a : A) (xs : List A) → list_any p xs ≡ false → In a xs → p a ≡ false
any_false p a [] e i = absurd i
any_false p a (x ∷ xs) e (inl i) = ap p i ∙ (either_false (p x) (list_any p xs) e).0
any_false p a (x ∷ xs) e (inr i) = any_false p a xs (either_false (p x) (list_any p xs) e).1 i

none_true : {A : Type 0} (p : A → Bool) (xs : List A) → ((a : A) → In a xs → p a ≡ false) → list_any p xs ≡ false
none_true p [] f = refl
none_true p (x ∷ xs) f = both_false (p x) (list_any p xs) (f x (inl refl)) (none_true p xs (λ a i. f a (inr i)))

not_same : (xs ys : List ℕ) → xs ≢ ys → bytes_eq xs ys ≡ false
not_same xs ys apart =
    elim (tested (bytes_eq xs ys)) [ inl t ↦ absurd (apart ((bytes_eq-Decides xs ys).0 t)) | inr t ↦ t ]

is_there_of : {A : Type 0} (o : Option A) (a : A) → o ≡ Some a → is_some o ≡ true
is_there_of o a e = ap is_some e

some_of : {A : Type 0} (o : Option A) → is_some o ≡ true → (a : A) × (o ≡ Some a)
some_of (Some a) e = (a, refl)
some_of None e = absurd cc

below_next : (rid : ℕ) (o : Option DomainRow) → is_some o ≡ true → is_past rid o ≡ false → rid < next_rid_of o
below_next rid (Some d) there e = grind (arith, nat_tests)
below_next rid None there e = absurd cc

past_false : (rid : ℕ) (o : Option DomainRow) → rid < next_rid_of o → is_past rid o ≡ false
past_false rid (Some d) lt = grind (arith, nat_tests)
past_false rid None lt = absurd (omega arith)

zero_or_one : (n : ℕ) → n ≤ 1 → (n ≡ 0) ⊎ (n ≡ 1)
zero_or_one zero le = inl refl
zero_or_one (suc zero) le = inr refl
zero_or_one (suc (suc n)) le = absurd (omega arith)

module _ (back : WrittenBytesAreRead) (sizes : WrittenBytesHaveLengths) (only : ReadBytesAreWritten)
    (equal_sids : EqualSidsAreOne) (same_names : IsEquivalence) (lists : Lists) (pairs : List Pair)
    (fit : (row : Row) → IsRowOf lists row → Fits row) (held : HoldPairs lists pairs) where
  row_not_format : (row : Row) → IsRowOf lists row → is_format (pair_of row) ≡ false
  row_not_format row e =
      ap (λ b. b && (bytes_eq (pair_of row).value format_value || bytes_eq (pair_of row).value old_format_value))
      (not_same (stored_key (key_of row)) format_key
      (not_format back sizes only (key_of row) (fits_key back sizes only row (fit row e))))

  row_not_next : (row : Row) → IsRowOf lists row → is_next_out pairs (pair_of row) ≡ false
  row_not_next row e =
      ap (λ b. b && (is_some (next_out_of (pair_of row).value) && not (is_old pairs)))
      (not_same (stored_key (key_of row)) next_out_key
      (not_next_out back sizes only (key_of row) (fits_key back sizes only row (fit row e))))

  row_read : (row : Row) → IsRowOf lists row → row_of (pair_of row) ≡ Some row
  row_read row e = spelled_rows_are_read back sizes only row (fit row e)

  -- what the pair of a row breaks
  pair_breaks : (row : Row) → IsRowOf lists row → is_broken_pair pairs (pair_of row) ≡ breaks_rule pairs (Some row)
  pair_breaks row e =
      ap (λ b. not b && (not (is_next_out pairs (pair_of row)) && breaks_rule pairs (row_of (pair_of row))))
      (row_not_format row e)
      ∙ ap (λ b. not b && breaks_rule pairs (row_of (pair_of row))) (row_not_next row e)
      ∙ ap (breaks_rule pairs) (row_read row e)

  module _ (unbroken : AreUnbroken pairs) where
    row_unbroken : (row : Row) → IsRowOf lists row → (breaks_alone row ≡ false) × (breaks_among pairs row ≡ false)
    row_unbroken row e =
        either_false (breaks_alone row) (breaks_among pairs row)
        (sym (pair_breaks row e)
        ∙ ap (is_broken_at pairs (stored_key (key_of row))) (sym (row_there back sizes only lists pairs fit held row e))
        ∙ unbroken (stored_key (key_of row)))

    needed_there : (k : List ℕ) → list_any (same_key k) needed_keys ≡ true → is_some (pair_at k pairs) ≡ true
    needed_there k need =
        elim (there_or_not (pair_at k pairs)) [
          | inl there ↦ ap is_some there.1
          | inr none ↦ absurd (
              let broken : is_broken pairs k ≡ true = ap (is_broken_at pairs k) none ∙ need in
              let whole = unbroken k in
              cc (broken, whole))
        ]

    key_there : (key : RowKey) → FitsKey key → list_any (same_key (stored_key key)) needed_keys ≡ true
        → is_some (row_at lists key) ≡ true
    key_there key fits need =
        sym (there_is back sizes only lists pairs fit held key fits) ∙ needed_there (stored_key key) need

    some_mapped : {A : Type 0} (f : A → Row) (o : Option A) → is_some (option_map f o) ≡ true → is_some o ≡ true
    some_mapped f (Some a) e = refl
    some_mapped f None e = absurd cc

    domain_there : (number : ℕ) → number ≤ 1 → is_some (domain_at lists number) ≡ true
    domain_there zero le =
        some_mapped (λ d. rows.Domain d) (domain_at lists 0) (key_there (keys.Domain 0) le refl)
    domain_there (suc zero) le =
        some_mapped (λ d. rows.Domain d) (domain_at lists 1) (key_there (keys.Domain 1) le refl)
    domain_there (suc (suc n)) le = absurd (omega arith)

    missing_false : (kind : Kind) (domain rid : ℕ) → domain ≤ 1 → rid < 2 ^ 32
        → is_missing kind pairs domain rid ≡ false
        → is_of kind (account_at lists domain rid) ≡ true
    missing_false kind domain rid one fits e =
        not_false _ (sym (missing_is back sizes only lists pairs fit held kind domain rid one fits) ∙ e)

    -- an object is there where it isn't missing
    not_lacking : (object : Object) → FitsObject object → lacks pairs object ≡ false → exists lists object ≡ true
    not_lacking objects.Server fits e = refl
    not_lacking objects.Policy fits e = refl
    not_lacking (objects.Domain number) fits e =
        some_mapped (λ d. rows.Domain d) (domain_at lists number)
        (sym (there_is back sizes only lists pairs fit held (keys.Domain number) fits) ∙ not_false _ e)
    not_lacking (objects.Group rid) fits e = missing_false Group 0 rid (omega arith) fits e
    not_lacking (objects.Alias domain rid) fits e = missing_false Alias domain rid fits.0 fits.1 e
    not_lacking (objects.User rid) fits e = missing_false User 0 rid (omega arith) fits e
    not_lacking (objects.Account sid) fits e =
        some_mapped (λ l. rows.Lsa l) (lsa_at lists sid)
        (sym (there_is back sizes only lists pairs fit held (keys.Lsa sid) fits) ∙ not_false _ e)

    desc_whole : (object : Object) (d : DescRow) → desc_at lists object ≡ Some d → exists lists object ≡ true
    desc_whole object d e =
        let row = rows.Desc d in
        let found = desc_found lists object d e in
        let fits = fit row found.0 in
        let lacking = either_false (lacks pairs d.object) _ (row_unbroken row found.0).1 in
        let is : d.object ≡ object = (let k = found.1 in cc) in
        subst (λ x. exists lists x ≡ true) is (not_lacking d.object fits.object lacking.0)

    good_domain_at : (number : ℕ) (d : DomainRow) → domain_at lists number ≡ Some d → IsGoodDomain d
    good_domain_at number d e =
        let is = (domain_found lists number d e).0 in
        domain_good equal_sids d (fit (rows.Domain d) is) (row_unbroken (rows.Domain d) is).0

    good_account_at : (domain rid : ℕ) (a : AccountRow) → account_at lists domain rid ≡ Some a → IsGoodAccount lists a
    good_account_at domain rid a e =
        let row = rows.Account a in
        let is = (account_found lists domain rid a e).0 in
        let fits = fit row is in
        let whole = row_unbroken row is in
        let past = either_false (is_past_next pairs row) _ whole.1 in
        let taken = either_false (has_taken_name pairs row) _ past.1 in
        let primary = either_false (lacks_primary pairs row) false taken.1 in
        let user : same_kind User a.kind ≡ true
        → (is_missing Group pairs 0 a.primary || not (is_there pairs (keys.Member a.primary a.rid))) ≡ false =
        λ t. ap (λ b. b && (is_missing Group pairs 0 a.primary || not (is_there pairs (keys.Member a.primary a.rid))))
        (sym t) ∙ primary.0 in
        record {
          itself = account_good a fits whole.0;
          below = below_next a.rid (domain_at lists a.domain) (domain_there a.domain fits.domain)
              (ap (is_past a.rid) (sym (domain_is back sizes only lists pairs fit held a.domain fits.domain)) ∙ past.0);
          primary_group = λ t. missing_false Group 0 a.primary (omega arith) fits.primary
              (either_false (is_missing Group pairs 0 a.primary) _ (user t)).0;
          primary_member = λ t. some_mapped (λ m. rows.Member m) (member_at lists a.primary a.rid)
              (sym (there_is back sizes only lists pairs fit held (keys.Member a.primary a.rid)
              (fits.primary, fits.rid))
              ∙ not_false _ (either_false (is_missing Group pairs 0 a.primary) _ (user t)).1);
        }

    account_pair_in : (a : AccountRow) → IsRowOf lists (rows.Account a) → In (pair_of (rows.Account a)) pairs
    account_pair_in a e =
        at_in pair_key (stored_key (keys.Account a.domain a.rid)) (pair_of (rows.Account a)) pairs
        (row_there back sizes only lists pairs fit held (rows.Account a) e)

    -- no account of the domain with a smaller RID has its name
    not_taken : (a b : AccountRow) → IsRowOf lists (rows.Account a) → IsRowOf lists (rows.Account b)
        → b.domain ≡ a.domain
        → b.rid < a.rid → is_same b.name a.name ≡ false
    not_taken a b ea eb domain lt =
        let row = rows.Account a in
        let past = either_false (is_past_next pairs row) _ (row_unbroken row ea).1 in
        let taken = either_false (has_taken_name pairs row) _ past.1 in
        let one : is_earlier a (row_of (pair_of (rows.Account b))) ≡ false =
        any_false (λ p. is_earlier a (row_of p)) (pair_of (rows.Account b)) pairs taken.0 (account_pair_in b eb) in
        let test : is_earlier a (Some (rows.Account b)) ≡ false = ap (is_earlier a) (sym (row_read (rows.Account b) eb))
        ∙ one in
        let same : (b.domain == a.domain) ≡ true = grind (arith, nat_tests) in
        let low : nat_lt b.rid a.rid ≡ true = grind (arith, nat_tests) in
        ap (λ t. t && is_same b.name a.name) (sym low)
        ∙ ap (λ t. t && (nat_lt b.rid a.rid && is_same b.name a.name)) (sym same) ∙ test

    names_apart : (domain i j : ℕ) (a b : AccountRow) → account_at lists domain i ≡ Some a
        → account_at lists domain j ≡ Some b → is_same a.name b.name ≡ true → i ≡ j
    names_apart domain i j a b ea eb same =
        let fa = account_found lists domain i a ea in
        let fb = account_found lists domain j b eb in
        let da : a.domain ≡ domain = (let k = fa.1 in cc) in
        let ra : a.rid ≡ i = (let k = fa.1 in cc) in
        let db : b.domain ≡ domain = (let k = fb.1 in cc) in
        let rb : b.rid ≡ j = (let k = fb.1 in cc) in
        elim (tested (nat_lt a.rid b.rid)) [
          | inl t ↦ absurd (
              let lt : a.rid < b.rid = grind (arith, nat_tests) in
              let n = not_taken b a fb.0 fa.0 (da ∙ sym db) lt in
              cc (n, same))
          | inr t ↦ elim (tested (nat_lt b.rid a.rid)) [
            | inl u ↦ absurd (
                let lt : b.rid < a.rid = grind (arith, nat_tests) in
                let n = same_names.symmetric a.name b.name ∙ not_taken a b fa.0 fb.0 (db ∙ sym da) lt in
                cc (n, same))
            | inr u ↦ grind (arith, nat_tests, ra, rb)
          ]
        ]

    users_there : is_of Group (account_at lists 0 domain_group_rid_users) ≡ true
    unfolding rid_bytes
    users_there =
        let there = some_of (account_at lists 0 domain_group_rid_users) (some_mapped (λ a. rows.Account a)
        (account_at lists 0 domain_group_rid_users)
        (key_there (keys.Account 0 domain_group_rid_users) (omega arith, omega arith) refl)) in
        let a = there.0 in
        let found = account_found lists 0 domain_group_rid_users a there.1 in
        let domain : a.domain ≡ 0 = (let k = found.1 in cc) in
        let rid : a.rid ≡ domain_group_rid_users = (let k = found.1 in cc) in
        ap (is_of Group) there.1 ∙ users_kind a (row_unbroken (rows.Account a) found.0).0 domain rid

    member_whole : (group user : ℕ) (m : MemberRow) → member_at lists group user ≡ Some m
        → (is_of Group (account_at lists 0 group) ≡ true) × (is_of User (account_at lists 0 user) ≡ true)
    member_whole group user m e =
        let row = rows.Member m in
        let found = member_found lists group user m e in
        let fits = fit row found.0 in
        let lacks = either_false (lacks_group_or_user pairs row) false (row_unbroken row found.0).1 in
        let parts = either_false (is_missing Group pairs 0 m.group) (is_missing User pairs 0 m.user) lacks.0 in
        let g : m.group ≡ group = (let k = found.1 in cc) in
        let u : m.user ≡ user = (let k = found.1 in cc) in (
          subst (λ n. is_of Group (account_at lists 0 n) ≡ true) g
              (missing_false Group 0 m.group (omega arith) fits.group parts.0),
          subst (λ n. is_of User (account_at lists 0 n) ≡ true) u
              (missing_false User 0 m.user (omega arith) fits.user parts.1),
        )

    alias_whole : (domain alias : ℕ) (sid : SidValue) (a : AliasRow) → alias_row_at lists domain alias sid ≡ Some a
        → is_of Alias (account_at lists domain alias) ≡ true
    alias_whole domain alias sid a e =
        let row = rows.Alias a in
        let found = alias_found lists domain alias sid a e in
        let fits = fit row found.0 in
        let d : a.domain ≡ domain = (let k = found.1 in cc) in
        let r : a.alias ≡ alias = (let k = found.1 in cc) in
        subst (λ n. is_of Alias (account_at lists n alias) ≡ true) d
        (subst (λ n. is_of Alias (account_at lists a.domain n) ≡ true) r
        (missing_false Alias a.domain a.alias fits.domain fits.alias (row_unbroken row found.0).1))

    -- the next out number is 1, or from 2 to 2^63, as its pair breaks no rule
    module _ (few : lists.next_out < 2 ^ 64) where
      next_bounds : (1 ≤ lists.next_out) × (lists.next_out ≤ 2 ^ 63)
      next_bounds =
          elim (nat_cases lists.next_out 1) [
            | inl one ↦ (omega (arith, one), omega (arith, one))
            | inr apart ↦
                let whole : is_broken_pair pairs (next_out_pair lists.next_out) ≡ false =
                ap (is_broken_at pairs next_out_key)
                (sym (next_there back sizes only lists pairs fit held apart)) ∙ unbroken next_out_key in
                let read = next_unbroken lists.next_out whole in
                let bounds = next_read_bounds lists.next_out few read in
                (omega (arith, bounds.0), bounds.1)
          ]
        where
          next_unbroken : (n : ℕ) → is_broken_pair pairs (next_out_pair n) ≡ false
              → is_some (next_out_of (next_out_value n)) ≡ true
          next_unbroken n e =
              elim (tested (is_some (next_out_of (next_out_value n)))) [
                | inl t ↦ t
                | inr t ↦ absurd (
                    let broken : is_broken_pair pairs (next_out_pair n) ≡ true =
                    ap (λ b. not (b && not (is_old pairs)) && breaks_rule pairs (row_of (next_out_pair n))) t
                    ∙ ap (breaks_rule pairs) (next_out_none n) in
                    cc (broken, e))
              ]

      next_in_pairs : next_out_in pairs ≡ Some lists.next_out
      next_in_pairs = next_known back sizes only lists pairs fit held next_bounds.0 next_bounds.1

      -- what a change breaks
      out_whole : (number : ℕ) (o : OutRow) → out_at lists number ≡ Some o
          → ((number == 0) ≡ false) × (is_out_of_turn pairs number (Some lists.next_out) ≡ false)
      out_whole number o e =
          let row = rows.Out o in
          let found = out_found lists number o e in
          let misnumbered = either_false (is_misnumbered pairs row) _ (row_unbroken row found.0).1 in
          let parts = either_false (o.number == 0) (is_out_of_turn pairs o.number (next_out_in pairs)) misnumbered.0 in
          let is : o.number ≡ number = (let k = found.1 in cc) in (
            ap (λ n. n == 0) (sym is) ∙ parts.0,
            ap (λ n. is_out_of_turn pairs n (Some lists.next_out)) (sym is)
                ∙ ap (is_out_of_turn pairs o.number) (sym next_in_pairs) ∙ parts.1,
          )

      good_out_at : (number : ℕ) (o : OutRow) → out_at lists number ≡ Some o → IsGoodOut o
      good_out_at number o e =
          let row = rows.Out o in
          let found = out_found lists number o e in
          let is : o.number ≡ number = (let k = found.1 in cc) in
          out_good o (fit row found.0) (ap (λ n. n == 0) is ∙ (out_whole number o e).0) (row_unbroken row found.0).0

      out_below : (number : ℕ) (o : OutRow) → out_at lists number ≡ Some o → number < lists.next_out
      out_below number o e =
          let turn = either_false (nat_le lists.next_out number) _ (out_whole number o e).1 in
          grind (arith, nat_tests, turn.0)

      out_runs_on : (number : ℕ) (o : OutRow) → out_at lists number ≡ Some o → number + 1 < lists.next_out
          → is_some (out_at lists (number + 1)) ≡ true
      out_runs_on number o e lt =
          let turn = either_false (nat_le lists.next_out number) _ (out_whole number o e).1 in
          let other : (number + 1 == lists.next_out) ≡ false = grind (arith, nat_tests) in
          let there : is_there pairs (keys.Out (number + 1)) ≡ true =
          not_false _ (ap (λ b. not b && not (is_there pairs (keys.Out (number + 1)))) (sym other) ∙ turn.1) in
          let fits : number + 1 < 2 ^ 64 = omega (arith, next_bounds.1, lt) in
          some_mapped (λ x. rows.Out x) (out_at lists (number + 1))
          (sym (there_is back sizes only lists pairs fit held (keys.Out (number + 1)) fits) ∙ there)

    pub unbroken_is_sound : lists.next_out < 2 ^ 64 → is_ascending domain_key lists.domains ≡ true
        → is_ascending account_key lists.accounts ≡ true
        → is_ascending member_key lists.members ≡ true → is_ascending alias_key lists.aliases ≡ true
        → is_ascending lsa_key lists.lsa ≡ true → is_ascending desc_key lists.descriptors ≡ true
        → is_ascending out_key lists.outs ≡ true → IsSoundRows lists
    unbroken_is_sound few d a m l s t o = record {
      domains_ascend = d;
      accounts_ascend = a;
      members_ascend = m;
      aliases_ascend = l;
      lsa_ascend = s;
      descriptors_ascend = t;
      outs_ascend = o;
      domain_rules = good_domain_at;
      has_account_domain = domain_there 0 (omega arith);
      has_builtin_domain = domain_there 1 (omega arith);
      account_rules = good_account_at;
      names_differ = names_apart;
      users_group = users_there;
      member_rules = λ group user m e. (fit (rows.Member m) (member_found lists group user m e).0).attributes;
      member_groups = λ group user m e. (member_whole group user m e).0;
      member_users = λ group user m e. (member_whole group user m e).1;
      alias_members = λ domain alias sid a e. (fit (rows.Alias a) (alias_found lists domain alias sid a e).0).member;
      alias_rows = alias_whole;
      lsa_rules = λ sid l e.
          let is = (lsa_found lists sid l e).0 in
          lsa_good l (fit (rows.Lsa l) is) (row_unbroken (rows.Lsa l) is).0;
      desc_rules = λ object x e. (fit (rows.Desc x) (desc_found lists object x e).0).descriptor;
      desc_objects = desc_whole;
      out_rules = good_out_at few;
      outs_below = out_below few;
      outs_run_on = out_runs_on few;
      next_least = (next_bounds few).0;
      next_most = (next_bounds few).1;
    }

  -- ---- and the pairs of sound rows break no rule
  module _ (sound : IsSoundRows lists) (up : is_ascending pair_key pairs ≡ true) where
    missing_not : (kind : Kind) (domain rid : ℕ) → domain ≤ 1 → rid < 2 ^ 32
        → is_of kind (account_at lists domain rid) ≡ true → is_missing kind pairs domain rid ≡ false
    missing_not kind domain rid one fits e =
        missing_is back sizes only lists pairs fit held kind domain rid one fits ∙ not_true _ e

    among_account : (a : AccountRow) → IsRowOf lists (rows.Account a) → breaks_among pairs (rows.Account a) ≡ false
    among_account a e =
        let row = rows.Account a in
        let fits = fit row e in
        let good = sound.account_rules a.domain a.rid a e in
        let past : is_past_next pairs row ≡ false =
        ap (is_past a.rid) (domain_is back sizes only lists pairs fit held a.domain fits.domain)
        ∙ past_false a.rid (domain_at lists a.domain) good.below in
        let taken : has_taken_name pairs row ≡ false =
        none_true (λ p. is_earlier a (row_of p)) pairs (λ p i. not_earlier a e p
        ((held p).0 (in_at pair_key p pairs up i))) in
        let primary : lacks_primary pairs row ≡ false =
        elim (tested (same_kind User a.kind)) [
          | inl t ↦
              let group = missing_not Group 0 a.primary (omega arith) fits.primary (good.primary_group t) in
              let there : is_there pairs (keys.Member a.primary a.rid) ≡ true =
              there_is back sizes only lists pairs fit held (keys.Member a.primary a.rid) (fits.primary, fits.rid)
              ∙ mapped_some (λ m. rows.Member m) (member_at lists a.primary a.rid) (good.primary_member t) in
              ap (λ b. b && (is_missing Group pairs 0 a.primary || not (is_there pairs (keys.Member a.primary a.rid))))
              t
              ∙ both_false _ _ group (not_true _ there)
          | inr t ↦ ap (λ b. b && (is_missing Group pairs 0 a.primary
              || not (is_there pairs (keys.Member a.primary a.rid)))) t
        ] in
        both_false _ _ past (both_false _ _ taken (both_false (lacks_primary pairs row) false primary refl))
      where
        mapped_some : {A : Type 0} (f : A → Row) (o : Option A) → is_some o ≡ true → is_some (option_map f o) ≡ true
        mapped_some f (Some x) e = refl
        mapped_some f None e = absurd cc

        earlier_false : (a b : AccountRow) → IsRowOf lists (rows.Account a) → IsRowOf lists (rows.Account b)
            → is_earlier a (Some (rows.Account b)) ≡ false
        earlier_false a b ea eb =
            elim (tested (b.domain == a.domain)) [
              | inr t ↦ ap (λ x. x && (nat_lt b.rid a.rid && is_same b.name a.name)) t
              | inl t ↦ elim (tested (nat_lt b.rid a.rid)) [
                | inr u ↦ ap (λ x. x && (nat_lt b.rid a.rid && is_same b.name a.name)) t
                    ∙ ap (λ x. x && is_same b.name a.name) u
                | inl u ↦ elim (tested (is_same b.name a.name)) [
                  | inr v ↦ ap (λ x. x && (nat_lt b.rid a.rid && is_same b.name a.name)) t
                      ∙ ap (λ x. x && is_same b.name a.name) u ∙ v
                  | inl v ↦ absurd (
                      let same : b.domain ≡ a.domain = grind (arith, nat_tests) in
                      let there : account_at lists a.domain b.rid ≡ Some b =
                      ap (λ n. account_at lists n b.rid) (sym same) ∙ eb in
                      let is = sound.names_differ a.domain b.rid a.rid b a there ea v in
                      grind (arith, nat_tests))
                ]
              ]
            ]

        other_false : (a : AccountRow) (row : Row) → IsRowOf lists (rows.Account a) → IsRowOf lists row
            → is_earlier a (Some row) ≡ false
        other_false a (rows.Account b) ea eb = earlier_false a b ea eb
        other_false a (rows.Domain d) ea eb = refl
        other_false a (rows.Member m) ea eb = refl
        other_false a (rows.Alias x) ea eb = refl
        other_false a (rows.Lsa l) ea eb = refl
        other_false a (rows.Desc d) ea eb = refl
        other_false a (rows.Out o) ea eb = refl

        not_earlier : (a : AccountRow) → IsRowOf lists (rows.Account a) → (p : Pair) → IsPairOf lists p
            → is_earlier a (row_of p) ≡ false
        not_earlier a ea p (inl is) = ap (λ q. is_earlier a (row_of q)) is ∙ ap (is_earlier a) format_none
        not_earlier a ea p (inr (inl is)) =
            ap (λ q. is_earlier a (row_of q)) is.1 ∙ ap (is_earlier a) (next_out_none lists.next_out)
        not_earlier a ea p (inr (inr is)) =
            ap (λ q. is_earlier a (row_of q)) is.2 ∙ ap (is_earlier a) (row_read is.0 is.1) ∙ other_false a is.0 ea is.1

    users_is_group : (a : AccountRow) → IsRowOf lists (rows.Account a) → IsUsersGroup a
    users_is_group a e domain rid =
        let there : account_at lists 0 domain_group_rid_users ≡ Some a =
        ap (λ n. account_at lists n domain_group_rid_users) (sym domain)
        ∙ ap (λ n. account_at lists a.domain n) (sym rid) ∙ e in
        ap (is_of Group) (sym there) ∙ sound.users_group

    some_row : {A : Type 0} (f : A → Row) (o : Option A) → is_some o ≡ true → is_some (option_map f o) ≡ true
    some_row f (Some x) e = refl
    some_row f None e = absurd cc

    -- an object that is there isn't missing
    lacks_not : (object : Object) → FitsObject object → exists lists object ≡ true → lacks pairs object ≡ false
    lacks_not objects.Server fits e = refl
    lacks_not objects.Policy fits e = refl
    lacks_not (objects.Domain number) fits e =
        not_true _ (there_is back sizes only lists pairs fit held (keys.Domain number) fits
        ∙ some_row (λ d. rows.Domain d) (domain_at lists number) e)
    lacks_not (objects.Group rid) fits e = missing_not Group 0 rid (omega arith) fits e
    lacks_not (objects.Alias domain rid) fits e = missing_not Alias domain rid fits.0 fits.1 e
    lacks_not (objects.User rid) fits e = missing_not User 0 rid (omega arith) fits e
    lacks_not (objects.Account sid) fits e =
        not_true _ (there_is back sizes only lists pairs fit held (keys.Lsa sid) fits
        ∙ some_row (λ l. rows.Lsa l) (lsa_at lists sid) e)

    newer_not : is_old pairs ≡ false
    newer_not = not_old back sizes only lists pairs fit held

    -- a change has its turn
    turn_not : (number : ℕ) (o : OutRow) → out_at lists number ≡ Some o
        → is_out_of_turn pairs number (Some lists.next_out) ≡ false
    turn_not number o e =
        let below = sound.outs_below number o e in
        let low : nat_le lists.next_out number ≡ false = grind (arith, nat_tests) in
        elim (tested (number + 1 == lists.next_out)) [
          | inl t ↦ both_false _ _ low (ap (λ b. not b && not (is_there pairs (keys.Out (number + 1)))) t)
          | inr t ↦
              let later : number + 1 < lists.next_out = grind (arith, nat_tests) in
              let fits : number + 1 < 2 ^ 64 = omega (arith, sound.next_most, later) in
              let there : is_there pairs (keys.Out (number + 1)) ≡ true =
              there_is back sizes only lists pairs fit held (keys.Out (number + 1)) fits
              ∙ some_row (λ x. rows.Out x) (out_at lists (number + 1)) (sound.outs_run_on number o e later) in
              both_false _ _ low (ap (λ b. not b && not (is_there pairs (keys.Out (number + 1)))) t ∙ not_true _ there)
        ]

    row_is_whole : (row : Row) → IsRowOf lists row → breaks_rule pairs (Some row) ≡ false
    row_is_whole (rows.Domain d) e =
        both_false _ _ (good_domain equal_sids d (sound.domain_rules d.number d e)) refl
    row_is_whole (rows.Account a) e =
        both_false _ _ (good_account a (sound.account_rules a.domain a.rid a e).itself (users_is_group a e))
        (among_account a e)
    row_is_whole (rows.Member m) e =
        let fits = fit (rows.Member m) e in
        both_false _ _ refl (both_false _ false (both_false _ _
        (missing_not Group 0 m.group (omega arith) fits.group (sound.member_groups m.group m.user m e))
        (missing_not User 0 m.user (omega arith) fits.user (sound.member_users m.group m.user m e))) refl)
    row_is_whole (rows.Alias a) e =
        let fits = fit (rows.Alias a) e in
        both_false _ _ refl
        (missing_not Alias a.domain a.alias fits.domain fits.alias (sound.alias_rows a.domain a.alias a.member a e))
    row_is_whole (rows.Lsa l) e = both_false _ _ (good_lsa l (sound.lsa_rules l.sid l e)) refl
    row_is_whole (rows.Desc d) e =
        both_false _ _ (lacks_not d.object (fit (rows.Desc d) e).object (sound.desc_objects d.object d e))
        (both_false _ false newer_not refl)
    row_is_whole (rows.Out o) e =
        let good = sound.out_rules o.number o e in
        let numbered : (o.number == 0) ≡ false = (let least = good.number_least in grind (arith, nat_tests)) in
        both_false _ _ (good_out o good) (both_false _ _ (both_false _ _ numbered
        (ap (is_out_of_turn pairs o.number)
        (next_known back sizes only lists pairs fit held sound.next_least sound.next_most)
        ∙ turn_not o.number o e))
        (both_false _ false newer_not refl))

    pair_is_whole : (p : Pair) → IsPairOf lists p → is_broken_pair pairs p ≡ false
    pair_is_whole p (inl is) = ap (is_broken_pair pairs) is
    pair_is_whole p (inr (inl is)) =
        let two : 2 ≤ lists.next_out = omega (arith, sound.next_least, is.0) in
        let read : is_some (next_out_of (next_out_value lists.next_out)) ≡ true =
        ap is_some (next_read lists.next_out two sound.next_most) in
        ap (is_broken_pair pairs) is.1
        ∙ ap (λ b. not (b && not (is_old pairs)) && breaks_rule pairs (row_of (next_out_pair lists.next_out))) read
        ∙ ap (λ b. not (not b) && breaks_rule pairs (row_of (next_out_pair lists.next_out))) newer_not
    pair_is_whole p (inr (inr is)) =
        ap (is_broken_pair pairs) is.2 ∙ pair_breaks is.0 is.1 ∙ row_is_whole is.0 is.1

    some_there : (key : RowKey) → FitsKey key → is_some (row_at lists key) ≡ true
        → is_some (pair_at (stored_key key) pairs) ≡ true
    some_there key fits e = there_is back sizes only lists pairs fit held key fits ∙ e

    of_some : (kind : Kind) (o : Option AccountRow) → is_of kind o ≡ true → is_some o ≡ true
    of_some kind (Some a) e = refl
    of_some kind None e = absurd cc

    not_none : (k j : List ℕ) → same_key k j ≡ true → is_some (pair_at j pairs) ≡ true → pair_at k pairs ≡ None → ⊥
    not_none k j same there none =
        let t : is_some (pair_at k pairs) ≡ true = ap (λ i. is_some (pair_at i pairs)) (same_key-is k j same) ∙ there in
        let f : is_some (pair_at k pairs) ≡ false = ap is_some none in
        cc (t, f)

    not_needed : (k : List ℕ) → pair_at k pairs ≡ None → list_any (same_key k) needed_keys ≡ false
    not_needed k none =
        both_false _ _ (apart (stored_key (keys.Account 0 domain_group_rid_users))
        (some_there (keys.Account 0 domain_group_rid_users) (omega arith, omega arith)
        (some_row (λ a. rows.Account a) (account_at lists 0 domain_group_rid_users)
        (of_some Group (account_at lists 0 domain_group_rid_users) sound.users_group))))
        (both_false _ _ (apart (stored_key (keys.Domain 0)) (some_there (keys.Domain 0) (omega arith)
        (some_row (λ d. rows.Domain d) (domain_at lists 0) sound.has_account_domain)))
        (both_false _ _ (apart (stored_key (keys.Domain 1)) (some_there (keys.Domain 1) (omega arith)
        (some_row (λ d. rows.Domain d) (domain_at lists 1) sound.has_builtin_domain)))
        (both_false _ _ (apart format_key (ap is_some ((held format_pair).1 (inl refl)))) refl)))
      where
        apart : (j : List ℕ) → is_some (pair_at j pairs) ≡ true → same_key k j ≡ false
        apart j there =
            elim (tested (same_key k j)) [ inl t ↦ absurd (not_none k j t there none) | inr t ↦ t ]

    pub sound_is_unbroken : AreUnbroken pairs
    sound_is_unbroken k =
        elim (there_or_not (pair_at k pairs)) [
          | inl found ↦
              let p = found.0 in
              let own : pair_at p.key pairs ≡ Some p =
              ap (λ j. pair_at j pairs) (key_found pair_key k pairs p found.1) ∙ found.1 in
              ap (is_broken_at pairs k) found.1 ∙ pair_is_whole p ((held p).0 own)
          | inr none ↦ ap (is_broken_at pairs k) none ∙ not_needed k none
        ]

-- What is looked up among pairs is found among the rows that are loaded of them.
use Rattle.std.proofs.Common.{◌≡◌, ℕ, ◌^◌, ◌<◌, ◌≤◌, ◌==◌, nat_lt, Bool, true, false, ◌&&◌, ◌||◌, List, []}
use Rattle.std.proofs.Common.{◌∷◌, All, map}
use Rattle.std.proofs.Common.{Option, Some, None, refl, sym, ap, subst, ◌∙◌, arith, inl, inr}
use Rattle.std.specs.Prelude.{option_map, is_some, not}
use Rattle.std.specs.List.{list_any, find}
use Rattle.std.specs.Cmp.{first_so, second_so, nat_cmp_is}
use Rattle.std.specs.Ordering.{ordering_then}
use Rattle.std.specs.declared.cmp.Ordering.TheVariants.{Less, Equal}
use Rattle.std.proofs.lemmas.Bool.Decides.{nat_tests}
use Rattle.acct_codes.specs.declared.kind.Kind.{Kind}
use Rattle.dtyp_sid.specs.Sids.{WrittenBytesAreRead, WrittenBytesHaveLengths, ReadBytesAreWritten, EqualSidsAreOne}
use Rattle.acct_calls.specs.Names.{is_same}
use Rattle.acct_keeper.specs.declared.pairs.Pair.{Pair}
use Rattle.acct_rows.specs.Changes.{row_at}
use Rattle.acct_tables.specs.KeyedRows.{compare, is_ascending}
use Rattle.acct_rows.specs.Loading.{IsReadWell, LoadedRowsAreFound, loaded, somes, is_smaller}
use Rattle.acct_rows.specs.PairRules.{pair_key, pair_at, is_there, row_in, as_domain, as_account, domain_in, account_in}
use Rattle.acct_rows.specs.PairRules.{is_earlier, is_other, is_missing, next_out_in}
use Rattle.std.specs.Option.{unwrap_or}
use Rattle.acct_rows.specs.PairsOf.{IsRowOf}
use Rattle.acct_rows.specs.Rows.{Lists, domain_at, account_at, find_name}
use Rattle.acct_tables.specs.Keys.{account_key}
use Rattle.acct_tables.specs.Selected.{same_kind, has_name}
use Rattle.acct_tables.specs.Spelled.{stored_key, key_of, Fits}
use Rattle.acct_base.specs.Reading.{◌>>=◌}
use Rattle.acct_tables.specs.Stored.{row_of}
use Rattle.acct_tables.specs.declared.row.DomainRow.{DomainRow}
use Rattle.acct_tables.specs.declared.row.AccountRow.{AccountRow}
use Rattle.acct_tables.specs.declared.row.Row.{Row}
use Rattle.acct_tables.specs.declared.row.Row.TheVariants as rows
use Rattle.acct_tables.specs.declared.row.RowKey.{RowKey}
use Rattle.acct_tables.specs.declared.row.RowKey.TheVariants as keys
use Rattle.acct_tables.proofs.Ascending.{In}
use Rattle.acct_tables.proofs.Lookups.{there_or_not, key_found}
use Rattle.acct_tables.proofs.Standing.{at_in, in_at, any_in, in_any}
use Rattle.acct_tables.proofs.Orders.{tested}
use Rattle.acct_tables.proofs.FoldOrder.{alone}
use Rattle.acct_rows.proofs.Loaded.{find_so, find_none, find_least, loaded_tables, spelled, source, read_is_row}
use Rattle.acct_tables.proofs.Equals.{equal_is}
use Rattle.acct_tables.proofs.Taken.{bind_some}
use Rattle.acct_rows.proofs.Translated.{is_row_at, at_is_row, one_key, first_byte}

-- ---- keys

-- a row that is stored at a domain's key has it
domain_key_is : (number : ℕ) (row : Row) → stored_key (key_of row) ≡ stored_key (keys.Domain number)
    → key_of row ≡ keys.Domain number
domain_key_is number (rows.Domain d) e = let is : d.number ≡ number = cc in ap (λ n. keys.Domain n) is
domain_key_is number (rows.Account a) e = absurd (let n : 0x61 ≡ 0x64 = ap first_byte e in omega arith)
domain_key_is number (rows.Member m) e = absurd (let n : 0x6D ≡ 0x64 = ap first_byte e in omega arith)
domain_key_is number (rows.Alias a) e = absurd (let n : 0x6C ≡ 0x64 = ap first_byte e in omega arith)
domain_key_is number (rows.Lsa l) e = absurd (let n : 0x73 ≡ 0x64 = ap first_byte e in omega arith)
domain_key_is number (rows.Desc d) e = absurd (let n : 0x6F ≡ 0x64 = ap first_byte e in omega arith)
domain_key_is number (rows.Out o) e = absurd (let n : 0x71 ≡ 0x64 = ap first_byte e in omega arith)

-- ---- accounts of one name

smaller_first : (a b c : AccountRow) → has_name a.domain a.name b ≡ true → has_name a.domain a.name c ≡ true
    → nat_lt b.rid a.rid ≡ false → nat_lt c.rid a.rid ≡ true → compare (account_key c) (account_key b) ≡ Less
smaller_first a b c bs cs not_b is_c =
    let domain : c.domain ≡ b.domain =
    equal_is c.domain a.domain (first_so _ _ cs) ∙ sym (equal_is b.domain a.domain (first_so _ _ bs)) in
    let lower : c.rid < b.rid = grind (arith, nat_tests) in
    ap (λ o. ordering_then o (compare (c.rid ∷ []) (b.rid ∷ []))) (sym (nat_cmp_is c.domain b.domain Equal domain))
    ∙ alone c.rid b.rid ∙ sym (nat_cmp_is c.rid b.rid Less lower)

-- an earlier account has the name, and a smaller RID
earlier_is : (a : AccountRow) (o : Option Row) → is_earlier a o ≡ true
    → (b : AccountRow) × (o ≡ Some (rows.Account b)) × (has_name a.domain a.name b ≡ true) × (nat_lt b.rid a.rid ≡ true)
earlier_is a (Some (rows.Account b)) e =
    let domain : (b.domain == a.domain) ≡ true = first_so _ _ e in
    let rest : (nat_lt b.rid a.rid && is_same b.name a.name) ≡ true = second_so _ _ e in
    let lower : nat_lt b.rid a.rid ≡ true = first_so _ _ rest in
    let named : is_same b.name a.name ≡ true = second_so _ _ rest in
    (b, refl, rw (domain, named) refl, lower)
earlier_is a (Some (rows.Domain d)) e = absurd cc
earlier_is a (Some (rows.Member m)) e = absurd cc
earlier_is a (Some (rows.Alias x)) e = absurd cc
earlier_is a (Some (rows.Lsa l)) e = absurd cc
earlier_is a (Some (rows.Desc d)) e = absurd cc
earlier_is a (Some (rows.Out o)) e = absurd cc
earlier_is a None e = absurd cc

is_earlier_so : (a b : AccountRow) → has_name a.domain a.name b ≡ true → nat_lt b.rid a.rid ≡ true
    → is_earlier a (Some (rows.Account b)) ≡ true
is_earlier_so a b named lower =
    let domain : (b.domain == a.domain) ≡ true = first_so _ _ named in
    let name : is_same b.name a.name ≡ true = second_so _ _ named in
    rw (domain, lower, name) refl

module _ (back : WrittenBytesAreRead) (sizes : WrittenBytesHaveLengths) (only : ReadBytesAreWritten)
    (equal_sids : EqualSidsAreOne) where
  account_key_is : (domain rid : ℕ) → rid < 2 ^ 32 → (row : Row) → Fits row
      → stored_key (key_of row) ≡ stored_key (keys.Account domain rid) → key_of row ≡ keys.Account domain rid
  account_key_is domain rid lt (rows.Account a) fits e =
      let is : a.domain ≡ domain = cc in
      one_key back sizes only (keys.Account a.domain a.rid) (keys.Account domain rid) (fits.domain, fits.rid)
      (subst (λ n. n ≤ 1) is fits.domain, lt) e
  account_key_is domain rid lt (rows.Domain d) fits e =
      absurd (let n : 0x64 ≡ 0x61 = ap first_byte e in omega arith)
  account_key_is domain rid lt (rows.Member m) fits e =
      absurd (let n : 0x6D ≡ 0x61 = ap first_byte e in omega arith)
  account_key_is domain rid lt (rows.Alias a) fits e =
      absurd (let n : 0x6C ≡ 0x61 = ap first_byte e in omega arith)
  account_key_is domain rid lt (rows.Lsa l) fits e =
      absurd (let n : 0x73 ≡ 0x61 = ap first_byte e in omega arith)
  account_key_is domain rid lt (rows.Desc d) fits e =
      absurd (let n : 0x6F ≡ 0x61 = ap first_byte e in omega arith)
  account_key_is domain rid lt (rows.Out o) fits e =
      absurd (let n : 0x71 ≡ 0x61 = ap first_byte e in omega arith)

  module _ (pairs : List Pair) (up : is_ascending pair_key pairs ≡ true) (well : All IsReadWell pairs) where
    abbrev lists : Lists
    lists = loaded pairs

    -- where a key's spelling is its own
    found_at : (key : RowKey)
        → ((row : Row) → Fits row → stored_key (key_of row) ≡ stored_key key → key_of row ≡ key)
        → row_in pairs key ≡ row_at lists key
    found_at key own =
        elim (there_or_not (row_in pairs key)) [
          | inl there ↦
              let p = bind_some (pair_at (stored_key key) pairs) row_of there.0 there.1 in
              let within : In p.0 pairs = at_in pair_key (stored_key key) p.0 pairs p.1 in
              let row_is : IsRowOf lists there.0 =
              read_is_row back sizes only equal_sids pairs up well p.0 within there.0 p.2 in
              let s = spelled back sizes only equal_sids pairs up well p.0 within there.0 p.2 in
              let k : p.0.key ≡ stored_key key = key_found pair_key (stored_key key) pairs p.0 p.1 in
              let is : key_of there.0 ≡ key = own there.0 s.fits (sym (ap pair_key s.spelled) ∙ k) in
              there.1 ∙ sym (ap (row_at lists) (sym is) ∙ is_row_at lists there.0 row_is)
          | inr none ↦ elim (there_or_not (row_at lists key)) [
            | inr nothing ↦ none ∙ sym nothing
            | inl there ↦ absurd (
                let is = at_is_row lists key there.0 there.1 in
                let p = source back sizes only equal_sids pairs up well there.0 is.0 in
                let k : p.0.key ≡ stored_key key = ap pair_key p.3.spelled ∙ ap stored_key is.1 in
                let at_key : pair_at (stored_key key) pairs ≡ Some p.0 =
                ap (λ j. pair_at j pairs) (sym k) ∙ in_at pair_key p.0 pairs up p.1 in
                let some : row_in pairs key ≡ Some there.0 = ap (λ o. o >>= row_of) at_key ∙ p.2 in
                cc (some, none))
          ]
        ]

    domain_found : (number : ℕ) → domain_in pairs number ≡ domain_at lists number
    domain_found number =
        ap (λ o. o >>= as_domain) (found_at (keys.Domain number) (λ row fits e. domain_key_is number row e))
        ∙ same (domain_at lists number)
      where
        same : (o : Option DomainRow) → (option_map (λ d. rows.Domain d) o >>= as_domain) ≡ o
        same None = refl
        same (Some d) = refl

    account_found : (domain rid : ℕ) → rid < 2 ^ 32 → account_in pairs domain rid ≡ account_at lists domain rid
    account_found domain rid lt =
        ap (λ o. o >>= as_account) (found_at (keys.Account domain rid) (account_key_is domain rid lt))
        ∙ same (account_at lists domain rid)
      where
        same : (o : Option AccountRow) → (option_map (λ a. rows.Account a) o >>= as_account) ≡ o
        same None = refl
        same (Some a) = refl

    accounts_ascend : is_ascending account_key lists.accounts ≡ true
    accounts_ascend = (loaded_tables (somes (map row_of pairs)) (unwrap_or (next_out_in pairs) 1)).accounts

    an_account : (p : Pair) → In p pairs → (a : AccountRow) → row_of p ≡ Some (rows.Account a) → In a lists.accounts
    an_account p i a e =
        at_in account_key (account_key a) a lists.accounts
        (read_is_row back sizes only equal_sids pairs up well p i (rows.Account a) e)

    name_found : (a : AccountRow)
        → list_any (λ pair. is_earlier a (row_of pair)) pairs
        ≡ is_smaller a.rid (find (has_name a.domain a.name) lists.accounts)
    name_found a = elim (there_or_not (find named lists.accounts)) [ inl there ↦ some there.0 there.1 | inr e ↦ none e ]
      where
        named : AccountRow → Bool
        named = has_name a.domain a.name

        earlier : Pair → Bool
        earlier pair = is_earlier a (row_of pair)

        none : find named lists.accounts ≡ None → list_any earlier pairs ≡ is_smaller a.rid (find named lists.accounts)
        none e =
            elim (tested (list_any earlier pairs)) [
              | inr f ↦ f ∙ sym (ap (is_smaller a.rid) e)
              | inl t ↦ absurd (
                  let p = any_in earlier pairs t in
                  let b = earlier_is a (row_of p.0) p.2 in
                  let not : named b.0 ≡ false =
                  find_none named lists.accounts e b.0 (an_account p.0 p.1 b.0 b.1) in
                  let is : named b.0 ≡ true = b.2 in
                  cc (not, is))
            ]

        some : (b : AccountRow) → find named lists.accounts ≡ Some b
            → list_any earlier pairs ≡ is_smaller a.rid (find named lists.accounts)
        some b e =
            let so = find_so named lists.accounts b e in
            elim (tested (nat_lt b.rid a.rid)) [
              | inl t ↦
                  let row_is : account_at lists b.domain b.rid ≡ Some b =
                  in_at account_key b lists.accounts accounts_ascend so.1 in
                  let p = source back sizes only equal_sids pairs up well (rows.Account b) row_is in
                  in_any earlier p.0 pairs p.1 (ap (is_earlier a) p.2 ∙ is_earlier_so a b so.0 t)
                  ∙ sym (ap (is_smaller a.rid) e ∙ t)
              | inr f ↦ elim (tested (list_any earlier pairs)) [
                | inr g ↦ g ∙ sym (ap (is_smaller a.rid) e ∙ f)
                | inl t ↦ absurd (
                    let p = any_in earlier pairs t in
                    let c = earlier_is a (row_of p.0) p.2 in
                    find_least named account_key lists.accounts b c.0 accounts_ascend e
                    (an_account p.0 p.1 c.0 c.1) c.2 (smaller_first a b c.0 so.0 c.2 f c.3))
              ]
            ]

  pub loaded_rows_are_found : LoadedRowsAreFound
  loaded_rows_are_found = record {
    domains = λ pairs lists number l. domain_found pairs l.ascending l.read_well number
        ∙ ap (λ r. domain_at r number) (sym l.rows);
    accounts = λ pairs lists domain rid l lt. account_found pairs l.ascending l.read_well domain rid lt
        ∙ ap (λ r. account_at r domain rid) (sym l.rows);
    names = λ pairs lists a l. name_found pairs l.ascending l.read_well a
        ∙ ap (λ r. is_smaller a.rid (find_name r a.domain a.name)) (sym l.rows);
  }

-- ---- what a store tells

pub there_if_found : (pairs : List Pair) (domain rid : ℕ) (a : AccountRow) → account_in pairs domain rid ≡ Some a
    → is_there pairs (keys.Account domain rid) ≡ true
there_if_found pairs domain rid a e =
    let row = bind_some (row_in pairs (keys.Account domain rid)) as_account a e in
    let p = bind_some (pair_at (stored_key (keys.Account domain rid)) pairs) row_of row.0 row.1 in
    ap is_some p.1

pub missing_if_other : (kind : Kind) (pairs : List Pair) (domain rid : ℕ) (a : AccountRow)
    → account_in pairs domain rid ≡ Some a → is_missing kind pairs domain rid ≡ not (same_kind kind a.kind)
missing_if_other kind pairs domain rid a e =
    ap (λ t. not t || is_other kind (account_in pairs domain rid)) (there_if_found pairs domain rid a e)
    ∙ ap (is_other kind) e

or_none : (b : Bool) → (b || false) ≡ b
or_none true = refl
or_none false = refl

pub missing_if_none : (kind : Kind) (pairs : List Pair) (domain rid : ℕ) → account_in pairs domain rid ≡ None
    → is_missing kind pairs domain rid ≡ not (is_there pairs (keys.Account domain rid))
missing_if_none kind pairs domain rid e =
    ap (λ o. not (is_there pairs (keys.Account domain rid)) || is_other kind o) e
    ∙ or_none (not (is_there pairs (keys.Account domain rid)))

-- Rows whose pairs are held are looked up alike among the pairs.
use Rattle.std.proofs.Common.{◌≡◌, ◌≢◌, ℕ, ◌^◌, ◌<◌, ◌≤◌, ◌||◌, ◌&&◌, Bool, true, false, cond, List, [], ◌∷◌}
use Rattle.std.proofs.Common.{Option, Some, None, refl, sym, ap, subst, ◌∙◌, inl, inr, arith}
use Rattle.std.specs.Prelude.{is_some, option_map, not, nat_le}
use Rattle.std.specs.Cmp.{first_so, second_so}
use Rattle.std.specs.Int.{w64, to_le_bytes, from_le_bytes}
use Rattle.std.proofs.lemmas.Bool.Decides.{nat_tests}
use Rattle.std.proofs.lemmas.List.{append-nil}
use Rattle.std.proofs.lemmas.Nat.{from_le_bytes-to_le_bytes_8}
use Rattle.acct_codes.specs.declared.kind.Kind.{Kind}
use Rattle.dtyp_sid.specs.Sids.{SidValue, WrittenBytesAreRead, WrittenBytesHaveLengths, ReadBytesAreWritten}
use Rattle.acct_keeper.specs.declared.pairs.Pair.{Pair}
use Rattle.acct_tables.specs.KeyedRows.{at}
use Rattle.acct_tables.specs.Keys.{object_key}
use Rattle.acct_rows.specs.Rows.{Lists, domain_at, account_at, member_at, alias_row_at, lsa_at, desc_at, out_at}
use Rattle.acct_tables.specs.Keys.{domain_key, account_key, member_key, alias_key, lsa_key, desc_key, out_key, sid_key}
use Rattle.acct_rows.specs.Rows.{is_of}
use Rattle.acct_tables.specs.Spelled.{stored_key, key_of, pair_of, format_key, format_pair, old_format_value, Fits}
use Rattle.acct_tables.specs.Spelled.{next_out_key, next_out_value, next_out_pair}
use Rattle.acct_base.specs.Reading.{◌>>=◌, is_end, front_at}
use Rattle.acct_tables.specs.Stored.{row_key, row_of, byte_at, lettered, only_if, next_out_of}
use Rattle.acct_rows.specs.PairRules.{pair_key, pair_at, is_there, row_in, as_domain, as_account, domain_in, account_in}
use Rattle.acct_rows.specs.PairRules.{is_other, is_missing, has_value, is_old, next_in, next_out_in}
use Rattle.acct_keeper.specs.Pairs as kept
use Rattle.acct_rows.specs.PairsOf.{IsRowOf, HoldPairs, migration, migrated}
use Rattle.acct_rows.specs.Changes.{row_at}
use Rattle.acct_tables.specs.declared.row.DomainRow.{DomainRow}
use Rattle.acct_tables.specs.declared.row.AccountRow.{AccountRow}
use Rattle.acct_tables.specs.declared.row.MemberRow.{MemberRow}
use Rattle.acct_tables.specs.declared.row.AliasRow.{AliasRow}
use Rattle.acct_tables.specs.declared.row.LsaRow.{LsaRow}
use Rattle.acct_tables.specs.declared.row.DescRow.{DescRow}
use Rattle.acct_tables.specs.declared.row.OutRow.{OutRow}
use Rattle.acct_tables.specs.declared.object.Object.{Object}
use Rattle.acct_tables.specs.declared.row.Row.{Row}
use Rattle.acct_tables.specs.declared.row.Row.TheVariants as rows
use Rattle.acct_tables.specs.declared.row.RowKey.{RowKey}
use Rattle.acct_tables.specs.declared.row.RowKey.TheVariants as keys
use Rattle.acct_tables.proofs.Lookups.{same_Some, key_found, there_or_not}
use Rattle.acct_tables.proofs.Equals.{one_sid, nat_cases}
use Rattle.acct_tables.proofs.ObjectKeys.{one_object}
use Rattle.acct_tables.proofs.Taken.{front_again}
use Rattle.acct_tables.proofs.ReadRows.{FitsKey}
use Rattle.acct_tables.proofs.SpelledRows.{key_again, fits_key, spelled_rows_are_read}

-- one of the rows is found at its key
pub is_row_at : (lists : Lists) (row : Row) → IsRowOf lists row → row_at lists (key_of row) ≡ Some row
is_row_at lists (rows.Domain d) e = ap (option_map (λ x. rows.Domain x)) e
is_row_at lists (rows.Account a) e = ap (option_map (λ x. rows.Account x)) e
is_row_at lists (rows.Member m) e = ap (option_map (λ x. rows.Member x)) e
is_row_at lists (rows.Alias a) e = ap (option_map (λ x. rows.Alias x)) e
is_row_at lists (rows.Lsa l) e = ap (option_map (λ x. rows.Lsa x)) e
is_row_at lists (rows.Desc d) e = ap (option_map (λ x. rows.Desc x)) e
is_row_at lists (rows.Out o) e = ap (option_map (λ x. rows.Out x)) e

mapped : {A : Type 0} (f : A → Row) (o : Option A) (row : Row) → option_map f o ≡ Some row
    → (x : A) × (o ≡ Some x) × (f x ≡ row)
mapped f (Some x) row e = (x, refl, same_Some e)
mapped f None row e = absurd cc

-- what is found at a key is one of the rows, and has the key
abbrev pub IsAtKey : Lists → RowKey → Row → Type 0
IsAtKey lists key row = IsRowOf lists row × (key_of row ≡ key)

pub domain_found : (lists : Lists) (number : ℕ) (d : DomainRow) → domain_at lists number ≡ Some d
    → IsAtKey lists (keys.Domain number) (rows.Domain d)
domain_found lists number d e =
    let k : d.number ∷ [] ≡ number ∷ [] = key_found domain_key (number ∷ []) lists.domains d e in
    let is : d.number ≡ number = cc in
    (subst (λ n. domain_at lists n ≡ Some d) (sym is) e, ap (λ n. keys.Domain n) is)

pub account_found : (lists : Lists) (domain rid : ℕ) (a : AccountRow) → account_at lists domain rid ≡ Some a
    → IsAtKey lists (keys.Account domain rid) (rows.Account a)
account_found lists domain rid a e =
    let k : account_key a ≡ domain ∷ rid ∷ [] = key_found account_key (domain ∷ rid ∷ []) lists.accounts a e in
    let one : a.domain ≡ domain = cc in
    let two : a.rid ≡ rid = cc in
    (ap (λ j. at account_key j lists.accounts) k ∙ e, rw (one, two) refl)

pub member_found : (lists : Lists) (group user : ℕ) (m : MemberRow) → member_at lists group user ≡ Some m
    → IsAtKey lists (keys.Member group user) (rows.Member m)
member_found lists group user m e =
    let k : member_key m ≡ group ∷ user ∷ [] = key_found member_key (group ∷ user ∷ []) lists.members m e in
    let one : m.group ≡ group = cc in
    let two : m.user ≡ user = cc in
    (ap (λ j. at member_key j lists.members) k ∙ e, rw (one, two) refl)

pub alias_found : (lists : Lists) (domain alias : ℕ) (member : SidValue) (a : AliasRow)
    → alias_row_at lists domain alias member ≡ Some a
    → IsAtKey lists (keys.Alias domain alias member) (rows.Alias a)
alias_found lists domain alias member a e =
    let k : alias_key a ≡ domain ∷ alias ∷ sid_key member =
    key_found alias_key (domain ∷ alias ∷ sid_key member) lists.aliases a e in
    let one : a.domain ≡ domain = cc in
    let two : a.alias ≡ alias = cc in
    let rest : sid_key a.member ≡ sid_key member = cc in
    let three = one_sid a.member member rest in
    (ap (λ j. at alias_key j lists.aliases) k ∙ e, rw (one, two, three) refl)

pub lsa_found : (lists : Lists) (sid : SidValue) (l : LsaRow) → lsa_at lists sid ≡ Some l
    → IsAtKey lists (keys.Lsa sid) (rows.Lsa l)
lsa_found lists sid l e =
    let k = key_found lsa_key (sid_key sid) lists.lsa l e in
    (ap (λ j. at lsa_key j lists.lsa) k ∙ e, ap (λ s. keys.Lsa s) (one_sid l.sid sid k))

pub desc_found : (lists : Lists) (object : Object) (d : DescRow) → desc_at lists object ≡ Some d
    → IsAtKey lists (keys.Desc object) (rows.Desc d)
desc_found lists object d e =
    let k = key_found desc_key (object_key object) lists.descriptors d e in
    (ap (λ j. at desc_key j lists.descriptors) k ∙ e, ap (λ x. keys.Desc x) (one_object d.object object k))

pub out_found : (lists : Lists) (number : ℕ) (o : OutRow) → out_at lists number ≡ Some o
    → IsAtKey lists (keys.Out number) (rows.Out o)
out_found lists number o e =
    let k : o.number ∷ [] ≡ number ∷ [] = key_found out_key (number ∷ []) lists.outs o e in
    let is : o.number ≡ number = cc in
    (subst (λ n. out_at lists n ≡ Some o) (sym is) e, ap (λ n. keys.Out n) is)

pub at_is_row : (lists : Lists) (key : RowKey) (row : Row) → row_at lists key ≡ Some row → IsAtKey lists key row
at_is_row lists (keys.Domain number) row e =
    let m = mapped (λ d. rows.Domain d) (domain_at lists number) row e in
    subst (λ r. IsAtKey lists (keys.Domain number) r) m.2 (domain_found lists number m.0 m.1)
at_is_row lists (keys.Account domain rid) row e =
    let m = mapped (λ a. rows.Account a) (account_at lists domain rid) row e in
    subst (λ r. IsAtKey lists (keys.Account domain rid) r) m.2 (account_found lists domain rid m.0 m.1)
at_is_row lists (keys.Member group user) row e =
    let m = mapped (λ x. rows.Member x) (member_at lists group user) row e in
    subst (λ r. IsAtKey lists (keys.Member group user) r) m.2 (member_found lists group user m.0 m.1)
at_is_row lists (keys.Alias domain alias member) row e =
    let m = mapped (λ a. rows.Alias a) (alias_row_at lists domain alias member) row e in
    subst (λ r. IsAtKey lists (keys.Alias domain alias member) r) m.2 (alias_found lists domain alias member m.0 m.1)
at_is_row lists (keys.Lsa sid) row e =
    let m = mapped (λ l. rows.Lsa l) (lsa_at lists sid) row e in
    subst (λ r. IsAtKey lists (keys.Lsa sid) r) m.2 (lsa_found lists sid m.0 m.1)
at_is_row lists (keys.Desc object) row e =
    let m = mapped (λ d. rows.Desc d) (desc_at lists object) row e in
    subst (λ r. IsAtKey lists (keys.Desc object) r) m.2 (desc_found lists object m.0 m.1)
at_is_row lists (keys.Out number) row e =
    let m = mapped (λ o. rows.Out o) (out_at lists number) row e in
    subst (λ r. IsAtKey lists (keys.Out number) r) m.2 (out_found lists number m.0 m.1)

pub format_key_none : row_key format_key ≡ None
unfolding row_key byte_at lettered
format_key_none = refl

pub next_out_key_none : row_key next_out_key ≡ None
unfolding row_key byte_at lettered
next_out_key_none = refl

abbrev pub first_byte : List ℕ → ℕ
first_byte [] = 0
first_byte (byte ∷ bytes) = byte

pub lower_apart : (m n : ℕ) → m < n → m ≢ n
lower_apart m n lt e = omega (arith, lt, e)

pub keys_apart : format_key ≢ next_out_key
keys_apart e = lower_apart 0x66 0x6E (omega arith) (ap first_byte e)

-- the value of the next out number is read again, where it is one that may be stored
abbrev next_if : ℕ → Option ℕ
next_if n = only_if (nat_le 2 n && nat_le n (2 ^ 63)) n

next_value_read : (n : ℕ) → n < 2 ^ 64 → next_out_of (next_out_value n) ≡ next_if n
unfolding next_out_of next_out_value
next_value_read n few =
    let front : front_at 8 (to_le_bytes w64 n) ≡ Some (to_le_bytes w64 n, []) =
    ap (front_at 8) (sym (append-nil (to_le_bytes w64 n))) ∙ front_again 8 (to_le_bytes w64 n) [] refl in
    let number : from_le_bytes w64 (to_le_bytes w64 n) ≡ n = from_le_bytes-to_le_bytes_8 n few in
    ap (λ (o : Option (List ℕ × List ℕ)). o >>= λ front. only_if (is_end front.1
    && (nat_le 2 (from_le_bytes w64 front.0) && nat_le (from_le_bytes w64 front.0) (2 ^ 63)))
    (from_le_bytes w64 front.0)) front
    ∙ ap next_if number

pub next_read : (n : ℕ) → 2 ≤ n → n ≤ 2 ^ 63 → next_out_of (next_out_value n) ≡ Some n
next_read n least most =
    let low : nat_le 2 n ≡ true = grind (arith, nat_tests) in
    let high : nat_le n (2 ^ 63) ≡ true = grind (arith, nat_tests) in
    next_value_read n (omega arith) ∙ ap (λ b. only_if (b && nat_le n (2 ^ 63)) n) low ∙ ap (λ b. only_if b n) high

-- and a value that is read is such
pub next_read_bounds : (n : ℕ) → n < 2 ^ 64 → is_some (next_out_of (next_out_value n)) ≡ true → (2 ≤ n) × (n ≤ 2 ^ 63)
next_read_bounds n few there =
    let read : is_some (next_if n) ≡ true = ap is_some (sym (next_value_read n few)) ∙ there in
    let test = tested_some (nat_le 2 n && nat_le n (2 ^ 63)) n read in
    let low : nat_le 2 n ≡ true = first_so _ (nat_le n (2 ^ 63)) test in
    let high : nat_le n (2 ^ 63) ≡ true = second_so (nat_le 2 n) _ test in
    (grind (arith, nat_tests, low), grind (arith, nat_tests, high))
  where
    tested_some : (b : Bool) (n : ℕ) → is_some (only_if b n) ≡ true → b ≡ true
    tested_some true n e = refl
    tested_some false n e = absurd cc

pub next_out_none : (n : ℕ) → row_of (next_out_pair n) ≡ None
unfolding row_of
next_out_none n = rw next_out_key_none refl

pub format_none : row_of format_pair ≡ None
unfolding row_of
format_none = rw format_key_none refl

-- pairs that are held are of format 2
pub not_old_pairs : (lists : Lists) (pairs : List Pair) → HoldPairs lists pairs → is_old pairs ≡ false
not_old_pairs lists pairs held = ap (has_value old_format_value) ((held format_pair).1 (inl refl))

pub new_already : (lists : Lists) (pairs : List Pair) → HoldPairs lists pairs → migrated pairs ≡ pairs
new_already lists pairs held =
    ap (λ b. cond b (kept.after (migration ∷ []) pairs) pairs) (not_old_pairs lists pairs held)

module _ (back : WrittenBytesAreRead) (sizes : WrittenBytesHaveLengths) (only : ReadBytesAreWritten) where
  -- keys of one spelling are one
  pub one_key : (j k : RowKey) → FitsKey j → FitsKey k → stored_key j ≡ stored_key k → j ≡ k
  one_key j k fj fk e =
      same_Some (sym (key_again back sizes only j fj) ∙ ap row_key e ∙ key_again back sizes only k fk)

  pub not_format : (k : RowKey) → FitsKey k → stored_key k ≢ format_key
  not_format k fk e =
      let read : Some k ≡ None = sym (key_again back sizes only k fk) ∙ ap row_key e ∙ format_key_none in cc

  pub not_next_out : (k : RowKey) → FitsKey k → stored_key k ≢ next_out_key
  not_next_out k fk e =
      let read : Some k ≡ None = sym (key_again back sizes only k fk) ∙ ap row_key e ∙ next_out_key_none in cc

  module _ (lists : Lists) (pairs : List Pair) (fit : (row : Row) → IsRowOf lists row → Fits row)
      (held : HoldPairs lists pairs) where
    pub row_there : (row : Row) → IsRowOf lists row → pair_at (stored_key (key_of row)) pairs ≡ Some (pair_of row)
    row_there row e = (held (pair_of row)).1 (inr (inr (row, e, refl)))

    -- the pair at the key of a row is the row's
    pub pair_is : (key : RowKey) → FitsKey key → pair_at (stored_key key) pairs
        ≡ option_map (λ row. pair_of row) (row_at lists key)
    pair_is key fits =
        elim (there_or_not (row_at lists key)) [
          | inl there ↦
              let is = at_is_row lists key there.0 there.1 in
              ap (λ k. pair_at (stored_key k) pairs) (sym is.1) ∙ row_there there.0 is.0
              ∙ ap (option_map (λ row. pair_of row)) (sym there.1)
          | inr none ↦ elim (there_or_not (pair_at (stored_key key) pairs)) [
            | inr nothing ↦ nothing ∙ ap (option_map (λ row. pair_of row)) (sym none)
            | inl found ↦ absurd (
                let p = found.0 in
                let k : p.key ≡ stored_key key = key_found pair_key (stored_key key) pairs p found.1 in
                let own : pair_at p.key pairs ≡ Some p = ap (λ j. pair_at j pairs) k ∙ found.1 in
                elim ((held p).0 own) [
                  | inl f ↦ not_format key fits (sym k ∙ ap pair_key f)
                  | inr other ↦ elim other [
                    | inl n ↦ not_next_out key fits (sym k ∙ ap pair_key n.1)
                    | inr r ↦
                        let keys_are : stored_key (key_of r.0) ≡ stored_key key = sym (ap pair_key r.2) ∙ k in
                        let same = one_key (key_of r.0) key (fits_key back sizes only r.0 (fit r.0 r.1)) fits keys_are in
                        let is : row_at lists key ≡ Some r.0 =
                        ap (row_at lists) (sym same) ∙ is_row_at lists r.0 r.1 in
                        cc (is, none)
                  ]
                ])
          ]
        ]

    -- the pairs are of format 2
    pub not_old : is_old pairs ≡ false
    not_old = not_old_pairs lists pairs held

    -- the next out number is that of its pair, or 1
    pub next_there : lists.next_out ≢ 1 → pair_at next_out_key pairs ≡ Some (next_out_pair lists.next_out)
    next_there apart = (held (next_out_pair lists.next_out)).1 (inr (inl (apart, refl)))

    pub next_absent : lists.next_out ≡ 1 → pair_at next_out_key pairs ≡ None
    next_absent one =
        elim (there_or_not (pair_at next_out_key pairs)) [
          | inr none ↦ none
          | inl found ↦ absurd (
              let p = found.0 in
              let k : p.key ≡ next_out_key = key_found pair_key next_out_key pairs p found.1 in
              let own : pair_at p.key pairs ≡ Some p = ap (λ j. pair_at j pairs) k ∙ found.1 in
              elim ((held p).0 own) [
                | inl f ↦ keys_apart (sym (ap pair_key f) ∙ k)
                | inr other ↦ elim other [
                  | inl n ↦ n.0 one
                  | inr r ↦ not_next_out (key_of r.0) (fits_key back sizes only r.0 (fit r.0 r.1))
                      (sym (ap pair_key r.2) ∙ k)
                ]
              ])
        ]

    pub next_known : 1 ≤ lists.next_out → lists.next_out ≤ 2 ^ 63 → next_out_in pairs ≡ Some lists.next_out
    next_known least most =
        elim (nat_cases lists.next_out 1) [
          | inl one ↦ ap next_in (next_absent one) ∙ ap (λ n. Some n) (sym one)
          | inr apart ↦
              let two : 2 ≤ lists.next_out = omega (arith, least, apart) in
              ap next_in (next_there apart) ∙ next_read lists.next_out two most
        ]

    pub there_is : (key : RowKey) → FitsKey key → is_there pairs key ≡ is_some (row_at lists key)
    there_is key fits = ap is_some (pair_is key fits) ∙ same (row_at lists key)
      where
        same : (o : Option Row) → is_some (option_map (λ row. pair_of row) o) ≡ is_some o
        same None = refl
        same (Some row) = refl

    pub row_is : (key : RowKey) → FitsKey key → row_in pairs key ≡ row_at lists key
    row_is key fits =
        elim (there_or_not (row_at lists key)) [
          | inl there ↦
              let is = at_is_row lists key there.0 there.1 in
              ap (λ o. o >>= row_of) (pair_is key fits) ∙ ap (λ o. option_map (λ row. pair_of row) o >>= row_of) there.1
              ∙ spelled_rows_are_read back sizes only there.0 (fit there.0 is.0) ∙ sym there.1
          | inr none ↦ ap (λ o. o >>= row_of) (pair_is key fits)
              ∙ ap (λ o. option_map (λ row. pair_of row) o >>= row_of) none ∙ sym none
        ]

    pub domain_is : (number : ℕ) → number ≤ 1 → domain_in pairs number ≡ domain_at lists number
    domain_is number fits = ap (λ o. o >>= as_domain) (row_is (keys.Domain number) fits) ∙ same (domain_at lists number)
      where
        same : (o : Option DomainRow) → (option_map (λ d. rows.Domain d) o >>= as_domain) ≡ o
        same None = refl
        same (Some d) = refl

    pub account_is : (domain rid : ℕ) → domain ≤ 1 → rid < 2 ^ 32
        → account_in pairs domain rid ≡ account_at lists domain rid
    account_is domain rid one fits =
        ap (λ o. o >>= as_account) (row_is (keys.Account domain rid) (one, fits)) ∙ same (account_at lists domain rid)
      where
        same : (o : Option AccountRow) → (option_map (λ a. rows.Account a) o >>= as_account) ≡ o
        same None = refl
        same (Some a) = refl

    pub missing_is : (kind : Kind) (domain rid : ℕ) → domain ≤ 1 → rid < 2 ^ 32
        → is_missing kind pairs domain rid ≡ not (is_of kind (account_at lists domain rid))
    missing_is kind domain rid one fits =
        rw (there_is (keys.Account domain rid) (one, fits), account_is domain rid one fits)
        (same (account_at lists domain rid))
      where
        same : (o : Option AccountRow) → (not (is_some (option_map (λ a. rows.Account a) o)) || is_other kind o)
            ≡ not (is_of kind o)
        same None = refl
        same (Some a) = refl

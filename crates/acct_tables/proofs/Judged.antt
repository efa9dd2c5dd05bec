-- Sound rows are those whose pairs break no rule.
use Rattle.std.proofs.Common.{◌≡◌, ℕ, zero, suc, ◌<◌, ◌≤◌, ◌==◌, nat_lt, Bool, true, false, ◌&&◌, ◌||◌}
use Rattle.std.proofs.Common.{List, [], ◌∷◌, length, All, refl, ap, ◌∙◌, arith}
use Rattle.std.proofs.Common.{inl, inr, ◌⊎◌, get_or}
use Rattle.std.specs.Prelude.{not, nat_le, bit_and}
use Rattle.std.specs.List.{list_all}
use Rattle.std.specs.Str.{bytes_eq}
use Rattle.std.specs.Cmp.{first_so, second_so}
use Rattle.std.proofs.lemmas.Bool.Decides.{nat_tests}
use Rattle.std.proofs.lemmas.Slice.Eq.{bytes_eq-Decides}
use Rattle.acct_codes.specs.declared.kind.Kind.{Kind}
use Rattle.acct_codes.specs.declared.kind.Kind.TheVariants.{Server, Domain, Group, Alias, User, Policy, Account}
use Rattle.acct_codes.specs.Limits.{most_text}
use Rattle.acct_codes.specs.Privileges.{se_create_token, se_create_global, known_system_access}
use Rattle.acct_codes.specs.Accounts.{domain_group_rid_users, first_created_rid, most_rid}
use Rattle.dtyp_sid.specs.Sids.{sid_eq, EqualSidsAreOne}
use Rattle.acct_calls.specs.Names.{builtin_name, builtin_sid, is_domain_name, is_domain_sid, is_valid_name}
use Rattle.acct_tables.specs.Selected.{same_kind}
use Rattle.acct_tables.specs.Good.{IsGoodDomain, IsGoodRow, IsGoodLsa, IsGoodOut, good_bits, good_primary, good_place}
use Rattle.acct_tables.specs.Good.{control_is_good, is_account_kind, are_above}
use Rattle.acct_tables.specs.Spelled.{FitsDomain, FitsAccount, FitsLsa, FitsOut, ascend}
use Rattle.acct_tables.specs.RowRules.{has_bad_text, has_bad_control, has_needless_number, has_bad_next, is_bad_change}
use Rattle.acct_tables.specs.RowRules.{is_misplaced, is_bad_account_domain, is_bad_builtin, breaks_alone, is_known_low}
use Rattle.acct_tables.specs.declared.row.DomainRow.{DomainRow}
use Rattle.acct_tables.specs.declared.row.AccountRow.{AccountRow}
use Rattle.acct_tables.specs.declared.row.LsaRow.{LsaRow}
use Rattle.acct_tables.specs.declared.row.OutRow.{OutRow}
use Rattle.acct_tables.specs.declared.row.Held.{Held}
use Rattle.acct_tables.specs.declared.row.Row.TheVariants as rows
use Rattle.acct_tables.proofs.Orders.{tested}

pub either_false : (a b : Bool) → (a || b) ≡ false → (a ≡ false) × (b ≡ false)
either_false true b e = absurd cc
either_false false b e = (refl, e)

pub both_false : (a b : Bool) → a ≡ false → b ≡ false → (a || b) ≡ false
both_false a b p q = rw (p, q) refl

pub not_false : (b : Bool) → not b ≡ false → b ≡ true
not_false true e = refl
not_false false e = absurd cc

pub not_true : (b : Bool) → b ≡ true → not b ≡ false
not_true b e = rw e refl

-- what a test that holds rules out
pub held_back : (a b : Bool) → (a && not b) ≡ false → a ≡ true → b ≡ true
held_back true b e h = not_false b e
held_back false b e h = absurd cc

both_hold : (a b : Bool) → a ≡ true → b ≡ true → (a && b) ≡ true
both_hold a b p q = rw (p, q) refl

zero_or_one : (n : ℕ) → n ≤ 1 → (n ≡ 0) ⊎ (n ≡ 1)
zero_or_one zero le = inl refl
zero_or_one (suc zero) le = inr refl
zero_or_one (suc (suc n)) le = absurd (omega arith)

module _ (equal_sids : EqualSidsAreOne) where
  -- a domain that breaks no rule is good
  pub domain_good : (d : DomainRow) → FitsDomain d → breaks_alone (rows.Domain d) ≡ false → IsGoodDomain d
  domain_good d fits e =
      let row = rows.Domain d in
      let text = either_false (nat_lt most_text (length d.oem)) _ e in
      let next = either_false (has_bad_next row) (is_bad_account_domain row || is_bad_builtin row) text.1 in
      let low = either_false (nat_lt d.next_rid first_created_rid) (nat_lt most_rid d.next_rid) next.0 in
      let own = either_false (is_bad_account_domain row) (is_bad_builtin row) next.1 in
      let account : d.number ≡ 0 → (is_domain_name d.name && is_domain_sid d.sid) ≡ true =
      λ is. held_back (d.number == 0) _ own.0 (grind (arith, nat_tests)) in
      let builtin : d.number ≡ 1 → (bytes_eq d.name builtin_name && sid_eq d.sid builtin_sid) ≡ true =
      λ is. held_back (d.number == 1) _ own.1 (grind (arith, nat_tests)) in
      record {
        sid_whole = fits.sid;
        name_units = fits.name.units_fit;
        oem_units = fits.oem.units_fit;
        number_most = fits.number;
        account_name = λ is. first_so _ _ (account is);
        account_sid = λ is. second_so _ _ (account is);
        builtin_named = λ is. (bytes_eq-Decides d.name builtin_name).0 (first_so _ _ (builtin is));
        builtin_sided = λ is. (equal_sids d.sid builtin_sid).0.0 (second_so _ _ (builtin is));
        oem_most = grind (arith, nat_tests, text.0);
        next_least = grind (arith, nat_tests, low.0);
        next_most = grind (arith, nat_tests, low.1);
      }

-- an account that breaks no rule by itself is good by itself
bits_good : (kind : Kind) (bits : ℕ) (primary : ℕ) → is_account_kind kind ≡ true
    → (same_kind User kind && not (control_is_good bits)) ≡ false
    → (same_kind Alias kind && not (bits == 0)) ≡ false → good_bits kind bits ≡ true
bits_good User bits primary known control alias = not_false (control_is_good bits) control
bits_good Group bits primary known control alias = refl
bits_good Alias bits primary known control alias = not_false (bits == 0) alias
bits_good Server bits primary known control alias = absurd cc
bits_good Domain bits primary known control alias = absurd cc
bits_good Policy bits primary known control alias = absurd cc
bits_good Account bits primary known control alias = absurd cc

place_good : (domain : ℕ) (kind : Kind) → domain ≤ 1 → ((domain == 1) && not (same_kind Alias kind)) ≡ false
    → good_place domain kind ≡ true
place_good zero kind le e = refl
place_good (suc zero) kind le e = not_false (same_kind Alias kind) e
place_good (suc (suc n)) kind le e = absurd (omega arith)

pub account_good : (a : AccountRow) → FitsAccount a → breaks_alone (rows.Account a) ≡ false → IsGoodRow a
account_good a fits e =
    let row = rows.Account a in
    let text = either_false (has_bad_text row) _ e in
    let name = either_false (not (is_valid_name a.kind a.name)) _ text.0 in
    let texts = either_false (nat_lt most_text (length a.full_name)) (nat_lt most_text (length a.comment)) name.1 in
    let control = either_false (has_bad_control row) _ text.1 in
    let needless = either_false (has_needless_number row) (is_misplaced row || false) control.1 in
    let number = either_false (same_kind Alias a.kind && not (a.bits == 0)) (not (good_primary a.kind a.primary))
    needless.0 in
    let misplaced = either_false (is_misplaced row) false needless.1 in
    let place = either_false ((a.domain == 1) && not (same_kind Alias a.kind)) _ misplaced.0 in
    record {
      name_units = fits.name.units_fit;
      full_name_units = fits.full_name.units_fit;
      comment_units = fits.comment.units_fit;
      bits_fit = fits.bits;
      kind_known = fits.kind;
      place = place_good a.domain a.kind fits.domain place.0;
      named = not_false (is_valid_name a.kind a.name) name.0;
      full_name_most = grind (arith, nat_tests, texts.0);
      comment_most = grind (arith, nat_tests, texts.1);
      control = bits_good a.kind a.bits a.primary fits.kind control.0 number.0;
      primary_kind = not_false (good_primary a.kind a.primary) number.1;
    }

all_of : (p : Held → Bool) (xs : List Held) → list_all p xs ≡ true → All (λ x. p x ≡ true) xs
all_of p [] e k d lt = absurd (omega arith)
all_of p (x ∷ xs) e zero d lt = first_so _ _ e
all_of p (x ∷ xs) e (suc k) d lt = all_of p xs (second_so _ _ e) k d (omega arith)

above_zero : (xs : List Held) → ascend xs ≡ true → list_all is_known_low xs ≡ true → are_above 0 xs ≡ true
above_zero [] e known = refl
above_zero (x ∷ xs) e known =
    let low : nat_le se_create_token x.low ≡ true =
    first_so _ (nat_le x.low se_create_global) (first_so _ (list_all is_known_low xs) known) in
    let positive : nat_lt 0 x.low ≡ true = grind (arith, nat_tests) in
    both_hold (nat_lt 0 x.low) (are_above x.low xs) positive e

pub lsa_good : (l : LsaRow) → FitsLsa l → breaks_alone (rows.Lsa l) ≡ false → IsGoodLsa l
lsa_good l fits e =
    let right = either_false (not (bit_and l.access known_system_access == l.access)
    || not (list_all is_known_low l.privileges)) false e in
    let parts = either_false (not (bit_and l.access known_system_access == l.access)) _ right.0 in
    let known = not_false (list_all is_known_low l.privileges) parts.1 in
    let access = not_false (bit_and l.access known_system_access == l.access) parts.0 in
    let each = all_of is_known_low l.privileges known in
    record {
      sid_whole = fits.sid;
      access_known = grind (arith, nat_tests, access);
      privileges_ascend = above_zero l.privileges fits.privileges_ascend known;
      privileges_known = λ k d lt.
          let test = each k d lt in
          let low = (get_or l.privileges k d).low in
          let least : nat_le se_create_token low ≡ true = first_so _ (nat_le low se_create_global) test in
          let most : nat_le low se_create_global ≡ true = second_so (nat_le se_create_token low) _ test in
          (grind (arith, nat_tests, least), grind (arith, nat_tests, most), (fits.privileges k d lt).attributes);
    }

pub out_good : (o : OutRow) → FitsOut o → (o.number == 0) ≡ false → breaks_alone (rows.Out o) ≡ false → IsGoodOut o
out_good o fits numbered e =
    let row = rows.Out o in
    let text = either_false (has_bad_text row) _ e in
    let change = either_false (is_bad_change row) (is_misplaced row || false) text.1 in
    let none = either_false (o.action == 0) (nat_lt 3 o.action || nat_le most_rid o.rid) change.0 in
    let past = either_false (nat_lt 3 o.action) (nat_le most_rid o.rid) none.1 in
    let misplaced = either_false (is_misplaced row) false change.1 in
    record {
      number_least = grind (arith, nat_tests, numbered);
      action_least = grind (arith, nat_tests, none.0);
      action_most = grind (arith, nat_tests, past.0);
      rid_most = grind (arith, nat_tests, past.1);
      kind_known = fits.kind;
      place = place_good o.domain o.kind fits.domain misplaced.0;
      name_units = fits.name.units_fit;
      named = not_false (is_valid_name o.kind o.name) text.0;
    }

-- ---- and what is good breaks no rule by itself

low_false : (m n : ℕ) → n ≤ m → nat_lt m n ≡ false
low_false m n le = grind (arith, nat_tests)

module _ (equal_sids : EqualSidsAreOne) where
  pub good_domain : (d : DomainRow) → IsGoodDomain d → breaks_alone (rows.Domain d) ≡ false
  good_domain d good =
      let row = rows.Domain d in
      let text = low_false most_text (length d.oem) good.oem_most in
      let low = low_false d.next_rid first_created_rid good.next_least in
      let high = low_false most_rid d.next_rid good.next_most in
      let account : is_bad_account_domain row ≡ false =
      elim (tested (d.number == 0)) [
        | inl t ↦
            let is : d.number ≡ 0 = grind (arith, nat_tests) in
            ap (λ b. b && not (is_domain_name d.name && is_domain_sid d.sid)) t
            ∙ not_true _ (both_hold _ _ (good.account_name is) (good.account_sid is))
        | inr t ↦ ap (λ b. b && not (is_domain_name d.name && is_domain_sid d.sid)) t
      ] in
      let builtin : is_bad_builtin row ≡ false =
      elim (tested (d.number == 1)) [
        | inl t ↦
            let is : d.number ≡ 1 = grind (arith, nat_tests) in
            let name : bytes_eq d.name builtin_name ≡ true =
            (bytes_eq-Decides d.name builtin_name).1 (good.builtin_named is) in
            let sid = (equal_sids d.sid builtin_sid).0.1 (good.builtin_sided is) in
            ap (λ b. b && not (bytes_eq d.name builtin_name && sid_eq d.sid builtin_sid)) t
            ∙ not_true _ (both_hold _ _ name sid)
        | inr t ↦ ap (λ b. b && not (bytes_eq d.name builtin_name && sid_eq d.sid builtin_sid)) t
      ] in
      both_false _ _ text (both_false _ _ (both_false _ _ low high) (both_false _ _ account builtin))

control_false : (kind : Kind) (bits : ℕ) → good_bits kind bits ≡ true
    → (same_kind User kind && not (control_is_good bits)) ≡ false
control_false User bits e = not_true (control_is_good bits) e
control_false Group bits e = refl
control_false Alias bits e = refl
control_false Server bits e = refl
control_false Domain bits e = refl
control_false Policy bits e = refl
control_false Account bits e = refl

alias_false : (kind : Kind) (bits : ℕ) → good_bits kind bits ≡ true → (same_kind Alias kind && not (bits == 0)) ≡ false
alias_false User bits e = refl
alias_false Group bits e = refl
alias_false Alias bits e = not_true (bits == 0) e
alias_false Server bits e = refl
alias_false Domain bits e = refl
alias_false Policy bits e = refl
alias_false Account bits e = refl

place_false : (domain : ℕ) (kind : Kind) → good_place domain kind ≡ true
    → ((domain == 1) && not (same_kind Alias kind)) ≡ false
place_false zero kind e = refl
place_false (suc zero) kind e = not_true (same_kind Alias kind) e
place_false (suc (suc n)) kind e =
    let other : (suc (suc n) == 1) ≡ false = grind (arith, nat_tests) in
    ap (λ b. b && not (same_kind Alias kind)) other

-- the group of all users is a group
abbrev pub IsUsersGroup : AccountRow → Type 0
IsUsersGroup a = a.domain ≡ 0 → a.rid ≡ domain_group_rid_users → same_kind Group a.kind ≡ true

pub good_account : (a : AccountRow) → IsGoodRow a → IsUsersGroup a → breaks_alone (rows.Account a) ≡ false
good_account a good users =
    let row = rows.Account a in
    let group : ((a.domain == 0) && ((a.rid == domain_group_rid_users) && not (same_kind Group a.kind))) ≡ false =
    elim (tested (a.domain == 0)) [
      | inl t ↦ elim (tested (a.rid == domain_group_rid_users)) [
        | inl u ↦
            let is = users (grind (arith, nat_tests)) (grind (arith, nat_tests)) in
            ap (λ b. b && ((a.rid == domain_group_rid_users) && not (same_kind Group a.kind))) t
            ∙ ap (λ b. b && not (same_kind Group a.kind)) u ∙ not_true _ is
        | inr u ↦ ap (λ b. b && ((a.rid == domain_group_rid_users) && not (same_kind Group a.kind))) t
            ∙ ap (λ b. b && not (same_kind Group a.kind)) u
      ]
      | inr t ↦ ap (λ b. b && ((a.rid == domain_group_rid_users) && not (same_kind Group a.kind))) t
    ] in
    both_false (has_bad_text row) _
    (both_false _ _ (not_true _ good.named)
    (both_false _ _ (low_false most_text (length a.full_name) good.full_name_most)
    (low_false most_text (length a.comment) good.comment_most)))
    (both_false (has_bad_control row) _ (control_false a.kind a.bits good.control)
    (both_false (has_needless_number row) _
    (both_false _ _ (alias_false a.kind a.bits good.control) (not_true _ good.primary_kind))
    (both_false (is_misplaced row) false (both_false _ _ (place_false a.domain a.kind good.place) group) refl)))

known_lows : (xs : List Held) → ((k : ℕ) (d : Held) → k < length xs → is_known_low (get_or xs k d) ≡ true)
    → list_all is_known_low xs ≡ true
known_lows [] each = refl
known_lows (x ∷ xs) each =
    both_hold (is_known_low x) _ (each 0 x (omega arith)) (known_lows xs (λ k d lt. each (suc k) d (omega arith)))

pub good_lsa : (l : LsaRow) → IsGoodLsa l → breaks_alone (rows.Lsa l) ≡ false
good_lsa l good =
    let access : (bit_and l.access known_system_access == l.access) ≡ true =
    (let same = good.access_known in grind (arith, nat_tests)) in
    let known = known_lows l.privileges (λ k d lt.
    (let each = good.privileges_known k d lt in
    let least : nat_le 2 (get_or l.privileges k d).low ≡ true = (let le = each.0 in grind (arith, nat_tests)) in
    let most : nat_le (get_or l.privileges k d).low 30 ≡ true = (let le = each.1 in grind (arith, nat_tests)) in
    both_hold _ _ least most)) in
    both_false _ false (both_false _ _ (not_true _ access) (not_true _ known)) refl

and_false : (a b : Bool) → (a && b) ≡ false → a ≡ true → b ≡ false
and_false true b e h = e
and_false false b e h = absurd cc

-- the group of all users breaks no rule where it is a group
pub users_kind : (a : AccountRow) → breaks_alone (rows.Account a) ≡ false → IsUsersGroup a
users_kind a e domain rid =
    let row = rows.Account a in
    let text = either_false (has_bad_text row) _ e in
    let control = either_false (has_bad_control row) _ text.1 in
    let needless = either_false (has_needless_number row) (is_misplaced row || false) control.1 in
    let misplaced = either_false (is_misplaced row) false needless.1 in
    let second = (either_false ((a.domain == 1) && not (same_kind Alias a.kind))
    ((a.domain == 0) && ((a.rid == domain_group_rid_users) && not (same_kind Group a.kind))) misplaced.0).1 in
    let users = and_false (a.domain == 0) ((a.rid == domain_group_rid_users) && not (same_kind Group a.kind)) second
    (grind (arith, nat_tests)) in
    held_back (a.rid == domain_group_rid_users) (same_kind Group a.kind) users (grind (arith, nat_tests))

pub good_out : (o : OutRow) → IsGoodOut o → breaks_alone (rows.Out o) ≡ false
good_out o good =
    let row = rows.Out o in
    let least : (o.action == 0) ≡ false = (let le = good.action_least in grind (arith, nat_tests)) in
    let most : nat_lt 3 o.action ≡ false = (let le = good.action_most in grind (arith, nat_tests)) in
    let rid : nat_le most_rid o.rid ≡ false = (let lt = good.rid_most in grind (arith, nat_tests)) in
    both_false (has_bad_text row) _ (not_true _ good.named)
    (both_false (is_bad_change row) _ (both_false _ _ least (both_false _ _ most rid))
    (both_false (is_misplaced row) false (place_false o.domain o.kind good.place) refl))

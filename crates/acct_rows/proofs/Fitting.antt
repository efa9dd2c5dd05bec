-- Sound rows have spellings.
use Rattle.std.proofs.Common.{◌≡◌, ℕ, zero, suc, ◌+◌, ◌^◌, ◌<◌, ◌≤◌, ◌==◌, nat_lt, true, false, ◌&&◌, ◌||◌}
use Rattle.std.proofs.Common.{List, [], ◌∷◌, length, All, Some, is_some, refl, sym, ap, subst, ◌∙◌, arith, inl, inr, ◌⊎◌}
use Rattle.std.specs.Prelude.{nat_le, not}
use Rattle.std.specs.List.{AllByRecursion}
use Rattle.std.specs.Cmp.{first_so, second_so}
use Rattle.std.proofs.lemmas.Bool.Decides.{nat_tests}
use Rattle.std.proofs.lemmas.Nat.{and_le_r}
use Rattle.std.proofs.lemmas.List.Elements.{recursion_from_All}
use Rattle.acct_codes.specs.declared.kind.Kind.{Kind}
use Rattle.acct_codes.specs.declared.kind.Kind.TheVariants.{Server, Domain, Group, Alias, User, Policy, Account}
use Rattle.acct_calls.specs.Names.{units_of, builtin_name, authority_name, is_domain_name, is_same, is_valid_name}
use Rattle.acct_calls.specs.Names.{all_may_stand, is_dots_and_spaces, most_units}
use Rattle.std.specs.Str.{chars}
use Rattle.acct_codes.specs.Limits.{most_domain_name}
use Rattle.acct_codes.specs.Privileges.{known_system_access}
use Rattle.acct_rows.specs.Rows.{exists, Lists, domain_at, account_at, member_at}
use Rattle.acct_tables.specs.Keys.{domain_key, account_key, lsa_key, sid_key}
use Rattle.acct_rows.specs.Rows.{alias_row_at, lsa_at, is_of}
use Rattle.acct_tables.specs.Selected.{same_kind}
use Rattle.acct_rows.specs.Sound.{IsGoodAccount, IsSoundRows}
use Rattle.acct_tables.specs.Good.{IsGoodDomain, IsGoodLsa, IsGoodOut, good_place}
use Rattle.acct_rows.specs.Sound.{next_rid_of}
use Rattle.acct_tables.specs.Good.{good_primary, are_above}
use Rattle.acct_tables.specs.Spelled.{FitsDomain, FitsAccount, FitsMember, FitsAlias, FitsLsa, FitsObject, FitsOut}
use Rattle.acct_tables.specs.Spelled.{ascend}
use Rattle.dtyp_sid.specs.Sids.{IsSid}
use Rattle.acct_tables.specs.declared.object.Object.{Object}
use Rattle.acct_tables.specs.declared.object.Object.TheVariants as objects
use Rattle.acct_rows.specs.PairsOf.{AllFit}
use Rattle.acct_tables.specs.declared.row.DomainRow.{DomainRow}
use Rattle.acct_tables.specs.declared.row.AccountRow.{AccountRow}
use Rattle.acct_tables.specs.declared.row.MemberRow.{MemberRow}
use Rattle.acct_tables.specs.declared.row.AliasRow.{AliasRow}
use Rattle.acct_tables.specs.declared.row.LsaRow.{LsaRow}
use Rattle.acct_tables.specs.declared.row.OutRow.{OutRow}
use Rattle.acct_tables.specs.declared.row.Held.{Held}
use Rattle.acct_tables.proofs.Lookups.{key_found, there_or_not}
use Rattle.acct_tables.proofs.Orders.{tested}
use Rattle.acct_rows.proofs.Keeping.{each_good, each_member_found, each_lsa_good, each_desc_good, each_out_good}
use Rattle.acct_tables.proofs.Equals.{one_sid}

-- a name that a domain may have is short
domain_name_short : (name : List ℕ) → is_domain_name name ≡ true → length name < 2 ^ 16
unfolding is_domain_name
domain_name_short name e =
    let few : nat_le (length name) most_domain_name ≡ true =
    first_so _ (is_valid_name Group name) (first_so _ (not (is_same name builtin_name))
    (first_so _ (not (is_same name authority_name)) e)) in
    grind (arith, nat_tests)

zero_or_one : (n : ℕ) → n ≤ 1 → (n ≡ 0) ⊎ (n ≡ 1)
zero_or_one zero le = inl refl
zero_or_one (suc zero) le = inr refl
zero_or_one (suc (suc n)) le = absurd (omega arith)

builtin_short : nat_le (length builtin_name) most_domain_name ≡ true
unfolding chars units_of
builtin_short = refl

pub domain_fits : (d : DomainRow) → IsGoodDomain d → FitsDomain d
domain_fits d good = record {
  number = good.number_most;
  sid = good.sid_whole;
  name = record {
    count = elim (zero_or_one d.number good.number_most) [
      | inl is ↦ domain_name_short d.name (good.account_name is)
      | inr is ↦ subst (λ (name : List ℕ). length name < 2 ^ 16) (sym (good.builtin_named is))
          (let few = builtin_short in grind (arith, nat_tests))
    ];
    units_fit = good.name_units;
  };
  oem = record { count = (let few = good.oem_most in omega arith); units_fit = good.oem_units };
  next_rid = (let few = good.next_most in omega arith);
}

few_units : (kind : Kind) → most_units kind ≤ 256
few_units User = omega arith
few_units Group = omega arith
few_units Alias = omega arith
few_units Server = omega arith
few_units Domain = omega arith
few_units Policy = omega arith
few_units Account = omega arith

valid_name_short : (kind : Kind) (name : List ℕ) → is_valid_name kind name ≡ true → length name < 2 ^ 16
unfolding is_valid_name
valid_name_short kind name e =
    let most : nat_le (length name) (most_units kind) ≡ true =
    second_so (nat_le 1 (length name)) _ (first_so _ (all_may_stand name && not (is_dots_and_spaces name)) e) in
    let few : length name ≤ most_units kind = grind (arith, nat_tests) in
    let all = few_units kind in
    omega arith

place_is : (domain : ℕ) (kind : Kind) → good_place domain kind ≡ true → domain ≤ 1
place_is domain kind e =
    elim (tested (domain == 0)) [
      | inl t ↦ (let is : domain ≡ 0 = grind (arith, nat_tests) in omega arith)
      | inr t ↦
          let e : (false || ((domain == 1) && same_kind Alias kind)) ≡ true =
          ap (λ b. b || ((domain == 1) && same_kind Alias kind)) (sym t) ∙ e in
          let one : (domain == 1) ≡ true = first_so _ (same_kind Alias kind) e in
          let is : domain ≡ 1 = grind (arith, nat_tests) in
          omega arith
    ]

module _ (lists : Lists) (sound : IsSoundRows lists) where
  below_fits : (domain rid : ℕ) → rid < next_rid_of (domain_at lists domain) → rid < 2 ^ 32
  below_fits domain rid lt =
      elim (there_or_not (domain_at lists domain)) [
        | inl there ↦
            let lt : rid < there.0.next_rid = subst (λ o. rid < next_rid_of o) there.1 lt in
            let few = (sound.domain_rules domain there.0 there.1).next_most in
            omega arith
        | inr none ↦ absurd (let lt : rid < 0 = subst (λ o. rid < next_rid_of o) none lt in omega arith)
      ]

  second_is : (a : AccountRow) (domain rid : ℕ) → account_key a ≡ domain ∷ rid ∷ [] → (a.domain ≡ domain)
      × (a.rid ≡ rid)
  second_is a domain rid e = (cc, cc)

  -- an account that is there has a RID of 32 bits, in domain 0 or 1
  there_fits : (kind : Kind) (domain rid : ℕ) → is_of kind (account_at lists domain rid) ≡ true
      → (domain ≤ 1) × (rid < 2 ^ 32)
  there_fits kind domain rid e =
      elim (there_or_not (account_at lists domain rid)) [
        | inl there ↦
            let a = there.0 in
            let good = sound.account_rules domain rid a there.1 in
            let is = second_is a domain rid (key_found account_key (domain ∷ rid ∷ []) lists.accounts a there.1) in (
              subst (λ (n : ℕ). n ≤ 1) is.0 (place_is a.domain a.kind good.itself.place),
              subst (λ (n : ℕ). n < 2 ^ 32) is.1 (below_fits a.domain a.rid good.below),
            )
        | inr none ↦ absurd (let e : false ≡ true = ap (is_of kind) (sym none) ∙ e in cc)
      ]

  primary_fits : (a : AccountRow) → IsGoodAccount lists a → a.primary < 2 ^ 32
  primary_fits a good =
      elim (tested (same_kind User a.kind)) [
        | inl t ↦ (there_fits Group 0 a.primary (good.primary_group t)).1
        | inr t ↦ none a.kind t good.itself.primary_kind
      ]
    where
      none : (kind : Kind) → same_kind User kind ≡ false → good_primary kind a.primary ≡ true → a.primary < 2 ^ 32
      none User t e = absurd cc
      none Group t e = (let is : a.primary ≡ 0 = grind (arith, nat_tests) in omega arith)
      none Alias t e = (let is : a.primary ≡ 0 = grind (arith, nat_tests) in omega arith)
      none Server t e = (let is : a.primary ≡ 0 = grind (arith, nat_tests) in omega arith)
      none Domain t e = (let is : a.primary ≡ 0 = grind (arith, nat_tests) in omega arith)
      none Policy t e = (let is : a.primary ≡ 0 = grind (arith, nat_tests) in omega arith)
      none Account t e = (let is : a.primary ≡ 0 = grind (arith, nat_tests) in omega arith)

  pub account_fits : (a : AccountRow) → IsGoodAccount lists a → FitsAccount a
  account_fits a good = record {
    domain = place_is a.domain a.kind good.itself.place;
    rid = below_fits a.domain a.rid good.below;
    kind = good.itself.kind_known;
    bits = good.itself.bits_fit;
    primary = primary_fits a good;
    name = record { count = valid_name_short a.kind a.name good.itself.named; units_fit = good.itself.name_units };
    full_name = record {
      count = (let few = good.itself.full_name_most in omega arith);
      units_fit = good.itself.full_name_units;
    };
    comment = record {
      count = (let few = good.itself.comment_most in omega arith);
      units_fit = good.itself.comment_units;
    };
  }

  pub member_fits : (m : MemberRow) → member_at lists m.group m.user ≡ Some m → FitsMember m
  member_fits m there = record {
    group = (there_fits Group 0 m.group (sound.member_groups m.group m.user m there)).1;
    user = (there_fits User 0 m.user (sound.member_users m.group m.user m there)).1;
    attributes = sound.member_rules m.group m.user m there;
  }

  pub alias_fits : (a : AliasRow) → alias_row_at lists a.domain a.alias a.member ≡ Some a → FitsAlias a
  alias_fits a there =
      let fits = there_fits Alias a.domain a.alias (sound.alias_rows a.domain a.alias a.member a there) in
      record { domain = fits.0; alias = fits.1; member = sound.alias_members a.domain a.alias a.member a there }

abbrev IsLow : Held → Type 0
IsLow held = held.low ≤ 30

few_lows : (low : ℕ) (xs : List Held) → low ≤ 30 → are_above low xs ≡ true → AllByRecursion IsLow xs
    → length xs + low ≤ 30
few_lows low [] le e all = omega arith
few_lows low (x ∷ xs) le e all =
    let above : nat_lt low x.low ≡ true = first_so _ (are_above x.low xs) e in
    let lt : low < x.low = grind (arith, nat_tests) in
    let rest = few_lows x.low xs all.0 (second_so (nat_lt low x.low) _ e) all.1 in
    omega arith

ascend_above : (xs : List Held) → are_above 0 xs ≡ true → ascend xs ≡ true
ascend_above [] e = refl
ascend_above (x ∷ xs) e = second_so _ _ e

pub lsa_fits : (l : LsaRow) → IsGoodLsa l → FitsLsa l
lsa_fits l good =
    let lows : All IsLow l.privileges = λ k d lt. (good.privileges_known k d lt).1 in
    let few = few_lows 0 l.privileges (omega arith) good.privileges_ascend (recursion_from_All IsLow l.privileges lows)
    in
    let known = and_le_r l.access known_system_access in
    record {
      sid = good.sid_whole;
      access = (let is = good.access_known in omega arith);
      count = omega arith;
      privileges = λ k d lt.
          let held = good.privileges_known k d lt in
          let low = held.1 in
          record { low = omega arith; attributes = held.2 };
      privileges_ascend = ascend_above l.privileges good.privileges_ascend;
    }

pub object_fits : (lists : Lists) → IsSoundRows lists → (object : Object) → exists lists object ≡ true
    → FitsObject object
object_fits lists sound objects.Server there = tt
object_fits lists sound objects.Policy there = tt
object_fits lists sound (objects.Group rid) there = (there_fits lists sound Group 0 rid there).1
object_fits lists sound (objects.Alias domain rid) there = there_fits lists sound Alias domain rid there
object_fits lists sound (objects.User rid) there = (there_fits lists sound User 0 rid there).1
object_fits lists sound (objects.Domain number) there =
    elim (there_or_not (domain_at lists number)) [
      | inl w ↦
          let key : domain_key w.0 ≡ number ∷ [] = key_found domain_key (number ∷ []) lists.domains w.0 w.1 in
          let is : w.0.number ≡ number = cc in
          subst (λ (n : ℕ). n ≤ 1) is (sound.domain_rules number w.0 w.1).number_most
      | inr none ↦ absurd (let e : false ≡ true = ap is_some (sym none) ∙ there in cc)
    ]
object_fits lists sound (objects.Account sid) there =
    elim (there_or_not (lsa_at lists sid)) [
      | inl w ↦ subst IsSid (one_sid w.0.sid sid (key_found lsa_key (sid_key sid) lists.lsa w.0 w.1))
          (sound.lsa_rules sid w.0 w.1).sid_whole
      | inr none ↦ absurd (let e : false ≡ true = ap is_some (sym none) ∙ there in cc)
    ]

pub out_fits : (o : OutRow) → IsGoodOut o → o.number < 2 ^ 63 → FitsOut o
out_fits o good below = record {
  number = omega (arith, below);
  action = (let few = good.action_most in omega arith);
  domain = place_is o.domain o.kind good.place;
  rid = (let few = good.rid_most in omega arith);
  kind = good.kind_known;
  name = record { count = valid_name_short o.kind o.name good.named; units_fit = good.name_units };
}

-- every row of sound rows has a spelling
pub all_fit : (lists : Lists) → IsSoundRows lists → AllFit lists
all_fit lists sound =
    let good = each_good lists sound in
    let members = each_member_found lists sound in
    let lsa = each_lsa_good lists sound in
    let descriptors = each_desc_good lists sound in
    let outs = each_out_good lists sound in
    let most = sound.next_most in
    record {
      domains = λ k d lt. domain_fits _ (good.domains k d lt).1;
      accounts = λ k d lt. account_fits lists sound _ (good.accounts k d lt).1;
      members = λ k d lt. member_fits lists sound _ (members.members k d lt);
      aliases = λ k d lt. alias_fits lists sound _ (members.aliases k d lt);
      lsa = λ k d lt. lsa_fits _ (lsa.accounts k d lt).1;
      descriptors = λ k d lt.
          let good = descriptors.descriptors k d lt in
          record { object = object_fits lists sound _ good.2; descriptor = good.1 };
      outs = λ k d lt. let good = outs.outs k d lt in out_fits _ good.1 (let below = good.2 in omega arith);
      next_out = omega arith;
    }

-- Each row of a table that ascends is found at its key, so that what holds of what is found holds of each row.
use Rattle.std.proofs.Common.{◌≡◌, ◌<◌, ℕ, true, cond, All, List, [], ◌∷◌, Some, None, sym, ap, subst, ◌∙◌}
use Rattle.std.proofs.Common.{inl, inr}
use Rattle.std.proofs.lemmas.List.Elements.{All-nil, All-cons}
use Rattle.std.specs.Cmp.{first_so, second_so}
use Rattle.acct_tables.specs.KeyedRows.{same_key, at, is_ascending}
use Rattle.acct_rows.specs.Laws.{EachIsGood, EachMemberIsFound, EachLsaIsGood, EachDescriptorIsGood, EachOutIsGood}
use Rattle.acct_rows.specs.Rows.{exists, domain_at}
use Rattle.acct_tables.specs.Keys.{domain_key, account_key, member_key, alias_key, lsa_key, desc_key, out_key}
use Rattle.acct_rows.specs.Rows.{account_at, member_at, alias_row_at, lsa_at, desc_at, out_at}
use Rattle.acct_rows.specs.Sound.{IsGoodAccount}
use Rattle.acct_tables.specs.Good.{IsGoodDomain, IsGoodLsa, IsGoodDescriptor, IsGoodOut}
use Rattle.acct_tables.proofs.Equals.{one_sid}
use Rattle.acct_tables.proofs.ObjectKeys.{one_object}
use Rattle.acct_tables.proofs.Lookups.{key_found, below_apart}
use Rattle.acct_tables.proofs.Orders.{tested, same_key-is, same_key-itself}

module _ {A : Type 0} (key : A → List ℕ) where
  all_found : (P : A → Type 0) (xs : List A) → is_ascending key xs ≡ true
      → ((q : List ℕ) (x : A) → at key q xs ≡ Some x → P x) → All P xs
  all_found P [] ascend each = All-nil P
  all_found P (x ∷ xs) ascend each = All-cons P x xs
      (each (key x) x (ap (λ b. cond b (Some x) (at key (key x) xs)) (same_key-itself (key x))))
      (all_found P xs (second_so _ _ ascend) (λ q y e. elim (tested (same_key q (key x))) [
        | inl s ↦ absurd (
            let none : at key (key x) xs ≡ None = below_apart key (key x) xs (first_so _ _ ascend) in
            let here : at key q xs ≡ None = subst (λ k. at key k xs ≡ None) (sym (same_key-is q (key x) s)) none in
            cc (here, e))
        | inr s ↦ each q y (ap (λ b. cond b (Some x) (at key q xs)) s ∙ e)
      ]))

pub each_good : EachIsGood
each_good r sound = record {
  domains = all_found domain_key (λ d. (domain_at r d.number ≡ Some d) × IsGoodDomain d) r.domains sound.domains_ascend
      (λ q d e.
      let key : domain_key d ≡ q = key_found domain_key q r.domains d e in
      let there : domain_at r d.number ≡ Some d = subst (λ k. at domain_key k r.domains ≡ Some d) (sym key) e in
      (there, sound.domain_rules d.number d there));
  accounts = all_found account_key (λ a. (account_at r a.domain a.rid ≡ Some a) × IsGoodAccount r a) r.accounts
      sound.accounts_ascend (λ q a e.
      let key : account_key a ≡ q = key_found account_key q r.accounts a e in
      let there : account_at r a.domain a.rid ≡ Some a =
      subst (λ k. at account_key k r.accounts ≡ Some a) (sym key) e in
      (there, sound.account_rules a.domain a.rid a there));
  domain_number = λ number d e. let key : domain_key d ≡ number ∷ [] = key_found domain_key _ r.domains d e in cc;
  account_domain = λ domain rid a e.
      let key : account_key a ≡ domain ∷ rid ∷ [] = key_found account_key _ r.accounts a e in cc;
  account_rid = λ domain rid a e.
      let key : account_key a ≡ domain ∷ rid ∷ [] = key_found account_key _ r.accounts a e in cc;
}

pub each_member_found : EachMemberIsFound
each_member_found r sound = record {
  members = all_found member_key (λ m. member_at r m.group m.user ≡ Some m) r.members sound.members_ascend
      (λ q m e. subst (λ k. at member_key k r.members ≡ Some m) (sym (key_found member_key q r.members m e)) e);
  aliases = all_found alias_key (λ a. alias_row_at r a.domain a.alias a.member ≡ Some a) r.aliases sound.aliases_ascend
      (λ q a e. subst (λ k. at alias_key k r.aliases ≡ Some a) (sym (key_found alias_key q r.aliases a e)) e);
  member_keys = λ group user m e.
      let key : member_key m ≡ group ∷ user ∷ [] = key_found member_key _ r.members m e in (cc, cc);
}

pub each_lsa_good : EachLsaIsGood
each_lsa_good r sound = record {
  accounts = all_found lsa_key (λ l. (lsa_at r l.sid ≡ Some l) × IsGoodLsa l) r.lsa sound.lsa_ascend (λ q l e.
      let key : lsa_key l ≡ q = key_found lsa_key q r.lsa l e in
      let there : lsa_at r l.sid ≡ Some l = subst (λ k. at lsa_key k r.lsa ≡ Some l) (sym key) e in
      (there, sound.lsa_rules l.sid l there));
  account_sid = λ sid l e. one_sid l.sid sid (key_found lsa_key _ r.lsa l e);
}

pub each_desc_good : EachDescriptorIsGood
each_desc_good r sound = record {
  descriptors = all_found desc_key
      (λ d. (desc_at r d.object ≡ Some d) × IsGoodDescriptor d × (exists r d.object ≡ true)) r.descriptors
      sound.descriptors_ascend (λ q d e.
      let key : desc_key d ≡ q = key_found desc_key q r.descriptors d e in
      let there : desc_at r d.object ≡ Some d = subst (λ k. at desc_key k r.descriptors ≡ Some d) (sym key) e in
      (there, sound.desc_rules d.object d there, sound.desc_objects d.object d there));
  object = λ object d e. one_object d.object object (key_found desc_key _ r.descriptors d e);
}

pub each_out_good : EachOutIsGood
each_out_good r sound = record {
  outs = all_found out_key (λ o. (out_at r o.number ≡ Some o) × IsGoodOut o × (o.number < r.next_out)) r.outs
      sound.outs_ascend (λ q o e.
      let key : out_key o ≡ q = key_found out_key q r.outs o e in
      let there : out_at r o.number ≡ Some o = subst (λ k. at out_key k r.outs ≡ Some o) (sym key) e in
      (there, sound.out_rules o.number o there, sound.outs_below o.number o there));
  number = λ number o e. let key : out_key o ≡ number ∷ [] = key_found out_key _ r.outs o e in cc;
}

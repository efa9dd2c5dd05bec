-- What later rows have to keep of sound rows to be sound
use Rattle.std.proofs.Common.{◌≡◌, ℕ, ◌+◌, ◌^◌, ◌<◌, ◌≤◌, Bool, true, false, List, [], ◌∷◌, Some, refl}
use Rattle.std.proofs.Common.{inl, inr, ◌⊎◌, is_some, arith}
use Rattle.acct_codes.specs.declared.kind.Kind.{Kind}
use Rattle.acct_codes.specs.declared.kind.Kind.TheVariants.{Group, Alias, User}
use Rattle.dtyp_sid.specs.Sids.{SidValue, IsSid}
use Rattle.acct_calls.specs.Names.{is_same}
use Rattle.acct_tables.specs.KeyedRows.{at, is_ascending}
use Rattle.acct_rows.specs.Rows.{Lists}
use Rattle.acct_tables.specs.Keys.{domain_key, account_key, member_key, alias_key, lsa_key, desc_key, out_key}
use Rattle.acct_rows.specs.Rows.{is_of, domain_at, account_at, member_at, alias_row_at, lsa_at, desc_at, exists}
use Rattle.acct_rows.specs.Sound.{next_rid_of, IsGoodAccount}
use Rattle.acct_tables.specs.Good.{IsGoodDomain, IsGoodMember, IsGoodLsa}
use Rattle.acct_rows.specs.Sound.{IsSoundRows}
use Rattle.acct_tables.specs.Good.{IsGoodDescriptor, IsGoodOut}
use Rattle.acct_rows.specs.Laws.{Keeps}
use Rattle.acct_tables.specs.declared.object.Object.{Object}
use Rattle.acct_tables.specs.declared.object.Object.TheVariants as objects
use Rattle.acct_tables.specs.declared.row.DomainRow.{DomainRow}
use Rattle.acct_tables.specs.declared.row.AccountRow.{AccountRow}
use Rattle.acct_tables.specs.declared.row.MemberRow.{MemberRow}
use Rattle.acct_tables.specs.declared.row.AliasRow.{AliasRow}
use Rattle.acct_tables.specs.declared.row.LsaRow.{LsaRow}
use Rattle.acct_tables.specs.declared.row.DescRow.{DescRow}
use Rattle.acct_tables.specs.declared.row.OutRow.{OutRow}

-- what is there stays, with its kind, and no next RID is lower
pub record Kept (r s : Lists) : Type 0 where
  pub domains : (n : ℕ) → is_some (domain_at r n) ≡ true → is_some (domain_at s n) ≡ true
  pub nexts : (n : ℕ) → next_rid_of (domain_at r n) ≤ next_rid_of (domain_at s n)
  pub kinds : (kind : Kind) (n i : ℕ) → is_of kind (account_at r n i) ≡ true → is_of kind (account_at s n i) ≡ true

-- so do the member rows
abbrev pub MembersKept : Lists → Lists → Type 0
MembersKept r s = (g u : ℕ) → is_some (member_at r g u) ≡ true → is_some (member_at s g u) ≡ true

-- and the accounts of the policy, except those that are gone
abbrev pub LsaKept : (Object → Bool) → Lists → Lists → Type 0
LsaKept gone r s = (sid : SidValue) → is_some (lsa_at r sid) ≡ true → gone (objects.Account sid) ≡ false
    → is_some (lsa_at s sid) ≡ true

pub good_kept : (r s : Lists) → Kept r s → MembersKept r s → (a : AccountRow) → IsGoodAccount r a → IsGoodAccount s a
good_kept r s kept members a good = record {
  itself = good.itself;
  below = omega (arith, good.below, kept.nexts a.domain);
  primary_group = λ u. kept.kinds Group 0 a.primary (good.primary_group u);
  primary_member = λ u. members a.primary a.rid (good.primary_member u);
}

-- each list ascends
pub record Ascends (s : Lists) : Type 0 where
  pub domains : is_ascending domain_key s.domains ≡ true
  pub accounts : is_ascending account_key s.accounts ≡ true
  pub members : is_ascending member_key s.members ≡ true
  pub aliases : is_ascending alias_key s.aliases ≡ true
  pub lsa : is_ascending lsa_key s.lsa ≡ true
  pub descriptors : is_ascending desc_key s.descriptors ≡ true
  pub outs : is_ascending out_key s.outs ≡ true

pub ascends : (r : Lists) → IsSoundRows r → Ascends r
ascends r sound = record {
  domains = sound.domains_ascend;
  accounts = sound.accounts_ascend;
  members = sound.members_ascend;
  aliases = sound.aliases_ascend;
  lsa = sound.lsa_ascend;
  descriptors = sound.descriptors_ascend;
  outs = sound.outs_ascend;
}

-- the changes and the next out number keep their rules
pub record OutsRun (outs : List OutRow) (next : ℕ) : Type 0 where
  pub rules : (number : ℕ) (o : OutRow) → at out_key (number ∷ []) outs ≡ Some o → IsGoodOut o
  pub below : (number : ℕ) (o : OutRow) → at out_key (number ∷ []) outs ≡ Some o → number < next
  pub run_on : (number : ℕ) (o : OutRow) → at out_key (number ∷ []) outs ≡ Some o → number + 1 < next
      → is_some (at out_key ((number + 1) ∷ []) outs) ≡ true
  pub least : 1 ≤ next
  pub most : next ≤ 2 ^ 63

pub outs_run : (r : Lists) → IsSoundRows r → OutsRun r.outs r.next_out
outs_run r sound = record {
  rules = sound.out_rules;
  below = sound.outs_below;
  run_on = sound.outs_run_on;
  least = sound.next_least;
  most = sound.next_most;
}

-- the later rows, without objects that are gone: each row was there, or keeps the rules among them
pub record Moves (gone : Object → Bool) (r s : Lists) : Type 0 where
  pub order : Ascends s
  pub kept : Kept r s
  pub domains : (n : ℕ) (d : DomainRow) → domain_at s n ≡ Some d → (domain_at r n ≡ Some d) ⊎ IsGoodDomain d
  pub accounts : (n i : ℕ) (a : AccountRow) → account_at s n i ≡ Some a → IsGoodAccount s a
  pub names : (n i j : ℕ) (a b : AccountRow) → account_at s n i ≡ Some a → account_at s n j ≡ Some b
      → is_same a.name b.name ≡ true → i ≡ j
  pub members : (g u : ℕ) (m : MemberRow) → member_at s g u ≡ Some m
      → (member_at r g u ≡ Some m)
      ⊎ ((is_of Group (account_at s 0 g) ≡ true) × (is_of User (account_at s 0 u) ≡ true) × IsGoodMember m)
  pub aliases : (n i : ℕ) (sid : SidValue) (a : AliasRow) → alias_row_at s n i sid ≡ Some a
      → (alias_row_at r n i sid ≡ Some a) ⊎ ((is_of Alias (account_at s n i) ≡ true) × IsSid a.member)
  pub lsa : (sid : SidValue) (l : LsaRow) → lsa_at s sid ≡ Some l → (lsa_at r sid ≡ Some l) ⊎ IsGoodLsa l
  pub descs : (x : Object) (d : DescRow) → desc_at s x ≡ Some d
      → ((desc_at r x ≡ Some d) × (gone x ≡ false)) ⊎ ((exists s x ≡ true) × IsGoodDescriptor d)
  pub outs : OutsRun s.outs s.next_out

moved_stays : (gone : Object → Bool) (r s : Lists) → Kept r s → LsaKept gone r s → (x : Object) → exists r x ≡ true
    → gone x ≡ false → exists s x ≡ true
moved_stays gone r s kept lsa objects.Server was other = refl
moved_stays gone r s kept lsa objects.Policy was other = refl
moved_stays gone r s kept lsa (objects.Domain n) was other = kept.domains n was
moved_stays gone r s kept lsa (objects.Group i) was other = kept.kinds Group 0 i was
moved_stays gone r s kept lsa (objects.Alias n i) was other = kept.kinds Alias n i was
moved_stays gone r s kept lsa (objects.User i) was other = kept.kinds User 0 i was
moved_stays gone r s kept lsa (objects.Account sid) was other = lsa sid was other

moved_sound : (gone : Object → Bool) (r s : Lists) → IsSoundRows r → Moves gone r s → LsaKept gone r s → IsSoundRows s
moved_sound gone r s sound by lsa = record {
  domains_ascend = by.order.domains;
  accounts_ascend = by.order.accounts;
  members_ascend = by.order.members;
  aliases_ascend = by.order.aliases;
  lsa_ascend = by.order.lsa;
  descriptors_ascend = by.order.descriptors;
  outs_ascend = by.order.outs;
  domain_rules = λ n d e. elim (by.domains n d e) [ inl old ↦ sound.domain_rules n d old | inr good ↦ good ];
  has_account_domain = by.kept.domains 0 sound.has_account_domain;
  has_builtin_domain = by.kept.domains 1 sound.has_builtin_domain;
  account_rules = by.accounts;
  names_differ = by.names;
  users_group = by.kept.kinds Group 0 513 sound.users_group;
  member_groups = λ g u m e. elim (by.members g u m e) [
    | inl old ↦ by.kept.kinds Group 0 g (sound.member_groups g u m old)
    | inr there ↦ there.0
  ];
  member_users = λ g u m e. elim (by.members g u m e) [
    | inl old ↦ by.kept.kinds User 0 u (sound.member_users g u m old)
    | inr there ↦ there.1
  ];
  member_rules = λ g u m e. elim (by.members g u m e) [
    | inl old ↦ sound.member_rules g u m old
    | inr there ↦ there.2
  ];
  alias_rows = λ n i sid a e. elim (by.aliases n i sid a e) [
    | inl old ↦ by.kept.kinds Alias n i (sound.alias_rows n i sid a old)
    | inr there ↦ there.0
  ];
  alias_members = λ n i sid a e. elim (by.aliases n i sid a e) [
    | inl old ↦ sound.alias_members n i sid a old
    | inr there ↦ there.1
  ];
  lsa_rules = λ sid l e. elim (by.lsa sid l e) [ inl old ↦ sound.lsa_rules sid l old | inr good ↦ good ];
  desc_rules = λ x d e. elim (by.descs x d e) [ inl old ↦ sound.desc_rules x d old.0 | inr new ↦ new.1 ];
  desc_objects = λ x d e. elim (by.descs x d e) [
    | inl old ↦ moved_stays gone r s by.kept lsa x (sound.desc_objects x d old.0) old.1
    | inr new ↦ new.0
  ];
  out_rules = by.outs.rules;
  outs_below = by.outs.below;
  outs_run_on = by.outs.run_on;
  next_least = by.outs.least;
  next_most = by.outs.most;
}

pub moved : (gone : Object → Bool) (r s : Lists) → IsSoundRows r → Moves gone r s → LsaKept gone r s → Keeps gone r s
moved gone r s sound by lsa =
    record { sound = moved_sound gone r s sound by lsa; stays = moved_stays gone r s by.kept lsa }

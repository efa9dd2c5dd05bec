-- The changes that keep sound rows sound
use Rattle.std.proofs.Common.{◌≡◌, ◌≢◌, ℕ, ◌+◌, ◌<◌, ◌≤◌, ◌==◌, ◌&&◌, Bool, true, false, cond, List, [], ◌∷◌, Option}
use Rattle.std.proofs.Common.{Some, None, refl, sym, ap, subst, ◌∙◌, inl, inr, ◌⊎◌, is_some, arith}
use Rattle.std.specs.List.{find}
use Rattle.std.specs.Cmp.{first_so, second_so}
use Rattle.std.proofs.lemmas.Bool.Decides.{nat_tests}
use Rattle.std.proofs.lemmas.Cmp.{ranked}
use Rattle.std.specs.Prelude.{not}
use Rattle.std.specs.Ordering.{is_eq}
use Rattle.std.specs.declared.cmp.Ordering.TheVariants.{Less}
use Rattle.acct_codes.specs.declared.kind.Kind.{Kind}
use Rattle.acct_codes.specs.declared.kind.Kind.TheVariants.{Server, Domain, Group, Alias, User, Policy, Account}
use Rattle.dtyp_sid.specs.Sids.{SidValue, IsSid, sid_eq}
use Rattle.dtyp_sid.proofs.Equal.{equal_sids}
use Rattle.acct_calls.specs.Names.{is_same}
use Rattle.acct_calls.proofs.Folds.{equivalence}
use Rattle.acct_tables.specs.KeyedRows.{compare, same_key, at, put, without, below_all, is_ascending}
use Rattle.acct_rows.specs.Rows.{Lists, is_of, domain_at, account_at, member_at, put_row, remove_row, removed, exists}
use Rattle.acct_tables.specs.Keys.{domain_key, account_key, member_key, alias_key, lsa_key, desc_key, out_key, sid_key}
use Rattle.acct_tables.specs.Keys.{object_key, same_object}
use Rattle.acct_tables.specs.Selected.{same_kind, has_name}
use Rattle.acct_tables.specs.declared.object.Object.{Object}
use Rattle.acct_tables.specs.declared.object.Object.TheVariants as objects
use Rattle.acct_rows.specs.Sound.{next_rid_of, IsGoodAccount, IsSoundRows}
use Rattle.acct_tables.specs.Good.{good_place, IsGoodDomain, IsGoodMember, IsGoodLsa, IsGoodDescriptor, IsGoodOut}
use Rattle.acct_rows.specs.Laws.{Keeps, nothing, IsNew, Replaces, DomainsStaySound, NextIsFree, AddedAccountsStaySound}
use Rattle.acct_rows.specs.Laws.{AddedUsersStaySound, ReplacedAccountsStaySound, OwnNameIsFree, UnusedNameIsFree}
use Rattle.acct_rows.specs.Laws.{NameFoundIsFree, MembersStaySound, RemovedMembersStaySound, AliasRowsStaySound}
use Rattle.acct_rows.specs.Laws.{RemovedAliasRowsStaySound, LsaAccountsStaySound, RemovedLsaAccountsStaySound}
use Rattle.acct_rows.specs.Laws.{DescriptorsStaySound, RemovedDescriptorsStaySound, OutsStaySound, RemovedOutsStaySound}
use Rattle.acct_tables.specs.declared.row.DomainRow.{DomainRow}
use Rattle.acct_tables.specs.declared.row.AccountRow.{AccountRow}
use Rattle.acct_tables.specs.declared.row.MemberRow.{MemberRow}
use Rattle.acct_tables.specs.declared.row.AliasRow.{AliasRow}
use Rattle.acct_tables.specs.declared.row.OutRow.{OutRow}
use Rattle.acct_tables.specs.declared.row.Row.TheVariants as rows
use Rattle.acct_tables.specs.declared.row.RowKey.TheVariants as keys
use Rattle.acct_tables.proofs.Ascending.{below_in, is_ascending-put, is_ascending-filter}
use Rattle.acct_tables.proofs.Standing.{at_in}
use Rattle.acct_tables.proofs.FoldOrder.{alone}
use Rattle.acct_tables.proofs.Lookups.{below_apart, same_Some, there_or_not, key_found, put_here, put_cases, put_either}
use Rattle.acct_tables.proofs.Lookups.{find_none}
use Rattle.acct_tables.proofs.Orders.{same_key-is, same_key-itself, tested}
use Rattle.acct_tables.proofs.Removals.{without_found, without_keeps}
use Rattle.acct_rows.proofs.Kept.{Kept, MembersKept, OutsRun, outs_run, good_kept, moved}
use Rattle.acct_tables.proofs.ObjectKeys.{same_object_key, one_object}
use Rattle.acct_tables.proofs.Equals.{equals, equal_is, one_sid, nat_cases}

-- a SID is itself
sid_itself : (sid : SidValue) → sid_eq sid sid ≡ true
sid_itself sid = (equal_sids sid sid).0.1 refl

-- a user is of the account domain
pub user_domain : (domain : ℕ) (kind : Kind) → same_kind User kind ≡ true → good_place domain kind ≡ true → domain ≡ 0
user_domain domain User user place = grind (arith, nat_tests)
user_domain domain Group user place = cc
user_domain domain Alias user place = cc
user_domain domain Server user place = cc
user_domain domain Domain user place = cc
user_domain domain Policy user place = cc
user_domain domain Account user place = cc

member_key_of : (a : AccountRow) (m : MemberRow) → m.group ≡ a.primary → m.user ≡ a.rid
    → a.primary ∷ a.rid ∷ [] ≡ member_key m
member_key_of a m grouped named = cc

-- names are one both ways
same_back : (a b : List ℕ) → is_same a b ≡ true → is_same b a ≡ true
same_back a b one = equivalence.symmetric b a ∙ one

-- what is there after a put
there_after : {A : Type 0} (key : A → List ℕ) (q : List ℕ) (a : A) (xs : List A) → is_some (at key q xs) ≡ true
    → is_some (at key q (put key a xs)) ≡ true
there_after key q a xs was = elim (put_either key q a xs) [ inl w ↦ ap is_some w.1 | inr e ↦ ap is_some e ∙ was ]

-- nothing changes but the accounts of the policy or the alias rows
unchanged : (r s : Lists) → s.domains ≡ r.domains → s.accounts ≡ r.accounts → Kept r s
unchanged r s domains accounts = record {
  domains = λ n was. ap (λ ds. is_some (at domain_key (n ∷ []) ds)) domains ∙ was;
  nexts = λ n. let same : next_rid_of (domain_at s n) ≡ next_rid_of (domain_at r n) =
      ap (λ ds. next_rid_of (at domain_key (n ∷ []) ds)) domains in omega arith;
  kinds = λ kind n i was. ap (λ xs. is_of kind (at account_key (n ∷ i ∷ []) xs)) accounts ∙ was;
}

-- objects stay where domains, accounts and accounts of the policy do
pub there_still : (r s : Lists) → s.domains ≡ r.domains → s.accounts ≡ r.accounts → s.lsa ≡ r.lsa → (x : Object)
    → exists r x ≡ true → exists s x ≡ true
there_still r s domains accounts lsa objects.Server was = refl
there_still r s domains accounts lsa objects.Policy was = refl
there_still r s domains accounts lsa (objects.Domain n) was = ap (λ xs. is_some (at domain_key (n ∷ []) xs)) domains ∙ was
there_still r s domains accounts lsa (objects.Group i) was =
    ap (λ xs. is_of Group (at account_key (0 ∷ i ∷ []) xs)) accounts ∙ was
there_still r s domains accounts lsa (objects.Alias n i) was =
    ap (λ xs. is_of Alias (at account_key (n ∷ i ∷ []) xs)) accounts ∙ was
there_still r s domains accounts lsa (objects.User i) was =
    ap (λ xs. is_of User (at account_key (0 ∷ i ∷ []) xs)) accounts ∙ was
there_still r s domains accounts lsa (objects.Account sid) was =
    ap (λ xs. is_some (at lsa_key (sid_key sid) xs)) lsa ∙ was

-- accounts keep the rules where nothing changes but the accounts of the policy or the alias rows
good_unchanged : (r s : Lists) → s.domains ≡ r.domains → s.accounts ≡ r.accounts → MembersKept r s → IsSoundRows r
    → (n i : ℕ) (a : AccountRow) → account_at s n i ≡ Some a → IsGoodAccount s a
good_unchanged r s domains accounts members sound n i a e =
    good_kept r s (unchanged r s domains accounts) members a
    (sound.account_rules n i a (ap (λ xs. at account_key (n ∷ i ∷ []) xs) (sym accounts) ∙ e))

alias_there : (r : Lists) (a : AliasRow) (n i : ℕ) (sid : SidValue) → n ∷ i ∷ sid_key sid ≡ alias_key a
    → is_of Alias (account_at r a.domain a.alias) ≡ true → is_of Alias (account_at r n i) ≡ true
alias_there r a n i sid key there =
    let domain : a.domain ≡ n = cc in
    let alias : a.alias ≡ i = cc in
    subst (λ k. is_of Alias (account_at r k i) ≡ true) domain
    (subst (λ k. is_of Alias (account_at r a.domain k) ≡ true) alias there)

pub alias_row_sound : AliasRowsStaySound
alias_row_sound r a sound whole there =
    let s = put_row (rows.Alias a) r in
    moved nothing r s sound (record {
      order = record {
        domains = sound.domains_ascend;
        accounts = sound.accounts_ascend;
        members = sound.members_ascend;
        aliases = is_ascending-put alias_key a r.aliases sound.aliases_ascend;
        lsa = sound.lsa_ascend;
        descriptors = sound.descriptors_ascend;
        outs = sound.outs_ascend;
      };
      kept = unchanged r s refl refl;
      domains = λ n d e. inl e;
      accounts = good_unchanged r s refl refl (λ g u was. was) sound;
      names = sound.names_differ;
      members = λ g u m e. inl e;
      aliases = λ n i sid x e. elim (put_cases alias_key (n ∷ i ∷ sid_key sid) a r.aliases x e) [
        | inl w ↦ inr (alias_there r a n i sid w.0 there, subst (λ y. IsSid y.member) (sym w.1) whole)
        | inr old ↦ inl old
      ];
      lsa = λ sid l e. inl e;
      descs = λ x d e. inl (e, refl);
      outs = outs_run r sound;
    }) (λ sid was other. was)

pub removed_alias_row_sound : RemovedAliasRowsStaySound
removed_alias_row_sound r domain alias member sound =
    let s = remove_row (keys.Alias domain alias member) r in
    moved nothing r s sound (record {
      order = record {
        domains = sound.domains_ascend;
        accounts = sound.accounts_ascend;
        members = sound.members_ascend;
        aliases = is_ascending-filter alias_key _ r.aliases sound.aliases_ascend;
        lsa = sound.lsa_ascend;
        descriptors = sound.descriptors_ascend;
        outs = sound.outs_ascend;
      };
      kept = unchanged r s refl refl;
      domains = λ n d e. inl e;
      accounts = good_unchanged r s refl refl (λ g u was. was) sound;
      names = sound.names_differ;
      members = λ g u m e. inl e;
      aliases = λ n i sid x e.
          inl (without_found alias_key (n ∷ i ∷ sid_key sid) (domain ∷ alias ∷ sid_key member) r.aliases x e).0;
      lsa = λ sid l e. inl e;
      descs = λ x d e. inl (e, refl);
      outs = outs_run r sound;
    }) (λ sid was other. was)

pub lsa_sound : LsaAccountsStaySound
lsa_sound r l sound good =
    let s = put_row (rows.Lsa l) r in
    moved nothing r s sound (record {
      order = record {
        domains = sound.domains_ascend;
        accounts = sound.accounts_ascend;
        members = sound.members_ascend;
        aliases = sound.aliases_ascend;
        lsa = is_ascending-put lsa_key l r.lsa sound.lsa_ascend;
        descriptors = sound.descriptors_ascend;
        outs = sound.outs_ascend;
      };
      kept = unchanged r s refl refl;
      domains = λ n d e. inl e;
      accounts = good_unchanged r s refl refl (λ g u was. was) sound;
      names = sound.names_differ;
      members = λ g u m e. inl e;
      aliases = λ n i sid x e. inl e;
      lsa = λ sid x e. elim (put_cases lsa_key (sid_key sid) l r.lsa x e) [
        | inl w ↦ inr (subst IsGoodLsa (sym w.1) good)
        | inr old ↦ inl old
      ];
      descs = λ x d e. inl (e, refl);
      outs = outs_run r sound;
    }) (λ sid was other. there_after lsa_key (sid_key sid) l r.lsa was)

-- an object with another key is another
pub another : (x y : Object) → object_key y ≢ object_key x → same_object x y ≡ false
another x y apart = elim (tested (same_object x y)) [
  | inl t ↦ absurd (apart (sym (same_object_key x y t)))
  | inr t ↦ t
]

pub removed_lsa_sound : RemovedLsaAccountsStaySound
removed_lsa_sound r gone sound =
    let object = objects.Account gone in
    let s = removed (keys.Desc object ∷ keys.Lsa gone ∷ []) r in
    moved (λ x. same_object x object) r s sound (record {
      order = record {
        domains = sound.domains_ascend;
        accounts = sound.accounts_ascend;
        members = sound.members_ascend;
        aliases = sound.aliases_ascend;
        lsa = is_ascending-filter lsa_key _ r.lsa sound.lsa_ascend;
        descriptors = is_ascending-filter desc_key _ r.descriptors sound.descriptors_ascend;
        outs = sound.outs_ascend;
      };
      kept = unchanged r s refl refl;
      domains = λ n d e. inl e;
      accounts = good_unchanged r s refl refl (λ g u was. was) sound;
      names = sound.names_differ;
      members = λ g u m e. inl e;
      aliases = λ n i sid x e. inl e;
      lsa = λ sid x e. inl (without_found lsa_key (sid_key sid) (sid_key gone) r.lsa x e).0;
      descs = λ x d e.
          let found = without_found desc_key (object_key x) (object_key object) r.descriptors d e in
          inl (found.0, another x object found.1);
      outs = outs_run r sound;
    }) (λ sid was other.
    ap is_some (without_keeps lsa_key (sid_key sid) (sid_key gone) r.lsa (λ same.
    let itself : sid_eq sid gone ≡ true = ap (sid_eq sid) (one_sid gone sid same)
    ∙ sid_itself sid in cc (itself, other))) ∙ was)

pub desc_sound : DescriptorsStaySound
desc_sound r d sound good there =
    let s = put_row (rows.Desc d) r in
    moved nothing r s sound (record {
      order = record {
        domains = sound.domains_ascend;
        accounts = sound.accounts_ascend;
        members = sound.members_ascend;
        aliases = sound.aliases_ascend;
        lsa = sound.lsa_ascend;
        descriptors = is_ascending-put desc_key d r.descriptors sound.descriptors_ascend;
        outs = sound.outs_ascend;
      };
      kept = unchanged r s refl refl;
      domains = λ n x e. inl e;
      accounts = good_unchanged r s refl refl (λ g u was. was) sound;
      names = sound.names_differ;
      members = λ g u m e. inl e;
      aliases = λ n i sid x e. inl e;
      lsa = λ sid l e. inl e;
      descs = λ x y e. elim (put_cases desc_key (object_key x) d r.descriptors y e) [
        | inl w ↦ inr (
          there_still r s refl refl refl x (subst (λ z. exists r z ≡ true) (one_object d.object x (sym w.0)) there),
          subst IsGoodDescriptor (sym w.1) good,
        )
        | inr old ↦ inl (old, refl)
      ];
      outs = outs_run r sound;
    }) (λ sid was other. was)

pub removed_desc_sound : RemovedDescriptorsStaySound
removed_desc_sound r object sound =
    let s = remove_row (keys.Desc object) r in
    moved nothing r s sound (record {
      order = record {
        domains = sound.domains_ascend;
        accounts = sound.accounts_ascend;
        members = sound.members_ascend;
        aliases = sound.aliases_ascend;
        lsa = sound.lsa_ascend;
        descriptors = is_ascending-filter desc_key _ r.descriptors sound.descriptors_ascend;
        outs = sound.outs_ascend;
      };
      kept = unchanged r s refl refl;
      domains = λ n d e. inl e;
      accounts = good_unchanged r s refl refl (λ g u was. was) sound;
      names = sound.names_differ;
      members = λ g u m e. inl e;
      aliases = λ n i sid x e. inl e;
      lsa = λ sid l e. inl e;
      descs = λ x d e.
          inl ((without_found desc_key (object_key x) (object_key object) r.descriptors d e).0, refl);
      outs = outs_run r sound;
    }) (λ sid was other. was)

-- where the changes alone are others
outs_moved : (r : Lists) (outs : List OutRow) (next : ℕ) → IsSoundRows r → is_ascending out_key outs ≡ true
    → OutsRun outs next
    → Keeps nothing r (record r { outs = outs; next_out = next })
outs_moved r outs next sound ascend run =
    let s = record r { outs = outs; next_out = next } in
    moved nothing r s sound (record {
      order = record {
        domains = sound.domains_ascend;
        accounts = sound.accounts_ascend;
        members = sound.members_ascend;
        aliases = sound.aliases_ascend;
        lsa = sound.lsa_ascend;
        descriptors = sound.descriptors_ascend;
        outs = ascend;
      };
      kept = unchanged r s refl refl;
      domains = λ n d e. inl e;
      accounts = good_unchanged r s refl refl (λ g u was. was) sound;
      names = sound.names_differ;
      members = λ g u m e. inl e;
      aliases = λ n i sid x e. inl e;
      lsa = λ sid l e. inl e;
      descs = λ x d e. inl (e, refl);
      outs = run;
    }) (λ sid was other. was)

first_of : (m n : ℕ) → m ∷ [] ≡ n ∷ [] → m ≡ n
first_of m n e = cc

-- a change with the next out number is found once it is put, and so are the others
pub out_sound : OutsStaySound
out_sound r o sound good number below =
    let run : OutsRun r.outs r.next_out = outs_run r sound in
    let outs = put out_key o r.outs in
    outs_moved r outs (r.next_out + 1) sound (is_ascending-put out_key o r.outs sound.outs_ascend) (record {
      rules = λ n x e. elim (put_cases out_key (n ∷ []) o r.outs x e) [
        | inl w ↦ subst IsGoodOut (sym w.1) good
        | inr old ↦ run.rules n x old
      ];
      below = λ n x e. elim (put_cases out_key (n ∷ []) o r.outs x e) [
        | inl w ↦ let is : n ≡ o.number = first_of n o.number w.0 in omega (arith, is, number)
        | inr old ↦ omega (arith, run.below n x old)
      ];
      run_on = λ n x e later. elim (put_cases out_key (n ∷ []) o r.outs x e) [
        | inl w ↦ absurd (let is : n ≡ o.number = first_of n o.number w.0 in omega (arith, is, number, later))
        | inr old ↦ elim (nat_cases (n + 1) r.next_out) [
          | inl same ↦
              let key : n + 1 ≡ o.number = same ∙ sym number in
              ap is_some (ap (λ k. at out_key (k ∷ []) outs) key ∙ put_here out_key o r.outs)
          | inr other ↦
              let before : n + 1 < r.next_out = omega (arith, other, run.below n x old) in
              there_after out_key ((n + 1) ∷ []) o r.outs (run.run_on n x old before)
        ]
      ];
      least = omega arith;
      most = omega (arith, below);
    })

-- a change after the first has a higher number
later_number : (o : OutRow) (others : List OutRow) (n : ℕ) (x : OutRow) → is_ascending out_key (o ∷ others) ≡ true
    → at out_key (n ∷ []) (o ∷ others) ≡ Some x → o.number ≢ n → o.number < n
later_number o others n x ascend e apart =
    let key : out_key x ≡ n ∷ [] = key_found out_key (n ∷ []) (o ∷ others) x e in
    let is : x.number ≡ n = first_of x.number n key in
    elim (at_in out_key (n ∷ []) x (o ∷ others) e) [
      | inl here ↦ absurd (apart (ap (λ (y : OutRow). y.number) (sym here) ∙ is))
      | inr in_others ↦
          let lt : compare (out_key o) (out_key x) ≡ Less =
          below_in out_key (out_key o) x others (first_so _ _ ascend) in_others in
          let ranks = ranked o.number x.number Less (sym lt ∙ alone o.number x.number) in
          omega (arith, is, ranks)
    ]

-- without the first change the others are left
first_gone : (o : OutRow) (others : List OutRow) → below_all out_key (out_key o) others ≡ true
    → without out_key (out_key o) (o ∷ others) ≡ others
first_gone o others above =
    ap (λ b. cond (not b) (o ∷ without out_key (out_key o) others) (without out_key (out_key o) others))
    (same_key-itself (out_key o))
    ∙ none_gone others above
  where
    none_gone : (xs : List OutRow) → below_all out_key (out_key o) xs ≡ true → without out_key (out_key o) xs ≡ xs
    none_gone [] e = refl
    none_gone (x ∷ xs) e =
        let lt : compare (out_key o) (out_key x) ≡ Less = below_in out_key (out_key o) x (x ∷ xs) e (inl refl) in
        ap (λ r. cond (not (is_eq r)) (x ∷ without out_key (out_key o) xs) (without out_key (out_key o) xs)) lt
        ∙ ap (λ ys. x ∷ ys) (none_gone xs (second_so _ _ e))

-- the first change goes, and the others are found as they were
pub removed_out_sound : RemovedOutsStaySound
removed_out_sound r o others sound are =
    let run : OutsRun r.outs r.next_out = outs_run r sound in
    let gone = o.number ∷ [] in
    let outs = without out_key gone r.outs in (
      outs_moved r outs r.next_out sound (is_ascending-filter out_key _ r.outs sound.outs_ascend) (record {
        rules = λ n x e. run.rules n x (without_found out_key (n ∷ []) gone r.outs x e).0;
        below = λ n x e. run.below n x (without_found out_key (n ∷ []) gone r.outs x e).0;
        run_on = λ n x e later.
            let found = without_found out_key (n ∷ []) gone r.outs x e in
            let after : o.number < n = later_number o others n x
            (subst (λ xs. is_ascending out_key xs ≡ true) are sound.outs_ascend)
            (subst (λ xs. at out_key (n ∷ []) xs ≡ Some x) are found.0) (λ same. found.1 (ap (λ k. k ∷ []) same)) in
            ap is_some (without_keeps out_key ((n + 1) ∷ []) gone r.outs (λ same.
            let is : o.number ≡ n + 1 = first_of o.number (n + 1) same in omega (arith, is, after)))
            ∙ run.run_on n x found.0 later;
        least = run.least;
        most = run.most;
      }),
      ap (without out_key gone) are ∙ first_gone o others (first_so _ _
          (subst (λ xs. is_ascending out_key xs ≡ true) are sound.outs_ascend)),
    )

-- a domain's row with a next RID that isn't lower
next_rises : (r : Lists) (old d : DomainRow) → domain_at r d.number ≡ Some old → old.next_rid ≤ d.next_rid → (n : ℕ)
    → next_rid_of (domain_at r n) ≤ next_rid_of (domain_at (put_row (rows.Domain d) r) n)
next_rises r old d there next n =
    elim (put_either domain_key (n ∷ []) d r.domains) [
      | inl w ↦
          let before : next_rid_of (domain_at r n) ≡ old.next_rid =
          ap (λ k. next_rid_of (at domain_key k r.domains)) w.0 ∙ ap next_rid_of there in
          let later : next_rid_of (domain_at (put_row (rows.Domain d) r) n) ≡ d.next_rid = ap next_rid_of w.1 in
          omega arith
      | inr e ↦
          let same : next_rid_of (domain_at (put_row (rows.Domain d) r) n) ≡ next_rid_of (domain_at r n) =
          ap next_rid_of e in
          omega arith
    ]

pub domains_sound : DomainsStaySound
domains_sound r old d sound there good next =
    let s = put_row (rows.Domain d) r in
    let kept : Kept r s = record {
      domains = λ n was. there_after domain_key (n ∷ []) d r.domains was;
      nexts = next_rises r old d there next;
      kinds = λ kind n i was. was;
    } in
    moved nothing r s sound (record {
      order = record {
        domains = is_ascending-put domain_key d r.domains sound.domains_ascend;
        accounts = sound.accounts_ascend;
        members = sound.members_ascend;
        aliases = sound.aliases_ascend;
        lsa = sound.lsa_ascend;
        descriptors = sound.descriptors_ascend;
        outs = sound.outs_ascend;
      };
      kept = kept;
      domains = λ n x e. elim (put_cases domain_key (n ∷ []) d r.domains x e) [
        | inl w ↦ inr (subst IsGoodDomain (sym w.1) good)
        | inr old ↦ inl old
      ];
      accounts = λ n i a e. good_kept r s kept (λ g u was. was) a (sound.account_rules n i a e);
      names = sound.names_differ;
      members = λ g u m e. inl e;
      aliases = λ n i sid x e. inl e;
      lsa = λ sid l e. inl e;
      descs = λ x d e. inl (e, refl);
      outs = outs_run r sound;
    }) (λ sid was other. was)

pub next_free : NextIsFree
next_free r number d sound is =
    elim (there_or_not (account_at r number d.next_rid)) [
      | inr none ↦ none
      | inl w ↦
          let key : account_key w.0 ≡ number ∷ d.next_rid ∷ [] =
          key_found account_key (number ∷ d.next_rid ∷ []) r.accounts w.0 w.1 in
          let domain : w.0.domain ≡ number = cc in
          let rid : w.0.rid ≡ d.next_rid = cc in
          let below : w.0.rid < next_rid_of (domain_at r w.0.domain) =
          (sound.account_rules number d.next_rid w.0 w.1).below in
          let next : next_rid_of (domain_at r w.0.domain) ≡ d.next_rid = ap (λ n. next_rid_of (domain_at r n)) domain
          ∙ ap next_rid_of is in
          absurd (omega arith)
    ]

-- an account that is added, with the member rows that there are then
module _ (r : Lists) (a : AccountRow) (ms : List MemberRow) (sound : IsSoundRows r) (new : IsNew r a) where
  abbrev grown : Lists
  grown = record r { accounts = put account_key a r.accounts; members = ms }

  kinds_grown : (kind : Kind) (n i : ℕ) → is_of kind (account_at r n i) ≡ true
      → is_of kind (account_at grown n i) ≡ true
  kinds_grown kind n i was =
      elim (put_either account_key (n ∷ i ∷ []) a r.accounts) [
        | inr e ↦ ap (is_of kind) e ∙ was
        | inl w ↦ absurd (
            let none : account_at r n i ≡ None = ap (λ k. at account_key k r.accounts) w.0 ∙ new.rid_free in
            let lost : is_of kind None ≡ true = subst (λ (o : Option AccountRow). is_of kind o ≡ true) none was in cc)
      ]

  -- an account that was there has another name
  other_name : (n i : ℕ) (x : AccountRow) → n ≡ a.domain → account_at r n i ≡ Some x → is_same x.name a.name ≡ false
  other_name n i x domain e =
      let key : account_key x ≡ n ∷ i ∷ [] = key_found account_key (n ∷ i ∷ []) r.accounts x e in
      let here : x.domain ≡ a.domain = cc in
      let no : has_name a.domain a.name x ≡ false =
      find_none account_key (has_name a.domain a.name) (n ∷ i ∷ []) r.accounts x new.name_free e in
      let one : (x.domain == a.domain) ≡ true = equals x.domain a.domain here in
      sym (ap (λ b. b && is_same x.name a.name) one) ∙ no

  names_grown : (n i j : ℕ) (x y : AccountRow) → account_at grown n i ≡ Some x → account_at grown n j ≡ Some y
      → is_same x.name y.name ≡ true → i ≡ j
  names_grown n i j x y ex ey one =
      elim (put_cases account_key (n ∷ i ∷ []) a r.accounts x ex) [
        | inl v ↦ elim (put_cases account_key (n ∷ j ∷ []) a r.accounts y ey) [
          | inl w ↦ cc
          | inr w ↦ absurd (
              let domain : n ≡ a.domain = cc v.0 in
              let apart : is_same y.name a.name ≡ false = other_name n j y domain w in
              let same : is_same y.name a.name ≡ true = ap (λ (z : AccountRow). is_same y.name z.name) (sym v.1)
              ∙ same_back x.name y.name one in
              cc (apart, same))
        ]
        | inr v ↦ elim (put_cases account_key (n ∷ j ∷ []) a r.accounts y ey) [
          | inl w ↦ absurd (
              let domain : n ≡ a.domain = cc w.0 in
              let apart : is_same x.name a.name ≡ false = other_name n i x domain v in
              let same : is_same x.name a.name ≡ true = ap (λ (z : AccountRow). is_same x.name z.name) (sym w.1)
              ∙ one in
              cc (apart, same))
          | inr w ↦ sound.names_differ n i j x y v w one
        ]
      ]

  grown_sound : is_ascending member_key ms ≡ true → MembersKept r grown → IsGoodAccount grown a
      → ((g u : ℕ) (m : MemberRow) → at member_key (g ∷ u ∷ []) ms ≡ Some m
      → (member_at r g u ≡ Some m) ⊎
      ((is_of Group (account_at grown 0 g) ≡ true) × (is_of User (account_at grown 0 u) ≡ true) × IsGoodMember m))
      → Keeps nothing r grown
  grown_sound ascend members good each =
      let kept : Kept r grown = record { domains = λ n was. was; nexts = λ n. omega arith; kinds = kinds_grown } in
      moved nothing r grown sound (record {
        order = record {
          domains = sound.domains_ascend;
          accounts = is_ascending-put account_key a r.accounts sound.accounts_ascend;
          members = ascend;
          aliases = sound.aliases_ascend;
          lsa = sound.lsa_ascend;
          descriptors = sound.descriptors_ascend;
          outs = sound.outs_ascend;
        };
        kept = kept;
        domains = λ n d e. inl e;
        accounts = λ n i x e. elim (put_cases account_key (n ∷ i ∷ []) a r.accounts x e) [
          | inl w ↦ subst (IsGoodAccount grown) (sym w.1) good
          | inr old ↦ good_kept r grown kept members x (sound.account_rules n i x old)
        ];
        names = names_grown;
        members = each;
        aliases = λ n i sid x e. inl e;
        lsa = λ sid l e. inl e;
        descs = λ x d e. inl (e, refl);
        outs = outs_run r sound;
      }) (λ sid was other. was)

pub added_account_sound : AddedAccountsStaySound
added_account_sound r a sound new other =
    grown_sound r a r.members sound new sound.members_ascend (λ g u was. was) (record {
      itself = new.good;
      below = new.below;
      primary_group = λ user. cc;
      primary_member = λ user. cc;
    }) (λ g u m e. inl e)

pub added_user_sound : AddedUsersStaySound
added_user_sound r a m sound new user group grouped named good =
    let ms = put member_key m r.members in
    let there : account_at (grown r a ms sound new) a.domain a.rid ≡ Some a = put_here account_key a r.accounts in
    let group_there : is_of Group (account_at (grown r a ms sound new) 0 a.primary) ≡ true =
    kinds_grown r a ms sound new Group 0 a.primary group in
    let zero : a.domain ≡ 0 = user_domain a.domain a.kind user new.good.place in
    grown_sound r a ms sound new (is_ascending-put member_key m r.members sound.members_ascend)
    (λ g u was. there_after member_key (g ∷ u ∷ []) m r.members was)
    (record {
      itself = new.good;
      below = new.below;
      primary_group = λ _. group_there;
      primary_member = λ _. ap is_some
          (ap (λ k. at member_key k ms) (member_key_of a m grouped named) ∙ put_here member_key m r.members);
    })
    (λ g u x e. elim (put_cases member_key (g ∷ u ∷ []) m r.members x e) [
      | inl w ↦ inr (
          let g_is : a.primary ≡ g = cc (w.0, grouped) in
          let u_is : a.rid ≡ u = cc (w.0, named) in (
            subst (λ k. is_of Group (account_at (grown r a ms sound new) 0 k) ≡ true) g_is group_there,
            subst (λ k. is_of User (account_at (grown r a ms sound new) 0 k) ≡ true) u_is
                (subst (λ k. is_of User (account_at (grown r a ms sound new) k a.rid) ≡ true) zero
                (ap (is_of User) there ∙ user)),
            subst IsGoodMember (sym w.1) good,
          ))
      | inr old ↦ inl old
    ])

-- an account that replaces another
module _ (r : Lists) (old a : AccountRow) (sound : IsSoundRows r) (by : Replaces r old a) where
  abbrev replaced : Lists
  replaced = record r { accounts = put account_key a r.accounts }

  kinds_replaced : (kind : Kind) (n i : ℕ) → is_of kind (account_at r n i) ≡ true
      → is_of kind (account_at replaced n i) ≡ true
  kinds_replaced kind n i was =
      elim (put_either account_key (n ∷ i ∷ []) a r.accounts) [
        | inr e ↦ ap (is_of kind) e ∙ was
        | inl w ↦
            let before : account_at r n i ≡ Some old = ap (λ k. at account_key k r.accounts) w.0 ∙ by.there in
            ap (is_of kind) w.1 ∙ ap (same_kind kind) by.kind ∙ sym (ap (is_of kind) before) ∙ was
      ]

  free_here : (n i j : ℕ) (x y : AccountRow) → n ∷ i ∷ [] ≡ account_key a → x ≡ a → account_at r n j ≡ Some y
      → is_same y.name x.name ≡ true → i ≡ j
  free_here n i j x y key is ey one =
      let domain : n ≡ a.domain = cc in
      let rid : i ≡ a.rid = cc in
      let there : account_at r a.domain j ≡ Some y = ap (λ k. account_at r k j) (sym domain) ∙ ey in
      let same : is_same y.name a.name ≡ true = ap (λ (z : AccountRow). is_same y.name z.name) (sym is) ∙ one in
      rid ∙ sym (by.free j y there same)

  names_replaced : (n i j : ℕ) (x y : AccountRow) → account_at replaced n i ≡ Some x → account_at replaced n j ≡ Some y
      → is_same x.name y.name ≡ true → i ≡ j
  names_replaced n i j x y ex ey one =
      elim (put_cases account_key (n ∷ i ∷ []) a r.accounts x ex) [
        | inl v ↦ elim (put_cases account_key (n ∷ j ∷ []) a r.accounts y ey) [
          | inl w ↦ cc
          | inr w ↦ free_here n i j x y v.0 v.1 w (same_back x.name y.name one)
        ]
        | inr v ↦ elim (put_cases account_key (n ∷ j ∷ []) a r.accounts y ey) [
          | inl w ↦ sym (free_here n j i y x w.0 w.1 v one)
          | inr w ↦ sound.names_differ n i j x y v w one
        ]
      ]

  replaced_keeps : Keeps nothing r replaced
  replaced_keeps =
      let kept : Kept r replaced =
      record { domains = λ n was. was; nexts = λ n. omega arith; kinds = kinds_replaced } in
      let there : IsGoodAccount r old = sound.account_rules a.domain a.rid old by.there in
      let key : account_key old ≡ a.domain ∷ a.rid ∷ [] =
      key_found account_key (a.domain ∷ a.rid ∷ []) r.accounts old by.there in
      let domain : old.domain ≡ a.domain = cc in
      let rid : old.rid ≡ a.rid = cc in
      moved nothing r replaced sound (record {
        order = record {
          domains = sound.domains_ascend;
          accounts = is_ascending-put account_key a r.accounts sound.accounts_ascend;
          members = sound.members_ascend;
          aliases = sound.aliases_ascend;
          lsa = sound.lsa_ascend;
          descriptors = sound.descriptors_ascend;
          outs = sound.outs_ascend;
        };
        kept = kept;
        domains = λ n d e. inl e;
        accounts = λ n i x e. elim (put_cases account_key (n ∷ i ∷ []) a r.accounts x e) [
          | inl w ↦ subst (IsGoodAccount replaced) (sym w.1) (good_kept r replaced kept (λ g u was. was) a (record {
            itself = by.good;
            below = subst (λ k. a.rid < next_rid_of (domain_at r k)) domain
                (subst (λ k. k < next_rid_of (domain_at r old.domain)) rid there.below);
            primary_group = by.primary_group;
            primary_member = by.primary_member;
          }))
          | inr before ↦ good_kept r replaced kept (λ g u was. was) x (sound.account_rules n i x before)
        ];
        names = names_replaced;
        members = λ g u m e. inl e;
        aliases = λ n i sid x e. inl e;
        lsa = λ sid l e. inl e;
        descs = λ x d e. inl (e, refl);
        outs = outs_run r sound;
      }) (λ sid was other. was)

pub replaced_sound : ReplacedAccountsStaySound
replaced_sound r old a sound by = replaced_keeps r old a sound by

pub own_name_free : OwnNameIsFree
own_name_free r old a sound there name j b e one =
    sound.names_differ a.domain j a.rid b old e there (ap (is_same b.name) (sym name) ∙ one)

-- an account with the name is one that is found
has_it : (r : Lists) (a b : AccountRow) (j : ℕ) → account_at r a.domain j ≡ Some b → is_same b.name a.name ≡ true
    → has_name a.domain a.name b ≡ true
has_it r a b j e one =
    let key : account_key b ≡ a.domain ∷ j ∷ [] = key_found account_key (a.domain ∷ j ∷ []) r.accounts b e in
    let here : b.domain ≡ a.domain = cc in
    ap (λ t. t && is_same b.name a.name) (equals b.domain a.domain here) ∙ one

pub unused_name_free : UnusedNameIsFree
unused_name_free r a none j b e one = absurd (
    let no : has_name a.domain a.name b ≡ false =
    find_none account_key (has_name a.domain a.name) (a.domain ∷ j ∷ []) r.accounts b none e in
    let yes : has_name a.domain a.name b ≡ true = has_it r a b j e one in cc (no, yes))

-- what a search finds is at its key, and passes
pub search_found : {A : Type 0} (key : A → List ℕ) (p : A → Bool) (xs : List A) (x : A) → is_ascending key xs ≡ true
    → find p xs ≡ Some x → (at key (key x) xs ≡ Some x) × (p x ≡ true)
search_found key p [] x h e = cc
search_found key p (y ∷ ys) x h e =
    elim (tested (p y)) [
      | inl t ↦
          let is : y ≡ x = same_Some (sym (ap (λ b. cond b (Some y) (find p ys)) t) ∙ e) in (
            subst (λ z. at key (key z) (y ∷ ys) ≡ Some z) is
                (ap (λ b. cond b (Some y) (at key (key y) ys)) (same_key-itself (key y))),
            ap p (sym is) ∙ t,
          )
      | inr t ↦
          let rest : (at key (key x) ys ≡ Some x) × (p x ≡ true) =
          search_found key p ys x (second_so _ _ h) (sym (ap (λ b. cond b (Some y) (find p ys)) t) ∙ e) in (
            elim (tested (same_key (key x) (key y))) [
              | inl s ↦ absurd (
                  let none : at key (key x) ys ≡ None = ap (λ k. at key k ys) (same_key-is (key x) (key y) s)
                  ∙ below_apart key (key y) ys (first_so _ _ h) in
                  cc (none, rest.0))
              | inr s ↦ ap (λ b. cond b (Some y) (at key (key x) ys)) s ∙ rest.0
            ],
            rest.1,
          )
    ]

pub found_name_free : NameFoundIsFree
found_name_free r a found sound is own j b e one =
    let there : (at account_key (account_key found) r.accounts ≡ Some found) × (has_name a.domain a.name found ≡ true) =
    search_found account_key (has_name a.domain a.name) r.accounts found sound.accounts_ascend is in
    let domain : found.domain ≡ a.domain = equal_is found.domain a.domain (first_so _ _ there.1) in
    let named : is_same found.name a.name ≡ true = second_so _ _ there.1 in
    let here : account_at r a.domain found.rid ≡ Some found = ap (λ k. account_at r k found.rid) (sym domain)
    ∙ there.0 in
    let same : is_same b.name found.name ≡ true =
    equivalence.transitive b.name a.name found.name one (same_back found.name a.name named) in
    sound.names_differ a.domain j found.rid b found e here same ∙ own

pub member_sound : MembersStaySound
member_sound r m sound good group user =
    let s = put_row (rows.Member m) r in
    let more : MembersKept r s = λ g u was. there_after member_key (g ∷ u ∷ []) m r.members was in
    moved nothing r s sound (record {
      order = record {
        domains = sound.domains_ascend;
        accounts = sound.accounts_ascend;
        members = is_ascending-put member_key m r.members sound.members_ascend;
        aliases = sound.aliases_ascend;
        lsa = sound.lsa_ascend;
        descriptors = sound.descriptors_ascend;
        outs = sound.outs_ascend;
      };
      kept = unchanged r s refl refl;
      domains = λ n d e. inl e;
      accounts = good_unchanged r s refl refl more sound;
      names = sound.names_differ;
      members = λ g u x e. elim (put_cases member_key (g ∷ u ∷ []) m r.members x e) [
        | inl w ↦ inr (
            let g_is : m.group ≡ g = cc in
            let u_is : m.user ≡ u = cc in (
              subst (λ k. is_of Group (account_at r 0 k) ≡ true) g_is group,
              subst
                  (λ k. is_of User (account_at r 0 k) ≡ true) u_is user,
              subst IsGoodMember (sym w.1) good,
            ))
        | inr old ↦ inl old
      ];
      aliases = λ n i sid x e. inl e;
      lsa = λ sid l e. inl e;
      descs = λ x d e. inl (e, refl);
      outs = outs_run r sound;
    }) (λ sid was other. was)

pub removed_member_sound : RemovedMembersStaySound
removed_member_sound r group user sound other =
    let s = remove_row (keys.Member group user) r in
    moved nothing r s sound (record {
      order = record {
        domains = sound.domains_ascend;
        accounts = sound.accounts_ascend;
        members = is_ascending-filter member_key _ r.members sound.members_ascend;
        aliases = sound.aliases_ascend;
        lsa = sound.lsa_ascend;
        descriptors = sound.descriptors_ascend;
        outs = sound.outs_ascend;
      };
      kept = unchanged r s refl refl;
      domains = λ n d e. inl e;
      accounts = λ n i a e.
          let good : IsGoodAccount r a = sound.account_rules n i a e in
          record {
            itself = good.itself;
            below = good.below;
            primary_group = good.primary_group;
            primary_member = λ is_user.
                let key : account_key a ≡ n ∷ i ∷ [] = key_found account_key (n ∷ i ∷ []) r.accounts a e in
                let zero : a.domain ≡ 0 = user_domain a.domain a.kind is_user good.itself.place in
                ap is_some (without_keeps member_key (a.primary ∷ a.rid ∷ []) (group ∷ user ∷ []) r.members (λ same.
                let primary : a.primary ≡ group = cc in
                let keys : n ∷ i ∷ [] ≡ 0 ∷ user ∷ [] = cc in
                other a (ap (λ k. at account_key k r.accounts) (sym keys) ∙ e) is_user primary))
                ∙ good.primary_member is_user;
          };
      names = sound.names_differ;
      members = λ g u m e. inl (without_found member_key (g ∷ u ∷ []) (group ∷ user ∷ []) r.members m e).0;
      aliases = λ n i sid x e. inl e;
      lsa = λ sid l e. inl e;
      descs = λ x d e. inl (e, refl);
      outs = outs_run r sound;
    }) (λ sid was other. was)

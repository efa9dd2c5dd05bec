-- What the operations list has the outputs of its layout: numbers of 32 bits, SIDs, and fewer than 2^32 of them.
use Rattle.std.proofs.Common.{◌≡◌, ℕ, ◌≤◌, ◌==◌, Bool, true, false, cond, All, List, [], ◌∷◌, length, map, Option}
use Rattle.std.proofs.Common.{Some, None, get_or, refl, subst, arith}
use Rattle.std.specs.List.{filter}
use Rattle.std.proofs.lemmas.List.{length-map}
use Rattle.std.proofs.lemmas.List.Elements.{All-nil, All-cons, All-head, All-tail, All-map, All-filter}
use Rattle.acct_codes.specs.declared.kind.Kind.{Kind}
use Rattle.acct_codes.specs.declared.kind.Kind.TheVariants as kind
use Rattle.acct_layouts.specs.Values.{IsLong, IsMember, IsListed}
use Rattle.acct_rows.specs.Laws.{EachIsGood, EachMemberIsFound}
use Rattle.acct_tables.specs.Keys.{domain_of, rid_of}
use Rattle.acct_rows.specs.Rows.{Lists, HasRoom, domain_at, account_at, member_at, alias_row_at, is_of, members_of}
use Rattle.acct_rows.specs.Rows.{groups_of, alias_members_of}
use Rattle.acct_tables.specs.Selected.{is_in_group, is_of_user, is_in_alias, has_one}
use Rattle.acct_rows.specs.Rows.{aliases_of}
use Rattle.acct_tables.specs.Selected.{each_once_after, each_once}
use Rattle.acct_rows.specs.Sound.{IsSoundRows, IsGoodAccount, next_rid_of}
use Rattle.acct_tables.specs.declared.object.Object.{Object}
use Rattle.acct_tables.specs.declared.row.AccountRow.{AccountRow}
use Rattle.acct_tables.specs.declared.row.AliasRow.{AliasRow}
use Rattle.acct_tables.specs.declared.row.DomainRow.{DomainRow}
use Rattle.acct_tables.specs.declared.row.MemberRow.{MemberRow}
use Rattle.dtyp_sid.specs.Sids.{SidValue, IsSid}
use Rattle.samr_members.specs.Members.{member_of_row, sids_shown, member_shown, group_shown, members_shown}
use Rattle.samr_members.specs.Members.{groups_shown}

-- ---- RIDs

next-long : (r : Lists) (n : ℕ) (o : Option DomainRow) → IsSoundRows r → domain_at r n ≡ o
    → next_rid_of o ≤ 0x3FFFFFFF
next-long r n None sound at = omega arith
next-long r n (Some d) sound at = (sound.domain_rules n d at).next_most

account-long : (r : Lists) (a : AccountRow) → IsSoundRows r → IsGoodAccount r a → IsLong a.rid
account-long r a sound good =
    omega (arith, good.below, next-long r a.domain (domain_at r a.domain) sound refl)

-- the RID of an account that is there
rid-long : EachIsGood → (r : Lists) (k : Kind) (domain rid : ℕ) (o : Option AccountRow) → IsSoundRows r
    → account_at r domain rid ≡ o → is_of k o ≡ true → IsLong rid
rid-long each r k domain rid None sound at is = cc
rid-long each r k domain rid (Some a) sound at is =
    subst IsLong ((each r sound).account_rid domain rid a at)
    (account-long r a sound (sound.account_rules domain rid a at))

-- ---- few

either-few : {A : Type 0} (b : Bool) (x : A) (xs ys zs : List A) → length xs ≤ length zs → length ys ≤ length zs
    → length (cond b (x ∷ xs) ys) ≤ length (x ∷ zs)
either-few true x xs ys zs few other = omega arith
either-few false x xs ys zs few other = omega arith

filter-few : {A : Type 0} (p : A → Bool) (xs : List A) → length (filter p xs) ≤ length xs
filter-few p [] = omega arith
filter-few p (x ∷ xs) =
    either-few (p x) x (filter p xs) (filter p xs) xs (filter-few p xs) (filter-few p xs)

-- ---- members and groups

member-listed : EachIsGood → (r : Lists) (m : MemberRow) → IsSoundRows r → member_at r m.group m.user ≡ Some m
    → IsMember (member_shown m)
member-listed each r m sound there = (
  rid-long each r kind.User 0 m.user (account_at r 0 m.user) sound refl (sound.member_users m.group m.user m there),
  sound.member_rules m.group m.user m there,
)

group-listed : EachIsGood → (r : Lists) (m : MemberRow) → IsSoundRows r → member_at r m.group m.user ≡ Some m
    → IsMember (group_shown m)
group-listed each r m sound there = (
  rid-long each r kind.Group 0 m.group (account_at r 0 m.group) sound refl (sound.member_groups m.group m.user m there),
  sound.member_rules m.group m.user m there,
)

pub members-shaped : EachIsGood → EachMemberIsFound → (r : Lists) (group : ℕ) → HasRoom r 0 → IsSoundRows r
    → IsListed IsMember (members_shown r group)
members-shaped each found r group few sound = (
  omega (arith, length-map (members_of r group) member_shown, filter-few (is_in_group group) r.members, few.members),
  All-map IsMember member_shown (members_of r group)
      (All-filter (is_in_group group) (λ (m : MemberRow). IsMember (member_shown m)) r.members
      (λ k m lt. member-listed each r (get_or r.members k m) sound ((found r sound).members k m lt))),
)

pub groups-shaped : EachIsGood → EachMemberIsFound → (r : Lists) (user : ℕ) → HasRoom r 0 → IsSoundRows r
    → IsListed IsMember (groups_shown r user)
groups-shaped each found r user few sound = (
  omega (arith, length-map (groups_of r user) group_shown, filter-few (is_of_user user) r.members, few.members),
  All-map IsMember group_shown (groups_of r user)
      (All-filter (is_of_user user) (λ (m : MemberRow). IsMember (group_shown m)) r.members
      (λ k m lt. group-listed each r (get_or r.members k m) sound ((found r sound).members k m lt))),
)

-- ---- aliases and their members

sid-listed : (r : Lists) (a : AliasRow) → IsSoundRows r → alias_row_at r a.domain a.alias a.member ≡ Some a
    → IsSid (member_of_row a)
sid-listed r a sound there = sound.alias_members a.domain a.alias a.member a there

pub sids-shaped : EachMemberIsFound → (r : Lists) (alias : Object) → HasRoom r 0 → IsSoundRows r
    → IsListed IsSid (sids_shown r alias)
sids-shaped found r alias few sound = (
  omega (
    arith,
    length-map (alias_members_of r (domain_of alias) (rid_of alias)) member_of_row,
    filter-few (is_in_alias (domain_of alias) (rid_of alias)) r.aliases,
    few.aliases,
  ),
  All-map IsSid member_of_row (alias_members_of r (domain_of alias) (rid_of alias))
      (All-filter (is_in_alias (domain_of alias) (rid_of alias)) (λ (a : AliasRow). IsSid (member_of_row a)) r.aliases
      (λ k a lt. sid-listed r (get_or r.aliases k a) sound ((found r sound).aliases k a lt))),
)

abbrev alias_of_row : AliasRow → ℕ
alias_of_row a = a.alias

alias-listed : EachIsGood → (r : Lists) (a : AliasRow) → IsSoundRows r
    → alias_row_at r a.domain a.alias a.member ≡ Some a → IsLong (alias_of_row a)
alias-listed each r a sound there =
    rid-long each r kind.Alias a.domain a.alias (account_at r a.domain a.alias) sound refl
    (sound.alias_rows a.domain a.alias a.member a there)

once-few-after : (before : ℕ) (ns : List ℕ) → length (each_once_after before ns) ≤ length ns
once-few-after before [] = omega arith
once-few-after before (n ∷ ns) =
    either-once (n == before) n (each_once_after before ns) (each_once_after n ns) ns (once-few-after before ns)
    (once-few-after n ns)
  where
    either-once : (b : Bool) (n : ℕ) (xs ys zs : List ℕ) → length xs ≤ length zs → length ys ≤ length zs
        → length (cond b xs (n ∷ ys)) ≤ length (n ∷ zs)
    either-once true n xs ys zs few other = omega arith
    either-once false n xs ys zs few other = omega arith

once-few : (ns : List ℕ) → length (each_once ns) ≤ length ns
once-few [] = omega arith
once-few (n ∷ ns) = omega (arith, once-few-after n ns)

either-all : (b : Bool) (n : ℕ) (xs ys : List ℕ) → IsLong n → All IsLong xs → All IsLong ys
    → All IsLong (cond b xs (n ∷ ys))
either-all true n xs ys long these those = these
either-all false n xs ys long these those = All-cons IsLong n ys long those

once-all-after : (before : ℕ) (ns : List ℕ) → All IsLong ns → All IsLong (each_once_after before ns)
once-all-after before [] all = All-nil IsLong
once-all-after before (n ∷ ns) all =
    either-all (n == before) n (each_once_after before ns) (each_once_after n ns) (All-head IsLong n ns all)
    (once-all-after before ns (All-tail IsLong n ns all)) (once-all-after n ns (All-tail IsLong n ns all))

once-all : (ns : List ℕ) → All IsLong ns → All IsLong (each_once ns)
once-all [] all = All-nil IsLong
once-all (n ∷ ns) all =
    All-cons IsLong n (each_once_after n ns) (All-head IsLong n ns all)
    (once-all-after n ns (All-tail IsLong n ns all))

pub aliases-shaped : EachIsGood → EachMemberIsFound → (r : Lists) (domain : ℕ) (sids : List SidValue) → HasRoom r 0
    → IsSoundRows r → IsListed IsLong (aliases_of r domain sids)
aliases-shaped each found r domain sids few sound =
    let rows = filter (has_one domain sids) r.aliases in (
      omega (
        arith,
        once-few (map alias_of_row rows),
        length-map rows alias_of_row,
        filter-few (has_one domain sids) r.aliases,
        few.aliases,
      ),
      once-all (map alias_of_row rows) (All-map IsLong alias_of_row rows
          (All-filter (has_one domain sids) (λ (a : AliasRow). IsLong (alias_of_row a)) r.aliases
          (λ k a lt. alias-listed each r (get_or r.aliases k a) sound ((found r sound).aliases k a lt)))),
    )

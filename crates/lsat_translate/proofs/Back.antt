-- The SID of what a name is translated to is translated to the same.
use Rattle.std.proofs.Common.{◌≡◌, ◌≢◌, ℕ, zero, suc, ◌+◌, ◌-◌, ◌<◌, ◌≤◌, ◌==◌, nat_lt, nat_le, Bool, true, false}
use Rattle.std.proofs.Common.{not, cond}
use Rattle.std.proofs.Common.{List, [], ◌∷◌, ◌++◌, length, take, drop, get_or, Option, Some, None, refl, sym, ap}
use Rattle.std.proofs.Common.{subst, ◌∙◌, arith, true≢false}
use Rattle.std.specs.Prelude.{◌&&◌, ◌||◌, position}
use Rattle.std.specs.Cmp.{first_so, second_so}
use Rattle.std.specs.List.{find}
use Rattle.std.specs.Option.{option_map, option_or, option_and_then}
use Rattle.std.proofs.lemmas.Bool.Decides.{nat_tests}
use Rattle.acct_calls.specs.Names.{builtin_sid, is_domain_sid}
use Rattle.acct_layouts.specs.Values.{IfThere}
use Rattle.acct_rows.specs.Laws.{EachIsGood}
use Rattle.acct_rows.specs.Rows.{Lists, domain_at, account_at, find_name}
use Rattle.acct_tables.specs.Selected.{has_name, same_kind}
use Rattle.acct_rows.specs.Sound.{IsSoundRows, IsGoodAccount, next_rid_of}
use Rattle.acct_tables.specs.Good.{good_place}
use Rattle.acct_tables.specs.declared.row.AccountRow.{AccountRow}
use Rattle.acct_tables.specs.declared.row.DomainRow.{DomainRow}
use Rattle.acct_codes.specs.declared.kind.Kind.{Kind}
use Rattle.acct_codes.specs.declared.kind.Kind.TheVariants as kind
use Rattle.dtyp_sid.specs.Sids.{with_last, authority_alone, sid_eq, EqualSidsAreOne, SidValue}
use Rattle.lsat_translate.specs.Known.{all_well_known, well_known_sid, row_sid, domain_sid}
use Rattle.lsat_translate.specs.Laws.{HidesNone}
use Rattle.lsat_translate.specs.Matches.{account_match, sid_of}
use Rattle.acct_rules.specs.Planned.{with_rid}
use Rattle.lsat_translate.specs.Lookups.{is_never_mapped, is_backslash, is_domain_named, account_named, domain_named}
use Rattle.lsat_translate.specs.Lookups.{well_known_named, is_authority_named, match_alone, match_in, match_behind}
use Rattle.lsat_translate.specs.Lookups.{match_split, match_of_name, well_known_of_sid, domain_of_sid, front_of}
use Rattle.lsat_translate.specs.Lookups.{last_of, is_behind, account_of_sid, match_of_sid}
use Rattle.lsat_translate.specs.declared.known.Known.{Known}
use Rattle.lsat_translate.specs.declared.known.Known.TheVariants as known
use Rattle.lsat_translate.specs.declared.known.WellKnown.{WellKnown}
use Rattle.lsat_translate.specs.declared.known.WellKnown.TheVariants.{Everyone, AnonymousLogon, AuthenticatedUsers}
use Rattle.lsat_translate.specs.declared.known.WellKnown.TheVariants.{System}
use Rattle.lsat_translate.specs.declared.matches.Match.{Match}
use Rattle.lsat_translate.specs.declared.matches.Match.TheVariants as matches
use Rattle.lsat_translate.proofs.Shaping.{find-account}

-- ---- what a name is translated to is there

abbrev IsNamed : Known → Type 0
IsNamed known.World = ⊥
IsNamed k = Unit {0}

record IsThere (r : Lists) (number rid : ℕ) (k : Kind) : Type 0 where
  found : option_map account_match (account_at r number rid) ≡ Some (matches.Account number rid k)
  number_most : number ≤ 1
  below : rid < next_rid_of (domain_at r number)

abbrev IsFound : Lists → Match → Type 0
IsFound r (matches.WellKnown w) = Unit {0}
IsFound r (matches.Domain k) = IsNamed k
IsFound r (matches.Account number rid k) = IsThere r number rid k

or-found : (r : Lists) (a b : Option Match) → IfThere (IsFound r) a → IfThere (IsFound r) b
    → IfThere (IsFound r) (option_or a b)
or-found r None b first second = second
or-found r (Some m) b first second = first

known-found : (r : Lists) (o : Option WellKnown) → IfThere (IsFound r) (option_map matches.WellKnown o)
known-found r None = tt
known-found r (Some w) = tt

pick-named : (a b c : Bool) → IfThere IsNamed (cond a (Some known.Account) (cond b (Some known.Builtin)
    (cond c (Some known.NtAuthority) None)))
pick-named true b c = tt
pick-named false true c = tt
pick-named false false true = tt
pick-named false false false = tt

domain-found : (r : Lists) (o : Option Known) → IfThere IsNamed o → IfThere (IsFound r) (option_map matches.Domain o)
domain-found r None named = tt
domain-found r (Some k) named = named

named-domain : (r : Lists) (name : List ℕ) → IfThere IsNamed (domain_named r name)
named-domain r name =
    pick-named (is_domain_named r name known.Account) (is_domain_named r name known.Builtin)
    (is_domain_named r name known.NtAuthority)

record Stands (r : Lists) (a : AccountRow) : Type 0 where
  there : account_at r a.domain a.rid ≡ Some a
  good : IsGoodAccount r a

either-placed : (domain : ℕ) (a b s : Bool) → (domain == 0) ≡ a → (domain == 1) ≡ b → (a || (b && s)) ≡ true
    → domain ≤ 1
either-placed domain true b s first second place = grind (arith, nat_tests)
either-placed domain false true s first second place = grind (arith, nat_tests)
either-placed domain false false s first second place = absurd (true≢false (sym place))

placed : (domain : ℕ) (k : Kind) → good_place domain k ≡ true → domain ≤ 1
placed domain k place =
    either-placed domain (domain == 0) (domain == 1) (same_kind kind.Alias k) refl refl place

account-found : (r : Lists) (o : Option AccountRow) → IfThere (Stands r) o → IfThere (IsFound r)
    (option_map account_match o)
account-found r None stands = tt
account-found r (Some a) stands = record {
  found = ap (option_map account_match) stands.there;
  number_most = placed a.domain a.kind stands.good.itself.place;
  below = stands.good.below;
}

named-found : EachIsGood → (r : Lists) (number : ℕ) (name : List ℕ) → IsSoundRows r
    → IfThere (IsFound r) (account_named r number name)
named-found each r number name sound =
    account-found r (find_name r number name)
    (find-account (Stands r) (has_name number name) r.accounts
    (λ k a lt. let stands = (each r sound).accounts k a lt in record { there = stands.0; good = stands.1 }))

alone-found : EachIsGood → (r : Lists) (name : List ℕ) → IsSoundRows r → IfThere (IsFound r) (match_alone r name)
alone-found each r name sound =
    or-found r (option_map matches.WellKnown (well_known_named name)) _ (known-found r (well_known_named name))
    (or-found r (option_map matches.Domain (domain_named r name)) _
    (domain-found r (domain_named r name) (named-domain r name))
    (or-found r (account_named r 0 name) (account_named r 1 name) (named-found each r 0 name sound)
    (named-found each r 1 name sound)))

in-found : EachIsGood → (r : Lists) (name : List ℕ) (k : Known) → IsSoundRows r → IfThere (IsFound r)
    (match_in r name k)
in-found each r name known.Account sound = named-found each r 0 name sound
in-found each r name known.Builtin sound = named-found each r 1 name sound
in-found each r name known.NtAuthority sound = known-found r (find (is_authority_named name) all_well_known)
in-found each r name known.World sound = tt

behind-found : EachIsGood → (r : Lists) (name : List ℕ) (k : Known) → IsSoundRows r → IsNamed k
    → IfThere (IsFound r) (match_behind r name k)
behind-found each r [] k sound named = named
behind-found each r (u ∷ us) k sound named = in-found each r (u ∷ us) k sound

then-found : EachIsGood → (r : Lists) (name : List ℕ) (o : Option Known) → IsSoundRows r → IfThere IsNamed o
    → IfThere (IsFound r) (option_and_then (match_behind r name) o)
then-found each r name None sound named = tt
then-found each r name (Some k) sound named = behind-found each r name k sound named

split-found : EachIsGood → (r : Lists) (name : List ℕ) (o : Option ℕ) → IsSoundRows r
    → IfThere (IsFound r) (match_split r name o)
split-found each r name None sound = alone-found each r name sound
split-found each r name (Some place) sound =
    then-found each r (drop (place + 1) name) (domain_named r (take place name)) sound
    (named-domain r (take place name))

either-found : (r : Lists) (b : Bool) (m : Option Match) → IfThere (IsFound r) m → IfThere (IsFound r) (cond b None m)
either-found r true m found = tt
either-found r false m found = found

name-found : EachIsGood → (r : Lists) (name : List ℕ) → IsSoundRows r → IfThere (IsFound r) (match_of_name r name)
name-found each r name sound =
    either-found r (is_never_mapped name) (match_split r name (position is_backslash name))
    (split-found each r name (position is_backslash name) sound)

-- ---- SIDs that differ

differ : EqualSidsAreOne → (left right : SidValue) (b : Bool) → sid_eq left right ≡ b → left ≢ right
    → sid_eq left right ≡ false
differ one left right true is apart = absurd (apart ((one left right).0.0 is))
differ one left right false is apart = is

by-length : EqualSidsAreOne → (left right : SidValue) → length left.subs ≢ length right.subs → sid_eq left right ≡ false
by-length one left right apart =
    differ one left right (sid_eq left right) refl (λ same. apart (ap (λ (sid : SidValue). length sid.subs) same))

itself : EqualSidsAreOne → (sid : SidValue) → sid_eq sid sid ≡ true
itself one sid = (one sid sid).0.1 refl

counted : (subs : List ℕ) (rid : ℕ) → length (subs ++ rid ∷ []) ≡ length subs + 1
counted [] rid = refl
counted (n ∷ subs) rid = omega (arith, counted subs rid)

front-taken : (subs : List ℕ) (rid : ℕ) → take (length subs) (subs ++ rid ∷ []) ≡ subs
front-taken [] rid = refl
front-taken (n ∷ subs) rid = ap (λ l. n ∷ l) (front-taken subs rid)

last-read : (subs : List ℕ) (rid : ℕ) → get_or (subs ++ rid ∷ []) (length subs) 0 ≡ rid
last-read [] rid = refl
last-read (n ∷ subs) rid = last-read subs rid

one-less : (subs : List ℕ) (rid : ℕ) → length (subs ++ rid ∷ []) - 1 ≡ length subs
one-less subs rid = omega (arith, counted subs rid)

front-of-last : (sid : SidValue) (rid : ℕ) → front_of (with_last sid rid) ≡ sid
front-of-last sid rid =
    ap (λ n. record { authority = sid.authority; subs = take n (sid.subs ++ rid ∷ []) }) (one-less sid.subs rid)
    ∙ ap (λ l. record { authority = sid.authority; subs = l }) (front-taken sid.subs rid)

last-of-last : (sid : SidValue) (rid : ℕ) → last_of (with_last sid rid) ≡ rid
last-of-last sid rid =
    ap (λ n. get_or (sid.subs ++ rid ∷ []) n 0) (one-less sid.subs rid) ∙ last-read sid.subs rid

has-some : (sid : SidValue) (rid : ℕ) → nat_lt 0 (length (with_last sid rid).subs) ≡ true
has-some sid rid = let more = counted sid.subs rid in grind (arith, nat_tests)

-- the account of a domain is found by the domain's SID followed by its RID, and by no other domain's
behind-itself : EqualSidsAreOne → (sid : SidValue) (rid : ℕ) → is_behind sid (with_last sid rid) ≡ true
behind-itself one sid rid =
    let front : sid_eq (front_of (with_last sid rid)) sid ≡ true =
    ap (λ s. sid_eq s sid) (front-of-last sid rid) ∙ itself one sid in
    rw (has-some sid rid, front) refl

account-itself : EqualSidsAreOne → (r : Lists) (number : ℕ) (sid : SidValue) (rid : ℕ)
    → account_of_sid r number sid (with_last sid rid) ≡ option_map account_match (account_at r number rid)
account-itself one r number sid rid =
    ap (λ b. cond b (option_map account_match (account_at r number (last_of (with_last sid rid)))) None)
    (behind-itself one sid rid)
    ∙ ap (λ n. option_map account_match (account_at r number n)) (last-of-last sid rid)

account-other : EqualSidsAreOne → (r : Lists) (number : ℕ) (other sid : SidValue) (rid : ℕ) → sid_eq sid other ≡ false
    → account_of_sid r number other (with_last sid rid) ≡ None
account-other one r number other sid rid apart =
    let front : sid_eq (front_of (with_last sid rid)) other ≡ false =
    ap (λ s. sid_eq s other) (front-of-last sid rid) ∙ apart in
    let behind : is_behind other (with_last sid rid) ≡ false = rw (has-some sid rid, front) refl in
    ap (λ b. cond b (option_map account_match (account_at r number (last_of (with_last sid rid)))) None) behind

-- a SID of two or more sub-authorities is no well-known one
long-unknown : EqualSidsAreOne → (sid : SidValue) → 2 ≤ length sid.subs → well_known_of_sid sid ≡ None
long-unknown one sid long =
    let none : (w : WellKnown) → sid_eq (well_known_sid w) sid ≡ false =
    λ w. by-length one (well_known_sid w) sid (λ same. absurd (omega (arith, long, same))) in
    rw (none Everyone, none AnonymousLogon, none AuthenticatedUsers, none System) refl

-- ---- the account domain's SID

record IsAccountSid (sid : SidValue) : Type 0 where
  some : 1 ≤ length sid.subs
  room : length sid.subs ≤ 14
  apart : sid_eq sid builtin_sid ≡ false

turned : (b : Bool) → not b ≡ true → b ≡ false
turned true is = cc
turned false is = refl

account-sid : (sid : SidValue) → is_domain_sid sid ≡ true → IsAccountSid sid
unfolding is_domain_sid
account-sid sid is =
    let few : nat_le 1 (length sid.subs) ≡ true = first_so _ _ (first_so _ _ is) in
    let most : nat_le (length sid.subs) 14 ≡ true = second_so (nat_le 1 (length sid.subs)) _ (first_so _ _ is) in
    record {
      some = grind (arith, nat_tests);
      room = grind (arith, nat_tests);
      apart = turned (sid_eq sid builtin_sid) (second_so _ _ is);
    }

row-apart : EachIsGood → (r : Lists) (o : Option DomainRow) → IsSoundRows r → domain_at r 0 ≡ o
    → sid_eq (row_sid o) builtin_sid ≡ false
row-apart each r None sound at = refl
row-apart each r (Some d) sound at =
    (account-sid d.sid ((sound.domain_rules 0 d at).account_sid ((each r sound).domain_number 0 d at))).apart

row-no-authority : EachIsGood → EqualSidsAreOne → (r : Lists) (o : Option DomainRow) → IsSoundRows r → domain_at r 0 ≡ o
    → sid_eq (row_sid o) (authority_alone 5) ≡ false
row-no-authority each one r None sound at = refl
row-no-authority each one r (Some d) sound at =
    let some : 1 ≤ length d.sid.subs =
    (account-sid d.sid ((sound.domain_rules 0 d at).account_sid ((each r sound).domain_number 0 d at))).some in
    by-length one d.sid (authority_alone 5) (λ same. absurd (omega (arith, some, same)))

row-some : EachIsGood → (r : Lists) (rid : ℕ) (o : Option DomainRow) → IsSoundRows r → domain_at r 0 ≡ o
    → rid < next_rid_of o → 1 ≤ length (row_sid o).subs
row-some each r rid None sound at below = absurd (omega (arith, below))
row-some each r rid (Some d) sound at below =
    (account-sid d.sid ((sound.domain_rules 0 d at).account_sid ((each r sound).domain_number 0 d at))).some

row-room : EachIsGood → (r : Lists) (o : Option DomainRow) → IsSoundRows r → domain_at r 0 ≡ o
    → length (row_sid o).subs ≤ 14
row-room each r None sound at = omega arith
row-room each r (Some d) sound at =
    (account-sid d.sid ((sound.domain_rules 0 d at).account_sid ((each r sound).domain_number 0 d at))).room

has-room : (sid : SidValue) (rid : ℕ) → length sid.subs ≤ 14 → with_rid rid sid ≡ Some (with_last sid rid)
has-room sid rid room =
    let test : nat_le (length sid.subs) 14 ≡ true = grind (arith, nat_tests) in
    ap (λ b. cond b (Some (with_last sid rid)) None) test

-- ---- each match

known-back : (r : Lists) (w : WellKnown) → match_of_sid r (well_known_sid w) ≡ Some (matches.WellKnown w)
known-back r Everyone = refl
known-back r AnonymousLogon = refl
known-back r AuthenticatedUsers = refl
known-back r System = refl

domain-back : EachIsGood → EqualSidsAreOne → (r : Lists) (k : Known) → IsSoundRows r → HidesNone r → IsNamed k
    → match_of_sid r (domain_sid r k) ≡ Some (matches.Domain k)
domain-back each one r known.Account sound hides named =
    rw (hides.no_well_known, itself one (domain_sid r known.Account)) refl
domain-back each one r known.Builtin sound hides named =
    rw (row-apart each r (domain_at r 0) sound refl) refl
domain-back each one r known.NtAuthority sound hides named =
    rw (row-no-authority each one r (domain_at r 0) sound refl) refl
domain-back each one r known.World sound hides named = absurd named

abbrev Answers : Lists → SidValue → Option WellKnown → Option Known → Option Match → Option Match → Option Match
Answers r sid w k a b =
    option_or (option_map matches.WellKnown w) (option_or (option_map matches.Domain k) (option_or a b))

-- no domain has a SID of two or more sub-authorities but the account domain
no-domain : EqualSidsAreOne → (r : Lists) (sid : SidValue) → 2 ≤ length sid.subs
    → sid_eq (domain_sid r known.Account) sid ≡ false → domain_of_sid r sid ≡ None
no-domain one r sid long apart =
    let builtin : sid_eq builtin_sid sid ≡ false =
    by-length one builtin_sid sid (λ same. absurd (omega (arith, long, same))) in
    let authority : sid_eq (authority_alone 5) sid ≡ false =
    by-length one (authority_alone 5) sid (λ same. absurd (omega (arith, long, same))) in
    rw (apart, builtin, authority) refl

user-back : EachIsGood → EqualSidsAreOne → (r : Lists) (rid : ℕ) (k : Kind) → IsSoundRows r → IsThere r 0 rid k
    → match_of_sid r (with_last (domain_sid r known.Account) rid) ≡ Some (matches.Account 0 rid k)
user-back each one r rid k sound there =
    let domain = domain_sid r known.Account in
    let sid = with_last domain rid in
    let some : 1 ≤ length domain.subs = row-some each r rid (domain_at r 0) sound refl there.below in
    let long : 2 ≤ length sid.subs = omega (arith, counted domain.subs rid, some) in
    let apart : sid_eq domain sid ≡ false =
    by-length one domain sid (λ same. absurd (omega (arith, counted domain.subs rid, same))) in
    let account : account_of_sid r 0 domain sid ≡ Some (matches.Account 0 rid k) =
    account-itself one r 0 domain rid ∙ there.found in
    ap (λ w. Answers r sid w (domain_of_sid r sid) (account_of_sid r 0 domain sid)
    (account_of_sid r 1 builtin_sid sid)) (long-unknown one sid long)
    ∙ ap (λ d. Answers r sid None d (account_of_sid r 0 domain sid) (account_of_sid r 1 builtin_sid sid))
    (no-domain one r sid long apart)
    ∙ ap (λ a. Answers r sid None None a (account_of_sid r 1 builtin_sid sid)) account

alias-back : EachIsGood → EqualSidsAreOne → (r : Lists) (rid : ℕ) (k : Kind) → IsSoundRows r → HidesNone r
    → IsThere r 1 rid k → match_of_sid r (with_last builtin_sid rid) ≡ Some (matches.Account 1 rid k)
alias-back each one r rid k sound hides there =
    let domain = domain_sid r known.Account in
    let sid = with_last builtin_sid rid in
    let long : 2 ≤ length sid.subs = omega (arith, counted builtin_sid.subs rid) in
    let apart : sid_eq domain sid ≡ false =
    differ one domain sid (sid_eq domain sid) refl (hides.no_alias rid) in
    let other : sid_eq builtin_sid domain ≡ false =
    differ one builtin_sid domain (sid_eq builtin_sid domain) refl
    (λ same.
    true-false (sym ((one domain builtin_sid).0.1 (sym same)) ∙ row-apart each r (domain_at r 0) sound refl)) in
    ap (λ w. Answers r sid w (domain_of_sid r sid) (account_of_sid r 0 domain sid)
    (account_of_sid r 1 builtin_sid sid)) (long-unknown one sid long)
    ∙ ap (λ d. Answers r sid None d (account_of_sid r 0 domain sid) (account_of_sid r 1 builtin_sid sid))
    (no-domain one r sid long apart)
    ∙ ap (λ a. Answers r sid None None a (account_of_sid r 1 builtin_sid sid))
    (account-other one r 0 domain builtin_sid rid other)
    ∙ account-itself one r 1 builtin_sid rid ∙ there.found
  where
    true-false : true ≡ false → ⊥
    true-false e = cc

match-back : EachIsGood → EqualSidsAreOne → (r : Lists) (m : Match) → IsSoundRows r → HidesNone r → IsFound r m
    → option_and_then (match_of_sid r) (sid_of r m) ≡ Some m
match-back each one r (matches.WellKnown w) sound hides found = known-back r w
match-back each one r (matches.Domain k) sound hides found = domain-back each one r k sound hides found
match-back each one r (matches.Account zero rid k) sound hides found =
    ap (option_and_then (match_of_sid r)) (has-room (domain_sid r known.Account) rid
    (row-room each r (domain_at r 0) sound refl))
    ∙ user-back each one r rid k sound found
match-back each one r (matches.Account (suc zero) rid k) sound hides found = alias-back each one r rid k sound hides
    found
match-back each one r (matches.Account (suc (suc n)) rid k) sound hides found = absurd
    (omega (arith, found.number_most))

pub translate-back : EachIsGood → EqualSidsAreOne → (r : Lists) (name : List ℕ) (m : Match) → IsSoundRows r
    → HidesNone r
    → match_of_name r name ≡ Some m → option_and_then (match_of_sid r) (sid_of r m) ≡ Some m
translate-back each one r name m sound hides is =
    match-back each one r m sound hides (subst (λ o. IfThere (IsFound r) o) is (name-found each r name sound))

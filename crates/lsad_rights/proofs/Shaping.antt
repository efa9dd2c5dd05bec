-- What the operations answer has the outputs of their layouts.
use Rattle.std.proofs.Common.{◌≡◌, ℕ, ◌+◌, ◌-◌, ◌^◌, ◌<◌, ◌≤◌, ◌==◌, nat_le, nat_lt, Bool, true, false, not, cond}
use Rattle.std.proofs.Common.{All, List, [], ◌∷◌, length, drop, Option, Some, None, is_some, get_or, refl}
use Rattle.std.proofs.Common.{arith, lit<, length-append}
use Rattle.std.specs.Prelude.{◌&&◌, min}
use Rattle.std.specs.Cmp.{first_so, second_so}
use Rattle.std.specs.List.{filter, list_all}
use Rattle.std.specs.Option.{option_map}
use Rattle.std.specs.Str.{chars}
use Rattle.std.proofs.lemmas.Bool.Decides.{nat_tests}
use Rattle.std.proofs.lemmas.List.{length-map}
use Rattle.std.proofs.lemmas.List.Elements.{All-nil, All-cons, All-head, All-tail, All-append, All-map, All-filter}
use Rattle.std.proofs.lemmas.List.Elements.{All-drop}
use Rattle.std.proofs.lemmas.Nat.{and_le_r}
use Rattle.acct_calls.specs.Names.{units_of, is_domain_name}
use Rattle.acct_calls.specs.declared.info.Info.{Info}
use Rattle.acct_calls.specs.declared.lists.RidName.{RidName}
use Rattle.acct_codes.specs.Limits.{most_page}
use Rattle.acct_codes.specs.Statuses.{status_no_more_entries, status_success, status_more_entries}
use Rattle.acct_codes.specs.Privileges.{known_system_access}
use Rattle.acct_layouts.specs.Values.{IsLong, IsText, IsAccount, IsPrivilege, IsPrivilegeSet, IfThere, IsListed}
use Rattle.acct_layouts.specs.Values.{IsOfArm}
use Rattle.acct_layouts.specs.Refusals.{is_refusal}
use Rattle.acct_layouts.specs.ReplyShapes.{IsShown}
use Rattle.acct_layouts.specs.declared.classes.Arm.TheVariants as arm
use Rattle.acct_layouts.specs.declared.classes.Subject.TheVariants as subject
use Rattle.acct_rows.specs.Laws.{EachIsGood, EachLsaIsGood}
use Rattle.acct_rows.specs.Rows.{Lists, HasRoom, domain_at, lsa_at}
use Rattle.acct_tables.specs.Keys.{account_domain}
use Rattle.acct_rows.specs.Sound.{IsSoundRows}
use Rattle.acct_tables.specs.Good.{IsGoodDomain, IsGoodLsa, IsKnown, are_above}
use Rattle.acct_tables.specs.declared.object.Object.{Object}
use Rattle.acct_tables.specs.declared.object.Object.TheVariants as objects
use Rattle.acct_tables.specs.declared.row.DomainRow.{DomainRow}
use Rattle.acct_tables.specs.declared.row.Held.{Held}
use Rattle.acct_tables.specs.declared.row.LsaRow.{LsaRow}
use Rattle.acct_rules.specs.Pages.{within, page, leaves_some, entry_cost, last_rid}
use Rattle.dtyp_sid.specs.Sids.{SidValue, IsSid}
use Rattle.lsad_rights.specs.Accounts.{privilege_shown, privileges_shown, access_shown, account_of, account_of_sid}
use Rattle.lsad_rights.specs.Accounts.{is_shown, place_of}
use Rattle.lsad_rights.specs.Listings.{name_in, held_name, names_held, privilege_names, logon_names, is_wanted}
use Rattle.lsad_rights.specs.Listings.{accounts_wanted, holders_status, listed_status, entry_of, is_behind}
use Rattle.lsad_rights.specs.Listings.{privileges_left, sid_of_row, sid_cost, accounts_left, low_in}
use Rattle.lsad_rights.specs.Rights.{right_row, right_name, rights_of, has_right, logon_rights, privilege_row, low_of}
use Rattle.lsad_rights.specs.Rights.{name_of, privileges, privilege_of}
use Rattle.lsad_rights.specs.declared.holders.Wanted.{Wanted}
use Rattle.lsad_rights.specs.declared.logon_rights.LogonRight.{LogonRight}
use Rattle.lsad_rights.specs.declared.privileges.KnownPrivilege.{KnownPrivilege}
use Rattle.lsad_rights.proofs.Listing.{page-few, few-left}
use Rattle.lsad_rights.proofs.Naming.{each-privilege, each-right}

-- ---- statuses

one-of : (p : ℕ → Type 0) (none more : Bool) → p status_no_more_entries → p status_more_entries → p status_success
    → p (cond none status_no_more_entries (cond more status_more_entries status_success))
one-of p true more a b c = a
one-of p false true a b c = b
one-of p false false a b c = c

pub listed-full : {A : Type 0} (given left : List A) → is_refusal (listed_status given left) ≡ false
listed-full given left =
    one-of (λ s. is_refusal s ≡ false) (length left == 0) (leaves_some given left) refl refl refl

pub listed-long : {A : Type 0} (given left : List A) → IsLong (listed_status given left)
listed-long given left =
    one-of IsLong (length left == 0) (leaves_some given left) (lit< tt) (lit< tt) (lit< tt)

either : (p : ℕ → Type 0) (none : Bool) → p status_no_more_entries → p status_success
    → p (cond none status_no_more_entries status_success)
either p true a b = a
either p false a b = b

pub holders-full : (sids : List SidValue) → is_refusal (holders_status sids) ≡ false
holders-full sids = either (λ s. is_refusal s ≡ false) (length sids == 0) refl refl

pub holders-long : (sids : List SidValue) → IsLong (holders_status sids)
holders-long sids = either IsLong (length sids == 0) (lit< tt) (lit< tt)

-- ---- texts

-- a test of a text
abbrev fits : List ℕ → Bool
fits name = nat_le (length name) 32767 && list_all (λ unit. nat_lt unit (2 ^ 16)) name

units : (name : List ℕ) → list_all (λ unit. nat_lt unit (2 ^ 16)) name ≡ true → All (λ unit. unit < 2 ^ 16) name
units [] pass = All-nil (λ unit. unit < 2 ^ 16)
units (n ∷ name) pass =
    let first : nat_lt n (2 ^ 16) ≡ true = first_so _ _ pass in
    All-cons (λ unit. unit < 2 ^ 16) n name (grind (arith, nat_tests)) (units name (second_so _ _ pass))

text : (name : List ℕ) → fits name ≡ true → IsText name
text name pass =
    let few : nat_le (length name) 32767 ≡ true = first_so _ _ pass in
    (grind (arith, nat_tests), units name (second_so _ _ pass))

privileges-fit : list_all (λ p. nat_lt (low_of p) (2 ^ 32) && fits (name_of p)) privileges ≡ true
unfolding privileges privilege_row chars units_of
privileges-fit = refl

rights-fit : list_all (λ right. fits (right_name right)) logon_rights ≡ true
unfolding logon_rights right_row chars units_of
rights-fit = refl

privilege-fits : (p : KnownPrivilege) → (nat_lt (low_of p) (2 ^ 32) && fits (name_of p)) ≡ true
privilege-fits p = each-privilege (λ q. nat_lt (low_of q) (2 ^ 32) && fits (name_of q)) privileges-fit p

pub low-long : (p : KnownPrivilege) → IsLong (low_of p)
low-long p = let small : nat_lt (low_of p) (2 ^ 32) ≡ true = first_so _ _ (privilege-fits p) in grind (arith, nat_tests)

pub privilege-text : (p : KnownPrivilege) → IsText (name_of p)
privilege-text p = text (name_of p) (second_so _ _ (privilege-fits p))

pub right-text : (right : LogonRight) → IsText (right_name right)
right-text right = text (right_name right) (each-right (λ q. fits (right_name q)) rights-fit right)

-- ---- a privilege

pub low-in-long : (found : Option KnownPrivilege) → IsLong (low_in found)
low-in-long None = lit< tt
low-in-long (Some p) = low-long p

pub name-there : (found : Option KnownPrivilege) → IfThere IsText (option_map name_of found)
name-there None = tt
name-there (Some p) = privilege-text p

-- ---- pages

within-all : {A : Type 0} (P : A → Type 0) (cost : A → ℕ) (left : ℕ) (xs : List A) → All P xs
    → All P (within cost left xs)
within-all P cost left [] all = All-nil P
within-all P cost left (x ∷ xs) all =
    one (nat_le (cost x) left) (All-head P x xs all) (within-all P cost (left - cost x) xs (All-tail P x xs all))
  where
    one : (b : Bool) → P x → All P (within cost (left - cost x) xs)
        → All P (cond b (x ∷ within cost (left - cost x) xs) [])
    one true here rest = All-cons P x (within cost (left - cost x) xs) here rest
    one false here rest = All-nil P

page-all : {A : Type 0} (P : A → Type 0) (cost : A → ℕ) (preferred : ℕ) (xs : List A) → All P xs
    → All P (page cost preferred xs)
page-all P cost preferred [] all = All-nil P
page-all P cost preferred (x ∷ xs) all =
    All-cons P x _ (All-head P x xs all)
    (within-all P cost (min preferred most_page - cost x) xs (All-tail P x xs all))

either-few : {A : Type 0} (b : Bool) (x : A) (xs ys : List A) → length xs ≤ length ys
    → length (cond b (x ∷ xs) xs) ≤ length (x ∷ ys)
either-few true x xs ys few = omega arith
either-few false x xs ys few = omega arith

filter-few : {A : Type 0} (p : A → Bool) (xs : List A) → length (filter p xs) ≤ length xs
filter-few p [] = omega arith
filter-few p (x ∷ xs) = either-few (p x) x (filter p xs) xs (filter-few p xs)

-- ---- pages of privileges

few-privileges : length privileges ≤ 29
unfolding privileges
few-privileges = omega arith

left-all : (context : ℕ) → All IsAccount (privileges_left context)
left-all context =
    All-map IsAccount entry_of (filter (is_behind context) privileges)
    (All-filter (is_behind context) (λ (p : KnownPrivilege). IsAccount (entry_of p)) privileges
    (λ k p lt. (low-long (get_or privileges k p), privilege-text (get_or privileges k p))))

last-long : (before : ℕ) (entries : List RidName) → IsLong before → All IsAccount entries
    → IsLong (last_rid before entries)
last-long before [] long all = long
last-long before (x ∷ xs) long all =
    last-long x.rid xs (All-head IsAccount x xs all).0 (All-tail IsAccount x xs all)

pub privileges-shaped : (context preferred : ℕ) → IsLong context
    → IsLong (last_rid context (page entry_cost preferred (privileges_left context)))
    × IsListed IsAccount (page entry_cost preferred (privileges_left context))
privileges-shaped context preferred long =
    let all = page-all IsAccount entry_cost preferred (privileges_left context) (left-all context) in
    let most = page-few entry_cost preferred (privileges_left context) in
    let mapped = length-map (filter (is_behind context) privileges) entry_of in
    let few = filter-few (is_behind context) privileges in
    let all-few = few-privileges in
    (last-long context (page entry_cost preferred (privileges_left context)) long all, (omega arith, all))

-- ---- lists of accounts

goods : EachLsaIsGood → (r : Lists) → IsSoundRows r → All IsGoodLsa r.lsa
goods each r sound = λ k l lt. ((each r sound).accounts k l lt).1

wholes : EachLsaIsGood → (r : Lists) → IsSoundRows r → All (λ (l : LsaRow). IsSid (sid_of_row l)) r.lsa
wholes each r sound = λ k l lt. (goods each r sound k l lt).sid_whole

pub accounts-shaped : EachLsaIsGood → (r : Lists) (context preferred : ℕ) → HasRoom r 0 → IsSoundRows r
    → IsLong context
    → IsLong (context + length (page sid_cost preferred (accounts_left context r)))
    × IsListed IsSid (page sid_cost preferred (accounts_left context r))
accounts-shaped each r context preferred few sound long =
    let most = few-left context preferred r.lsa in
    let room = few.lsa in (
      omega arith,
      (
        omega arith,
        page-all IsSid sid_cost preferred (accounts_left context r)
            (All-map IsSid sid_of_row (drop context r.lsa)
            (All-drop (λ (l : LsaRow). IsSid (sid_of_row l)) context r.lsa (wholes each r sound))),
      ),
    )

pub holders-shaped : EachLsaIsGood → (r : Lists) (found : Option Wanted) → HasRoom r 0 → IsSoundRows r
    → IsListed IsSid (accounts_wanted found r)
holders-shaped each r None few sound = (lit< tt, All-nil IsSid)
holders-shaped each r (Some w) few sound = (
  omega (arith, length-map (filter (is_wanted w) r.lsa) sid_of_row, filter-few (is_wanted w) r.lsa, few.lsa),
  All-map IsSid sid_of_row (filter (is_wanted w) r.lsa)
      (All-filter (is_wanted w) (λ (l : LsaRow). IsSid (sid_of_row l)) r.lsa (wholes each r sound)),
)

-- ---- the policy

account-short : (name : List ℕ) → is_domain_name name ≡ true → length name ≤ 15
unfolding is_domain_name
account-short name is =
    let most : nat_le (length name) 15 ≡ true = first_so _ _ (first_so _ _ (first_so _ _ is)) in
    grind (arith, nat_tests)

place-whole : (d : DomainRow) → IsGoodDomain d → d.number ≡ 0 → IsText d.name × IsSid d.sid
place-whole d good is =
    let short = account-short d.name (good.account_name is) in
    ((omega arith, good.name_units), good.sid_whole)

of-arm : (shown : Bool) (value : Info) → shown ≡ true → IsOfArm (Some arm.Place) value
    → IsOfArm (cond shown (Some arm.Place) None) value
of-arm true value is whole = whole
of-arm false value is whole = cc

place-shaped : EachIsGood → (r : Lists) (d : Option DomainRow) (class : ℕ) → IsSoundRows r
    → domain_at r account_domain ≡ d → is_some d ≡ true → is_shown class ≡ true
    → IsShown subject.Policy class (option_map place_of d)
place-shaped each r None class sound at there is = cc
place-shaped each r (Some d) class sound at there is =
    of-arm (is_shown class) (place_of d) is
    (place-whole d (sound.domain_rules account_domain d at) ((each r sound).domain_number account_domain d at))

pub policy-shaped : EachIsGood → (r : Lists) (class : ℕ) → IsSoundRows r → is_shown class ≡ true
    → IsShown subject.Policy class (option_map place_of (domain_at r account_domain))
policy-shaped each r class sound is =
    place-shaped each r (domain_at r account_domain) class sound refl sound.has_account_domain is

-- where no class is refused, the class is shown
pub class-is-shown : (shown : Bool) → (not (not shown) && true) ≡ true → shown ≡ true
class-is-shown true none = refl
class-is-shown false none = cc

-- ---- an account

at-good : (r : Lists) (sid : SidValue) (found : Option LsaRow) → IsSoundRows r → lsa_at r sid ≡ found
    → IfThere IsGoodLsa found
at-good r sid None sound at = tt
at-good r sid (Some l) sound at = sound.lsa_rules sid l at

pub asked-good : (r : Lists) (sid : Option SidValue) → IsSoundRows r → IfThere IsGoodLsa (account_of_sid r sid)
asked-good r None sound = tt
asked-good r (Some sid) sound = at-good r sid (lsa_at r sid) sound refl

pub object-good : (r : Lists) (object : Object) → IsSoundRows r → IfThere IsGoodLsa (account_of r object)
object-good r objects.Server sound = tt
object-good r (objects.Domain n) sound = tt
object-good r (objects.Group rid) sound = tt
object-good r (objects.Alias n rid) sound = tt
object-good r (objects.User rid) sound = tt
object-good r objects.Policy sound = tt
object-good r (objects.Account sid) sound = at-good r sid (lsa_at r sid) sound refl

-- there are no more privileges than stand in the table
few-held : (low : ℕ) (held : List Held) → low ≤ 30 → are_above low held ≡ true → All IsKnown held
    → length held + low ≤ 30
few-held low [] most above known = omega arith
few-held low (h ∷ held) most above known =
    let higher : nat_lt low h.low ≡ true = first_so _ _ above in
    let under : low < h.low = grind (arith, nat_tests) in
    let this = All-head IsKnown h held known in
    let rest = few-held h.low held this.1 (second_so _ _ above) (All-tail IsKnown h held known) in
    omega arith

pub privileges-held : (found : Option LsaRow) → IfThere IsGoodLsa found → IsPrivilegeSet (privileges_shown found)
privileges-held None good = (omega arith, All-nil IsPrivilege)
privileges-held (Some l) good = (
  omega (
    arith,
    length-map l.privileges privilege_shown,
    few-held 0 l.privileges (omega arith) good.privileges_ascend good.privileges_known,
  ),
  All-map IsPrivilege privilege_shown l.privileges (λ k h lt.
      let known : IsKnown (get_or l.privileges k h) = good.privileges_known k h lt in
      let most = known.1 in
      (omega arith, lit< tt, known.2)),
)

pub access-long : (found : Option LsaRow) → IfThere IsGoodLsa found → IsLong (access_shown found)
access-long None good = lit< tt
access-long (Some l) good = omega (arith, good.access_known, and_le_r l.access known_system_access)

-- ---- names of what is held

held-text : (found : Option KnownPrivilege) → IsText (name_in found)
held-text None = (omega arith, All-nil (λ unit. unit < 2 ^ 16))
held-text (Some p) = privilege-text p

few-rights : length logon_rights ≤ 10
unfolding logon_rights
few-rights = omega arith

pub names-shaped : (found : Option LsaRow) → IfThere IsGoodLsa found → IsListed IsText (names_held found)
names-shaped None good = (lit< tt, All-nil IsText)
names-shaped (Some l) good = (
  omega (
    arith,
    length-append (privilege_names l) (logon_names l),
    length-map l.privileges held_name,
    few-held 0 l.privileges (omega arith) good.privileges_ascend good.privileges_known,
    length-map (rights_of l.access) right_name,
    filter-few (has_right l.access) logon_rights,
    few-rights,
  ),
  All-append IsText (privilege_names l) (logon_names l)
      (All-map IsText held_name l.privileges (λ k h lt. held-text (privilege_of (get_or l.privileges k h).low)))
      (All-map IsText right_name (rights_of l.access) (λ k right lt. right-text (get_or (rights_of l.access) k right))),
)

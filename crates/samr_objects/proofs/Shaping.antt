-- What the operations answer has the outputs of their layouts.
use Rattle.std.proofs.Common.{◌≡◌, ℕ, ◌+◌, ◌-◌, ◌^◌, ◌<◌, ◌≤◌, nat_le, Bool, true, false, cond}
use Rattle.std.proofs.Common.{All, List, [], ◌∷◌, length, map, drop, Option, Some, None, refl, sym, subst, arith, lit<}
use Rattle.std.specs.Prelude.{min, zero, suc, ◌++◌, get_or}
use Rattle.std.specs.Str.{chars}
use Rattle.std.specs.Cmp.{first_so, second_so}
use Rattle.std.specs.List.{find, list_all, list_any}
use Rattle.std.proofs.lemmas.Bool.Decides.{nat_tests}
use Rattle.std.proofs.lemmas.List.{length-map}
use Rattle.std.proofs.lemmas.List.Elements.{All-nil, All-cons, All-head, All-tail, All-push, All-map, All-drop}
use Rattle.acct_calls.specs.Names.{units_of, is_domain_name, builtin_name, is_valid_name, most_units}
use Rattle.acct_codes.specs.Limits.{most_page, most_domain_subs}
use Rattle.acct_codes.specs.Statuses.{status_success, status_some_not_mapped, status_none_mapped, status_more_entries}
use Rattle.acct_codes.specs.declared.kind.Kind.{Kind}
use Rattle.acct_codes.specs.declared.kind.Kind.TheVariants as kind
use Rattle.acct_layouts.specs.Values.{IsLong, IsText, IsAccount, IfThere, IsListed}
use Rattle.acct_layouts.specs.Refusals.{is_refusal}
use Rattle.acct_rows.specs.Laws.{EachIsGood}
use Rattle.acct_rows.specs.Rows.{Lists, domain_at, account_at, find_name}
use Rattle.acct_tables.specs.Selected.{has_name}
use Rattle.acct_rows.specs.Sound.{IsSoundRows, IsGoodAccount, next_rid_of}
use Rattle.acct_tables.specs.Good.{IsGoodDomain}
use Rattle.acct_tables.specs.declared.row.AccountRow.{AccountRow}
use Rattle.acct_tables.specs.declared.row.DomainRow.{DomainRow}
use Rattle.acct_rules.specs.Planned.{is_mapped, mapped_status, use_of_kind}
use Rattle.acct_rules.specs.Pages.{within, page, page_status, entry_cost}
use Rattle.dtyp_sid.specs.Sids.{with_last, SidValue, IsSid}
use Rattle.samr_objects.specs.Domains.{listed, sid_in, sid_of_rid, is_named, domain_named, use_in, rid_in, name_in}

-- ---- statuses

one-of : (p : ℕ → Type 0) (a b : Bool) → p status_success → p status_some_not_mapped → p status_none_mapped
    → p (cond a status_success (cond b status_some_not_mapped status_none_mapped))
one-of p true b all some none = all
one-of p false true all some none = some
one-of p false false all some none = none

pub mapped-full : (uses : List ℕ) → is_refusal (mapped_status uses) ≡ false
mapped-full uses = one-of (λ s. is_refusal s ≡ false) (list_all is_mapped uses) (list_any is_mapped uses) refl refl refl

pub mapped-long : (uses : List ℕ) → IsLong (mapped_status uses)
mapped-long uses = one-of IsLong (list_all is_mapped uses) (list_any is_mapped uses) (lit< tt) (lit< tt) (lit< tt)

either : (p : ℕ → Type 0) (a : Bool) → p status_more_entries → p status_success
    → p (cond a status_more_entries status_success)
either p true more done = more
either p false more done = done

pub page-full : (more : Bool) → is_refusal (page_status more) ≡ false
page-full more = either (λ s. is_refusal s ≡ false) more refl refl

pub page-long : (more : Bool) → IsLong (page_status more)
page-long more = either IsLong more (lit< tt) (lit< tt)

-- ---- SIDs

pick : (P : DomainRow → Type 0) (b : Bool) (x : DomainRow) (rest : Option DomainRow) → P x → IfThere P rest
    → IfThere P (cond b (Some x) rest)
pick P true x rest here later = here
pick P false x rest here later = later

find-good : (P : DomainRow → Type 0) (p : DomainRow → Bool) (xs : List DomainRow) → All P xs → IfThere P (find p xs)
find-good P p [] all = tt
find-good P p (x ∷ xs) all =
    pick P (p x) x (find p xs) (All-head P x xs all) (find-good P p xs (All-tail P x xs all))

goods : EachIsGood → (r : Lists) → IsSoundRows r → All IsGoodDomain r.domains
goods each r sound = λ k d lt. ((each r sound).domains k d lt).1

named-good : EachIsGood → (r : Lists) (name : Option (List ℕ)) → IsSoundRows r → IfThere IsGoodDomain
    (domain_named r name)
named-good each r None sound = tt
named-good each r (Some name) sound = find-good IsGoodDomain (is_named name) r.domains (goods each r sound)

sid-of : (d : Option DomainRow) → IfThere IsGoodDomain d → IfThere IsSid (sid_in d)
sid-of None good = tt
sid-of (Some d) good = good.sid_whole

pub sid-shaped : EachIsGood → (r : Lists) (name : Option (List ℕ)) → IsSoundRows r
    → IfThere IsSid (sid_in (domain_named r name))
sid-shaped each r name sound = sid-of (domain_named r name) (named-good each r name sound)

longs : (subs : List ℕ) (rid : ℕ) → All IsLong subs → IsLong rid → All IsLong (subs ++ rid ∷ [])
longs subs rid all long = All-push IsLong subs rid all long

counted : (subs : List ℕ) (rid : ℕ) → length (subs ++ rid ∷ []) ≡ length subs + 1
counted [] rid = refl
counted (n ∷ subs) rid = omega (arith, counted subs rid)

with-rid : (few : Bool) (rid : ℕ) (sid : SidValue) → nat_le (length sid.subs) most_domain_subs ≡ few → IsSid sid
    → IsLong rid → IfThere IsSid (cond few (Some (with_last sid rid)) None)
with-rid true rid sid few whole long = record {
  authority_fits = whole.authority_fits;
  count_fits = let few : length sid.subs ≤ most_domain_subs = grind (arith, nat_tests) in
      omega (arith, counted sid.subs rid, few);
  subs_fit = longs sid.subs rid whole.subs_fit long;
}
with-rid false rid sid few whole long = tt

of-rid : (d : Option DomainRow) (rid : ℕ) → IfThere IsGoodDomain d → IsLong rid → IfThere IsSid (sid_of_rid d rid)
of-rid None rid good long = tt
of-rid (Some d) rid good long =
    with-rid (nat_le (length d.sid.subs) most_domain_subs) rid d.sid refl good.sid_whole long

pub at-good : (r : Lists) (n : ℕ) (o : Option DomainRow) → IsSoundRows r → domain_at r n ≡ o → IfThere IsGoodDomain o
at-good r n None sound at = tt
at-good r n (Some d) sound at = sound.domain_rules n d at

pub rid-shaped : (r : Lists) (n rid : ℕ) → IsSoundRows r → IsLong rid → IfThere IsSid (sid_of_rid (domain_at r n) rid)
rid-shaped r n rid sound long = of-rid (domain_at r n) rid (at-good r n (domain_at r n) sound refl) long

-- ---- pages of domains

account-short : (name : List ℕ) → is_domain_name name ≡ true → length name ≤ 15
unfolding is_domain_name
account-short name is =
    let most : nat_le (length name) 15 ≡ true = first_so _ _ (first_so _ _ (first_so _ _ is)) in
    grind (arith, nat_tests)

builtin-short : (name : List ℕ) → name ≡ builtin_name → length name ≤ 15
unfolding chars units_of
builtin-short name is = subst (λ ns. length ns ≤ 15) (sym is) (omega arith)

short-by : (d : DomainRow) → IsGoodDomain d → (n : ℕ) → d.number ≡ n → n ≤ 1 → length d.name ≤ 15
short-by d good zero is most = account-short d.name (good.account_name is)
short-by d good (suc zero) is most = builtin-short d.name (good.builtin_named is)
short-by d good (suc (suc n)) is most = absurd (omega (arith, most))

pub listed-good : (d : DomainRow) → IsGoodDomain d → IsAccount (listed d)
listed-good d good =
    let short : length d.name ≤ 15 = short-by d good d.number refl good.number_most in
    (lit< tt, (omega (arith, short), good.name_units))

either-all : {A : Type 0} (P : A → Type 0) (b : Bool) (x : A) (given : List A) → P x → All P given
    → All P (cond b (x ∷ given) [])
either-all P true x given here rest = All-cons P x given here rest
either-all P false x given here rest = All-nil P

within-all : {A : Type 0} (P : A → Type 0) (cost : A → ℕ) (left : ℕ) (xs : List A) → All P xs
    → All P (within cost left xs)
within-all P cost left [] all = All-nil P
within-all P cost left (x ∷ xs) all =
    either-all P (nat_le (cost x) left) x (within cost (left - cost x) xs) (All-head P x xs all)
    (within-all P cost (left - cost x) xs (All-tail P x xs all))

-- what holds of each entry that is left holds of each of a page
pub page-all : {A : Type 0} (P : A → Type 0) (cost : A → ℕ) (preferred : ℕ) (xs : List A) → All P xs
    → All P (page cost preferred xs)
page-all P cost preferred [] all = All-nil P
page-all P cost preferred (x ∷ xs) all =
    All-cons P x _ (All-head P x xs all)
    (within-all P cost (min preferred most_page - cost x) xs (All-tail P x xs all))

pub page-shaped : EachIsGood → (r : Lists) (context preferred : ℕ) → IsSoundRows r
    → All IsAccount (page entry_cost preferred (map listed (drop context r.domains)))
page-shaped each r context preferred sound =
    page-all IsAccount entry_cost preferred (map listed (drop context r.domains))
    (All-map IsAccount listed (drop context r.domains)
    (All-drop (λ (d : DomainRow). IsAccount (listed d)) context r.domains
    (λ k d lt. listed-good (get_or r.domains k d) (goods each r sound k d lt))))

-- ---- accounts that were looked for

pub next-long : (r : Lists) (n : ℕ) (o : Option DomainRow) → IsSoundRows r → domain_at r n ≡ o → next_rid_of o ≤
    0x3FFFFFFF
next-long r n None sound at = omega arith
next-long r n (Some d) sound at = (sound.domain_rules n d at).next_most

pub account-long : (r : Lists) (a : AccountRow) → IsSoundRows r → IsGoodAccount r a → IsLong a.rid
account-long r a sound good =
    omega (arith, good.below, next-long r a.domain (domain_at r a.domain) sound refl)

rid-long : (r : Lists) (o : Option AccountRow) → IsSoundRows r → IfThere (IsGoodAccount r) o → IsLong (rid_in o)
rid-long r None sound good = lit< tt
rid-long r (Some a) sound good = account-long r a sound good

use-of-long : (k : Kind) → IsLong (use_of_kind k)
use-of-long kind.Server = lit< tt
use-of-long kind.Domain = lit< tt
use-of-long kind.Group = lit< tt
use-of-long kind.Alias = lit< tt
use-of-long kind.User = lit< tt
use-of-long kind.Policy = lit< tt
use-of-long kind.Account = lit< tt

use-long : (o : Option AccountRow) → IsLong (use_in o)
use-long None = lit< tt
use-long (Some a) = use-of-long a.kind

kind-most : (k : Kind) → most_units k ≤ 256
kind-most kind.Server = omega arith
kind-most kind.Domain = omega arith
kind-most kind.Group = omega arith
kind-most kind.Alias = omega arith
kind-most kind.User = omega arith
kind-most kind.Policy = omega arith
kind-most kind.Account = omega arith

name-short : (k : Kind) (name : List ℕ) → is_valid_name k name ≡ true → length name ≤ 256
unfolding is_valid_name
name-short k name is =
    let most : nat_le (length name) (most_units k) ≡ true = second_so _ _ (first_so _ _ is) in
    let few : length name ≤ most_units k = grind (arith, nat_tests) in
    omega (arith, few, kind-most k)

pub name-text : (r : Lists) (o : Option AccountRow) → IfThere (IsGoodAccount r) o → IsText (name_in o)
name-text r None good = (omega arith, All-nil (λ unit. unit < 2 ^ 16))
name-text r (Some a) good =
    (omega (arith, name-short a.kind a.name good.itself.named), good.itself.name_units)

pick-account : (P : AccountRow → Type 0) (b : Bool) (x : AccountRow) (rest : Option AccountRow) → P x → IfThere P rest
    → IfThere P (cond b (Some x) rest)
pick-account P true x rest here later = here
pick-account P false x rest here later = later

find-account : (P : AccountRow → Type 0) (p : AccountRow → Bool) (xs : List AccountRow) → All P xs
    → IfThere P (find p xs)
find-account P p [] all = tt
find-account P p (x ∷ xs) all =
    pick-account P (p x) x (find p xs) (All-head P x xs all) (find-account P p xs (All-tail P x xs all))

pub accounts-good : EachIsGood → (r : Lists) → IsSoundRows r → All (IsGoodAccount r) r.accounts
accounts-good each r sound = λ k a lt. ((each r sound).accounts k a lt).1

name-good : EachIsGood → (r : Lists) (domain : ℕ) (name : List ℕ) → IsSoundRows r
    → IfThere (IsGoodAccount r) (find_name r domain name)
name-good each r domain name sound =
    find-account (IsGoodAccount r) (has_name domain name) r.accounts (accounts-good each r sound)

pub rid-good : (r : Lists) (domain rid : ℕ) (o : Option AccountRow) → IsSoundRows r → account_at r domain rid ≡ o
    → IfThere (IsGoodAccount r) o
rid-good r domain rid None sound at = tt
rid-good r domain rid (Some a) sound at = sound.account_rules domain rid a at

-- lists of what was found, each as long as what was looked for
mapped : {A B C : Type 0} (P : C → Type 0) (f : A → B) (g : B → C) (xs : List A) → ((x : A) → P (g (f x)))
    → All P (map g (map f xs))
mapped P f g xs each =
    All-map P g (map f xs) (All-map (λ y. P (g y)) f xs (λ k d lt. each (get_or xs k d)))

few-mapped : {A B C : Type 0} (f : A → B) (g : B → C) (xs : List A) → length xs ≤ 1000
    → length (map g (map f xs)) < 2 ^ 32
few-mapped f g xs few = omega (arith, length-map (map f xs) g, length-map xs f, few)

pub rids-shaped : EachIsGood → (r : Lists) (domain : ℕ) (names : List (List ℕ)) → IsSoundRows r → length names ≤ 1000
    → IsListed IsLong (map rid_in (map (find_name r domain) names))
rids-shaped each r domain names sound few = (
  few-mapped (find_name r domain) rid_in names few,
  mapped IsLong (find_name r domain) rid_in names (λ name. rid-long r _ sound (name-good each r domain name sound)),
)

pub uses-shaped : {A : Type 0} (f : A → Option AccountRow) (xs : List A) → length xs ≤ 1000
    → IsListed IsLong (map use_in (map f xs))
uses-shaped f xs few = (few-mapped f use_in xs few, mapped IsLong f use_in xs (λ x. use-long (f x)))

pub names-shaped : (r : Lists) (domain : ℕ) (rids : List ℕ) → IsSoundRows r → length rids ≤ 1000
    → IsListed IsText (map name_in (map (account_at r domain) rids))
names-shaped r domain rids sound few = (
  few-mapped (account_at r domain) name_in rids few,
  mapped IsText (account_at r domain) name_in rids (λ rid. name-text r (account_at r domain rid)
      (rid-good r domain rid (account_at r domain rid) sound refl)),
)

-- What the operations answer has the outputs of their layouts.
use Rattle.std.proofs.Common.{◌≡◌, ℕ, pos, ◌+◌, ◌^◌, ◌<◌, ◌≤◌, Bool, true, false, cond, All, List, [], ◌∷◌, length}
use Rattle.std.proofs.Common.{nat_le, map, get_or, take, drop, Option, Some, None, refl, arith, lit<}
use Rattle.std.specs.Prelude.{position, FitsSigned}
use Rattle.std.specs.Int.{w32}
use Rattle.std.proofs.lemmas.Int.{ints}
use Rattle.std.specs.List.{find, list_all, list_any}
use Rattle.std.specs.Option.{option_map, option_or, option_and_then}
use Rattle.std.proofs.lemmas.Bool.Decides.{nat_tests}
use Rattle.std.proofs.lemmas.List.{length-append, length-map}
use Rattle.std.proofs.lemmas.List.Elements.{All-head, All-tail, All-map, All-nil, All-cons, All-push}
use Rattle.std.proofs.lemmas.List.Quantifiers.{position-Some}
use Rattle.acct_codes.specs.Statuses.{status_success, status_some_not_mapped, status_none_mapped}
use Rattle.acct_codes.specs.declared.kind.Kind.{Kind}
use Rattle.acct_codes.specs.declared.kind.Kind.TheVariants as kind
use Rattle.acct_layouts.specs.Values.{IsLong, IsText, IsDomain, IsListed, IsTranslatedSid, IsTranslatedName, IsSidRef}
use Rattle.acct_layouts.specs.Values.{IfThere}
use Rattle.acct_layouts.specs.Refusals.{is_refusal}
use Rattle.acct_rows.specs.Laws.{EachIsGood}
use Rattle.acct_rows.specs.Rows.{Lists, domain_at, find_name}
use Rattle.acct_tables.specs.Selected.{has_name}
use Rattle.acct_rows.specs.Sound.{IsSoundRows, IsGoodAccount, next_rid_of}
use Rattle.acct_tables.specs.declared.row.AccountRow.{AccountRow}
use Rattle.acct_tables.specs.declared.row.DomainRow.{DomainRow}
use Rattle.acct_rules.specs.Planned.{is_mapped, mapped_status, use_of_kind}
use Rattle.dtyp_sid.specs.Sids.{with_last, SidValue, IsSid}
use Rattle.lsat_translate.specs.Translations.{referenced, known_in, place_of, index_of, index_in, translated_sid}
use Rattle.lsat_translate.specs.Translations.{sid_ref, named_entry, shown_name, mapped_count}
use Rattle.lsat_translate.specs.Known.{row_sid, domain_sid, same_known, well_known_sid}
use Rattle.lsat_translate.specs.Matches.{account_match, known_of_number, known_of, use_in, rid_in, sid_in}
use Rattle.lsat_translate.specs.Lookups.{is_never_mapped, is_backslash, account_named, domain_named, well_known_named}
use Rattle.lsat_translate.specs.Lookups.{is_authority_named, match_alone, match_in, match_behind, match_split}
use Rattle.lsat_translate.specs.Lookups.{match_of_name, match_of_sid}
use Rattle.lsat_translate.specs.Known.{all_well_known}
use Rattle.lsat_translate.specs.declared.known.Known.{Known}
use Rattle.lsat_translate.specs.declared.known.Known.TheVariants as known
use Rattle.lsat_translate.specs.declared.known.WellKnown.{WellKnown}
use Rattle.lsat_translate.specs.declared.known.WellKnown.TheVariants.{Everyone, AnonymousLogon, AuthenticatedUsers}
use Rattle.lsat_translate.specs.declared.known.WellKnown.TheVariants.{System}
use Rattle.lsat_translate.specs.declared.matches.Match.{Match}
use Rattle.lsat_translate.specs.declared.matches.Match.TheVariants as matches
use Rattle.lsat_translate.proofs.Firsts.{four-at-most}
use Rattle.lsat_translate.proofs.Naming.{domain-text, match-text, sid-text}

-- ---- statuses

one-of : (p : ℕ → Type 0) (a b : Bool) → p status_success → p status_some_not_mapped → p status_none_mapped
    → p (cond a status_success (cond b status_some_not_mapped status_none_mapped))
one-of p true b all some none = all
one-of p false true all some none = some
one-of p false false all some none = none

pub mapped-full : (uses : List ℕ) → is_refusal (mapped_status uses) ≡ false
mapped-full uses = one-of (λ s. is_refusal s ≡ false) (list_all is_mapped uses) (list_any is_mapped uses) refl refl refl

pub mapped-long : (uses : List ℕ) → IsLong (mapped_status uses)
mapped-long uses = one-of IsLong (list_all is_mapped uses) (list_any is_mapped uses) (lit< tt) (lit< tt) (lit< tt)

pub count-long : (found : List (Option Match)) → IsLong (mapped_count found)
count-long found = omega arith

-- ---- domains

authority-alone : (authority : ℕ) → authority < 2 ^ 48 → IsSid (record { authority = authority; subs = [] })
authority-alone authority fits = record {
  authority_fits = fits;
  count_fits = omega arith;
  subs_fit = All-nil (λ sub. sub < 2 ^ 32);
}

row-whole : (r : Lists) (o : Option DomainRow) → IsSoundRows r → domain_at r 0 ≡ o → IsSid (row_sid o)
row-whole r None sound at = authority-alone 0 (lit< tt)
row-whole r (Some d) sound at = (sound.domain_rules 0 d at).sid_whole

one-sub : (authority sub : ℕ) → authority < 2 ^ 48 → sub < 2 ^ 32
    → IsSid (record { authority = authority; subs = sub ∷ [] })
one-sub authority sub fits below = record {
  authority_fits = fits;
  count_fits = omega arith;
  subs_fit = All-cons (λ sub. sub < 2 ^ 32) sub [] below (All-nil (λ sub. sub < 2 ^ 32));
}

domain-whole : (r : Lists) (k : Known) → IsSoundRows r → IsSid (domain_sid r k)
domain-whole r known.Account sound = row-whole r (domain_at r 0) sound refl
domain-whole r known.Builtin sound = one-sub 5 32 (lit< tt) (lit< tt)
domain-whole r known.NtAuthority sound = authority-alone 5 (lit< tt)
domain-whole r known.World sound = authority-alone 1 (lit< tt)

place-shaped : EachIsGood → (r : Lists) (k : Known) → IsSoundRows r → IsDomain (place_of r k)
place-shaped each r k sound = (domain-text each r k sound, domain-whole r k sound)

pub places-shaped : EachIsGood → (r : Lists) (found : List (Option Match)) → IsSoundRows r
    → IsListed IsDomain (map (place_of r) (referenced found))
places-shaped each r found sound = (
  omega (arith, length-map (referenced found) (place_of r), four-at-most (known_in found)),
  All-map IsDomain (place_of r) (referenced found)
      (λ k d lt. place-shaped each r (get_or (referenced found) k d) sound),
)

-- ---- indexes and uses

place-fits : (place : ℕ) → place < 4 → FitsSigned w32 (pos place)
place-fits place few = omega (arith, ints)

index-fits : (p : Known → Bool) (ks : List Known) (o : Option ℕ) → length ks ≤ 4 → position p ks ≡ o
    → FitsSigned w32 (index_of o)
index-fits p ks None few at = omega (arith, ints)
index-fits p ks (Some place) few at =
    let within : place < length ks = (position-Some p ks place known.World at).0 in
    place-fits place (omega (arith, within, few))

index-shaped : (ks : List Known) (m : Option Match) → length ks ≤ 4 → FitsSigned w32 (index_in ks m)
index-shaped ks None few = omega (arith, ints)
index-shaped ks (Some m) few =
    index-fits (same_known (known_of m)) ks (position (same_known (known_of m)) ks) few refl

kind-short : (k : Kind) → use_of_kind k < 2 ^ 16
kind-short kind.Server = lit< tt
kind-short kind.Domain = lit< tt
kind-short kind.Group = lit< tt
kind-short kind.Alias = lit< tt
kind-short kind.User = lit< tt
kind-short kind.Policy = lit< tt
kind-short kind.Account = lit< tt

use-short : (m : Option Match) → use_in m < 2 ^ 16
use-short None = lit< tt
use-short (Some (matches.WellKnown w)) = lit< tt
use-short (Some (matches.Domain k)) = lit< tt
use-short (Some (matches.Account number rid k)) = kind-short k

-- ---- RIDs

next-long : (r : Lists) (n : ℕ) (o : Option DomainRow) → IsSoundRows r → domain_at r n ≡ o → next_rid_of o ≤ 0x3FFFFFFF
next-long r n None sound at = omega arith
next-long r n (Some d) sound at = (sound.domain_rules n d at).next_most

account-long : (r : Lists) (a : AccountRow) → IsSoundRows r → IsGoodAccount r a → IsLong a.rid
account-long r a sound good =
    omega (arith, good.below, next-long r a.domain (domain_at r a.domain) sound refl)

pick : (P : AccountRow → Type 0) (b : Bool) (x : AccountRow) (rest : Option AccountRow) → P x → IfThere P rest
    → IfThere P (cond b (Some x) rest)
pick P true x rest here later = here
pick P false x rest here later = later

pub find-account : (P : AccountRow → Type 0) (p : AccountRow → Bool) (xs : List AccountRow) → All P xs
    → IfThere P (find p xs)
find-account P p [] all = tt
find-account P p (x ∷ xs) all =
    pick P (p x) x (find p xs) (All-head P x xs all) (find-account P p xs (All-tail P x xs all))

name-good : EachIsGood → (r : Lists) (number : ℕ) (name : List ℕ) → IsSoundRows r
    → IfThere (IsGoodAccount r) (find_name r number name)
name-good each r number name sound =
    find-account (IsGoodAccount r) (has_name number name) r.accounts (λ k a lt. ((each r sound).accounts k a lt).1)

abbrev Long : Option Match → Type 0
Long m = IsLong (rid_in m)

or-long : (a b : Option Match) → Long a → Long b → Long (option_or a b)
or-long None b first second = second
or-long (Some m) b first second = first

known-long : (o : Option WellKnown) → Long (option_map matches.WellKnown o)
known-long None = lit< tt
known-long (Some Everyone) = lit< tt
known-long (Some AnonymousLogon) = lit< tt
known-long (Some AuthenticatedUsers) = lit< tt
known-long (Some System) = lit< tt

domain-long : (o : Option Known) → Long (option_map matches.Domain o)
domain-long None = lit< tt
domain-long (Some k) = lit< tt

found-long : (r : Lists) (o : Option AccountRow) → IsSoundRows r → IfThere (IsGoodAccount r) o
    → Long (option_map account_match o)
found-long r None sound good = lit< tt
found-long r (Some a) sound good = account-long r a sound good

named-long : EachIsGood → (r : Lists) (number : ℕ) (name : List ℕ) → IsSoundRows r → Long (account_named r number name)
named-long each r number name sound =
    found-long r (find_name r number name) sound (name-good each r number name sound)

alone-long : EachIsGood → (r : Lists) (name : List ℕ) → IsSoundRows r → Long (match_alone r name)
alone-long each r name sound =
    or-long (option_map matches.WellKnown (well_known_named name)) _ (known-long (well_known_named name))
    (or-long (option_map matches.Domain (domain_named r name)) _ (domain-long (domain_named r name))
    (or-long (account_named r 0 name) (account_named r 1 name) (named-long each r 0 name sound)
    (named-long each r 1 name sound)))

in-long : EachIsGood → (r : Lists) (name : List ℕ) (k : Known) → IsSoundRows r → Long (match_in r name k)
in-long each r name known.Account sound = named-long each r 0 name sound
in-long each r name known.Builtin sound = named-long each r 1 name sound
in-long each r name known.NtAuthority sound = known-long (find (is_authority_named name) all_well_known)
in-long each r name known.World sound = lit< tt

behind-long : EachIsGood → (r : Lists) (name : List ℕ) (k : Known) → IsSoundRows r → Long (match_behind r name k)
behind-long each r [] k sound = lit< tt
behind-long each r (u ∷ us) k sound = in-long each r (u ∷ us) k sound

then-long : EachIsGood → (r : Lists) (name : List ℕ) (o : Option Known) → IsSoundRows r
    → Long (option_and_then (match_behind r name) o)
then-long each r name None sound = lit< tt
then-long each r name (Some k) sound = behind-long each r name k sound

split-long : EachIsGood → (r : Lists) (name : List ℕ) (o : Option ℕ) → IsSoundRows r → Long (match_split r name o)
split-long each r name None sound = alone-long each r name sound
split-long each r name (Some place) sound =
    then-long each r (drop (place + 1) name) (domain_named r (take place name)) sound

either-long : (b : Bool) (m : Option Match) → Long m → Long (cond b None m)
either-long true m long = lit< tt
either-long false m long = long

name-long : EachIsGood → (r : Lists) (name : List ℕ) → IsSoundRows r → Long (match_of_name r name)
name-long each r name sound =
    either-long (is_never_mapped name) (match_split r name (position is_backslash name))
    (split-long each r name (position is_backslash name) sound)

-- ---- SIDs

well-known-whole : (w : WellKnown) → IsSid (well_known_sid w)
well-known-whole Everyone = one-sub 1 0 (lit< tt) (lit< tt)
well-known-whole AnonymousLogon = one-sub 5 7 (lit< tt) (lit< tt)
well-known-whole AuthenticatedUsers = one-sub 5 11 (lit< tt) (lit< tt)
well-known-whole System = one-sub 5 18 (lit< tt) (lit< tt)

with-whole : (sid : SidValue) (rid : ℕ) (b : Bool) → nat_le (length sid.subs) 14 ≡ b → IsSid sid → IsLong rid
    → IfThere IsSid (cond b (Some (with_last sid rid)) None)
with-whole sid rid true room whole long = record {
  authority_fits = whole.authority_fits;
  count_fits =
      let few : length sid.subs ≤ 14 = grind (arith, nat_tests) in
      omega (arith, few, length-append sid.subs (rid ∷ []));
  subs_fit = All-push (λ sub. sub < 2 ^ 32) sid.subs rid whole.subs_fit long;
}
with-whole sid rid false room whole long = tt

match-whole : (r : Lists) (m : Option Match) → IsSoundRows r → Long m → IfThere IsSid (sid_in r m)
match-whole r None sound long = tt
match-whole r (Some (matches.WellKnown w)) sound long = well-known-whole w
match-whole r (Some (matches.Domain k)) sound long = domain-whole r k sound
match-whole r (Some (matches.Account number rid k)) sound long =
    let domain = domain_sid r (known_of_number number) in
    with-whole domain rid (nat_le (length domain.subs) 14) refl (domain-whole r (known_of_number number) sound) long

-- ---- entries

pub sids-shaped : EachIsGood → (r : Lists) (names : List (List ℕ)) → IsSoundRows r → length names ≤ 1000
    → IsListed IsTranslatedSid (map (translated_sid (referenced (map (match_of_name r) names)))
    (map (match_of_name r) names))
sids-shaped each r names sound few =
    let found = map (match_of_name r) names in
    let ks = referenced found in (
      omega (arith, length-map found (translated_sid ks), length-map names (match_of_name r), few),
      All-map IsTranslatedSid (translated_sid ks) found
          (All-map (λ (m : Option Match). IsTranslatedSid (translated_sid ks m)) (match_of_name r) names
          (λ k d lt. let name = get_or names k d in (
            use-short (match_of_name r name),
            name-long each r name sound,
            index-shaped ks (match_of_name r name) (four-at-most (known_in found)),
          ))),
    )

pub refs-shaped : EachIsGood → (r : Lists) (names : List (List ℕ)) → IsSoundRows r → length names ≤ 1000
    → IsListed IsSidRef (map (sid_ref r (referenced (map (match_of_name r) names)))
    (map (match_of_name r) names))
refs-shaped each r names sound few =
    let found = map (match_of_name r) names in
    let ks = referenced found in (
      omega (arith, length-map found (sid_ref r ks), length-map names (match_of_name r), few),
      All-map IsSidRef (sid_ref r ks) found
          (All-map (λ (m : Option Match). IsSidRef (sid_ref r ks m)) (match_of_name r) names
          (λ k d lt. let name = get_or names k d in (
            use-short (match_of_name r name),
            match-whole r (match_of_name r name) sound (name-long each r name sound),
            index-shaped ks (match_of_name r name) (four-at-most (known_in found)),
          ))),
    )

shown-text : EachIsGood → (r : Lists) (sid : SidValue) (m : Option Match) → IsSoundRows r → IsSid sid
    → IsText (shown_name r sid m)
shown-text each r sid None sound whole = sid-text sid whole
shown-text each r sid (Some m) sound whole = match-text each r m sound

pub names-shaped : EachIsGood → (r : Lists) (sids : List SidValue) → IsSoundRows r → length sids ≤ 20480
    → All IsSid sids
    → IsListed IsTranslatedName (map (named_entry r (referenced (map (match_of_sid r) sids))) sids)
names-shaped each r sids sound few whole =
    let found = map (match_of_sid r) sids in
    let ks = referenced found in (
      omega (arith, length-map sids (named_entry r ks), few),
      All-map IsTranslatedName (named_entry r ks) sids
          (λ k d lt. let sid = get_or sids k d in (
            use-short (match_of_sid r sid),
            shown-text each r sid (match_of_sid r sid) sound (whole k d lt),
            index-shaped ks (match_of_sid r sid) (four-at-most (known_in found)),
          )),
    )

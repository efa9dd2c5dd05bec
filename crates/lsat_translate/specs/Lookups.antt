-- What a name is translated to, and what a SID is.
use Rattle.std.specs.Prelude.{ℕ, ◌+◌, ◌==◌, Bool, ◌&&◌, ◌||◌, List, [], ◌∷◌, length, take, drop, position, Option, Some}
use Rattle.std.specs.Prelude.{None, if◌then◌else◌, ◌-◌, nat_lt, get_or}
use Rattle.std.specs.List.{find, list_any}
use Rattle.std.specs.Option.{option_or, option_map, option_and_then}
use Rattle.dtyp_sid.specs.Sids.{sid_eq, SidValue}
use Rattle.acct_calls.specs.Names.{is_same}
use Rattle.acct_rows.specs.Rows.{Lists, find_name, account_at}
use Rattle.acct_tables.specs.Keys.{account_domain, builtin_domain}
use Rattle.lsat_translate.specs.Known.{all_well_known, well_known_name, home_of, same_known, named_domains, domain_name}
use Rattle.lsat_translate.specs.Known.{well_known_sid, domain_sid}
use Rattle.lsat_translate.specs.Matches.{account_match}
use Rattle.lsat_translate.specs.declared.known.Known.{Known}
use Rattle.lsat_translate.specs.declared.known.Known.TheVariants as known
use Rattle.lsat_translate.specs.declared.known.WellKnown.{WellKnown}
use Rattle.lsat_translate.specs.declared.matches.Match.{Match}
use Rattle.lsat_translate.specs.declared.matches.Match.TheVariants as matches

-- ======== what a name is translated to (MS-LSAT 3.1.4.5)

-- ---- what has a name: names are one where they are so after simple case folding

abbrev pub is_well_known_named : List ℕ → WellKnown → Bool
is_well_known_named name w = is_same (well_known_name w) name

abbrev pub well_known_named : List ℕ → Option WellKnown
well_known_named name = find (is_well_known_named name) all_well_known

abbrev pub is_domain_named : Lists → List ℕ → Known → Bool
is_domain_named r name k = is_same (domain_name r k) name

abbrev pub domain_named : Lists → List ℕ → Option Known
domain_named r name = find (is_domain_named r name) named_domains

abbrev pub account_named : Lists → ℕ → List ℕ → Option Match
account_named r number name = option_map account_match (find_name r number name)

-- ---- a name that stands alone

-- the first among the well-known names, the named domains, the accounts of the account domain, and those of BUILTIN
abbrev pub match_alone : Lists → List ℕ → Option Match
match_alone r name =
    option_or (option_map matches.WellKnown (well_known_named name))
    (option_or (option_map matches.Domain (domain_named r name))
    (option_or (account_named r account_domain name) (account_named r builtin_domain name)))

-- ---- a name after that of a domain

abbrev pub is_authority_named : List ℕ → WellKnown → Bool
is_authority_named name w = same_known (home_of w) known.NtAuthority && is_well_known_named name w

-- an account or a well-known name of the domain
abbrev pub match_in : Lists → List ℕ → Known → Option Match
match_in r name known.Account = account_named r account_domain name
match_in r name known.Builtin = account_named r builtin_domain name
match_in r name known.NtAuthority = option_map matches.WellKnown (find (is_authority_named name) all_well_known)
match_in r name known.World = None

-- the domain itself, where no name stands after it
abbrev pub match_behind : Lists → List ℕ → Known → Option Match
match_behind r [] k = Some (matches.Domain k)
match_behind r (u ∷ us) k = match_in r (u ∷ us) k

-- ---- a name

abbrev pub backslash : ℕ
backslash = 0x5C

abbrev pub is_backslash : ℕ → Bool
is_backslash unit = unit == backslash

abbrev pub at_sign : ℕ
at_sign = 0x40

abbrev pub is_at_sign : ℕ → Bool
is_at_sign unit = unit == at_sign

-- the empty name, and a name of a user principal, are never mapped
abbrev pub is_never_mapped : List ℕ → Bool
is_never_mapped name = (length name == 0) || list_any is_at_sign name

-- it is split at its first backslash
abbrev pub match_split : Lists → List ℕ → Option ℕ → Option Match
match_split r name None = match_alone r name
match_split r name (Some place) =
    option_and_then (match_behind r (drop (place + 1) name)) (domain_named r (take place name))

abbrev pub match_of_name : Lists → List ℕ → Option Match
match_of_name r name =
    if is_never_mapped name then None else match_split r name (position is_backslash name)

-- ======== what a SID is translated to (MS-LSAT 3.1.4.9)

abbrev pub is_well_known_sid : SidValue → WellKnown → Bool
is_well_known_sid sid w = sid_eq (well_known_sid w) sid

abbrev pub well_known_of_sid : SidValue → Option WellKnown
well_known_of_sid sid = find (is_well_known_sid sid) all_well_known

abbrev pub has_domain_sid : Lists → SidValue → Known → Bool
has_domain_sid r sid k = sid_eq (domain_sid r k) sid

abbrev pub domain_of_sid : Lists → SidValue → Option Known
domain_of_sid r sid = find (has_domain_sid r sid) named_domains

-- ---- accounts

-- the SID without its last sub-authority, and that one, which is the RID of an account of a domain with that SID
abbrev pub front_of : SidValue → SidValue
front_of sid = record { authority = sid.authority; subs = take (length sid.subs - 1) sid.subs }

abbrev pub last_of : SidValue → ℕ
last_of sid = get_or sid.subs (length sid.subs - 1) 0

-- it is the domain's SID followed by a RID
abbrev pub is_behind : SidValue → SidValue → Bool
is_behind domain sid = nat_lt 0 (length sid.subs) && sid_eq (front_of sid) domain

-- the account of a domain of the rows, by the domain's number and SID
abbrev pub account_of_sid : Lists → ℕ → SidValue → SidValue → Option Match
account_of_sid r number domain sid =
    if is_behind domain sid then option_map account_match (account_at r number (last_of sid)) else None

-- ---- a SID

-- the first among the well-known SIDs, those of the named domains, and those of the accounts of the two domains
abbrev pub match_of_sid : Lists → SidValue → Option Match
match_of_sid r sid =
    option_or (option_map matches.WellKnown (well_known_of_sid sid))
    (option_or (option_map matches.Domain (domain_of_sid r sid))
    (option_or (account_of_sid r account_domain (domain_sid r known.Account) sid)
    (account_of_sid r builtin_domain (domain_sid r known.Builtin) sid)))

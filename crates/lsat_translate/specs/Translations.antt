-- The operations that translate names and SIDs, and what they answer.
use Rattle.std.specs.Prelude.{ℕ, ℤ, pos, negsuc, ◌-◌, ◌^◌, min, not, List, [], ◌∷◌, ◌++◌, filter, filter_map, position}
use Rattle.std.specs.Prelude.{count_by, Option, Some, None, is_some, if◌then◌else◌, Bool, ◌&&◌, nat_le, map}
use Rattle.std.specs.List.{list_any}
use Rattle.std.specs.Option.{option_map}
use Rattle.acct_codes.specs.Accounts.{lsap_lookup_wksta, lsap_lookup_rodc_referral_to_full_dc}
use Rattle.acct_codes.specs.Statuses.{status_invalid_parameter}
use Rattle.dtyp_sid.specs.Text.{text_of}
use Rattle.dtyp_sid.specs.Sids.{SidValue}
use Rattle.acct_calls.specs.Names.{name_of_text}
use Rattle.acct_calls.specs.declared.calls.Args.{Args}
use Rattle.acct_calls.specs.declared.calls.Args.TheVariants as args
use Rattle.acct_calls.specs.declared.lists.ReferencedDomain.{ReferencedDomain}
use Rattle.acct_calls.specs.declared.lists.SidRef.{SidRef}
use Rattle.acct_calls.specs.declared.lists.TranslatedName.{TranslatedName}
use Rattle.acct_calls.specs.declared.lists.TranslatedSid.{TranslatedSid}
use Rattle.acct_calls.specs.declared.replies.Outs.{Outs}
use Rattle.acct_calls.specs.declared.replies.Outs.TheVariants as outs
use Rattle.acct_rows.specs.Rows.{Lists}
use Rattle.acct_tables.specs.declared.object.Object.{Object}
use Rattle.acct_rules.specs.Planned.{mapped_status, Ruled, when, answers}
use Rattle.lsat_translate.specs.Known.{same_known, domain_name, domain_sid}
use Rattle.lsat_translate.specs.Matches.{known_of, use_in, rid_in, sid_in, name_of}
use Rattle.lsat_translate.specs.Lookups.{match_of_name, match_of_sid}
use Rattle.lsat_translate.specs.declared.known.Known.{Known}
use Rattle.lsat_translate.specs.declared.matches.Match.{Match}
use Rattle.lsat_translate.specs.declared.translations.Form.{Form}
use Rattle.lsat_translate.specs.declared.translations.Form.TheVariants as form

-- ======== what a translation answers: the domains that it refers to, and an entry for each name or SID (MS-LSAT
-- 2.2.14, 2.2.19, 2.2.25)

-- ---- the domains

-- each once, where it first stands
abbrev pub each_first : List Known → List Known
each_first [] = []
each_first (k ∷ ks) = k ∷ filter (λ j. not (same_known k j)) (each_first ks)

-- the domains that some matches refer to
abbrev pub known_in : List (Option Match) → List Known
known_in found = filter_map (option_map known_of) found

abbrev pub referenced : List (Option Match) → List Known
referenced found = each_first (known_in found)

-- a list of domains with that of one more match, if it isn't there
abbrev pub with_domain : Option Match → List Known → List Known
with_domain None domains = domains
with_domain (Some m) domains =
    if list_any (same_known (known_of m)) domains then domains else domains ++ known_of m ∷ []

abbrev pub place_of : Lists → Known → ReferencedDomain
place_of r k = record { name = domain_name r k; sid = domain_sid r k }

-- ---- the entries

-- the index of its domain; -1 where it isn't mapped
abbrev pub index_of : Option ℕ → ℤ
index_of None = negsuc 0
index_of (Some place) = pos place

abbrev pub index_in : List Known → Option Match → ℤ
index_in domains None = negsuc 0
index_in domains (Some m) = index_of (position (same_known (known_of m)) domains)

-- a name's entry, with the RID of its match
abbrev pub translated_sid : List Known → Option Match → TranslatedSid
translated_sid domains found = record {
  usage = use_in found;
  rid = rid_in found;
  index = index_in domains found;
}

-- a name's entry, with the SID of its match
abbrev pub sid_ref : Lists → List Known → Option Match → SidRef
sid_ref r domains found = record {
  usage = use_in found;
  sid = sid_in r found;
  index = index_in domains found;
}

-- the name of a SID: its text where it isn't mapped
abbrev pub shown_name : Lists → SidValue → Option Match → List ℕ
shown_name r sid None = name_of_text (text_of sid)
shown_name r sid (Some m) = name_of r m

-- a SID's entry, by its match
abbrev pub translated_name : Lists → List Known → SidValue → Option Match → TranslatedName
translated_name r domains sid found = record {
  usage = use_in found;
  name = shown_name r sid found;
  index = index_in domains found;
}

-- a SID's entry
abbrev pub named_entry : Lists → List Known → SidValue → TranslatedName
named_entry r domains sid = translated_name r domains sid (match_of_sid r sid)

-- how many are mapped; the count stands still at the most of 32 bits
abbrev pub mapped_count : List (Option Match) → ℕ
mapped_count found = min (count_by is_some found) (2 ^ 32 - 1)

-- ======== the operations that translate names and SIDs

-- ---- what is brought

-- the level of the look-up; 0, which is none, where there is none
abbrev pub asked_level : Args → ℕ
asked_level (args.LookNames level names) = level
asked_level (args.LookSids level sids) = level
asked_level _ = 0

-- the names and the SIDs that are to be translated
abbrev pub asked_names : Args → List (List ℕ)
asked_names (args.LookNames level names) = names
asked_names _ = []

abbrev pub asked_sids : Args → List SidValue
asked_sids (args.LookSids level sids) = sids
asked_sids _ = []

-- LSAP_LOOKUP_LEVEL (MS-LSAT 2.2.16): where it would be looked up; here every level looks into the rows alone
abbrev pub is_level : ℕ → Bool
is_level level = nat_le lsap_lookup_wksta level && nat_le level lsap_lookup_rodc_referral_to_full_dc

-- ---- what is shown of the matches, beside the domains that they refer to

-- of those of names, each by its RID or by its SID
abbrev pub names_shown : Form → Lists → List (Option Match) → Outs
names_shown form.Rid r found =
    let domains = referenced found in
    outs.Sids (map (place_of r) domains) (map (translated_sid domains) found) (mapped_count found)
names_shown form.Sid r found =
    let domains = referenced found in
    outs.SidRefs (map (place_of r) domains) (map (sid_ref r domains) found) (mapped_count found)

-- of those of SIDs, each by its name
abbrev pub sids_shown : Lists → List SidValue → List (Option Match) → Outs
sids_shown r sids found =
    let domains = referenced found in
    outs.Names (map (place_of r) domains) (map (named_entry r domains) sids) (mapped_count found)

-- ---- the operations

-- the status tells whether all, some or none of the matches are there
abbrev pub translated : Args → List (Option Match) → Outs → Ruled
translated asked found shown = record {
  conditions = when (not (is_level (asked_level asked))) status_invalid_parameter ∷ [];
  planned = answers (mapped_status (map use_in found)) shown;
}

abbrev pub names_translated : Form → Lists → Args → Ruled
names_translated f r asked =
    let found = map (match_of_name r) (asked_names asked) in translated asked found (names_shown f r found)

abbrev pub sids_translated : Lists → Args → Ruled
sids_translated r asked =
    let sids = asked_sids asked in
    let found = map (match_of_sid r) sids in translated asked found (sids_shown r sids found)

-- LsarLookupNames (MS-LSAT 3.1.4.8)
abbrev pub look_names : Lists → Object → Args → Ruled
look_names r object asked = names_translated form.Rid r asked

-- LsarLookupNames2 (MS-LSAT 3.1.4.7)
abbrev pub look_names2 : Lists → Object → Args → Ruled
look_names2 r object asked = names_translated form.Rid r asked

-- LsarLookupNames3 (MS-LSAT 3.1.4.6)
abbrev pub look_names3 : Lists → Object → Args → Ruled
look_names3 r object asked = names_translated form.Sid r asked

-- LsarLookupSids (MS-LSAT 3.1.4.11)
abbrev pub look_sids : Lists → Object → Args → Ruled
look_sids r object asked = sids_translated r asked

-- LsarLookupSids2 (MS-LSAT 3.1.4.10)
abbrev pub look_sids2 : Lists → Object → Args → Ruled
look_sids2 r object asked = sids_translated r asked

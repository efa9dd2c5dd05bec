-- What holds of each operation, what the indexes of entries refer to, and what the SIDs of names are
-- translated back to.
use Rattle.std.specs.Prelude.{◌≡◌, ◌≢◌, ◌≤◌, ℕ, pos, true, List, length, filter, get_or, slice_get, Option, Some, None}
use Rattle.std.specs.Option.{option_and_then}
use Rattle.acct_calls.specs.Names.{builtin_sid}
use Rattle.acct_calls.specs.declared.calls.Args.{Args}
use Rattle.acct_calls.specs.declared.lists.ReferencedDomain.{ReferencedDomain}
use Rattle.acct_calls.specs.declared.lists.SidRef.{SidRef}
use Rattle.acct_calls.specs.declared.replies.Outs.{Outs}
use Rattle.acct_calls.specs.declared.replies.Outs.TheVariants as outs
use Rattle.acct_rows.specs.Rows.{Lists}
use Rattle.acct_rows.specs.Sound.{IsSoundRows}
use Rattle.acct_tables.specs.declared.object.Object.{Object}
use Rattle.acct_rules.specs.Planned.{is_mapped}
use Rattle.acct_rules.specs.Operations.{IsRight, KeepsRows}
use Rattle.acct_rules.specs.Profiles.{Operation}
use Rattle.dtyp_sid.specs.Sids.{with_last, SidValue}
use Rattle.lsat_translate.specs.Translations.{referenced, place_of, index_in, look_names3}
use Rattle.lsat_translate.specs.Known.{domain_sid, same_known}
use Rattle.lsat_translate.specs.Matches.{known_of, use_of, sid_of}
use Rattle.lsat_translate.specs.Lookups.{match_of_name, well_known_of_sid, match_of_sid}
use Rattle.lsat_translate.specs.Table.{lookup_names, lookup_names2, lookup_names3, lookup_sids, lookup_sids2}
use Rattle.lsat_translate.specs.declared.known.Known.{Known}
use Rattle.lsat_translate.specs.declared.known.Known.TheVariants as known
use Rattle.lsat_translate.specs.declared.matches.Match.{Match}

-- what holds of each operation
pub record Each (P : Operation → Type 0) : Type 0 where
  pub look_names : P lookup_names
  pub look_names2 : P lookup_names2
  pub look_names3 : P lookup_names3
  pub look_sids : P lookup_sids
  pub look_sids2 : P lookup_sids2

abbrev pub AreRight : Type 0
AreRight = Each IsRight

abbrev pub KeepRows : Type 0
KeepRows = Each KeepsRows

-- ---- the domains that are referred to

-- No domain stands twice, and the index of a match is the place of its domain.
pub record RefersRightly (found : List (Option Match)) : Type 0 where
  pub once : (k : Known) → length (filter (same_known k) (referenced found)) ≤ 1
  pub indexes : (i : ℕ) (m : Match) → get_or found i None ≡ Some m → (place : ℕ)
      × (index_in (referenced found) (Some m) ≡ pos place) × (slice_get (referenced found) place ≡ Some (known_of m))

-- so it is with each list of matches
abbrev pub EntriesReferRightly : Type 0
EntriesReferRightly = (found : List (Option Match)) → RefersRightly found

-- ---- names and SIDs

-- the account domain's SID hides no other: it is no well-known SID, and not that of an account of BUILTIN
pub record HidesNone (r : Lists) : Type 0 where
  pub no_well_known : well_known_of_sid (domain_sid r known.Account) ≡ None
  pub no_alias : (rid : ℕ) → domain_sid r known.Account ≢ with_last builtin_sid rid

-- there, what a name is translated to has a SID, which is translated to the same
abbrev pub SidsTranslateBack : Type 0
SidsTranslateBack =
    (r : Lists) (name : List ℕ) (m : Match) → IsSoundRows r → HidesNone r → match_of_name r name ≡ Some m
    → option_and_then (match_of_sid r) (sid_of r m) ≡ Some m

-- ---- entries with SIDs

-- The entry has a SID, which is translated to what has the entry's use, and refers to the domain at the entry's index.
pub record EntryTranslatesBack (r : Lists) (domains : List ReferencedDomain) (entry : SidRef) : Type 0 where
  pub sid : SidValue
  pub found : Match
  pub place : ℕ
  pub shown : entry.sid ≡ Some sid
  pub back : match_of_sid r sid ≡ Some found
  pub same_use : use_of found ≡ entry.usage
  pub index : entry.index ≡ pos place
  pub same_domain : slice_get domains place ≡ Some (place_of r (known_of found))

-- so it is with each mapped entry
abbrev pub DoEntriesTranslateBack : Lists → Outs → Type 0
DoEntriesTranslateBack r (outs.SidRefs domains entries mapped) =
    (i : ℕ) (entry : SidRef) → slice_get entries i ≡ Some entry → is_mapped entry.usage ≡ true
    → EntryTranslatesBack r domains entry
DoEntriesTranslateBack r _ = ⊥

-- there, LsarLookupNames3 has such entries
abbrev pub EntriesTranslateBack : Type 0
EntriesTranslateBack =
    (r : Lists) (object : Object) (asked : Args) → IsSoundRows r → HidesNone r
    → DoEntriesTranslateBack r (look_names3 r object asked).planned.outs

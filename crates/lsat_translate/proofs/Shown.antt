-- Each mapped entry of LsarLookupNames3 has a SID that is translated to the same use and domain.
use Rattle.std.proofs.Common.{◌≡◌, ℕ, true, List, map, Option, Some, None, refl, sym, ap, subst, ◌∙◌}
use Rattle.std.specs.Prelude.{slice_get}
use Rattle.std.specs.Option.{option_map, option_and_then}
use Rattle.std.proofs.lemmas.Option.{slice_get-map, get_or_from_slice_get}
use Rattle.acct_calls.specs.declared.lists.SidRef.{SidRef}
use Rattle.acct_rows.specs.Rows.{Lists}
use Rattle.acct_rows.specs.Sound.{IsSoundRows}
use Rattle.acct_rules.specs.Planned.{is_mapped}
use Rattle.dtyp_sid.specs.Sids.{SidValue}
use Rattle.lsat_translate.specs.Translations.{referenced, place_of, sid_ref, asked_names}
use Rattle.lsat_translate.specs.Laws.{HidesNone, EntriesReferRightly, SidsTranslateBack, EntriesTranslateBack}
use Rattle.lsat_translate.specs.Laws.{EntryTranslatesBack}
use Rattle.lsat_translate.specs.Matches.{sid_of, use_in}
use Rattle.lsat_translate.specs.Lookups.{match_of_name, match_of_sid}
use Rattle.lsat_translate.specs.declared.matches.Match.{Match}

abbrev Told : Lists → List (Option Match) → Option Match → Type 0
Told r found m = EntryTranslatesBack r (map (place_of r) (referenced found)) (sid_ref r (referenced found) m)

-- a match with a SID that is translated to it
by-sid : EntriesReferRightly → (r : Lists) (found : List (Option Match)) (i : ℕ) (m : Match) (s : Option SidValue)
    → slice_get found i ≡ Some (Some m) → sid_of r m ≡ s → option_and_then (match_of_sid r) s ≡ Some m
    → Told r found (Some m)
by-sid refers r found i m None at is back = absurd cc
by-sid refers r found i m (Some sid) at is back =
    let ks = referenced found in
    let here = (refers found).indexes i m (get_or_from_slice_get found i (Some m) None at) in record {
      sid = sid;
      found = m;
      place = here.0;
      shown = is;
      back = back;
      same_use = refl;
      index = here.1;
      same_domain = slice_get-map (place_of r) ks here.0 ∙ ap (option_map (place_of r)) here.2;
    }

by-match : EntriesReferRightly → SidsTranslateBack → (r : Lists) (found : List (Option Match)) (i : ℕ) (name : List ℕ)
    (m : Option Match) → IsSoundRows r → HidesNone r → slice_get found i ≡ Some m → match_of_name r name ≡ m
    → is_mapped (use_in m) ≡ true → Told r found m
by-match refers backs r found i name None sound hides at is mapped = absurd cc
by-match refers backs r found i name (Some m) sound hides at is mapped =
    by-sid refers r found i m (sid_of r m) at refl (backs r name m sound hides is)

by-name : EntriesReferRightly → SidsTranslateBack → (r : Lists) (found : List (Option Match)) (i : ℕ)
    (o : Option (List ℕ)) (entry : SidRef) → IsSoundRows r → HidesNone r
    → slice_get found i ≡ option_map (match_of_name r) o
    → option_map (sid_ref r (referenced found)) (option_map (match_of_name r) o) ≡ Some entry
    → is_mapped entry.usage ≡ true → EntryTranslatesBack r (map (place_of r) (referenced found)) entry
by-name refers backs r found i None entry sound hides at is mapped = absurd cc
by-name refers backs r found i (Some name) entry sound hides at is mapped =
    let m = match_of_name r name in
    let same : sid_ref r (referenced found) m ≡ entry = cc in
    let here : is_mapped (use_in m) ≡ true = ap (λ (e : SidRef). is_mapped e.usage) same ∙ mapped in
    subst (EntryTranslatesBack r (map (place_of r) (referenced found))) same
    (by-match refers backs r found i name m sound hides at refl here)

pub entries-back : EntriesReferRightly → SidsTranslateBack → EntriesTranslateBack
entries-back refers backs r object asked sound hides i entry at mapped =
    let names = asked_names asked in
    let found = map (match_of_name r) names in
    let ks = referenced found in
    let there : slice_get found i ≡ option_map (match_of_name r) (slice_get names i) =
    slice_get-map (match_of_name r) names i in
    by-name refers backs r found i (slice_get names i) entry sound hides there
    (sym (ap (option_map (sid_ref r ks)) there) ∙ sym (slice_get-map (sid_ref r ks) found i) ∙ at) mapped

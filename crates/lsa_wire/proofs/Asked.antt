-- What the writers of texts, privileges and lists ask for, from what the shapes' values are.
use Rattle.std.proofs.Common.{ℕ, ◌^◌, ◌<◌, ◌≤◌, All, List, length, Option, Some, None, arith}
use Rattle.ndr_core.specs.Parts.{PartFits, flat}
use Rattle.acct_codes.specs.Limits.{most_privileges, most_translated_names}
use Rattle.acct_calls.specs.declared.lists.ReferencedDomain.{ReferencedDomain}
use Rattle.acct_calls.specs.declared.lists.Privilege.{Privilege}
use Rattle.acct_calls.specs.declared.lists.RidName.{RidName}
use Rattle.acct_calls.specs.declared.lists.SidRef.{SidRef}
use Rattle.acct_calls.specs.declared.lists.TranslatedName.{TranslatedName}
use Rattle.acct_calls.specs.declared.lists.TranslatedSid.{TranslatedSid}
use Rattle.acct_layouts.specs.Values.{IfThere, IsAccount, IsDomain, IsListed, IsPrivilegeSet, IsText, IsTranslatedName}
use Rattle.ndr_types.specs.Listed.{any, privilege_names}
use Rattle.ndr_types.specs.Bounds.{HasShortName, HasShortText, IsShort, IsShortPlace}
use Rattle.ndr_types.specs.Translations.{referenced, flagged, flagged_names, flagged_sids, sid_ref, sid_refs}
use Rattle.ndr_types.specs.Translations.{translated_name, translated_names, translated_sid, translated_sids}
use Rattle.ndr_types.specs.Laws.{IsListOf}
use Rattle.ndr_types.specs.Values.{IsFew, text_pointer, privilege_set_pointer, privilege_set, text}
use Rattle.ndr_types.proofs.Entries.{privilege_names_values, privilege_set_pointer_values, text_pointer_values}
use Rattle.ndr_types.proofs.Entries.{translated_name_has, translated_sid_has}
use Rattle.ndr_types.proofs.LaterEntries.{flagged_name_has, flagged_ref_has, flagged_sid_has}
use Rattle.ndr_types.proofs.Parts.{all_as}
use Rattle.ndr_types.proofs.Records.{privilege_set_kind}
use Rattle.ndr_types.proofs.ShapeValues.{list_values, referenced_values}
use Rattle.ndr_types.proofs.Texts.{text_has}
use Rattle.acct_stubs.proofs.Asked.{texts_listed, sids_counted}
use Rattle.lsa_wire.specs.Arguments.{counted}
use Rattle.lsa_wire.specs.FieldValues.{counted_few, counted_all}

pub few_privileges : (privileges : List Privilege) → privilege_set.Fits privileges → length privileges ≤ most_privileges
few_privileges privileges h = (privilege_set_kind privileges h).0

-- ---- what a pointer may leave out

few_there : (privileges : Option (List Privilege)) → IfThere IsPrivilegeSet privileges → IfThere IsFew privileges
few_there None h = tt
few_there (Some ps) h = h.0

pub few_or_none : (privileges : Option (List Privilege)) → privilege_set_pointer.Fits privileges
    → IfThere IsFew privileges
few_or_none privileges h = few_there privileges ((privilege_set_pointer_values privileges).0 h)

short_there : (name : Option (List ℕ)) → IfThere IsText name → IfThere IsShort name
short_there None h = tt
short_there (Some us) h = h.0

pub short_or_none : (name : Option (List ℕ)) → text_pointer.Fits name → IfThere IsShort name
short_or_none name h = short_there name ((text_pointer_values name).0 h)

-- ---- lists

pub privileges_listed : (entries : List RidName) → privilege_names.Fits entries → IsListed HasShortName entries
privileges_listed entries h =
    let k = (privilege_names_values entries).0 h in
    (k.1, all_as {P = IsAccount} {Q = HasShortName} entries (λ r is. is.1.0) k.2)

pub entries_counted : (most : ℕ) (entries : List TranslatedSid) → (translated_sids most).Fits entries
    → length entries < 2 ^ 32
entries_counted most entries h = ((list_values most (flat translated_sid) translated_sid_has entries).0 h).1

pub entries_listed : (most : ℕ) (entries : List TranslatedName) → (translated_names most).Fits entries
    → IsListed HasShortText entries
entries_listed most entries h =
    let k = (list_values most translated_name translated_name_has entries).0 h in
    (k.1, all_as {P = IsTranslatedName} {Q = HasShortText} entries (λ t is. is.1.0) k.2)

pub flagged_counted : (most : ℕ) (entries : List TranslatedSid) → (flagged_sids most).Fits entries
    → length entries < 2 ^ 32
flagged_counted most entries h = ((list_values most (flagged (flat translated_sid)) flagged_sid_has entries).0 h).1

pub flagged_listed : (most : ℕ) (entries : List TranslatedName) → (flagged_names most).Fits entries
    → IsListed HasShortText entries
flagged_listed most entries h =
    let k = (list_values most (flagged translated_name) flagged_name_has entries).0 h in
    (k.1, all_as {P = IsTranslatedName} {Q = HasShortText} entries (λ t is. is.1.0) k.2)

pub refs_counted : (most : ℕ) (entries : List SidRef) → (sid_refs most).Fits entries → length entries < 2 ^ 32
refs_counted most entries h = ((list_values most (flagged sid_ref) flagged_ref_has entries).0 h).1

short_places : (domains : Option (List ReferencedDomain)) → IfThere (IsListOf any IsDomain) domains
    → IfThere (IsListed IsShortPlace) domains
short_places None h = tt
short_places (Some ps) h = (h.1, all_as {P = IsDomain} {Q = IsShortPlace} ps (λ p is. is.0.0) h.2)

pub domains_listed : (domains : Option (List ReferencedDomain)) → referenced.Fits domains
    → IfThere (IsListed IsShortPlace) domains
domains_listed domains h = short_places domains ((referenced_values domains).0 h)

-- ---- arrays after their counts

pub names_counted : (names : List (List ℕ)) → (counted most_translated_names text).Fits names → length names < 2 ^ 32
names_counted names h = omega (arith, counted_few most_translated_names text names h)

pub names_short : (names : List (List ℕ)) → (counted most_translated_names text).Fits names → All IsShort names
names_short names h =
    all_as {P = PartFits text} {Q = IsShort} names (λ us fits. (text_has.kind us fits).0)
    (counted_all most_translated_names text names h)

-- ---- what one writer asks for, as one name

pub ruleset policy_outs_asked = (few_or_none, short_or_none, texts_listed, sids_counted, privileges_listed)

pub ruleset translated_asked =
    (domains_listed, entries_counted, entries_listed, flagged_counted, flagged_listed, refs_counted)

pub ruleset policy_args_asked = (few_privileges, few_or_none, short_or_none, texts_listed)

pub ruleset names_asked = (names_counted, names_short, sids_counted)

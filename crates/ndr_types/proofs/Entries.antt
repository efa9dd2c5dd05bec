-- Which translated entries, names of privileges and pointers can be written, and that what some bytes spell can be.
use Rattle.std.proofs.Common.{ℕ, ℤ, ◌^◌, ◌<◌, refl, sym, ap, subst, lit<}
use Rattle.std.specs.Prelude.{FitsSigned}
use Rattle.std.specs.Int.{w32, cast_signed, cast_unsigned}
use Rattle.std.proofs.Math.Facts.{Fits-of_z, Fits-lt-pow, Fits-of_lt, sfits_to_z}
use Rattle.std.proofs.lemmas.Int.{of_z-to_z, to_z-of_z}
use Rattle.ndr_core.specs.Cursor.{is_zero}
use Rattle.ndr_core.specs.Shapes.{u16}
use Rattle.ndr_core.specs.Parts.{Part, whole, join, flat, pointer_to}
use Rattle.ndr_core.proofs.Complete.{IsComplete, u16_complete, u32_complete, such_complete, chain_complete}
use Rattle.ndr_core.proofs.Complete.{made_complete, ignored_complete, padding_complete}
use Rattle.acct_calls.specs.declared.lists.TranslatedSid.{TranslatedSid}
use Rattle.ndr_types.specs.Listed.{any, low_of, with_no_high, low_part, privilege_name, privilege_name_of}
use Rattle.ndr_types.specs.Listed.{parts_of_privilege_name, privilege_names}
use Rattle.acct_layouts.specs.Values.{IfThere, IsAccount, IsLong, IsPrivilegeSet, IsText, IsTranslatedName}
use Rattle.acct_layouts.specs.Values.{IsTranslatedSid}
use Rattle.ndr_types.specs.Laws.{HasValues, IsListOf}
use Rattle.ndr_types.specs.Values.{privilege_set, text_pointer, privilege_set_pointer, text}
use Rattle.ndr_types.specs.Translations.{signed_long, padded_part, translated_sid, translated_sid_of}
use Rattle.ndr_types.specs.Translations.{parts_of_translated_sid, translated_name, translated_name_of}
use Rattle.ndr_types.specs.Translations.{parts_of_translated_name}
use Rattle.ndr_types.proofs.Parts.{Has, flat_has, join_has, part_of_has, whole_fits, whole_kind, whole_complete}
use Rattle.ndr_types.proofs.Records.{pointer_has, privilege_set_fits, privilege_set_kind, privilege_set_complete}
use Rattle.ndr_types.proofs.ShapeValues.{whole_values, list_values, list_complete}
use Rattle.ndr_types.proofs.Texts.{text_has}

-- ---- signed longs

signed_fits : (z : ℤ) → FitsSigned w32 z → signed_long.Fits z
unfolding signed_long
signed_fits z h = (Fits-lt-pow {w = w32} (Fits-of_z {w = w32} {z = z} h), to_z-of_z w32 z h)

signed_kind : (z : ℤ) → signed_long.Fits z → FitsSigned w32 z
unfolding signed_long
signed_kind z h = subst (λ (y : ℤ). FitsSigned w32 y) h.1 (sfits_to_z {w = w32} (Fits-of_lt {w = w32} h.0))

signed_complete : IsComplete signed_long
unfolding signed_long
signed_complete = made_complete (cast_signed w32) (cast_unsigned w32) u32_complete
    (λ n lt. let e = of_z-to_z w32 n lt in (subst (λ (k : ℕ). k < 2 ^ 32) (sym e) lt, ap (cast_signed w32) e))

pub signed_has : Has (flat signed_long) (FitsSigned w32)
signed_has = flat_has signed_long signed_fits signed_kind signed_complete

-- ---- padding at the beginning

padded_has : {S A : Type 0} {P : A → Type 0} (p : Part S A) → Has p P → Has (padded_part p) P
padded_has p q = record {
  fits = λ x h. let f = q.fits x h in (((tt, f.0), refl), f.1);
  kind = λ x h. q.kind x (h.0.0.1, h.1);
  head = ignored_complete tt padding_complete q.head tt;
  tail = λ s h. q.tail s h.0.1;
  keeps = λ s x h k. let f = q.keeps s x h.0.1 k in (((tt, f.0), refl), f.1);
}

-- ---- translated names

translated_sid_fits : (t : TranslatedSid) → IsTranslatedSid t → translated_sid.Fits t
unfolding translated_sid
translated_sid_fits t h = ((h.0, (h.1, signed_fits t.index h.2)), refl)

translated_sid_kind : (t : TranslatedSid) → translated_sid.Fits t → IsTranslatedSid t
unfolding translated_sid
translated_sid_kind t h = (h.0.0, h.0.1.0, signed_kind t.index h.0.1.1)

translated_sid_complete : IsComplete translated_sid
unfolding translated_sid
translated_sid_complete =
    made_complete translated_sid_of parts_of_translated_sid
    (chain_complete u16_complete (λ x h. chain_complete u32_complete (λ y k. signed_complete))) (λ x h. (h, refl))

pub translated_sid_has : Has (flat translated_sid) IsTranslatedSid
translated_sid_has = flat_has translated_sid translated_sid_fits translated_sid_kind translated_sid_complete

-- ---- translated SIDs

abbrev pub IsShortNumber : ℕ → Type 0
IsShortNumber n = n < 2 ^ 16

pub short_has : Has (flat u16) IsShortNumber
short_has = flat_has u16 (λ n h. h) (λ n h. h) u16_complete

pub translated_name_has : Has translated_name IsTranslatedName
unfolding translated_name
translated_name_has =
    part_of_has {Q = IsTranslatedName} translated_name_of parts_of_translated_name
    (join (flat u16) (join (padded_part text) (flat signed_long)))
    (join_has (flat u16) _ short_has
    (join_has (padded_part text) (flat signed_long) (padded_has text text_has) signed_has))
    (λ b h. (h.0, (h.1, h.2))) (λ b h. (h.0, h.1.0, h.1.1)) (λ a. refl) (λ b. refl)

-- ---- names of privileges

low_fits : (n : ℕ) → IsLong n → low_part.Fits n
unfolding low_part
low_fits n h = ((h, (lit< tt, refl)), refl)

low_kind : (n : ℕ) → low_part.Fits n → IsLong n
unfolding low_part
low_kind n h = h.0.0

low_complete : IsComplete low_part
unfolding low_part
low_complete =
    made_complete low_of with_no_high (chain_complete u32_complete (λ x h. such_complete 4 is_zero u32_complete))
    (λ x h. ((h.0, (lit< tt, refl)), refl))

low_has : Has (flat low_part) IsLong
low_has = flat_has low_part low_fits low_kind low_complete

pub privilege_name_has : Has privilege_name IsAccount
unfolding privilege_name
privilege_name_has =
    part_of_has {Q = IsAccount} privilege_name_of parts_of_privilege_name (join text (flat low_part))
    (join_has text (flat low_part) text_has low_has) (λ b h. (h.1, h.0)) (λ b h. (h.1, h.0)) (λ a. refl) (λ b. refl)

-- ---- pointers

pub text_pointer_has : Has (pointer_to (whole text)) (IfThere IsText)
text_pointer_has =
    pointer_has (whole text) (whole_fits text text_has) (whole_kind text text_has) (whole_complete text text_has)

pub privilege_set_pointer_has : Has (pointer_to privilege_set) (IfThere IsPrivilegeSet)
privilege_set_pointer_has = pointer_has privilege_set privilege_set_fits privilege_set_kind privilege_set_complete

pub privilege_names_values : HasValues privilege_names (IsListOf any IsAccount)
unfolding privilege_names
privilege_names_values = list_values any privilege_name privilege_name_has

pub privilege_names_complete : IsComplete privilege_names
unfolding privilege_names
privilege_names_complete = list_complete any privilege_name privilege_name_has

pub text_pointer_values : HasValues text_pointer (IfThere IsText)
unfolding text_pointer
text_pointer_values = whole_values (pointer_to (whole text)) text_pointer_has

pub text_pointer_complete : IsComplete text_pointer
unfolding text_pointer
text_pointer_complete = whole_complete (pointer_to (whole text)) text_pointer_has

pub privilege_set_pointer_values : HasValues privilege_set_pointer (IfThere IsPrivilegeSet)
unfolding privilege_set_pointer
privilege_set_pointer_values = whole_values (pointer_to privilege_set) privilege_set_pointer_has

pub privilege_set_pointer_complete : IsComplete privilege_set_pointer
unfolding privilege_set_pointer
privilege_set_pointer_complete = whole_complete (pointer_to privilege_set) privilege_set_pointer_has

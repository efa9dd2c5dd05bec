-- What a translation answers, and the domains that it refers to.
use Rattle.std.specs.Prelude.{ℕ, Bool, Option, Some, None, List, [], ℤ}
use Rattle.std.specs.Int.{w32, cast_signed, cast_unsigned}
use Rattle.dtyp_sid.specs.Sids.{SidValue}
use Rattle.acct_calls.specs.declared.lists.ReferencedDomain.{ReferencedDomain}
use Rattle.acct_calls.specs.declared.lists.SidRef.{SidRef}
use Rattle.acct_calls.specs.declared.lists.TranslatedName.{TranslatedName}
use Rattle.acct_calls.specs.declared.lists.TranslatedSid.{TranslatedSid}
use Rattle.ndr_core.specs.Codec.{Codec}
use Rattle.ndr_core.specs.Parts.{Part, whole, join, part_of, pointer_to, list, flat, list_of}
use Rattle.ndr_core.specs.Shapes.{u32, chain, made, u16, padding4, ignored, followed}
use Rattle.ndr_types.specs.Listed.{any}
use Rattle.ndr_types.specs.Values.{sid_pointer, sid, text}

-- ======== the domains that a translation refers to: a pointer to LSAPR_REFERENCED_DOMAIN_LIST (MS-LSAT 2.2.12)

abbrev pub place_of : List ℕ × SidValue → ReferencedDomain
place_of x = record { name = x.0; sid = x.1 }

abbrev pub parts_of_place : ReferencedDomain → List ℕ × SidValue
parts_of_place p = (p.name, p.sid)

-- A text, and a pointer to a SID, which isn't null (LSAPR_TRUST_INFORMATION, MS-LSAD 2.2.7.1).
unfoldable pub place : Part ((ℕ × Bool) × Bool) ReferencedDomain
place = part_of place_of parts_of_place (join text sid_pointer)

-- A count, a pointer to the array, and a maximum count of entries, which isn't looked at and is written as the count.
abbrev pub first : (ℕ × Bool) × ℕ → ℕ × Bool
first x = x.0

abbrev pub with_entries : ℕ × Bool → (ℕ × Bool) × ℕ
with_entries head = (head, head.0)

abbrev pub places_head : Codec (ℕ × Bool)
places_head = made first with_entries (chain (list any place).head (λ _. u32))

unfoldable pub places : Part (ℕ × Bool) (List ReferencedDomain)
places = record { head = places_head; tail = (list any place).tail; head_of = (list any place).head_of }

-- A pointer, null or to such a list.
unfoldable pub referenced : Codec (Option (List ReferencedDomain))
referenced = whole (pointer_to (whole places))

-- The list that is read for it: a null pointer stands for the empty one.
abbrev pub or_empty : Option (List ReferencedDomain) → List ReferencedDomain
or_empty None = []
or_empty (Some xs) = xs

-- ======== what a translation answers: names as SIDs, and SIDs as names (MS-LSAT 2.2.14 to 2.2.26)

-- a long, signed: its two's complement
unfoldable pub signed_long : Codec ℤ
signed_long = made (cast_signed w32) (cast_unsigned w32) u32

-- padding to four before what a structure embeds
abbrev pub padded_part : {S A : Type 0} → Part S A → Part S A
padded_part p = record { head = ignored tt padding4 p.head; tail = p.tail; head_of = p.head_of }

abbrev pub translated_sid_of : ℕ × (ℕ × ℤ) → TranslatedSid
translated_sid_of x = record { usage = x.0; rid = x.1.0; index = x.1.1 }

abbrev pub parts_of_translated_sid : TranslatedSid → ℕ × (ℕ × ℤ)
parts_of_translated_sid t = (t.usage, (t.rid, t.index))

-- Use, RelativeId and DomainIndex (LSA_TRANSLATED_SID, MS-LSAT 2.2.14).
unfoldable pub translated_sid : Codec TranslatedSid
translated_sid = made translated_sid_of parts_of_translated_sid (chain u16 (λ _. chain u32 (λ _. signed_long)))

-- at most so many (LSAPR_TRANSLATED_SIDS, MS-LSAT 2.2.15)
abbrev pub translated_sids : ℕ → Codec (List TranslatedSid)
translated_sids most = list_of most (flat translated_sid)

abbrev pub translated_name_of : ℕ × (List ℕ × ℤ) → TranslatedName
translated_name_of x = record { usage = x.0; name = x.1.0; index = x.1.1 }

abbrev pub parts_of_translated_name : TranslatedName → ℕ × (List ℕ × ℤ)
parts_of_translated_name t = (t.usage, (t.name, t.index))

-- Use, padding to four, Name and DomainIndex (LSAPR_TRANSLATED_NAME, MS-LSAT 2.2.19).
unfoldable pub translated_name : Part (ℕ × ((ℕ × Bool) × ℤ)) TranslatedName
translated_name =
    part_of translated_name_of parts_of_translated_name (join (flat u16) (join (padded_part text) (flat signed_long)))

-- at most so many (LSAPR_TRANSLATED_NAMES, MS-LSAT 2.2.20)
abbrev pub translated_names : ℕ → Codec (List TranslatedName)
translated_names most = list_of most translated_name

-- ---- the later forms: Flags after the other fields, which aren't looked at and are written as 0

abbrev pub flagged : {S A : Type 0} → Part S A → Part S A
flagged p = record { head = followed 0 u32 p.head; tail = p.tail; head_of = p.head_of }

-- at most so many (LSAPR_TRANSLATED_SIDS_EX, MS-LSAT 2.2.24), each with the fields of LSAPR_TRANSLATED_SID_EX (2.2.23)
abbrev pub flagged_sids : ℕ → Codec (List TranslatedSid)
flagged_sids most = list_of most (flagged (flat translated_sid))

-- at most so many (LSAPR_TRANSLATED_NAMES_EX, MS-LSAT 2.2.22), each with the fields of LSAPR_TRANSLATED_NAME_EX
-- (2.2.21)
abbrev pub flagged_names : ℕ → Codec (List TranslatedName)
flagged_names most = list_of most (flagged translated_name)

abbrev pub sid_ref_of : ℕ × (Option SidValue × ℤ) → SidRef
sid_ref_of x = record { usage = x.0; sid = x.1.0; index = x.1.1 }

abbrev pub parts_of_sid_ref : SidRef → ℕ × (Option SidValue × ℤ)
parts_of_sid_ref r = (r.usage, (r.sid, r.index))

-- Use, Sid, which may be null, and DomainIndex.
unfoldable pub sid_ref : Part (ℕ × (Bool × ℤ)) SidRef
sid_ref = part_of sid_ref_of parts_of_sid_ref (join (flat u16) (join (pointer_to sid) (flat signed_long)))

-- at most so many (LSAPR_TRANSLATED_SIDS_EX2, MS-LSAT 2.2.26), each with the fields of LSAPR_TRANSLATED_SID_EX2
-- (2.2.25)
abbrev pub sid_refs : ℕ → Codec (List SidRef)
sid_refs most = list_of most (flagged sid_ref)

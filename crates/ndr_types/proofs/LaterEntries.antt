-- Which entries of the later translation forms can be written, that what some bytes spell can be, and that reading them
-- goes onward.
use Rattle.std.proofs.Common.{ℕ, refl, lit<}
use Rattle.ndr_core.specs.Shapes.{u16}
use Rattle.ndr_core.specs.Parts.{Part, join, flat, pointer_to}
use Rattle.ndr_core.proofs.Complete.{u32_complete, followed_complete}
use Rattle.acct_layouts.specs.Values.{IfThere, IsSidRef, IsTranslatedName, IsTranslatedSid}
use Rattle.dtyp_sid.specs.Sids.{IsSid}
use Rattle.ndr_types.specs.Values.{sid}
use Rattle.ndr_types.specs.Translations.{flagged, flagged_names, flagged_sids, parts_of_sid_ref, sid_ref, sid_ref_of}
use Rattle.ndr_types.specs.Translations.{sid_refs, signed_long, translated_name, translated_sid}
use Rattle.ndr_types.proofs.Entries.{short_has, signed_has, translated_name_has, translated_sid_has}
use Rattle.ndr_types.proofs.Onward.{Takes, TakesPart, list_onward, long, short, sid_onward, takes_flat, takes_followed}
use Rattle.ndr_types.proofs.Onward.{takes_join, takes_part_of, takes_pointer_to}
use Rattle.ndr_types.proofs.OnwardEntries.{signed_onward, takes_translated_name, translated_sid_onward}
use Rattle.ndr_types.proofs.Parts.{Has, join_has, part_of_has}
use Rattle.ndr_types.proofs.Records.{pointer_has}
use Rattle.ndr_types.proofs.Sids.{sid_complete, sid_fits, sid_kind}

-- ---- flags after an entry

pub flagged_has : {S A : Type 0} {P : A → Type 0} (p : Part S A) → Has p P → Has (flagged p) P
flagged_has p q = record {
  fits = λ x h. let f = q.fits x h in (((f.0, lit< tt), refl), f.1);
  kind = λ x h. q.kind x (h.0.0.0, h.1);
  head = followed_complete 0 q.head u32_complete (lit< tt);
  tail = λ s h. q.tail s h.0.0;
  keeps = λ s x h k. let f = q.keeps s x h.0.0 k in (((f.0, lit< tt), refl), f.1);
}

takes_flagged : {S A : Type 0} (p : Part S A) → TakesPart p → TakesPart (flagged p)
takes_flagged p q = record { head = takes_followed 0 q.head long; tail = q.tail }

-- ---- translated names and SIDs

pub flagged_sid_has : Has (flagged (flat translated_sid)) IsTranslatedSid
flagged_sid_has = flagged_has (flat translated_sid) translated_sid_has

pub flagged_name_has : Has (flagged translated_name) IsTranslatedName
flagged_name_has = flagged_has translated_name translated_name_has

pub flagged_sids_onward : (most : ℕ) → Takes 0 (flagged_sids most)
flagged_sids_onward most =
    list_onward most (flagged (flat translated_sid))
    (takes_flagged (flat translated_sid) (takes_flat translated_sid translated_sid_onward))

pub flagged_names_onward : (most : ℕ) → Takes 0 (flagged_names most)
flagged_names_onward most =
    list_onward most (flagged translated_name) (takes_flagged translated_name takes_translated_name)

-- ---- translated names with their SIDs

sid_pointer_to_has : Has (pointer_to sid) (IfThere IsSid)
sid_pointer_to_has = pointer_has sid sid_fits sid_kind sid_complete

sid_ref_has : Has sid_ref IsSidRef
unfolding sid_ref
sid_ref_has =
    part_of_has {Q = IsSidRef} sid_ref_of parts_of_sid_ref
    (join (flat u16) (join (pointer_to sid) (flat signed_long)))
    (join_has (flat u16) _ short_has (join_has (pointer_to sid) (flat signed_long) sid_pointer_to_has signed_has))
    (λ b h. (h.0, (h.1, h.2))) (λ b h. (h.0, h.1.0, h.1.1)) (λ a. refl) (λ b. refl)

pub flagged_ref_has : Has (flagged sid_ref) IsSidRef
flagged_ref_has = flagged_has sid_ref sid_ref_has

takes_sid_ref : TakesPart sid_ref
unfolding sid_ref
takes_sid_ref =
    takes_part_of sid_ref_of parts_of_sid_ref _
    (takes_join (flat u16) _ (takes_flat u16 short)
    (takes_join (pointer_to sid) (flat signed_long) (takes_pointer_to sid sid_onward)
    (takes_flat signed_long signed_onward)))

pub sid_refs_onward : (most : ℕ) → Takes 0 (sid_refs most)
sid_refs_onward most = list_onward most (flagged sid_ref) (takes_flagged sid_ref takes_sid_ref)

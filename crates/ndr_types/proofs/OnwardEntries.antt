-- Reading goes onward: of translated entries, of names of privileges, and of pointers.
use Rattle.std.proofs.Common.{ℕ}
use Rattle.ndr_core.specs.Cursor.{is_zero}
use Rattle.ndr_core.specs.Shapes.{u16}
use Rattle.ndr_core.specs.Parts.{Part, whole, flat, pointer_to}
use Rattle.ndr_types.specs.Listed.{any, low_part, privilege_name, privilege_name_of, parts_of_privilege_name}
use Rattle.ndr_types.specs.Listed.{privilege_names}
use Rattle.ndr_types.specs.Values.{text_pointer, privilege_set_pointer, privilege_set, text}
use Rattle.ndr_types.specs.Translations.{signed_long, padded_part, translated_sid, translated_sids, translated_name}
use Rattle.ndr_types.specs.Translations.{translated_name_of, parts_of_translated_name, translated_names}
use Rattle.ndr_types.proofs.Onward.{Takes, TakesPart, any_size, takes_u32, long, short, takes_padding, takes_such}
use Rattle.ndr_types.proofs.Onward.{takes_chain}
use Rattle.ndr_types.proofs.Onward.{takes_made, takes_ignored, takes_whole, takes_join, takes_flat, takes_part_of}
use Rattle.ndr_types.proofs.Onward.{takes_pointer_to, list_onward, takes_text, text_onward, privilege_set_onward}

pub signed_onward : Takes 0 signed_long
unfolding signed_long
signed_onward = takes_made 0 _ _ long

takes_padded : {S A : Type 0} (p : Part S A) → TakesPart p → TakesPart (padded_part p)
takes_padded p q = record { head = takes_ignored 0 tt takes_padding q.head; tail = q.tail }

pub translated_sid_onward : Takes 0 translated_sid
unfolding translated_sid
translated_sid_onward = takes_made 0 _ _ (takes_chain 0 short (λ x. takes_chain 0 long (λ y. signed_onward)))

pub translated_sids_onward : (most : ℕ) → Takes 0 (translated_sids most)
translated_sids_onward most = list_onward most (flat translated_sid) (takes_flat translated_sid translated_sid_onward)

pub takes_translated_name : TakesPart translated_name
unfolding translated_name
takes_translated_name =
    takes_part_of translated_name_of parts_of_translated_name _
    (takes_join (flat u16) _ (takes_flat u16 short)
    (takes_join (padded_part text) (flat signed_long) (takes_padded text takes_text)
    (takes_flat signed_long signed_onward)))

pub translated_names_onward : (most : ℕ) → Takes 0 (translated_names most)
translated_names_onward most = list_onward most translated_name takes_translated_name

low_part_onward : Takes 0 low_part
unfolding low_part
low_part_onward = takes_made 0 _ _ (takes_chain 0 long (λ x. any_size 4 (takes_such 4 is_zero takes_u32)))

takes_privilege_name : TakesPart privilege_name
unfolding privilege_name
takes_privilege_name =
    takes_part_of privilege_name_of parts_of_privilege_name _
    (takes_join text (flat low_part) takes_text (takes_flat low_part low_part_onward))

pub privilege_names_onward : Takes 0 privilege_names
unfolding privilege_names
privilege_names_onward = list_onward any privilege_name takes_privilege_name

pub text_pointer_onward : Takes 0 text_pointer
unfolding text_pointer
text_pointer_onward = takes_whole (pointer_to (whole text)) (takes_pointer_to (whole text) text_onward)

pub privilege_set_pointer_onward : Takes 0 privilege_set_pointer
unfolding privilege_set_pointer
privilege_set_pointer_onward =
    takes_whole (pointer_to privilege_set) (takes_pointer_to privilege_set privilege_set_onward)

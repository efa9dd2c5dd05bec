-- Each shape has the bundle of laws, from what is proved beside it: what is spelled can be written, its values, and
-- that reading goes onward.
use Rattle.ndr_core.specs.Parts.{flat, whole}
use Rattle.ndr_core.specs.Shapes.{u32}
use Rattle.ndr_types.specs.Listed.{rid_names, descriptor, descriptor_pointer, display_rows, privilege_names}
use Rattle.ndr_types.specs.Translations.{referenced, flagged, flagged_names, flagged_sids, sid_ref, sid_refs}
use Rattle.ndr_types.specs.Translations.{translated_name, translated_names, translated_sid, translated_sids}
use Rattle.ndr_types.specs.Values.{handle, rid_list, sid_list, text_list, privilege_set_pointer, text_pointer}
use Rattle.ndr_types.specs.Values.{privilege_set, sid, sid_pointer, text}
use Rattle.acct_layouts.specs.declared.classes.DisplayArm.TheVariants as display
use Rattle.ndr_types.proofs.DisplayRows.{display_rows_onward, groups_complete, groups_values}
use Rattle.ndr_types.proofs.DisplayRows.{users_complete, users_values}
use Rattle.ndr_types.proofs.ByteArrays.{descriptor_complete, descriptor_onward, descriptor_pointer_complete}
use Rattle.ndr_types.proofs.ByteArrays.{descriptor_pointer_onward, descriptor_pointer_values, descriptor_values}
use Rattle.ndr_types.proofs.Digits.{handle_complete, handle_values}
use Rattle.ndr_types.proofs.Entries.{privilege_names_complete, privilege_names_values, privilege_set_pointer_complete}
use Rattle.ndr_types.proofs.Entries.{privilege_set_pointer_values, text_pointer_complete, text_pointer_values}
use Rattle.ndr_types.proofs.Entries.{translated_name_has, translated_sid_has}
use Rattle.ndr_types.proofs.LaterEntries.{flagged_name_has, flagged_names_onward, flagged_ref_has, flagged_sid_has}
use Rattle.ndr_types.proofs.LaterEntries.{flagged_sids_onward, sid_refs_onward}
use Rattle.ndr_types.proofs.Onward.{handle_onward, text_onward, sid_onward, sid_list_onward, rid_list_onward}
use Rattle.ndr_types.proofs.Onward.{text_list_onward, privilege_set_onward, rid_names_onward, referenced_onward}
use Rattle.ndr_types.proofs.OnwardEntries.{privilege_names_onward, privilege_set_pointer_onward, text_pointer_onward}
use Rattle.ndr_types.proofs.OnwardEntries.{translated_names_onward, translated_sids_onward}
use Rattle.ndr_types.proofs.Records.{privilege_set_complete}
use Rattle.ndr_types.proofs.ShapeValues.{text_complete, list_complete, rid_names_complete, referenced_complete}
use Rattle.ndr_types.proofs.ShapeValues.{text_values, sid_values, list_values, privilege_set_values, rid_names_values}
use Rattle.ndr_types.proofs.ShapeValues.{referenced_values}
use Rattle.ndr_types.proofs.Sids.{sid_complete, long_has, sid_pointer_has}
use Rattle.ndr_types.proofs.Spelled.{lawful}
use Rattle.ndr_types.proofs.Texts.{text_has}
use Rattle.ndr_types.proofs.laws.shapes_are_lawful.Goals as goal

pub returns-clause-handles : goal.returns-clause-handles
returns-clause-handles c = lawful handle handle_complete handle_values handle_onward

pub returns-clause-texts : goal.returns-clause-texts
returns-clause-texts c = lawful (whole text) text_complete text_values text_onward

pub returns-clause-sids : goal.returns-clause-sids
returns-clause-sids c = lawful sid sid_complete sid_values sid_onward

pub returns-clause-sid_lists : goal.returns-clause-sid_lists
returns-clause-sid_lists c = λ most.
    lawful (sid_list most) (list_complete most sid_pointer sid_pointer_has)
    (list_values most sid_pointer sid_pointer_has) (sid_list_onward most)

pub returns-clause-rid_lists : goal.returns-clause-rid_lists
returns-clause-rid_lists c = λ most.
    lawful (rid_list most) (list_complete most (flat u32) long_has)
    (list_values most (flat u32) long_has) (rid_list_onward most)

pub returns-clause-text_lists : goal.returns-clause-text_lists
returns-clause-text_lists c = λ most.
    lawful (text_list most) (list_complete most text text_has)
    (list_values most text text_has) (text_list_onward most)

pub returns-clause-privileges : goal.returns-clause-privileges
returns-clause-privileges c = lawful privilege_set privilege_set_complete privilege_set_values privilege_set_onward

pub returns-clause-accounts : goal.returns-clause-accounts
returns-clause-accounts c = lawful rid_names rid_names_complete rid_names_values rid_names_onward

pub returns-clause-domains : goal.returns-clause-domains
returns-clause-domains c = lawful referenced referenced_complete referenced_values referenced_onward

pub returns-clause-translated_sids : goal.returns-clause-translated_sids
returns-clause-translated_sids c = λ most.
    lawful (translated_sids most) (list_complete most (flat translated_sid) translated_sid_has)
    (list_values most (flat translated_sid) translated_sid_has) (translated_sids_onward most)

pub returns-clause-translated_names : goal.returns-clause-translated_names
returns-clause-translated_names c = λ most.
    lawful (translated_names most) (list_complete most translated_name translated_name_has)
    (list_values most translated_name translated_name_has) (translated_names_onward most)

pub returns-clause-flagged_sids : goal.returns-clause-flagged_sids
returns-clause-flagged_sids c = λ most.
    let part = flagged (flat translated_sid) in
    lawful (flagged_sids most) (list_complete most part flagged_sid_has)
    (list_values most part flagged_sid_has) (flagged_sids_onward most)

pub returns-clause-flagged_names : goal.returns-clause-flagged_names
returns-clause-flagged_names c = λ most.
    let part = flagged translated_name in
    lawful (flagged_names most) (list_complete most part flagged_name_has)
    (list_values most part flagged_name_has) (flagged_names_onward most)

pub returns-clause-sid_refs : goal.returns-clause-sid_refs
returns-clause-sid_refs c = λ most.
    let part = flagged sid_ref in
    lawful (sid_refs most) (list_complete most part flagged_ref_has)
    (list_values most part flagged_ref_has) (sid_refs_onward most)

pub returns-clause-displayed_users : goal.returns-clause-displayed_users
returns-clause-displayed_users c =
    lawful (display_rows display.User) users_complete users_values (display_rows_onward display.User)

pub returns-clause-displayed_groups : goal.returns-clause-displayed_groups
returns-clause-displayed_groups c =
    lawful (display_rows display.Group) groups_complete groups_values (display_rows_onward display.Group)

pub returns-clause-privilege_names : goal.returns-clause-privilege_names
returns-clause-privilege_names c =
    lawful privilege_names privilege_names_complete
    privilege_names_values privilege_names_onward

pub returns-clause-text_pointers : goal.returns-clause-text_pointers
returns-clause-text_pointers c = lawful text_pointer text_pointer_complete text_pointer_values text_pointer_onward

pub returns-clause-privilege_pointers : goal.returns-clause-privilege_pointers
returns-clause-privilege_pointers c =
    lawful privilege_set_pointer privilege_set_pointer_complete
    privilege_set_pointer_values privilege_set_pointer_onward

pub returns-clause-descriptors : goal.returns-clause-descriptors
returns-clause-descriptors c = λ most.
    lawful (descriptor most) (descriptor_complete most) (descriptor_values most) (descriptor_onward most)

pub returns-clause-descriptor_pointers : goal.returns-clause-descriptor_pointers
returns-clause-descriptor_pointers c =
    lawful descriptor_pointer descriptor_pointer_complete descriptor_pointer_values descriptor_pointer_onward

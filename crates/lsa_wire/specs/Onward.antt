-- Reading goes onward: of each layout that this interface has alone, from the shapes that it is made of.
use Rattle.std.proofs.Common.{ℕ, Bool, false, List, [], length, None}
use Rattle.ndr_core.specs.Codec.{Codec}
use Rattle.ndr_core.specs.Shapes.{u8, pointer_such}
use Rattle.ndr_core.specs.Parts.{Part, array}
use Rattle.acct_codes.specs.Limits.{most_rights, most_translated_names, most_translated_sids}
use Rattle.acct_layouts.specs.declared.fields.Connect.{Connect}
use Rattle.acct_layouts.specs.declared.fields.Connect.TheVariants as connect
use Rattle.acct_layouts.specs.declared.fields.Fields.{Fields}
use Rattle.acct_layouts.specs.declared.fields.Fields.TheVariants as fields
use Rattle.acct_layouts.specs.declared.fields.PolicyFields.{PolicyFields}
use Rattle.acct_layouts.specs.declared.fields.PolicyFields.TheVariants as policy
use Rattle.acct_layouts.specs.declared.fields.Translation.{Translation}
use Rattle.acct_layouts.specs.declared.fields.Translation.TheVariants as translation
use Rattle.acct_layouts.specs.declared.outputs.Outputs.{Outputs}
use Rattle.acct_layouts.specs.declared.outputs.Outputs.TheVariants as outputs
use Rattle.acct_layouts.specs.declared.outputs.PolicyOutputs.{PolicyOutputs}
use Rattle.acct_layouts.specs.declared.outputs.PolicyOutputs.TheVariants as outs
use Rattle.ndr_types.specs.Listed.{any}
use Rattle.ndr_types.specs.Values.{text}
use Rattle.ndr_types.proofs.Onward.{Takes, TakesPart, any_size, long, short, takes_followed, takes_u8}
use Rattle.ndr_types.proofs.Onward.{takes_u32}
use Rattle.ndr_types.proofs.Onward.{takes_pointer}
use Rattle.ndr_types.proofs.Onward.{takes_given, takes_such, takes_chain, takes_made, takes_led_by, takes_ignored}
use Rattle.ndr_types.proofs.Onward.{takes_whole, takes_array, takes_some}
use Rattle.ndr_types.proofs.Onward.{takes_text, sid_onward, sid_list_onward, text_list_onward, privilege_set_onward}
use Rattle.ndr_types.proofs.Onward.{referenced_onward}
use Rattle.ndr_types.proofs.OnwardEntries.{privilege_names_onward, privilege_set_pointer_onward, text_pointer_onward}
use Rattle.ndr_types.proofs.OnwardEntries.{translated_names_onward, translated_sids_onward}
use Rattle.ndr_types.proofs.LaterEntries.{flagged_names_onward, flagged_sids_onward, sid_refs_onward}
use Rattle.lsa_wire.specs.Arguments.{connect_args, flag, policy_args, counted, translation_args, own_fields}
use Rattle.lsa_wire.specs.Arguments.{level_asked, later_level_asked, names_asked, sids_asked, is_null, attributes_head}
use Rattle.lsa_wire.specs.Arguments.{attributes_tail, quality, object_attributes, root_byte}
use Rattle.acct_stubs.specs.Outputs.{with_status}
use Rattle.lsa_wire.specs.Interface.{policy_outs, translated, translated_fields, own_replies}
use Rattle.acct_stubs.proofs.Onward.{server_name_onward, takes_unspelled}

small : Takes 0 u8
small = any_size 1 takes_u8

-- ---- the opening of the policy

takes_null : Takes 0 (pointer_such is_null)
takes_null = any_size 4 (takes_such 4 is_null takes_pointer)

head_onward : Takes 0 attributes_head
head_onward =
    takes_ignored 0 24 long
    (takes_chain 0 (any_size 4 takes_pointer)
    (λ root. takes_ignored 0 false takes_null
    (takes_ignored 0 0 long (takes_ignored 0 false takes_null (any_size 4 takes_pointer)))))

quality_onward : Takes 0 quality
unfolding quality
quality_onward =
    takes_ignored 0 0 long
    (takes_ignored 0 0 short (takes_ignored 0 0 small (takes_ignored 0 0 small (takes_given tt))))

tail_onward : (x : Bool × Bool) → Takes 0 (attributes_tail x)
tail_onward x =
    takes_ignored 0 (root_byte x.0) (takes_some small x.0)
    (takes_ignored 0 None (takes_some quality_onward x.1) (takes_given x.0))

attributes_onward : Takes 0 object_attributes
unfolding object_attributes
attributes_onward = takes_led_by 0 (λ rooted. (rooted, false)) head_onward tail_onward

connect_onward : (c : Connect) → Takes 0 (connect_args c)
unfolding connect_args
connect_onward connect.Connect2 = takes_unspelled
connect_onward connect.Connect4 = takes_unspelled
connect_onward connect.Connect5 = takes_unspelled
connect_onward connect.OpenPolicy2 =
    takes_ignored 0 tt server_name_onward (takes_made 0 _ _ (takes_chain 0 attributes_onward (λ x. long)))

-- ---- the policy and its accounts

flag_onward : Takes 0 flag
unfolding flag
flag_onward = takes_made 0 _ _ small

policy_onward : (p : PolicyFields) → Takes 0 (policy_args p)
unfolding policy_args
policy_onward policy.Account = takes_made 0 _ _ (takes_chain 0 sid_onward (λ x. long))
policy_onward policy.AddPrivileges = takes_made 0 _ _ privilege_set_onward
policy_onward policy.RemovePrivileges = takes_made 0 _ _ (takes_chain 0 flag_onward (λ x. privilege_set_pointer_onward))
policy_onward policy.SystemAccess = takes_made 0 _ _ long
policy_onward policy.Luid = takes_made 0 _ _ (takes_chain 0 long (λ x. long))
policy_onward policy.Right = takes_made 0 _ _ text_pointer_onward
policy_onward policy.AddRights = takes_made 0 _ _ (takes_chain 0 sid_onward (λ x. text_list_onward most_rights))
policy_onward policy.RemoveRights =
    takes_made 0 _ _ (takes_chain 0 sid_onward (λ x. takes_chain 0 flag_onward (λ y. text_list_onward most_rights)))

-- ---- translations

counted_onward : {S A : Type 0} (most : ℕ) (p : Part S A) → TakesPart p → Takes 0 (counted most p)
unfolding counted
counted_onward most p q =
    takes_led_by 0 length (any_size 4 (takes_such 4 _ takes_u32))
    (λ count. takes_ignored 0 count (any_size 4 (takes_such 4 _ takes_u32))
    (takes_whole (array count p) (takes_array count p q)))

level_onward : Takes 0 level_asked
level_onward = takes_followed 0 short long

later_level_onward : Takes 0 later_level_asked
later_level_onward = takes_followed 2 (takes_followed 0 level_onward long) long

names_onward : {A : Type 0} {room : Codec (List A)} {level : Codec ℕ} → Takes 0 room → Takes 0 level
    → Takes 0 (names_asked room level)
names_onward p q =
    takes_made 0 _ _
    (takes_chain 0 (counted_onward most_translated_names text takes_text) (λ x. takes_ignored 0 [] p q))

sids_onward : {A : Type 0} {room : Codec (List A)} {level : Codec ℕ} → Takes 0 room → Takes 0 level
    → Takes 0 (sids_asked room level)
sids_onward p q =
    takes_made 0 _ _ (takes_chain 0 (sid_list_onward most_translated_sids) (λ x. takes_ignored 0 [] p q))

translation_onward : (t : Translation) → Takes 0 (translation_args t)
unfolding translation_args
translation_onward translation.Names = names_onward (translated_sids_onward most_translated_names) level_onward
translation_onward translation.Sids = sids_onward (translated_names_onward most_translated_sids) level_onward
translation_onward translation.Names2 = names_onward (flagged_sids_onward most_translated_names) later_level_onward
translation_onward translation.Sids2 = sids_onward (flagged_names_onward most_translated_sids) later_level_onward
translation_onward translation.Names3 = names_onward (sid_refs_onward most_translated_names) later_level_onward

pub fields_onward : (f : Fields) → Takes 0 (own_fields f)
unfolding own_fields
fields_onward (fields.Connect c) = connect_onward c
fields_onward (fields.Policy p) = policy_onward p
fields_onward (fields.Translation t) = translation_onward t
fields_onward (fields.Scalar p) = takes_unspelled
fields_onward (fields.Search s) = takes_unspelled
fields_onward (fields.Creation c) = takes_unspelled
fields_onward (fields.Class s) = takes_unspelled
fields_onward (fields.Put s) = takes_unspelled
fields_onward (fields.Security s) = takes_unspelled

-- ---- replies

outs_onward : (p : PolicyOutputs) → Takes 0 (policy_outs p)
unfolding policy_outs
outs_onward outs.PrivilegePage = takes_made 0 _ _ (takes_chain 0 long (λ x. privilege_names_onward))
outs_onward outs.SidPage = takes_made 0 _ _ (takes_chain 0 long (λ x. sid_list_onward any))
outs_onward outs.Privileges = takes_made 0 _ _ privilege_set_pointer_onward
outs_onward outs.SystemAccess = takes_made 0 _ _ long
outs_onward outs.Luid = takes_made 0 _ _ (takes_chain 0 long (λ x. long))
outs_onward outs.Name = takes_made 0 _ _ text_pointer_onward
outs_onward outs.Rights = takes_made 0 _ _ (text_list_onward any)

translated_fields_onward : {A : Type 0} {entries : Codec (List A)} → Takes 0 entries
    → Takes 0 (translated_fields entries)
translated_fields_onward p =
    takes_chain 0 referenced_onward (λ x. takes_chain 0 p (λ y. takes_chain 0 long (λ z. long)))

translated_onward : (t : Translation) → Takes 0 (translated t)
unfolding translated
translated_onward translation.Names = takes_made 0 _ _ (translated_fields_onward (translated_sids_onward any))
translated_onward translation.Sids = takes_made 0 _ _ (translated_fields_onward (translated_names_onward any))
translated_onward translation.Names2 = takes_made 0 _ _ (translated_fields_onward (flagged_sids_onward any))
translated_onward translation.Sids2 = takes_made 0 _ _ (translated_fields_onward (flagged_names_onward any))
translated_onward translation.Names3 = takes_made 0 _ _ (translated_fields_onward (sid_refs_onward any))

status_onward : (p : PolicyOutputs) → Takes 0 (with_status (policy_outs p))
unfolding with_status
status_onward p = takes_made 0 _ _ (takes_chain 0 (outs_onward p) (λ x. long))

pub replies_onward : (o : Outputs) → Takes 0 (own_replies o)
unfolding own_replies
replies_onward (outputs.Policy p) = status_onward p
replies_onward (outputs.Translation t) = translated_onward t
replies_onward (outputs.Scalar p) = takes_unspelled
replies_onward (outputs.Listed l) = takes_unspelled
replies_onward (outputs.Shown s) = takes_unspelled
replies_onward outputs.Security = takes_unspelled

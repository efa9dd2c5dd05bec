-- What stands in the replies that this interface has alone, and the interface.
use Rattle.std.specs.Prelude.{ℕ, Option, Some, None, List, [], if◌then◌else◌}
use Rattle.dtyp_sid.specs.Sids.{SidValue}
use Rattle.acct_calls.specs.declared.calls.Face.TheVariants.{Lsa}
use Rattle.acct_calls.specs.declared.lists.Privilege.{Privilege}
use Rattle.acct_calls.specs.declared.lists.ReferencedDomain.{ReferencedDomain}
use Rattle.acct_calls.specs.declared.lists.RidName.{RidName}
use Rattle.acct_calls.specs.declared.lists.SidRef.{SidRef}
use Rattle.acct_calls.specs.declared.lists.TranslatedName.{TranslatedName}
use Rattle.acct_calls.specs.declared.lists.TranslatedSid.{TranslatedSid}
use Rattle.acct_calls.specs.declared.replies.Outs.{Outs}
use Rattle.acct_calls.specs.declared.replies.Outs.TheVariants as outs
use Rattle.acct_calls.specs.declared.replies.Reply.{Reply}
use Rattle.acct_calls.specs.declared.replies.Reply.TheVariants as reply
use Rattle.ndr_core.specs.Codec.{Codec}
use Rattle.ndr_core.specs.Shapes.{u32, unspelled, chain, made}
use Rattle.acct_layouts.specs.Refusals.{is_refusal}
use Rattle.acct_layouts.specs.declared.fields.Translation.{Translation}
use Rattle.acct_layouts.specs.declared.fields.Translation.TheVariants as translation
use Rattle.acct_layouts.specs.declared.outputs.Outputs.{Outputs}
use Rattle.acct_layouts.specs.declared.outputs.Outputs.TheVariants as outputs
use Rattle.acct_layouts.specs.declared.outputs.PolicyOutputs.{PolicyOutputs}
use Rattle.acct_layouts.specs.declared.outputs.PolicyOutputs.TheVariants as policy
use Rattle.ndr_types.specs.Listed.{any, privilege_names}
use Rattle.ndr_types.specs.Translations.{or_empty, referenced, flagged_names, flagged_sids, sid_refs, translated_names}
use Rattle.ndr_types.specs.Translations.{translated_sids}
use Rattle.ndr_types.specs.Values.{sid_list, text_list, text_pointer, privilege_set_pointer}
use Rattle.acct_stubs.specs.Outputs.{with_status}
use Rattle.acct_stubs.specs.Arguments.{Wire}
use Rattle.lsa_wire.specs.Arguments.{own_fields}

-- ======== what stands in the replies that this interface has alone: the fields of each layout, as they stand in the
-- IDL, and the replies that they make

-- ---- what is written for outputs: their parts, in the fields' order

abbrev pub privilege_page_out : Outs → ℕ × List RidName
privilege_page_out (outs.PrivilegePage context entries) = (context, entries)
privilege_page_out _ = (0, [])

abbrev pub sid_page_out : Outs → ℕ × List SidValue
sid_page_out (outs.SidPage context sids) = (context, sids)
sid_page_out _ = (0, [])

abbrev pub privileges_out : Outs → Option (List Privilege)
privileges_out (outs.Privileges privileges) = privileges
privileges_out _ = None

abbrev pub bits_out : Outs → ℕ
bits_out (outs.Bits bits) = bits
bits_out _ = 0

abbrev pub luid_out : Outs → ℕ × ℕ
luid_out (outs.Luid low high) = (low, high)
luid_out _ = (0, 0)

abbrev pub name_out : Outs → Option (List ℕ)
name_out (outs.OneName name) = name
name_out _ = None

abbrev pub names_out : Outs → List (List ℕ)
names_out (outs.NameList names) = names
names_out _ = []

-- ---- the policy and its accounts

unfoldable pub policy_outs : PolicyOutputs → Codec Outs
-- EnumerationContext, EnumerationBuffer
policy_outs policy.PrivilegePage =
    made (λ (context, entries). outs.PrivilegePage context entries) privilege_page_out
    (chain u32 (λ _. privilege_names))
-- EnumerationContext, EnumerationBuffer
policy_outs policy.SidPage =
    made (λ (context, sids). outs.SidPage context sids) sid_page_out (chain u32 (λ _. sid_list any))
-- Privileges
policy_outs policy.Privileges = made outs.Privileges privileges_out privilege_set_pointer
-- SystemAccess
policy_outs policy.SystemAccess = made outs.Bits bits_out u32
-- Value
policy_outs policy.Luid = made (λ (low, high). outs.Luid low high) luid_out (chain u32 (λ _. u32))
-- Name
policy_outs policy.Name = made outs.OneName name_out text_pointer
-- UserRights
policy_outs policy.Rights = made outs.NameList names_out (text_list any)

-- ---- translations

-- A refusal, which refers to no domain, has a null pointer; another reply has a list, which may be empty.
abbrev pub referred_of : ℕ → List ReferencedDomain → Option (List ReferencedDomain)
referred_of status domains = if is_refusal status then None else Some domains

-- ReferencedDomains, the translations, MappedCount and the status
abbrev pub TranslatedParts : Type 0 → Type 0
TranslatedParts A = Option (List ReferencedDomain) × (List A × (ℕ × ℕ))

abbrev pub sids_done : TranslatedParts TranslatedSid → Reply
sids_done = λ (domains, (entries, (mapped, status))). reply.Done status (outs.Sids (or_empty domains) entries mapped)

abbrev pub sids_parts : Reply → TranslatedParts TranslatedSid
sids_parts (reply.Done status (outs.Sids domains entries mapped)) =
    (referred_of status domains, (entries, (mapped, status)))
sids_parts _ = (None, ([], (0, 0)))

abbrev pub names_done : TranslatedParts TranslatedName → Reply
names_done = λ (domains, (entries, (mapped, status))). reply.Done status (outs.Names (or_empty domains) entries mapped)

abbrev pub names_parts : Reply → TranslatedParts TranslatedName
names_parts (reply.Done status (outs.Names domains entries mapped)) =
    (referred_of status domains, (entries, (mapped, status)))
names_parts _ = (None, ([], (0, 0)))

abbrev pub refs_done : TranslatedParts SidRef → Reply
refs_done = λ (domains, (entries, (mapped, status))). reply.Done status (outs.SidRefs (or_empty domains) entries mapped)

abbrev pub refs_parts : Reply → TranslatedParts SidRef
refs_parts (reply.Done status (outs.SidRefs domains entries mapped)) =
    (referred_of status domains, (entries, (mapped, status)))
refs_parts _ = (None, ([], (0, 0)))

abbrev pub translated_fields : {A : Type 0} → Codec (List A) → Codec (TranslatedParts A)
translated_fields entries = chain referenced (λ _. chain entries (λ _. chain u32 (λ _. u32)))

-- ReferencedDomains, TranslatedSids or TranslatedNames, MappedCount
unfoldable pub translated : Translation → Codec Reply
translated translation.Names = made sids_done sids_parts (translated_fields (translated_sids any))
translated translation.Sids = made names_done names_parts (translated_fields (translated_names any))
translated translation.Names2 = made sids_done sids_parts (translated_fields (flagged_sids any))
translated translation.Sids2 = made names_done names_parts (translated_fields (flagged_names any))
translated translation.Names3 = made refs_done refs_parts (translated_fields (sid_refs any))

-- ---- whole replies

unfoldable pub own_replies : Outputs → Codec Reply
own_replies (outputs.Policy p) = with_status (policy_outs p)
own_replies (outputs.Translation t) = translated t
own_replies _ = unspelled

-- ======== the interface of policy, rights and translation, by the codecs of the layouts that it has alone

abbrev pub lsa : Wire
lsa = record { face = Lsa; fields = own_fields; replies = own_replies }

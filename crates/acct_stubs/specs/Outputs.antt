-- What stands in the stubs of replies: the fields of each layout that both interfaces have, as they stand in the IDL,
-- and the outputs that they make, and then the status.
use Rattle.std.specs.Prelude.{ℕ, Bool, ◌==◌, Option, Some, None, List, [], length}
use Rattle.ndr_core.specs.Codec.{Codec}
use Rattle.ndr_core.specs.Cursor.{is_zero}
use Rattle.ndr_core.specs.Parts.{list_of, pointer_to, whole}
use Rattle.ndr_core.specs.Shapes.{chain, given, ignored, made, u32, u32_such}
use Rattle.dtyp_sid.specs.Sids.{SidValue}
use Rattle.acct_calls.specs.declared.handle.Handle.{Handle}
use Rattle.acct_calls.specs.declared.info.Info.{Info}
use Rattle.acct_calls.specs.declared.lists.DisplayRow.{DisplayRow}
use Rattle.acct_calls.specs.declared.lists.RidBits.{RidBits}
use Rattle.acct_calls.specs.declared.lists.RidName.{RidName}
use Rattle.acct_calls.specs.declared.replies.Outs.{Outs}
use Rattle.acct_calls.specs.declared.replies.Outs.TheVariants as outs
use Rattle.acct_calls.specs.declared.replies.Reply.{Reply}
use Rattle.acct_calls.specs.declared.replies.Reply.TheVariants as reply
use Rattle.acct_layouts.specs.declared.classes.Subject.{Subject}
use Rattle.acct_layouts.specs.declared.outputs.Listed.{Listed}
use Rattle.acct_layouts.specs.declared.outputs.Listed.TheVariants as listed
use Rattle.acct_layouts.specs.declared.outputs.Outputs.{Outputs}
use Rattle.acct_layouts.specs.declared.outputs.Outputs.TheVariants as outputs
use Rattle.acct_layouts.specs.declared.outputs.ScalarOutputs.{ScalarOutputs}
use Rattle.acct_layouts.specs.declared.outputs.ScalarOutputs.TheVariants as scalar
use Rattle.ndr_types.specs.Listed.{any, rid_names, rid_bits}
use Rattle.ndr_types.specs.Values.{handle, handle_of, rid_list, sid_list, text_list, sid}
use Rattle.acct_stubs.specs.Infos.{displayed, class_shown, members}
use Rattle.acct_stubs.specs.Arguments.{security_outs, Wire}

-- ---- what is written for outputs: their parts, in the fields' order

abbrev pub handle_out : Outs → Handle
handle_out (outs.Handle h) = h
handle_out _ = handle_of 0

abbrev pub created_out : Outs → Handle × ℕ
created_out (outs.Created h granted rid) = (h, rid)
created_out _ = (handle_of 0, 0)

abbrev pub granted_out : Outs → Handle × (ℕ × ℕ)
granted_out (outs.Created h granted rid) = (h, (granted, rid))
granted_out _ = (handle_of 0, (0, 0))

abbrev pub sid_out : Outs → Option SidValue
sid_out (outs.OneSid s) = s
sid_out _ = None

-- the number of a list's elements, 0 for a null pointer
abbrev pub how_many : Option (List RidName) → ℕ
how_many None = 0
how_many (Some entries) = length entries

abbrev pub page_out : Outs → ℕ × (Option (List RidName) × ℕ)
page_out (outs.Page context entries) = (context, (entries, how_many entries))
page_out _ = (0, (None, 0))

abbrev pub rids_out : Outs → List ℕ
rids_out (outs.RidList rids) = rids
rids_out _ = []

abbrev pub rid_uses_out : Outs → List ℕ × List ℕ
rid_uses_out (outs.RidUses rids uses) = (rids, uses)
rid_uses_out _ = ([], [])

abbrev pub name_uses_out : Outs → List (List ℕ) × List ℕ
name_uses_out (outs.NameUses names uses) = (names, uses)
name_uses_out _ = ([], [])

abbrev pub pairs_out : Outs → Option (List RidBits)
pairs_out (outs.Pairs pairs) = pairs
pairs_out _ = None

abbrev pub sids_out : Outs → List SidValue
sids_out (outs.SidList sids) = sids
sids_out _ = []

abbrev pub display_out : Outs → ℕ × (ℕ × (ℕ × List DisplayRow))
display_out (outs.Display class total returned rows) = (total, (returned, (class, rows)))
display_out _ = (0, (0, (0, [])))

abbrev pub shown_out : Outs → ℕ × Option Info
shown_out (outs.Shown class value) = (class, value)
shown_out _ = (0, None)

-- ---- the layouts

abbrev pub is_one : ℕ → Bool
is_one n = n == 1

abbrev pub is_three : ℕ → Bool
is_three n = n == 3

-- OutVersion, which is 1, and OutRevisionInfo (SAMPR_REVISION_INFO, MS-SAMR 2.2.3.16): the tag 1, Revision 3,
-- SupportedFeatures 0
unfoldable pub revision_answered : Codec (Unit {0})
revision_answered =
    ignored 1 (u32_such is_one)
    (ignored 1 (u32_such is_one) (ignored 3 (u32_such is_three) (ignored 0 (u32_such is_zero) (given tt))))

unfoldable pub plain_outs : ScalarOutputs → Codec Outs
plain_outs scalar.Nothing = given outs.Nothing
-- a handle
plain_outs scalar.Handle = made outs.Handle handle_out handle
-- the handle that the call brought
plain_outs scalar.HandleBack = made outs.Handle handle_out handle
-- OutVersion, OutRevisionInfo, ServerHandle
plain_outs scalar.Connected = ignored tt revision_answered (made outs.Handle handle_out handle)
-- a handle, and the relative identifier of the new account
plain_outs scalar.Created = made (λ (h, rid). outs.Created h 0 rid) created_out (chain handle (λ _. u32))
-- UserHandle, GrantedAccess, RelativeId
plain_outs scalar.Granted =
    made (λ (h, (granted, rid)). outs.Created h granted rid) granted_out (chain handle (λ _. chain u32 (λ _. u32)))
-- a pointer to a SID
plain_outs scalar.Sid = made outs.OneSid sid_out (whole (pointer_to sid))

unfoldable pub listed_outs : Listed → Codec Outs
-- EnumerationContext, Buffer, CountReturned, which isn't looked at
listed_outs listed.Page =
    made (λ (context, (entries, _)). outs.Page context entries) page_out (chain u32 (λ _. chain rid_names (λ _. u32)))
-- Membership
listed_outs listed.Rids = made outs.RidList rids_out (rid_list any)
-- RelativeIds, Use
listed_outs listed.RidUses =
    made (λ (rids, uses). outs.RidUses rids uses) rid_uses_out (chain (rid_list any) (λ _. rid_list any))
-- Names, Use
listed_outs listed.NameUses =
    made (λ (names, uses). outs.NameUses names uses) name_uses_out (chain (text_list any) (λ _. rid_list any))
-- Groups: a pointer to SAMPR_GET_GROUPS_BUFFER (MS-SAMR 2.2.3.13)
listed_outs listed.Groups = made outs.Pairs pairs_out (whole (pointer_to (list_of any rid_bits)))
-- Members: a pointer to SAMPR_GET_MEMBERS_BUFFER
listed_outs listed.Members = made outs.Pairs pairs_out members
-- Members
listed_outs listed.Sids = made outs.SidList sids_out (sid_list any)
-- TotalAvailable, TotalReturned, Buffer
listed_outs listed.Display =
    made (λ (total, (returned, (class, rows))). outs.Display class total returned rows) display_out
    (chain u32 (λ _. chain u32 (λ _. displayed)))

-- ---- whole replies: the outputs, and the status

abbrev pub done_of : Outs × ℕ → Reply
done_of x = reply.Done x.1 x.0

-- a fault has no stub
abbrev pub parts_of_reply : Reply → Outs × ℕ
parts_of_reply (reply.Done status o) = (o, status)
parts_of_reply (reply.Fault status) = (outs.Nothing, 0)

unfoldable pub with_status : Codec Outs → Codec Reply
with_status o = made done_of parts_of_reply (chain o (λ _. u32))

unfoldable pub shown_outs : Subject → Codec Outs
shown_outs s = made (λ (class, value). outs.Shown class value) shown_out (class_shown s)

unfoldable pub reply_stub : Wire → Outputs → Codec Reply
reply_stub w (outputs.Scalar p) = with_status (plain_outs p)
reply_stub w (outputs.Listed l) = with_status (listed_outs l)
reply_stub w (outputs.Shown s) = with_status (shown_outs s)
reply_stub w outputs.Security = with_status security_outs
-- what the interface has alone
reply_stub w (outputs.Policy p) = w.replies (outputs.Policy p)
reply_stub w (outputs.Translation t) = w.replies (outputs.Translation t)

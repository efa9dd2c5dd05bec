-- Reading a stub goes onward, and so takes no memory: of each layout, from the shapes that it is made of.
use Rattle.std.proofs.Common.{◌≡◌, ℕ, Bool, true, false, cond, List, [], length, Option, Some, None, Result, Ok, Err}
use Rattle.std.proofs.Common.{arith}
use Rattle.ndr_core.specs.Codec.{Codec}
use Rattle.ndr_core.specs.Cursor.{Cursor, is_zero}
use Rattle.ndr_core.specs.Parts.{Part, array, flat, list_of, pointer_to, whole}
use Rattle.ndr_core.specs.Shapes.{chain, u32, unspelled}
use Rattle.ndr_core.specs.declared.error.NdrError.{NdrError}
use Rattle.ndr_core.specs.declared.error.NdrError.TheVariants as ndr
use Rattle.acct_codes.specs.Limits.{most_searched, most_member_sids}
use Rattle.acct_calls.specs.declared.calls.Args.{Args}
use Rattle.acct_calls.specs.declared.calls.Args.TheVariants as args
use Rattle.acct_calls.specs.declared.calls.Call.{Call}
use Rattle.acct_calls.specs.declared.calls.Face.{Face}
use Rattle.acct_calls.specs.declared.handle.Handle.{Handle}
use Rattle.acct_calls.specs.declared.info.Info.TheVariants as info
use Rattle.acct_calls.specs.declared.replies.Outs.{Outs}
use Rattle.acct_calls.specs.declared.replies.Outs.TheVariants as outs
use Rattle.acct_calls.specs.declared.replies.Reply.{Reply}
use Rattle.acct_layouts.specs.Values.{set_arm, shown_arm}
use Rattle.acct_layouts.specs.Table.{layout_of}
use Rattle.acct_layouts.specs.declared.classes.Arm.{Arm}
use Rattle.acct_layouts.specs.declared.classes.Arm.TheVariants as arm
use Rattle.acct_layouts.specs.declared.classes.Subject.{Subject}
use Rattle.acct_layouts.specs.declared.fields.Fields.{Fields}
use Rattle.acct_layouts.specs.declared.fields.Fields.TheVariants as fields
use Rattle.acct_layouts.specs.declared.fields.ScalarFields.{ScalarFields}
use Rattle.acct_layouts.specs.declared.fields.ScalarFields.TheVariants as plain
use Rattle.acct_layouts.specs.declared.fields.Search.{Search}
use Rattle.acct_layouts.specs.declared.fields.Search.TheVariants as search
use Rattle.acct_layouts.specs.declared.outputs.Listed.{Listed}
use Rattle.acct_layouts.specs.declared.outputs.Listed.TheVariants as listed
use Rattle.acct_layouts.specs.declared.outputs.Outputs.{Outputs}
use Rattle.acct_layouts.specs.declared.outputs.Outputs.TheVariants as outputs
use Rattle.acct_layouts.specs.declared.outputs.ScalarOutputs.{ScalarOutputs}
use Rattle.acct_layouts.specs.declared.outputs.ScalarOutputs.TheVariants as scalar
use Rattle.acct_layouts.specs.declared.table.Layout.{Layout}
use Rattle.ndr_types.proofs.Onward.{Takes, TakesPart, any_size, handle_onward, list_onward, long, rid_list_onward}
use Rattle.ndr_types.proofs.Onward.{short}
use Rattle.ndr_types.proofs.Onward.{rid_names_onward, sid_list_onward, sid_onward, takes_array, takes_chain, takes_flat}
use Rattle.ndr_types.proofs.Onward.{such_long, takes_padding}
use Rattle.ndr_types.proofs.Onward.{takes_given, takes_ignored, takes_join, takes_led_by, takes_made, takes_pointer}
use Rattle.ndr_types.proofs.Onward.{takes_pointer_to, takes_sid_pointer, takes_such, takes_text, takes_times, takes_u16}
use Rattle.ndr_types.proofs.Onward.{takes_varying, takes_whole, text_list_onward, text_onward}
use Rattle.ndr_types.specs.Listed.{any, membership, rid_bits}
use Rattle.ndr_types.specs.Values.{handle, sid, sid_pointer, text, text_tail}
use Rattle.ndr_types.specs.Laws.{Onward}
use Rattle.acct_stubs.specs.Arguments.{arguments, plain_args, searched, sought, server_name, string, Wire}
use Rattle.acct_stubs.proofs.DisplayValues.{displayed_onward}
use Rattle.acct_stubs.proofs.SecurityValues.{outs_onward, security_onward}
use Rattle.acct_stubs.specs.Calls.{NoCallWantsMemory, call_at, call_in, call_read, is_withheld, start, stub_of}
use Rattle.acct_stubs.specs.Infos.{class_set, class_shown, empty_text, named_value, set_value, value_of, members}
use Rattle.acct_stubs.specs.Infos.{members_buffer, numbers}
use Rattle.acct_stubs.specs.Lawful.{IsLawful}
use Rattle.acct_stubs.specs.Outputs.{is_one, is_three, listed_outs, plain_outs, reply_stub, revision_answered}
use Rattle.acct_stubs.specs.Outputs.{shown_outs, with_status}
use Rattle.acct_stubs.specs.Replies.{NoReplyWantsMemory, reply_at, reply_in, reply_read}
use Rattle.acct_stubs.specs.declared.errors.WireError.{WireError}
use Rattle.acct_stubs.specs.declared.errors.WireError.TheVariants.{Memory, NotServed}

to_value : {A : Type 0} (a : Codec A) → Takes 0 a → Takes 0 (whole (pointer_to a))
to_value a p = takes_whole (pointer_to a) (takes_pointer_to a p)

-- ---- openings

string_onward : Takes 0 string
string_onward =
    takes_led_by 0 length long
    (λ maximum. takes_led_by 0 length (any_size 4 (takes_varying maximum)) (λ actual. takes_times actual short))

pub server_name_onward : Takes 0 server_name
unfolding server_name
server_name_onward = takes_made 0 _ _ (to_value string string_onward)

-- ---- numbers, SIDs and texts

plain_onward : (p : ScalarFields) → Takes 0 (plain_args p)
unfolding plain_args
plain_onward plain.Nothing = takes_given args.Nothing
plain_onward plain.Rid = takes_made 0 _ _ long
plain_onward plain.Member = takes_made 0 _ _ (takes_chain 0 long (λ x. long))
plain_onward plain.Sid = takes_made 0 _ _ sid_onward
plain_onward plain.Name = takes_made 0 _ _ text_onward
plain_onward plain.OpenDomain = takes_made 0 _ _ (takes_chain 0 long (λ x. sid_onward))
plain_onward plain.OpenAccount = takes_made 0 _ _ (takes_chain 0 long (λ x. long))

-- ---- lists

sought_onward : {S A : Type 0} (p : Part S A) → TakesPart p → Takes 0 (sought p)
unfolding sought
sought_onward p q =
    takes_led_by 0 length (such_long _)
    (λ count.
    takes_ignored 0 most_searched (such_long _)
    (takes_ignored 0 0 (such_long is_zero)
    (takes_ignored 0 count (such_long _) (takes_whole (array count p) (takes_array count p q)))))

searched_onward : (s : Search) → Takes 0 (searched s)
unfolding searched
searched_onward search.Page = takes_made 0 _ _ (takes_chain 0 long (λ x. long))
searched_onward search.FilteredPage = takes_made 0 _ _ (takes_chain 0 long (λ x. takes_chain 0 long (λ y. long)))
searched_onward search.Sids = takes_made 0 _ _ (sid_list_onward most_member_sids)
searched_onward search.Names = takes_made 0 _ _ (sought_onward text takes_text)
searched_onward search.Display =
    takes_made 0 _ _ (takes_chain 0 short (λ x. takes_chain 0 long (λ y. takes_chain 0 long (λ z. long))))
searched_onward search.Rids = takes_made 0 _ _ (sought_onward (flat u32) (takes_flat u32 long))

-- ---- information classes

text_tail_onward : (s : ℕ × Bool) → Takes 0 (text_tail s)
unfolding text
text_tail_onward s = takes_text.tail s

takes_empty : TakesPart empty_text
unfolding empty_text
takes_empty = record {
  head = takes_chain 0 (any_size 2 (takes_such 2 is_zero takes_u16))
      (λ n. takes_ignored 0 n short (any_size 4 takes_pointer));
  tail = λ s. takes_made 0 _ _ (text_tail_onward s);
}

takes_long : TakesPart (flat u32)
takes_long = takes_flat u32 long

value_onward : (a : Arm) → Takes 0 (value_of a)
unfolding value_of
value_onward arm.Number = takes_made 0 _ _ long
value_onward arm.Text = takes_made 0 _ _ text_onward
value_onward arm.TwoTexts = takes_made 0 _ _ (takes_whole _ (takes_join text text takes_text takes_text))
value_onward arm.Group =
    takes_made 0 _ _
    (takes_whole _
    (takes_join text _ takes_text
    (takes_join (flat u32) _ takes_long (takes_join (flat u32) text takes_long takes_text))))
value_onward arm.Alias =
    takes_made 0 _ _ (takes_whole _ (takes_join text _ takes_text (takes_join (flat u32) text takes_long takes_text)))
value_onward arm.Place = takes_made 0 _ _ (takes_whole _ (takes_join text sid_pointer takes_text takes_sid_pointer))
value_onward arm.User =
    takes_made 0 _ _
    (takes_whole _
    (takes_join text _ takes_text
    (takes_join text _ takes_text
    (takes_join (flat u32) _ takes_long (takes_join text empty_text takes_text takes_empty)))))

set_value_onward : (class : ℕ) (a : Option Arm) → Takes 0 (set_value class a)
set_value_onward class None = takes_given info.Unserved
set_value_onward class (Some a) =
    takes_ignored 0 class (any_size 2 (takes_such 2 _ takes_u16)) (takes_ignored 0 tt takes_padding (value_onward a))

class_set_onward : (s : Subject) → Takes 0 (class_set s)
unfolding class_set
class_set_onward s = takes_chain 0 short (λ class. set_value_onward class (set_arm s class))

named_onward : (a : Option Arm) → Takes 0 (named_value a)
named_onward None = takes_given info.Unserved
named_onward (Some a) = takes_ignored 0 tt takes_padding (value_onward a)

class_shown_onward : (s : Subject) → Takes 0 (class_shown s)
unfolding class_shown
class_shown_onward s =
    takes_made 0 _ _
    (to_value _ (takes_chain 0 (any_size 2 (takes_such 2 _ takes_u16)) (λ class. named_onward (shown_arm s class))))

-- ---- members and groups

takes_rid_bits : TakesPart rid_bits
unfolding rid_bits membership
takes_rid_bits = takes_flat _ (takes_made 0 _ _ (takes_chain 0 long (λ x. long)))

numbers_onward : (count : ℕ) (there : Bool) → Takes 0 (numbers count there)
numbers_onward count true = takes_ignored 0 count (such_long _) (takes_times count long)
numbers_onward count false = takes_given []

takes_buffer : TakesPart members_buffer
unfolding members_buffer
takes_buffer = record {
  head = takes_chain 0 long
      (λ count.
      takes_chain 0 (any_size 4 (takes_such 4 _ takes_pointer)) (λ x. any_size 4 (takes_such 4 _ takes_pointer)));
  tail = λ s. takes_made 0 _ _ (takes_chain 0 (numbers_onward s.0 s.1.0) (λ x. numbers_onward s.0 s.1.1));
}

members_onward : Takes 0 members
unfolding members
members_onward = to_value (whole members_buffer) (takes_whole members_buffer takes_buffer)

-- ---- outputs

revision_answered_onward : Takes 0 revision_answered
unfolding revision_answered
revision_answered_onward =
    takes_ignored 0 1 (such_long is_one)
    (takes_ignored 0 1 (such_long is_one)
    (takes_ignored 0 3 (such_long is_three) (takes_ignored 0 0 (such_long is_zero) (takes_given tt))))

scalar_onward : (p : ScalarOutputs) → Takes 0 (plain_outs p)
unfolding plain_outs
scalar_onward scalar.Nothing = takes_given outs.Nothing
scalar_onward scalar.Handle = takes_made 0 _ _ handle_onward
scalar_onward scalar.HandleBack = takes_made 0 _ _ handle_onward
scalar_onward scalar.Connected = takes_ignored 0 tt revision_answered_onward (takes_made 0 _ _ handle_onward)
scalar_onward scalar.Created = takes_made 0 _ _ (takes_chain 0 handle_onward (λ x. long))
scalar_onward scalar.Granted = takes_made 0 _ _ (takes_chain 0 handle_onward (λ x. takes_chain 0 long (λ y. long)))
scalar_onward scalar.Sid = takes_made 0 _ _ (to_value sid sid_onward)

listed_onward : (l : Listed) → Takes 0 (listed_outs l)
unfolding listed_outs
listed_onward listed.Page = takes_made 0 _ _ (takes_chain 0 long (λ x. takes_chain 0 rid_names_onward (λ y. long)))
listed_onward listed.Rids = takes_made 0 _ _ (rid_list_onward any)
listed_onward listed.RidUses = takes_made 0 _ _ (takes_chain 0 (rid_list_onward any) (λ x. rid_list_onward any))
listed_onward listed.NameUses = takes_made 0 _ _ (takes_chain 0 (text_list_onward any) (λ x. rid_list_onward any))
listed_onward listed.Groups =
    takes_made 0 _ _ (to_value (list_of any rid_bits) (list_onward any rid_bits takes_rid_bits))
listed_onward listed.Members = takes_made 0 _ _ members_onward
listed_onward listed.Sids = takes_made 0 _ _ (sid_list_onward any)
listed_onward listed.Display = takes_made 0 _ _ (takes_chain 0 long (λ x. takes_chain 0 long (λ y. displayed_onward)))

shown_onward : (s : Subject) → Takes 0 (shown_outs s)
unfolding shown_outs
shown_onward s = takes_made 0 _ _ (class_shown_onward s)

status_onward : {o : Codec Outs} → Takes 0 o → Takes 0 (with_status o)
unfolding with_status
status_onward p = takes_made 0 _ _ (takes_chain 0 p (λ x. long))

-- ---- whole stubs

pub takes_unspelled : {A : Type 0} → Takes 0 (unspelled {A = A})
takes_unspelled = record { onward = λ c. omega arith }

own_onward : (w : Wire) → IsLawful w → (f : Fields) → Takes 0 (w.fields f)
own_onward w l f = record { onward = l.onward f }

own_reply : (w : Wire) → IsLawful w → (o : Outputs) → Takes 0 (w.replies o)
own_reply w l o = record { onward = l.reply_onward o }

arguments_onward : (w : Wire) → IsLawful w → (f : Fields) → Takes 0 (arguments w f)
unfolding arguments
arguments_onward w l (fields.Connect c) = own_onward w l (fields.Connect c)
arguments_onward w l (fields.Scalar p) = plain_onward p
arguments_onward w l (fields.Search s) = searched_onward s
arguments_onward w l (fields.Creation c) = own_onward w l (fields.Creation c)
arguments_onward w l (fields.Class s) = takes_made 0 _ _ short
arguments_onward w l (fields.Put s) = takes_made 0 _ _ (class_set_onward s)
arguments_onward w l (fields.Policy p) = own_onward w l (fields.Policy p)
arguments_onward w l (fields.Translation t) = own_onward w l (fields.Translation t)
arguments_onward w l (fields.Security s) = security_onward s

behind_handle : (w : Wire) → IsLawful w → (f : Fields) → Takes 0 (chain handle (λ _. arguments w f))
behind_handle w l f = takes_chain 0 handle_onward (λ x. arguments_onward w l f)

pub stub_onward : (w : Wire) → IsLawful w → (f : Fields) → Takes 0 (stub_of w f)
unfolding stub_of
stub_onward w l (fields.Connect c) = takes_made 0 _ _ (arguments_onward w l (fields.Connect c))
stub_onward w l (fields.Scalar p) = behind_handle w l (fields.Scalar p)
stub_onward w l (fields.Search s) = behind_handle w l (fields.Search s)
stub_onward w l (fields.Creation c) = behind_handle w l (fields.Creation c)
stub_onward w l (fields.Class s) = behind_handle w l (fields.Class s)
stub_onward w l (fields.Put s) = behind_handle w l (fields.Put s)
stub_onward w l (fields.Policy p) = behind_handle w l (fields.Policy p)
stub_onward w l (fields.Translation t) = behind_handle w l (fields.Translation t)
stub_onward w l (fields.Security s) = behind_handle w l (fields.Security s)

pub reply_onward : (w : Wire) → IsLawful w → (o : Outputs) → Takes 0 (reply_stub w o)
unfolding reply_stub
reply_onward w l (outputs.Scalar p) = status_onward (scalar_onward p)
reply_onward w l (outputs.Listed k) = status_onward (listed_onward k)
reply_onward w l (outputs.Shown s) = status_onward (shown_onward s)
reply_onward w l (outputs.Policy p) = own_reply w l (outputs.Policy p)
reply_onward w l (outputs.Translation t) = own_reply w l (outputs.Translation t)
reply_onward w l outputs.Security = status_onward outs_onward

-- ---- memory doesn't run out

calls_want_none : (face : Face) (opnum : ℕ) (r : Result ((Handle × Args) × Cursor) NdrError) → Onward 0 0 r
    → call_read face opnum r ≡ Err Memory → ⊥
calls_want_none face opnum (Ok x) h e = cc
calls_want_none face opnum (Err (ndr.Short bad)) h e = cc
calls_want_none face opnum (Err (ndr.Count bad)) h e = cc
calls_want_none face opnum (Err ndr.Memory) h e = h

replies_want_none : (r : Result (Reply × Cursor) NdrError) → Onward 0 0 r → reply_read r ≡ Err Memory → ⊥
replies_want_none (Ok x) h e = cc
replies_want_none (Err (ndr.Short bad)) h e = cc
replies_want_none (Err (ndr.Count bad)) h e = cc
replies_want_none (Err ndr.Memory) h e = h

not_served : (b : Bool) (opnum : ℕ) (r : Result Call WireError) → (r ≡ Err Memory → ⊥)
    → cond b (Err (NotServed opnum)) r ≡ Err Memory → ⊥
not_served true opnum r none e = cc
not_served false opnum r none e = none e

call_wants_none : (w : Wire) → IsLawful w → (opnum : ℕ) (layout : Option Layout) (stub : List ℕ)
    → call_in w opnum layout stub ≡ Err Memory → ⊥
call_wants_none w l opnum None stub e = cc
call_wants_none w l opnum (Some layout) stub e =
    let r = (stub_of w layout.fields).read (start stub) in
    let onward = (stub_onward w l layout.fields).onward (start stub) in
    let none = calls_want_none w.face opnum r onward in
    not_served (is_withheld layout.fields stub) opnum (call_read w.face opnum r) none e

reply_wants_none : (w : Wire) → IsLawful w → (opnum : ℕ) (layout : Option Layout) (stub : List ℕ)
    → reply_in w opnum layout stub ≡ Err Memory → ⊥
reply_wants_none w l opnum None stub e = cc
reply_wants_none w l opnum (Some layout) stub e =
    let onward = (reply_onward w l layout.outputs).onward (start stub) in
    replies_want_none ((reply_stub w layout.outputs).read (start stub)) onward e

pub no_call_wants_memory : (w : Wire) → IsLawful w → NoCallWantsMemory w
unfolding call_at
no_call_wants_memory w l opnum stub e = call_wants_none w l opnum (layout_of w.face opnum) stub e

pub no_reply_wants_memory : (w : Wire) → IsLawful w → NoReplyWantsMemory w
unfolding reply_at
no_reply_wants_memory w l opnum stub e = reply_wants_none w l opnum (layout_of w.face opnum) stub e

-- What some stub spells can be written: of each layout of a reply, from the shapes that it is made of.
use Rattle.std.proofs.Common.{◌≡◌, true, ℕ, ◌^◌, ◌<◌, Option, Some, None, refl, lit<}
use Rattle.std.specs.Prelude.{List}
use Rattle.ndr_core.proofs.Complete.{padding_complete}
use Rattle.ndr_core.proofs.Complete.{IsComplete, chain_complete, given_complete, ignored_complete, made_complete}
use Rattle.ndr_core.proofs.Complete.{such_complete, u16_complete, u32_complete}
use Rattle.ndr_core.specs.Codec.{Codec}
use Rattle.ndr_core.specs.Cursor.{Cursor, IsBytes}
use Rattle.ndr_core.specs.Parts.{flat, list_of, pointer_to, whole}
use Rattle.ndr_core.specs.Shapes.{chain, u16_such}
use Rattle.acct_calls.specs.declared.info.Info.{Info}
use Rattle.acct_calls.specs.declared.info.Info.TheVariants as info
use Rattle.acct_calls.specs.declared.lists.RidName.{RidName}
use Rattle.acct_calls.specs.declared.replies.Outs.{Outs}
use Rattle.acct_calls.specs.declared.replies.Outs.TheVariants as outs
use Rattle.acct_calls.specs.declared.replies.Reply.{Reply}
use Rattle.acct_layouts.specs.Values.{IfThere, IsAccount, shown_arm}
use Rattle.acct_layouts.specs.ReplyShapes.{RefersRightly}
use Rattle.acct_layouts.specs.declared.classes.Arm.{Arm}
use Rattle.acct_layouts.specs.declared.classes.Subject.{Subject}
use Rattle.acct_layouts.specs.declared.outputs.Listed.{Listed}
use Rattle.acct_layouts.specs.declared.outputs.Listed.TheVariants as listed
use Rattle.acct_layouts.specs.declared.outputs.Outputs.{Outputs}
use Rattle.acct_layouts.specs.declared.outputs.Outputs.TheVariants as outputs
use Rattle.acct_layouts.specs.declared.outputs.ScalarOutputs.{ScalarOutputs}
use Rattle.acct_layouts.specs.declared.outputs.ScalarOutputs.TheVariants as scalar
use Rattle.ndr_types.proofs.Digits.{handle_complete}
use Rattle.ndr_types.proofs.Parts.{whole_complete}
use Rattle.ndr_types.proofs.Records.{pointer_has, rid_bits_has}
use Rattle.ndr_types.proofs.ShapeValues.{list_complete, rid_names_complete, rid_names_values}
use Rattle.ndr_types.proofs.Sids.{long_has, sid_complete, sid_pointer_has}
use Rattle.ndr_types.proofs.Texts.{text_has}
use Rattle.ndr_types.specs.Listed.{any, rid_names, rid_bits}
use Rattle.ndr_types.specs.Laws.{IsListOf}
use Rattle.ndr_types.specs.Values.{sid, sid_pointer, text}
use Rattle.acct_stubs.proofs.Complete.{value_complete}
use Rattle.acct_stubs.proofs.DisplayValues.{displayed_complete}
use Rattle.acct_stubs.proofs.MemberLists.{members_complete}
use Rattle.acct_stubs.proofs.SecurityValues.{outs_complete}
use Rattle.acct_stubs.specs.Calls.{start}
use Rattle.acct_stubs.specs.Infos.{class_shown, is_named, named_value, shown_of, shown_parts}
use Rattle.acct_stubs.specs.Lawful.{IsLawful}
use Rattle.acct_stubs.specs.Outputs.{created_out, done_of, granted_out, handle_out, how_many, listed_outs}
use Rattle.acct_stubs.specs.Outputs.{name_uses_out, page_out, pairs_out, parts_of_reply, plain_outs, reply_stub}
use Rattle.acct_stubs.specs.Outputs.{revision_answered, rid_uses_out, rids_out, shown_out, shown_outs, sid_out}
use Rattle.acct_stubs.specs.Outputs.{display_out, sids_out, with_status}
use Rattle.acct_stubs.specs.Shared.{shared_outputs}
use Rattle.acct_stubs.specs.Arguments.{Wire}

-- a pointer, null or to a value
pub to_complete : {A : Type 0} (a : Codec A) → IsComplete a → IsComplete (whole (pointer_to a))
to_complete a p = whole_complete (pointer_to a) (pointer_has {P = a.Fits} a (λ x h. h) (λ x h. h) p)

pub revision_fits : revision_answered.Fits tt
unfolding revision_answered
revision_fits =
    (((lit< tt, refl), (((lit< tt, refl), (((lit< tt, refl), (((lit< tt, refl), refl), refl)), refl)), refl)), refl)

revision_complete : IsComplete revision_answered
revision_complete = record { fits = λ u c d bytes h. revision_fits }

scalar_complete : (p : ScalarOutputs) → IsComplete (plain_outs p)
unfolding plain_outs
scalar_complete scalar.Nothing = given_complete outs.Nothing
scalar_complete scalar.Handle = made_complete outs.Handle handle_out handle_complete (λ x h. (h, refl))
scalar_complete scalar.HandleBack = made_complete outs.Handle handle_out handle_complete (λ x h. (h, refl))
scalar_complete scalar.Connected =
    ignored_complete tt revision_complete
    (made_complete outs.Handle handle_out handle_complete (λ x h. (h, refl))) revision_fits
scalar_complete scalar.Created =
    made_complete (λ x. outs.Created x.0 0 x.1) created_out (chain_complete handle_complete (λ x h. u32_complete))
    (λ x h. (h, refl))
scalar_complete scalar.Granted =
    made_complete (λ x. outs.Created x.0 x.1.0 x.1.1) granted_out
    (chain_complete handle_complete (λ x h. chain_complete u32_complete (λ y k. u32_complete))) (λ x h. (h, refl))
scalar_complete scalar.Sid = made_complete outs.OneSid sid_out (to_complete sid sid_complete) (λ x h. (h, refl))

count_kind : (entries : Option (List RidName)) → IfThere (IsListOf any IsAccount) entries → how_many entries < 2 ^ 32
count_kind None h = lit< tt
count_kind (Some xs) h = h.1

pub count_fits : (entries : Option (List RidName)) → rid_names.Fits entries → how_many entries < 2 ^ 32
count_fits entries h = count_kind entries ((rid_names_values entries).0 h)

listed_complete : (l : Listed) → IsComplete (listed_outs l)
unfolding listed_outs
listed_complete listed.Page =
    made_complete (λ x. outs.Page x.0 x.1.0) page_out
    (chain_complete u32_complete (λ x h. chain_complete rid_names_complete (λ y k. u32_complete)))
    (λ x h. ((h.0, (h.1.0, count_fits x.1.0 h.1.0)), refl))
listed_complete listed.Rids =
    made_complete outs.RidList rids_out (list_complete any (flat _) long_has) (λ x h. (h, refl))
listed_complete listed.RidUses =
    made_complete (λ x. outs.RidUses x.0 x.1) rid_uses_out
    (chain_complete (list_complete any (flat _) long_has) (λ x h. list_complete any (flat _) long_has))
    (λ x h. (h, refl))
listed_complete listed.NameUses =
    made_complete (λ x. outs.NameUses x.0 x.1) name_uses_out
    (chain_complete (list_complete any text text_has) (λ x h. list_complete any (flat _) long_has))
    (λ x h. (h, refl))
listed_complete listed.Groups =
    made_complete outs.Pairs pairs_out (to_complete (list_of any rid_bits) (list_complete any rid_bits rid_bits_has))
    (λ x h. (h, refl))
listed_complete listed.Members = made_complete outs.Pairs pairs_out members_complete (λ x h. (h, refl))
listed_complete listed.Sids =
    made_complete outs.SidList sids_out (list_complete any sid_pointer sid_pointer_has) (λ x h. (h, refl))
listed_complete listed.Display =
    made_complete (λ x. outs.Display x.1.1.0 x.0 x.1.0 x.1.1.1) display_out
    (chain_complete u32_complete (λ x h. chain_complete u32_complete (λ y k. displayed_complete))) (λ x h. (h, refl))

named_complete : (a : Option Arm) → IsComplete (named_value a)
named_complete None = given_complete info.Unserved
named_complete (Some a) = ignored_complete tt padding_complete (value_complete a) tt

shown_keeps : (a : Codec (Option (ℕ × Info))) (x : Option (ℕ × Info)) → a.Fits x
    → a.Fits (shown_parts (shown_of x)) × (shown_of (shown_parts (shown_of x)) ≡ shown_of x)
shown_keeps a None h = (h, refl)
shown_keeps a (Some x) h = (h, refl)

-- a class that is shown, and its value
abbrev pub value_shown : Subject → Codec (ℕ × Info)
value_shown s = chain (u16_such (λ class. is_named (shown_arm s class))) (λ class. named_value (shown_arm s class))

pub value_shown_complete : (s : Subject) → IsComplete (value_shown s)
value_shown_complete s =
    chain_complete (such_complete 2 (λ class. is_named (shown_arm s class)) u16_complete)
    (λ class f. named_complete (shown_arm s class))

class_shown_complete : (s : Subject) → IsComplete (class_shown s)
unfolding class_shown
class_shown_complete s =
    made_complete shown_of shown_parts (to_complete (value_shown s) (value_shown_complete s))
    (shown_keeps (whole (pointer_to (value_shown s))))

shown_complete : (s : Subject) → IsComplete (shown_outs s)
unfolding shown_outs
shown_complete s = made_complete (λ x. outs.Shown x.0 x.1) shown_out (class_shown_complete s) (λ x h. (h, refl))

status_complete : {o : Codec Outs} → IsComplete o → IsComplete (with_status o)
unfolding with_status
status_complete p = made_complete done_of parts_of_reply (chain_complete p (λ x h. u32_complete)) (λ x h. (h, refl))

-- What a stub spells can be written, except a refusal that refers to a domain.
pub reply_writable : (w : Wire) → IsLawful w → (o : Outputs) (r : Reply) (start end : Cursor) → IsBytes start.stub
    → (reply_stub w o).Spells r start end → RefersRightly r → (reply_stub w o).Fits r
unfolding reply_stub
reply_writable w l (outputs.Scalar p) r start end bytes s refers =
    (status_complete (scalar_complete p)).fits r start end bytes s
reply_writable w l (outputs.Listed k) r start end bytes s refers =
    (status_complete (listed_complete k)).fits r start end bytes s
reply_writable w l (outputs.Shown k) r start end bytes s refers =
    (status_complete (shown_complete k)).fits r start end bytes s
reply_writable w l (outputs.Policy p) r start end bytes s refers =
    l.writable_reply (outputs.Policy p) r start end bytes s refers
reply_writable w l (outputs.Translation t) r start end bytes s refers =
    l.writable_reply (outputs.Translation t) r start end bytes s refers
reply_writable w l outputs.Security r start end bytes s refers =
    (status_complete outs_complete).fits r start end bytes s

-- What a stub spells can be written, where both interfaces have the outputs.
pub shared_writable : (w : Wire) (o : Outputs) → shared_outputs o ≡ true → IsComplete (reply_stub w o)
unfolding reply_stub
shared_writable w (outputs.Scalar p) e = status_complete (scalar_complete p)
shared_writable w (outputs.Listed l) e = status_complete (listed_complete l)
shared_writable w (outputs.Shown s) e = status_complete (shown_complete s)
shared_writable w outputs.Security e = status_complete outs_complete
shared_writable w _ e = absurd cc

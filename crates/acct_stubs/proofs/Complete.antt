-- What some stub spells can be written: of each layout of a call, from the shapes that it is made of.
use Rattle.std.proofs.Common.{◌≡◌, ℕ, Bool, true, false, List, [], length, Option, Some, None, refl, sym, subst, lit<}
use Rattle.std.specs.Prelude.{◌==◌, nat_le}
use Rattle.std.proofs.lemmas.Bool.{eqb-true}
use Rattle.ndr_core.proofs.Complete.{IsComplete, chain_complete, given_complete, ignored_complete, ignored_same}
use Rattle.ndr_core.proofs.Complete.{led_by_complete, made_complete, padding_complete, pointer_complete, such_complete}
use Rattle.ndr_core.proofs.Complete.{u16_complete}
use Rattle.ndr_core.proofs.Complete.{u32_complete}
use Rattle.ndr_core.specs.Codec.{Codec}
use Rattle.ndr_core.specs.Cursor.{is_zero, second}
use Rattle.ndr_core.specs.Parts.{Part, PartFits, array, flat, join, there, times, whole}
use Rattle.ndr_core.specs.Shapes.{chain, ignored, u32, u32_such, unspelled}
use Rattle.dtyp_sid.specs.Sids.{IsSid}
use Rattle.acct_codes.specs.Limits.{most_searched, most_member_sids}
use Rattle.acct_calls.specs.declared.calls.Args.TheVariants as args
use Rattle.acct_calls.specs.declared.info.Info.TheVariants as info
use Rattle.acct_layouts.specs.Values.{IsLong, IsText, set_arm}
use Rattle.acct_layouts.specs.declared.classes.Arm.{Arm}
use Rattle.acct_layouts.specs.declared.classes.Arm.TheVariants as arm
use Rattle.acct_layouts.specs.declared.classes.Subject.{Subject}
use Rattle.acct_layouts.specs.declared.fields.Fields.{Fields}
use Rattle.acct_layouts.specs.declared.fields.Fields.TheVariants as fields
use Rattle.acct_layouts.specs.declared.fields.ScalarFields.{ScalarFields}
use Rattle.acct_layouts.specs.declared.fields.ScalarFields.TheVariants as plain
use Rattle.acct_layouts.specs.declared.fields.Search.{Search}
use Rattle.acct_layouts.specs.declared.fields.Search.TheVariants as search
use Rattle.ndr_types.proofs.Digits.{handle_complete}
use Rattle.ndr_types.proofs.Parts.{Has, array_all, array_complete, join_has, whole_complete}
use Rattle.ndr_types.proofs.ShapeValues.{list_complete, text_complete}
use Rattle.ndr_types.proofs.Sids.{long_has, sid_complete, sid_pointer_has}
use Rattle.ndr_types.proofs.Texts.{text_has}
use Rattle.ndr_types.specs.Values.{handle, sid_pointer, text, text_tail}
use Rattle.acct_stubs.proofs.SecurityValues.{security_complete}
use Rattle.acct_stubs.specs.Arguments.{access_rid_in, access_sid_in, arguments, class_in, filtered_page_in, name_in}
use Rattle.acct_stubs.specs.Arguments.{names_in, page_in, plain_args, put_in, rid_bits_in, rid_in, rids_in, searched}
use Rattle.acct_stubs.specs.Arguments.{display_in, sid_in, sids_in, sought, server_name, Wire}
use Rattle.acct_stubs.specs.Calls.{stub_of, without_handle}
use Rattle.acct_stubs.specs.Infos.{alias_in, class_set, empty_head, empty_text, group_in, nothing_of, number_in}
use Rattle.acct_stubs.specs.Infos.{place_in, set_value, text_in, two_texts_in, user_in, value_of}
use Rattle.acct_stubs.specs.Lawful.{IsLawful}

-- ---- openings

pub server_name_fits : server_name.Fits tt
unfolding server_name
server_name_fits = (((tt, refl), refl), refl)

pub server_name_complete : IsComplete server_name
server_name_complete = record { fits = λ u c d bytes h. server_name_fits }

-- ---- numbers, SIDs and texts

plain_complete : (p : ScalarFields) → IsComplete (plain_args p)
unfolding plain_args
plain_complete plain.Nothing = given_complete args.Nothing
plain_complete plain.Rid = made_complete args.Rid rid_in u32_complete (λ x h. (h, refl))
plain_complete plain.Member =
    made_complete (λ x. args.RidBits x.0 x.1) rid_bits_in (chain_complete u32_complete (λ x h. u32_complete))
    (λ x h. (h, refl))
plain_complete plain.Sid = made_complete args.OneSid sid_in sid_complete (λ x h. (h, refl))
plain_complete plain.Name = made_complete (λ name. args.OneName (Some name)) name_in text_complete (λ x h. (h, refl))
plain_complete plain.OpenDomain =
    made_complete (λ x. args.AccessSid x.0 x.1) access_sid_in (chain_complete u32_complete (λ x h. sid_complete))
    (λ x h. (h, refl))
plain_complete plain.OpenAccount =
    made_complete (λ x. args.AccessRid x.0 x.1) access_rid_in (chain_complete u32_complete (λ x h. u32_complete))
    (λ x h. (h, refl))

-- ---- lists

-- what stands after the count
abbrev after_count : {S A : Type 0} → Part S A → ℕ → Codec (List A)
after_count p count =
    ignored most_searched (u32_such (λ maximum. nat_le count maximum))
    (ignored 0 (u32_such is_zero) (ignored count (u32_such (λ actual. actual == count)) (whole (array count p))))

sought_complete : {S A : Type 0} {P : A → Type 0} (p : Part S A) → Has p P → IsComplete (sought p)
unfolding sought
sought_complete p q =
    led_by_complete length (such_complete 4 (λ count. nat_le count most_searched) u32_complete)
    (λ count f. ignored_complete most_searched (such_complete 4 (λ maximum. nat_le count maximum) u32_complete)
    (ignored_complete 0 (such_complete 4 is_zero u32_complete)
    (ignored_same count (such_complete 4 (λ actual. actual == count) u32_complete) (array_complete p q count)
    (λ actual h. eqb-true actual count h.1))
    (lit< tt, refl)) (lit< tt, f.1))
    (λ count xs f h.
    let a = h.0.1.0.1.0.1.0 in
    let len : length xs ≡ count = (array_all p count xs a.0 a.1).0 in (
      subst (λ (k : ℕ). (u32_such (λ n. nat_le n most_searched)).Fits k) (sym len) f,
      subst (λ (k : ℕ). (after_count p k).Fits xs) (sym len) h,
    ))

searched_complete : (s : Search) → IsComplete (searched s)
unfolding searched
searched_complete search.Page =
    made_complete (λ x. args.Page x.0 0 x.1) page_in (chain_complete u32_complete (λ x h. u32_complete))
    (λ x h. (h, refl))
searched_complete search.FilteredPage =
    made_complete (λ x. args.Page x.0 x.1.0 x.1.1) filtered_page_in
    (chain_complete u32_complete (λ x h. chain_complete u32_complete (λ y k. u32_complete))) (λ x h. (h, refl))
searched_complete search.Sids =
    made_complete args.SidList sids_in (list_complete most_member_sids sid_pointer sid_pointer_has) (λ x h. (h, refl))
searched_complete search.Names = made_complete args.NameList names_in (sought_complete text text_has) (λ x h. (h, refl))
searched_complete search.Rids =
    made_complete args.RidList rids_in (sought_complete (flat u32) long_has) (λ x h. (h, refl))
searched_complete search.Display =
    made_complete (λ x. args.Display x.0 x.1.0 x.1.1.0 x.1.1.1) display_in
    (chain_complete u16_complete
    (λ x h. chain_complete u32_complete (λ y k. chain_complete u32_complete (λ z l. u32_complete)))) (λ x h. (h, refl))

-- ---- information classes

abbrev pub Anything : Unit {0} → Type 0
Anything u = Unit {0}

-- a text of the length 0 is empty
empty_units : (there : Bool) (us : List ℕ) → (text_tail (0, there)).Fits us → us ≡ []
unfolding times
empty_units true us h = h.0.1.0.1
empty_units false us h = h

empty_head_zero : (s : ℕ × Bool) → empty_head.Fits s → s.0 ≡ 0
empty_head_zero s f = eqb-true s.0 0 f.0.1

text_head_zero : (there : Bool) → text.head.Fits (0, there)
unfolding text
text_head_zero true = ((lit< tt, refl), ((lit< tt, (tt, refl)), refl))
text_head_zero false = ((lit< tt, refl), ((lit< tt, (tt, refl)), refl))

tail_zero : (there : Bool) → IsComplete (empty_text.tail (0, there))
unfolding empty_text text
tail_zero there =
    made_complete nothing_of (λ u. []) (text_has.tail (0, there) (text_head_zero there))
    (λ us h. (subst (λ (vs : List ℕ). (text_tail (0, there)).Fits vs) (empty_units there us h) h, refl))

empty_tail_complete : (s : ℕ × Bool) → empty_text.head.Fits s → IsComplete (empty_text.tail s)
unfolding empty_text
empty_tail_complete (n, there) f =
    subst (λ (k : ℕ). IsComplete (empty_text.tail (k, there))) (sym (empty_head_zero (n, there) f)) (tail_zero there)

empty_fits : (u : Unit {0}) → PartFits empty_text u
unfolding empty_text
empty_fits u = (((lit< tt, refl), ((lit< tt, tt), refl)), (refl, refl))

empty_head_complete : IsComplete empty_text.head
unfolding empty_text
empty_head_complete =
    chain_complete (such_complete 2 is_zero u16_complete) (λ n f. ignored_complete n u16_complete pointer_complete f.0)

empty_has : Has empty_text Anything
empty_has = record {
  fits = λ u h. empty_fits u;
  kind = λ u h. tt;
  head = empty_head_complete;
  tail = empty_tail_complete;
  keeps = λ s u f k. empty_fits u;
}

pub two_texts_has : Has (join text text) (λ x. IsText x.0 × IsText x.1)
two_texts_has = join_has text text text_has text_has

pub group_has : Has (join text (join (flat u32) (join (flat u32) text)))
    (λ (name, (bits, (members, comment))). IsText name × (IsLong bits × (IsLong members × IsText comment)))
group_has = join_has text _ text_has (join_has (flat u32) _ long_has (join_has (flat u32) text long_has text_has))

pub alias_has : Has (join text (join (flat u32) text))
    (λ (name, (members, comment)). IsText name × (IsLong members × IsText comment))
alias_has = join_has text _ text_has (join_has (flat u32) text long_has text_has)

pub user_has : Has (join text (join text (join (flat u32) (join text empty_text))))
    (λ (name, (full, (primary, (comment, none)))).
    IsText name × (IsText full × (IsLong primary × (IsText comment × Anything none))))
user_has =
    join_has text _ text_has
    (join_has text _ text_has (join_has (flat u32) _ long_has (join_has text empty_text text_has empty_has)))

pub place_has : Has (join text sid_pointer) (λ x. IsText x.0 × IsSid x.1)
place_has = join_has text sid_pointer text_has sid_pointer_has

pub value_complete : (a : Arm) → IsComplete (value_of a)
unfolding value_of
value_complete arm.Number = made_complete info.Number number_in u32_complete (λ x h. (h, refl))
value_complete arm.Text = made_complete info.Text text_in text_complete (λ x h. (h, refl))
value_complete arm.TwoTexts =
    made_complete (λ x. info.TwoTexts x.0 x.1) two_texts_in (whole_complete _ two_texts_has) (λ x h. (h, refl))
value_complete arm.Group =
    made_complete (λ (name, (bits, (members, comment))). info.Group name bits members comment) group_in
    (whole_complete _ group_has) (λ x h. (h, refl))
value_complete arm.Alias =
    made_complete (λ (name, (members, comment)). info.Alias name members comment) alias_in
    (whole_complete _ alias_has) (λ x h. (h, refl))
value_complete arm.Place =
    made_complete (λ x. info.Place x.0 x.1) place_in (whole_complete _ place_has) (λ x h. (h, refl))
value_complete arm.User =
    made_complete (λ (name, (full, (primary, (comment, _)))). info.User name full primary comment) user_in
    (whole_complete _ user_has) (λ x h. (h, refl))

set_value_complete : (class : ℕ) (a : Option Arm) → IsComplete (set_value class a)
set_value_complete class None = given_complete info.Unserved
set_value_complete class (Some a) =
    ignored_same class (such_complete 2 (λ tag. tag == class) u16_complete)
    (ignored_complete tt padding_complete (value_complete a) tt) (λ tag h. eqb-true tag class h.1)

class_set_complete : (s : Subject) → IsComplete (class_set s)
unfolding class_set
class_set_complete s = chain_complete u16_complete (λ class f. set_value_complete class (set_arm s class))

-- ---- whole stubs

pub unspelled_complete : {A : Type 0} → IsComplete (unspelled {A = A})
unspelled_complete = record { fits = λ x c d bytes h. absurd h }

own_complete : (w : Wire) → IsLawful w → (f : Fields) → IsComplete (w.fields f)
own_complete w l f = record { fits = l.writable f }

arguments_complete : (w : Wire) → IsLawful w → (f : Fields) → IsComplete (arguments w f)
unfolding arguments
arguments_complete w l (fields.Connect c) = own_complete w l (fields.Connect c)
arguments_complete w l (fields.Scalar p) = plain_complete p
arguments_complete w l (fields.Search s) = searched_complete s
arguments_complete w l (fields.Creation c) = own_complete w l (fields.Creation c)
arguments_complete w l (fields.Class s) = made_complete args.Class class_in u16_complete (λ x h. (h, refl))
arguments_complete w l (fields.Put s) =
    made_complete (λ x. args.Put x.0 x.1) put_in (class_set_complete s) (λ x h. (h, refl))
arguments_complete w l (fields.Policy p) = own_complete w l (fields.Policy p)
arguments_complete w l (fields.Translation t) = own_complete w l (fields.Translation t)
arguments_complete w l (fields.Security s) = security_complete s

behind_handle : (w : Wire) → IsLawful w → (f : Fields) → IsComplete (chain handle (λ _. arguments w f))
behind_handle w l f = chain_complete handle_complete (λ x h. arguments_complete w l f)

pub stub_complete : (w : Wire) → IsLawful w → (f : Fields) → IsComplete (stub_of w f)
unfolding stub_of
stub_complete w l (fields.Connect c) =
    made_complete without_handle second (arguments_complete w l (fields.Connect c)) (λ x h. (h, refl))
stub_complete w l (fields.Scalar p) = behind_handle w l (fields.Scalar p)
stub_complete w l (fields.Search s) = behind_handle w l (fields.Search s)
stub_complete w l (fields.Creation c) = behind_handle w l (fields.Creation c)
stub_complete w l (fields.Class s) = behind_handle w l (fields.Class s)
stub_complete w l (fields.Put s) = behind_handle w l (fields.Put s)
stub_complete w l (fields.Policy p) = behind_handle w l (fields.Policy p)
stub_complete w l (fields.Translation t) = behind_handle w l (fields.Translation t)
stub_complete w l (fields.Security s) = behind_handle w l (fields.Security s)

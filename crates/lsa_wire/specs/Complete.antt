-- What some stub spells can be written: of each layout that this interface has alone, from the shapes that it is made
-- of.
use Rattle.std.proofs.Common.{◌≡◌, ℕ, zero, suc, ◌^◌, ◌<◌, Bool, true, false, List, [], length, Some}
use Rattle.std.proofs.Common.{refl, sym, subst, lit<, arith}
use Rattle.std.specs.Prelude.{◌==◌, nat_le}
use Rattle.std.proofs.lemmas.Bool.{eqb-true}
use Rattle.std.proofs.lemmas.List.Elements.{All-nil}
use Rattle.ndr_core.specs.Cursor.{is_there}
use Rattle.ndr_core.specs.Codec.{Codec}
use Rattle.ndr_core.specs.Shapes.{u32_such, ignored}
use Rattle.ndr_core.specs.Parts.{Part, whole, array, flat, list_of}
use Rattle.ndr_core.proofs.Complete.{IsComplete, u8_complete, u16_complete, u32_complete, such_complete, chain_complete}
use Rattle.ndr_core.proofs.Complete.{made_complete, led_by_complete, followed_complete, ignored_complete, ignored_same}
use Rattle.acct_codes.specs.Limits.{most_rights, most_translated_names, most_translated_sids}
use Rattle.acct_calls.specs.declared.calls.Args.TheVariants as args
use Rattle.acct_layouts.specs.declared.fields.Connect.{Connect}
use Rattle.acct_layouts.specs.declared.fields.Connect.TheVariants as connect
use Rattle.acct_layouts.specs.declared.fields.Fields.{Fields}
use Rattle.acct_layouts.specs.declared.fields.Fields.TheVariants as fields
use Rattle.acct_layouts.specs.declared.fields.PolicyFields.{PolicyFields}
use Rattle.acct_layouts.specs.declared.fields.PolicyFields.TheVariants as policy
use Rattle.acct_layouts.specs.declared.fields.Translation.{Translation}
use Rattle.acct_layouts.specs.declared.fields.Translation.TheVariants as translation
use Rattle.ndr_types.specs.Values.{sid_pointer, text}
use Rattle.ndr_types.specs.Translations.{flagged, sid_ref, translated_name, translated_sid}
use Rattle.ndr_types.proofs.Entries.{privilege_set_pointer_complete, text_pointer_complete, translated_name_has}
use Rattle.ndr_types.proofs.Entries.{translated_sid_has}
use Rattle.ndr_types.proofs.LaterEntries.{flagged_name_has, flagged_ref_has, flagged_sid_has}
use Rattle.ndr_types.proofs.Parts.{Has, array_all, array_complete}
use Rattle.ndr_types.proofs.Records.{privilege_set_complete}
use Rattle.ndr_types.proofs.ShapeValues.{list_complete, list_values}
use Rattle.ndr_types.proofs.Sids.{sid_complete, sid_pointer_has}
use Rattle.ndr_types.proofs.Texts.{text_has}
use Rattle.lsa_wire.specs.Arguments.{connect_args, flag, flag_number, policy_args, counted, translation_args}
use Rattle.lsa_wire.specs.Arguments.{own_fields, opening_in, account_in, added_in, removed_in, bits_in, luid_in}
use Rattle.lsa_wire.specs.Arguments.{right_in, rights_in, all_rights_in, names_in, sids_in, level_asked}
use Rattle.lsa_wire.specs.Arguments.{later_level_asked, names_asked, sids_asked, object_attributes}
use Rattle.acct_stubs.proofs.Complete.{server_name_complete, server_name_fits, unspelled_complete}

-- ---- the opening of the policy

pub attributes_fit : (rooted : Bool) → object_attributes.Fits rooted
unfolding object_attributes
attributes_fit true = (
  (
    ((lit< tt, (tt, ((((tt, refl), ((lit< tt, (((tt, refl), tt), refl)), refl)), refl)))), refl),
    (((lit< tt, ((refl, refl), refl)), refl)),
  ),
  refl,
)
attributes_fit false = (
  (
    ((lit< tt, (tt, ((((tt, refl), ((lit< tt, (((tt, refl), tt), refl)), refl)), refl)))), refl),
    (((refl, ((refl, refl), refl)), refl)),
  ),
  refl,
)

attributes_complete : IsComplete object_attributes
attributes_complete = record { fits = λ rooted c d bytes h. attributes_fit rooted }

connect_complete : (c : Connect) → IsComplete (connect_args c)
unfolding connect_args
connect_complete connect.Connect2 = unspelled_complete
connect_complete connect.Connect4 = unspelled_complete
connect_complete connect.Connect5 = unspelled_complete
connect_complete connect.OpenPolicy2 =
    ignored_complete tt server_name_complete
    (made_complete (λ x. args.Policy x.0 x.1) opening_in (chain_complete attributes_complete (λ x h. u32_complete))
    (λ x h. (h, refl))) server_name_fits

-- ---- the policy and its accounts

flag_back : (n : ℕ) → is_there (flag_number (is_there n)) ≡ is_there n
flag_back zero = refl
flag_back (suc n) = refl

pub flag_small : (b : Bool) → flag_number b < 256
flag_small true = lit< tt
flag_small false = lit< tt

pub flag_complete : IsComplete flag
unfolding flag
flag_complete = made_complete is_there flag_number u8_complete (λ n h. (flag_small (is_there n), flag_back n))

policy_complete : (p : PolicyFields) → IsComplete (policy_args p)
unfolding policy_args
policy_complete policy.Account =
    made_complete (λ x. args.AccessSid x.1 x.0) account_in (chain_complete sid_complete (λ x h. u32_complete))
    (λ x h. (h, refl))
policy_complete policy.AddPrivileges =
    made_complete (λ privileges. args.Privileges false (Some privileges)) added_in privilege_set_complete
    (λ x h. (h, refl))
policy_complete policy.RemovePrivileges =
    made_complete
    (λ x. args.Privileges x.0 x.1) removed_in (chain_complete flag_complete (λ x h. privilege_set_pointer_complete))
    (λ x h. (h, refl))
policy_complete policy.SystemAccess = made_complete args.Bits bits_in u32_complete (λ x h. (h, refl))
policy_complete policy.Luid =
    made_complete (λ x. args.Luid x.0 x.1) luid_in (chain_complete u32_complete (λ x h. u32_complete))
    (λ x h. (h, refl))
policy_complete policy.Right = made_complete args.OneName right_in text_pointer_complete (λ x h. (h, refl))
policy_complete policy.AddRights =
    made_complete
    (λ x. args.Rights x.0 false x.1) rights_in
    (chain_complete sid_complete (λ x h. list_complete most_rights text text_has))
    (λ x h. (h, refl))
policy_complete policy.RemoveRights =
    made_complete
    (λ x. args.Rights x.0 x.1.0 x.1.1)
    all_rights_in (chain_complete sid_complete
    (λ x h. chain_complete flag_complete (λ y k. list_complete most_rights text text_has))) (λ x h. (h, refl))

-- ---- translations

-- what stands after the count
abbrev counted_rest : {S A : Type 0} → Part S A → ℕ → Codec (List A)
counted_rest p n = ignored n (u32_such (λ maximum. maximum == n)) (whole (array n p))

counted_complete : {S A : Type 0} {P : A → Type 0} (most : ℕ) (p : Part S A) → Has p P → IsComplete (counted most p)
unfolding counted
counted_complete {A = A} most p q =
    led_by_complete length (such_complete 4 (λ count. nat_le count most) u32_complete)
    (λ n f. ignored_same n (such_complete 4 (λ maximum. maximum == n) u32_complete) (array_complete p q n)
    (λ k h. eqb-true k n h.1))
    (λ n xs f h.
    let len : length xs ≡ n = (array_all p n xs h.0.1.0.0 h.0.1.0.1).0 in (
      (subst (λ (k : ℕ). k < 2 ^ 32) (sym len) f.0, subst (λ (k : ℕ). nat_le k most ≡ true) (sym len) f.1),
      subst
          (λ (k : ℕ). (counted_rest p k).Fits xs) (sym len) h,
    ))

level_complete : IsComplete level_asked
level_complete = followed_complete 0 u16_complete u32_complete (lit< tt)

later_level_complete : IsComplete later_level_asked
later_level_complete =
    followed_complete 2 (followed_complete 0 level_complete u32_complete (lit< tt)) u32_complete (lit< tt)

pub none_fit : {S A : Type 0} {P : A → Type 0} (most : ℕ) (p : Part S A) → Has p P → (list_of most p).Fits []
none_fit most p q = (list_values most p q []).1 (omega arith, lit< tt, All-nil _)

names_complete : {S A : Type 0} {P : A → Type 0} (p : Part S A) (level : Codec ℕ) → Has p P → IsComplete level
    → IsComplete (names_asked (list_of most_translated_names p) level)
names_complete p level q l =
    made_complete (λ x. args.LookNames x.1 x.0) names_in
    (chain_complete (counted_complete most_translated_names text text_has)
    (λ x h. ignored_complete [] (list_complete most_translated_names p q) l (none_fit most_translated_names p q)))
    (λ x h. (h, refl))

sids_complete : {S A : Type 0} {P : A → Type 0} (p : Part S A) (level : Codec ℕ) → Has p P → IsComplete level
    → IsComplete (sids_asked (list_of most_translated_sids p) level)
sids_complete p level q l =
    made_complete (λ x. args.LookSids x.1 x.0) sids_in
    (chain_complete (list_complete most_translated_sids sid_pointer sid_pointer_has)
    (λ x h. ignored_complete [] (list_complete most_translated_sids p q) l (none_fit most_translated_sids p q)))
    (λ x h. (h, refl))

translation_complete : (t : Translation) → IsComplete (translation_args t)
unfolding translation_args
translation_complete translation.Names =
    names_complete (flat translated_sid) level_asked translated_sid_has level_complete
translation_complete translation.Sids = sids_complete translated_name level_asked translated_name_has level_complete
translation_complete translation.Names2 =
    names_complete (flagged (flat translated_sid)) later_level_asked flagged_sid_has later_level_complete
translation_complete translation.Sids2 =
    sids_complete (flagged translated_name) later_level_asked flagged_name_has later_level_complete
translation_complete translation.Names3 =
    names_complete (flagged sid_ref) later_level_asked flagged_ref_has later_level_complete

pub fields_complete : (f : Fields) → IsComplete (own_fields f)
unfolding own_fields
fields_complete (fields.Connect c) = connect_complete c
fields_complete (fields.Policy p) = policy_complete p
fields_complete (fields.Translation t) = translation_complete t
fields_complete (fields.Scalar p) = unspelled_complete
fields_complete (fields.Search s) = unspelled_complete
fields_complete (fields.Creation c) = unspelled_complete
fields_complete (fields.Class s) = unspelled_complete
fields_complete (fields.Put s) = unspelled_complete
fields_complete (fields.Security s) = unspelled_complete

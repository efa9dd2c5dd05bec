-- The arguments that the layouts of this interface alone can write are those of their kinds.
use Rattle.std.proofs.Common.{◌≡◌, ℕ, ◌^◌, ◌<◌, ◌≤◌, Bool, true, false, All, List, [], length, Some, refl}
use Rattle.std.proofs.Common.{arith, lit<}
use Rattle.std.proofs.lemmas.Bool.{leb-true, le-leb, eq-eqb}
use Rattle.ndr_core.specs.Codec.{Codec}
use Rattle.ndr_core.specs.Parts.{Part, PartFits, flat, list_of}
use Rattle.acct_codes.specs.Limits.{most_rights, most_translated_names, most_translated_sids}
use Rattle.acct_calls.specs.declared.calls.Args.{Args}
use Rattle.acct_calls.specs.declared.calls.Args.TheVariants as args
use Rattle.acct_calls.specs.declared.calls.Face.TheVariants.{Lsa}
use Rattle.acct_layouts.specs.Values.{IsText}
use Rattle.acct_layouts.specs.CallShapes.{AreArguments, AreConnectArgs, AreNamesAsked, ArePolicyArgs, AreSidsAsked}
use Rattle.acct_layouts.specs.CallShapes.{AreTranslationArgs}
use Rattle.acct_layouts.specs.declared.fields.Connect.{Connect}
use Rattle.acct_layouts.specs.declared.fields.Connect.TheVariants as connect
use Rattle.acct_layouts.specs.declared.fields.Fields.{Fields}
use Rattle.acct_layouts.specs.declared.fields.Fields.TheVariants as fields
use Rattle.acct_layouts.specs.declared.fields.PolicyFields.{PolicyFields}
use Rattle.acct_layouts.specs.declared.fields.PolicyFields.TheVariants as policy
use Rattle.acct_layouts.specs.declared.fields.Translation.{Translation}
use Rattle.acct_layouts.specs.declared.fields.Translation.TheVariants as translation
use Rattle.acct_stubs.specs.Shared.{are_own}
use Rattle.ndr_types.specs.Values.{sid_pointer, text}
use Rattle.ndr_types.specs.Translations.{flagged, flagged_names, flagged_sids, sid_ref, sid_refs, translated_name}
use Rattle.ndr_types.specs.Translations.{translated_names, translated_sid, translated_sids}
use Rattle.ndr_types.proofs.Entries.{privilege_set_pointer_values, text_pointer_values, translated_name_has}
use Rattle.ndr_types.proofs.Entries.{translated_sid_has}
use Rattle.ndr_types.proofs.LaterEntries.{flagged_name_has, flagged_ref_has, flagged_sid_has}
use Rattle.ndr_types.proofs.Parts.{Has, all_as, array_all, array_fits}
use Rattle.ndr_types.proofs.Records.{privilege_set_fits, privilege_set_kind}
use Rattle.ndr_types.proofs.ShapeValues.{list_values}
use Rattle.ndr_types.proofs.Sids.{sid_fits, sid_kind, sid_pointer_has}
use Rattle.ndr_types.proofs.Texts.{text_has}
use Rattle.lsa_wire.specs.Arguments.{connect_args, flag, policy_args, counted, translation_args, own_fields}
use Rattle.lsa_wire.specs.Arguments.{level_asked, later_level_asked, names_asked, sids_asked}
use Rattle.lsa_wire.specs.Complete.{attributes_fit, none_fit}
use Rattle.acct_stubs.proofs.Complete.{server_name_fits}

-- ---- the opening of the policy

connect_kind : (c : Connect) (a : Args) → (connect_args c).Fits a → AreConnectArgs c a
unfolding connect_args
connect_kind connect.OpenPolicy2 (args.Policy rooted access) f = f.0.1.0.1
connect_kind connect.OpenPolicy2 _ f = absurd (cc f.0.1.1)
connect_kind _ a f = absurd f

connect_fits : (a : Args) → AreConnectArgs connect.OpenPolicy2 a → (connect_args connect.OpenPolicy2).Fits a
unfolding connect_args
connect_fits (args.Policy rooted access) is = ((server_name_fits, ((attributes_fit rooted, is), refl)), refl)
connect_fits _ is = absurd is

-- ---- the policy and its accounts

flag_fits : (b : Bool) → flag.Fits b
unfolding flag
flag_fits true = (lit< tt, refl)
flag_fits false = (lit< tt, refl)

short_list_kind : (names : List (List ℕ)) → (list_of most_rights text).Fits names
    → (length names ≤ most_rights) × All IsText names
short_list_kind names f = let k = (list_values most_rights text text_has names).0 f in (k.0, k.2)

short_list_fits : (names : List (List ℕ)) → length names ≤ most_rights → All IsText names
    → (list_of most_rights text).Fits names
short_list_fits names few all = (list_values most_rights text text_has names).1 (few, omega (arith, few), all)

policy_kind : (p : PolicyFields) (a : Args) → (policy_args p).Fits a → ArePolicyArgs p a
unfolding policy_args
policy_kind policy.Account (args.AccessSid access s) f = (f.0.1, sid_kind s f.0.0)
policy_kind policy.AddPrivileges (args.Privileges false (Some ps)) f = privilege_set_kind ps f.0
policy_kind policy.RemovePrivileges (args.Privileges all ps) f = (privilege_set_pointer_values ps).0 f.0.1
policy_kind policy.SystemAccess (args.Bits bits) f = f.0
policy_kind policy.Luid (args.Luid low high) f = (f.0.0, f.0.1)
policy_kind policy.Right (args.OneName name) f = (text_pointer_values name).0 f.0
policy_kind policy.AddRights (args.Rights s false names) f =
    let k = short_list_kind names f.0.1 in (sid_kind s f.0.0, k.0, k.1)
policy_kind policy.RemoveRights (args.Rights s all names) f =
    let k = short_list_kind names f.0.1.1 in (sid_kind s f.0.0, k.0, k.1)
policy_kind _ _ f = absurd (cc f.1)

policy_fits : (p : PolicyFields) (a : Args) → ArePolicyArgs p a → (policy_args p).Fits a
unfolding policy_args
policy_fits policy.Account (args.AccessSid access s) is = ((sid_fits s is.1, is.0), refl)
policy_fits policy.AddPrivileges (args.Privileges false (Some ps)) is = (privilege_set_fits ps is, refl)
policy_fits policy.RemovePrivileges (args.Privileges all ps) is =
    ((flag_fits all, (privilege_set_pointer_values ps).1 is), refl)
policy_fits policy.SystemAccess (args.Bits bits) is = (is, refl)
policy_fits policy.Luid (args.Luid low high) is = ((is.0, is.1), refl)
policy_fits policy.Right (args.OneName name) is = ((text_pointer_values name).1 is, refl)
policy_fits policy.AddRights (args.Rights s false names) is = ((sid_fits s is.0, short_list_fits names is.1 is.2), refl)
policy_fits policy.RemoveRights (args.Rights s all names) is =
    ((sid_fits s is.0, (flag_fits all, short_list_fits names is.1 is.2)), refl)
policy_fits _ _ is = absurd is

-- ---- translations

pub counted_few : {S A : Type 0} (most : ℕ) (p : Part S A) (xs : List A) → (counted most p).Fits xs → length xs ≤ most
unfolding counted
counted_few most p xs h = leb-true _ _ h.0.0.1

pub counted_all : {S A : Type 0} (most : ℕ) (p : Part S A) (xs : List A) → (counted most p).Fits xs
    → All (PartFits p) xs
unfolding counted
counted_all most p xs h = let a = h.0.1.0.1.0 in (array_all p (length xs) xs a.0 a.1).1

counted_fits : {S A : Type 0} {P : A → Type 0} (p : Part S A) → Has p P → (xs : List A)
    → length xs ≤ most_translated_names → All P xs → (counted most_translated_names p).Fits xs
unfolding counted
counted_fits {P = P} p q xs few all =
    let n = length xs in
    let small : n < 2 ^ 32 = omega (arith, few) in
    let a = array_fits p xs (all_as {P = P} {Q = PartFits p} xs q.fits all) in
    (((small, le-leb n most_translated_names few), (((small, eq-eqb n n refl), (a, refl)), refl)), refl)

abbrev IsShortLevel : ℕ → Type 0
IsShortLevel n = n < 2 ^ 16

-- The levels that are asked are the shorts.
record AsksLevels (level : Codec ℕ) : Type 0 where
  pub kind : (n : ℕ) → level.Fits n → IsShortLevel n
  pub fits : (n : ℕ) → IsShortLevel n → level.Fits n

asks_levels : AsksLevels level_asked
asks_levels = record { kind = λ n h. h.0.0; fits = λ n h. ((h, lit< tt), refl) }

asks_later_levels : AsksLevels later_level_asked
asks_later_levels = record {
  kind = λ n h. asks_levels.kind n h.0.0.0.0;
  fits = λ n h. ((((asks_levels.fits n h, lit< tt), refl), lit< tt), refl);
}

names_kind : {A : Type 0} (room : Codec (List A)) (level : Codec ℕ) → AsksLevels level → (a : Args)
    → (names_asked room level).Fits a → AreNamesAsked a
names_kind room level l (args.LookNames n names) f = (
  l.kind n f.0.1.0.1,
  counted_few most_translated_names text names f.0.0,
  all_as {P = PartFits text} {Q = IsText} names text_has.kind
      (counted_all most_translated_names text names f.0.0),
)
names_kind room level l _ f = absurd (cc f.1)

sids_kind : {A : Type 0} (room : Codec (List A)) (level : Codec ℕ) → AsksLevels level → (a : Args)
    → (sids_asked room level).Fits a → AreSidsAsked a
sids_kind room level l (args.LookSids n sids) f =
    let k = (list_values most_translated_sids sid_pointer sid_pointer_has sids).0 f.0.0 in
    (l.kind n f.0.1.0.1, k.0, k.2)
sids_kind room level l _ f = absurd (cc f.1)

translation_kind : (t : Translation) (a : Args) → (translation_args t).Fits a → AreTranslationArgs t a
unfolding translation_args
translation_kind translation.Names a f = names_kind (translated_sids most_translated_names) level_asked asks_levels a f
translation_kind translation.Sids a f = sids_kind (translated_names most_translated_sids) level_asked asks_levels a f
translation_kind translation.Names2 a f =
    names_kind (flagged_sids most_translated_names) later_level_asked asks_later_levels a f
translation_kind translation.Sids2 a f =
    sids_kind (flagged_names most_translated_sids) later_level_asked asks_later_levels a f
translation_kind translation.Names3 a f =
    names_kind (sid_refs most_translated_names) later_level_asked asks_later_levels a f

names_fit : {A : Type 0} (room : Codec (List A)) (level : Codec ℕ) → room.Fits [] → AsksLevels level → (a : Args)
    → AreNamesAsked a → (names_asked room level).Fits a
names_fit room level none l (args.LookNames n names) is =
    ((counted_fits text text_has names is.1 is.2, ((none, l.fits n is.0), refl)), refl)
names_fit room level none l _ is = absurd is

sids_fit : {A : Type 0} (room : Codec (List A)) (level : Codec ℕ) → room.Fits [] → AsksLevels level → (a : Args)
    → AreSidsAsked a → (sids_asked room level).Fits a
sids_fit room level none l (args.LookSids n sids) is = (
  (
    (list_values most_translated_sids sid_pointer sid_pointer_has sids).1 (is.1, omega (arith, is.1), is.2),
    ((none, l.fits n is.0), refl),
  ),
  refl,
)
sids_fit room level none l _ is = absurd is

translation_fits : (t : Translation) (a : Args) → AreTranslationArgs t a → (translation_args t).Fits a
unfolding translation_args
translation_fits translation.Names a is =
    names_fit (translated_sids most_translated_names) level_asked
    (none_fit most_translated_names (flat translated_sid) translated_sid_has) asks_levels a is
translation_fits translation.Sids a is =
    sids_fit (translated_names most_translated_sids) level_asked
    (none_fit most_translated_sids translated_name translated_name_has) asks_levels a is
translation_fits translation.Names2 a is =
    names_fit (flagged_sids most_translated_names) later_level_asked
    (none_fit most_translated_names (flagged (flat translated_sid)) flagged_sid_has) asks_later_levels a is
translation_fits translation.Sids2 a is =
    sids_fit (flagged_names most_translated_sids) later_level_asked
    (none_fit most_translated_sids (flagged translated_name) flagged_name_has) asks_later_levels a is
translation_fits translation.Names3 a is =
    names_fit (sid_refs most_translated_names) later_level_asked
    (none_fit most_translated_names (flagged sid_ref) flagged_ref_has) asks_later_levels a is

-- ---- what stands after the handle

pub fields_kind : (f : Fields) (a : Args) → (own_fields f).Fits a → AreArguments f a
unfolding own_fields
fields_kind (fields.Connect c) a f = connect_kind c a f
fields_kind (fields.Policy p) a f = policy_kind p a f
fields_kind (fields.Translation t) a f = translation_kind t a f
fields_kind (fields.Scalar p) a f = absurd f
fields_kind (fields.Search s) a f = absurd f
fields_kind (fields.Creation c) a f = absurd f
fields_kind (fields.Class s) a f = absurd f
fields_kind (fields.Put s) a f = absurd f
fields_kind (fields.Security s) a f = absurd f

pub fields_fit : (f : Fields) (a : Args) → are_own Lsa f ≡ true → AreArguments f a → (own_fields f).Fits a
unfolding own_fields
fields_fit (fields.Connect connect.OpenPolicy2) a own is = connect_fits a is
fields_fit (fields.Policy p) a own is = policy_fits p a is
fields_fit (fields.Translation t) a own is = translation_fits t a is
fields_fit _ a own is = absurd (cc own)

-- The replies that the layouts of this interface alone can write are those of their shapes.
use Rattle.std.proofs.Common.{◌≡◌, ℕ, Bool, true, false, cond, List, [], Option, Some, None, refl, sym}
use Rattle.std.proofs.Common.{ap, subst, arith, lit<}
use Rattle.std.proofs.lemmas.List.Elements.{All-nil}
use Rattle.ndr_core.specs.Cursor.{Cursor, IsBytes}
use Rattle.ndr_core.specs.Parts.{Part, flat, list_of}
use Rattle.ndr_core.proofs.Complete.{IsComplete, u32_complete, chain_complete, made_complete}
use Rattle.acct_calls.specs.declared.calls.Face.TheVariants.{Lsa}
use Rattle.acct_calls.specs.declared.lists.ReferencedDomain.{ReferencedDomain}
use Rattle.acct_calls.specs.declared.replies.Outs.{Outs}
use Rattle.acct_calls.specs.declared.replies.Outs.TheVariants as outs
use Rattle.acct_calls.specs.declared.replies.Reply.{Reply}
use Rattle.acct_calls.specs.declared.replies.Reply.TheVariants as reply
use Rattle.acct_layouts.specs.Values.{IsDomain, IsListed, IsLong}
use Rattle.acct_layouts.specs.Refusals.{is_refusal}
use Rattle.acct_layouts.specs.ReplyShapes.{ArePolicyOuts, IsReplyOf, RefersRightly, domains_of}
use Rattle.acct_layouts.specs.declared.fields.Translation.{Translation}
use Rattle.acct_layouts.specs.declared.fields.Translation.TheVariants as translation
use Rattle.acct_layouts.specs.declared.outputs.Outputs.{Outputs}
use Rattle.acct_layouts.specs.declared.outputs.Outputs.TheVariants as outputs
use Rattle.acct_layouts.specs.declared.outputs.PolicyOutputs.{PolicyOutputs}
use Rattle.acct_layouts.specs.declared.outputs.PolicyOutputs.TheVariants as policy
use Rattle.acct_stubs.specs.Outputs.{with_status, done_of, parts_of_reply}
use Rattle.acct_stubs.specs.Shared.{own_outputs}
use Rattle.ndr_types.specs.Listed.{any}
use Rattle.ndr_types.specs.Translations.{or_empty, referenced, flagged, sid_ref, translated_name, translated_sid}
use Rattle.ndr_types.specs.Values.{sid_pointer, text}
use Rattle.ndr_types.proofs.Entries.{privilege_names_complete, privilege_names_values, privilege_set_pointer_complete}
use Rattle.ndr_types.proofs.Entries.{privilege_set_pointer_values, text_pointer_complete, text_pointer_values}
use Rattle.ndr_types.proofs.Entries.{translated_name_has, translated_sid_has}
use Rattle.ndr_types.proofs.LaterEntries.{flagged_name_has, flagged_ref_has, flagged_sid_has}
use Rattle.ndr_types.proofs.Parts.{Has}
use Rattle.ndr_types.proofs.ShapeValues.{list_complete, list_values, referenced_complete, referenced_values}
use Rattle.ndr_types.proofs.Sids.{sid_pointer_has}
use Rattle.ndr_types.proofs.Texts.{text_has}
use Rattle.lsa_wire.specs.Interface.{policy_outs, privilege_page_out, sid_page_out, privileges_out, bits_out, luid_out}
use Rattle.lsa_wire.specs.Interface.{name_out, names_out, referred_of, TranslatedParts, sids_done, names_done}
use Rattle.lsa_wire.specs.Interface.{refs_done, translated, translated_fields, own_replies}

-- ---- lists of any length that a count can say

listed_kind : {S A : Type 0} {P : A → Type 0} (p : Part S A) → Has p P → (xs : List A) → (list_of any p).Fits xs
    → IsListed P xs
listed_kind p q xs f = let k = (list_values any p q xs).0 f in (k.1, k.2)

listed_fits : {S A : Type 0} {P : A → Type 0} (p : Part S A) → Has p P → (xs : List A) → IsListed P xs
    → (list_of any p).Fits xs
listed_fits p q xs is = (list_values any p q xs).1 (omega (arith, is.0), is.0, is.1)

-- ---- the policy and its accounts

outs_kind : (p : PolicyOutputs) (o : Outs) → (policy_outs p).Fits o → ArePolicyOuts p o
unfolding policy_outs
outs_kind policy.PrivilegePage (outs.PrivilegePage context entries) f =
    let k = (privilege_names_values entries).0 f.0.1 in (f.0.0, (k.1, k.2))
outs_kind policy.SidPage (outs.SidPage context sids) f = (f.0.0, listed_kind sid_pointer sid_pointer_has sids f.0.1)
outs_kind policy.Privileges (outs.Privileges ps) f = (privilege_set_pointer_values ps).0 f.0
outs_kind policy.SystemAccess (outs.Bits bits) f = f.0
outs_kind policy.Luid (outs.Luid low high) f = (f.0.0, f.0.1)
outs_kind policy.Name (outs.OneName name) f = (text_pointer_values name).0 f.0
outs_kind policy.Rights (outs.NameList names) f = listed_kind text text_has names f.0
outs_kind _ _ f = absurd (cc f.1)

outs_fit : (p : PolicyOutputs) (o : Outs) → ArePolicyOuts p o → (policy_outs p).Fits o
unfolding policy_outs
outs_fit policy.PrivilegePage (outs.PrivilegePage context entries) is =
    ((is.0, (privilege_names_values entries).1 (omega (arith, is.1.0), is.1.0, is.1.1)), refl)
outs_fit policy.SidPage (outs.SidPage context sids) is =
    ((is.0, listed_fits sid_pointer sid_pointer_has sids is.1), refl)
outs_fit policy.Privileges (outs.Privileges ps) is = ((privilege_set_pointer_values ps).1 is, refl)
outs_fit policy.SystemAccess (outs.Bits bits) is = (is, refl)
outs_fit policy.Luid (outs.Luid low high) is = ((is.0, is.1), refl)
outs_fit policy.Name (outs.OneName name) is = ((text_pointer_values name).1 is, refl)
outs_fit policy.Rights (outs.NameList names) is = (listed_fits text text_has names is, refl)
outs_fit _ _ is = absurd is

outs_complete : (p : PolicyOutputs) → IsComplete (policy_outs p)
unfolding policy_outs
outs_complete policy.PrivilegePage =
    made_complete (λ x. outs.PrivilegePage x.0 x.1) privilege_page_out
    (chain_complete u32_complete (λ x h. privilege_names_complete)) (λ x h. (h, refl))
outs_complete policy.SidPage =
    made_complete (λ x. outs.SidPage x.0 x.1) sid_page_out
    (chain_complete u32_complete (λ x h. list_complete any sid_pointer sid_pointer_has)) (λ x h. (h, refl))
outs_complete policy.Privileges =
    made_complete outs.Privileges privileges_out privilege_set_pointer_complete (λ x h. (h, refl))
outs_complete policy.SystemAccess = made_complete outs.Bits bits_out u32_complete (λ x h. (h, refl))
outs_complete policy.Luid =
    made_complete (λ x. outs.Luid x.0 x.1) luid_out (chain_complete u32_complete (λ x h. u32_complete))
    (λ x h. (h, refl))
outs_complete policy.Name = made_complete outs.OneName name_out text_pointer_complete (λ x h. (h, refl))
outs_complete policy.Rights = made_complete outs.NameList names_out (list_complete any text text_has) (λ x h. (h, refl))

-- such outputs refer to no domain
nowhere : (p : PolicyOutputs) (o : Outs) → ArePolicyOuts p o → domains_of o ≡ []
nowhere policy.PrivilegePage (outs.PrivilegePage context entries) is = refl
nowhere policy.SidPage (outs.SidPage context sids) is = refl
nowhere policy.Privileges (outs.Privileges ps) is = refl
nowhere policy.SystemAccess (outs.Bits bits) is = refl
nowhere policy.Luid (outs.Luid low high) is = refl
nowhere policy.Name (outs.OneName name) is = refl
nowhere policy.Rights (outs.NameList names) is = refl
nowhere _ _ is = absurd is

-- ---- the domains that a translation refers to

domains_kind : (domains : Option (List ReferencedDomain)) → referenced.Fits domains
    → IsListed IsDomain (or_empty domains)
domains_kind None f = (lit< tt, All-nil IsDomain)
domains_kind (Some ps) f = let k = (referenced_values (Some ps)).0 f in (k.1, k.2)

domains_fit : (b : Bool) (domains : List ReferencedDomain) → IsListed IsDomain domains
    → referenced.Fits (cond b None (Some domains))
domains_fit true domains is = (referenced_values None).1 tt
domains_fit false domains is = (referenced_values (Some domains)).1 (omega (arith, is.0), is.0, is.1)

domains_back : (b : Bool) (domains : List ReferencedDomain) → (b ≡ true → domains ≡ [])
    → or_empty (cond b None (Some domains)) ≡ domains
domains_back true domains h = sym (h refl)
domains_back false domains h = refl

refused_none : (b : Bool) (domains : List ReferencedDomain) → or_empty (cond b None (Some domains)) ≡ domains → b ≡ true
    → domains ≡ []
refused_none true domains e h = sym e
refused_none false domains e h = absurd (cc h)

domains_in : Reply → List ReferencedDomain
domains_in (reply.Done status o) = domains_of o
domains_in (reply.Fault status) = []

-- ---- translations

fields_complete : {S A : Type 0} {P : A → Type 0} (p : Part S A) → Has p P
    → IsComplete (translated_fields (list_of any p))
fields_complete p q =
    chain_complete referenced_complete
    (λ x h. chain_complete (list_complete any p q) (λ y k. chain_complete u32_complete (λ z l. u32_complete)))

abbrev HasFields : {A : Type 0} → (A → Type 0) → ℕ → List ReferencedDomain → List A → ℕ → Type 0
HasFields P status domains entries mapped =
    IsLong status × (IsListed IsDomain domains × IsListed P entries × IsLong mapped)

-- what is read
fields_made : {S A : Type 0} {P : A → Type 0} (p : Part S A) → Has p P → (x : TranslatedParts A)
    → (translated_fields (list_of any p)).Fits x → HasFields P x.1.1.1 (or_empty x.0) x.1.0 x.1.1.0
fields_made p q x f = (f.1.1.1, (domains_kind x.0 f.0, listed_kind p q x.1.0 f.1.0, f.1.1.0))

-- what can be written
fields_kind : {S A : Type 0} {P : A → Type 0} (p : Part S A) → Has p P → (status : ℕ) (domains : List ReferencedDomain)
    (entries : List A) (mapped : ℕ)
    → (translated_fields (list_of any p)).Fits (referred_of status domains, (entries, (mapped, status)))
    → or_empty (referred_of status domains) ≡ domains
    → HasFields P status domains entries mapped × (is_refusal status ≡ true → domains ≡ [])
fields_kind {A = A} p q status domains entries mapped f e =
    let x : TranslatedParts A = (referred_of status domains, (entries, (mapped, status))) in
    let k = fields_made p q x f in (
      (k.0, (subst (λ (ds : List ReferencedDomain). IsListed IsDomain ds) e k.1.0, k.1.1, k.1.2)),
      refused_none (is_refusal status) domains e,
    )

fields_fit : {S A : Type 0} {P : A → Type 0} (p : Part S A) → Has p P → (status : ℕ) (domains : List ReferencedDomain)
    (entries : List A) (mapped : ℕ) → HasFields P status domains entries mapped
    → (translated_fields (list_of any p)).Fits (referred_of status domains, (entries, (mapped, status)))
fields_fit p q status domains entries mapped is =
    (domains_fit (is_refusal status) domains is.1.0, (listed_fits p q entries is.1.1, (is.1.2, is.0)))

translated_kind : (t : Translation) (r : Reply) → (translated t).Fits r → IsReplyOf (outputs.Translation t) r
unfolding translated domains_in
translated_kind translation.Names (reply.Done status (outs.Sids domains entries mapped)) f =
    let e : or_empty (referred_of status domains) ≡ domains = ap domains_in f.1 in
    let k = fields_kind (flat translated_sid) translated_sid_has status domains entries mapped f.0 e in
    (k.0.0, k.0.1, k.1)
translated_kind translation.Sids (reply.Done status (outs.Names domains entries mapped)) f =
    let e : or_empty (referred_of status domains) ≡ domains = ap domains_in f.1 in
    let k = fields_kind translated_name translated_name_has status domains entries mapped f.0 e in
    (k.0.0, k.0.1, k.1)
translated_kind translation.Names2 (reply.Done status (outs.Sids domains entries mapped)) f =
    let e : or_empty (referred_of status domains) ≡ domains = ap domains_in f.1 in
    let k = fields_kind (flagged (flat translated_sid)) flagged_sid_has status domains entries mapped f.0 e in
    (k.0.0, k.0.1, k.1)
translated_kind translation.Sids2 (reply.Done status (outs.Names domains entries mapped)) f =
    let e : or_empty (referred_of status domains) ≡ domains = ap domains_in f.1 in
    let k = fields_kind (flagged translated_name) flagged_name_has status domains entries mapped f.0 e in
    (k.0.0, k.0.1, k.1)
translated_kind translation.Names3 (reply.Done status (outs.SidRefs domains entries mapped)) f =
    let e : or_empty (referred_of status domains) ≡ domains = ap domains_in f.1 in
    let k = fields_kind (flagged sid_ref) flagged_ref_has status domains entries mapped f.0 e in
    (k.0.0, k.0.1, k.1)
translated_kind _ _ f = absurd (cc f.1)

translated_fits : (t : Translation) (r : Reply) → IsReplyOf (outputs.Translation t) r → (translated t).Fits r
unfolding translated
translated_fits translation.Names (reply.Done status (outs.Sids domains entries mapped)) is = (
  fields_fit (flat translated_sid) translated_sid_has status domains entries mapped (is.0, is.1),
  ap (λ (ds : List ReferencedDomain). reply.Done status (outs.Sids ds entries mapped))
      (domains_back (is_refusal status) domains is.2),
)
translated_fits translation.Sids (reply.Done status (outs.Names domains entries mapped)) is = (
  fields_fit translated_name translated_name_has status domains entries mapped (is.0, is.1),
  ap (λ (ds : List ReferencedDomain). reply.Done status (outs.Names ds entries mapped))
      (domains_back (is_refusal status) domains is.2),
)
translated_fits translation.Names2 (reply.Done status (outs.Sids domains entries mapped)) is = (
  fields_fit (flagged (flat translated_sid)) flagged_sid_has status domains entries mapped (is.0, is.1),
  ap (λ (ds : List ReferencedDomain). reply.Done status (outs.Sids ds entries mapped))
      (domains_back (is_refusal status) domains is.2),
)
translated_fits translation.Sids2 (reply.Done status (outs.Names domains entries mapped)) is = (
  fields_fit (flagged translated_name) flagged_name_has status domains entries mapped (is.0, is.1),
  ap (λ (ds : List ReferencedDomain). reply.Done status (outs.Names ds entries mapped))
      (domains_back (is_refusal status) domains is.2),
)
translated_fits translation.Names3 (reply.Done status (outs.SidRefs domains entries mapped)) is = (
  fields_fit (flagged sid_ref) flagged_ref_has status domains entries mapped (is.0, is.1),
  ap (λ (ds : List ReferencedDomain). reply.Done status (outs.SidRefs ds entries mapped))
      (domains_back (is_refusal status) domains is.2),
)
translated_fits translation.Names (reply.Done status _) is = absurd is.1
translated_fits translation.Sids (reply.Done status _) is = absurd is.1
translated_fits translation.Names2 (reply.Done status _) is = absurd is.1
translated_fits translation.Sids2 (reply.Done status _) is = absurd is.1
translated_fits translation.Names3 (reply.Done status _) is = absurd is.1
translated_fits _ (reply.Fault status) is = absurd is

made_fits : (t : Translation) (r made : Reply) → made ≡ r → RefersRightly r
    → (RefersRightly made → IsReplyOf (outputs.Translation t) made) → (translated t).Fits r
made_fits t r made e rightly is =
    translated_fits t r (subst (λ (x : Reply). IsReplyOf (outputs.Translation t) x) e
    (is (subst (λ (x : Reply). RefersRightly x) (sym e) rightly)))

translated_writable : (t : Translation) (r : Reply) (start end : Cursor) → IsBytes start.stub
    → (translated t).Spells r start end → RefersRightly r → (translated t).Fits r
unfolding translated
translated_writable translation.Names r start end bytes s rightly =
    let p = flat translated_sid in
    let k = fields_made p translated_sid_has s.0
    ((fields_complete p translated_sid_has).fits s.0 start end bytes s.1) in
    made_fits translation.Names r (sids_done s.0) s.2 rightly (λ refers. (k.0, k.1, refers))
translated_writable translation.Sids r start end bytes s rightly =
    let k = fields_made translated_name translated_name_has s.0
    ((fields_complete translated_name translated_name_has).fits s.0 start end bytes s.1) in
    made_fits translation.Sids r (names_done s.0) s.2 rightly (λ refers. (k.0, k.1, refers))
translated_writable translation.Names2 r start end bytes s rightly =
    let p = flagged (flat translated_sid) in
    let k = fields_made p flagged_sid_has s.0
    ((fields_complete p flagged_sid_has).fits s.0 start end bytes s.1) in
    made_fits translation.Names2 r (sids_done s.0) s.2 rightly (λ refers. (k.0, k.1, refers))
translated_writable translation.Sids2 r start end bytes s rightly =
    let p = flagged translated_name in
    let k = fields_made p flagged_name_has s.0
    ((fields_complete p flagged_name_has).fits s.0 start end bytes s.1) in
    made_fits translation.Sids2 r (names_done s.0) s.2 rightly (λ refers. (k.0, k.1, refers))
translated_writable translation.Names3 r start end bytes s rightly =
    let p = flagged sid_ref in
    let k = fields_made p flagged_ref_has s.0
    ((fields_complete p flagged_ref_has).fits s.0 start end bytes s.1) in
    made_fits translation.Names3 r (refs_done s.0) s.2 rightly (λ refers. (k.0, k.1, refers))

-- ---- whole replies

status_kind : (p : PolicyOutputs) (r : Reply) → (with_status (policy_outs p)).Fits r → IsReplyOf (outputs.Policy p) r
unfolding with_status
status_kind p (reply.Done status o) f = let k = outs_kind p o f.0.0 in (f.0.1, k, λ refused. nowhere p o k)
status_kind p (reply.Fault status) f = absurd (cc f.1)

status_fits : (p : PolicyOutputs) (r : Reply) → IsReplyOf (outputs.Policy p) r → (with_status (policy_outs p)).Fits r
unfolding with_status
status_fits p (reply.Done status o) is = ((outs_fit p o is.1, is.0), refl)
status_fits p (reply.Fault status) is = absurd is

status_complete : (p : PolicyOutputs) → IsComplete (with_status (policy_outs p))
unfolding with_status
status_complete p =
    made_complete done_of parts_of_reply (chain_complete (outs_complete p) (λ x h. u32_complete)) (λ x h. (h, refl))

pub reply_kind : (o : Outputs) (r : Reply) → (own_replies o).Fits r → IsReplyOf o r
unfolding own_replies
reply_kind (outputs.Policy p) r f = status_kind p r f
reply_kind (outputs.Translation t) r f = translated_kind t r f
reply_kind (outputs.Scalar p) r f = absurd f
reply_kind (outputs.Listed l) r f = absurd f
reply_kind (outputs.Shown s) r f = absurd f
reply_kind outputs.Security r f = absurd f

pub reply_fits : (o : Outputs) (r : Reply) → own_outputs Lsa o ≡ true → IsReplyOf o r → (own_replies o).Fits r
unfolding own_replies
reply_fits (outputs.Policy p) r own is = status_fits p r is
reply_fits (outputs.Translation t) r own is = translated_fits t r is
reply_fits _ r own is = absurd (cc own)

pub reply_writable : (o : Outputs) (r : Reply) (start end : Cursor) → IsBytes start.stub
    → (own_replies o).Spells r start end → RefersRightly r → (own_replies o).Fits r
unfolding own_replies
reply_writable (outputs.Policy p) r start end bytes s rightly = (status_complete p).fits r start end bytes s
reply_writable (outputs.Translation t) r start end bytes s rightly = translated_writable t r start end bytes s rightly
reply_writable (outputs.Scalar p) r start end bytes s rightly = absurd s
reply_writable (outputs.Listed l) r start end bytes s rightly = absurd s
reply_writable (outputs.Shown p) r start end bytes s rightly = absurd s
reply_writable outputs.Security r start end bytes s rightly = absurd s

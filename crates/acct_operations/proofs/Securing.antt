-- The operations that read and set security descriptors are right, and keep the rows sound.
use Rattle.std.proofs.Common.{◌≡◌, ℕ, Bool, true, false, not, cond, List, [], length, Option, Some, None, Result, Ok}
use Rattle.std.proofs.Common.{Err, is_some, refl, subst, arith, All, nat_le, ◌≤◌}
use Rattle.std.specs.Prelude.{◌&&◌, IfSome}
use Rattle.std.specs.Option.{unwrap_or}
use Rattle.std.proofs.lemmas.Bool.Decides.{nat_tests}
use Rattle.acct_calls.specs.declared.calls.Args.{Args}
use Rattle.acct_calls.specs.declared.calls.Args.TheVariants as args
use Rattle.acct_calls.specs.declared.calls.Call.{Call}
use Rattle.acct_calls.specs.declared.calls.Face.{Face}
use Rattle.acct_calls.specs.declared.calls.Face.TheVariants.{Samr, Lsa}
use Rattle.acct_calls.specs.declared.replies.Outs.TheVariants as outs
use Rattle.acct_calls.specs.declared.replies.Reply.TheVariants.{Done}
use Rattle.acct_codes.specs.Opnums.{samr_set_security_object, lsar_set_security_object}
use Rattle.acct_codes.specs.Descriptors.{owner_security_information, group_security_information}
use Rattle.acct_codes.specs.Descriptors.{dacl_security_information}
use Rattle.acct_layouts.specs.Values.{IsListed, IsSmall, IfThere}
use Rattle.acct_layouts.specs.CallShapes.{CanBeSpelled, HasArguments, AreSecurityArgs}
use Rattle.acct_layouts.specs.ReplyShapes.{HasShape}
use Rattle.acct_layouts.specs.Table.{layout_of, samr_layout, lsa_layout}
use Rattle.acct_layouts.specs.declared.fields.SecurityFields.TheVariants as security
use Rattle.acct_rows.specs.Laws.{DescriptorsStaySound}
use Rattle.acct_rows.specs.Rows.{exists, Lists}
use Rattle.acct_rows.specs.Sound.{IsSoundRows}
use Rattle.acct_tables.specs.declared.object.Object.{Object}
use Rattle.acct_rules.specs.declared.profile.Kinds.{Kinds}
use Rattle.acct_rules.specs.Asked.{named_info, set_bytes}
use Rattle.acct_rules.specs.Operations.{IsRight, Keeps, KeepsRows}
use Rattle.acct_rules.specs.Planned.{puts, none_fails}
use Rattle.acct_rules.specs.Touched.{is_modest}
use Rattle.dtyp_access.specs.declared.ace.Ace.{Ace}
use Rattle.dtyp_access.specs.declared.descriptor.Descriptor.{Descriptor}
use Rattle.dtyp_access.specs.declared.errors.DescError.{DescError}
use Rattle.dtyp_access.specs.declared.parts.Parts.{Parts}
use Rattle.dtyp_access.specs.Granted.{shares}
use Rattle.dtyp_access.specs.Parts.{IsSidOrNone, IsList, AreParts, IsDescriptor, HasFewAces, has_few_aces, named_parts}
use Rattle.dtyp_access.specs.Parts.{replaced}
use Rattle.dtyp_access.specs.Reading.{parts_of_bytes}
use Rattle.dtyp_access.specs.Spelled.{ReadPartsAreParts, WrittenAreBytes}
use Rattle.dtyp_sid.specs.Sids.{SidValue, IsSid}
use Rattle.acct_operations.specs.Openings.{names_parts, spelled_parts, set_parts, are_spelled, shown_parts}
use Rattle.acct_operations.specs.Openings.{replaced_row, query_security, set_security}
use Rattle.acct_operations.specs.Table.{querying, setting}

-- ---- what is shown

sid-if : (b : Bool) (sid : Option SidValue) → IsSidOrNone sid → IsSidOrNone (cond b sid None)
sid-if true sid is = is
sid-if false sid is = tt

list-if : (b : Bool) (acl : Option (List Ace)) → IsList acl → IsList (cond b acl None)
list-if true acl is = is
list-if false acl is = tt

named-limits : (info : ℕ) (d : Descriptor) → IsDescriptor d → AreParts (named_parts info d)
named-limits info d is = record {
  owner = sid-if (shares info owner_security_information) (Some d.owner) is.owner;
  group = sid-if (shares info group_security_information) d.group is.group;
  acl = list-if (shares info dacl_security_information) d.acl is.acl;
}

shown-bytes : WrittenAreBytes → (info : ℕ) (described : Option Descriptor) → IfSome described IsDescriptor
    → IfThere (IsListed IsSmall) (shown_parts info described)
shown-bytes written info None is = tt
shown-bytes written info (Some d) is =
    let bytes = written (named_parts info d) (named-limits info d is) in
    (omega (arith, bytes.short), bytes.small)

-- a list that keeps its limits has few entries
pub few-listed : (acl : Option (List Ace)) → IsList acl → HasFewAces acl
few-listed None is = λ aces e. absurd cc
few-listed (Some others) is = λ aces e.
    let same : others ≡ aces = cc in
    subst (λ (xs : List Ace). length xs ≤ 800) same is.1

-- a reply with such bytes, or none, has the shape
abbrev pub GivesBytes : Face → ℕ → Type 0
GivesBytes face opnum =
    (bytes : Option (List ℕ)) → IfThere (IsListed IsSmall) bytes → HasShape face opnum (Done 0 (outs.Security bytes))

pub query-right : WrittenAreBytes → (face : Face) (opnum : ℕ) (kinds : Kinds) → is_some (layout_of face opnum) ≡ true
    → GivesBytes face opnum
    → IsRight (record { profile = querying face opnum kinds; rule = query_security })
query-right written face opnum kinds laid shaped = record {
  laid_out = laid;
  refuses = λ r described object asked. refl;
  succeeds = λ r described object asked. refl;
  frugal = λ r described object asked. refl;
  modest = λ r described object asked. refl;
  shaped = λ r described object call few is none.
      shaped (shown_parts (named_info call.args) described)
      (shown-bytes written (named_info call.args) described is.limits);
}

-- ---- what is set

modest-row : (object : Object) (info : ℕ) (described : Option Descriptor) (parts : Option Parts)
    → is_modest (record { puts = replaced_row object info described parts; removes = [] }) ≡ true
modest-row object info (Some d) (Some parts) = refl
modest-row object info (Some d) None = refl
modest-row object info None (Some parts) = refl
modest-row object info None None = refl

abbrev pub GivesNothing : Face → ℕ → Type 0
GivesNothing face opnum = HasShape face opnum (Done 0 outs.Nothing)

pub set-right : (face : Face) (opnum : ℕ) (kinds : Kinds) → is_some (layout_of face opnum) ≡ true
    → GivesNothing face opnum
    → IsRight (record { profile = setting face opnum kinds; rule = set_security })
set-right face opnum kinds laid shaped = record {
  laid_out = laid;
  refuses = λ r described object asked. refl;
  succeeds = λ r described object asked. refl;
  frugal = λ r described object asked. refl;
  modest = λ r described object asked. modest-row object (named_info asked) described (set_parts asked);
  shaped = λ r described object call few is none. shaped;
}

-- ---- what a query or a set leaves

pub query-keeps : (face : Face) (opnum : ℕ) (kinds : Kinds)
    → KeepsRows (record { profile = querying face opnum kinds; rule = query_security })
query-keeps face opnum kinds r described object call is none =
    record { sound = is.rows; stays = λ x was other. was; opens = λ opening e. cc }

sid-or : (sid : Option SidValue) (other : SidValue) → IsSidOrNone sid → IsSid other → IsSid (unwrap_or sid other)
sid-or None other is there = there
sid-or (Some sid) other is there = is

either : {A : Type 0} (P : A → Type 0) (b : Bool) (x y : A) → P x → P y → P (cond b x y)
either P true x y first second = first
either P false x y first second = second

replaced-limits : (d : Descriptor) (info : ℕ) (p : Parts) → IsDescriptor d → AreParts p
    → IsDescriptor (replaced d info p)
unfolding replaced
replaced-limits d info p is are = record {
  owner =
      either IsSid (shares info owner_security_information) (unwrap_or p.owner d.owner) d.owner
      (sid-or p.owner d.owner are.owner is.owner) is.owner;
  group = either IsSidOrNone (shares info group_security_information) p.group d.group are.group is.group;
  acl = either IsList (shares info dacl_security_information) p.acl d.acl are.acl is.acl;
}

same-keep : (r : Lists) → IsSoundRows r → Keeps r (puts [])
same-keep r sound = record { sound = sound; stays = λ x was other. was; opens = λ opening e. cc }

row-keeps : DescriptorsStaySound → (r : Lists) (object : Object) (info : ℕ) (described : Option Descriptor)
    (parts : Option Parts) → IsSoundRows r → exists r object ≡ true → IfSome described IsDescriptor
    → IfSome parts AreParts → Keeps r (puts (replaced_row object info described parts))
row-keeps stay r object info (Some d) (Some p) sound there is are =
    let law = stay r (record { object = object; descriptor = replaced d info p }) sound
    (replaced-limits d info p is are) there in
    record { sound = law.sound; stays = λ x was other. law.stays x was refl; opens = λ opening e. cc }
row-keeps stay r object info (Some d) None sound there is are = same-keep r sound
row-keeps stay r object info None (Some p) sound there is are = same-keep r sound
row-keeps stay r object info None None sound there is are = same-keep r sound

-- the parts that are set keep their limits
few-of : (acl : Option (List Ace)) → has_few_aces acl ≡ true → HasFewAces acl
few-of None is = λ aces e. absurd cc
few-of (Some others) is = λ aces e.
    let same : others ≡ aces = cc in
    let few : nat_le (length aces) 800 ≡ true = subst (λ (xs : List Ace). nat_le (length xs) 800 ≡ true) same is in
    grind (arith, nat_tests)

limits-of : ReadPartsAreParts → (bytes : List ℕ) (read : Result Parts DescError) → parts_of_bytes bytes ≡ read
    → All IsSmall bytes → are_spelled (spelled_parts read) ≡ true → IfSome (spelled_parts read) AreParts
limits-of read bytes (Ok p) is small spelled = read bytes p small is (few-of p.acl spelled)
limits-of read bytes (Err e) is small spelled = tt

first-of : (a b : Bool) → (not a && b) ≡ true → (a ≡ false) × (b ≡ true)
first-of true b h = cc
first-of false b h = (refl, h)

is-true : (b : Bool) → not b ≡ false → b ≡ true
is-true true h = refl
is-true false h = cc

abbrev Brings : Args → Type 0
Brings asked = AreSecurityArgs security.Set asked

small-bytes : (asked : Args) → Brings asked → All IsSmall (set_bytes asked)
small-bytes (args.Security info bytes) brings = brings.2
small-bytes _ brings = absurd brings

set-keeps-by : ReadPartsAreParts → DescriptorsStaySound → (r : Lists) (described : Option Descriptor) (object : Object)
    (asked : Args) → IsSoundRows r → exists r object ≡ true → IfSome described IsDescriptor → Brings asked
    → none_fails (set_security r described object asked).conditions ≡ true
    → Keeps r (set_security r described object asked).planned
set-keeps-by read stay r described object asked sound there limits brings none =
    let first = first-of (not (names_parts (named_info asked))) _ none in
    let second = first-of (not (are_spelled (set_parts asked))) _ first.1 in
    row-keeps stay r object (named_info asked) described (set_parts asked) sound there limits
    (limits-of read (set_bytes asked) (parts_of_bytes (set_bytes asked)) refl (small-bytes asked brings)
    (is-true (are_spelled (set_parts asked)) second.0))

-- the arguments are those of the layout
arguments : (call : Call) (face : Face) (opnum : ℕ) → call.face ≡ face → call.opnum ≡ opnum → CanBeSpelled call
    → HasArguments (layout_of face opnum) call
unfolding CanBeSpelled
arguments call face opnum faces opnums spelled =
    subst (λ f. HasArguments (layout_of f opnum) call) faces
    (subst (λ n. HasArguments (layout_of call.face n) call) opnums spelled)

pub samr-set-keeps : ReadPartsAreParts → DescriptorsStaySound → (kinds : Kinds)
    → KeepsRows (record { profile = setting Samr samr_set_security_object kinds; rule = set_security })
unfolding samr_layout
samr-set-keeps read stay kinds r described object call is none =
    set-keeps-by read stay r described object call.args is.rows is.there is.limits
    (arguments call Samr samr_set_security_object is.face is.opnum is.spelled).1 none

pub lsa-set-keeps : ReadPartsAreParts → DescriptorsStaySound → (kinds : Kinds)
    → KeepsRows (record { profile = setting Lsa lsar_set_security_object kinds; rule = set_security })
unfolding lsa_layout
lsa-set-keeps read stay kinds r described object call is none =
    set-keeps-by read stay r described object call.args is.rows is.there is.limits
    (arguments call Lsa lsar_set_security_object is.face is.opnum is.spelled).1 none

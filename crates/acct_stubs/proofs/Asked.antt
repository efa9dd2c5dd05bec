-- What the writers of texts and lists ask for, from what the shapes' values are.
use Rattle.std.proofs.Common.{ℕ, ◌^◌, ◌<◌, ◌≤◌, All, List, length, Option, Some, None, arith}
use Rattle.std.proofs.lemmas.Bool.{leb-true}
use Rattle.ndr_core.specs.Parts.{Part, PartFits, flat, list, list_of, whole}
use Rattle.ndr_core.specs.Shapes.{u32}
use Rattle.dtyp_sid.specs.Sids.{SidValue}
use Rattle.acct_codes.specs.Limits.{most_searched}
use Rattle.acct_calls.specs.declared.lists.RidBits.{RidBits}
use Rattle.acct_calls.specs.declared.lists.RidName.{RidName}
use Rattle.acct_layouts.specs.Values.{IfThere, IsAccount, IsListed, IsMember, IsText}
use Rattle.ndr_types.proofs.Parts.{all_as, array_all, whole_kind}
use Rattle.ndr_types.proofs.Records.{rid_bits_has}
use Rattle.ndr_types.proofs.ShapeValues.{list_values, rid_names_values}
use Rattle.ndr_types.proofs.Sids.{long_has, sid_pointer_has}
use Rattle.ndr_types.proofs.Texts.{text_has}
use Rattle.ndr_types.specs.Listed.{any, rid_names, rid_bits}
use Rattle.ndr_types.specs.Bounds.{AnyValue, HasShortName, IsShort}
use Rattle.ndr_types.specs.Laws.{IsListOf}
use Rattle.ndr_types.specs.Values.{rid_list, sid_list, text_list, sid_pointer, text}
use Rattle.acct_stubs.proofs.MemberLists.{members_values}
use Rattle.acct_stubs.specs.Arguments.{sought}
use Rattle.acct_stubs.specs.Infos.{members}

pub short_text : (us : List ℕ) → (whole text).Fits us → IsShort us
short_text us h = (whole_kind text text_has us h).0

-- a text that a structure embeds
pub short_part : (us : List ℕ) → text.head.Fits (text.head_of us) → IsShort us
unfolding text
short_part us h = omega (arith, h.0.0)

pub sought_count : {S A : Type 0} (p : Part S A) (xs : List A) → (sought p).Fits xs → length xs ≤ most_searched
unfolding sought
sought_count p xs h = leb-true _ _ h.0.0.1

pub sought_short : (names : List (List ℕ)) → (sought text).Fits names → All IsShort names
unfolding sought
sought_short names h =
    let a = h.0.1.0.1.0.1.0.1.0 in
    all_as {P = PartFits text} {Q = IsShort} names (λ us fits. (text_has.kind us fits).0)
    (array_all text (length names) names a.0 a.1).1

pub sids_counted : (most : ℕ) (sids : List SidValue) → (sid_list most).Fits sids → length sids < 2 ^ 32
sids_counted most sids h = ((list_values most sid_pointer sid_pointer_has sids).0 h).1

pub rids_counted : (most : ℕ) (rids : List ℕ) → (rid_list most).Fits rids → length rids < 2 ^ 32
rids_counted most rids h = ((list_values most (flat u32) long_has rids).0 h).1

pub texts_listed : (most : ℕ) (names : List (List ℕ)) → (text_list most).Fits names → IsListed IsShort names
texts_listed most names h =
    let k = (list_values most text text_has names).0 h in
    (k.1, all_as {P = IsText} {Q = IsShort} names (λ us is. is.0) k.2)

pub members_listed : (most : ℕ) (members : List RidBits) → (list_of most rid_bits).Fits members
    → IsListed AnyValue members
members_listed most members h =
    let k = (list_values most rid_bits rid_bits_has members).0 h in
    (k.1, all_as {P = IsMember} {Q = AnyValue} members (λ r is. tt) k.2)

few_members : (list : Option (List RidBits)) → IfThere (IsListed IsMember) list → IfThere (IsListed AnyValue) list
few_members None h = tt
few_members (Some xs) h = (h.0, all_as {P = IsMember} {Q = AnyValue} xs (λ r is. tt) h.1)

pub members_counted : (list : Option (List RidBits)) → members.Fits list → IfThere (IsListed AnyValue) list
members_counted list h = few_members list ((members_values list).0 h)

short_names : (entries : Option (List RidName)) → IfThere (IsListOf any IsAccount) entries
    → IfThere (IsListed HasShortName) entries
short_names None h = tt
short_names (Some xs) h = (h.1, all_as {P = IsAccount} {Q = HasShortName} xs (λ r is. is.1.0) h.2)

pub accounts_listed : (entries : Option (List RidName)) → rid_names.Fits entries
    → IfThere (IsListed HasShortName) entries
accounts_listed entries h = short_names entries ((rid_names_values entries).0 h)

-- ---- what one writer asks for, as one name

pub ruleset value_asked = (short_text, short_part)

pub ruleset listed_asked =
    (accounts_listed, texts_listed, sids_counted, rids_counted, members_listed, members_counted)

pub ruleset searched_asked = (sids_counted, sought_short)

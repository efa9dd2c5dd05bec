-- The shape of a reply: which outputs its operation has (MS-SAMR 3.1.5, MS-LSAD 3.1.4, MS-LSAT 3.1.4), and which values
-- these may have.
use Rattle.std.specs.Prelude.{◌≡◌, ℕ, ◌^◌, ◌<◌, true, List, [], Option, Some, None}
use Rattle.dtyp_sid.specs.Sids.{IsSid}
use Rattle.acct_calls.specs.declared.calls.Face.{Face}
use Rattle.acct_calls.specs.declared.info.Info.{Info}
use Rattle.acct_calls.specs.declared.lists.DisplayRow.{DisplayRow}
use Rattle.acct_calls.specs.declared.lists.ReferencedDomain.{ReferencedDomain}
use Rattle.acct_calls.specs.declared.replies.Outs.{Outs}
use Rattle.acct_calls.specs.declared.replies.Outs.TheVariants as outs
use Rattle.acct_calls.specs.declared.replies.Reply.{Reply}
use Rattle.acct_calls.specs.declared.replies.Reply.TheVariants as reply
use Rattle.acct_layouts.specs.Values.{IsAccount, IsDomain, IsHandle, IsLong, IsMember, IsPrivilegeSet, IsSmall, IsText}
use Rattle.acct_layouts.specs.Values.{IsTranslatedName, IsTranslatedSid, IsSidRef, IsDisplayedUser, IsDisplayedGroup}
use Rattle.acct_layouts.specs.Values.{IfThere, IsListed, display_arm, shown_arm, IsOfArm}
use Rattle.acct_layouts.specs.Refusals.{is_refusal}
use Rattle.acct_layouts.specs.Table.{layout_of}
use Rattle.acct_layouts.specs.declared.classes.DisplayArm.{DisplayArm}
use Rattle.acct_layouts.specs.declared.classes.DisplayArm.TheVariants as display
use Rattle.acct_layouts.specs.declared.classes.Subject.{Subject}
use Rattle.acct_layouts.specs.declared.fields.Translation.{Translation}
use Rattle.acct_layouts.specs.declared.fields.Translation.TheVariants as translation
use Rattle.acct_layouts.specs.declared.outputs.Listed.{Listed}
use Rattle.acct_layouts.specs.declared.outputs.Listed.TheVariants as listed
use Rattle.acct_layouts.specs.declared.outputs.Outputs.{Outputs}
use Rattle.acct_layouts.specs.declared.outputs.Outputs.TheVariants as outputs
use Rattle.acct_layouts.specs.declared.outputs.ScalarOutputs.{ScalarOutputs}
use Rattle.acct_layouts.specs.declared.outputs.ScalarOutputs.TheVariants as scalar
use Rattle.acct_layouts.specs.declared.outputs.PolicyOutputs.{PolicyOutputs}
use Rattle.acct_layouts.specs.declared.outputs.PolicyOutputs.TheVariants as policy
use Rattle.acct_layouts.specs.declared.table.Layout.{Layout}

-- A handle's number is below 2^128 (IsHandle), a byte below 2^8 (IsSmall), other numbers are below 2^32 (IsLong). A
-- text has at most 32,767 units, each below 2^16 (IsText), a list fewer than 2^32 elements of a kind (IsListed). What a
-- pointer may leave out is of its kind where it is there (IfThere).

abbrev pub ArePlain : ScalarOutputs → Outs → Type 0
ArePlain scalar.Nothing outs.Nothing = Unit {0}
ArePlain scalar.Handle (outs.Handle h) = IsHandle h
ArePlain scalar.HandleBack (outs.Handle h) = IsHandle h
ArePlain scalar.Connected (outs.Handle h) = IsHandle h
-- the granted access isn't among the outputs, and is 0
ArePlain scalar.Created (outs.Created h granted rid) = IsHandle h × (granted ≡ 0) × IsLong rid
ArePlain scalar.Granted (outs.Created h granted rid) = IsHandle h × IsLong granted × IsLong rid
ArePlain scalar.Sid (outs.OneSid s) = IfThere IsSid s
ArePlain _ _ = ⊥

-- Users or groups, by the class; another class displays none.
abbrev pub AreDisplayed : Option DisplayArm → List DisplayRow → Type 0
AreDisplayed None rows = rows ≡ []
AreDisplayed (Some display.User) rows = IsListed IsDisplayedUser rows
AreDisplayed (Some display.Group) rows = IsListed IsDisplayedGroup rows

abbrev pub AreLists : Listed → Outs → Type 0
AreLists listed.Page (outs.Page context entries) = IsLong context × IfThere (IsListed IsAccount) entries
AreLists listed.Rids (outs.RidList rids) = IsListed IsLong rids
-- two lists, each of its own length
AreLists listed.RidUses (outs.RidUses rids uses) = IsListed IsLong rids × IsListed IsLong uses
AreLists listed.NameUses (outs.NameUses names uses) = IsListed IsText names × IsListed IsLong uses
AreLists listed.Groups (outs.Pairs groups) = IfThere (IsListed IsMember) groups
AreLists listed.Members (outs.Pairs members) = IfThere (IsListed IsMember) members
AreLists listed.Sids (outs.SidList sids) = IsListed IsSid sids
AreLists listed.Display (outs.Display class total returned rows) =
    (class < 2 ^ 16) × IsLong total × IsLong returned × AreDisplayed (display_arm class) rows
AreLists _ _ = ⊥

-- A class that is shown of such an object, with a value of this class; or the class 0, and no value.
abbrev pub IsShown : Subject → ℕ → Option Info → Type 0
IsShown s class None = class ≡ 0
IsShown s class (Some value) = IsOfArm (shown_arm s class) value

abbrev pub AreShown : Subject → Outs → Type 0
AreShown s (outs.Shown class value) = IsShown s class value
AreShown s _ = ⊥

-- A page of privileges has the low parts of their LUIDs, whose high parts are 0.
abbrev pub ArePolicyOuts : PolicyOutputs → Outs → Type 0
ArePolicyOuts policy.PrivilegePage (outs.PrivilegePage context entries) = IsLong context × IsListed IsAccount entries
ArePolicyOuts policy.SidPage (outs.SidPage context sids) = IsLong context × IsListed IsSid sids
ArePolicyOuts policy.Privileges (outs.Privileges privileges) = IfThere IsPrivilegeSet privileges
ArePolicyOuts policy.SystemAccess (outs.Bits bits) = IsLong bits
ArePolicyOuts policy.Luid (outs.Luid low high) = IsLong low × IsLong high
ArePolicyOuts policy.Name (outs.OneName name) = IfThere IsText name
ArePolicyOuts policy.Rights (outs.NameList names) = IsListed IsText names
ArePolicyOuts _ _ = ⊥

abbrev pub AreNamesTranslated : Outs → Type 0
AreNamesTranslated (outs.Sids domains entries mapped) =
    IsListed IsDomain domains × IsListed IsTranslatedSid entries × IsLong mapped
AreNamesTranslated _ = ⊥

abbrev pub AreSidsTranslated : Outs → Type 0
AreSidsTranslated (outs.Names domains entries mapped) =
    IsListed IsDomain domains × IsListed IsTranslatedName entries × IsLong mapped
AreSidsTranslated _ = ⊥

abbrev pub AreNamesWithSids : Outs → Type 0
AreNamesWithSids (outs.SidRefs domains entries mapped) =
    IsListed IsDomain domains × IsListed IsSidRef entries × IsLong mapped
AreNamesWithSids _ = ⊥

abbrev pub AreTranslated : Translation → Outs → Type 0
AreTranslated translation.Names o = AreNamesTranslated o
AreTranslated translation.Sids o = AreSidsTranslated o
AreTranslated translation.Names2 o = AreNamesTranslated o
AreTranslated translation.Sids2 o = AreSidsTranslated o
AreTranslated translation.Names3 o = AreNamesWithSids o

-- the bytes of a descriptor
abbrev pub AreSecurity : Outs → Type 0
AreSecurity (outs.Security bytes) = IfThere (IsListed IsSmall) bytes
AreSecurity _ = ⊥

abbrev pub AreOutputs : Outputs → Outs → Type 0
AreOutputs (outputs.Scalar p) o = ArePlain p o
AreOutputs (outputs.Listed l) o = AreLists l o
AreOutputs (outputs.Shown s) o = AreShown s o
AreOutputs (outputs.Policy p) o = ArePolicyOuts p o
AreOutputs (outputs.Translation t) o = AreTranslated t o
AreOutputs outputs.Security o = AreSecurity o

-- the domains that a translation refers to
abbrev pub domains_of : Outs → List ReferencedDomain
domains_of (outs.Sids domains entries mapped) = domains
domains_of (outs.Names domains entries mapped) = domains
domains_of (outs.SidRefs domains entries mapped) = domains
domains_of _ = []

-- A refusal refers to no domain.
abbrev pub RefersRightly : Reply → Type 0
RefersRightly (reply.Done status o) = is_refusal status ≡ true → domains_of o ≡ []
RefersRightly (reply.Fault status) = Unit {0}

-- The reply is no fault, and has these outputs.
abbrev pub IsReplyOf : Outputs → Reply → Type 0
IsReplyOf o (reply.Done status out) = IsLong status × AreOutputs o out × RefersRightly (reply.Done status out)
IsReplyOf o (reply.Fault status) = ⊥

abbrev pub HasOutputs : Option Layout → Reply → Type 0
HasOutputs None r = ⊥
HasOutputs (Some layout) r = IsReplyOf layout.outputs r

-- The reply has the outputs of its operation.
unfoldable pub HasShape : Face → ℕ → Reply → Type 0
HasShape face opnum r = HasOutputs (layout_of face opnum) r

-- The shape of a call: what its operation is brought (MS-SAMR 3.1.5, MS-LSAD 3.1.4, MS-LSAT 3.1.4), and which values
-- this may have.
use Rattle.std.specs.Prelude.{◌≡◌, ℕ, ◌^◌, ◌<◌, ◌≤◌, false, All, length, Option, Some, None}
use Rattle.dtyp_sid.specs.Sids.{IsSid}
use Rattle.acct_calls.specs.declared.calls.Args.{Args}
use Rattle.acct_calls.specs.declared.calls.Args.TheVariants as args
use Rattle.acct_calls.specs.declared.calls.Call.{Call}
use Rattle.acct_calls.specs.declared.handle.Handle.{Handle}
use Rattle.acct_calls.specs.declared.info.Info.{Info}
use Rattle.acct_calls.specs.declared.info.Info.TheVariants as info
use Rattle.acct_codes.specs.Limits.{most_descriptor, most_searched, most_member_sids, most_rights}
use Rattle.acct_codes.specs.Limits.{most_translated_names, most_translated_sids}
use Rattle.acct_codes.specs.Accounts.{user_normal_account}
use Rattle.acct_layouts.specs.Values.{IsHandle, IsLong, IsSmall, IsText, IsPrivilegeSet, IfThere, set_arm}
use Rattle.acct_layouts.specs.Values.{is_password_class, IsValue}
use Rattle.acct_layouts.specs.Table.{layout_of}
use Rattle.acct_layouts.specs.declared.classes.Arm.{Arm}
use Rattle.acct_layouts.specs.declared.classes.Subject.{Subject}
use Rattle.acct_layouts.specs.declared.fields.Connect.{Connect}
use Rattle.acct_layouts.specs.declared.fields.Connect.TheVariants as connect
use Rattle.acct_layouts.specs.declared.fields.Creation.{Creation}
use Rattle.acct_layouts.specs.declared.fields.Creation.TheVariants as creation
use Rattle.acct_layouts.specs.declared.fields.Fields.{Fields}
use Rattle.acct_layouts.specs.declared.fields.Fields.TheVariants as fields
use Rattle.acct_layouts.specs.declared.fields.ScalarFields.{ScalarFields}
use Rattle.acct_layouts.specs.declared.fields.ScalarFields.TheVariants as plain
use Rattle.acct_layouts.specs.declared.fields.PolicyFields.{PolicyFields}
use Rattle.acct_layouts.specs.declared.fields.PolicyFields.TheVariants as policy
use Rattle.acct_layouts.specs.declared.fields.Search.{Search}
use Rattle.acct_layouts.specs.declared.fields.Search.TheVariants as search
use Rattle.acct_layouts.specs.declared.fields.SecurityFields.{SecurityFields}
use Rattle.acct_layouts.specs.declared.fields.SecurityFields.TheVariants as security
use Rattle.acct_layouts.specs.declared.fields.Translation.{Translation}
use Rattle.acct_layouts.specs.declared.fields.Translation.TheVariants as translation
use Rattle.acct_layouts.specs.declared.table.Layout.{Layout}

-- An opening of the policy may name a root.
abbrev pub AreConnectArgs : Connect → Args → Type 0
AreConnectArgs connect.Connect2 (args.Access access) = IsLong access
AreConnectArgs connect.Connect4 (args.Access access) = IsLong access
AreConnectArgs connect.Connect5 (args.Access access) = IsLong access
AreConnectArgs connect.OpenPolicy2 (args.Policy rooted access) = IsLong access
AreConnectArgs _ _ = ⊥

abbrev pub ArePlainArgs : ScalarFields → Args → Type 0
ArePlainArgs plain.Nothing args.Nothing = Unit {0}
ArePlainArgs plain.Rid (args.Rid rid) = IsLong rid
ArePlainArgs plain.Member (args.RidBits rid bits) = IsLong rid × IsLong bits
ArePlainArgs plain.Sid (args.OneSid s) = IsSid s
ArePlainArgs plain.Name (args.OneName (Some name)) = IsText name
ArePlainArgs plain.OpenDomain (args.AccessSid access s) = IsLong access × IsSid s
ArePlainArgs plain.OpenAccount (args.AccessRid access rid) = IsLong access × IsLong rid
ArePlainArgs _ _ = ⊥

-- Only a page of users has a filter.
abbrev pub AreSearchArgs : Search → Args → Type 0
AreSearchArgs search.Page (args.Page context filter preferred) = IsLong context × (filter ≡ 0) × IsLong preferred
AreSearchArgs search.FilteredPage (args.Page context filter preferred) =
    IsLong context × IsLong filter × IsLong preferred
AreSearchArgs search.Sids (args.SidList sids) = (length sids ≤ most_member_sids) × All IsSid sids
AreSearchArgs search.Names (args.NameList names) = (length names ≤ most_searched) × All IsText names
AreSearchArgs search.Rids (args.RidList rids) = (length rids ≤ most_searched) × All IsLong rids
AreSearchArgs search.Display (args.Display class index count preferred) =
    (class < 2 ^ 16) × IsLong index × IsLong count × IsLong preferred
AreSearchArgs _ _ = ⊥

-- A group and an alias begin with no control bits, a user with those of a normal account or with those that the call
-- brings.
abbrev pub IsNewBits : Creation → ℕ → Type 0
IsNewBits creation.Account bits = bits ≡ 0
IsNewBits creation.User bits = bits ≡ user_normal_account
IsNewBits creation.TypedUser bits = IsLong bits

abbrev pub AreCreationArgs : Creation → Args → Type 0
AreCreationArgs c (args.Make name bits access) = IsText name × IsNewBits c bits × IsLong access
AreCreationArgs c _ = ⊥

-- What is added isn't `all`.
abbrev pub ArePolicyArgs : PolicyFields → Args → Type 0
ArePolicyArgs policy.Account (args.AccessSid access s) = IsLong access × IsSid s
ArePolicyArgs policy.AddPrivileges (args.Privileges false (Some privileges)) = IsPrivilegeSet privileges
ArePolicyArgs policy.RemovePrivileges (args.Privileges all privileges) = IfThere IsPrivilegeSet privileges
ArePolicyArgs policy.SystemAccess (args.Bits bits) = IsLong bits
ArePolicyArgs policy.Luid (args.Luid low high) = IsLong low × IsLong high
ArePolicyArgs policy.Right (args.OneName name) = IfThere IsText name
ArePolicyArgs policy.AddRights (args.Rights s false names) = IsSid s × (length names ≤ most_rights) × All IsText names
ArePolicyArgs policy.RemoveRights (args.Rights s all names) = IsSid s × (length names ≤ most_rights) × All IsText names
ArePolicyArgs _ _ = ⊥

abbrev pub AreNamesAsked : Args → Type 0
AreNamesAsked (args.LookNames level names) =
    (level < 2 ^ 16) × (length names ≤ most_translated_names) × All IsText names
AreNamesAsked _ = ⊥

abbrev pub AreSidsAsked : Args → Type 0
AreSidsAsked (args.LookSids level sids) = (level < 2 ^ 16) × (length sids ≤ most_translated_sids) × All IsSid sids
AreSidsAsked _ = ⊥

-- The later forms bring what the first ones do.
abbrev pub AreTranslationArgs : Translation → Args → Type 0
AreTranslationArgs translation.Names a = AreNamesAsked a
AreTranslationArgs translation.Sids a = AreSidsAsked a
AreTranslationArgs translation.Names2 a = AreNamesAsked a
AreTranslationArgs translation.Sids2 a = AreSidsAsked a
AreTranslationArgs translation.Names3 a = AreNamesAsked a

-- A descriptor that is set has at most 262,144 bytes.
abbrev pub AreSecurityArgs : SecurityFields → Args → Type 0
AreSecurityArgs security.Query (args.Bits info) = IsLong info
AreSecurityArgs security.Set (args.Security info bytes) =
    IsLong info × (length bytes ≤ most_descriptor) × All IsSmall bytes
AreSecurityArgs _ _ = ⊥

-- A class has 16 bits, and none that carries a password is served.
abbrev pub IsClass : Subject → ℕ → Type 0
IsClass s class = (class < 2 ^ 16) × (is_password_class s class ≡ false)

-- The value of a class that can't be set isn't brought.
abbrev pub IsPut : Option Arm → Info → Type 0
IsPut None value = value ≡ info.Unserved
IsPut (Some a) value = IsValue a value

abbrev pub AreArguments : Fields → Args → Type 0
AreArguments (fields.Connect c) a = AreConnectArgs c a
AreArguments (fields.Scalar p) a = ArePlainArgs p a
AreArguments (fields.Search s) a = AreSearchArgs s a
AreArguments (fields.Creation c) a = AreCreationArgs c a
AreArguments (fields.Class s) (args.Class class) = IsClass s class
AreArguments (fields.Put s) (args.Put class value) = IsClass s class × IsPut (set_arm s class) value
AreArguments (fields.Policy p) a = ArePolicyArgs p a
AreArguments (fields.Translation t) a = AreTranslationArgs t a
AreArguments (fields.Security s) a = AreSecurityArgs s a
AreArguments _ _ = ⊥

-- An opening of the server or of the policy brings the zero handle.
abbrev pub IsHandleOf : Fields → Handle → Type 0
IsHandleOf (fields.Connect c) h = h.number ≡ 0
IsHandleOf _ h = IsHandle h

abbrev pub HasArguments : Option Layout → Call → Type 0
HasArguments None call = ⊥
HasArguments (Some layout) call = IsHandleOf layout.fields call.handle × AreArguments layout.fields call.args

-- The call brings what its operation takes, and asks for no class that isn't served.
unfoldable pub CanBeSpelled : Call → Type 0
CanBeSpelled call = HasArguments (layout_of call.face call.opnum) call

-- The interface of the account database: the layouts that it has alone.
use Rattle.std.specs.Prelude.{ℕ, List, []}
use Rattle.acct_codes.specs.Accounts.{user_normal_account}
use Rattle.acct_calls.specs.declared.calls.Args.{Args}
use Rattle.acct_calls.specs.declared.calls.Args.TheVariants as args
use Rattle.acct_calls.specs.declared.calls.Face.TheVariants.{Samr}
use Rattle.acct_calls.specs.declared.replies.Reply.{Reply}
use Rattle.ndr_core.specs.Codec.{Codec}
use Rattle.ndr_core.specs.Parts.{whole}
use Rattle.ndr_core.specs.Shapes.{followed, given, ignored, made, u32, u32_such, unspelled, chain}
use Rattle.acct_layouts.specs.declared.fields.Connect.{Connect}
use Rattle.acct_layouts.specs.declared.fields.Connect.TheVariants as connect
use Rattle.acct_layouts.specs.declared.fields.Creation.{Creation}
use Rattle.acct_layouts.specs.declared.fields.Creation.TheVariants as creation
use Rattle.acct_layouts.specs.declared.fields.Fields.{Fields}
use Rattle.acct_layouts.specs.declared.fields.Fields.TheVariants as fields
use Rattle.acct_layouts.specs.declared.outputs.Outputs.{Outputs}
use Rattle.ndr_types.specs.Values.{text}
use Rattle.acct_stubs.specs.Outputs.{is_one}
use Rattle.acct_stubs.specs.Arguments.{server_name, Wire}

-- ======== what the openings of the server bring (MS-SAMR 3.1.5.1.1 to 3.1.5.1.3): none of them takes a handle

-- InVersion, which is 1, and InRevisionInfo (SAMPR_REVISION_INFO, MS-SAMR 2.2.3.16): the tag 1, then Revision and
-- SupportedFeatures, which aren't looked at and are written as 3 and 0.
unfoldable pub revision_asked : Codec (Unit {0})
revision_asked = ignored 1 (u32_such is_one) (ignored 1 (u32_such is_one) (ignored 3 u32 (ignored 0 u32 (given tt))))

-- the access that an opening asks for
abbrev pub desired_access : Args → ℕ
desired_access (args.Access access) = access
desired_access _ = 0

unfoldable pub connect_args : Connect → Codec Args
-- SamrConnect2: ServerName, DesiredAccess
connect_args connect.Connect2 = ignored tt server_name (made args.Access desired_access u32)
-- SamrConnect4: ServerName, ClientRevision, which isn't looked at and is written as 2, DesiredAccess
connect_args connect.Connect4 = ignored tt server_name (ignored 2 u32 (made args.Access desired_access u32))
-- SamrConnect5: ServerName, DesiredAccess, InVersion, InRevisionInfo
connect_args connect.Connect5 =
    ignored tt server_name (followed tt revision_asked (made args.Access desired_access u32))
-- an opening of the policy is none of this interface
connect_args connect.OpenPolicy2 = unspelled

-- ======== what the openings of new accounts bring after the handle (MS-SAMR 3.1.5.4)

abbrev pub made_in : Args → List ℕ × ℕ
made_in (args.Make name bits access) = (name, access)
made_in _ = ([], 0)

abbrev pub typed_in : Args → List ℕ × (ℕ × ℕ)
typed_in (args.Make name bits access) = (name, (bits, access))
typed_in _ = ([], (0, 0))

unfoldable pub created : Creation → Codec Args
-- Name, DesiredAccess
created creation.Account = made (λ (name, access). args.Make name 0 access) made_in (chain (whole text) (λ _. u32))
-- Name, DesiredAccess, of a normal account (USER_NORMAL_ACCOUNT, MS-SAMR 2.2.1.12)
created creation.User = made (λ (name, access). args.Make name user_normal_account access) made_in
    (chain (whole text) (λ _. u32))
-- Name, AccountType, DesiredAccess
created creation.TypedUser =
    made (λ (name, (bits, access)). args.Make name bits access) typed_in
    (chain (whole text) (λ _. chain u32 (λ _. u32)))

-- ======== the interface

-- Of a layout that the interface doesn't have nothing is spelled.
unfoldable pub own_fields : Fields → Codec Args
own_fields (fields.Connect c) = connect_args c
own_fields (fields.Creation c) = created c
own_fields _ = unspelled

abbrev pub no_replies : Outputs → Codec Reply
no_replies o = unspelled

abbrev pub samr : Wire
samr = record { face = Samr; fields = own_fields; replies = no_replies }

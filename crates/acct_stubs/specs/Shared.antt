-- Which layouts both interfaces have, and which an interface has alone.
use Rattle.std.specs.Prelude.{◌≡◌, ℕ, Bool, true, false, ◌||◌, Some}
use Rattle.acct_calls.specs.declared.calls.Face.{Face}
use Rattle.acct_calls.specs.declared.calls.Face.TheVariants.{Lsa, Samr}
use Rattle.acct_layouts.specs.Table.{layout_of}
use Rattle.acct_layouts.specs.declared.fields.Connect.{Connect}
use Rattle.acct_layouts.specs.declared.fields.Connect.TheVariants as connect
use Rattle.acct_layouts.specs.declared.fields.Fields.{Fields}
use Rattle.acct_layouts.specs.declared.fields.Fields.TheVariants as fields
use Rattle.acct_layouts.specs.declared.outputs.Outputs.{Outputs}
use Rattle.acct_layouts.specs.declared.outputs.Outputs.TheVariants as outputs
use Rattle.acct_layouts.specs.declared.table.Layout.{Layout}

-- the fields whose codecs stand in this crate
abbrev pub are_shared : Fields → Bool
are_shared (fields.Scalar p) = true
are_shared (fields.Search s) = true
are_shared (fields.Class s) = true
are_shared (fields.Put s) = true
are_shared (fields.Security s) = true
are_shared _ = false

abbrev pub opens_policy : Connect → Bool
opens_policy connect.OpenPolicy2 = true
opens_policy _ = false

abbrev pub opens_server : Connect → Bool
opens_server connect.OpenPolicy2 = false
opens_server _ = true

-- the fields that an interface has alone
abbrev pub are_own : Face → Fields → Bool
are_own Samr (fields.Connect c) = opens_server c
are_own Samr (fields.Creation c) = true
are_own Lsa (fields.Connect c) = opens_policy c
are_own Lsa (fields.Policy p) = true
are_own Lsa (fields.Translation t) = true
are_own _ _ = false

-- the outputs that an interface has alone
abbrev pub own_outputs : Face → Outputs → Bool
own_outputs Lsa (outputs.Policy p) = true
own_outputs Lsa (outputs.Translation t) = true
own_outputs _ _ = false

abbrev pub shared_outputs : Outputs → Bool
shared_outputs (outputs.Scalar p) = true
shared_outputs (outputs.Listed l) = true
shared_outputs (outputs.Shown s) = true
shared_outputs outputs.Security = true
shared_outputs _ = false

-- a layout whose fields and outputs are shared or the interface's own
abbrev pub IsLayoutOf : Face → Layout → Type 0
IsLayoutOf face layout =
    (are_shared layout.fields || are_own face layout.fields ≡ true)
    × (shared_outputs layout.outputs || own_outputs face layout.outputs ≡ true)

-- Each operation has such a layout.
abbrev pub AreLayoutsOfTheirFace : Type 0
AreLayoutsOfTheirFace =
    (face : Face) (opnum : ℕ) (layout : Layout) → layout_of face opnum ≡ Some layout → IsLayoutOf face layout

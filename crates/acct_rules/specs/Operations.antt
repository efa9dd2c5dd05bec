-- What each operation owes.
use Rattle.std.specs.Prelude.{◌≡◌, ℕ, ◌^◌, ◌==◌, nat_lt, Bool, true, false, ◌&&◌, not, ⊤, Option, IfSome, is_some}
use Rattle.std.specs.List.{list_all}
use Rattle.dtyp_access.specs.declared.descriptor.Descriptor.{Descriptor}
use Rattle.dtyp_access.specs.Parts.{IsDescriptor}
use Rattle.acct_calls.specs.declared.calls.Args.{Args}
use Rattle.acct_calls.specs.declared.calls.Call.{Call}
use Rattle.acct_calls.specs.declared.replies.Reply.TheVariants.{Done}
use Rattle.acct_codes.specs.Statuses.{status_access_denied}
use Rattle.acct_layouts.specs.Table.{layout_of}
use Rattle.acct_layouts.specs.Refusals.{is_refusal}
use Rattle.acct_layouts.specs.CallShapes.{CanBeSpelled}
use Rattle.acct_layouts.specs.ReplyShapes.{HasShape}
use Rattle.acct_tables.specs.declared.object.Object.{Object}
use Rattle.acct_rows.specs.Rows.{exists}
use Rattle.acct_tables.specs.Keys.{kind_of, same_object}
use Rattle.acct_rows.specs.Rows.{Lists, HasRoom, after}
use Rattle.acct_rows.specs.Sound.{IsSoundRows}
use Rattle.acct_rules.specs.declared.profile.Brings.{Brings}
use Rattle.acct_rules.specs.declared.profile.Brings.TheVariants as brings
use Rattle.acct_rules.specs.declared.planned.Opening.{Opening}
use Rattle.acct_rules.specs.declared.planned.Effect.{Effect}
use Rattle.acct_rules.specs.declared.planned.Effect.TheVariants as effects
use Rattle.acct_rules.specs.declared.planned.Planned.{Planned}
use Rattle.acct_rules.specs.Profiles.{takes, is_never, Operation}
use Rattle.acct_rules.specs.Planned.{Condition, none_fails, takes_room}
use Rattle.acct_rules.specs.Touched.{is_modest}

-- ---- where a call of an operation is decided

-- the object is of a kind whose handle is taken; where none is brought it isn't looked at
abbrev pub IsTaken : Brings → Object → Type 0
IsTaken brings.Nothing object = ⊤
IsTaken (brings.Handle kinds) object = takes kinds (kind_of object) ≡ true

-- Some served stub spells the call, the rows are sound, the descriptor keeps the limits of its parts, and the object is
-- there and of a kind that is taken.
pub record IsAsked (o : Operation) (r : Lists) (described : Option Descriptor) (object : Object) (call : Call)
    : Type 0 where
  pub face : call.face ≡ o.profile.face
  pub opnum : call.opnum ≡ o.profile.opnum
  pub spelled : CanBeSpelled call
  pub rows : IsSoundRows r
  pub limits : IfSome described IsDescriptor
  pub there : exists r object ≡ true
  pub taken : IsTaken o.profile.brings object

-- ---- what it answers

-- The status of a condition is a refusal of 32 bits. STATUS_ACCESS_DENIED is none of theirs: handles and openings alone
-- answer it.
abbrev pub is_condition_status : ℕ → Bool
is_condition_status status = is_refusal status && nat_lt status (2 ^ 32) && not (status == status_access_denied)

-- the reply of what an operation plans has its shape
abbrev pub IsShaped : Operation → Planned → Type 0
IsShaped o planned = HasShape o.profile.face o.profile.opnum (Done planned.status planned.outs)

-- The operation has a layout, its conditions answer refusals and what it plans none, memory may run out where the
-- profile says, one account row is touched at most and no row of the outbox, and what it plans has its outputs, while
-- each list of rows has fewer than 2^32.
pub record IsRight (o : Operation) : Type 0 where
  pub laid_out : is_some (layout_of o.profile.face o.profile.opnum) ≡ true
  pub refuses : (r : Lists) (described : Option Descriptor) (object : Object) (asked : Args)
      → list_all (λ (c : Condition). is_condition_status c.status) (o.rule r described object asked).conditions ≡ true
  pub succeeds : (r : Lists) (described : Option Descriptor) (object : Object) (asked : Args)
      → is_refusal (o.rule r described object asked).planned.status ≡ false
  pub frugal : (r : Lists) (described : Option Descriptor) (object : Object) (asked : Args)
      → (is_never o.profile.memory && takes_room (o.rule r described object asked).planned) ≡ false
  pub modest : (r : Lists) (described : Option Descriptor) (object : Object) (asked : Args)
      → is_modest (o.rule r described object asked).planned.plan ≡ true
  pub shaped : (r : Lists) (described : Option Descriptor) (object : Object) (call : Call) → HasRoom r 0
      → IsAsked o r described object call
      → none_fails (o.rule r described object call.args).conditions ≡ true
      → IsShaped o (o.rule r described object call.args).planned

-- ---- what it keeps

-- the object is the one that the effect deletes
abbrev pub is_deleted : Effect → Object → Bool
is_deleted (effects.Deletes gone) x = same_object x gone
is_deleted effects.Nothing x = false
is_deleted (effects.Opens opening) x = false
is_deleted (effects.Checks opening) x = false
is_deleted effects.Closes x = false

-- The rows stay sound, what was there is there unless it was deleted, and what is opened is there.
pub record Keeps (r : Lists) (planned : Planned) : Type 0 where
  pub sound : IsSoundRows (after planned.plan r)
  pub stays : (x : Object) → exists r x ≡ true → is_deleted planned.effect x ≡ false
      → exists (after planned.plan r) x ≡ true
  pub opens : (opening : Opening) → planned.effect ≡ effects.Opens opening
      → exists (after planned.plan r) opening.object ≡ true

-- so it is with what an operation plans where no condition fails
abbrev pub KeepsRows : Operation → Type 0
KeepsRows o =
    (r : Lists) (described : Option Descriptor) (object : Object) (call : Call) → IsAsked o r described object call
    → none_fails (o.rule r described object call.args).conditions ≡ true
    → Keeps r (o.rule r described object call.args).planned

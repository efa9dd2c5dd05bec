-- What an operation decides, and its outputs.
use Rattle.std.specs.Prelude.{ℕ, Bool, true, false, not, List, [], ◌∷◌, ◌||◌, nat_lt, length, Option, Some, None}
use Rattle.std.specs.Prelude.{if◌then◌else◌, ◌==◌, nat_le}
use Rattle.std.specs.List.{list_all, list_any}
use Rattle.acct_codes.specs.Limits.{most_domain_subs}
use Rattle.acct_codes.specs.Statuses.{status_success, status_some_not_mapped, status_none_mapped}
use Rattle.acct_codes.specs.Accounts.{sid_type_user, sid_type_group, sid_type_alias, sid_type_unknown}
use Rattle.acct_codes.specs.declared.kind.Kind.{Kind}
use Rattle.acct_codes.specs.declared.kind.Kind.TheVariants.{User, Group, Alias}
use Rattle.dtyp_sid.specs.Sids.{with_last, SidValue}
use Rattle.acct_calls.specs.Calls.{zero_handle}
use Rattle.acct_calls.specs.declared.handle.Handle.{Handle}
use Rattle.acct_calls.specs.declared.replies.Outs.{Outs}
use Rattle.acct_calls.specs.declared.replies.Outs.TheVariants as outs
use Rattle.acct_layouts.specs.declared.outputs.Outputs.{Outputs}
use Rattle.acct_layouts.specs.declared.outputs.Outputs.TheVariants as outputs
use Rattle.acct_layouts.specs.declared.outputs.ScalarOutputs.TheVariants as scalar
use Rattle.acct_tables.specs.declared.object.Object.{Object}
use Rattle.acct_rows.specs.declared.plan.Plan.{Plan}
use Rattle.acct_tables.specs.declared.row.AccountRow.{AccountRow}
use Rattle.acct_tables.specs.declared.row.Row.{Row}
use Rattle.acct_tables.specs.declared.row.Row.TheVariants as rows
use Rattle.acct_tables.specs.declared.row.RowKey.{RowKey}
use Rattle.acct_tables.specs.declared.row.RowKey.TheVariants as keys
use Rattle.acct_rules.specs.declared.planned.Effect.{Effect}
use Rattle.acct_rules.specs.declared.planned.Effect.TheVariants as effects
use Rattle.acct_rules.specs.declared.planned.Opening.{Opening}
use Rattle.acct_rules.specs.declared.planned.Planned.{Planned}

-- ======== what an operation decides: its conditions in order, each with the status that it answers where it fails, and
-- what is planned where none fails
-- The condition of an opening stands last of all, and is the machine's.

-- whether it fails, and its status
pub record Condition : Type 0 where
  pub fails : Bool
  pub status : ℕ

abbrev pub when : Bool → ℕ → Condition
when fails status = record { fails = fails; status = status }

pub record Ruled : Type 0 where
  pub conditions : List Condition
  pub planned : Planned

abbrev pub none_fails : List Condition → Bool
none_fails conditions = list_all (λ (c : Condition). not c.fails) conditions

-- the status of the first condition that fails, where one does
abbrev pub first_failed : List Condition → Option ℕ
first_failed [] = None
first_failed (c ∷ cs) = if c.fails then Some c.status else first_failed cs

-- ---- common plans

-- an answer that changes nothing
abbrev pub answers : ℕ → Outs → Planned
answers status out = record {
  status = status;
  outs = out;
  plan = record { puts = []; removes = [] };
  effect = effects.Nothing;
}

-- what a condition that fails answers
abbrev pub refusal : ℕ → Planned
refusal status = answers status outs.Nothing

-- an opening, whose outputs have the zero handle until it is granted
abbrev pub opens : Object → ℕ → Planned
opens object desired =
    record (answers status_success (outs.Handle zero_handle)) {
      effect = effects.Opens (record { object = object; desired = desired });
    }

-- A creation: rows that are put, and the opening of what is new, by its RID. Its outputs have the zero handle and no
-- grant until it is granted.
abbrev pub creates : Object → ℕ → ℕ → List Row → Planned
creates object desired rid puts =
    record (opens object desired) {
      outs = outs.Created zero_handle 0 rid;
      plan = record { puts = puts; removes = [] };
    }

-- some rows are put, and nothing is shown
abbrev pub puts : List Row → Planned
puts rows = record (answers status_success outs.Nothing) { plan = record { puts = rows; removes = [] } }

-- the rows at some keys are removed, and nothing is shown
abbrev pub removes : List RowKey → Planned
removes keys = record (answers status_success outs.Nothing) { plan = record { puts = []; removes = keys } }

-- the end of the handle that was brought, in whose place the zero handle goes back
abbrev pub closes : Planned
closes = record (answers status_success (outs.Handle zero_handle)) { effect = effects.Closes }

-- ---- the decision

-- the first condition that fails is answered; where none fails it is what was planned
abbrev pub decided : List Condition → Planned → Planned
decided [] planned = planned
decided (c ∷ cs) planned = if c.fails then refusal c.status else decided cs planned

abbrev pub decision : Ruled → Planned
decision ruled = decided ruled.conditions ruled.planned

-- ---- the words of a plan

-- the opening that must be granted
abbrev pub opening_of : Effect → Option Opening
opening_of (effects.Opens opening) = Some opening
opening_of (effects.Checks opening) = Some opening
opening_of effects.Nothing = None
opening_of effects.Closes = None
opening_of (effects.Deletes object) = None

abbrev pub gives_handle : Effect → Bool
gives_handle (effects.Opens opening) = true
gives_handle (effects.Checks opening) = false
gives_handle effects.Nothing = false
gives_handle effects.Closes = false
gives_handle (effects.Deletes object) = false

-- whether a plan puts or removes a row
abbrev pub has_change : Plan → Bool
has_change plan = nat_lt 0 (length plan.puts) || nat_lt 0 (length plan.removes)

-- room is taken for a handle, and to make and to store a change of rows
abbrev pub takes_room : Planned → Bool
takes_room planned = gives_handle planned.effect || has_change planned.plan

-- ======== the outputs of what was opened

-- the grant, where the layout has one
abbrev pub shown_grant : Outputs → ℕ → ℕ
shown_grant (outputs.Scalar scalar.Granted) granted = granted
shown_grant _ granted = 0

-- the handle that was opened in place of the zero handle, with its grant
abbrev pub filled : Outputs → Handle → ℕ → Outs → Outs
filled layout handle granted (outs.Handle zero) = outs.Handle handle
filled layout handle granted (outs.Created zero none rid) = outs.Created handle (shown_grant layout granted) rid
filled layout handle granted out = out

-- ======== what names and SIDs that were looked for are used for (SID_NAME_USE, MS-SAMR 2.2.2.3), and how many of them
-- are mapped (MS-SAMR 3.1.5.11.2, MS-LSAT 3.1.4.5)

-- what an account of a kind is used for: only users, groups and aliases are accounts
abbrev pub use_of_kind : Kind → ℕ
use_of_kind User = sid_type_user
use_of_kind Group = sid_type_group
use_of_kind Alias = sid_type_alias
use_of_kind _ = sid_type_unknown

abbrev pub is_mapped : ℕ → Bool
is_mapped usage = not (usage == sid_type_unknown)

-- the status of a look-up, by what each entry is used for: all are mapped, some are, or none of at least one
abbrev pub mapped_status : List ℕ → ℕ
mapped_status uses =
    if list_all is_mapped uses then status_success
    else (if list_any is_mapped uses then status_some_not_mapped else status_none_mapped)

-- ======== the SID of what has a RID in a domain (MS-SAMR 3.1.5.13.5)

-- the SID followed by a RID, where it has room for one, as that of each domain of sound rows has
abbrev pub with_rid : ℕ → SidValue → Option SidValue
with_rid rid sid = if nat_le (length sid.subs) most_domain_subs then Some (with_last sid rid) else None

-- ======== which account row a plan touches

-- the account row that is put, the first if there are several
abbrev pub put_account : List Row → Option AccountRow
put_account [] = None
put_account (rows.Account a ∷ later) = Some a
put_account (_ ∷ later) = put_account later

-- the domain and the RID of the account row that is removed, the first if there are several
abbrev pub removed_account : List RowKey → Option (ℕ × ℕ)
removed_account [] = None
removed_account (keys.Account domain rid ∷ later) = Some (domain, rid)
removed_account (_ ∷ later) = removed_account later

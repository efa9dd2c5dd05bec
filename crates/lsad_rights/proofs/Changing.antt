-- What the operations on accounts of the policy plan keeps the rows sound, and what is opened is there.
use Rattle.std.proofs.Common.{◌≡◌, ℕ, Bool, true, false, not, List, [], Option, Some, None, is_some, refl, ap}
use Rattle.std.proofs.Common.{subst}
use Rattle.std.specs.Prelude.{◌&&◌}
use Rattle.acct_calls.specs.declared.calls.Args.{Args}
use Rattle.acct_layouts.specs.Values.{IfThere}
use Rattle.acct_rows.specs.Laws.{LsaAccountsStaySound, RemovedLsaAccountsStaySound, PutsAreFound}
use Rattle.acct_rows.specs.Rows.{exists, Lists, lsa_at, after}
use Rattle.acct_rows.specs.Sound.{IsSoundRows}
use Rattle.acct_tables.specs.Good.{IsGoodLsa}
use Rattle.acct_tables.specs.declared.object.Object.{Object}
use Rattle.acct_tables.specs.declared.object.Object.TheVariants as objects
use Rattle.acct_tables.specs.declared.row.LsaRow.{LsaRow}
use Rattle.acct_rules.specs.Asked.{asked_sid, desired_access}
use Rattle.acct_rules.specs.Operations.{KeepsRows, Keeps}
use Rattle.acct_rules.specs.Planned.{opens, puts}
use Rattle.acct_rules.specs.declared.planned.Effect.TheVariants as effects
use Rattle.acct_rules.specs.declared.planned.Opening.{Opening}
use Rattle.dtyp_sid.specs.Sids.{SidValue, IsSid}
use Rattle.lsad_rights.specs.Accounts.{new_account, new_rows, account_of, account_of_sid, object_of_sid}
use Rattle.lsad_rights.specs.RightsChanges.{brought_sid, brought_names, adjusts, added_rows, left_rows, left_of}
use Rattle.lsad_rights.specs.RightsChanges.{account_or_new, with_rights}
use Rattle.lsad_rights.specs.Holdings.{changed, with_privileges, without_privileges, with_access}
use Rattle.lsad_rights.specs.Table.{create_account_in_policy, open_account_in_policy, delete_object}
use Rattle.lsad_rights.specs.Table.{add_privileges_to_account, remove_privileges_from_account}
use Rattle.lsad_rights.specs.Table.{set_system_access_account, add_account_rights, remove_account_rights}
use Rattle.lsad_rights.proofs.Bringing.{created-sid, added-sid, added-privileges}
use Rattle.lsad_rights.proofs.Sounding.{new-good, adds-good, removes-good, sets-good, rights-good, left-good}

-- ---- conditions

first-holds : (a b : Bool) → (not a && b) ≡ true → a ≡ false
first-holds true b h = cc
first-holds false b h = refl

-- ---- creations and openings

-- the rows with a new account
abbrev with-new : Lists → SidValue → Lists
with-new r sid = after (record { puts = new_rows (Some sid); removes = [] }) r

creates-keep : LsaAccountsStaySound → PutsAreFound → (r : Lists) (sid : Option SidValue) (desired : ℕ) → IsSoundRows r
    → IfThere IsSid sid
    → Keeps r (record (opens (object_of_sid sid) desired) { plan = record { puts = new_rows sid; removes = [] } })
creates-keep stay found r None desired sound whole = record {
  sound = sound;
  stays = λ x was other. was;
  opens = λ opening is. policy-there opening is;
}
  where
    policy-there : (opening : Opening) → effects.Opens (record { object = objects.Policy; desired = desired })
        ≡ effects.Opens opening → exists r opening.object ≡ true
    policy-there opening is = subst (λ (o : Opening). exists r o.object ≡ true) (the-opening opening is) refl
      where
        the-opening : (opening : Opening)
            → effects.Opens (record { object = objects.Policy; desired = desired }) ≡ effects.Opens opening
            → record { object = objects.Policy; desired = desired } ≡ opening
        the-opening opening is = cc
creates-keep stay found r (Some sid) desired sound whole =
    let law = stay r (new_account sid) sound (new-good sid whole) in
    record {
      sound = law.sound;
      stays = λ x was other. law.stays x was refl;
      opens = λ opening is. subst (λ (o : Opening). exists (with-new r sid) o.object ≡ true) (the-opening opening is)
          (ap is_some ((found r).lsa (new_account sid)));
    }
  where
    the-opening : (opening : Opening)
        → effects.Opens (record { object = objects.Account sid; desired = desired }) ≡ effects.Opens opening
        → record { object = objects.Account sid; desired = desired } ≡ opening
    the-opening opening is = cc

pub create_account-keeps : LsaAccountsStaySound → PutsAreFound → KeepsRows create_account_in_policy
create_account-keeps stay found r described object call is none =
    creates-keep stay found r (asked_sid call.args) (desired_access call.args) is.rows
    (created-sid call is.face is.opnum is.spelled)

account-there : (r : Lists) (sid : Option SidValue) → is_some (account_of_sid r sid) ≡ true
    → exists r (object_of_sid sid) ≡ true
account-there r None there = cc
account-there r (Some sid) there = there

pub open_account-keeps : KeepsRows open_account_in_policy
open_account-keeps r described object call is none = record {
  sound = is.rows;
  stays = λ x was other. was;
  opens = λ opening e. subst (λ (o : Opening). exists r o.object ≡ true) (the-opening opening e)
      (account-there r (asked_sid call.args) (found-is (is_some (account_of_sid r (asked_sid call.args))) true none));
}
  where
    found-is : (a b : Bool) → (not (not a) && b) ≡ true → a ≡ true
    found-is true b h = refl
    found-is false b h = cc

    the-opening : (opening : Opening)
        → effects.Opens (record { object = object_of_sid (asked_sid call.args); desired = desired_access call.args })
        ≡ effects.Opens opening
        → record { object = object_of_sid (asked_sid call.args); desired = desired_access call.args } ≡ opening
    the-opening opening e = cc

-- ---- deletions

pub delete_account-keeps : RemovedLsaAccountsStaySound → KeepsRows delete_object
delete_account-keeps removed r described objects.Server call is none =
    record { sound = is.rows; stays = λ x was other. was; opens = λ opening e. cc }
delete_account-keeps removed r described (objects.Domain n) call is none =
    record { sound = is.rows; stays = λ x was other. was; opens = λ opening e. cc }
delete_account-keeps removed r described (objects.Group n) call is none =
    record { sound = is.rows; stays = λ x was other. was; opens = λ opening e. cc }
delete_account-keeps removed r described (objects.Alias m n) call is none =
    record { sound = is.rows; stays = λ x was other. was; opens = λ opening e. cc }
delete_account-keeps removed r described (objects.User n) call is none =
    record { sound = is.rows; stays = λ x was other. was; opens = λ opening e. cc }
delete_account-keeps removed r described objects.Policy call is none =
    record { sound = is.rows; stays = λ x was other. was; opens = λ opening e. cc }
delete_account-keeps removed r described (objects.Account sid) call is none =
    let law = removed r sid is.rows in
    record { sound = law.sound; stays = law.stays; opens = λ opening e. cc }

-- ---- changes

-- the account that the object is keeps its rules
found-good : (r : Lists) (object : Object) (l : LsaRow) → IsSoundRows r → account_of r object ≡ Some l → IsGoodLsa l
found-good r (objects.Account sid) l sound found = sound.lsa_rules sid l found
found-good r objects.Server l sound found = cc
found-good r (objects.Domain n) l sound found = cc
found-good r (objects.Group n) l sound found = cc
found-good r (objects.Alias m n) l sound found = cc
found-good r (objects.User n) l sound found = cc
found-good r objects.Policy l sound found = cc

change-keeps : LsaAccountsStaySound → (r : Lists) (change : LsaRow → LsaRow) (o : Option LsaRow) → IsSoundRows r
    → ((l : LsaRow) → o ≡ Some l → IsGoodLsa (change l)) → Keeps r (puts (changed change o))
change-keeps stay r change None sound good =
    record { sound = sound; stays = λ x was other. was; opens = λ opening e. cc }
change-keeps stay r change (Some l) sound good =
    let law = stay r (change l) sound (good l refl) in
    record { sound = law.sound; stays = λ x was other. law.stays x was refl; opens = λ opening e. cc }

pub add_privileges-keeps : LsaAccountsStaySound → KeepsRows add_privileges_to_account
add_privileges-keeps stay r described object call is none =
    change-keeps stay r (with_privileges call.args) (account_of r object) is.rows
    (λ l found. adds-good call.args l (found-good r object l is.rows found)
    (added-privileges call is.face is.opnum is.spelled) (first-holds _ true none))

pub remove_privileges-keeps : LsaAccountsStaySound → KeepsRows remove_privileges_from_account
remove_privileges-keeps stay r described object call is none =
    change-keeps stay r (without_privileges call.args) (account_of r object) is.rows
    (λ l found. removes-good call.args l (found-good r object l is.rows found))

pub set_system_access-keeps : LsaAccountsStaySound → KeepsRows set_system_access_account
set_system_access-keeps stay r described object call is none =
    change-keeps stay r (with_access call.args) (account_of r object) is.rows
    (λ l found. sets-good call.args l (found-good r object l is.rows found) (first-holds _ true none))

-- ---- rights

-- the account of a SID, or a new one, keeps the rules
or-new-good : (r : Lists) (sid : SidValue) (o : Option LsaRow) → IsSoundRows r → IsSid sid → lsa_at r sid ≡ o
    → IsGoodLsa (account_or_new sid o)
or-new-good r sid None sound whole is = new-good sid whole
or-new-good r sid (Some l) sound whole is = sound.lsa_rules sid l is

adds-keep : LsaAccountsStaySound → (r : Lists) (sid : Option SidValue) (names : List (List ℕ)) → IsSoundRows r
    → IfThere IsSid sid → Keeps r (adjusts sid (added_rows r sid names))
adds-keep stay r None names sound whole =
    record { sound = sound; stays = λ x was other. was; opens = λ opening e. cc }
adds-keep stay r (Some sid) names sound whole =
    let law = stay r (with_rights names (account_or_new sid (lsa_at r sid))) sound
    (rights-good names (account_or_new sid (lsa_at r sid)) (or-new-good r sid (lsa_at r sid) sound whole refl)) in
    record { sound = law.sound; stays = λ x was other. law.stays x was refl; opens = λ opening e. cc }

pub add_rights-keeps : LsaAccountsStaySound → KeepsRows add_account_rights
add_rights-keeps stay r described object call is none =
    adds-keep stay r (brought_sid call.args) (brought_names call.args) is.rows
    (added-sid call is.face is.opnum is.spelled)

of-sid-good : (r : Lists) (sid : Option SidValue) (l : LsaRow) → IsSoundRows r → account_of_sid r sid ≡ Some l
    → IsGoodLsa l
of-sid-good r None l sound found = cc
of-sid-good r (Some sid) l sound found = sound.lsa_rules sid l found

left-keep : LsaAccountsStaySound → (r : Lists) (sid : Option SidValue) (asked : Args) (o : Option LsaRow)
    → IsSoundRows r → ((l : LsaRow) → o ≡ Some l → IsGoodLsa l) → Keeps r (adjusts sid (left_rows asked o))
left-keep stay r sid asked None sound good =
    record { sound = sound; stays = λ x was other. was; opens = λ opening e. cc }
left-keep stay r sid asked (Some l) sound good =
    let law = stay r (left_of asked l) sound (left-good asked l (good l refl)) in
    record { sound = law.sound; stays = λ x was other. law.stays x was refl; opens = λ opening e. cc }

pub remove_rights-keeps : LsaAccountsStaySound → KeepsRows remove_account_rights
remove_rights-keeps stay r described object call is none =
    left-keep stay r (brought_sid call.args) call.args (account_of_sid r (brought_sid call.args)) is.rows
    (λ l found. of-sid-good r (brought_sid call.args) l is.rows found)

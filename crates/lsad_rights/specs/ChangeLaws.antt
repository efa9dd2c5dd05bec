-- What the changes of accounts leave: which accounts are found, which rights they hold, and how these are listed.
use Rattle.std.specs.Prelude.{◌≡◌, ◌≢◌, ℕ, ◌==◌, Bool, true, false, not, ◌&&◌, ◌||◌, List, Option, Some, None}
use Rattle.std.specs.Prelude.{if◌then◌else◌}
use Rattle.std.specs.List.{list_any}
use Rattle.acct_calls.specs.declared.calls.Args.{Args}
use Rattle.acct_rows.specs.Rows.{Lists, lsa_at, after}
use Rattle.acct_rows.specs.Sound.{IsSoundRows}
use Rattle.acct_tables.specs.declared.object.Object.{Object}
use Rattle.acct_tables.specs.declared.object.Object.TheVariants.{Account}
use Rattle.acct_tables.specs.declared.row.Held.{Held}
use Rattle.acct_tables.specs.declared.row.LsaRow.{LsaRow}
use Rattle.acct_rules.specs.Asked.{asked_sid}
use Rattle.acct_rules.specs.Planned.{Ruled, none_fails}
use Rattle.dtyp_sid.specs.Sids.{sid_eq, SidValue}
use Rattle.lsad_rights.specs.Accounts.{new_account, create_account, delete_account}
use Rattle.lsad_rights.specs.Holdings.{with_held, without_held, held_at, takes_all}
use Rattle.lsad_rights.specs.Listings.{accounts_wanted}
use Rattle.lsad_rights.specs.Rights.{bit_of, low_of, right_named, holds}
use Rattle.lsad_rights.specs.RightsChanges.{brought_sid, brought_names, add_rights, remove_rights}
use Rattle.lsad_rights.specs.declared.holders.Wanted.TheVariants.{Holders}
use Rattle.lsad_rights.specs.declared.rights.AccountRight.{AccountRight}
use Rattle.lsad_rights.specs.declared.rights.AccountRight.TheVariants.{Privilege, Logon}

-- ---- accounts that are made and deleted

-- the accounts of the other SIDs are as they were, and so is every other row
pub record OthersStay (sid : SidValue) (r later : Lists) : Type 0 where
  pub others : (other : SidValue) → other ≢ sid → lsa_at later other ≡ lsa_at r other
  pub domains : later.domains ≡ r.domains
  pub accounts : later.accounts ≡ r.accounts
  pub members : later.members ≡ r.members
  pub aliases : later.aliases ≡ r.aliases

-- the account of a SID that had none is found, without any right
pub record IsMade (sid : SidValue) (r later : Lists) : Type 0 where
  pub was_free : lsa_at r sid ≡ None
  pub found : lsa_at later sid ≡ Some (new_account sid)
  pub stay : OthersStay sid r later

-- no account of the SID is found
pub record IsGone (sid : SidValue) (r later : Lists) : Type 0 where
  pub gone : lsa_at later sid ≡ None
  pub stay : OthersStay sid r later

-- the rows after what a rule plans
abbrev pub rows_after : (Lists → Object → Args → Ruled) → Lists → Object → Args → Lists
rows_after rule r object asked = after (rule r object asked).planned.plan r

pub record AccountsComeAndGo : Type 0 where
  pub made : (r : Lists) (object : Object) (asked : Args) (sid : SidValue) → asked_sid asked ≡ Some sid
      → none_fails (create_account r object asked).conditions ≡ true
      → IsMade sid r (rows_after create_account r object asked)
  pub deleted : (r : Lists) (sid : SidValue) (asked : Args)
      → IsGone sid r (rows_after delete_account r (Account sid) asked)

-- ---- rights that are added and taken away

abbrev pub same_right : AccountRight → AccountRight → Bool
same_right (Privilege p) (Privilege q) = low_of p == low_of q
same_right (Logon a) (Logon b) = bit_of a == bit_of b
same_right _ _ = false

-- a name is the right's
abbrev pub is_right : AccountRight → Option AccountRight → Bool
is_right right None = false
is_right right (Some other) = same_right other right

abbrev pub names_right : AccountRight → List ℕ → Bool
names_right right name = is_right right (right_named name)

-- an account, where there is one, holds the right
abbrev pub held_by : Option LsaRow → AccountRight → Bool
held_by None right = false
held_by (Some l) right = holds right l

-- The account of a SID, which is made where there is none, holds what it held before and each right that is named, and
-- nothing else. The privileges that it held keep their attributes. The enumeration of the accounts with a right that is
-- named lists it.
pub record RightsAreAdded (sid : SidValue) (names : List (List ℕ)) (r later : Lists) : Type 0 where
  pub account : LsaRow
  pub there : lsa_at later sid ≡ Some account
  pub rights : (right : AccountRight)
      → holds right account ≡ (list_any (names_right right) names || held_by (lsa_at r sid) right)
  pub attributes : (old : LsaRow) (low : ℕ) (h : Held) → lsa_at r sid ≡ Some old
      → held_at low old.privileges ≡ Some h → held_at low account.privileges ≡ Some h
  pub listed : (right : AccountRight) → list_any (names_right right) names ≡ true
      → list_any (sid_eq sid) (accounts_wanted (Some (Holders right)) later) ≡ true
  pub stay : OthersStay sid r later

-- The account of a SID stays, and holds what it held before except the rights that are named, or for all.
pub record RightsAreTaken (sid : SidValue) (asked : Args) (r later : Lists) : Type 0 where
  pub account : LsaRow
  pub there : lsa_at later sid ≡ Some account
  pub rights : (right : AccountRight)
      → holds right account
      ≡ (not (takes_all asked || list_any (names_right right) (brought_names asked))
      && held_by (lsa_at r sid) right)
  pub stay : OthersStay sid r later

pub record RightsChange : Type 0 where
  pub added : (r : Lists) (object : Object) (asked : Args) (sid : SidValue) → IsSoundRows r
      → brought_sid asked ≡ Some sid
      → RightsAreAdded sid (brought_names asked) r (rows_after add_rights r object asked)
  pub taken : (r : Lists) (object : Object) (asked : Args) (sid : SidValue) → IsSoundRows r
      → brought_sid asked ≡ Some sid
      → none_fails (remove_rights r object asked).conditions ≡ true
      → RightsAreTaken sid asked r (rows_after remove_rights r object asked)

-- ---- privileges as a set

-- a privilege that is put is held with its attributes, and each other one as it was; one that is taken away isn't held
pub record PrivilegesAreASet : Type 0 where
  pub put : (p : Held) (held : List Held) (low : ℕ)
      → held_at low (with_held p held) ≡ (if p.low == low then Some p else held_at low held)
  pub taken : (gone low : ℕ) (held : List Held)
      → held_at low (without_held gone held) ≡ (if gone == low then None else held_at low held)

-- What the operations plan keeps the rows sound.
use Rattle.std.proofs.Common.{◌≡◌, ◌≢◌, ℕ, ◌==◌, Bool, true, false, not, Option, Some, None, refl, ap, arith}
use Rattle.std.specs.Prelude.{◌&&◌}
use Rattle.std.proofs.lemmas.Bool.Decides.{nat_tests}
use Rattle.acct_calls.specs.declared.replies.Outs.{Outs}
use Rattle.acct_codes.specs.declared.kind.Kind.TheVariants as kind
use Rattle.acct_layouts.specs.Values.{IfThere}
use Rattle.acct_rows.specs.Laws.{MembersStaySound, RemovedMembersStaySound, AliasRowsStaySound}
use Rattle.acct_rows.specs.Laws.{RemovedAliasRowsStaySound}
use Rattle.acct_rows.specs.Rows.{exists}
use Rattle.acct_tables.specs.Keys.{kind_of, domain_of, rid_of}
use Rattle.acct_rows.specs.Rows.{Lists, account_at, is_of}
use Rattle.acct_tables.specs.Selected.{same_kind}
use Rattle.acct_rows.specs.Sound.{IsSoundRows}
use Rattle.acct_tables.specs.declared.object.Object.{Object}
use Rattle.acct_tables.specs.declared.object.Object.TheVariants as objects
use Rattle.acct_tables.specs.declared.row.AccountRow.{AccountRow}
use Rattle.acct_rules.specs.Asked.{asked_rid, asked_sid}
use Rattle.acct_rules.specs.Operations.{KeepsRows, Keeps}
use Rattle.acct_rules.specs.Planned.{answers, puts, removes}
use Rattle.dtyp_sid.specs.Sids.{SidValue, IsSid}
use Rattle.samr_members.specs.Members.{added_row, added_rows, removed_keys, added_rid, added_member, is_user, is_member}
use Rattle.samr_members.specs.Members.{is_primary, has_primary}
use Rattle.samr_members.specs.Table.{add_member_to_group, remove_member_from_group, add_member_to_alias}
use Rattle.samr_members.specs.Table.{remove_member_from_alias}
use Rattle.samr_members.proofs.Asking.{long-attributes, whole-sid}

pub answers-keep : (r : Lists) (status : ℕ) (out : Outs) → IsSoundRows r → Keeps r (answers status out)
answers-keep r status out sound = record { sound = sound; stays = λ x was other. was; opens = λ opening is. cc }

-- ---- conditions

-- the first of them is that something isn't so
first-is : (u rest : Bool) → (not (not u) && rest) ≡ true → u ≡ true
first-is true rest none = refl
first-is false rest none = cc

third-is : (u m p : Bool) → (not (not u) && (not (not m) && (not p && true))) ≡ true → p ≡ false
third-is true true true none = cc
third-is true true false none = refl
third-is true false p none = cc
third-is false m p none = cc

-- ---- objects

group-there : (r : Lists) (object : Object) → same_kind kind.Group (kind_of object) ≡ true → exists r object ≡ true
    → is_of kind.Group (account_at r 0 (rid_of object)) ≡ true
group-there r objects.Server taken there = cc
group-there r (objects.Domain n) taken there = cc
group-there r (objects.Group rid) taken there = there
group-there r (objects.Alias n rid) taken there = cc
group-there r (objects.User rid) taken there = cc
group-there r objects.Policy taken there = cc
group-there r (objects.Account sid) taken there = cc

alias-there : (r : Lists) (object : Object) → same_kind kind.Alias (kind_of object) ≡ true → exists r object ≡ true
    → is_of kind.Alias (account_at r (domain_of object) (rid_of object)) ≡ true
alias-there r objects.Server taken there = cc
alias-there r (objects.Domain n) taken there = cc
alias-there r (objects.Group rid) taken there = cc
alias-there r (objects.Alias n rid) taken there = there
alias-there r (objects.User rid) taken there = cc
alias-there r objects.Policy taken there = cc
alias-there r (objects.Account sid) taken there = cc

-- ---- members of groups

pub add_group_member-keeps : MembersStaySound → KeepsRows add_member_to_group
add_group_member-keeps members r described object call is none =
    let law = members r (added_member object call.args) is.rows
    (long-attributes call is.face is.opnum is.spelled) (group-there r object is.taken is.there)
    (first-is (is_user r (added_rid call.args)) _ none) in
    record { sound = law.sound; stays = λ x was other. law.stays x was refl; opens = λ opening e. cc }

equals : (m n : ℕ) → m ≡ n → (m == n) ≡ true
equals m n e = grind (arith, nat_tests)

no-primary : (r : Lists) (group user : ℕ) → is_primary r group user ≡ false → (a : AccountRow)
    → account_at r 0 user ≡ Some a → same_kind kind.User a.kind ≡ true → a.primary ≢ group
no-primary r group user other a there of-kind same =
    let is : is_primary r group user ≡ (a.primary == group) = ap (has_primary group) there in
    let yes : (a.primary == group) ≡ true = equals a.primary group same in
    cc (other, is, yes)

pub remove_group_member-keeps : RemovedMembersStaySound → KeepsRows remove_member_from_group
remove_group_member-keeps removed r described object call is none =
    let rid = asked_rid call.args in
    let law = removed r (rid_of object) rid is.rows (no-primary r (rid_of object) rid
    (third-is (is_user r rid) (is_member r (rid_of object) rid) (is_primary r (rid_of object) rid) none)) in
    record { sound = law.sound; stays = λ x was other. law.stays x was refl; opens = λ opening e. cc }

-- ---- members of aliases

adds-keep : AliasRowsStaySound → (r : Lists) (object : Object) (sid : Option SidValue) → IsSoundRows r
    → IfThere IsSid sid → is_of kind.Alias (account_at r (domain_of object) (rid_of object)) ≡ true
    → Keeps r (puts (added_rows object sid))
adds-keep aliases r object None sound whole there =
    record { sound = sound; stays = λ x was other. was; opens = λ opening e. cc }
adds-keep aliases r object (Some sid) sound whole there =
    let law = aliases r (added_row object sid) sound whole there in
    record { sound = law.sound; stays = λ x was other. law.stays x was refl; opens = λ opening e. cc }

pub add_alias_member-keeps : AliasRowsStaySound → KeepsRows add_member_to_alias
add_alias_member-keeps aliases r described object call is none =
    adds-keep aliases r object (asked_sid call.args) is.rows (whole-sid call is.face is.opnum is.spelled)
    (alias-there r object is.taken is.there)

removes-keep : RemovedAliasRowsStaySound → (r : Lists) (object : Object) (sid : Option SidValue) → IsSoundRows r
    → Keeps r (removes (removed_keys object sid))
removes-keep removed r object None sound =
    record { sound = sound; stays = λ x was other. was; opens = λ opening e. cc }
removes-keep removed r object (Some sid) sound =
    let law = removed r (domain_of object) (rid_of object) sid sound in
    record { sound = law.sound; stays = λ x was other. law.stays x was refl; opens = λ opening e. cc }

pub remove_alias_member-keeps : RemovedAliasRowsStaySound → KeepsRows remove_member_from_alias
remove_alias_member-keeps removed r described object call is none =
    removes-keep removed r object (asked_sid call.args) is.rows

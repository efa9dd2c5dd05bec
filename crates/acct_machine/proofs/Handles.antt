-- The handle that a call brings: where it passed, it stands for an object that is there, of a kind that its operation
-- takes.
use Rattle.std.proofs.Common.{◌≡◌, inl, inr, ℕ, suc, Bool, true, false, cond, List, [], ◌∷◌, Option, Some}
use Rattle.std.proofs.Common.{None, option_map, refl, subst, sym, arith}
use Rattle.std.specs.List.{All, find}
use Rattle.acct_calls.specs.declared.calls.Call.{Call}
use Rattle.acct_config.specs.declared.config.Config.{Config}
use Rattle.acct_config.specs.Spelled as configs
use Rattle.acct_layouts.specs.CallShapes.{CanBeSpelled}
use Rattle.acct_rows.specs.Laws.{OutsStaySound, PutsAreFound}
use Rattle.acct_rows.specs.Rows.{exists}
use Rattle.acct_tables.specs.Keys.{kind_of}
use Rattle.acct_rows.specs.Rows.{Lists}
use Rattle.acct_rows.specs.Sound.{IsSoundRows}
use Rattle.acct_rules.specs.declared.profile.Brings.{Brings}
use Rattle.acct_rules.specs.declared.profile.Brings.TheVariants as brings
use Rattle.acct_rules.specs.declared.profile.Kinds.{Kinds}
use Rattle.acct_rules.specs.declared.planned.Planned.{Planned}
use Rattle.acct_rules.specs.Profiles.{takes, needed_bits, Operation}
use Rattle.acct_rules.specs.Planned.{Ruled, refusal}
use Rattle.acct_rules.specs.Operations.{IsTaken, IsRight, Keeps, KeepsRows}
use Rattle.acct_operations.specs.declared.table.Work.{Work}
use Rattle.acct_operations.specs.Table.{operation, work_of}
use Rattle.acct_operations.specs.Laws.{AreRight, KeepRows}
use Rattle.acct_machine.specs.declared.checks.Access.TheVariants.{Passed, Denied, WrongKind}
use Rattle.acct_machine.specs.declared.state.Held.{Held}
use Rattle.acct_machine.specs.State.{State, is_handle}
use Rattle.acct_machine.specs.Access.{object_of, held_by, has_bits, access_by, access_with}
use Rattle.acct_machine.specs.Step.{ruled_of, planned_of}
use Rattle.acct_machine.specs.Legal.{HasPassed}
use Rattle.acct_machine.specs.Sound.{IsHeldSoundly, IsSound}
use Rattle.acct_machine.proofs.Deciding.{of-work, Decision, decides}
use Rattle.acct_machine.proofs.Describing.{described-limits}
use Rattle.acct_machine.proofs.Ruling.{asked_of, Asks, ruled-keeps}

found-by : (P : Held → Type 0) (here : Bool) (h held : Held) (rest : Option Held) → P h → (rest ≡ Some held → P held)
    → cond here (Some h) rest ≡ Some held → P held
found-by P true h held rest this later is = let same : h ≡ held = cc in subst P same this
found-by P false h held rest this later is = later is

find-all : (P : Held → Type 0) (test : Held → Bool) (handles : List Held) (held : Held) → All P handles
    → find test handles ≡ Some held → P held
find-all P test [] held all is = cc
find-all P test (h ∷ hs) held all is =
    found-by P (test h) h held (find test hs) (all 0 h (omega arith))
    (find-all P test hs held (λ k d lt. all (suc k) d (omega (arith, lt)))) is

-- a handle that passes is to an object of a kind that is taken
taken-by : (takes enough : Bool) → cond takes (cond enough Passed Denied) WrongKind ≡ Passed → takes ≡ true
taken-by true enough is = refl
taken-by false enough is = cc

passed-takes : (kinds : Kinds) (bits : ℕ) (held : Option Held) → access_by kinds bits held ≡ Passed
    → takes kinds (kind_of (object_of held)) ≡ true
passed-takes kinds bits None is = cc
passed-takes kinds bits (Some held) is = taken-by (takes kinds (kind_of held.object)) (has_bits held.granted bits) is

passed-taken : (b : Brings) (bits : ℕ) (held : Option Held) → access_with b bits held ≡ Passed
    → IsTaken b (object_of held)
passed-taken brings.Nothing bits held passed = tt
passed-taken (brings.Handle kinds) bits held passed = passed-takes kinds bits held passed

object-there : (s : State) (held : Option Held) → ((h : Held) → held ≡ Some h → IsHeldSoundly s h)
    → exists s.rows (object_of held) ≡ true
object-there s None each = refl
object-there s (Some h) each = (each h refl).there

-- the operation of a call has its interface and its opnum
face-by : AreRight → (call : Call) (o : Operation) (work : Option Work) → work_of call.face call.opnum ≡ work
    → option_map operation work ≡ Some o
    → call.face ≡ o.profile.face
face-by right call o None is found = cc
face-by right call o (Some work) is found =
    let same : operation work ≡ o = cc in
    subst (λ (p : Operation). call.face ≡ p.profile.face) same (sym (right.face call.face call.opnum work is))

opnum-by : AreRight → (call : Call) (o : Operation) (work : Option Work) → work_of call.face call.opnum ≡ work
    → option_map operation work ≡ Some o
    → call.opnum ≡ o.profile.opnum
opnum-by right call o None is found = cc
opnum-by right call o (Some work) is found =
    let same : operation work ≡ o = cc in
    subst (λ (p : Operation). call.opnum ≡ p.profile.opnum) same (sym (right.opnum call.face call.opnum work is))

pub is-asked : AreRight → (config : Config) (s : State) (conn : ℕ) (call : Call) (o : Operation)
    → configs.IsRightConfig s.config → IsSound config s → CanBeSpelled call → HasPassed o s conn call
    → Asks o s conn call
is-asked right config s conn call o configured sound spelled passed = record {
  face = face-by right call o (work_of call.face call.opnum) refl passed.found;
  opnum = opnum-by right call o (work_of call.face call.opnum) refl passed.found;
  spelled = spelled;
  rows = sound.rows;
  limits = described-limits s.config s.rows (asked_of s conn call) configured sound.rows;
  there = object-there s (held_by s conn call)
      (λ h is. find-all (IsHeldSoundly s) (is_handle conn call.handle.number) s.handles h sound.held is);
  taken = passed-taken o.profile.brings (needed_bits o.profile.needs s.rows call.args) (held_by s conn call)
      passed.passed;
}

-- ---- what is planned keeps the rows

refusal-keeps : (r : Lists) (status : ℕ) → IsSoundRows r → Keeps r (refusal status)
refusal-keeps r status sound = record { sound = sound; stays = λ x was other. was; opens = λ opening is. cc }

keeps-by : OutsStaySound → PutsAreFound → AreRight → KeepRows → (config : Config) (s : State) (conn : ℕ) (call : Call)
    (o : Operation) → configs.IsRightConfig s.config → IsSound config s → CanBeSpelled call → HasPassed o s conn call
    → Decision (λ status. true) (ruled_of o s conn call).conditions (ruled_of o s conn call).planned
    → Keeps s.rows (planned_of o s conn call)
keeps-by stay found right each config s conn call o configured sound spelled passed (inl fails) =
    subst (λ (p : Planned). Keeps s.rows p) (sym fails.refuses) (refusal-keeps s.rows fails.status sound.rows)
keeps-by stay found right each config s conn call o configured sound spelled passed (inr passes) =
    let work : Option Work = work_of call.face call.opnum in
    subst (λ (p : Planned). Keeps s.rows p) (sym passes.plans)
    (ruled-keeps stay found o s conn call (of-work IsRight right.right work o passed.found)
    (of-work KeepsRows each work o passed.found) sound.rows
    (is-asked right config s conn call o configured sound spelled passed) passes.none)

pub keeps : OutsStaySound → PutsAreFound → AreRight → KeepRows → (config : Config) (s : State) (conn : ℕ) (call : Call)
    (o : Operation) → configs.IsRightConfig s.config → IsSound config s → CanBeSpelled call → HasPassed o s conn call
    → Keeps s.rows (planned_of o s conn call)
keeps stay found right each config s conn call o configured sound spelled passed =
    let ruled : Ruled = ruled_of o s conn call in
    keeps-by stay found right each config s conn call o configured sound spelled passed
    (decides (λ status. true) ruled.conditions ruled.planned)

-- What each entry does to the outbox, and what a history does.
use Rattle.std.proofs.Common.{◌≡◌, inl, inr, ℕ, ◌<◌, Bool, true, false, cond, List, [], ◌∷◌, ◌++◌}
use Rattle.std.proofs.Common.{length, map, take, drop, Option, Some, None, refl, sym, ap, subst, ◌∙◌, append_assoc}
use Rattle.std.specs.List.{list_any}
use Rattle.std.specs.Cmp.{nat_cmp_is}
use Rattle.std.specs.Ordering.{nat_cmp, ordering_then}
use Rattle.std.specs.declared.cmp.Ordering.{Ordering}
use Rattle.std.specs.declared.cmp.Ordering.TheVariants.{Equal, Greater}
use Rattle.std.proofs.Math.Seq.{take-append_seam, drop-append_seam}
use Rattle.std.proofs.lemmas.List.{append-nil, length-map}
use Rattle.acct_calls.specs.declared.calls.Call.{Call}
use Rattle.acct_codes.specs.Statuses.{status_insufficient_resources}
use Rattle.acct_config.specs.Spelled.{IsRightConfig}
use Rattle.acct_tables.specs.Keyed.{compare, by_order, put}
use Rattle.acct_tables.proofs.Ascending.{In}
use Rattle.acct_tables.proofs.Standing.{in_at}
use Rattle.acct_rows.specs.Laws.{RemovedOutsStaySound}
use Rattle.acct_rows.specs.Rows.{Lists, put_row, remove_row, removed, with_puts, after}
use Rattle.acct_tables.specs.Keys.{out_key}
use Rattle.acct_rows.specs.Sound.{IsSoundRows}
use Rattle.acct_rows.specs.declared.plan.Plan.{Plan}
use Rattle.acct_tables.specs.declared.row.OutRow.{OutRow}
use Rattle.acct_tables.specs.declared.row.Row.{Row}
use Rattle.acct_tables.specs.declared.row.Row.TheVariants as rows
use Rattle.acct_tables.specs.declared.row.RowKey.{RowKey}
use Rattle.acct_tables.specs.declared.row.RowKey.TheVariants as keys
use Rattle.acct_rules.specs.declared.planned.Planned.{Planned}
use Rattle.acct_rules.specs.Operations as operations
use Rattle.acct_rules.specs.Profiles.{Operation}
use Rattle.acct_rules.specs.Planned.{Ruled, refusal, decision}
use Rattle.acct_rules.specs.Touched.{is_out_row, is_out_key, is_modest}
use Rattle.acct_operations.specs.Laws.{AreRight}
use Rattle.acct_operations.specs.Table.{work_of}
use Rattle.acct_machine.specs.declared.entry.Verdict.{Verdict}
use Rattle.acct_machine.specs.declared.entry.Entry.{Entry}
use Rattle.acct_machine.specs.declared.entry.Entry.TheVariants.{Opened, Called, Gone, Hooked}
use Rattle.acct_machine.specs.State.{State, Start, first}
use Rattle.acct_machine.specs.Access.{described}
use Rattle.acct_machine.specs.Outbox.{has_hook, account_change, is_full, with_out, told_planned, least_in}
use Rattle.acct_machine.specs.Step.{decided_of, planned_of, changed, acted, step, state_after, state_at}
use Rattle.acct_machine.specs.Legal.{HasPassed, May, LegalAfter, Legal}
use Rattle.acct_machine.specs.Sound.{KeepsSound}
use Rattle.acct_machine.specs.Outs.{the_one, account_changes, adds, added, hooks_of, left_by}
use Rattle.acct_machine.specs.Outs.{OutsAreAdded, OutsLeft, OutsAreLeft, OutsOnlyGrow}
use Rattle.acct_machine.proofs.Cases.{acted-cases}
use Rattle.acct_machine.proofs.Changing.{plan-changes, no-changes}
use Rattle.acct_machine.proofs.Deciding.{of-work, Decision, decides}
use Rattle.acct_machine.proofs.History.{state_after-push, LegalAfter-push}
use Rattle.acct_machine.proofs.Outboxing.{with-puts-more}
use Rattle.acct_machine.proofs.Ruling.{asked_of}
use Rattle.acct_machine.proofs.Telling.{told-decides, change-number, modest-parts}

-- ---- the outbox after a plan

same-outs : (puts : List Row) (r : Lists) → list_any is_out_row puts ≡ false → (with_puts puts r).outs ≡ r.outs
same-outs [] r none = refl
same-outs (rows.Domain d ∷ puts) r none = same-outs puts (put_row (rows.Domain d) r) none
same-outs (rows.Account a ∷ puts) r none = same-outs puts (put_row (rows.Account a) r) none
same-outs (rows.Member m ∷ puts) r none = same-outs puts (put_row (rows.Member m) r) none
same-outs (rows.Alias a ∷ puts) r none = same-outs puts (put_row (rows.Alias a) r) none
same-outs (rows.Lsa l ∷ puts) r none = same-outs puts (put_row (rows.Lsa l) r) none
same-outs (rows.Desc d ∷ puts) r none = same-outs puts (put_row (rows.Desc d) r) none
same-outs (rows.Out o ∷ puts) r none = cc

kept-outs : (ks : List RowKey) (r : Lists) → list_any is_out_key ks ≡ false → (removed ks r).outs ≡ r.outs
kept-outs [] r none = refl
kept-outs (keys.Domain number ∷ ks) r none = kept-outs ks (remove_row (keys.Domain number) r) none
kept-outs (keys.Account domain rid ∷ ks) r none = kept-outs ks (remove_row (keys.Account domain rid) r) none
kept-outs (keys.Member group user ∷ ks) r none = kept-outs ks (remove_row (keys.Member group user) r) none
kept-outs (keys.Alias domain alias sid ∷ ks) r none = kept-outs ks (remove_row (keys.Alias domain alias sid) r) none
kept-outs (keys.Lsa sid ∷ ks) r none = kept-outs ks (remove_row (keys.Lsa sid) r) none
kept-outs (keys.Desc object ∷ ks) r none = kept-outs ks (remove_row (keys.Desc object) r) none
kept-outs (keys.Out number ∷ ks) r none = cc

-- a modest plan leaves it as it was
plan-leaves : (r : Lists) (plan : Plan) → is_modest plan ≡ true → (after plan r).outs ≡ r.outs
plan-leaves r plan modest =
    let parts = modest-parts plan modest in
    same-outs plan.puts (removed plan.removes r) parts.1 ∙ kept-outs plan.removes r parts.2

-- a row whose number is above all others goes after them
put-last : (o : OutRow) (os : List OutRow) → ((p : OutRow) → In p os → p.number < o.number)
    → put out_key o os ≡ os ++ o ∷ []
put-last o [] below = refl
put-last o (p ∷ os) below =
    let lt : p.number < o.number = below p (inl refl) in
    let up : Greater ≡ nat_cmp o.number p.number = nat_cmp_is o.number p.number Greater lt in
    ap (λ (r : Ordering). by_order r (o ∷ p ∷ os) (o ∷ os) (p ∷ put out_key o os)) (one-number o.number p.number up)
    ∙ ap (λ (ps : List OutRow). p ∷ ps) (put-last o os (λ q e. below q (inr e)))
  where
    one-number : (m n : ℕ) → Greater ≡ nat_cmp m n → compare (m ∷ []) (n ∷ []) ≡ Greater
    one-number m n up = ap (λ (r : Ordering). ordering_then r Equal) (sym up)

out-below : (r : Lists) → IsSoundRows r → (o : OutRow) → In o r.outs → o.number < r.next_out
out-below r sound o here = sound.outs_below o.number o (in_at out_key o r.outs sound.outs_ascend here)

-- a plan with the out row of what it changes
out-last : (r : Lists) (planned : Planned) (o : OutRow) → IsSoundRows r → is_modest planned.plan ≡ true
    → account_change r planned.plan ≡ Some o → (after (with_out o planned).plan r).outs ≡ r.outs ++ o ∷ []
out-last r planned o sound modest is =
    let plan : Plan = planned.plan in
    let number : o.number ≡ r.next_out = change-number r plan o is in
    ap (λ (x : Lists). x.outs) (with-puts-more plan.puts (rows.Out o ∷ []) (removed plan.removes r))
    ∙ ap (λ (os : List OutRow). put out_key o os) (plan-leaves r plan modest)
    ∙ put-last o r.outs (λ p here. subst (λ (n : ℕ). p.number < n) (sym number) (out-below r sound p here))

-- the accounts are those of the plan alone
plan-accounts : (r : Lists) (planned : Planned) (o : OutRow)
    → account_changes r (after (with_out o planned).plan r) ≡ account_changes r (after planned.plan r)
plan-accounts r planned o =
    ap (λ (x : Lists). account_changes r x)
    (with-puts-more planned.plan.puts (rows.Out o ∷ []) (removed planned.plan.removes r))

-- ---- one entry

-- the out rows are those before, and those of the accounts that differ where a program is told
abbrev Adds : State → State → Type 0
Adds s new = new.rows.outs ≡ s.rows.outs ++ cond (has_hook s.config) (account_changes s.rows new.rows) []

adds-none : (hooked : Bool) (os more : List OutRow) → more ≡ [] → os ≡ os ++ cond hooked more []
adds-none true os more none = sym (append-nil os) ∙ ap (λ (xs : List OutRow). os ++ xs) (sym none)
adds-none false os more none = sym (append-nil os)

adds-same : (s : State) → IsSoundRows s.rows → Adds s s
adds-same s sound =
    adds-none (has_hook s.config) s.rows.outs (account_changes s.rows s.rows) (no-changes s.rows sound)

-- what a plan does to the rows, by what was decided
abbrev Tells : Bool → Lists → Lists → Type 0
Tells hooked r later = later.outs ≡ r.outs ++ cond hooked (account_changes r later) []

refusal-tells : (hooked : Bool) (r : Lists) (status : ℕ) → IsSoundRows r
    → Tells hooked r (after (refusal status).plan r)
refusal-tells hooked r status sound = adds-none hooked r.outs (account_changes r r) (no-changes r sound)

row-tells : (r : Lists) (planned : Planned) (o : OutRow) → IsSoundRows r → is_modest planned.plan ≡ true
    → account_change r planned.plan ≡ Some o → Tells true r (after (with_out o planned).plan r)
row-tells r planned o sound modest is =
    let told : account_changes r (after (with_out o planned).plan r) ≡ o ∷ [] =
    plan-accounts r planned o ∙ plan-changes r planned.plan sound modest ∙ ap the_one is in
    out-last r planned o sound modest is ∙ ap (λ (xs : List OutRow). r.outs ++ xs) (sym told)

full-tells : (r : Lists) (planned : Planned) (o : OutRow) → IsSoundRows r → is_modest planned.plan ≡ true
    → account_change r planned.plan ≡ Some o → (full : Bool)
    → Tells true r (after (cond full (refusal status_insufficient_resources) (with_out o planned)).plan r)
full-tells r planned o sound modest is true = refusal-tells true r status_insufficient_resources sound
full-tells r planned o sound modest is false = row-tells r planned o sound modest is

change-tells : (r : Lists) (planned : Planned) → IsSoundRows r → is_modest planned.plan ≡ true
    → (change : Option OutRow) → account_change r planned.plan ≡ change
    → Tells true r (after (told_planned change planned).plan r)
change-tells r planned sound modest None is =
    plan-leaves r planned.plan modest
    ∙ adds-none true r.outs (account_changes r (after planned.plan r))
    (plan-changes r planned.plan sound modest ∙ ap the_one is)
change-tells r planned sound modest (Some o) is = full-tells r planned o sound modest is (is_full o)

decision-tells : (hooked : Bool) (r : Lists) (planned : Planned) → IsSoundRows r → is_modest planned.plan ≡ true
    → Tells hooked r (after (told_planned (cond hooked (account_change r planned.plan) None) planned).plan r)
decision-tells true r planned sound modest =
    change-tells r planned sound modest (account_change r planned.plan) refl
decision-tells false r planned sound modest = plan-leaves r planned.plan modest ∙ sym (append-nil r.outs)

decided-modest : (ruled : Ruled) → is_modest ruled.planned.plan ≡ true
    → Decision (λ status. true) ruled.conditions ruled.planned → is_modest (decision ruled).plan ≡ true
decided-modest ruled modest (inl fails) =
    subst (λ (p : Planned). is_modest p.plan ≡ true) (sym fails.refuses) refl
decided-modest ruled modest (inr passes) =
    subst (λ (p : Planned). is_modest p.plan ≡ true) (sym passes.plans) modest

planned-tells : (o : Operation) (s : State) (conn : ℕ) (call : Call) → operations.IsRight o → IsSoundRows s.rows
    → Adds s (changed s conn call (planned_of o s conn call))
planned-tells o s conn call right sound =
    let ruled : Ruled = decided_of o s (asked_of s conn call) call in
    let modest : is_modest (decision ruled).plan ≡ true =
    decided-modest ruled (right.modest s.rows (described s (asked_of s conn call)) (asked_of s conn call) call.args)
    (decides (λ status. true) ruled.conditions ruled.planned) in
    subst (λ (p : Planned). Tells (has_hook s.config) s.rows (after p.plan s.rows))
    (sym (told-decides s.config s.rows ruled))
    (decision-tells (has_hook s.config) s.rows (decision ruled) sound modest)

called-adds : AreRight → (s : State) (conn : ℕ) (call : Call) (verdict : Verdict) → IsSoundRows s.rows
    → Adds s (acted s conn call verdict).0
called-adds right s conn call verdict sound =
    let each : (o : Operation) → HasPassed o s conn call → Adds s (changed s conn call (planned_of o s conn call)) =
    λ o passed. planned-tells o s conn call
    (of-work operations.IsRight right.right (work_of call.face call.opnum) o passed.found) sound in
    acted-cases (λ (new : State). Adds s new) s conn call verdict (record {
      same = adds-same s sound;
      planned = each;
      opened = λ o opening granted ran passed effect grant. each o passed;
    })

-- a row that is taken out is the first
least-first : (os : List OutRow) (number : ℕ) → least_in os ≡ Some number
    → (o : OutRow) × (rest : List OutRow) × (os ≡ o ∷ rest) × (o.number ≡ number)
least-first [] number is = cc
least-first (o ∷ rest) number is = (o, rest, refl, cc)

hooked-takes : RemovedOutsStaySound → (r : Lists) (number : ℕ) → IsSoundRows r → least_in r.outs ≡ Some number
    → (remove_row (keys.Out number) r).outs ≡ drop 1 r.outs
hooked-takes taken r number sound least =
    let first = least-first r.outs number least in
    subst (λ (n : ℕ). (remove_row (keys.Out n) r).outs ≡ drop 1 r.outs) first.3
    ((taken r first.0 first.1 sound first.2).1 ∙ ap (λ (os : List OutRow). drop 1 os) (sym first.2))

entry-adds : AreRight → RemovedOutsStaySound → (start : Start) (before : List Entry) (e : Entry)
    → May start before e → IsSoundRows (state_at start before).rows
    → (step (state_at start before) e).rows.outs
    ≡ left_by e (state_at start before).rows.outs ++ adds (state_at start before) e
entry-adds right taken start before (Opened conn listener) may sound =
    adds-same (state_at start before) sound
entry-adds right taken start before (Called conn call verdict bytes) may sound =
    called-adds right (state_at start before) conn call verdict sound
entry-adds right taken start before (Gone conn) may sound = adds-same (state_at start before) sound
entry-adds right taken start before (Hooked number) may sound =
    let s : State = state_at start before in
    hooked-takes taken s.rows number sound may
    ∙ adds-none (has_hook s.config) (drop 1 s.rows.outs) (account_changes s.rows s.rows) (no-changes s.rows sound)

-- ---- histories

legal-last : (start : Start) (before history : List Entry) (e : Entry)
    → LegalAfter start before (history ++ e ∷ []) → LegalAfter start before history × May start (before ++ history) e
legal-last start before [] e legal =
    (tt, subst (λ (h : List Entry). May start h e) (sym (append-nil before)) legal.0)
legal-last start before (a ∷ history) e legal =
    let rest = legal-last start (before ++ a ∷ []) history e legal.1 in (
      (legal.0, rest.0),
      subst (λ (h : List Entry). May start h e) (append_assoc before (a ∷ []) history) rest.1,
    )

pub outs-are-added : AreRight → RemovedOutsStaySound → KeepsSound → OutsAreAdded
outs-are-added right taken keeps start before e configured rows legal =
    let parts = legal-last start [] before e legal in
    entry-adds right taken start before e parts.1 (keeps start before configured rows parts.0).rows

-- The out rows of a state and those that entries add after it are those that are taken out, and those that are left.
record Splits (s : State) (es : List Entry) : Type 0 where
  taken : List OutRow
  all : s.rows.outs ++ added s es ≡ taken ++ (state_after s es).rows.outs
  hooks : hooks_of es ≡ map (λ o. o.number) taken

-- an entry that takes none out
splits-same : (s : State) (e : Entry) (es : List Entry) → hooks_of (e ∷ es) ≡ hooks_of es
    → (step s e).rows.outs ≡ s.rows.outs ++ adds s e → Splits (step s e) es → Splits s (e ∷ es)
splits-same s e es same outs rest = record {
  taken = rest.taken;
  all = sym (append_assoc s.rows.outs (adds s e) (added (step s e) es))
      ∙ ap (λ (os : List OutRow). os ++ added (step s e) es) (sym outs)
      ∙ rest.all;
  hooks = same ∙ rest.hooks;
}

-- an entry that takes the first out
splits-hooked : (s : State) (number : ℕ) (es : List Entry) (o : OutRow) (others : List OutRow)
    → s.rows.outs ≡ o ∷ others → o.number ≡ number
    → (step s (Hooked number)).rows.outs ≡ drop 1 s.rows.outs ++ adds s (Hooked number)
    → Splits (step s (Hooked number)) es → Splits s (Hooked number ∷ es)
splits-hooked s number es o others is same outs rest =
    let more : List OutRow = added (step s (Hooked number)) es in
    let here : drop 1 s.rows.outs ≡ others = ap (λ (os : List OutRow). drop 1 os) is in
    record {
      taken = o ∷ rest.taken;
      all = ap (λ (os : List OutRow). os ++ (adds s (Hooked number) ++ more)) is
          ∙ ap (λ (os : List OutRow). o ∷ os) (sym (append_assoc others (adds s (Hooked number)) more)
          ∙ ap (λ (os : List OutRow). os ++ more)
          (ap (λ (os : List OutRow). os ++ adds s (Hooked number)) (sym here) ∙ sym outs)
          ∙ rest.all);
      hooks = ap (λ (ns : List ℕ). number ∷ ns) rest.hooks
          ∙ ap (λ (n : ℕ). n ∷ map (λ p. p.number) rest.taken) (sym same);
    }

splits-by : (start : Start) (before : List Entry) (e : Entry) (es : List Entry) → May start before e
    → (step (state_at start before) e).rows.outs
    ≡ left_by e (state_at start before).rows.outs ++ adds (state_at start before) e
    → Splits (step (state_at start before) e) es → Splits (state_at start before) (e ∷ es)
splits-by start before (Opened conn listener) es may outs rest =
    splits-same (state_at start before) (Opened conn listener) es refl outs rest
splits-by start before (Called conn call verdict bytes) es may outs rest =
    splits-same (state_at start before) (Called conn call verdict bytes) es refl outs rest
splits-by start before (Gone conn) es may outs rest =
    splits-same (state_at start before) (Gone conn) es refl outs rest
splits-by start before (Hooked number) es may outs rest =
    let first = least-first (state_at start before).rows.outs number may in
    splits-hooked (state_at start before) number es first.0 first.1 first.2 first.3 outs rest

splits-after : AreRight → RemovedOutsStaySound → KeepsSound → (start : Start) (before es : List Entry)
    → IsRightConfig start.config → IsSoundRows start.rows → Legal start before → LegalAfter start before es
    → Splits (state_at start before) es
splits-after right taken keeps start before [] configured rows was legal =
    record { taken = []; all = append-nil (state_at start before).rows.outs; hooks = refl }
splits-after right taken keeps start before (e ∷ es) configured rows was legal =
    let longer : Legal start (before ++ e ∷ []) = LegalAfter-push start [] before e was legal.0 in
    let rest : Splits (step (state_at start before) e) es =
    subst (λ (s : State). Splits s es) (state_after-push (first start) before e)
    (splits-after right taken keeps start (before ++ e ∷ []) es configured rows longer legal.1) in
    splits-by start before e es legal.0
    (entry-adds right taken start before e legal.0 (keeps start before configured rows was).rows) rest

take-front : (xs ys : List OutRow) (n : ℕ) → n ≡ length xs → take n (xs ++ ys) ≡ xs
take-front xs ys n is = ap (λ (k : ℕ). take k (xs ++ ys)) is ∙ take-append_seam xs ys

drop-front : (xs ys : List OutRow) (n : ℕ) → n ≡ length xs → drop n (xs ++ ys) ≡ ys
drop-front xs ys n is = ap (λ (k : ℕ). drop k (xs ++ ys)) is ∙ drop-append_seam xs ys

left-of : (start : Start) (history : List Entry) → Splits (first start) history → OutsLeft start history
left-of start history split =
    let count : length (hooks_of history) ≡ length split.taken =
    ap (λ (ns : List ℕ). length ns) split.hooks ∙ length-map split.taken (λ o. o.number) in
    let n : ℕ = length (hooks_of history) in
    let final : List OutRow = (state_at start history).rows.outs in
    record {
      left = sym (ap (λ (os : List OutRow). drop n os) split.all ∙ drop-front split.taken final n count);
      gone = split.hooks ∙ ap (λ (os : List OutRow). map (λ o. o.number) os)
          (sym (ap (λ (os : List OutRow). take n os) split.all ∙ take-front split.taken final n count));
    }

pub outs-are-left : AreRight → RemovedOutsStaySound → KeepsSound → OutsAreLeft
outs-are-left right taken keeps start history configured rows legal =
    left-of start history (splits-after right taken keeps start [] history configured rows tt legal)

-- ---- a history that goes on

added-append : (s : State) (before rest : List Entry)
    → added s (before ++ rest) ≡ added s before ++ added (state_after s before) rest
added-append s [] rest = refl
added-append s (e ∷ before) rest =
    ap (λ (os : List OutRow). adds s e ++ os) (added-append (step s e) before rest)
    ∙ sym (append_assoc (adds s e) (added (step s e) before) (added (state_after (step s e) before) rest))

hooks-append : (before rest : List Entry) → hooks_of (before ++ rest) ≡ hooks_of before ++ hooks_of rest
hooks-append [] rest = refl
hooks-append (Opened conn listener ∷ before) rest = hooks-append before rest
hooks-append (Called conn call verdict bytes ∷ before) rest = hooks-append before rest
hooks-append (Gone conn ∷ before) rest = hooks-append before rest
hooks-append (Hooked number ∷ before) rest = ap (λ (ns : List ℕ). number ∷ ns) (hooks-append before rest)

pub outs-only-grow : OutsOnlyGrow
outs-only-grow start before rest = record {
  outs = ap (λ (os : List OutRow). start.rows.outs ++ os) (added-append (first start) before rest)
      ∙ sym (append_assoc start.rows.outs (added (first start) before) (added (state_at start before) rest));
  hooks = hooks-append before rest;
}

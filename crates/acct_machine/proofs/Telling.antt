-- What the outbox adds to what an operation decides: a condition, and a row.
use Rattle.std.proofs.Common.{◌≡◌, inl, inr, ℕ, ◌^◌, ◌<◌, ◌≤◌, Bool, true, false, not, cond, List, [], ◌∷◌, ◌++◌}
use Rattle.std.proofs.Common.{length, nat_lt, nat_le, Option, Some, None, is_some, refl, sym, ap, ◌∙◌, arith}
use Rattle.std.specs.Prelude.{◌&&◌, ◌||◌}
use Rattle.std.specs.List.{list_all, list_any}
use Rattle.std.proofs.lemmas.Bool.Decides.{nat_tests}
use Rattle.acct_codes.specs.Statuses.{status_insufficient_resources}
use Rattle.acct_config.specs.declared.config.Config.{Config}
use Rattle.acct_rows.specs.Rows.{Lists, account_at, TakeNumbers}
use Rattle.acct_rows.specs.declared.plan.Plan.{Plan}
use Rattle.acct_tables.specs.declared.row.AccountRow.{AccountRow}
use Rattle.acct_tables.specs.declared.row.OutRow.{OutRow}
use Rattle.acct_tables.specs.declared.row.Row.{Row}
use Rattle.acct_tables.specs.declared.row.Row.TheVariants as rows
use Rattle.acct_tables.specs.declared.row.RowKey.{RowKey}
use Rattle.acct_rules.specs.Planned.{Condition, Ruled, when, none_fails, refusal, decided, decision, has_change}
use Rattle.acct_rules.specs.Planned.{put_account, removed_account}
use Rattle.acct_rules.specs.Touched.{is_out_row, is_out_key, is_modest, accounts_touched, touches_outbox}
use Rattle.acct_rules.specs.declared.planned.Planned.{Planned}
use Rattle.acct_machine.specs.Outbox.{has_hook, out_row, told_of_put, told_of_removed, told_by, same_account}
use Rattle.acct_machine.specs.Outbox.{account_change, is_full, with_out, told, needs_out, outboxed, told_planned}
use Rattle.acct_machine.proofs.Deciding.{both, Passes, decides}

-- ---- by cases

told-at : (P : Ruled → Type 0) (ruled : Ruled) (change : Option OutRow) (hooked : Bool) → P ruled
    → ((o : OutRow) → change ≡ Some o → P (told (Some o) ruled)) → P (told (cond hooked change None) ruled)
told-at P ruled None true plain more = plain
told-at P ruled (Some o) true plain more = more o refl
told-at P ruled change false plain more = plain

-- what holds of what was decided, and of it with the out row of each change, holds of what the machine does with it
pub told-cases : (P : Ruled → Type 0) (config : Config) (r : Lists) (ruled : Ruled) → P ruled
    → ((o : OutRow) → account_change r ruled.planned.plan ≡ Some o → P (told (Some o) ruled))
    → P (outboxed config r ruled)
told-cases P config r ruled plain more =
    told-at P ruled (account_change r ruled.planned.plan) (has_hook config) plain more

-- ---- conditions

pub all-parts : (test : Condition → Bool) (xs ys : List Condition) → list_all test (xs ++ ys) ≡ true
    → (list_all test xs ≡ true) × (list_all test ys ≡ true)
all-parts test [] ys all = (refl, all)
all-parts test (x ∷ xs) ys all =
    let first = both (test x) (list_all test (xs ++ ys)) all in
    let rest = all-parts test xs ys first.1 in
    (ap (λ b. b && list_all test xs) first.0 ∙ rest.0, rest.1)

pub all-join : (test : Condition → Bool) (xs ys : List Condition) → list_all test xs ≡ true → list_all test ys ≡ true
    → list_all test (xs ++ ys) ≡ true
all-join test [] ys first rest = rest
all-join test (x ∷ xs) ys first rest =
    let parts = both (test x) (list_all test xs) first in
    ap (λ b. b && list_all test (xs ++ ys)) parts.0 ∙ all-join test xs ys parts.1 rest

not-full : (full : Bool) → (not full && true) ≡ true → full ≡ false
not-full true h = cc
not-full false h = refl

-- where none of them fails, none of those of the operation does, and there is a number
pub told-passes : (o : OutRow) (ruled : Ruled) → none_fails (told (Some o) ruled).conditions ≡ true
    → (none_fails ruled.conditions ≡ true) × (is_full o ≡ false)
told-passes o ruled none =
    let parts = all-parts (λ (c : Condition). not c.fails) ruled.conditions
    (when (is_full o) status_insufficient_resources ∷ []) none in
    (parts.0, not-full (is_full o) parts.1)

-- ---- decisions

fails-by : (c : Condition) (cs more : List Condition) (p q : Planned) (fails : Bool)
    → (none_fails cs ≡ false → decided (cs ++ more) q ≡ decided cs p) → (not fails && none_fails cs) ≡ false
    → cond fails (refusal c.status) (decided (cs ++ more) q) ≡ cond fails (refusal c.status) (decided cs p)
fails-by c cs more p q true rest h = refl
fails-by c cs more p q false rest h = rest h

fails-more : (cs more : List Condition) (p q : Planned) → none_fails cs ≡ false
    → decided (cs ++ more) q ≡ decided cs p
fails-more [] more p q h = cc
fails-more (c ∷ cs) more p q h = fails-by c cs more p q c.fails (fails-more cs more p q) h

passes-by : (c : Condition) (cs more : List Condition) (q : Planned) (fails : Bool)
    → (none_fails cs ≡ true → decided (cs ++ more) q ≡ decided more q) → (not fails && none_fails cs) ≡ true
    → cond fails (refusal c.status) (decided (cs ++ more) q) ≡ decided more q
passes-by c cs more q true rest h = cc
passes-by c cs more q false rest h = rest h

passes-more : (cs more : List Condition) (q : Planned) → none_fails cs ≡ true → decided (cs ++ more) q ≡ decided more q
passes-more [] more q h = refl
passes-more (c ∷ cs) more q h = passes-by c cs more q c.fails (passes-more cs more q) h

none-needed : (config : Config) (r : Lists) (status : ℕ) (hooked : Bool)
    → cond hooked (account_change r (refusal status).plan) None ≡ None
none-needed config r status true = refl
none-needed config r status false = refl

-- a refusal needs no row
refusal-needs : (config : Config) (r : Lists) (status : ℕ) → needs_out config r (refusal status).plan ≡ None
refusal-needs config r status = none-needed config r status (has_hook config)

told-fails : (need : Option OutRow) (ruled : Ruled) → none_fails ruled.conditions ≡ false
    → decision (told need ruled) ≡ decision ruled
told-fails None ruled h = refl
told-fails (Some o) ruled h =
    fails-more ruled.conditions (when (is_full o) status_insufficient_resources ∷ []) ruled.planned
    (with_out o ruled.planned) h

told-plans : (need : Option OutRow) (ruled : Ruled) → Passes ruled.conditions ruled.planned
    → decision (told need ruled) ≡ told_planned need ruled.planned
told-plans None ruled passes = passes.plans
told-plans (Some o) ruled passes =
    passes-more ruled.conditions (when (is_full o) status_insufficient_resources ∷ []) (with_out o ruled.planned)
    passes.none

-- What the machine does with a decision is decided by what was decided before.
pub told-decides : (config : Config) (r : Lists) (ruled : Ruled)
    → decision (outboxed config r ruled)
    ≡ told_planned (needs_out config r (decision ruled).plan) (decision ruled)
told-decides config r ruled = elim (decides (λ status. true) ruled.conditions ruled.planned) [
  | inl fails ↦
      told-fails (needs_out config r ruled.planned.plan) ruled fails.fails
      ∙ fails.refuses
      ∙ sym (ap (λ (n : Option OutRow). told_planned n (refusal fails.status)) (refusal-needs config r fails.status))
      ∙ sym (ap (λ (p : Planned). told_planned (needs_out config r p.plan) p) fails.refuses)
  | inr passes ↦
      told-plans (needs_out config r ruled.planned.plan) ruled passes
      ∙ sym (ap (λ (p : Planned). told_planned (needs_out config r p.plan) p) passes.plans)
]

-- ---- changes

-- a plan without a change changes no account
pub no-change : (r : Lists) (plan : Plan) → has_change plan ≡ false → account_change r plan ≡ None
no-change r plan none = no-rows r plan.puts plan.removes none
  where
    no-rows : (r : Lists) (puts : List Row) (removes : List RowKey)
        → (nat_lt 0 (length puts) || nat_lt 0 (length removes)) ≡ false
        → told_by r (put_account puts) (removed_account removes) ≡ None
    no-rows r [] [] none = refl
    no-rows r [] (key ∷ ks) none = absurd (grind (arith, nat_tests))
    no-rows r (row ∷ more) removes none = absurd (grind (arith, nat_tests))

pub none-some : (o : OutRow) → None ≡ Some o → ⊥
none-some o is = cc

changes-by : (r : Lists) (plan : Plan) (o : OutRow) (hooked changes : Bool) → has_change plan ≡ changes
    → cond hooked (account_change r plan) None ≡ Some o → changes ≡ true
changes-by r plan o hooked true is some = refl
changes-by r plan o true false is some = absurd (none-some o (sym (no-change r plan is) ∙ some))
changes-by r plan o false false is some = absurd (none-some o some)

-- a plan that needs a row changes some
pub needs-change : (config : Config) (r : Lists) (plan : Plan) (need : Option OutRow) → needs_out config r plan ≡ need
    → is_some need ≡ true → has_change plan ≡ true
needs-change config r plan None is some = cc
needs-change config r plan (Some o) is some = changes-by r plan o (has_hook config) (has_change plan) refl is

-- the row is put where there is a number for it, and else the call is refused
pub told-row : (o : OutRow) (planned : Planned) → is_full o ≡ false
    → with_out o planned ≡ told_planned (Some o) planned
told-row o planned is =
    sym (ap (λ (full : Bool). cond full (refusal status_insufficient_resources) (with_out o planned)) is)

pub told-full : (o : OutRow) (planned : Planned) → is_full o ≡ true
    → refusal status_insufficient_resources ≡ told_planned (Some o) planned
told-full o planned is =
    sym (ap (λ (full : Bool). cond full (refusal status_insufficient_resources) (with_out o planned)) is)

-- ---- numbers

-- rows without an out row take no number
take-none : (next : ℕ) (puts : List Row) → list_any is_out_row puts ≡ false → TakeNumbers next puts
take-none next [] none = tt
take-none next (rows.Domain d ∷ puts) none = take-none next puts none
take-none next (rows.Account a ∷ puts) none = take-none next puts none
take-none next (rows.Member m ∷ puts) none = take-none next puts none
take-none next (rows.Alias a ∷ puts) none = take-none next puts none
take-none next (rows.Lsa l ∷ puts) none = take-none next puts none
take-none next (rows.Desc d ∷ puts) none = take-none next puts none
take-none next (rows.Out o ∷ puts) none = cc

-- and one after them takes the next
take-one : (next : ℕ) (puts : List Row) (o : OutRow) → list_any is_out_row puts ≡ false → o.number ≡ next
    → next < 2 ^ 63 → TakeNumbers next (puts ++ rows.Out o ∷ [])
take-one next [] o none is small = (is, small, tt)
take-one next (rows.Domain d ∷ puts) o none is small = take-one next puts o none is small
take-one next (rows.Account a ∷ puts) o none is small = take-one next puts o none is small
take-one next (rows.Member m ∷ puts) o none is small = take-one next puts o none is small
take-one next (rows.Alias a ∷ puts) o none is small = take-one next puts o none is small
take-one next (rows.Lsa l ∷ puts) o none is small = take-one next puts o none is small
take-one next (rows.Desc d ∷ puts) o none is small = take-one next puts o none is small
take-one next (rows.Out p ∷ puts) o none is small = cc

-- the out row of a change has the next number
put-number : (number : ℕ) (old : Option AccountRow) (a : AccountRow) (o : OutRow) → told_of_put number old a ≡ Some o
    → o.number ≡ number
put-number number None a o is = let same : out_row number 1 a ≡ o = cc in ap (λ (x : OutRow). x.number) (sym same)
put-number number (Some old) a o is = changed-number (same_account old a) is
  where
    changed-number : (equal : Bool) → cond equal None (Some (out_row number 2 a)) ≡ Some o → o.number ≡ number
    changed-number true is = cc
    changed-number false is = let same : out_row number 2 a ≡ o = cc in ap (λ (x : OutRow). x.number) (sym same)

removed-number : (number : ℕ) (old : Option AccountRow) (o : OutRow) → told_of_removed number old ≡ Some o
    → o.number ≡ number
removed-number number None o is = cc
removed-number number (Some old) o is =
    let same : out_row number 3 old ≡ o = cc in ap (λ (x : OutRow). x.number) (sym same)

told-number : (r : Lists) (put : Option AccountRow) (key : Option (ℕ × ℕ)) (o : OutRow) → told_by r put key ≡ Some o
    → o.number ≡ r.next_out
told-number r (Some a) key o is = put-number r.next_out (account_at r a.domain a.rid) a o is
told-number r None (Some (domain, rid)) o is = removed-number r.next_out (account_at r domain rid) o is
told-number r None None o is = cc

pub change-number : (r : Lists) (plan : Plan) (o : OutRow) → account_change r plan ≡ Some o → o.number ≡ r.next_out
change-number r plan o is = told-number r (put_account plan.puts) (removed_account plan.removes) o is

below-end : (n : ℕ) → nat_le (2 ^ 63) n ≡ false → n < 2 ^ 63
below-end n is = grind (arith, nat_tests)

-- the number of an out row that isn't full
pub below-full : (o : OutRow) (next : ℕ) → is_full o ≡ false → o.number ≡ next → next < 2 ^ 63
below-full o next is number = omega (arith, below-end o.number is, number)

pub modest-parts : (plan : Plan) → is_modest plan ≡ true
    → (accounts_touched plan ≤ 1) × (list_any is_out_row plan.puts ≡ false)
    × (list_any is_out_key plan.removes ≡ false)
modest-parts plan modest =
    let parts = both (nat_le (accounts_touched plan) 1) (not (touches_outbox plan)) modest in
    let outs = neither (list_any is_out_row plan.puts) (list_any is_out_key plan.removes) parts.1 in
    (within (accounts_touched plan) parts.0, outs.0, outs.1)
  where
    within : (n : ℕ) → nat_le n 1 ≡ true → n ≤ 1
    within n is = grind (arith, nat_tests)

    neither : (a b : Bool) → not (a || b) ≡ true → (a ≡ false) × (b ≡ false)
    neither true b h = cc
    neither false true h = cc
    neither false false h = (refl, refl)

pub few-accounts : (plan : Plan) → is_modest plan ≡ true → accounts_touched plan ≤ 1
few-accounts plan modest = (modest-parts plan modest).0

pub no-out : (plan : Plan) → is_modest plan ≡ true → list_any is_out_row plan.puts ≡ false
no-out plan modest = (modest-parts plan modest).1

-- a modest plan takes no number, and one with an out row the next
pub modest-takes : (next : ℕ) (plan : Plan) → is_modest plan ≡ true → TakeNumbers next plan.puts
modest-takes next plan modest = take-none next plan.puts (no-out plan modest)

pub out-takes : (r : Lists) (plan : Plan) (o : OutRow) → is_modest plan ≡ true → account_change r plan ≡ Some o
    → is_full o ≡ false → TakeNumbers r.next_out (plan.puts ++ rows.Out o ∷ [])
out-takes r plan o modest is full =
    let number = change-number r plan o is in
    take-one r.next_out plan.puts o (no-out plan modest) number (below-full o r.next_out full number)

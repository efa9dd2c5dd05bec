-- What a commit of a plan's changes does to a keeper.
use Rattle.std.proofs.Common.{◌≡◌, ◌≢◌, ◌↔◌, ◌==◌, ◌≤◌, ℕ, true, false, ◌||◌, List, [], ◌∷◌, length, Option, Some}
use Rattle.std.proofs.Common.{None, Result, Ok, Err, OnOk, OnErr, IfErr, nat_lt, refl, sym, ap, ◌∙◌, subst, arith}
use Rattle.std.proofs.lemmas.Bool.Decides.{nat_tests}
use Rattle.std.proofs.lemmas.Grind.{common_steps}
use Rattle.std.specs.Option.{option_map}
use Rattle.acct_keeper.specs.Faults.{after_call}
use Rattle.acct_keeper.specs.declared.keeper.KeepError.{KeepError}
use Rattle.acct_keeper.specs.declared.keeper.KeepError.TheVariants.{Failed}
use Rattle.acct_keeper.specs.declared.pairs.Pair.{Pair}
use Rattle.acct_keeper.specs.declared.pairs.Change.{Change}
use Rattle.acct_keeper.specs.Pairs.{after as after_changes}
use Rattle.acct_tables.specs.declared.row.Row.{Row}
use Rattle.acct_tables.specs.declared.row.RowKey.{RowKey}
use Rattle.acct_rows.specs.Rows.{Lists, removed, with_puts}
use Rattle.acct_rows.specs.Changes.{Follow}
use Rattle.acct_machine.specs.Committing.{CommitsRows}
use Rattle.acct_machine.specs.Outbox.{HoldsRows}

-- a plan without a change leaves the rows
pub unchanged : (puts : List Row) (removes : List RowKey) (rows : Lists)
    → (nat_lt 0 (length puts) || nat_lt 0 (length removes)) ≡ false → with_puts puts (removed removes rows) ≡ rows
unchanged [] [] rows none = refl
unchanged [] (key ∷ keys) rows none = absurd (grind (arith, common_steps, none))
unchanged (row ∷ more) removes rows none = absurd (grind (arith, common_steps, none))

-- and one whose changes were made leaves the pairs of the later rows
followed : (result : Result Unit KeepError) (held new : Option (List Pair)) (rows later : Lists)
    (changes given : List Change) → given ≡ changes → Follow rows later changes
    → OnOk result (new ≡ option_map (after_changes given) held)
    → OnOk result (HoldsRows held rows → HoldsRows new later)
followed (Ok x) None new rows later changes given same follows is = λ holds.
    subst (λ (h : Option (List Pair)). HoldsRows h later) (sym is) tt
followed (Ok x) (Some pairs) new rows later changes given same follows is = λ holds.
    subst (λ (h : Option (List Pair)). HoldsRows h later) (sym is)
    (subst (λ (cs : List Change). HoldsRows (Some (after_changes cs pairs)) later) (sym same) (follows pairs holds))
followed (Err e) held new rows later changes given same follows is = tt

-- ---- what it does to a keeper

-- nothing is asked of it where the rows stay as they are
pub unasked : {V : Type 0} (held : V → Option (List Pair)) (faults : V → ℕ) (keeper : V) (rows next : Lists)
    → next ≡ rows → CommitsRows held faults keeper keeper rows next (Ok tt)
unasked held faults keeper rows next same = record {
  ok = λ holds. subst (λ (x : Lists). HoldsRows (held keeper) x) (sym same) holds;
  err = tt;
  differs = tt;
  later = omega arith;
  count = refl;
  quiet = λ is. refl;
}

-- as they do where there are no changes
pub same-rows : (changes : List Change) (rows next : Lists) → (changes ≡ []) ↔ (next ≡ rows)
    → (length changes == 0) ≡ true → next ≡ rows
same-rows [] rows next none empty = none.0 refl
same-rows (change ∷ changes) rows next none empty = absurd (grind (arith, nat_tests))

other-rows : (changes : List Change) (rows next : Lists) → (changes ≡ []) ↔ (next ≡ rows)
    → (length changes == 0) ≡ false → next ≢ rows
other-rows changes rows next none some = λ same.
    absurd
    (let e : true ≡ false = sym (ap (λ (cs : List Change). length cs == 0) (none.1 same)) ∙ some in cc)

differ : (result : Result Unit KeepError) (A : Type 0) → A → IfErr result (λ e. e ≡ Failed → A)
differ (Ok x) A a = tt
differ (Err e) A a = λ failed. a

-- and the changes that there are are asked
pub asked : {V : Type 0} (held : V → Option (List Pair)) (faults : V → ℕ) (old new : V) (rows next : Lists)
    (changes given : List Change) (result : Result Unit KeepError) → given ≡ changes → Follow rows next changes
    → (changes ≡ []) ↔ (next ≡ rows) → (length changes == 0) ≡ false
    → OnOk result (held new ≡ option_map (after_changes given) (held old)) → OnErr result (held new ≡ held old)
    → faults old ≤ faults new → faults new ≡ after_call (faults old) result
    → CommitsRows held faults old new rows next result
asked held faults old new rows next changes given result same follows none some is kept le count =
    let others : next ≢ rows = other-rows changes rows next none some in
    record {
      ok = followed result (held old) (held new) rows next changes given same follows is;
      err = kept;
      differs = differ result (next ≢ rows) others;
      later = le;
      count = count;
      quiet = λ unchanged. absurd (others unchanged);
    }

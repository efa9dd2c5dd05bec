-- An out row that is put after a plan keeps the rows sound: it tells of an account that keeps the rules.
use Rattle.std.proofs.Common.{◌≡◌, ℕ, ◌^◌, ◌<◌, ◌≤◌, Bool, true, false, cond, List, [], ◌∷◌, ◌++◌}
use Rattle.std.proofs.Common.{length, Option, Some, None, refl, sym, ap, subst, ◌∙◌, arith}
use Rattle.std.specs.List.{filter, list_any}
use Rattle.acct_codes.specs.Accounts.{most_rid}
use Rattle.acct_rows.specs.Laws.{OutsStaySound, PutsAreFound}
use Rattle.acct_rows.specs.Rows.{exists}
use Rattle.acct_tables.specs.KeyedRows.{at}
use Rattle.acct_rows.specs.Rows.{Lists, domain_at, account_at, put_row, remove_row, removed, with_puts}
use Rattle.acct_tables.specs.Keys.{account_key}
use Rattle.acct_rows.specs.Rows.{after}
use Rattle.acct_rows.specs.Sound.{IsSoundRows, IsGoodAccount, next_rid_of}
use Rattle.acct_tables.specs.Good.{IsGoodOut}
use Rattle.acct_rows.specs.declared.plan.Plan.{Plan}
use Rattle.acct_tables.specs.declared.row.AccountRow.{AccountRow}
use Rattle.acct_tables.specs.declared.row.DomainRow.{DomainRow}
use Rattle.acct_tables.specs.declared.row.OutRow.{OutRow}
use Rattle.acct_tables.specs.declared.row.Row.{Row}
use Rattle.acct_tables.specs.declared.row.Row.TheVariants as rows
use Rattle.acct_tables.specs.declared.row.RowKey.{RowKey}
use Rattle.acct_tables.specs.declared.row.RowKey.TheVariants as keys
use Rattle.acct_rules.specs.declared.planned.Planned.{Planned}
use Rattle.acct_rules.specs.Operations.{Keeps}
use Rattle.acct_rules.specs.Planned.{put_account, removed_account}
use Rattle.acct_rules.specs.Touched.{is_account_row, is_out_row, is_modest}
use Rattle.acct_machine.specs.Outbox.{out_row, same_account, told_of_put, told_of_removed, told_by, account_change}
use Rattle.acct_machine.specs.Outbox.{is_full, with_out}
use Rattle.acct_machine.proofs.Telling.{few-accounts, no-out, change-number, below-full}

-- ---- the rows after a plan

pub with-puts-more : (xs ys : List Row) (r : Lists) → with_puts (xs ++ ys) r ≡ with_puts ys (with_puts xs r)
with-puts-more [] ys r = refl
with-puts-more (x ∷ xs) ys r = with-puts-more xs ys (put_row x r)

-- rows without an out row leave the next number
same-next : (puts : List Row) (r : Lists) → list_any is_out_row puts ≡ false → (with_puts puts r).next_out ≡ r.next_out
same-next [] r none = refl
same-next (rows.Domain d ∷ puts) r none = same-next puts (put_row (rows.Domain d) r) none
same-next (rows.Account a ∷ puts) r none = same-next puts (put_row (rows.Account a) r) none
same-next (rows.Member m ∷ puts) r none = same-next puts (put_row (rows.Member m) r) none
same-next (rows.Alias a ∷ puts) r none = same-next puts (put_row (rows.Alias a) r) none
same-next (rows.Lsa l ∷ puts) r none = same-next puts (put_row (rows.Lsa l) r) none
same-next (rows.Desc d ∷ puts) r none = same-next puts (put_row (rows.Desc d) r) none
same-next (rows.Out o ∷ puts) r none = cc

removed-next : (ks : List RowKey) (r : Lists) → (removed ks r).next_out ≡ r.next_out
removed-next [] r = refl
removed-next (keys.Domain number ∷ ks) r = removed-next ks (remove_row (keys.Domain number) r)
removed-next (keys.Account domain rid ∷ ks) r = removed-next ks (remove_row (keys.Account domain rid) r)
removed-next (keys.Member group user ∷ ks) r = removed-next ks (remove_row (keys.Member group user) r)
removed-next (keys.Alias domain alias sid ∷ ks) r = removed-next ks (remove_row (keys.Alias domain alias sid) r)
removed-next (keys.Lsa sid ∷ ks) r = removed-next ks (remove_row (keys.Lsa sid) r)
removed-next (keys.Desc object ∷ ks) r = removed-next ks (remove_row (keys.Desc object) r)
removed-next (keys.Out number ∷ ks) r = removed-next ks (remove_row (keys.Out number) r)

after-next : (plan : Plan) (r : Lists) → list_any is_out_row plan.puts ≡ false → (after plan r).next_out ≡ r.next_out
after-next plan r none = same-next plan.puts (removed plan.removes r) none ∙ removed-next plan.removes r

-- rows without an account leave the accounts
pub same-accounts : (puts : List Row) (r : Lists) → length (filter is_account_row puts) ≤ 0
    → (with_puts puts r).accounts ≡ r.accounts
same-accounts [] r none = refl
same-accounts (rows.Domain d ∷ puts) r none = same-accounts puts (put_row (rows.Domain d) r) none
same-accounts (rows.Account a ∷ puts) r none = absurd (omega (arith, none))
same-accounts (rows.Member m ∷ puts) r none = same-accounts puts (put_row (rows.Member m) r) none
same-accounts (rows.Alias a ∷ puts) r none = same-accounts puts (put_row (rows.Alias a) r) none
same-accounts (rows.Lsa l ∷ puts) r none = same-accounts puts (put_row (rows.Lsa l) r) none
same-accounts (rows.Desc d ∷ puts) r none = same-accounts puts (put_row (rows.Desc d) r) none
same-accounts (rows.Out o ∷ puts) r none = same-accounts puts (put_row (rows.Out o) r) none

-- an account row that is put is found, where it is the only one
put-found : PutsAreFound → (puts : List Row) (r : Lists) (a : AccountRow) → put_account puts ≡ Some a
    → length (filter is_account_row puts) ≤ 1 → account_at (with_puts puts r) a.domain a.rid ≡ Some a
put-found found [] r a is few = cc
put-found found (rows.Domain d ∷ puts) r a is few = put-found found puts (put_row (rows.Domain d) r) a is few
put-found found (rows.Account b ∷ puts) r a is few =
    let same : b ≡ a = cc in
    let none : length (filter is_account_row puts) ≤ 0 = omega (arith, few) in
    subst (λ (x : AccountRow). account_at (with_puts (rows.Account b ∷ puts) r) x.domain x.rid ≡ Some x) same
    (accounts-at b (same-accounts puts (put_row (rows.Account b) r) none) ∙ (found r).account b)
  where
    accounts-at : (b : AccountRow) → (with_puts puts (put_row (rows.Account b) r)).accounts
        ≡ (put_row (rows.Account b) r).accounts
        → account_at (with_puts puts (put_row (rows.Account b) r)) b.domain b.rid
        ≡ account_at (put_row (rows.Account b) r) b.domain b.rid
    accounts-at b same = ap (λ (xs : List AccountRow). at account_key (b.domain ∷ b.rid ∷ []) xs) same
put-found found (rows.Member m ∷ puts) r a is few = put-found found puts (put_row (rows.Member m) r) a is few
put-found found (rows.Alias b ∷ puts) r a is few = put-found found puts (put_row (rows.Alias b) r) a is few
put-found found (rows.Lsa l ∷ puts) r a is few = put-found found puts (put_row (rows.Lsa l) r) a is few
put-found found (rows.Desc d ∷ puts) r a is few = put-found found puts (put_row (rows.Desc d) r) a is few
put-found found (rows.Out o ∷ puts) r a is few = put-found found puts (put_row (rows.Out o) r) a is few

-- ---- the out row of an account

next-most : (r : Lists) (number : ℕ) (d : Option DomainRow) → IsSoundRows r → domain_at r number ≡ d
    → next_rid_of d ≤ most_rid
next-most r number None sound is = omega arith
next-most r number (Some d) sound is = (sound.domain_rules number d is).next_most

-- it keeps the rules where the account is among sound rows
out-good : (r : Lists) (number action : ℕ) (a : AccountRow) → IsSoundRows r → IsGoodAccount r a → 1 ≤ number
    → 1 ≤ action → action ≤ 3 → IsGoodOut (out_row number action a)
out-good r number action a sound good some least most = record {
  number_least = some;
  action_least = least;
  action_most = most;
  rid_most = omega (arith, good.below, next-most r a.domain (domain_at r a.domain) sound refl);
  kind_known = good.itself.kind_known;
  place = good.itself.place;
  name_units = good.itself.name_units;
  named = good.itself.named;
}

-- so it is with each out row of a put or a removal
put-good : (r : Lists) (number : ℕ) (old : Option AccountRow) (a : AccountRow) (o : OutRow) → IsSoundRows r
    → IsGoodAccount r a → 1 ≤ number → told_of_put number old a ≡ Some o → IsGoodOut o
put-good r number None a o sound good some is =
    let same : out_row number 1 a ≡ o = cc in
    subst IsGoodOut same (out-good r number 1 a sound good some (omega arith) (omega arith))
put-good r number (Some old) a o sound good some is = changed-good (same_account old a) is
  where
    changed-good : (equal : Bool) → cond equal None (Some (out_row number 2 a)) ≡ Some o → IsGoodOut o
    changed-good true is = cc
    changed-good false is =
        let same : out_row number 2 a ≡ o = cc in
        subst IsGoodOut same (out-good r number 2 a sound good some (omega arith) (omega arith))

removed-good : (r : Lists) (number domain rid : ℕ) (old : Option AccountRow) (o : OutRow) → IsSoundRows r
    → account_at r domain rid ≡ old → 1 ≤ number → told_of_removed number old ≡ Some o → IsGoodOut o
removed-good r number domain rid None o sound was some is = cc
removed-good r number domain rid (Some a) o sound was some is =
    let same : out_row number 3 a ≡ o = cc in
    subst IsGoodOut same
    (out-good r number 3 a sound (sound.account_rules domain rid a was) some (omega arith) (omega arith))

change-good : PutsAreFound → (r : Lists) (puts : List Row) (removes : List RowKey) (o : OutRow)
    (put : Option AccountRow) (key : Option (ℕ × ℕ)) → IsSoundRows r → IsSoundRows (with_puts puts (removed removes r))
    → put_account puts ≡ put → length (filter is_account_row puts) ≤ 1 → told_by r put key ≡ Some o → IsGoodOut o
change-good found r puts removes o (Some a) key sound later is few told =
    let there = put-found found puts (removed removes r) a is few in
    put-good (with_puts puts (removed removes r)) r.next_out (account_at r a.domain a.rid) a o later
    (later.account_rules a.domain a.rid a there) sound.next_least told
change-good found r puts removes o None (Some (domain, rid)) sound later is few told =
    removed-good r r.next_out domain rid (account_at r domain rid) o sound refl sound.next_least told
change-good found r puts removes o None None sound later is few told = cc

-- ---- a plan with its out row

-- what a plan keeps, it keeps with the out row of the account that it changes
pub out-keeps : OutsStaySound → PutsAreFound → (r : Lists) (planned : Planned) (o : OutRow) → IsSoundRows r
    → Keeps r planned → is_modest planned.plan ≡ true → account_change r planned.plan ≡ Some o → is_full o ≡ false
    → Keeps r (with_out o planned)
out-keeps stay found r planned o sound kept modest is full =
    let plan : Plan = planned.plan in
    let later : Lists = after plan r in
    let next : later.next_out ≡ r.next_out = after-next plan r (no-out plan modest) in
    let number : o.number ≡ r.next_out = change-number r plan o is in
    let few : length (filter is_account_row plan.puts) ≤ 1 = omega (arith, few-accounts plan modest) in
    let good : IsGoodOut o = change-good found r plan.puts plan.removes o (put_account plan.puts)
    (removed_account plan.removes) sound kept.sound refl few is in
    let law = stay later o kept.sound good (number ∙ sym next)
    (subst (λ (n : ℕ). n < 2 ^ 63) (sym next) (below-full o r.next_out full number)) in
    let same : after (with_out o planned).plan r ≡ put_row (rows.Out o) later =
    with-puts-more plan.puts (rows.Out o ∷ []) (removed plan.removes r) in
    record {
      sound = subst (λ (x : Lists). IsSoundRows x) (sym same) law.sound;
      stays = λ x was other. subst (λ (y : Lists). exists y x ≡ true) (sym same)
          (law.stays x (kept.stays x was other) refl);
      opens = λ opening e. subst (λ (y : Lists). exists y opening.object ≡ true) (sym same)
          (law.stays opening.object (kept.opens opening e) refl);
    }

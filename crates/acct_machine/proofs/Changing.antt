-- What a plan makes of the accounts is what a look at the accounts before and after it tells.
use Rattle.std.proofs.Common.{◌≡◌, inl, inr, ℕ, ◌+◌, ◌≤◌, Bool, true, false, not, cond, ◌==◌, List, [], ◌∷◌, ◌++◌}
use Rattle.std.proofs.Common.{length, Option, Some, None, is_some, refl, sym, ap, subst, ◌∙◌, arith}
use Rattle.std.specs.Prelude.{◌&&◌}
use Rattle.std.specs.List.{filter, flat_map}
use Rattle.std.specs.Str.{bytes_eq}
use Rattle.std.specs.Cmp.{first_so, second_so}
use Rattle.std.specs.declared.cmp.Ordering.{Ordering}
use Rattle.std.specs.declared.cmp.Ordering.TheVariants.{Less, Equal, Greater}
use Rattle.std.proofs.lemmas.Bool.Decides.{nat_tests}
use Rattle.std.proofs.lemmas.List.{append-nil}
use Rattle.std.proofs.lemmas.Slice.Eq.{bytes_eq-Decides}
use Rattle.acct_codes.specs.declared.kind.Kind.{Kind}
use Rattle.acct_codes.specs.declared.kind.Kind.TheVariants as kind
use Rattle.acct_tables.specs.Keyed.{Key, compare, same_key, by_order, at, put, without, is_ascending}
use Rattle.acct_tables.proofs.Ascending.{In, below_in}
use Rattle.acct_tables.proofs.Lookups.{at-put, at-without}
use Rattle.acct_tables.proofs.Standing.{in_at}
use Rattle.acct_tables.proofs.Orders.{same_key-is, tied}
use Rattle.acct_tables.proofs.Sorted.{in_filter}
use Rattle.acct_rows.specs.Rows.{Lists, account_at, put_row, remove_row, removed, with_puts}
use Rattle.acct_tables.specs.Keys.{account_key}
use Rattle.acct_tables.specs.Selected.{same_kind}
use Rattle.acct_rows.specs.Rows.{after}
use Rattle.acct_rows.specs.Sound.{IsSoundRows}
use Rattle.acct_rows.specs.declared.plan.Plan.{Plan}
use Rattle.acct_tables.specs.declared.row.AccountRow.{AccountRow}
use Rattle.acct_tables.specs.declared.row.OutRow.{OutRow}
use Rattle.acct_tables.specs.declared.row.Row.{Row}
use Rattle.acct_tables.specs.declared.row.Row.TheVariants as rows
use Rattle.acct_tables.specs.declared.row.RowKey.{RowKey}
use Rattle.acct_tables.specs.declared.row.RowKey.TheVariants as keys
use Rattle.acct_rules.specs.Planned.{put_account, removed_account}
use Rattle.acct_rules.specs.Touched.{is_account_row, is_account_key, is_modest}
use Rattle.acct_machine.specs.Outbox.{same_account, out_row, out_removed, out_changed, told_of_put, told_of_removed}
use Rattle.acct_machine.specs.Outbox.{told_by, account_change}
use Rattle.acct_machine.specs.Outs.{the_one, told_of_later, account_changes}
use Rattle.acct_machine.proofs.Outboxing.{same-accounts}
use Rattle.acct_machine.proofs.Telling.{few-accounts}

-- ---- an account is the same as itself

same-kind-itself : (k : Kind) → same_kind k k ≡ true
same-kind-itself kind.Server = refl
same-kind-itself kind.Domain = refl
same-kind-itself kind.Group = refl
same-kind-itself kind.Alias = refl
same-kind-itself kind.User = refl
same-kind-itself kind.Policy = refl
same-kind-itself kind.Account = refl

same-number : (n : ℕ) → (n == n) ≡ true
same-number n = grind (arith, nat_tests)

same-text : (xs : List ℕ) → bytes_eq xs xs ≡ true
same-text xs = (bytes_eq-Decides xs xs).1 refl

all-six : (a b c d e f : Bool) → a ≡ true → b ≡ true → c ≡ true → d ≡ true → e ≡ true → f ≡ true
    → (a && (b && (c && (d && (e && f))))) ≡ true
all-six a b c d e f p q r s t u = cc

same-account-itself : (a : AccountRow) → same_account a a ≡ true
same-account-itself a =
    all-six (same_kind a.kind a.kind) (bytes_eq a.name a.name) (bytes_eq a.full_name a.full_name)
    (bytes_eq a.comment a.comment) (a.bits == a.bits) (a.primary == a.primary) (same-kind-itself a.kind)
    (same-text a.name) (same-text a.full_name) (same-text a.comment) (same-number a.bits) (same-number a.primary)

put-again : (number : ℕ) (old : Option AccountRow) (a : AccountRow) → old ≡ Some a
    → the_one (told_of_put number old a) ≡ []
put-again number None a is = cc
put-again number (Some b) a is =
    let same : b ≡ a = cc in
    subst (λ (x : AccountRow). the_one (told_of_put number (Some x) a) ≡ []) (sym same)
    (ap (λ (equal : Bool). the_one (cond equal None (Some (out_row number out_changed a)))) (same-account-itself a))

-- ---- lists of which nothing is told but of one

module _ {A B : Type 0} (f : A → List B) where
  none-told : (xs : List A) → ((x : A) → In x xs → f x ≡ []) → flat_map f xs ≡ []
  none-told [] none = refl
  none-told (x ∷ xs) none =
      ap (λ (ys : List B). ys ++ flat_map f xs) (none x (inl refl)) ∙ none-told xs (λ y e. none y (inr e))

  put-told : (key : A → Key) (a : A) (xs : List A) → ((x : A) → In x xs → f x ≡ [])
      → flat_map f (put key a xs) ≡ f a
  put-told key a [] none = append-nil (f a)
  put-told key a (x ∷ xs) none =
      by-place (compare (key a) (key x)) (put-told key a xs (λ y e. none y (inr e)))
    where
      alone : (ys : List A) → ((y : A) → In y ys → f y ≡ []) → flat_map f (a ∷ ys) ≡ f a
      alone ys none = ap (λ (zs : List B). f a ++ zs) (none-told ys none) ∙ append-nil (f a)

      by-place : (r : Ordering) → flat_map f (put key a xs) ≡ f a
          → flat_map f (by_order r (a ∷ x ∷ xs) (a ∷ xs) (x ∷ put key a xs)) ≡ f a
      by-place Less rest = alone (x ∷ xs) none
      by-place Equal rest = alone xs (λ y e. none y (inr e))
      by-place Greater rest = ap (λ (ys : List B). ys ++ flat_map f (put key a xs)) (none x (inl refl)) ∙ rest

-- ---- what is told of each account

found : (r : Lists) → IsSoundRows r → (a : AccountRow) → In a r.accounts → account_at r a.domain a.rid ≡ Some a
found r sound a here = in_at account_key a r.accounts sound.accounts_ascend here

-- nothing of an account that is as it was
quiet : (r : Lists) → IsSoundRows r → (a : AccountRow) → In a r.accounts → told_of_later r a ≡ []
quiet r sound a here = put-again r.next_out (account_at r a.domain a.rid) a (found r sound a here)

abbrev earlier_by : Lists → List AccountRow → AccountRow → List OutRow
earlier_by r later a =
    cond (is_some (at account_key (a.domain ∷ a.rid ∷ []) later)) [] (out_row r.next_out out_removed a ∷ [])

-- the same by the accounts that are there later
abbrev changes_by : Lists → List AccountRow → List OutRow
changes_by r later = flat_map (told_of_later r) later ++ flat_map (earlier_by r later) r.accounts

-- accounts that are as they were
same-told : (r : Lists) → IsSoundRows r → changes_by r r.accounts ≡ []
same-told r sound =
    ap (λ (xs : List OutRow). xs ++ flat_map (earlier_by r r.accounts) r.accounts)
    (none-told (told_of_later r) r.accounts (quiet r sound))
    ∙ none-told (earlier_by r r.accounts) r.accounts (λ a here.
    ap (λ (x : Option AccountRow). cond (is_some x) [] (out_row r.next_out out_removed a ∷ [])) (found r sound a here))

-- an account that is put
put-tells : (r : Lists) (a : AccountRow) → IsSoundRows r
    → changes_by r (put account_key a r.accounts) ≡ the_one (told_of_put r.next_out (account_at r a.domain a.rid) a)
put-tells r a sound =
    ap (λ (xs : List OutRow). flat_map (told_of_later r) (put account_key a r.accounts) ++ xs)
    (none-told (earlier_by r (put account_key a r.accounts)) r.accounts stays)
    ∙ append-nil (flat_map (told_of_later r) (put account_key a r.accounts))
    ∙ put-told (told_of_later r) account_key a r.accounts (quiet r sound)
  where
    either : (here : Bool) (x : Option AccountRow) (b : AccountRow) → x ≡ Some b
        → is_some (cond here (Some a) x) ≡ true
    either true x b is = refl
    either false x b is = ap (λ (y : Option AccountRow). is_some y) is

    stays : (b : AccountRow) → In b r.accounts → earlier_by r (put account_key a r.accounts) b ≡ []
    stays b here =
        ap (λ (there : Bool). cond there [] (out_row r.next_out out_removed b ∷ []))
        (ap (λ (x : Option AccountRow). is_some x) (at-put account_key (account_key b) a r.accounts)
        ∙ either (same_key (account_key b) (account_key a)) (at account_key (account_key b) r.accounts) b
        (found r sound b here))

-- one account of a list is told, the one at a key
one-told : (number : ℕ) (k : Key) (g : AccountRow → List OutRow) (xs : List AccountRow)
    → is_ascending account_key xs ≡ true
    → ((a : AccountRow) → In a xs → g a ≡ cond (same_key k (account_key a)) (out_row number out_removed a ∷ []) [])
    → flat_map g xs ≡ the_one (told_of_removed number (at account_key k xs))
one-told number k g [] up each = refl
one-told number k g (a ∷ xs) up each =
    by-key (one-told number k g xs (second_so _ _ up) (λ b e. each b (inr e))) (same_key k (account_key a)) refl
  where
    others : same_key k (account_key a) ≡ true → (b : AccountRow) → In b xs → (test : Bool)
        → same_key k (account_key b) ≡ test → cond test (out_row number out_removed b ∷ []) [] ≡ []
    others here b e true is =
        let lt : compare (account_key a) (account_key b) ≡ Less =
        below_in account_key (account_key a) b xs (first_so _ _ up) e in
        let same : account_key a ≡ account_key b =
        sym (same_key-is k (account_key a) here) ∙ same_key-is k (account_key b) is in
        let eq : compare (account_key a) (account_key b) ≡ Equal =
        ap (λ (j : Key). compare (account_key a) j) (sym same) ∙ tied (account_key a) in
        absurd (cc (lt, eq))
    others here b e false is = refl

    by-key : flat_map g xs ≡ the_one (told_of_removed number (at account_key k xs))
        → (here : Bool) → same_key k (account_key a) ≡ here
        → g a ++ flat_map g xs ≡ the_one (told_of_removed number (cond here (Some a) (at account_key k xs)))
    by-key rest true is =
        ap (λ (ys : List OutRow). ys ++ flat_map g xs) (each a (inl refl)
        ∙ ap (λ (here : Bool). cond here (out_row number out_removed a ∷ []) []) is)
        ∙ ap (λ (ys : List OutRow). out_row number out_removed a ∷ ys) (none-told g xs (λ b e. each b (inr e)
        ∙ others is b e (same_key k (account_key b)) refl))
    by-key rest false is =
        ap (λ (ys : List OutRow). ys ++ flat_map g xs) (each a (inl refl)
        ∙ ap (λ (here : Bool). cond here (out_row number out_removed a ∷ []) []) is)
        ∙ rest

-- an account that is removed
abbrev less : Lists → Key → List AccountRow
less r k = without account_key k r.accounts

less-told : (here : Bool) (x : Option AccountRow) (a : AccountRow) (row : OutRow) → x ≡ Some a
    → cond (is_some (cond (not here) x None)) [] (row ∷ []) ≡ cond here (row ∷ []) []
less-told true x a row is = refl
less-told false x a row is = ap (λ (y : Option AccountRow). cond (is_some y) [] (row ∷ [])) is

gone-told : (r : Lists) (k : Key) → IsSoundRows r → (a : AccountRow) → In a r.accounts
    → earlier_by r (less r k) a ≡ cond (same_key k (account_key a)) (out_row r.next_out out_removed a ∷ []) []
gone-told r k sound a here =
    ap (λ (x : Option AccountRow). cond (is_some x) [] (out_row r.next_out out_removed a ∷ []))
    (at-without account_key (account_key a) k r.accounts)
    ∙ less-told (same_key k (account_key a)) (at account_key (account_key a) r.accounts) a
    (out_row r.next_out out_removed a) (found r sound a here)

removed-tells : (r : Lists) (domain rid : ℕ) → IsSoundRows r
    → changes_by r (less r (domain ∷ rid ∷ []))
    ≡ the_one (told_of_removed r.next_out (account_at r domain rid))
removed-tells r domain rid sound =
    let k : Key = domain ∷ rid ∷ [] in
    ap (λ (xs : List OutRow). xs ++ flat_map (earlier_by r (less r k)) r.accounts)
    (none-told (told_of_later r) (less r k)
    (λ a here. quiet r sound a (in_filter (λ b. not (same_key k (account_key b))) a r.accounts here).0))
    ∙ one-told r.next_out k (earlier_by r (less r k)) r.accounts sound.accounts_ascend (gone-told r k sound)

-- ---- the accounts after a plan

-- no account is put, or there is one at least
none-put : (puts : List Row) → put_account puts ≡ None → length (filter is_account_row puts) ≤ 0
none-put [] none = omega arith
none-put (rows.Domain d ∷ puts) none = none-put puts none
none-put (rows.Account a ∷ puts) none = cc
none-put (rows.Member m ∷ puts) none = none-put puts none
none-put (rows.Alias a ∷ puts) none = none-put puts none
none-put (rows.Lsa l ∷ puts) none = none-put puts none
none-put (rows.Desc d ∷ puts) none = none-put puts none
none-put (rows.Out o ∷ puts) none = none-put puts none

some-put : (puts : List Row) (a : AccountRow) → put_account puts ≡ Some a → 1 ≤ length (filter is_account_row puts)
some-put [] a is = cc
some-put (rows.Domain d ∷ puts) a is = some-put puts a is
some-put (rows.Account b ∷ puts) a is = omega arith
some-put (rows.Member m ∷ puts) a is = some-put puts a is
some-put (rows.Alias b ∷ puts) a is = some-put puts a is
some-put (rows.Lsa l ∷ puts) a is = some-put puts a is
some-put (rows.Desc d ∷ puts) a is = some-put puts a is
some-put (rows.Out o ∷ puts) a is = some-put puts a is

one-put : (puts : List Row) (r : Lists) (a : AccountRow) → put_account puts ≡ Some a
    → length (filter is_account_row puts) ≤ 1 → (with_puts puts r).accounts ≡ put account_key a r.accounts
one-put [] r a is few = cc
one-put (rows.Domain d ∷ puts) r a is few = one-put puts (put_row (rows.Domain d) r) a is few
one-put (rows.Account b ∷ puts) r a is few =
    let same : b ≡ a = cc in
    same-accounts puts (put_row (rows.Account b) r) (omega (arith, few))
    ∙ ap (λ (x : AccountRow). put account_key x r.accounts) same
one-put (rows.Member m ∷ puts) r a is few = one-put puts (put_row (rows.Member m) r) a is few
one-put (rows.Alias b ∷ puts) r a is few = one-put puts (put_row (rows.Alias b) r) a is few
one-put (rows.Lsa l ∷ puts) r a is few = one-put puts (put_row (rows.Lsa l) r) a is few
one-put (rows.Desc d ∷ puts) r a is few = one-put puts (put_row (rows.Desc d) r) a is few
one-put (rows.Out o ∷ puts) r a is few = one-put puts (put_row (rows.Out o) r) a is few

kept-accounts : (ks : List RowKey) (r : Lists) → length (filter is_account_key ks) ≤ 0
    → (removed ks r).accounts ≡ r.accounts
kept-accounts [] r none = refl
kept-accounts (keys.Domain number ∷ ks) r none = kept-accounts ks (remove_row (keys.Domain number) r) none
kept-accounts (keys.Account domain rid ∷ ks) r none = absurd (omega (arith, none))
kept-accounts (keys.Member group user ∷ ks) r none = kept-accounts ks (remove_row (keys.Member group user) r) none
kept-accounts (keys.Alias domain alias sid ∷ ks) r none =
    kept-accounts ks (remove_row (keys.Alias domain alias sid) r) none
kept-accounts (keys.Lsa sid ∷ ks) r none = kept-accounts ks (remove_row (keys.Lsa sid) r) none
kept-accounts (keys.Desc object ∷ ks) r none = kept-accounts ks (remove_row (keys.Desc object) r) none
kept-accounts (keys.Out number ∷ ks) r none = kept-accounts ks (remove_row (keys.Out number) r) none

none-removed : (ks : List RowKey) → removed_account ks ≡ None → length (filter is_account_key ks) ≤ 0
none-removed [] none = omega arith
none-removed (keys.Domain number ∷ ks) none = none-removed ks none
none-removed (keys.Account domain rid ∷ ks) none = cc
none-removed (keys.Member group user ∷ ks) none = none-removed ks none
none-removed (keys.Alias domain alias sid ∷ ks) none = none-removed ks none
none-removed (keys.Lsa sid ∷ ks) none = none-removed ks none
none-removed (keys.Desc object ∷ ks) none = none-removed ks none
none-removed (keys.Out number ∷ ks) none = none-removed ks none

one-removed : (ks : List RowKey) (r : Lists) (at : ℕ × ℕ) → removed_account ks ≡ Some at
    → length (filter is_account_key ks) ≤ 1
    → (removed ks r).accounts ≡ without account_key (at.0 ∷ at.1 ∷ []) r.accounts
one-removed [] r at is few = cc
one-removed (keys.Domain number ∷ ks) r at is few = one-removed ks (remove_row (keys.Domain number) r) at is few
one-removed (keys.Account domain rid ∷ ks) r at is few =
    let same : (domain, rid) ≡ at = cc in
    kept-accounts ks (remove_row (keys.Account domain rid) r) (omega (arith, few))
    ∙ ap (λ (x : ℕ × ℕ). without account_key (x.0 ∷ x.1 ∷ []) r.accounts) same
one-removed (keys.Member group user ∷ ks) r at is few =
    one-removed ks (remove_row (keys.Member group user) r) at is few
one-removed (keys.Alias domain alias sid ∷ ks) r at is few =
    one-removed ks (remove_row (keys.Alias domain alias sid) r) at is few
one-removed (keys.Lsa sid ∷ ks) r at is few = one-removed ks (remove_row (keys.Lsa sid) r) at is few
one-removed (keys.Desc object ∷ ks) r at is few = one-removed ks (remove_row (keys.Desc object) r) at is few
one-removed (keys.Out number ∷ ks) r at is few = one-removed ks (remove_row (keys.Out number) r) at is few

-- ---- what a plan tells

plan-tells : (r : Lists) (puts : List Row) (removes : List RowKey) (a : Option AccountRow) (key : Option (ℕ × ℕ))
    → IsSoundRows r → length (filter is_account_row puts) + length (filter is_account_key removes) ≤ 1
    → put_account puts ≡ a → removed_account removes ≡ key
    → changes_by r (with_puts puts (removed removes r)).accounts ≡ the_one (told_by r a key)
plan-tells r puts removes (Some a) key sound few puts-is removes-is =
    let some = some-put puts a puts-is in
    ap (λ (xs : List AccountRow). changes_by r xs)
    (one-put puts (removed removes r) a puts-is (omega (arith, few))
    ∙ ap (λ (xs : List AccountRow). put account_key a xs) (kept-accounts removes r (omega (arith, few, some))))
    ∙ put-tells r a sound
plan-tells r puts removes None (Some (domain, rid)) sound few puts-is removes-is =
    ap (λ (xs : List AccountRow). changes_by r xs)
    (same-accounts puts (removed removes r) (none-put puts puts-is)
    ∙ one-removed removes r (domain, rid) removes-is (omega (arith, few)))
    ∙ removed-tells r domain rid sound
plan-tells r puts removes None None sound few puts-is removes-is =
    ap (λ (xs : List AccountRow). changes_by r xs)
    (same-accounts puts (removed removes r) (none-put puts puts-is)
    ∙ kept-accounts removes r (none-removed removes removes-is))
    ∙ same-told r sound

-- a modest plan tells of the account row that it makes, changes or removes, and of no other
pub plan-changes : (r : Lists) (plan : Plan) → IsSoundRows r → is_modest plan ≡ true
    → account_changes r (after plan r) ≡ the_one (account_change r plan)
plan-changes r plan sound modest =
    plan-tells r plan.puts plan.removes (put_account plan.puts) (removed_account plan.removes) sound
    (few-accounts plan modest) refl refl

-- rows with the accounts that there were tell nothing
pub no-changes : (r : Lists) → IsSoundRows r → account_changes r r ≡ []
no-changes r sound = same-told r sound

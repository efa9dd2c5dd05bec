-- An account that is made or given rights is found, one that is deleted isn't, and the others are as they were.
use Rattle.std.proofs.Common.{◌≡◌, ℕ, Bool, true, false, not, cond, List, [], ◌∷◌, map, Option, Some, None, is_some}
use Rattle.std.proofs.Common.{refl, sym, ap, subst, ◌∙◌}
use Rattle.std.specs.Prelude.{◌&&◌, ◌||◌}
use Rattle.std.specs.List.{filter, list_any}
use Rattle.std.specs.Ordering.{is_eq}
use Rattle.std.specs.declared.cmp.Ordering.{Ordering}
use Rattle.std.specs.declared.cmp.Ordering.TheVariants.{Less, Equal, Greater}
use Rattle.acct_calls.specs.declared.calls.Args.{Args}
use Rattle.acct_tables.specs.KeyedRows.{same_key, at, without}
use Rattle.acct_rows.specs.Laws.{PutsAreFound, PutsLeaveOthers, EachLsaIsGood}
use Rattle.acct_rows.specs.Rows.{Lists, lsa_at, after, put_row, remove_row}
use Rattle.acct_tables.specs.Keys.{lsa_key, sid_key}
use Rattle.acct_rows.specs.Sound.{IsSoundRows}
use Rattle.acct_tables.specs.declared.object.Object.{Object}
use Rattle.acct_tables.specs.declared.object.Object.TheVariants as objects
use Rattle.acct_tables.specs.declared.row.LsaRow.{LsaRow}
use Rattle.acct_tables.specs.declared.row.Row.TheVariants as rows
use Rattle.acct_tables.specs.declared.row.RowKey.TheVariants as keys
use Rattle.acct_rules.specs.Asked.{asked_sid}
use Rattle.acct_rules.specs.Planned.{none_fails}
use Rattle.dtyp_sid.specs.Sids.{sid_eq, sid_cmp, EqualSidsAreOne, SidValue}
use Rattle.lsad_rights.specs.Accounts.{new_account, new_rows, create_account, account_of_sid}
use Rattle.lsad_rights.specs.Holdings.{held_at, takes_all}
use Rattle.lsad_rights.specs.Listings.{is_wanted, sid_of_row}
use Rattle.lsad_rights.specs.ChangeLaws.{OthersStay, IsMade, IsGone, RightsAreAdded, RightsAreTaken, rows_after}
use Rattle.lsad_rights.specs.ChangeLaws.{names_right}
use Rattle.lsad_rights.specs.ChangeLaws.{held_by}
use Rattle.lsad_rights.specs.Rights.{holds}
use Rattle.lsad_rights.specs.RightsChanges.{brought_sid, brought_names, account_or_new, with_rights, added_rows}
use Rattle.lsad_rights.specs.RightsChanges.{left_of, left_rows, adjusts, is_no_right, add_rights, remove_rights}
use Rattle.lsad_rights.specs.declared.holders.Wanted.TheVariants.{Holders}
use Rattle.lsad_rights.specs.declared.rights.AccountRight.{AccountRight}
use Rattle.lsad_rights.proofs.RightsHeld.{rights-added, rights-left, new-holds, attributes-kept, sid-with, sid-left}

-- ---- the rows of the accounts

tied : (o : Ordering) → is_eq o ≡ true → o ≡ Equal
tied Less h = cc
tied Equal h = refl
tied Greater h = cc

one-sid : EqualSidsAreOne → (a b : SidValue) → same_key (sid_key a) (sid_key b) ≡ true → a ≡ b
one-sid one a b same = (one a b).1.0 (tied (sid_cmp a b) same)

gone-at : (k : List ℕ) (xs : List LsaRow) → at lsa_key k (without lsa_key k xs) ≡ None
gone-at k [] = refl
gone-at k (x ∷ xs) =
    let rest = gone-at k xs in
    elim (same_key k (lsa_key x)) as
    (λ b. same_key k (lsa_key x) ≡ b
    → at lsa_key k (cond (not b) (x ∷ without lsa_key k xs) (without lsa_key k xs)) ≡ None) [
      | true ↦ λ is. rest
      | false ↦ λ is. ap (λ b. cond b (Some x) (at lsa_key k (without lsa_key k xs))) is ∙ rest
    ] refl

-- two keys of which no row has both
left-at : (j k : List ℕ) (xs : List LsaRow)
    → ((x : LsaRow) → same_key j (lsa_key x) ≡ true → same_key k (lsa_key x) ≡ true → ⊥)
    → at lsa_key j (without lsa_key k xs) ≡ at lsa_key j xs
left-at j k [] apart = refl
left-at j k (x ∷ xs) apart =
    let rest = left-at j k xs apart in
    elim (same_key k (lsa_key x)) as
    (λ b. same_key k (lsa_key x) ≡ b
    → at lsa_key j (cond (not b) (x ∷ without lsa_key k xs) (without lsa_key k xs)) ≡ at lsa_key j (x ∷ xs)) [
      | true ↦ λ is. rest ∙ elim (same_key j (lsa_key x)) as
          (λ c. same_key j (lsa_key x) ≡ c → at lsa_key j xs ≡ cond c (Some x) (at lsa_key j xs)) [
            | true ↦ λ same. absurd (apart x same is)
            | false ↦ λ other. refl
          ] refl
      | false ↦ λ is. ap (λ o. cond (same_key j (lsa_key x)) (Some x) o) rest
    ] refl

pub account-gone : EqualSidsAreOne → (r : Lists) (sid : SidValue)
    → IsGone sid r (remove_row (keys.Lsa sid) (remove_row (keys.Desc (objects.Account sid)) r))
account-gone one r sid = record {
  gone = gone-at (sid_key sid) r.lsa;
  stay = record {
    others = λ other apart. left-at (sid_key other) (sid_key sid) r.lsa
        (λ x this that. apart (one-sid one other x.sid this ∙ sym (one-sid one sid x.sid that)));
    domains = refl;
    accounts = refl;
    members = refl;
    aliases = refl;
  };
}

or-true : (b : Bool) → (b || true) ≡ true
or-true true = refl
or-true false = refl

-- an account that is found, and has the right, is listed
account-listed : EqualSidsAreOne → (right : AccountRight) (sid : SidValue) (l : LsaRow) (xs : List LsaRow)
    → at lsa_key (sid_key sid) xs ≡ Some l → holds right l ≡ true → l.sid ≡ sid
    → list_any (sid_eq sid) (map sid_of_row (filter (is_wanted (Holders right)) xs)) ≡ true
account-listed one right sid l [] = λ there has is. cc
account-listed one right sid l (x ∷ xs) =
    let rest = account-listed one right sid l xs in
    elim (same_key (sid_key sid) (lsa_key x)) as
    (λ b. cond b (Some x) (at lsa_key (sid_key sid) xs) ≡ Some l → holds right l ≡ true → l.sid ≡ sid
    → list_any (sid_eq sid) (map sid_of_row (filter (is_wanted (Holders right)) (x ∷ xs))) ≡ true) [
      | true ↦ λ there has is. here x (some-same x l there) has is
      | false ↦ λ there has is. later x (rest there has is)
    ]
  where
    some-same : (x l : LsaRow) → Some x ≡ Some l → l ≡ x
    some-same x l e = cc

    here : (x : LsaRow) → l ≡ x → holds right l ≡ true → l.sid ≡ sid
        → list_any (sid_eq sid) (map sid_of_row (filter (is_wanted (Holders right)) (x ∷ xs))) ≡ true
    here x same has is =
        let this : holds right x ≡ true = subst (λ y. holds right y ≡ true) same has in
        let named : sid_eq sid x.sid ≡ true =
        (one sid x.sid).0.1 (sym is ∙ ap (λ (y : LsaRow). y.sid) same) in
        ap (λ b. list_any (sid_eq sid) (map sid_of_row
        (cond b (x ∷ filter (is_wanted (Holders right)) xs) (filter (is_wanted (Holders right)) xs)))) this
        ∙ ap (λ b. b || list_any (sid_eq sid) (map sid_of_row (filter (is_wanted (Holders right)) xs))) named

    later : (x : LsaRow) → list_any (sid_eq sid) (map sid_of_row (filter (is_wanted (Holders right)) xs)) ≡ true
        → list_any (sid_eq sid) (map sid_of_row (filter (is_wanted (Holders right)) (x ∷ xs))) ≡ true
    later x rest = elim (holds right x) as
        (λ b. list_any (sid_eq sid) (map sid_of_row
        (cond b (x ∷ filter (is_wanted (Holders right)) xs) (filter (is_wanted (Holders right)) xs))) ≡ true) [
          | true ↦ ap (λ b. sid_eq sid x.sid || b) rest ∙ or-true (sid_eq sid x.sid)
          | false ↦ rest
        ]

-- a row that is put is found at its SID, and the others are as they were
put-found : PutsAreFound → (r : Lists) (l : LsaRow) (sid : SidValue) → l.sid ≡ sid
    → lsa_at (put_row (rows.Lsa l) r) sid ≡ Some l
put-found found r l sid is = subst (λ s. lsa_at (put_row (rows.Lsa l) r) s ≡ Some l) is ((found r).lsa l)

put-stays : PutsLeaveOthers → (r : Lists) (l : LsaRow) (sid : SidValue) → l.sid ≡ sid
    → OthersStay sid r (put_row (rows.Lsa l) r)
put-stays leave r l sid is = record {
  others = λ other apart. (leave r).lsa l other (λ same. apart (same ∙ is));
  domains = refl;
  accounts = refl;
  members = refl;
  aliases = refl;
}

-- ---- an account that is made

none-there : {A : Type 0} (o : Option A) → (not (is_some o) && true) ≡ true → o ≡ None
none-there None h = refl
none-there (Some x) h = cc

pub account-made : PutsAreFound → PutsLeaveOthers → (r : Lists) (object : Object) (asked : Args) (sid : SidValue)
    → asked_sid asked ≡ Some sid → none_fails (create_account r object asked).conditions ≡ true
    → IsMade sid r (rows_after create_account r object asked)
account-made found leave r object asked sid is =
    subst (λ o. (not (is_some (account_of_sid r o)) && true) ≡ true
    → IsMade sid r (after (record { puts = new_rows o; removes = [] }) r)) (sym is)
    (λ none. record {
      was_free = none-there (lsa_at r sid) none;
      found = put-found found r (new_account sid) sid refl;
      stay = put-stays leave r (new_account sid) sid refl;
    })

-- ---- rights that are added

or-new-sid : EachLsaIsGood → (r : Lists) (sid : SidValue) (o : Option LsaRow) → IsSoundRows r → lsa_at r sid ≡ o
    → (account_or_new sid o).sid ≡ sid
or-new-sid each r sid None sound is = refl
or-new-sid each r sid (Some l) sound is = (each r sound).account_sid sid l is

or-new-holds : (right : AccountRight) (sid : SidValue) (o : Option LsaRow)
    → holds right (account_or_new sid o) ≡ held_by o right
or-new-holds right sid None = new-holds right sid
or-new-holds right sid (Some l) = refl

added : EachLsaIsGood → PutsAreFound → PutsLeaveOthers → EqualSidsAreOne → (r : Lists) (sid : SidValue)
    (names : List (List ℕ)) → IsSoundRows r
    → RightsAreAdded sid names r (put_row (rows.Lsa (with_rights names (account_or_new sid (lsa_at r sid)))) r)
added each found leave one r sid names sound =
    let old = account_or_new sid (lsa_at r sid) in
    let is : (with_rights names old).sid ≡ sid =
    sid-with names old ∙ or-new-sid each r sid (lsa_at r sid) sound refl in
    let there = put-found found r (with_rights names old) sid is in
    let rights : (right : AccountRight) → holds right (with_rights names old)
    ≡ (list_any (names_right right) names || held_by (lsa_at r sid) right) =
    λ right. rights-added right names old
    ∙ ap (λ b. list_any (names_right right) names || b) (or-new-holds right sid (lsa_at r sid)) in
    record {
      account = with_rights names old;
      there = there;
      rights = rights;
      attributes = λ l low h was held. attributes-kept low h names old
          (subst (λ o. held_at low (account_or_new sid o).privileges ≡ Some h) (sym was) held);
      listed = λ right named. account-listed one right sid (with_rights names old)
          (put_row (rows.Lsa (with_rights names old)) r).lsa there
          (rights right ∙ ap (λ b. b || held_by (lsa_at r sid) right) named) is;
      stay = put-stays leave r (with_rights names old) sid is;
    }

pub rights-are-added : EachLsaIsGood → PutsAreFound → PutsLeaveOthers → EqualSidsAreOne → (r : Lists)
    (object : Object) (asked : Args) (sid : SidValue) → IsSoundRows r → brought_sid asked ≡ Some sid
    → RightsAreAdded sid (brought_names asked) r (rows_after add_rights r object asked)
rights-are-added each found leave one r object asked sid sound is =
    subst (λ o. RightsAreAdded sid (brought_names asked) r
    (after (adjusts o (added_rows r o (brought_names asked))).plan r)) (sym is)
    (added each found leave one r sid (brought_names asked) sound)

-- ---- rights that are taken away

some-there : {A : Type 0} (o : Option A) (b : Bool) → (not (not (is_some o)) && b) ≡ true → is_some o ≡ true
some-there None b h = cc
some-there (Some x) b h = refl

left : EachLsaIsGood → PutsAreFound → PutsLeaveOthers → (r : Lists) (sid : SidValue) (asked : Args)
    (o : Option LsaRow) → IsSoundRows r → lsa_at r sid ≡ o → is_some o ≡ true
    → RightsAreTaken sid asked r (after (adjusts (Some sid) (left_rows asked o)).plan r)
left each found leave r sid asked None sound was there = cc
left each found leave r sid asked (Some l) sound was there =
    let is : (left_of asked l).sid ≡ sid = sid-left asked l ∙ (each r sound).account_sid sid l was in
    record {
      account = left_of asked l;
      there = put-found found r (left_of asked l) sid is;
      rights = λ right. rights-left right asked l
          ∙ ap (λ b. not (takes_all asked || list_any (names_right right) (brought_names asked)) && b)
          (sym (ap (λ o. held_by o right) was));
      stay = put-stays leave r (left_of asked l) sid is;
    }

pub rights-are-taken : EachLsaIsGood → PutsAreFound → PutsLeaveOthers → (r : Lists) (object : Object) (asked : Args)
    (sid : SidValue) → IsSoundRows r → brought_sid asked ≡ Some sid
    → none_fails (remove_rights r object asked).conditions ≡ true
    → RightsAreTaken sid asked r (rows_after remove_rights r object asked)
rights-are-taken each found leave r object asked sid sound is =
    subst (λ o. (not (not (is_some (account_of_sid r o)))
    && (not (list_any is_no_right (brought_names asked)) && true)) ≡ true
    → RightsAreTaken sid asked r (after (adjusts o (left_rows asked (account_of_sid r o))).plan r)) (sym is)
    (λ none. left each found leave r sid asked (lsa_at r sid) sound refl
    (some-there (lsa_at r sid) _ none))

-- What is left of the accounts of a domain, and the pages of it: entries that can be encoded, few, and each
-- opnum's own.
use Rattle.std.proofs.Common.{ℕ, ◌≤◌, Bool, true, false, cond, All, List, [], ◌∷◌, length}
use Rattle.std.proofs.Common.{Some, get_or, refl, arith}
use Rattle.std.specs.List.{filter}
use Rattle.std.proofs.lemmas.List.{length-map}
use Rattle.std.proofs.lemmas.List.Elements.{All-head, All-tail, All-map, All-filter}
use Rattle.acct_calls.specs.declared.calls.Args.{Args}
use Rattle.acct_calls.specs.declared.calls.Args.TheVariants as args
use Rattle.acct_calls.specs.declared.calls.Face.TheVariants.{Samr}
use Rattle.acct_calls.specs.declared.lists.RidName.{RidName}
use Rattle.acct_codes.specs.Opnums.{samr_enumerate_groups_in_domain, samr_enumerate_users_in_domain}
use Rattle.acct_codes.specs.Opnums.{samr_enumerate_aliases_in_domain}
use Rattle.acct_codes.specs.declared.kind.Kind.TheVariants as kind
use Rattle.acct_layouts.specs.Values.{IsLong, IsAccount, IsListed}
use Rattle.acct_layouts.specs.CallShapes.{AreSearchArgs}
use Rattle.acct_layouts.specs.ReplyShapes.{HasShape}
use Rattle.acct_layouts.specs.Table.{samr_layout, lsa_layout}
use Rattle.acct_layouts.specs.declared.fields.Search.TheVariants as search
use Rattle.acct_rows.specs.Laws.{EachIsGood}
use Rattle.acct_rows.specs.Rows.{Lists, HasRoom}
use Rattle.acct_rows.specs.Sound.{IsSoundRows, IsGoodAccount}
use Rattle.acct_tables.specs.declared.row.AccountRow.{AccountRow}
use Rattle.acct_rules.specs.Asked.{asked_context, asked_filter, asked_length}
use Rattle.acct_rules.specs.Operations.{IsRight}
use Rattle.acct_rules.specs.Pages.{entry_cost, last_rid, page, leaves_some}
use Rattle.samr_objects.specs.Enumerations.{is_wanted, entry_of, left_of, wanted}
use Rattle.samr_objects.specs.Table.{enumerate_groups_in_domain, enumerate_aliases_in_domain, enumerate_users_in_domain}
use Rattle.samr_objects.specs.declared.enumerations.Wanted.{Wanted}
use Rattle.samr_objects.proofs.Asking.{arguments}
use Rattle.samr_objects.proofs.Paging.{page-few}
use Rattle.samr_objects.proofs.Shaping.{page-full, page-long, page-all, account-long, name-text, accounts-good}

-- ---- what a page shows

account-listed : (r : Lists) (a : AccountRow) → IsSoundRows r → IsGoodAccount r a → IsAccount (entry_of a)
account-listed r a sound good = (account-long r a sound good, name-text r (Some a) good)

left-shaped : EachIsGood → (w : Wanted) (r : Lists) → IsSoundRows r → All IsAccount (left_of w r)
left-shaped each w r sound =
    All-map IsAccount entry_of (filter (is_wanted w) r.accounts)
    (All-filter (is_wanted w) (λ (a : AccountRow). IsAccount (entry_of a)) r.accounts
    (λ k a lt. account-listed r (get_or r.accounts k a) sound (accounts-good each r sound k a lt)))

either-few : {A : Type 0} (b : Bool) (x : A) (xs ys : List A) → length xs ≤ length ys
    → length (cond b (x ∷ xs) xs) ≤ length (x ∷ ys)
either-few true x xs ys few = omega arith
either-few false x xs ys few = omega arith

pub filter-few : {A : Type 0} (p : A → Bool) (xs : List A) → length (filter p xs) ≤ length xs
filter-few p [] = omega arith
filter-few p (x ∷ xs) = either-few (p x) x (filter p xs) xs (filter-few p xs)

left-few : (w : Wanted) (r : Lists) → length (left_of w r) ≤ length r.accounts
left-few w r =
    omega (arith, length-map (filter (is_wanted w) r.accounts) entry_of, filter-few (is_wanted w) r.accounts)

last-long : (before : ℕ) (entries : List RidName) → IsLong before → All IsAccount entries
    → IsLong (last_rid before entries)
last-long before [] long all = long
last-long before (x ∷ xs) long all =
    last-long x.rid xs (All-head IsAccount x xs all).0 (All-tail IsAccount x xs all)

-- a page and its context
listed-shaped : EachIsGood → (w : Wanted) (preferred : ℕ) (r : Lists) → HasRoom r 0 → IsSoundRows r → IsLong w.behind
    → IsLong (last_rid w.behind (page entry_cost preferred (left_of w r)))
    × IsListed IsAccount (page entry_cost preferred (left_of w r))
listed-shaped each w preferred r few sound long =
    let all = page-all IsAccount entry_cost preferred (left_of w r) (left-shaped each w r sound) in
    let most = page-few entry_cost preferred (left_of w r) in
    let left = left-few w r in
    let room = few.accounts in
    (last-long w.behind (page entry_cost preferred (left_of w r)) long all, (omega arith, all))

-- ---- what is asked for

context-long : (a : Args) → AreSearchArgs search.Page a → IsLong (asked_context a)
context-long (args.Page context filter preferred) are = are.0
context-long _ are = absurd are

filtered-long : (a : Args) → AreSearchArgs search.FilteredPage a → IsLong (asked_context a)
filtered-long (args.Page context filter preferred) are = are.0
filtered-long _ are = absurd are

-- ---- the operations

abbrev more-left : Wanted → Args → Lists → Bool
more-left w asked r = leaves_some (page entry_cost (asked_length asked) (left_of w r)) (left_of w r)

pub list_groups-right : EachIsGood → IsRight enumerate_groups_in_domain
unfolding HasShape samr_layout lsa_layout
list_groups-right each = record {
  laid_out = refl;
  refuses = λ r described object asked. refl;
  succeeds = λ r described object asked. page-full (more-left (wanted kind.Group 0 object asked) asked r);
  frugal = λ r described object asked. refl;
  modest = λ r described object asked. refl;
  shaped = λ r described object call few is none. (
    page-long (more-left (wanted kind.Group 0 object call.args) call.args r),
    listed-shaped each (wanted kind.Group 0 object call.args) (asked_length call.args) r few is.rows
        (context-long call.args
        (arguments call Samr samr_enumerate_groups_in_domain is.face is.opnum is.spelled).1),
    λ refused. refl,
  );
}

pub list_aliases-right : EachIsGood → IsRight enumerate_aliases_in_domain
unfolding HasShape samr_layout lsa_layout
list_aliases-right each = record {
  laid_out = refl;
  refuses = λ r described object asked. refl;
  succeeds = λ r described object asked. page-full (more-left (wanted kind.Alias 0 object asked) asked r);
  frugal = λ r described object asked. refl;
  modest = λ r described object asked. refl;
  shaped = λ r described object call few is none. (
    page-long (more-left (wanted kind.Alias 0 object call.args) call.args r),
    listed-shaped each (wanted kind.Alias 0 object call.args) (asked_length call.args) r few is.rows
        (context-long call.args
        (arguments call Samr samr_enumerate_aliases_in_domain is.face is.opnum is.spelled).1),
    λ refused. refl,
  );
}

pub list_users-right : EachIsGood → IsRight enumerate_users_in_domain
unfolding HasShape samr_layout lsa_layout
list_users-right each = record {
  laid_out = refl;
  refuses = λ r described object asked. refl;
  succeeds = λ r described object asked. page-full (more-left (wanted kind.User (asked_filter asked) object asked) asked r);
  frugal = λ r described object asked. refl;
  modest = λ r described object asked. refl;
  shaped = λ r described object call few is none. (
    page-long (more-left (wanted kind.User (asked_filter call.args) object call.args) call.args r),
    listed-shaped each (wanted kind.User (asked_filter call.args) object call.args) (asked_length call.args) r few
        is.rows
        (filtered-long call.args
        (arguments call Samr samr_enumerate_users_in_domain is.face is.opnum is.spelled).1),
    λ refused. refl,
  );
}

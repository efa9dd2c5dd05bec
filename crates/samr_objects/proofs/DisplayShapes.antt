-- What is displayed has the shape of its class: numbers of 32 bits, texts, and no full name of a group.
use Rattle.std.proofs.Common.{◌≡◌, ℕ, ◌+◌, ◌^◌, ◌<◌, ◌≤◌, Bool, true, false, cond, All, List, [], ◌∷◌, length}
use Rattle.std.proofs.Common.{take, drop, Option, Some, None, refl, ap, ◌∙◌, arith}
use Rattle.std.proofs.Math.Seq.{take-nil, drop-nil}
use Rattle.std.specs.Prelude.{if◌then◌else◌}
use Rattle.std.specs.Cmp.{second_so}
use Rattle.std.specs.List.{filter}
use Rattle.std.proofs.lemmas.List.{length-drop, length-take}
use Rattle.std.proofs.lemmas.List.Elements.{All-nil, All-cons, All-head, All-tail, All-take, All-drop}
use Rattle.acct_calls.specs.declared.calls.Args.{Args}
use Rattle.acct_calls.specs.declared.calls.Args.TheVariants as args
use Rattle.acct_calls.specs.declared.calls.Face.TheVariants.{Samr}
use Rattle.acct_calls.specs.declared.lists.DisplayRow.{DisplayRow}
use Rattle.acct_codes.specs.Opnums.{samr_query_display_information}
use Rattle.acct_codes.specs.declared.kind.Kind.{Kind}
use Rattle.acct_codes.specs.declared.kind.Kind.TheVariants as kind
use Rattle.acct_layouts.specs.Values.{IsLong, IsText, IsListed, IsDisplayedUser, IsDisplayedGroup, display_arm}
use Rattle.acct_layouts.specs.CallShapes.{AreSearchArgs}
use Rattle.acct_layouts.specs.ReplyShapes.{HasShape, AreDisplayed}
use Rattle.acct_layouts.specs.Table.{samr_layout, lsa_layout}
use Rattle.acct_layouts.specs.declared.classes.DisplayArm.{DisplayArm}
use Rattle.acct_layouts.specs.declared.classes.DisplayArm.TheVariants as display
use Rattle.acct_layouts.specs.declared.fields.Search.TheVariants as search
use Rattle.acct_rows.specs.Laws.{EachIsGood}
use Rattle.acct_tables.specs.Keys.{domain_of}
use Rattle.acct_rows.specs.Rows.{Lists, HasRoom}
use Rattle.acct_tables.specs.Selected.{same_kind}
use Rattle.acct_rows.specs.Sound.{IsSoundRows, IsGoodAccount}
use Rattle.acct_tables.specs.declared.object.Object.{Object}
use Rattle.acct_tables.specs.declared.row.AccountRow.{AccountRow}
use Rattle.acct_rules.specs.Asked.{class_of, asked_index, asked_count, asked_length}
use Rattle.acct_rules.specs.Operations.{IsRight}
use Rattle.acct_rules.specs.Pages.{page, leaves_some}
use Rattle.samr_objects.specs.Enumerations.{is_displayed, displayed, displayed_from, display_of, display_cost, as_count}
use Rattle.samr_objects.specs.Table.{query_display_information}
use Rattle.samr_objects.proofs.Asking.{arguments}
use Rattle.samr_objects.proofs.Listing.{filter-few}
use Rattle.samr_objects.proofs.Paging.{page-few}
use Rattle.samr_objects.proofs.Shaping.{account-long, name-text, accounts-good, page-all, page-full, page-long}

-- ---- one account

full-name-text : (r : Lists) (a : AccountRow) (user : Bool) → IsGoodAccount r a
    → IsText (if user then a.full_name else [])
full-name-text r a true good = (let most = good.itself.full_name_most in omega arith, good.itself.full_name_units)
full-name-text r a false good = (omega arith, All-nil (λ unit. unit < 2 ^ 16))

user-shaped : (r : Lists) → IsSoundRows r → (place : ℕ) (a : AccountRow) → place < 2 ^ 32 → IsGoodAccount r a
    → IsDisplayedUser (displayed place a)
user-shaped r sound place a long good = (
  long,
  account-long r a sound good,
  good.itself.bits_fit,
  name-text r (Some a) good,
  (let most = good.itself.comment_most in omega arith, good.itself.comment_units),
  full-name-text r a (same_kind kind.User a.kind) good,
)

no-user : (k : Kind) → same_kind kind.Group k ≡ true → same_kind kind.User k ≡ false
no-user kind.Group is = refl
no-user kind.Server is = cc
no-user kind.Domain is = cc
no-user kind.Alias is = cc
no-user kind.User is = cc
no-user kind.Policy is = cc
no-user kind.Account is = cc

abbrev IsGroup : Lists → ℕ → AccountRow → Type 0
IsGroup r domain a = IsGoodAccount r a × (is_displayed display.Group domain a ≡ true)

group-shaped : (r : Lists) → IsSoundRows r → (domain place : ℕ) (a : AccountRow) → place < 2 ^ 32 → IsGroup r domain a
    → IsDisplayedGroup (displayed place a)
group-shaped r sound domain place a long good = (
  user-shaped r sound place a long good.0,
  ap (λ (user : Bool). if user then a.full_name else []) (no-user a.kind (second_so _ _ good.1)),
)

-- ---- all accounts

from-all : (P : DisplayRow → Type 0) (Q : AccountRow → Type 0)
    → ((place : ℕ) (a : AccountRow) → place < 2 ^ 32 → Q a → P (displayed place a))
    → (place : ℕ) (xs : List AccountRow) → place + length xs ≤ 2 ^ 32 → All Q xs → All P (displayed_from place xs)
from-all P Q each place [] few all = All-nil P
from-all P Q each place (x ∷ xs) few all =
    All-cons P (displayed place x) (displayed_from (place + 1) xs)
    (each place x (omega arith) (All-head Q x xs all))
    (from-all P Q each (place + 1) xs (omega arith) (All-tail Q x xs all))

from-length : (place : ℕ) (xs : List AccountRow) → length (displayed_from place xs) ≡ length xs
from-length place [] = refl
from-length place (x ∷ xs) = let e = from-length (place + 1) xs in omega arith

passing-one : {A : Type 0} (P : A → Type 0) (p : A → Bool) (b : Bool) (x : A) (xs : List A) → p x ≡ b → P x
    → All (λ y. P y × (p y ≡ true)) xs → All (λ y. P y × (p y ≡ true)) (cond b (x ∷ xs) xs)
passing-one P p true x xs is here rest = All-cons (λ y. P y × (p y ≡ true)) x xs (here, is) rest
passing-one P p false x xs is here rest = rest

passing : {A : Type 0} (P : A → Type 0) (p : A → Bool) (xs : List A) → All P xs
    → All (λ y. P y × (p y ≡ true)) (filter p xs)
passing P p [] all = All-nil (λ y. P y × (p y ≡ true))
passing P p (x ∷ xs) all =
    passing-one P p (p x) x (filter p xs) refl (All-head P x xs all) (passing P p xs (All-tail P x xs all))

good-displayed : EachIsGood → (r : Lists) (arm : DisplayArm) (domain : ℕ) → IsSoundRows r
    → All (λ a. IsGoodAccount r a × (is_displayed arm domain a ≡ true)) (filter (is_displayed arm domain) r.accounts)
good-displayed each r arm domain sound =
    passing (IsGoodAccount r) (is_displayed arm domain) r.accounts (accounts-good each r sound)

-- ---- a page of them

abbrev on-page : ℕ → ℕ → ℕ → List DisplayRow → List DisplayRow
on-page index count preferred xs = page display_cost preferred (take count (drop index xs))

page-short : (index count preferred : ℕ) (xs : List DisplayRow) → length (on-page index count preferred xs) ≤ length xs
page-short index count preferred xs =
    let few = page-few display_cost preferred (take count (drop index xs)) in
    let taken = length-take count (drop index xs) in
    let dropped = length-drop index xs in
    omega arith

display-short : (r : Lists) (arm : DisplayArm) (domain : ℕ)
    → length (displayed_from 1 (filter (is_displayed arm domain) r.accounts)) ≤ length r.accounts
display-short r arm domain =
    let same = from-length 1 (filter (is_displayed arm domain) r.accounts) in
    let few = filter-few (is_displayed arm domain) r.accounts in
    omega arith

page-listed : EachIsGood → (r : Lists) (P : DisplayRow → Type 0) (arm : DisplayArm) (domain index count preferred : ℕ)
    → HasRoom r 0 → IsSoundRows r
    → ((place : ℕ) (a : AccountRow) → place < 2 ^ 32 → IsGoodAccount r a × (is_displayed arm domain a ≡ true)
    → P (displayed place a))
    → IsListed P (on-page index count preferred (display_of (Some arm) domain r))
page-listed each r P arm domain index count preferred few sound shaped =
    let all = displayed_from 1 (filter (is_displayed arm domain) r.accounts) in
    let short = page-short index count preferred all in
    let most = display-short r arm domain in
    let fewer = filter-few (is_displayed arm domain) r.accounts in
    let room = few.accounts in (
      omega arith,
      page-all P display_cost preferred (take count (drop index all))
          (All-take P count (drop index all)
          (All-drop P index all
          (from-all P (λ a. IsGoodAccount r a × (is_displayed arm domain a ≡ true)) shaped 1
          (filter (is_displayed arm domain) r.accounts) (omega arith) (good-displayed each r arm domain sound)))),
    )

none-displayed : (index count preferred : ℕ) → on-page index count preferred [] ≡ []
none-displayed index count preferred =
    ap (λ xs. page display_cost preferred (take count xs)) (drop-nil index)
    ∙ ap (λ xs. page display_cost preferred xs) (take-nil count)

arm-shaped : EachIsGood → (r : Lists) (arm : Option DisplayArm) (domain index count preferred : ℕ) → HasRoom r 0
    → IsSoundRows r → AreDisplayed arm (on-page index count preferred (display_of arm domain r))
arm-shaped each r None domain index count preferred few sound = none-displayed index count preferred
arm-shaped each r (Some display.User) domain index count preferred few sound =
    page-listed each r IsDisplayedUser display.User domain index count preferred few sound
    (λ place a long good. user-shaped r sound place a long good.0)
arm-shaped each r (Some display.Group) domain index count preferred few sound =
    page-listed each r IsDisplayedGroup display.Group domain index count preferred few sound
    (group-shaped r sound domain)

-- ---- the operation

count-long : (n : ℕ) → IsLong (as_count n)
count-long n = omega arith

class-short : (a : Args) → AreSearchArgs search.Display a → class_of a < 2 ^ 16
class-short (args.Display class index count preferred) are = are.0
class-short _ are = absurd are

abbrev left-of : Lists → Object → Args → List DisplayRow
left-of r object asked = drop (asked_index asked) (display_of (display_arm (class_of asked)) (domain_of object) r)

abbrev page-of : Lists → Object → Args → List DisplayRow
page-of r object asked = page display_cost (asked_length asked) (take (asked_count asked) (left-of r object asked))

pub query_display-right : EachIsGood → IsRight query_display_information
unfolding HasShape samr_layout lsa_layout
query_display-right each = record {
  laid_out = refl;
  refuses = λ r described object asked. refl;
  succeeds = λ r described object asked. page-full (leaves_some (page-of r object asked) (left-of r object asked));
  frugal = λ r described object asked. refl;
  modest = λ r described object asked. refl;
  shaped = λ r described object call few is none. (
    page-long (leaves_some (page-of r object call.args) (left-of r object call.args)),
    (
      class-short call.args (arguments call Samr samr_query_display_information is.face is.opnum is.spelled).1,
      count-long _,
      count-long _,
      arm-shaped each r (display_arm (class_of call.args)) (domain_of object) (asked_index call.args)
          (asked_count call.args) (asked_length call.args) few is.rows,
    ),
    λ refused. refl,
  );
}

-- A page of what is displayed, account by account: what it gives, what that costs, and where it begins.
use Rattle.std.proofs.Common.{◌≡◌, ℕ, ◌+◌, ◌-◌, ◌^◌, ◌<◌, ◌≤◌, nat_lt, Bool, true, false, cond, List, [], ◌∷◌}
use Rattle.std.proofs.Common.{◌++◌, length, take, drop, get_or, Some, refl, sym, ap, subst, ◌∙◌, append_assoc}
use Rattle.std.proofs.Common.{add-zero, zero-add, drop-cons, arith}
use Rattle.std.specs.Prelude.{zero, suc, ◌&&◌, if◌then◌else◌}
use Rattle.std.specs.List.{filter, sum_by}
use Rattle.std.proofs.lemmas.Bool.Decides.{nat_tests}
use Rattle.std.proofs.lemmas.List.{append-nil}
use Rattle.std.proofs.lemmas.List.Sums.{sum_by-cons}
use Rattle.std.proofs.Math.ListN.{drop_of_length-le}
use Rattle.std.proofs.Math.Seq.{take-nil}
use Rattle.acct_calls.specs.declared.calls.Args.{Args}
use Rattle.acct_calls.specs.declared.lists.DisplayRow.{DisplayRow}
use Rattle.acct_calls.specs.declared.replies.Outs.TheVariants as outs
use Rattle.acct_codes.specs.Limits.{most_page}
use Rattle.acct_layouts.specs.declared.classes.DisplayArm.{DisplayArm}
use Rattle.acct_rows.specs.Rows.{Lists}
use Rattle.acct_tables.specs.declared.row.AccountRow.{AccountRow}
use Rattle.acct_rules.specs.Asked.{class_of, asked_index, asked_count, asked_length}
use Rattle.acct_rules.specs.Pages.{page, page_status, leaves_some, has_room, room_behind, preferred_room, given_in}
use Rattle.acct_rules.specs.Planned.{answers, decision}
use Rattle.acct_rules.specs.declared.pages.PageRoom.{PageRoom}
use Rattle.samr_objects.specs.Enumerations.{is_displayed, displayed, displayed_from, display_of, display_cost}
use Rattle.samr_objects.specs.Enumerations.{account_cost, as_count, costs_of, displays, takes_account, with_account}
use Rattle.samr_objects.specs.Enumerations.{left_for, given_on}
use Rattle.samr_objects.specs.declared.displays.DisplayPage.{DisplayPage}
use Rattle.samr_objects.proofs.Listing.{filter-few}

-- ---- the room for one more entry

in-room : {A : Type 0} (cost : A → ℕ) (empty : Bool) (left : ℕ) (x : A) (xs : List A)
    → has_room (cost x) (record { is_empty = empty; left = left }) ≡ true
    → given_in cost (record { is_empty = empty; left = left }) (x ∷ xs)
    ≡ x ∷ given_in cost (room_behind (cost x) (record { is_empty = empty; left = left })) xs
in-room cost true left x xs has = refl
in-room cost false left x xs has = rw has

no-room : {A : Type 0} (cost : A → ℕ) (empty : Bool) (left : ℕ) (x : A) (xs : List A)
    → has_room (cost x) (record { is_empty = empty; left = left }) ≡ false
    → given_in cost (record { is_empty = empty; left = left }) (x ∷ xs) ≡ []
no-room cost true left x xs has = cc
no-room cost false left x xs has = rw has

none-given : {A : Type 0} (cost : A → ℕ) (empty : Bool) (left : ℕ)
    → given_in cost (record { is_empty = empty; left = left }) [] ≡ []
none-given cost true left = refl
none-given cost false left = refl

-- ---- one more account

take-one : {A : Type 0} (n : ℕ) (x : A) (xs : List A) → nat_lt 0 n ≡ true → take n (x ∷ xs) ≡ x ∷ take (n - 1) xs
take-one zero x xs some = cc
take-one (suc n) x xs some = let e : suc n - 1 ≡ n = omega arith in rw e

both : (a b : Bool) → a && b ≡ true → (a ≡ true) × (b ≡ true)
both true b h = (refl, h)
both false b h = cc

-- an account that the page takes is given, and after it what the page with it gives
pub taken : (p : DisplayPage) (a : AccountRow) (rest : List AccountRow) → takes_account p a ≡ true
    → given_on p (a ∷ rest) ≡ displayed (p.place + 1) a ∷ given_on (with_account a p) rest
taken p a rest takes =
    let is = both _ _ takes in
    ap (given_in display_cost p.room) (take-one p.count (displayed (p.place + 1) a) _ is.0)
    ∙ in-room display_cost p.room.is_empty p.room.left (displayed (p.place + 1) a) _ is.1

refused-by : (some : Bool) (p : DisplayPage) (a : AccountRow) (rest : List AccountRow) → nat_lt 0 p.count ≡ some
    → some && has_room (account_cost a) p.room ≡ false → given_on p (a ∷ rest) ≡ []
refused-by false p a rest is refused =
    let none : p.count ≡ 0 = grind (arith, nat_tests) in
    ap (λ n. given_in display_cost p.room (take n (left_for p (a ∷ rest)))) none
    ∙ none-given display_cost p.room.is_empty p.room.left
refused-by true p a rest is refused =
    ap (given_in display_cost p.room) (take-one p.count (displayed (p.place + 1) a) _ is)
    ∙ no-room display_cost p.room.is_empty p.room.left (displayed (p.place + 1) a) _ refused

-- one that it doesn't take is the end of it
pub refused : (p : DisplayPage) (a : AccountRow) (rest : List AccountRow) → takes_account p a ≡ false
    → given_on p (a ∷ rest) ≡ []
refused p a rest none = refused-by (nat_lt 0 p.count) p a rest refl none

pub ended : (p : DisplayPage) → given_on p [] ≡ []
ended p =
    ap (given_in display_cost p.room) (take-nil p.count) ∙ none-given display_cost p.room.is_empty p.room.left

-- ---- what is counted

counted : (r c s : ℕ) → as_count (as_count (r + c) + s) ≡ as_count (r + (c + s))
counted r c s = omega arith

pub still : (n : ℕ) → n < 2 ^ 32 → n ≡ as_count (n + 0)
still n fits = omega arith

-- the place doesn't matter
costs-from : (place : ℕ) (xs : List AccountRow)
    → sum_by display_cost (displayed_from place xs) ≡ sum_by account_cost xs
costs-from place [] = refl
costs-from place (x ∷ xs) =
    sum_by-cons display_cost (displayed place x) (displayed_from (place + 1) xs)
    ∙ ap (λ n. account_cost x + n) (costs-from (place + 1) xs)
    ∙ sym (sum_by-cons account_cost x xs)

-- ---- the accounts that are left

next-by : (b : Bool) (x : AccountRow) (ys : List AccountRow) → b ≡ true → cond b (x ∷ ys) ys ≡ x ∷ ys
next-by true x ys is = refl
next-by false x ys is = cc

pub at-place : (xs : List AccountRow) (place : ℕ) (x : AccountRow) → place < length xs → x ≡ get_or xs place x
    → drop place xs ≡ x ∷ drop (place + 1) xs
at-place xs place x within is =
    let e : suc place ≡ place + 1 = omega arith in
    drop-cons xs place x within ∙ ap (λ y. y ∷ drop (suc place) xs) (sym is) ∙ ap (λ n. x ∷ drop n xs) e

-- one that is displayed stands before those after it
pub shown-next : (p : AccountRow → Bool) (xs : List AccountRow) (place : ℕ) (x : AccountRow) → place < length xs
    → x ≡ get_or xs place x → p x ≡ true → filter p (drop place xs) ≡ x ∷ filter p (drop (place + 1) xs)
shown-next p xs place x within is shown =
    ap (filter p) (at-place xs place x within is) ∙ next-by (p x) x (filter p (drop (place + 1) xs)) shown

-- and another doesn't
pub hidden-next : (p : AccountRow → Bool) (xs : List AccountRow) (place : ℕ) (x : AccountRow) → place < length xs
    → x ≡ get_or xs place x → p x ≡ false → filter p (drop place xs) ≡ filter p (drop (place + 1) xs)
hidden-next p xs place x within is hidden =
    ap (filter p) (at-place xs place x within is)
    ∙ ap (λ b. cond b (x ∷ filter p (drop (place + 1) xs)) (filter p (drop (place + 1) xs))) hidden

pub none-next : (p : AccountRow → Bool) (xs : List AccountRow) (place : ℕ) → length xs ≤ place
    → filter p (drop place xs) ≡ []
none-next p xs place over = ap (filter p) (drop_of_length-le xs over)

-- ---- the accounts that are passed over

pub passes-shown : (before after : ℕ) (x : AccountRow) (ys zs : List AccountRow) → zs ≡ x ∷ ys → suc after ≡ before
    → drop after ys ≡ drop before zs
passes-shown before after x ys zs is one = ap (λ n. drop n (x ∷ ys)) one ∙ ap (drop before) (sym is)

-- ---- a page that goes on

-- what a page has and gives of the accounts that are left is what another has and gives of all
pub record Goes (p : DisplayPage) (left : List AccountRow) (fn : DisplayPage) (all : List AccountRow) : Type 0 where
  -- there is a place of 32 bits for each of them
  pub places : p.place + length left < 2 ^ 32
  pub room : p.room.left ≤ most_page
  pub fits : p.returned < 2 ^ 32
  pub given : p.entries ++ given_on p left ≡ fn.entries ++ given_on fn all
  pub returned : as_count (p.returned + sum_by display_cost (given_on p left))
      ≡ as_count (fn.returned + sum_by display_cost (given_on fn all))
  pub more : leaves_some (given_on p left) (left_for p left) ≡ leaves_some (given_on fn all) (left_for fn all)

pub begins : (shown : AccountRow → Bool) (p : DisplayPage) (xs : List AccountRow) → p.place + length xs < 2 ^ 32
    → p.room.left ≤ most_page → p.returned < 2 ^ 32 → Goes p (filter shown xs) p (filter shown xs)
begins shown p xs places room fits = record {
  places = omega (arith, filter-few shown xs);
  room = room;
  fits = fits;
  given = refl;
  returned = refl;
  more = refl;
}

less-room : (c : ℕ) (has : Bool) (room : PageRoom) → room.left ≤ most_page
    → (cond has (record { is_empty = false; left = room.left - c }) room).left ≤ most_page
less-room c true room few = omega arith
less-room c false room few = few

same-more : (x : DisplayRow) (given left : List DisplayRow)
    → leaves_some given left ≡ leaves_some (x ∷ given) (x ∷ left)
same-more x given left = grind (arith, nat_tests)

gives-one : (p : DisplayPage) (a : AccountRow) (rest : List AccountRow) (fn : DisplayPage) (all : List AccountRow)
    → takes_account p a ≡ true → Goes p (a ∷ rest) fn all → Goes (with_account a p) rest fn all
gives-one p a rest fn all takes goes =
    let next = displayed (p.place + 1) a in
    let given = given_on (with_account a p) rest in
    let is : given_on p (a ∷ rest) ≡ next ∷ given = taken p a rest takes in
    record {
      places = let fits : p.place + length (a ∷ rest) < 2 ^ 32 = goes.places in omega arith;
      room = less-room (account_cost a) (has_room (account_cost a) p.room) p.room goes.room;
      fits = omega arith;
      given =
          append_assoc p.entries (next ∷ []) given ∙ ap (λ ys. p.entries ++ ys) (sym is) ∙ goes.given;
      returned =
          counted p.returned (account_cost a) (sum_by display_cost given)
          ∙ ap (λ n. as_count (p.returned + n)) (sym (sum_by-cons display_cost next given))
          ∙ ap (λ ys. as_count (p.returned + sum_by display_cost ys)) (sym is) ∙ goes.returned;
      more =
          same-more next given (left_for (with_account a p) rest)
          ∙ ap (λ ys. leaves_some ys (left_for p (a ∷ rest))) (sym is) ∙ goes.more;
    }

-- what is left of a page that gives no more, and whether there is more after it
pub record Ends (p fn : DisplayPage) (all : List AccountRow) (is_left : Bool) : Type 0 where
  pub given : p.entries ≡ fn.entries ++ given_on fn all
  pub returned : p.returned ≡ as_count (fn.returned + sum_by display_cost (given_on fn all))
  pub more : is_left ≡ leaves_some (given_on fn all) (left_for fn all)

ends-by : (p fn : DisplayPage) (left all : List AccountRow) (more : Bool) → Goes p left fn all → given_on p left ≡ []
    → more ≡ leaves_some [] (left_for p left) → Ends p fn all more
ends-by p fn left all more goes none is = record {
  given = sym (append-nil p.entries) ∙ ap (λ ys. p.entries ++ ys) (sym none) ∙ goes.given;
  returned =
      still p.returned goes.fits ∙ ap (λ ys. as_count (p.returned + sum_by display_cost ys)) (sym none) ∙ goes.returned;
  more = is ∙ ap (λ ys. leaves_some ys (left_for p left)) (sym none) ∙ goes.more;
}

some-left : (x : DisplayRow) (xs : List DisplayRow) → true ≡ leaves_some [] (x ∷ xs)
some-left x xs = grind (arith, nat_tests)

stops-at : (p : DisplayPage) (a : AccountRow) (rest : List AccountRow) (fn : DisplayPage) (all : List AccountRow)
    → takes_account p a ≡ false → Goes p (a ∷ rest) fn all → Ends p fn all true
stops-at p a rest fn all none goes =
    ends-by p fn (a ∷ rest) all true goes (refused p a rest none)
    (some-left (displayed (p.place + 1) a) (displayed_from (p.place + 1 + 1) rest))

ends : (p fn : DisplayPage) (all : List AccountRow) → Goes p [] fn all → Ends p fn all false
ends p fn all goes = ends-by p fn [] all false goes (ended p) refl

-- ---- the same at a place of all accounts

module _ (shown : AccountRow → Bool) (xs : List AccountRow) (place : ℕ) (x : AccountRow) (p fn : DisplayPage) where
  -- there is a place for an account that is displayed
  pub has-place : place < length xs → x ≡ get_or xs place x → shown x ≡ true
      → Goes p (filter shown (drop place xs)) fn (filter shown xs) → p.place + 1 < 2 ^ 32
  has-place within is so goes =
      let next : length (filter shown (drop place xs)) ≡ suc (length (filter shown (drop (place + 1) xs))) =
      ap length (shown-next shown xs place x within is so) in
      let places = goes.places in
      omega arith

  pub gives : (new : DisplayPage) (given : Bool) → place < length xs → x ≡ get_or xs place x → shown x ≡ true
      → given ≡ takes_account p x → given ≡ true → new ≡ (if given then with_account x p else p)
      → Goes p (filter shown (drop place xs)) fn (filter shown xs)
      → Goes new (filter shown (drop (place + 1) xs)) fn (filter shown xs)
  gives new given within is so takes taken-one put goes =
      let rest = filter shown (drop (place + 1) xs) in
      let with-x : new ≡ with_account x p = put ∙ ap (λ (b : Bool). if b then with_account x p else p) taken-one in
      subst (λ (q : DisplayPage). Goes q rest fn (filter shown xs)) (sym with-x)
      (gives-one p x rest fn (filter shown xs) (sym takes ∙ taken-one)
      (subst (λ ys. Goes p ys fn (filter shown xs)) (shown-next shown xs place x within is so) goes))

  pub stops : (new : DisplayPage) (given : Bool) → place < length xs → x ≡ get_or xs place x → shown x ≡ true
      → given ≡ takes_account p x → given ≡ false → new ≡ (if given then with_account x p else p)
      → Goes p (filter shown (drop place xs)) fn (filter shown xs) → Ends new fn (filter shown xs) true
  stops new given within is so takes none-taken put goes =
      let as-was : new ≡ p = put ∙ ap (λ (b : Bool). if b then with_account x p else p) none-taken in
      subst (λ (q : DisplayPage). Ends q fn (filter shown xs) true) (sym as-was)
      (stops-at p x (filter shown (drop (place + 1) xs)) fn (filter shown xs) (sym takes ∙ none-taken)
      (subst (λ ys. Goes p ys fn (filter shown xs)) (shown-next shown xs place x within is so) goes))

  pub passes : (new : DisplayPage) → place < length xs → x ≡ get_or xs place x → shown x ≡ false → new ≡ p
      → Goes p (filter shown (drop place xs)) fn (filter shown xs)
      → Goes new (filter shown (drop (place + 1) xs)) fn (filter shown xs)
  passes new within is so same goes =
      subst (λ (q : DisplayPage). Goes q (filter shown (drop (place + 1) xs)) fn (filter shown xs)) (sym same)
      (subst (λ ys. Goes p ys fn (filter shown xs)) (hidden-next shown xs place x within is so) goes)

pub ends-behind : (shown : AccountRow → Bool) (xs : List AccountRow) (place : ℕ) (p fn : DisplayPage)
    → length xs ≤ place → Goes p (filter shown (drop place xs)) fn (filter shown xs)
    → Ends p fn (filter shown xs) false
ends-behind shown xs place p fn over goes =
    ends p fn (filter shown xs) (subst (λ ys. Goes p ys fn (filter shown xs)) (none-next shown xs place over) goes)

-- ---- where a page begins, and what is decided

behind : (index place : ℕ) (xs : List AccountRow)
    → displayed_from (place + index) (drop index xs) ≡ drop index (displayed_from place xs)
behind zero place xs = ap (λ n. displayed_from n xs) (add-zero place)
behind (suc index) place [] = refl
behind (suc index) place (x ∷ xs) =
    ap (λ n. displayed_from n (drop index xs)) (let e : place + suc index ≡ place + 1 + index = omega arith in e)
    ∙ behind index (place + 1) xs

left-is : (p : DisplayPage) (index : ℕ) (xs left : List AccountRow) → p.place ≡ index → left ≡ drop index xs
    → left_for p left ≡ drop index (displayed_from 1 xs)
left-is p index xs left at is =
    ap (λ ys. displayed_from (p.place + 1) ys) is
    ∙ ap (λ n. displayed_from n (drop index xs)) (let e : p.place + 1 ≡ 1 + index = omega arith in e)
    ∙ behind index 1 xs

given-is : (p : DisplayPage) (preferred count : ℕ) (xs : List AccountRow) (left : List DisplayRow)
    → p.room ≡ preferred_room preferred → p.count ≡ count → left_for p xs ≡ left
    → given_on p xs ≡ page display_cost preferred (take count left)
given-is p preferred count xs left room asked is =
    ap (λ r. given_in display_cost r (take p.count (left_for p xs))) room
    ∙ ap (λ n. page display_cost preferred (take n (left_for p xs))) asked
    ∙ ap (λ ys. page display_cost preferred (take count ys)) is

-- a page that was filled of the accounts that are left is what the rule plans
pub fills : (r : Lists) (domain : ℕ) (asked : Args) (arm : DisplayArm) (left : List AccountRow) (p new : DisplayPage)
    (total : ℕ) (more : Bool)
    → left ≡ drop (asked_index asked) (filter (is_displayed arm domain) r.accounts)
    → p.entries ≡ [] → p.room ≡ preferred_room (asked_length asked) → p.place ≡ asked_index asked
    → p.count ≡ asked_count asked → p.returned ≡ 0 → Ends new p left more
    → total ≡ as_count (sum_by account_cost left)
    → answers (page_status more) (outs.Display (class_of asked) total new.returned new.entries)
    ≡ decision (displays (Some arm) r domain asked)
fills r domain asked arm left p new total more is empty room place count none ends sum =
    let all = drop (asked_index asked) (display_of (Some arm) domain r) in
    let given = page display_cost (asked_length asked) (take (asked_count asked) all) in
    let left-all : left_for p left ≡ all =
    left-is p (asked_index asked) (filter (is_displayed arm domain) r.accounts) left place is in
    let same : given_on p left ≡ given =
    given-is p (asked_length asked) (asked_count asked) left all room count left-all in
    let entries : new.entries ≡ given =
    ends.given ∙ ap (λ ys. ys ++ given_on p left) empty ∙ same in
    let returned : new.returned ≡ costs_of given =
    ends.returned ∙ ap (λ n. as_count (n + sum_by display_cost (given_on p left))) none
    ∙ ap as_count (zero-add (sum_by display_cost (given_on p left))) ∙ ap costs_of same in
    let totals : total ≡ costs_of all =
    sum ∙ ap as_count (sym (costs-from (p.place + 1) left)) ∙ ap costs_of left-all in
    let status : more ≡ leaves_some given all =
    ends.more ∙ ap (λ ys. leaves_some ys (left_for p left)) same ∙ ap (leaves_some given) left-all in
    ap (λ b. answers (page_status b) (outs.Display (class_of asked) total new.returned new.entries)) status
    ∙ ap (λ n. answers (page_status (leaves_some given all)) (outs.Display (class_of asked) n new.returned new.entries))
    totals
    ∙ ap
    (λ n. answers (page_status (leaves_some given all)) (outs.Display (class_of asked) (costs_of all) n new.entries))
    returned
    ∙ ap
    (λ ys. answers (page_status (leaves_some given all))
    (outs.Display (class_of asked) (costs_of all) (costs_of given) ys))
    entries

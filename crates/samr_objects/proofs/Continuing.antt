-- An enumeration of accounts goes on after a page with what the page didn't give.
use Rattle.std.proofs.Common.{◌≡◌, ℕ, ◌+◌, ◌-◌, ◌<◌, ◌≤◌, Bool, true, false, cond, List, [], ◌∷◌, ◌++◌, length, map}
use Rattle.std.proofs.Common.{refl, sym, ap, subst, ◌∙◌, append_assoc, length-append, arith}
use Rattle.std.specs.Prelude.{◌&&◌, nat_lt, nat_le, min}
use Rattle.std.specs.Cmp.{first_so, second_so}
use Rattle.std.specs.List.{filter}
use Rattle.std.specs.Ordering.{is_lt}
use Rattle.std.proofs.lemmas.Bool.Decides.{nat_tests}
use Rattle.acct_calls.specs.declared.lists.RidName.{RidName}
use Rattle.acct_codes.specs.Limits.{most_page}
use Rattle.acct_tables.specs.KeyedRows.{compare, below_all, is_ascending}
use Rattle.acct_rows.specs.Rows.{Lists}
use Rattle.acct_tables.specs.Keys.{account_key}
use Rattle.acct_rows.specs.Sound.{IsSoundRows}
use Rattle.acct_tables.specs.declared.row.AccountRow.{AccountRow}
use Rattle.acct_rules.specs.Pages.{within, page, page_status, entry_cost, last_rid}
use Rattle.samr_objects.specs.Enumerations.{is_wanted, entry_of, left_of}
use Rattle.samr_objects.specs.Laws.{given_of, later, given_of_all, later_than_all, GoesOn}
use Rattle.samr_objects.specs.declared.enumerations.Wanted.{Wanted}

-- ---- accounts by ascending RID

abbrev above : ℕ → AccountRow → Bool
above rid a = nat_lt rid a.rid

abbrev Rising : ℕ → List AccountRow → Type 0
Rising rid [] = Unit {0}
Rising rid (x ∷ xs) = (rid < x.rid) × Rising x.rid xs

-- of two accounts of a domain the one with the lower key has the lower RID
lower : (d r e s : ℕ) → e ≡ d → is_lt (compare (d ∷ r ∷ []) (e ∷ s ∷ [])) ≡ true → r < s
lower d r e s same less = grind (arith, nat_tests)

wanted-domain : (w : Wanted) (a : AccountRow) → is_wanted w a ≡ true → a.domain ≡ w.domain
wanted-domain w a is = grind (arith, nat_tests)

wanted-above : (w : Wanted) (a : AccountRow) → is_wanted w a ≡ true → w.behind < a.rid
wanted-above w a is = grind (arith, nat_tests)

rising-one : (w : Wanted) (rid : ℕ) (b : Bool) (x : AccountRow) (xs : List AccountRow) → is_wanted w x ≡ b
    → (is_wanted w x ≡ true → rid < x.rid) → (is_wanted w x ≡ true → Rising x.rid xs) → Rising rid xs
    → Rising rid (cond b (x ∷ xs) xs)
rising-one w rid true x xs is here behind rest = (here is, behind is)
rising-one w rid false x xs is here behind rest = rest

rising-by : (w : Wanted) (rid : ℕ) (xs : List AccountRow) → is_ascending account_key xs ≡ true
    → below_all account_key (w.domain ∷ rid ∷ []) xs ≡ true → Rising rid (filter (is_wanted w) xs)
rising-by w rid [] ascending below = tt
rising-by w rid (x ∷ xs) ascending below =
    rising-one w rid (is_wanted w x) x (filter (is_wanted w) xs) refl
    (λ is. lower w.domain rid x.domain x.rid (wanted-domain w x is) (first_so _ _ below))
    (λ is. rising-by w x.rid xs (second_so _ _ ascending)
    (subst (λ d. below_all account_key (d ∷ x.rid ∷ []) xs ≡ true) (wanted-domain w x is) (first_so _ _ ascending)))
    (rising-by w rid xs (second_so _ _ ascending) (second_so _ _ below))

rising : (w : Wanted) (xs : List AccountRow) → is_ascending account_key xs ≡ true
    → Rising w.behind (filter (is_wanted w) xs)
rising w [] ascending = tt
rising w (x ∷ xs) ascending =
    rising-one w w.behind (is_wanted w x) x (filter (is_wanted w) xs) refl
    (λ is. wanted-above w x is)
    (λ is. rising-by w x.rid xs (second_so _ _ ascending)
    (subst (λ d. below_all account_key (d ∷ x.rid ∷ []) xs ≡ true) (wanted-domain w x is) (first_so _ _ ascending)))
    (rising w xs (second_so _ _ ascending))

-- ---- what is left after a RID

-- accounts that are wanted after a higher RID are those above it that were wanted before
fewer : (b c r : ℕ) (p q : Bool) → b ≤ c
    → ((p && nat_lt c r) && q) ≡ (((p && nat_lt b r) && q) && nat_lt c r)
fewer b c r p q least = grind (arith, nat_tests)

narrowed-one : (p q m : Bool) (x : AccountRow) (xs ys : List AccountRow) (c : ℕ) → p ≡ (q && m) → above c x ≡ m
    → xs ≡ filter (above c) ys → cond p (x ∷ xs) xs ≡ filter (above c) (cond q (x ∷ ys) ys)
narrowed-one p true m x xs ys c is at rest = rw (is, at) (ap (λ (zs : List AccountRow). cond m (x ∷ zs) zs) rest)
narrowed-one p false m x xs ys c is at rest = rw is rest

narrowed : (w : Wanted) (c : ℕ) (xs : List AccountRow) → w.behind ≤ c
    → filter (is_wanted (record w { behind = c })) xs ≡ filter (above c) (filter (is_wanted w) xs)
narrowed w c [] least = refl
narrowed w c (x ∷ xs) least =
    narrowed-one _ (is_wanted w x) (above c x) x _ (filter (is_wanted w) xs) c
    (fewer w.behind c x.rid _ _ least) refl (narrowed w c xs least)

all-above : (c : ℕ) (b : ℕ) (xs : List AccountRow) → c ≤ b → Rising b xs → filter (above c) xs ≡ xs
all-above c b [] least rises = refl
all-above c b (x ∷ xs) least rises =
    let is : above c x ≡ true = grind (arith, nat_tests, rises.0) in
    rw is (ap (λ (zs : List AccountRow). x ∷ zs) (all-above c x.rid xs (omega (arith, rises.0)) rises.1))

-- ---- the last RID of a page

abbrev lefts : ℕ → List AccountRow → List RidName
lefts left xs = within entry_cost left (map entry_of xs)

last-one : (b : Bool) (c left : ℕ) (x : AccountRow) (given : List RidName) → c < x.rid
    → x.rid ≤ last_rid x.rid given → c ≤ last_rid c (cond b (entry_of x ∷ given) [])
last-one true c left x given under most = omega arith
last-one false c left x given under most = omega arith

last-least : (c left : ℕ) (xs : List AccountRow) → Rising c xs → c ≤ last_rid c (lefts left xs)
last-least c left [] rises = omega arith
last-least c left (x ∷ xs) rises =
    last-one (nat_le (entry_cost (entry_of x)) left) c left x (lefts (left - entry_cost (entry_of x)) xs) rises.0
    (last-least x.rid (left - entry_cost (entry_of x)) xs rises.1)

-- ---- a page, and what is left after it

abbrev behind : ℕ → List AccountRow → List RidName
behind c xs = map entry_of (filter (above c) xs)

-- an account that was given isn't above the last one
given-one : (c : ℕ) (x : AccountRow) (xs : List AccountRow) (given : List RidName) → x.rid ≤ last_rid x.rid given
    → map entry_of xs ≡ given ++ behind (last_rid x.rid given) xs
    → map entry_of (x ∷ xs) ≡ (entry_of x ∷ given) ++ behind (last_rid x.rid given) (x ∷ xs)
given-one c x xs given least rest =
    let not-above : above (last_rid x.rid given) x ≡ false = grind (arith, nat_tests) in
    rw not-above (ap (λ (zs : List RidName). entry_of x ∷ zs) rest)

parted-one : (b : Bool) (c : ℕ) (x : AccountRow) (xs : List AccountRow) (given : List RidName) → Rising c (x ∷ xs)
    → x.rid ≤ last_rid x.rid given → map entry_of xs ≡ given ++ behind (last_rid x.rid given) xs
    → map entry_of (x ∷ xs) ≡ cond b (entry_of x ∷ given) []
    ++ behind (last_rid c (cond b (entry_of x ∷ given) [])) (x ∷ xs)
parted-one true c x xs given rises least rest = given-one c x xs given least rest
parted-one false c x xs given rises least rest =
    ap (map entry_of) (sym (all-above c c (x ∷ xs) (omega arith) rises))

parted : (c left : ℕ) (xs : List AccountRow) → Rising c xs
    → map entry_of xs ≡ lefts left xs ++ behind (last_rid c (lefts left xs)) xs
parted c left [] rises = refl
parted c left (x ∷ xs) rises =
    parted-one (nat_le (entry_cost (entry_of x)) left) c x xs (lefts (left - entry_cost (entry_of x)) xs) rises
    (last-least x.rid (left - entry_cost (entry_of x)) xs rises.1)
    (parted x.rid (left - entry_cost (entry_of x)) xs rises.1)

-- and so with a whole page
abbrev paged : ℕ → List AccountRow → List RidName
paged preferred xs = page entry_cost preferred (map entry_of xs)

page-least : (c preferred : ℕ) (xs : List AccountRow) → Rising c xs → c ≤ last_rid c (paged preferred xs)
page-least c preferred [] rises = omega arith
page-least c preferred (x ∷ xs) rises =
    let least = last-least x.rid (min preferred most_page - entry_cost (entry_of x)) xs rises.1 in
    let under = rises.0 in
    omega arith

page-parted : (c preferred : ℕ) (xs : List AccountRow) → Rising c xs
    → map entry_of xs ≡ paged preferred xs ++ behind (last_rid c (paged preferred xs)) xs
page-parted c preferred [] rises = refl
page-parted c preferred (x ∷ xs) rises =
    let left = min preferred most_page - entry_cost (entry_of x) in
    given-one c x xs (lefts left xs) (last-least x.rid left xs rises.1) (parted x.rid left xs rises.1)

-- ---- the enumeration

rises : (w : Wanted) (r : Lists) → IsSoundRows r → Rising w.behind (filter (is_wanted w) r.accounts)
rises w r sound = rising w r.accounts sound.accounts_ascend

one-page : (w : Wanted) (r : Lists) (preferred : ℕ) → IsSoundRows r
    → left_of w r ≡ given_of w preferred r ++ left_of (later w preferred r) r
one-page w r preferred sound =
    page-parted w.behind preferred (filter (is_wanted w) r.accounts) (rises w r sound)
    ∙ ap (λ (xs : List AccountRow). given_of w preferred r ++ map entry_of xs)
    (sym (narrowed w (last_rid w.behind (given_of w preferred r)) r.accounts
    (page-least w.behind preferred (filter (is_wanted w) r.accounts) (rises w r sound))))

all-pages : (w : Wanted) (r : Lists) (preferred : List ℕ) → IsSoundRows r
    → left_of w r ≡ given_of_all w preferred r ++ left_of (later_than_all w preferred r) r
all-pages w r [] sound = refl
all-pages w r (preferred ∷ rest) sound =
    one-page w r preferred sound
    ∙ ap (λ (xs : List RidName). given_of w preferred r ++ xs) (all-pages (later w preferred r) r rest sound)
    ∙ sym (append_assoc (given_of w preferred r) (given_of_all (later w preferred r) rest r) _)

none-left : (preferred : ℕ) (xs : List RidName) → page entry_cost preferred xs ≡ [] → xs ≡ []
none-left preferred [] none = refl
none-left preferred (x ∷ xs) none = cc

counted : (left given more : List RidName) → left ≡ given ++ more
    → nat_lt (length given) (length left) ≡ nat_lt 0 (length more)
counted left given more is =
    let sum : length left ≡ length given + length more = ap length is ∙ length-append given more in
    grind (arith, nat_tests)

pub goes-on : (w : Wanted) (r : Lists) → IsSoundRows r → GoesOn w r
goes-on w r sound = record {
  once = λ preferred. all-pages w r preferred sound;
  empty = λ preferred none. none-left preferred (left_of w r) none;
  more = λ preferred.
      ap page_status (counted (left_of w r) (given_of w preferred r) (left_of (later w preferred r) r)
      (one-page w r preferred sound));
}

-- An enumeration goes on after a page with what the page didn't give.
use Rattle.std.proofs.Common.{◌≡◌, ℕ, ◌+◌, ◌-◌, ◌<◌, ◌≤◌, Bool, true, false, cond, List, [], ◌∷◌, ◌++◌, length, map}
use Rattle.std.proofs.Common.{drop}
use Rattle.std.proofs.Common.{suc, zero, refl, sym, ap, ◌∙◌, append_assoc, length-append, arith}
use Rattle.std.specs.Prelude.{◌&&◌, nat_lt, nat_le, min}
use Rattle.std.specs.Cmp.{first_so, second_so}
use Rattle.std.specs.List.{filter}
use Rattle.std.proofs.lemmas.Bool.Decides.{nat_tests}
use Rattle.std.proofs.lemmas.List.{drop-drop}
use Rattle.acct_calls.specs.declared.lists.RidName.{RidName}
use Rattle.acct_codes.specs.Limits.{most_page}
use Rattle.acct_rows.specs.Rows.{Lists}
use Rattle.acct_rules.specs.Asked.{asked_context, asked_length}
use Rattle.acct_rules.specs.Pages.{within, page, entry_cost, last_rid}
use Rattle.dtyp_sid.specs.Sids.{SidValue}
use Rattle.lsad_rights.specs.Laws.{privileges_given, privilege_context, privileges_given_of_all}
use Rattle.lsad_rights.specs.Laws.{privilege_context_of_all, accounts_given, account_context, accounts_given_of_all}
use Rattle.lsad_rights.specs.Laws.{account_context_of_all, EnumerationsGoOn}
use Rattle.lsad_rights.specs.Listings.{given_status, entry_of, is_behind, privileges_left, sid_of_row, sid_cost}
use Rattle.lsad_rights.specs.Listings.{accounts_left}
use Rattle.lsad_rights.specs.Rights.{privilege_row, low_of, privileges}
use Rattle.lsad_rights.specs.declared.privileges.KnownPrivilege.{KnownPrivilege}

-- ---- privileges by ascending LUID

abbrev Rising : ℕ → List KnownPrivilege → Type 0
Rising low [] = Unit {0}
Rising low (p ∷ ps) = (low < low_of p) × Rising (low_of p) ps

abbrev rises : ℕ → List KnownPrivilege → Bool
rises low [] = true
rises low (p ∷ ps) = nat_lt low (low_of p) && rises (low_of p) ps

rising : (low : ℕ) (ps : List KnownPrivilege) → rises low ps ≡ true → Rising low ps
rising low [] is = tt
rising low (p ∷ ps) is =
    let higher : nat_lt low (low_of p) ≡ true = first_so _ _ is in
    (grind (arith, nat_tests), rising (low_of p) ps (second_so _ _ is))

privileges-rise : rises 0 privileges ≡ true
unfolding privileges privilege_row
privileges-rise = refl

lowered : (low least : ℕ) (ps : List KnownPrivilege) → least ≤ low → Rising low ps → Rising least ps
lowered low least [] under up = tt
lowered low least (p ∷ ps) under up = (omega (arith, up.0), up.1)

kept-one : (b : Bool) (low c : ℕ) (p : KnownPrivilege) (ps : List KnownPrivilege) → low < low_of p
    → Rising (low_of p) ps → Rising low (cond b (p ∷ ps) ps)
kept-one true low c p ps under up = (under, up)
kept-one false low c p ps under up = lowered (low_of p) low ps (omega arith) up

kept : (low c : ℕ) (ps : List KnownPrivilege) → Rising low ps → Rising low (filter (is_behind c) ps)
kept low c [] up = tt
kept low c (p ∷ ps) up = kept-one (is_behind c p) low c p (filter (is_behind c) ps) up.0 (kept (low_of p) c ps up.1)

behind-one : (b : Bool) (c : ℕ) (p : KnownPrivilege) (ps : List KnownPrivilege) → is_behind c p ≡ b
    → Rising (low_of p) ps → Rising c ps → Rising c (cond b (p ∷ ps) ps)
behind-one true c p ps is up rest = (grind (arith, nat_tests), up)
behind-one false c p ps is up rest = rest

behind-rises : (low c : ℕ) (ps : List KnownPrivilege) → Rising low ps → Rising c (filter (is_behind c) ps)
behind-rises low c [] up = tt
behind-rises low c (p ∷ ps) up =
    behind-one (is_behind c p) c p (filter (is_behind c) ps) refl (kept (low_of p) c ps up.1)
    (behind-rises (low_of p) c ps up.1)

left-rises : (context : ℕ) → Rising context (filter (is_behind context) privileges)
left-rises context = behind-rises 0 context privileges (rising 0 privileges privileges-rise)

-- ---- what is left after a LUID

narrowed-one : (b d : Bool) (c : ℕ) (p : KnownPrivilege) (ps qs : List KnownPrivilege) → is_behind c p ≡ b
    → (b ≡ true → d ≡ true) → ps ≡ filter (is_behind c) qs
    → cond b (p ∷ ps) ps ≡ filter (is_behind c) (cond d (p ∷ qs) qs)
narrowed-one true true c p ps qs is higher rest = rw is (ap (λ (xs : List KnownPrivilege). p ∷ xs) rest)
narrowed-one true false c p ps qs is higher rest = let no : false ≡ true = higher refl in cc
narrowed-one false true c p ps qs is higher rest = rw is rest
narrowed-one false false c p ps qs is higher rest = rest

-- those after a higher one are those after it among those that were left before
narrowed : (before c : ℕ) (ps : List KnownPrivilege) → before ≤ c
    → filter (is_behind c) ps ≡ filter (is_behind c) (filter (is_behind before) ps)
narrowed before c [] least = refl
narrowed before c (p ∷ ps) least =
    narrowed-one (is_behind c p) (is_behind before p) c p (filter (is_behind c) ps) (filter (is_behind before) ps) refl
    (λ is. grind (arith, nat_tests)) (narrowed before c ps least)

all-behind : (c b : ℕ) (ps : List KnownPrivilege) → c ≤ b → Rising b ps → filter (is_behind c) ps ≡ ps
all-behind c b [] least up = refl
all-behind c b (p ∷ ps) least up =
    let is : is_behind c p ≡ true = grind (arith, nat_tests, up.0) in
    rw is (ap (λ (xs : List KnownPrivilege). p ∷ xs) (all-behind c (low_of p) ps (omega (arith, up.0)) up.1))

-- ---- the last one of a page

abbrev lefts : ℕ → List KnownPrivilege → List RidName
lefts left ps = within entry_cost left (map entry_of ps)

last-one : (b : Bool) (c : ℕ) (p : KnownPrivilege) (given : List RidName) → c < low_of p
    → low_of p ≤ last_rid (low_of p) given → c ≤ last_rid c (cond b (entry_of p ∷ given) [])
last-one true c p given under most = omega arith
last-one false c p given under most = omega arith

last-least : (c left : ℕ) (ps : List KnownPrivilege) → Rising c ps → c ≤ last_rid c (lefts left ps)
last-least c left [] up = omega arith
last-least c left (p ∷ ps) up =
    last-one (nat_le (entry_cost (entry_of p)) left) c p (lefts (left - entry_cost (entry_of p)) ps) up.0
    (last-least (low_of p) (left - entry_cost (entry_of p)) ps up.1)

-- ---- a page of privileges, and what is left after it

abbrev behind : ℕ → List KnownPrivilege → List RidName
behind c ps = map entry_of (filter (is_behind c) ps)

-- a privilege that was given isn't after the last one
given-one : (p : KnownPrivilege) (ps : List KnownPrivilege) (given : List RidName)
    → low_of p ≤ last_rid (low_of p) given → map entry_of ps ≡ given ++ behind (last_rid (low_of p) given) ps
    → map entry_of (p ∷ ps) ≡ (entry_of p ∷ given) ++ behind (last_rid (low_of p) given) (p ∷ ps)
given-one p ps given least rest =
    let not-behind : is_behind (last_rid (low_of p) given) p ≡ false = grind (arith, nat_tests) in
    rw not-behind (ap (λ (xs : List RidName). entry_of p ∷ xs) rest)

parted-one : (b : Bool) (c : ℕ) (p : KnownPrivilege) (ps : List KnownPrivilege) (given : List RidName)
    → Rising c (p ∷ ps) → low_of p ≤ last_rid (low_of p) given
    → map entry_of ps ≡ given ++ behind (last_rid (low_of p) given) ps
    → map entry_of (p ∷ ps) ≡ cond b (entry_of p ∷ given) []
    ++ behind (last_rid c (cond b (entry_of p ∷ given) [])) (p ∷ ps)
parted-one true c p ps given up least rest = given-one p ps given least rest
parted-one false c p ps given up least rest =
    ap (map entry_of) (sym (all-behind c c (p ∷ ps) (omega arith) up))

parted : (c left : ℕ) (ps : List KnownPrivilege) → Rising c ps
    → map entry_of ps ≡ lefts left ps ++ behind (last_rid c (lefts left ps)) ps
parted c left [] up = refl
parted c left (p ∷ ps) up =
    parted-one (nat_le (entry_cost (entry_of p)) left) c p ps (lefts (left - entry_cost (entry_of p)) ps) up
    (last-least (low_of p) (left - entry_cost (entry_of p)) ps up.1)
    (parted (low_of p) (left - entry_cost (entry_of p)) ps up.1)

abbrev paged : ℕ → List KnownPrivilege → List RidName
paged preferred ps = page entry_cost preferred (map entry_of ps)

page-least : (c preferred : ℕ) (ps : List KnownPrivilege) → Rising c ps → c ≤ last_rid c (paged preferred ps)
page-least c preferred [] up = omega arith
page-least c preferred (p ∷ ps) up =
    let least = last-least (low_of p) (min preferred most_page - entry_cost (entry_of p)) ps up.1 in
    let under = up.0 in
    omega arith

page-parted : (c preferred : ℕ) (ps : List KnownPrivilege) → Rising c ps
    → map entry_of ps ≡ paged preferred ps ++ behind (last_rid c (paged preferred ps)) ps
page-parted c preferred [] up = refl
page-parted c preferred (p ∷ ps) up =
    let left = min preferred most_page - entry_cost (entry_of p) in
    given-one p ps (lefts left ps) (last-least (low_of p) left ps up.1) (parted (low_of p) left ps up.1)

one-page : (context preferred : ℕ)
    → privileges_left context
    ≡ privileges_given context preferred ++ privileges_left (privilege_context context preferred)
one-page context preferred =
    page-parted context preferred (filter (is_behind context) privileges) (left-rises context)
    ∙ ap (λ (ps : List KnownPrivilege). privileges_given context preferred ++ map entry_of ps)
    (sym (narrowed context (privilege_context context preferred) privileges
    (page-least context preferred (filter (is_behind context) privileges) (left-rises context))))

all-pages : (context : ℕ) (preferred : List ℕ)
    → privileges_left context
    ≡ privileges_given_of_all context preferred ++ privileges_left (privilege_context_of_all context preferred)
all-pages context [] = refl
all-pages context (preferred ∷ rest) =
    one-page context preferred
    ∙ ap (λ (xs : List RidName). privileges_given context preferred ++ xs)
    (all-pages (privilege_context context preferred) rest)
    ∙ sym (append_assoc (privileges_given context preferred)
    (privileges_given_of_all (privilege_context context preferred) rest) _)

-- ---- a page of accounts, and what is left after it

-- a page is the prefix of what is left
front-one : (b : Bool) (s : SidValue) (given xs : List SidValue) → given ++ drop (length given) xs ≡ xs
    → cond b (s ∷ given) [] ++ drop (length (cond b (s ∷ given) [])) (s ∷ xs) ≡ s ∷ xs
front-one true s given xs is = ap (λ (ys : List SidValue). s ∷ ys) is
front-one false s given xs is = refl

front-within : (left : ℕ) (xs : List SidValue)
    → within sid_cost left xs ++ drop (length (within sid_cost left xs)) xs ≡ xs
front-within left [] = refl
front-within left (s ∷ xs) =
    front-one (nat_le (sid_cost s) left) s (within sid_cost (left - sid_cost s) xs) xs
    (front-within (left - sid_cost s) xs)

front : (preferred : ℕ) (xs : List SidValue)
    → page sid_cost preferred xs ++ drop (length (page sid_cost preferred xs)) xs ≡ xs
front preferred [] = refl
front preferred (s ∷ xs) =
    ap (λ (ys : List SidValue). s ∷ ys) (front-within (min preferred most_page - sid_cost s) xs)

drop-map : {A B : Type 0} (f : A → B) (n : ℕ) (xs : List A) → drop n (map f xs) ≡ map f (drop n xs)
drop-map f zero xs = refl
drop-map f (suc n) [] = refl
drop-map f (suc n) (x ∷ xs) = drop-map f n xs

one-account-page : (r : Lists) (context preferred : ℕ)
    → accounts_left context r
    ≡ accounts_given r context preferred ++ accounts_left (account_context r context preferred) r
one-account-page r context preferred =
    sym (front preferred (accounts_left context r))
    ∙ ap (λ (xs : List SidValue). accounts_given r context preferred ++ xs) (
    drop-map sid_of_row (length (accounts_given r context preferred)) (drop context r.lsa)
    ∙ ap (map sid_of_row) (drop-drop (length (accounts_given r context preferred)) context r.lsa)
    )

all-account-pages : (r : Lists) (context : ℕ) (preferred : List ℕ)
    → accounts_left context r
    ≡ accounts_given_of_all r context preferred ++ accounts_left (account_context_of_all r context preferred) r
all-account-pages r context [] = refl
all-account-pages r context (preferred ∷ rest) =
    one-account-page r context preferred
    ∙ ap (λ (xs : List SidValue). accounts_given r context preferred ++ xs)
    (all-account-pages r (account_context r context preferred) rest)
    ∙ sym (append_assoc (accounts_given r context preferred)
    (accounts_given_of_all r (account_context r context preferred) rest) _)

-- ---- statuses

none-left : {A : Type 0} (cost : A → ℕ) (preferred : ℕ) (xs : List A) → page cost preferred xs ≡ [] → xs ≡ []
none-left cost preferred [] none = refl
none-left cost preferred (x ∷ xs) none = cc

counted : {A : Type 0} (left given more : List A) → left ≡ given ++ more
    → nat_lt (length given) (length left) ≡ nat_lt 0 (length more)
counted left given more is =
    let sum : length left ≡ length given + length more = ap length is ∙ length-append given more in
    grind (arith, nat_tests)

pub go-on : EnumerationsGoOn
go-on = record {
  privileges = all-pages;
  some_privilege = λ context preferred none. none-left entry_cost preferred (privileges_left context) none;
  more_privileges = λ r object asked.
      let context = asked_context asked in
      let preferred = asked_length asked in
      ap (given_status (length (privileges_left context)))
      (counted (privileges_left context) (privileges_given context preferred)
      (privileges_left (privilege_context context preferred)) (one-page context preferred));
  accounts = all-account-pages;
  some_account = λ r context preferred none. none-left sid_cost preferred (accounts_left context r) none;
  more_accounts = λ r object asked.
      let context = asked_context asked in
      let preferred = asked_length asked in
      ap (given_status (length (accounts_left context r)))
      (counted (accounts_left context r) (accounts_given r context preferred)
      (accounts_left (account_context r context preferred) r) (one-account-page r context preferred));
}

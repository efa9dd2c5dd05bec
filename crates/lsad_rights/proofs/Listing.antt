-- Pages of privileges and accounts: how many there are, and that none is given where none is left.
use Rattle.std.proofs.Common.{◌≡◌, ℕ, ◌-◌, ◌≤◌, ◌==◌, Bool, true, false, cond, List, [], ◌∷◌, ◌++◌, length}
use Rattle.std.proofs.Common.{map, drop, refl, sym, ap, ◌∙◌, arith}
use Rattle.std.specs.Prelude.{min, nat_le}
use Rattle.std.proofs.lemmas.Bool.Decides.{nat_tests}
use Rattle.std.proofs.lemmas.List.{length-drop, length-map}
use Rattle.acct_codes.specs.Limits.{most_page}
use Rattle.acct_tables.specs.declared.row.LsaRow.{LsaRow}
use Rattle.acct_rules.specs.Pages.{within, page, preferred_room, given_in}
use Rattle.acct_rules.specs.declared.pages.PageRoom.{PageRoom}
use Rattle.dtyp_sid.specs.Sids.{SidValue}
use Rattle.lsad_rights.specs.Listings.{sid_of_row, sid_cost}

-- ---- how many are given

either-few : {A : Type 0} (b : Bool) (x : A) (given xs : List A) → length given ≤ length xs
    → length (cond b (x ∷ given) []) ≤ length (x ∷ xs)
either-few true x given xs few = omega arith
either-few false x given xs few = omega arith

within-few : {A : Type 0} (cost : A → ℕ) (left : ℕ) (xs : List A) → length (within cost left xs) ≤ length xs
within-few cost left [] = omega arith
within-few cost left (x ∷ xs) = either-few (nat_le (cost x) left) x _ xs (within-few cost (left - cost x) xs)

pub page-few : {A : Type 0} (cost : A → ℕ) (preferred : ℕ) (xs : List A) → length (page cost preferred xs) ≤ length xs
page-few cost preferred [] = omega arith
page-few cost preferred (x ∷ xs) = let rest = within-few cost (min preferred most_page - cost x) xs in omega arith

some-are : {A : Type 0} (x : A) (xs : List A) → (length (x ∷ xs) == 0) ≡ false
some-are x xs = grind (arith, nat_tests)

-- none is given exactly where none is left
pub none-given : {A : Type 0} (cost : A → ℕ) (preferred : ℕ) (xs : List A)
    → (length (page cost preferred xs) == 0) ≡ (length xs == 0)
none-given cost preferred [] = refl
none-given cost preferred (x ∷ xs) = some-are x _ ∙ sym (some-are x xs)

-- ---- accounts

pub few-left : (context preferred : ℕ) (accounts : List LsaRow)
    → length (page sid_cost preferred (map sid_of_row (drop context accounts))) ≤ length accounts - context
few-left context preferred accounts =
    let few = page-few sid_cost preferred (map sid_of_row (drop context accounts)) in
    let mapped = length-map (drop context accounts) sid_of_row in
    let dropped = length-drop context accounts in
    omega arith

in-room : (room : PageRoom) (preferred : ℕ) (xs : List SidValue) → room ≡ preferred_room preferred
    → given_in sid_cost room xs ≡ page sid_cost preferred xs
in-room room preferred xs is = ap (λ r. given_in sid_cost r xs) is

-- a page of accounts that was filled has no more of them than are left
pub given-few : (context preferred : ℕ) (accounts left : List LsaRow) (room : PageRoom)
    (before sids given : List SidValue)
    → left ≡ drop context accounts → before ≡ [] → room ≡ preferred_room preferred
    → sids ≡ before ++ given_in sid_cost room (map sid_of_row left) → given ≡ sids
    → length given ≤ length accounts - context
given-few context preferred accounts left room before sids given is-left none is-room is-page same =
    let most = few-left context preferred accounts in
    let e : length given ≡ length (page sid_cost preferred (map sid_of_row (drop context accounts))) =
    ap length (same ∙ is-page
    ∙ ap (λ (b : List SidValue). b ++ given_in sid_cost room (map sid_of_row left)) none
    ∙ in-room room preferred (map sid_of_row left) is-room
    ∙ ap (λ (d : List LsaRow). page sid_cost preferred (map sid_of_row d)) is-left) in
    omega arith

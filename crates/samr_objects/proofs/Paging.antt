-- A page has no more entries than are left, so that its context stays a number of 32 bits.
use Rattle.std.proofs.Common.{◌≡◌, ℕ, ◌+◌, ◌-◌, ◌^◌, ◌<◌, ◌≤◌, Bool, true, false, cond, List, [], ◌∷◌, length, map}
use Rattle.std.proofs.Common.{◌++◌, drop, ap, ◌∙◌, arith}
use Rattle.std.specs.Prelude.{min, nat_le}
use Rattle.std.proofs.lemmas.List.{length-drop, length-map}
use Rattle.acct_calls.specs.declared.lists.RidName.{RidName}
use Rattle.acct_codes.specs.Limits.{most_page}
use Rattle.acct_tables.specs.declared.row.DomainRow.{DomainRow}
use Rattle.acct_rules.specs.Pages.{within, page, preferred_room, given_in, entry_cost}
use Rattle.acct_rules.specs.declared.pages.PageRoom.{PageRoom}
use Rattle.samr_objects.specs.Domains.{listed}

either-few : {A : Type 0} (b : Bool) (x : A) (given xs : List A) → length given ≤ length xs
    → length (cond b (x ∷ given) []) ≤ length (x ∷ xs)
either-few true x given xs few = omega arith
either-few false x given xs few = omega arith

within-few : {A : Type 0} (cost : A → ℕ) (left : ℕ) (xs : List A) → length (within cost left xs) ≤ length xs
within-few cost left [] = omega arith
within-few cost left (x ∷ xs) = either-few (nat_le (cost x) left) x _ xs (within-few cost (left - cost x) xs)

pub page-few : {A : Type 0} (cost : A → ℕ) (preferred : ℕ) (xs : List A) → length (page cost preferred xs) ≤ length xs
page-few cost preferred [] = omega arith
page-few cost preferred (x ∷ xs) = let rest = within-few cost (min preferred most_page - cost x) xs in omega arith

few-left : (context : ℕ) (domains : List DomainRow) (preferred : ℕ)
    → length (page entry_cost preferred (map listed (drop context domains))) ≤ length domains - context
few-left context domains preferred =
    let few = page-few entry_cost preferred (map listed (drop context domains)) in
    let mapped = length-map (drop context domains) listed in
    let dropped = length-drop context domains in
    omega arith

in-room : (room : PageRoom) (preferred : ℕ) (xs : List RidName) → room ≡ preferred_room preferred
    → given_in entry_cost room xs ≡ page entry_cost preferred xs
in-room room preferred xs is = ap (λ r. given_in entry_cost r xs) is

-- a page of domains that was filled has no more of them than are left
pub given-few : (context preferred : ℕ) (domains left : List DomainRow) (room : PageRoom)
    (before entries given : List RidName)
    → left ≡ drop context domains → before ≡ [] → room ≡ preferred_room preferred
    → entries ≡ before ++ given_in entry_cost room (map listed left) → given ≡ entries
    → length given ≤ length domains - context
given-few context preferred domains left room before entries given is-left none is-room is-page same =
    let most = few-left context domains preferred in
    let e : length given ≡ length (page entry_cost preferred (map listed (drop context domains))) =
    ap length (same ∙ is-page
    ∙ ap (λ (b : List RidName). b ++ given_in entry_cost room (map listed left)) none
    ∙ in-room room preferred (map listed left) is-room
    ∙ ap (λ (d : List DomainRow). page entry_cost preferred (map listed d)) is-left) in
    omega arith

pub page-few-left : (context preferred : ℕ) (domains : List DomainRow) → length domains + 0 < 2 ^ 32
    → length (page entry_cost preferred (map listed (drop context domains))) < 2 ^ 32
page-few-left context preferred domains few = omega (arith, few-left context domains preferred, few)

pub context-long : (context preferred : ℕ) (domains : List DomainRow) → length domains + 0 < 2 ^ 32
    → context < 2 ^ 32
    → context + length (page entry_cost preferred (map listed (drop context domains))) < 2 ^ 32
context-long context preferred domains few fits = omega (arith, few-left context domains preferred, few, fits)

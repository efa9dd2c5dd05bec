-- The first line of the bytes, up to the first line feed.
use Rattle.std.proofs.Common.{◌≡◌, ◌≢◌, ℕ, zero, suc, ◌+◌, ◌-◌, ◌<◌, false, List, [], ◌∷◌, length, get_or, take, drop}
use Rattle.std.proofs.Common.{refl, sym, ◌∙◌, ap, arith}
use Rattle.std.proofs.lemmas.Bool.Decides.{nat_tests}
use Rattle.std.proofs.lemmas.List.{drop_all}
use Rattle.acct_server.specs.Events.{lines_of, first_line, begins_with_feed}

feed : (b : ℕ) (bytes : List ℕ) → b ≡ 10 → lines_of (b ∷ bytes) ≡ [] ∷ lines_of bytes
feed b bytes is = grind (arith, nat_tests)

no_feed : (c : ℕ) (bytes : List ℕ) → c ≢ 10 → begins_with_feed (c ∷ bytes) ≡ false
no_feed c bytes differs = grind (arith, nat_tests)

-- the byte belongs to the line, since it is no carriage return, or no line feed follows
plain : (b : ℕ) (bytes : List ℕ) → b ≢ 10 → b ≢ 13 → lines_of (b ∷ bytes) ≡ first_line b (lines_of bytes)
plain b bytes differs other = grind (arith, nat_tests)

before_other : (b : ℕ) (bytes : List ℕ) → b ≢ 10 → begins_with_feed bytes ≡ false
    → lines_of (b ∷ bytes) ≡ first_line b (lines_of bytes)
before_other b bytes differs none = grind (arith, nat_tests, none)

-- a carriage return before a line feed
return_feed : (b c : ℕ) (bytes : List ℕ) → b ≡ 13 → c ≡ 10 → lines_of (b ∷ c ∷ bytes) ≡ lines_of (c ∷ bytes)
return_feed b c bytes return is = grind (arith, nat_tests)

longer : (b : ℕ) (bytes line rest : List ℕ) → lines_of (b ∷ bytes) ≡ first_line b (lines_of bytes)
    → lines_of bytes ≡ line ∷ lines_of rest → lines_of (b ∷ bytes) ≡ (b ∷ line) ∷ lines_of rest
longer b bytes line rest one later = one ∙ ap (λ (ls : List (List ℕ)). first_line b ls) later

-- a line that ends in a line feed
pub lines_of-feed : (i : ℕ) (bytes : List ℕ) → i < length bytes → ((k : ℕ) → k < i → get_or bytes k 0 ≢ 10)
    → get_or bytes i 0 ≡ 10 → ((k : ℕ) → suc k ≡ i → get_or bytes k 0 ≢ 13)
    → lines_of bytes ≡ take i bytes ∷ lines_of (drop (suc i) bytes)
lines_of-feed i [] lt none is not_return = absurd (omega arith)
lines_of-feed zero (b ∷ bytes) lt none is not_return = feed b bytes is
lines_of-feed (suc zero) (b ∷ bytes) lt none is not_return =
    longer b bytes [] (drop 1 bytes) (plain b bytes (none 0 (omega arith)) (not_return 0 refl))
    (lines_of-feed zero bytes (omega arith) (λ k below. absurd (omega arith)) is (λ k at. absurd cc))
lines_of-feed (suc (suc i)) (b ∷ []) lt none is not_return = absurd (omega arith)
lines_of-feed (suc (suc i)) (b ∷ c ∷ bytes) lt none is not_return =
    longer b (c ∷ bytes) (take (suc i) (c ∷ bytes)) (drop (suc (suc i)) (c ∷ bytes))
    (before_other b (c ∷ bytes) (none 0 (omega arith)) (no_feed c bytes (none 1 (omega arith))))
    (lines_of-feed (suc i) (c ∷ bytes) (omega arith) (λ k below. none (suc k) (omega arith)) is
    (λ k at. not_return (suc k) (ap suc at)))

-- a line that ends in a carriage return and a line feed
pub lines_of-return : (i : ℕ) (bytes : List ℕ) → suc i < length bytes → ((k : ℕ) → k < suc i → get_or bytes k 0 ≢ 10)
    → get_or bytes (suc i) 0 ≡ 10 → get_or bytes i 0 ≡ 13
    → lines_of bytes ≡ take i bytes ∷ lines_of (drop (suc (suc i)) bytes)
lines_of-return i [] lt none is return = absurd (omega arith)
lines_of-return i (b ∷ []) lt none is return = absurd (omega arith)
lines_of-return zero (b ∷ c ∷ bytes) lt none is return = return_feed b c bytes return is ∙ feed c bytes is
lines_of-return (suc i) (b ∷ c ∷ bytes) lt none is return =
    longer b (c ∷ bytes) (take i (c ∷ bytes)) (drop (suc (suc i)) (c ∷ bytes))
    (before_other b (c ∷ bytes) (none 0 (omega arith)) (no_feed c bytes (none 1 (omega arith))))
    (lines_of-return i (c ∷ bytes) (omega arith) (λ k below. none (suc k) (omega arith)) is return)

last : (b : ℕ) (bytes : List ℕ) → ((k : ℕ) → k < length (b ∷ bytes) → get_or (b ∷ bytes) k 0 ≢ 10)
    → lines_of (b ∷ bytes) ≡ (b ∷ bytes) ∷ []
last b [] none = before_other b [] (none 0 (omega arith)) refl
last b (c ∷ bytes) none =
    before_other b (c ∷ bytes) (none 0 (omega arith)) (no_feed c bytes (none 1 (omega arith)))
    ∙ ap (λ (ls : List (List ℕ)). first_line b ls) (last c bytes (λ k below. none (suc k) (omega arith)))

-- a line that ends with the bytes
pub lines_of-all : (bytes : List ℕ) → 0 < length bytes → ((k : ℕ) → k < length bytes → get_or bytes k 0 ≢ 10)
    → lines_of bytes ≡ bytes ∷ []
lines_of-all [] lt none = absurd (omega arith)
lines_of-all (b ∷ bytes) lt none = last b bytes none

-- the same, where the line feed is found at a place
pub lines-feed_at : (at : ℕ) (bytes rest : List ℕ) → at < length bytes → ((k : ℕ) → k < at → get_or bytes k 0 ≢ 10)
    → get_or bytes at 0 ≡ 10 → (0 < at → get_or bytes (at - 1) 0 ≢ 13) → rest ≡ drop (at + 1) bytes
    → lines_of bytes ≡ take at bytes ∷ lines_of rest
lines-feed_at at bytes rest lt none is not_return drops =
    let other : (k : ℕ) → suc k ≡ at → get_or bytes k 0 ≢ 13 =
    λ k below same. not_return (omega arith) (ap (λ (n : ℕ). get_or bytes n 0) (omega arith) ∙ same) in
    let next : suc at ≡ at + 1 = omega arith in
    lines_of-feed at bytes lt none is other ∙ ap (λ (n : ℕ). take at bytes ∷ lines_of (drop n bytes)) next
    ∙ ap (λ (xs : List ℕ). take at bytes ∷ lines_of xs) (sym drops)

pub lines-return_at : (at : ℕ) (bytes rest : List ℕ) → 0 < at → at < length bytes
    → ((k : ℕ) → k < at → get_or bytes k 0 ≢ 10) → get_or bytes at 0 ≡ 10 → get_or bytes (at - 1) 0 ≡ 13
    → rest ≡ drop (at + 1) bytes
    → lines_of bytes ≡ take (at - 1) bytes ∷ lines_of rest
lines-return_at zero bytes rest some lt none is return drops = absurd (omega arith)
lines-return_at (suc i) bytes rest some lt none is return drops =
    let before : suc i - 1 ≡ i = omega arith in
    let next : suc (suc i) ≡ suc i + 1 = omega arith in
    lines_of-return i bytes lt none is (ap (λ (n : ℕ). get_or bytes n 0) (sym before) ∙ return)
    ∙ ap (λ (n : ℕ). take i bytes ∷ lines_of (drop n bytes)) next
    ∙ ap (λ (xs : List ℕ). take i bytes ∷ lines_of xs) (sym drops)
    ∙ ap (λ (n : ℕ). take n bytes ∷ lines_of rest) (sym before)

pub lines-all_at : (bytes rest : List ℕ) → 0 < length bytes → ((k : ℕ) → k < length bytes → get_or bytes k 0 ≢ 10)
    → rest ≡ drop (length bytes) bytes → lines_of bytes ≡ bytes ∷ lines_of rest
lines-all_at bytes rest some none drops = lines_of-all bytes some none
    ∙ ap (λ (xs : List ℕ). bytes ∷ lines_of xs) (sym (drops ∙ drop_all (length bytes) bytes (omega arith)))

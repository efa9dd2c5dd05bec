-- The names that a translation shows are texts: those of domains, of well-known names and of accounts, and the texts of
-- SIDs.
use Rattle.std.proofs.Common.{◌≡◌, ℕ, zero, suc, ◌+◌, ◌*◌, ◌%◌, ◌/◌, ◌^◌, ◌-◌, ◌<◌, ◌≤◌, nat_le, nat_lt, Bool, true}
use Rattle.std.proofs.Common.{false, cond, get_or}
use Rattle.std.proofs.Common.{All, List, [], ◌∷◌, ◌++◌, length, Option, Some, None, codes, refl, sym, subst, arith}
use Rattle.std.proofs.Common.{ap, ◌∙◌}
use Rattle.std.specs.Cmp.{first_so, second_so}
use Rattle.std.specs.Char.{digit_char}
use Rattle.std.specs.Fmt.{decimal}
use Rattle.std.specs.List.{list_all}
use Rattle.std.specs.Str.{chars}
use Rattle.std.proofs.lemmas.Bool.Decides.{nat_tests}
use Rattle.std.proofs.lemmas.Fmt.{IsAscii-decimal, length-decimal-le}
use Rattle.std.proofs.lemmas.List.{length-append}
use Rattle.std.proofs.lemmas.List.Elements.{All-nil, All-cons, All-head, All-tail, All-append, All-push}
use Rattle.std.proofs.lemmas.Str.{chars-IsAscii}
use Rattle.std.proofs.lemmas.Str.Ascii.{IsAscii-from_all, All-from_ascii}
use Rattle.acct_calls.specs.Names.{AreUnits, units_of, name_of_text, builtin_name, authority_name, is_domain_name}
use Rattle.acct_calls.specs.Names.{is_valid_name, has_length, most_units}
use Rattle.acct_codes.specs.declared.kind.Kind.{Kind}
use Rattle.acct_codes.specs.declared.kind.Kind.TheVariants as kind
use Rattle.acct_layouts.specs.Values.{IsText}
use Rattle.acct_rows.specs.Laws.{EachIsGood}
use Rattle.acct_rows.specs.Rows.{Lists, domain_at, account_at}
use Rattle.acct_rows.specs.Sound.{IsSoundRows}
use Rattle.acct_tables.specs.declared.row.AccountRow.{AccountRow}
use Rattle.acct_tables.specs.declared.row.DomainRow.{DomainRow}
use Rattle.dtyp_sid.specs.Text.{text_of, authority_text, subs_text, hexadecimal}
use Rattle.dtyp_sid.specs.Sids.{SidValue, IsSid}
use Rattle.lsat_translate.specs.Known.{row_name, domain_name, well_known_name}
use Rattle.lsat_translate.specs.Matches.{account_name, name_of}
use Rattle.lsat_translate.specs.declared.known.Known.{Known}
use Rattle.lsat_translate.specs.declared.known.Known.TheVariants as known
use Rattle.lsat_translate.specs.declared.known.WellKnown.{WellKnown}
use Rattle.lsat_translate.specs.declared.known.WellKnown.TheVariants.{Everyone, AnonymousLogon, AuthenticatedUsers}
use Rattle.lsat_translate.specs.declared.known.WellKnown.TheVariants.{System}
use Rattle.lsat_translate.specs.declared.matches.Match.{Match}
use Rattle.lsat_translate.specs.declared.matches.Match.TheVariants as matches

-- ---- texts that are written out

abbrev is_unit : ℕ → Bool
is_unit unit = nat_lt unit (2 ^ 16)

units : (ns : List ℕ) → list_all is_unit ns ≡ true → AreUnits ns
units [] pass = All-nil (λ unit. unit < 2 ^ 16)
units (n ∷ ns) pass =
    let first : nat_lt n (2 ^ 16) ≡ true = first_so _ _ pass in
    All-cons (λ unit. unit < 2 ^ 16) n ns (grind (arith, nat_tests)) (units ns (second_so _ _ pass))

empty-text : IsText []
empty-text = (omega arith, All-nil (λ unit. unit < 2 ^ 16))

spelled : (ns : List ℕ) → nat_le (length ns) 256 ≡ true → list_all is_unit ns ≡ true → IsText ns
spelled ns few pass = (let short : length ns ≤ 256 = grind (arith, nat_tests) in omega (arith, short), units ns pass)

builtin-text : IsText builtin_name
unfolding chars units_of
builtin-text = spelled builtin_name refl refl

authority-text : IsText authority_name
unfolding chars units_of
authority-text = spelled authority_name refl refl

well-known-text : (w : WellKnown) → IsText (well_known_name w)
unfolding chars units_of well_known_name
well-known-text Everyone = spelled (name_of_text (codes "Everyone")) refl refl
well-known-text AnonymousLogon = spelled (name_of_text (codes "ANONYMOUS LOGON")) refl refl
well-known-text AuthenticatedUsers = spelled (name_of_text (codes "Authenticated Users")) refl refl
well-known-text System = spelled (name_of_text (codes "SYSTEM")) refl refl

-- ---- the names of the rows

account-short : (name : List ℕ) → is_domain_name name ≡ true → length name ≤ 15
unfolding is_domain_name
account-short name is =
    let most : nat_le (length name) 15 ≡ true = first_so _ _ (first_so _ _ (first_so _ _ is)) in
    grind (arith, nat_tests)

row-text : EachIsGood → (r : Lists) (o : Option DomainRow) → IsSoundRows r → domain_at r 0 ≡ o → IsText (row_name o)
row-text each r None sound at = empty-text
row-text each r (Some d) sound at =
    let good = sound.domain_rules 0 d at in
    let number : d.number ≡ 0 = (each r sound).domain_number 0 d at in
    (omega (arith, account-short d.name (good.account_name number)), good.name_units)

pub domain-text : EachIsGood → (r : Lists) (k : Known) → IsSoundRows r → IsText (domain_name r k)
domain-text each r known.Account sound = row-text each r (domain_at r 0) sound refl
domain-text each r known.Builtin sound = builtin-text
domain-text each r known.NtAuthority sound = authority-text
domain-text each r known.World sound = empty-text

kind-most : (k : Kind) → most_units k ≤ 256
kind-most kind.Server = omega arith
kind-most kind.Domain = omega arith
kind-most kind.Group = omega arith
kind-most kind.Alias = omega arith
kind-most kind.User = omega arith
kind-most kind.Policy = omega arith
kind-most kind.Account = omega arith

name-short : (k : Kind) (name : List ℕ) → is_valid_name k name ≡ true → length name ≤ 256
unfolding is_valid_name
name-short k name is =
    let most : nat_le (length name) (most_units k) ≡ true =
    second_so (nat_le 1 (length name)) (nat_le (length name) (most_units k)) (first_so (has_length k name) _ is) in
    let few : length name ≤ most_units k = grind (arith, nat_tests) in
    omega (arith, few, kind-most k)

account-text : (r : Lists) (number rid : ℕ) (o : Option AccountRow) → IsSoundRows r → account_at r number rid ≡ o
    → IsText (account_name o)
account-text r number rid None sound at = empty-text
account-text r number rid (Some a) sound at =
    let good = sound.account_rules number rid a at in
    (omega (arith, name-short a.kind a.name good.itself.named), good.itself.name_units)

pub match-text : EachIsGood → (r : Lists) (m : Match) → IsSoundRows r → IsText (name_of r m)
match-text each r (matches.WellKnown w) sound = well-known-text w
match-text each r (matches.Domain k) sound = domain-text each r k sound
match-text each r (matches.Account number rid k) sound = account-text r number rid (account_at r number rid) sound refl

-- ---- the texts of SIDs

-- bytes below 128, so many at most
abbrev Plain : ℕ → List ℕ → Type 0
Plain most bs = All (λ b. b < 128) bs × (length bs ≤ most)

joined : (m n : ℕ) (xs ys : List ℕ) → Plain m xs → Plain n ys → Plain (m + n) (xs ++ ys)
joined m n xs ys left right = (
  All-append (λ b. b < 128) xs ys left.0 right.0,
  omega (arith, length-append xs ys, left.1, right.1),
)

decimal-plain : (n : ℕ) → n < 2 ^ 32 → Plain 10 (decimal n)
decimal-plain n fits =
    let wide : n < 2 ^ 64 = omega arith in
    let few : n < 10 ^ 10 = omega arith in
    (All-from_ascii (decimal n) (IsAscii-decimal n wide), length-decimal-le 10 n (omega arith) few wide)

digit-plain : (d : ℕ) → d < 16 → digit_char d < 128
digit-plain d below = grind (arith, nat_tests)

hexadecimal-plain : (count number : ℕ) → Plain count (hexadecimal count number)
unfolding hexadecimal
hexadecimal-plain zero number = (All-nil (λ b. b < 128), omega arith)
hexadecimal-plain (suc count) number =
    let front = hexadecimal-plain count (number / 16) in (
      All-push (λ b. b < 128) (hexadecimal count (number / 16)) (digit_char (number % 16)) front.0
          (digit-plain (number % 16) (omega arith)),
      omega (arith, front.1, length-append (hexadecimal count (number / 16)) (digit_char (number % 16) ∷ [])),
    )

below-128 : (ns : List ℕ) → list_all (λ n. nat_lt n 128) ns ≡ true → All (λ b. b < 128) ns
below-128 [] pass = All-nil (λ b. b < 128)
below-128 (n ∷ ns) pass =
    let first : nat_lt n 128 ≡ true = first_so _ _ pass in
    All-cons (λ b. b < 128) n ns (grind (arith, nat_tests)) (below-128 ns (second_so _ _ pass))

either-plain : (authority : ℕ) (b : Bool) → nat_lt authority (2 ^ 32) ≡ b
    → Plain 14 (cond b (decimal authority) (codes "0x" ++ hexadecimal 12 authority))
either-plain authority true is =
    let fits : authority < 2 ^ 32 = grind (arith, nat_tests) in
    let plain = decimal-plain authority fits in (plain.0, omega (arith, plain.1))
either-plain authority false is =
    joined 2 12 (codes "0x") (hexadecimal 12 authority) (below-128 (codes "0x") refl, omega arith)
    (hexadecimal-plain 12 authority)

authority-plain : (authority : ℕ) → Plain 14 (authority_text authority)
unfolding authority_text
authority-plain authority = either-plain authority (nat_lt authority (2 ^ 32)) refl

subs-plain : (subs : List ℕ) → All (λ sub. sub < 2 ^ 32) subs → Plain (11 * length subs) (subs_text subs)
unfolding subs_text
subs-plain [] all = (All-nil (λ b. b < 128), omega arith)
subs-plain (sub ∷ subs) all =
    let rest = subs-plain subs (All-tail (λ sub. sub < 2 ^ 32) sub subs all) in
    let one = joined 1 10 (codes "-") (decimal sub) (below-128 (codes "-") refl, omega arith)
    (decimal-plain sub (All-head (λ sub. sub < 2 ^ 32) sub subs all)) in
    let both = joined 11 (11 * length subs) (codes "-" ++ decimal sub) (subs_text subs) one rest in
    (both.0, omega (arith, both.1))

text-plain : (sid : SidValue) → IsSid sid → Plain 200 (text_of sid)
unfolding text_of
text-plain sid whole =
    let front = joined 4 14 (codes "S-1-") (authority_text sid.authority) (below-128 (codes "S-1-") refl, omega arith)
    (authority-plain sid.authority) in
    let rest = subs-plain sid.subs whole.subs_fit in
    let both = joined 18 (11 * length sid.subs) (codes "S-1-" ++ authority_text sid.authority) (subs_text sid.subs)
    front rest in
    (both.0, omega (arith, both.1, whole.count_fits))

-- units of bytes below 128 are these bytes
one-unit : (b : ℕ) (short : Bool) → b < 128 → nat_lt b 0x1_0000 ≡ short
    → cond short (b ∷ []) ((0xD800 + (b - 0x1_0000) / 0x400) ∷ (0xDC00 + (b - 0x1_0000) % 0x400) ∷ []) ≡ b ∷ []
one-unit b true below is = refl
one-unit b false below is = absurd (grind (arith, nat_tests))

plain-units : (bs : List ℕ) → All (λ b. b < 128) bs → units_of bs ≡ bs
unfolding units_of
plain-units [] all = refl
plain-units (b ∷ bs) all =
    let rest : units_of bs ≡ bs = plain-units bs (All-tail (λ b. b < 128) b bs all) in
    ap (λ l. l ++ units_of bs) (one-unit b (nat_lt b 0x1_0000) (All-head (λ b. b < 128) b bs all) refl)
    ∙ ap (λ l. b ∷ l) rest

plain-text : (bs : List ℕ) → Plain 200 bs → IsText (name_of_text bs)
plain-text bs plain =
    let same : name_of_text bs ≡ bs =
    ap units_of (chars-IsAscii bs (IsAscii-from_all bs plain.0)) ∙ plain-units bs plain.0 in
    subst IsText (sym same) (
      omega (arith, plain.1),
      λ k d lt. let below : get_or bs k d < 128 = plain.0 k d lt in omega (arith, below),
    )

pub sid-text : (sid : SidValue) → IsSid sid → IsText (name_of_text (text_of sid))
sid-text sid whole = plain-text (text_of sid) (text-plain sid whole)

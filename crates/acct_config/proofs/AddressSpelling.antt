-- Addresses are exactly the texts of their grammar.
use Rattle.std.proofs.Common.{◌≡◌, ℕ, ◌+◌, ◌<◌, ◌≤◌, ◌⊎◌, ◌==◌, ◌||◌, not, Bool, true, false, codes, List, [], ◌∷◌}
use Rattle.std.proofs.Common.{◌++◌, length, drop, Option, Some, None, refl, ap, ◌∙◌, arith, inl, inr, ⊎_elim, nat_lt}
use Rattle.std.proofs.Common.{nat_eq}
use Rattle.std.proofs.lemmas.Bool.{and_parts, and_from}
use Rattle.std.proofs.lemmas.Bool.Decides.{nat_tests}
use Rattle.std.proofs.lemmas.List.{length-append}
use Rattle.std.specs.Fmt.{decimal}
use Rattle.std.specs.List.{starts_with}
use Rattle.std.specs.Option.{option_map_or}
use Rattle.acct_config.proofs.Decimals.{decimal_of-decimal, decimal_of-is}
use Rattle.acct_config.proofs.Parts.{parted_at, parted_is}
use Rattle.acct_config.specs.Values.{is_port, is_parted_host_port, is_host_port, is_address}
use Rattle.acct_config.specs.Grammar.{IsTcp, IsUnix, AddressesAreSpelled}
use Rattle.acct_base.specs.Words.{is_within, parted, decimal_of}

or_cases : (x y : Bool) → (x || y) ≡ true → (x ≡ true) ⊎ (y ≡ true)
or_cases true y is = inl refl
or_cases false y is = inr is

starts-is : (needle text : List ℕ) → starts_with nat_eq text needle ≡ true → text ≡ needle ++ drop (length needle) text
starts-is [] text is = refl
starts-is (c ∷ needle) [] is = absurd (cc)
starts-is (c ∷ needle) (b ∷ text) is =
    let both = and_parts _ _ is in
    let tested = both.0 in
    let same : b ≡ c = grind (arith, nat_tests) in
    λ i. same i ∷ starts-is needle text both.1 i

record IsPort (text : List ℕ) : Type 0 where
  pub port : ℕ
  pub low : 1 ≤ port
  pub high : port ≤ 65535
  pub spelled : text ≡ decimal port

port-is : (text : List ℕ) → is_port text ≡ true → IsPort text
unfolding is_port
port-is text is = by (decimal_of 5 text) refl is
  where
    by : (o : Option ℕ) → decimal_of 5 text ≡ o → option_map_or (is_within 1 65535) o false ≡ true → IsPort text
    by None at tested = absurd (cc)
    by (Some port) at tested =
        let low : 1 ≤ port = grind (arith, nat_tests) in
        let high : port ≤ 65535 = grind (arith, nat_tests) in
        record { port = port; low = low; high = high; spelled = decimal_of-is 5 text port at (omega arith) }

tcp-is : (text rest : List ℕ) → text ≡ codes "tcp:" ++ rest → (o : Option (List ℕ × List ℕ)) → parted 58 rest ≡ o →
    is_parted_host_port o ≡ true → IsTcp text
tcp-is text rest begins None at is = absurd (cc)
tcp-is text rest begins (Some (host, port)) at is =
    let both = and_parts (not (length host == 0)) (is_port port) is in
    let numbered = port-is port both.1 in
    let cut = parted_is 58 rest host port at in
    let some = both.0 in
    record {
      host = host;
      port = numbered.port;
      there = grind (arith, nat_tests);
      no_colon = cut.none;
      low = numbered.low;
      high = numbered.high;
      spelled = begins ∙ ap (λ t. codes "tcp:" ++ t) (cut.spelled ∙ ap (λ t. host ++ 58 ∷ t) numbered.spelled);
    }

unix-is : (text : List ℕ) → text ≡ codes "unix:" ++ drop 5 text → nat_lt 5 (length text) ≡ true → IsUnix text
unix-is text begins long =
    let more : length text ≡ 5 + length (drop 5 text) = ap length begins
    ∙ length-append (codes "unix:") (drop 5 text) in
    let above : 5 < length text = grind (arith, nat_tests) in
    record { path = drop 5 text; there = omega arith; spelled = begins }

port-word-is : (port : ℕ) → 1 ≤ port → port ≤ 65535 → is_port (decimal port) ≡ true
unfolding is_port
port-word-is port low high =
    let is : is_within 1 65535 port ≡ true = grind (arith, nat_tests) in
    rw (decimal_of-decimal 5 port (omega arith) (omega arith) (omega arith)) is

tcp-spelled : (text : List ℕ) → IsTcp text → is_address text ≡ true
unfolding is_address is_host_port
tcp-spelled text is =
    let rest : List ℕ = is.host ++ 58 ∷ decimal is.port in
    let some = is.there in
    let there : not (length is.host == 0) ≡ true = grind (arith, nat_tests) in
    let cut : parted 58 rest ≡ Some (is.host, decimal is.port) = parted_at 58 is.host (decimal is.port) is.no_colon in
    let whole : is_parted_host_port (parted 58 rest) ≡ true = ap is_parted_host_port cut
    ∙ and_from _ _ there (port-word-is is.port is.low is.high) in
    rw is.spelled (rw whole refl)

unix-spelled : (text : List ℕ) → IsUnix text → is_address text ≡ true
unfolding is_address
unix-spelled text is =
    let some = is.there in
    let long : nat_lt 5 (length (codes "unix:" ++ is.path)) ≡ true = grind (arith, nat_tests) in
    rw is.spelled long

pub addresses_spelled : AddressesAreSpelled
unfolding is_address is_host_port
addresses_spelled text = (
  λ is. ⊎_elim
      (λ tcp. let both = and_parts _ _ tcp in
      inl (tcp-is text (drop 4 text) (starts-is (codes "tcp:") text both.0) (parted 58 (drop 4 text)) refl both.1))
      (λ unix. let both = and_parts _ _ unix in inr (unix-is text (starts-is (codes "unix:") text both.0) both.1))
      (or_cases _ _ is),
  ⊎_elim (tcp-spelled text) (unix-spelled text),
)

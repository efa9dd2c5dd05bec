-- The written bytes of lists of entries
use Rattle.std.proofs.Common.{◌≡◌, ℕ, ◌+◌, ◌<◌, List, [], ◌∷◌, ◌++◌, length, take, refl, ap, ◌∙◌, arith, append_assoc}
use Rattle.std.specs.List.{flat_map}
use Rattle.std.proofs.lemmas.List.{append-nil}
use Rattle.std.proofs.lemmas.Grind.{flat_map-append}
use Rattle.dtyp_sid.specs.Sids.{bytes_of}
use Rattle.dtyp_access.specs.declared.ace.Ace.{Ace}
use Rattle.dtyp_access.specs.Parts.{ace_bytes, aces_bytes}

pub aces_bytes-none : aces_bytes [] ≡ []
unfolding aces_bytes
aces_bytes-none = refl

-- one entry more
pub aces_bytes-take_more : (aces : List Ace) (index : ℕ) (ace : Ace) → index < length aces → take (index + 1) aces
    ≡ take index aces ++ ace ∷ [] → aces_bytes (take (index + 1) aces) ≡ aces_bytes (take index aces) ++ ace_bytes ace
unfolding aces_bytes
aces_bytes-take_more aces index ace inside more =
    ap (flat_map ace_bytes) more
    ∙ flat_map-append ace_bytes (take index aces) (ace ∷ [])
    ∙ ap (λ bytes. flat_map ace_bytes (take index aces) ++ bytes) (append-nil (ace_bytes ace))

pub length-ace_bytes : (ace : Ace) → length (ace_bytes ace) ≡ 8 + length (bytes_of ace.sid)
unfolding ace_bytes
length-ace_bytes ace = omega arith

-- more bytes after those that are added
pub pushed_more : (old done more before after : List ℕ) → before ≡ old ++ done → after ≡ before ++ more → after ≡ old
    ++ (done ++ more)
pushed_more old done more before after is push = push ∙ ap (λ bytes. bytes ++ more) is ∙ append_assoc old done more

-- six parts, one after the other
pub six_pushed : (old a b c d e f n₁ n₂ n₃ n₄ n₅ n₆ : List ℕ) → n₁ ≡ old ++ a → n₂ ≡ n₁ ++ b → n₃ ≡ n₂ ++ c → n₄ ≡ n₃
    ++ d → n₅ ≡ n₄ ++ e → n₆ ≡ n₅ ++ f
    → n₆ ≡ old ++ (a ++ b ++ c ++ d ++ e ++ f)
six_pushed old a b c d e f n₁ n₂ n₃ n₄ n₅ n₆ p q r s t u =
    pushed_more old (a ++ b ++ c ++ d ++ e) f n₅ n₆
    (pushed_more old (a ++ b ++ c ++ d) e n₄ n₅
    (pushed_more old (a ++ b ++ c) d n₃ n₄ (pushed_more old (a ++ b) c n₂ n₃ (pushed_more old a b n₁ n₂ p q) r) s)
    t) u

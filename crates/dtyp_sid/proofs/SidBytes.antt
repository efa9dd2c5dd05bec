-- The bytes of SIDs, written and read
use Rattle.std.proofs.Common.{◌≡◌, ℕ, zero, suc, ◌+◌, ◌*◌, ◌/◌, ◌%◌, ◌^◌, ◌<◌, ◌≤◌, List, [], ◌∷◌, ◌++◌, length, take}
use Rattle.std.proofs.Common.{drop, get_or, arith, refl, sym, ap, ◌∙◌, append_assoc, subst, Bool, true, false, All, Ok}
use Rattle.std.proofs.Common.{Err, Result, ⊎_elim}
use Rattle.std.specs.Prelude.{nat_lt, if◌then◌else◌, not, ◌==◌, slice_index}
use Rattle.std.specs.Int.{w32, bytes_high_first, to_le_bytes, from_le_bytes}
use Rattle.std.specs.List.{flat_map}
use Rattle.std.proofs.lemmas.Nat.{from_le_bytes-to_le_bytes_4, from_be_bytes-to_be_bytes_8, le_bytes_4, be_bytes_8}
use Rattle.std.proofs.lemmas.Bool.Decides.{nat_tests}
use Rattle.std.proofs.lemmas.List.{length-append, append-nil, drop-drop, length-drop, get_or-drop, take_more}
use Rattle.std.proofs.lemmas.List.{length-take-le}
use Rattle.std.proofs.Math.Seq.{take-append_seam, drop-append-add}
use Rattle.std.proofs.lemmas.Grind.{flat_map-append}
use Rattle.dtyp_sid.specs.Sids.{SidValue, IsSid, header_of, sub_bytes, bytes_of, authority_at_front, subs_at_front}
use Rattle.dtyp_sid.specs.Sids.{sid_of_bytes, BeginWithSid}
use Rattle.std.proofs.lemmas.List.{get_or_past}
use Rattle.std.proofs.lemmas.List.Elements.{All-cons}
use Rattle.std.proofs.lemmas.Bool.{cases_lt}
use Rattle.dtyp_sid.specs.declared.errors.BytesError.{BytesError}
use Rattle.dtyp_sid.specs.declared.errors.BytesError.TheVariants.{Short, Revision, Count}

-- one number more at the beginning
pub subs_at_front-more : (count : ℕ) (bytes : List ℕ) → subs_at_front (suc count) bytes ≡ subs_at_front count bytes
    ++ from_le_bytes w32 (drop (4 * count) bytes) ∷ []
unfolding subs_at_front
subs_at_front-more zero bytes = refl
subs_at_front-more (suc count) bytes =
    let next : 4 + 4 * count ≡ 4 * suc count = omega arith in
    ap (λ subs. from_le_bytes w32 bytes ∷ subs) (subs_at_front-more count (drop 4 bytes))
    ∙ ap (λ rest. from_le_bytes w32 bytes ∷ (subs_at_front count (drop 4 bytes) ++ from_le_bytes w32 rest ∷ []))
    (drop-drop (4 * count) 4 bytes ∙ ap (λ n. drop n bytes) next)

pub length-subs_at_front : (count : ℕ) (bytes : List ℕ) → length (subs_at_front count bytes) ≡ count
unfolding subs_at_front
length-subs_at_front zero bytes = refl
length-subs_at_front (suc count) bytes = ap suc (length-subs_at_front count (drop 4 bytes))

pub length-sub_bytes : (subs : List ℕ) → length (sub_bytes subs) ≡ 4 * length subs
unfolding sub_bytes
length-sub_bytes [] = refl
length-sub_bytes (sub ∷ subs) = let rest = length-sub_bytes subs in omega arith

-- written numbers are read
pub subs_at_front-sub_bytes : (subs rest : List ℕ) → All (λ sub. sub < 2 ^ 32) subs →
    subs_at_front (length subs) (sub_bytes subs ++ rest) ≡ subs
unfolding subs_at_front sub_bytes
subs_at_front-sub_bytes [] rest below = refl
subs_at_front-sub_bytes (sub ∷ subs) rest below =
    ap (λ first. first ∷ subs_at_front (length subs) (sub_bytes subs ++ rest))
    (from_le_bytes-to_le_bytes_4 sub (below 0 0 (omega arith)))
    ∙ ap (λ others. sub ∷ others) (subs_at_front-sub_bytes subs rest (λ k d within. below (suc k) d (omega arith)))

-- a written authority is read
pub authority_at_front-high_first : (authority : ℕ) (rest : List ℕ) → authority < 2 ^ 48 →
    authority_at_front (bytes_high_first 6 authority ++ rest) ≡ authority
unfolding authority_at_front
authority_at_front-high_first authority rest fits =
    let six : authority / 256 ^ 6 % 256 ≡ 0 = omega arith in
    let seven : authority / 256 ^ 7 % 256 ≡ 0 = omega arith in
    omega (arith, from_be_bytes-to_be_bytes_8 authority (omega arith))

pub length-header_of : (sid : SidValue) → length (header_of sid) ≡ 8
unfolding header_of
length-header_of sid = refl

pub length-bytes_of : (sid : SidValue) → length (bytes_of sid) ≡ 8 + 4 * length sid.subs
unfolding bytes_of
length-bytes_of sid = length-append (header_of sid) (sub_bytes sid.subs)
    ∙ omega (arith, length-header_of sid, length-sub_bytes sid.subs)

-- the tests of the reader pass, and it gives what it finds
read_sid : (bytes : List ℕ) → 8 ≤ length bytes → slice_index bytes 0 ≡ 1 → slice_index bytes 1 ≤ 15 → 8
    + 4 * slice_index bytes 1 ≤ length bytes
    → sid_of_bytes bytes ≡ Ok (record
    { authority = authority_at_front (drop 2 bytes); subs = subs_at_front (slice_index bytes 1) (drop 8 bytes) })
unfolding sid_of_bytes
read_sid bytes eight revision few there =
    let a : nat_lt (length bytes) 8 ≡ false = grind (arith, nat_tests) in
    let b : (slice_index bytes 0 == 1) ≡ true = grind (arith, nat_tests) in
    let d : nat_lt 15 (slice_index bytes 1) ≡ false = grind (arith, nat_tests) in
    let e : nat_lt (length bytes) (8 + 4 * slice_index bytes 1) ≡ false = grind (arith, nat_tests) in
    rw (a, b, d, e) refl

abbrev read_as : ℕ → List ℕ → Result SidValue BytesError
read_as authority subs = Ok (record { authority = authority; subs = subs })

same_read : (a b : ℕ) (xs ys : List ℕ) → a ≡ b → xs ≡ ys → read_as a xs ≡ read_as b ys
same_read a b xs ys same_authority same_subs = cc

-- what is written is read back, whatever bytes follow
pub read_written : (sid : SidValue) (rest : List ℕ) → IsSid sid → sid_of_bytes (bytes_of sid ++ rest) ≡ Ok sid
unfolding bytes_of header_of
read_written sid rest limits =
    let long : length (bytes_of sid ++ rest) ≡ 8 + 4 * length sid.subs + length rest = length-append (bytes_of sid) rest
    ∙ ap (λ n. n + length rest) (length-bytes_of sid) in
    let authority : authority_at_front (bytes_high_first 6 sid.authority ++ (sub_bytes sid.subs ++ rest))
    ≡ sid.authority =
    authority_at_front-high_first sid.authority (sub_bytes sid.subs ++ rest) limits.authority_fits in
    let subs : subs_at_front (length sid.subs) (sub_bytes sid.subs ++ rest) ≡ sid.subs =
    subs_at_front-sub_bytes sid.subs rest limits.subs_fit in
    read_sid (bytes_of sid ++ rest) (omega arith) refl limits.count_fits (omega arith)
    ∙ same_read _ _ _ _ authority subs

-- four bytes are those of their number
four_bytes : (a b c d : ℕ) → a < 256 → b < 256 → c < 256 → d < 256 → (i : ℕ) → get_or (a ∷ b ∷ c ∷ d ∷ []) i 0 < 256
four_bytes a b c d p q r s zero = p
four_bytes a b c d p q r s (suc zero) = q
four_bytes a b c d p q r s (suc (suc zero)) = r
four_bytes a b c d p q r s (suc (suc (suc zero))) = s
four_bytes a b c d p q r s (suc (suc (suc (suc i)))) = omega arith

front_number : (bytes : List ℕ) → 4 ≤ length bytes → ((i : ℕ) → get_or bytes i 0 < 256) →
    to_le_bytes w32 (from_le_bytes w32 bytes) ++ drop 4 bytes ≡ bytes
front_number [] there below = absurd (omega arith)
front_number (a ∷ []) there below = absurd (omega arith)
front_number (a ∷ b ∷ []) there below = absurd (omega arith)
front_number (a ∷ b ∷ c ∷ []) there below = absurd (omega arith)
front_number (a ∷ b ∷ c ∷ d ∷ rest) there below =
    ap (λ four. four ++ rest) (le_bytes_4 (a ∷ b ∷ c ∷ d ∷ []) (from_le_bytes w32 (a ∷ b ∷ c ∷ d ∷ rest)) refl
    (four_bytes a b c d (below 0) (below 1) (below 2) (below 3)) refl)

sub_bytes_spelled : (count : ℕ) (bytes : List ℕ) → 4 * count ≤ length bytes → ((i : ℕ) → get_or bytes i 0 < 256) →
    sub_bytes (subs_at_front count bytes) ++ drop (4 * count) bytes ≡ bytes
unfolding sub_bytes subs_at_front
sub_bytes_spelled zero bytes there below = refl
sub_bytes_spelled (suc count) bytes there below =
    let rest = drop 4 bytes in
    let all : drop (4 * suc count) bytes ≡ drop (4 * count) rest =
    (let n : 4 + 4 * count ≡ 4 * suc count = omega arith in
    sym (drop-drop (4 * count) 4 bytes ∙ ap (λ n. drop n bytes) n)) in
    let others : sub_bytes (subs_at_front count rest) ++ drop (4 * count) rest ≡ rest =
    sub_bytes_spelled count rest (omega (arith, length-drop 4 bytes))
    (λ i. subst (λ (n : ℕ). n < 256) (sym (get_or-drop 4 bytes i 0)) (below (4 + i))) in
    ap (λ behind. to_le_bytes w32 (from_le_bytes w32 bytes) ++ sub_bytes (subs_at_front count rest) ++ behind) all
    ∙ append_assoc (to_le_bytes w32 (from_le_bytes w32 bytes)) (sub_bytes (subs_at_front count rest))
    (drop (4 * count) rest)
    ∙ ap (λ behind. to_le_bytes w32 (from_le_bytes w32 bytes) ++ behind) others
    ∙ front_number bytes (omega arith) below

-- more bytes are put after those that are written
pub put_behind : (written more old before after : List ℕ) (place : ℕ) → length written ≡ place → before ≡ written
    ++ drop place old
    → after ≡ take place before ++ more ++ drop (place + length more) before → after ≡ (written ++ more)
    ++ drop (place + length more) old
put_behind written more old before after place long is put =
    let front : take place (written ++ drop place old) ≡ written =
    ap (λ n. take n (written ++ drop place old)) (sym long) ∙ take-append_seam written (drop place old) in
    let back : drop (place + length more) (written ++ drop place old) ≡ drop (place + length more) old =
    ap (λ n. drop (n + length more) (written ++ drop place old)) (sym long)
    ∙ drop-append-add written (drop place old) (length more)
    ∙ drop-drop (length more) place old in
    put
    ∙ ap (λ before. take place before ++ more ++ drop (place + length more) before) is
    ∙ ap (λ written'. written' ++ more ++ drop (place + length more) (written ++ drop place old)) front
    ∙ ap (λ behind. (written ++ more) ++ behind) back

-- one sub-authority more is written
pub sub_bytes-take_more : (subs : List ℕ) (place : ℕ) (sub : ℕ) → place < length subs → sub ≡ get_or subs place 0 →
    sub_bytes (take (place + 1) subs) ≡ sub_bytes (take place subs) ++ to_le_bytes w32 sub
unfolding sub_bytes
sub_bytes-take_more subs place sub inside is =
    ap (flat_map (to_le_bytes w32)) (take_more subs place 0 inside)
    ∙ flat_map-append (to_le_bytes w32) (take place subs) (get_or subs place 0 ∷ [])
    ∙ ap (λ bytes. flat_map (to_le_bytes w32) (take place subs) ++ bytes)
    (append-nil (to_le_bytes w32 (get_or subs place 0)))
    ∙ ap (λ sub. flat_map (to_le_bytes w32) (take place subs) ++ to_le_bytes w32 sub) (sym is)

-- the length of what is written so far
pub length-written : (sid : SidValue) (place : ℕ) → place ≤ length sid.subs →
    length (header_of sid ++ sub_bytes (take place sid.subs)) ≡ 8 + 4 * place
length-written sid place inside =
    length-append (header_of sid) (sub_bytes (take place sid.subs))
    ∙ omega (arith, length-header_of sid, length-sub_bytes (take place sid.subs), length-take-le place sid.subs inside)

-- the authority of six bytes is written as those
authority_spelled : (a b c d e f : ℕ) (rest : List ℕ) →
    ((i : ℕ) → get_or (0 ∷ 0 ∷ a ∷ b ∷ c ∷ d ∷ e ∷ f ∷ []) i 0 < 256)
    → bytes_high_first 6 (authority_at_front (a ∷ b ∷ c ∷ d ∷ e ∷ f ∷ rest)) ≡ a ∷ b ∷ c ∷ d ∷ e ∷ f ∷ []
unfolding authority_at_front
authority_spelled a b c d e f rest below =
    ap (drop 2) (be_bytes_8 (0 ∷ 0 ∷ a ∷ b ∷ c ∷ d ∷ e ∷ f ∷ [])
    (authority_at_front (a ∷ b ∷ c ∷ d ∷ e ∷ f ∷ rest)) refl below refl)

eight_bytes : (a b c d e f : ℕ) → a < 256 → b < 256 → c < 256 → d < 256 → e < 256 → f < 256 → (i : ℕ) →
    get_or (0 ∷ 0 ∷ a ∷ b ∷ c ∷ d ∷ e ∷ f ∷ []) i 0 < 256
eight_bytes a b c d e f p q r s t u zero = omega arith
eight_bytes a b c d e f p q r s t u (suc zero) = omega arith
eight_bytes a b c d e f p q r s t u (suc (suc zero)) = p
eight_bytes a b c d e f p q r s t u (suc (suc (suc zero))) = q
eight_bytes a b c d e f p q r s t u (suc (suc (suc (suc zero)))) = r
eight_bytes a b c d e f p q r s t u (suc (suc (suc (suc (suc zero))))) = s
eight_bytes a b c d e f p q r s t u (suc (suc (suc (suc (suc (suc zero)))))) = t
eight_bytes a b c d e f p q r s t u (suc (suc (suc (suc (suc (suc (suc zero))))))) = u
eight_bytes a b c d e f p q r s t u (suc (suc (suc (suc (suc (suc (suc (suc i)))))))) = omega arith

-- what is read at the beginning of the bytes is written so
pub spelled : (bytes : List ℕ) → 8 ≤ length bytes → slice_index bytes 0 ≡ 1 → 8 + 4 * slice_index bytes 1 ≤ length bytes
    → ((i : ℕ) → get_or bytes i 0 < 256)
    → BeginWithSid bytes (record {
      authority = authority_at_front (drop 2 bytes);
      subs =
          subs_at_front (slice_index bytes 1) (drop 8 bytes);
    })
unfolding bytes_of header_of
spelled [] eight revision there below = absurd (omega arith)
spelled (r ∷ []) eight revision there below = absurd (omega arith)
spelled (r ∷ n ∷ []) eight revision there below = absurd (omega arith)
spelled (r ∷ n ∷ a ∷ []) eight revision there below = absurd (omega arith)
spelled (r ∷ n ∷ a ∷ b ∷ []) eight revision there below = absurd (omega arith)
spelled (r ∷ n ∷ a ∷ b ∷ c ∷ []) eight revision there below = absurd (omega arith)
spelled (r ∷ n ∷ a ∷ b ∷ c ∷ d ∷ []) eight revision there below = absurd (omega arith)
spelled (r ∷ n ∷ a ∷ b ∷ c ∷ d ∷ e ∷ []) eight revision there below = absurd (omega arith)
spelled (r ∷ n ∷ a ∷ b ∷ c ∷ d ∷ e ∷ f ∷ rest) eight revision there below =
    let authority : bytes_high_first 6 (authority_at_front (a ∷ b ∷ c ∷ d ∷ e ∷ f ∷ rest)) ≡ a ∷ b ∷ c ∷ d ∷ e ∷ f
    ∷ [] =
    authority_spelled a b c d e f rest
    (eight_bytes a b c d e f (below 2) (below 3) (below 4) (below 5) (below 6) (below 7)) in
    let subs : sub_bytes (subs_at_front n rest) ++ drop (4 * n) rest ≡ rest =
    sub_bytes_spelled n rest (omega arith)
    (λ i. subst (λ (x : ℕ). x < 256) (sym (get_or-drop 8 (r ∷ n ∷ a ∷ b ∷ c ∷ d ∷ e ∷ f ∷ rest) i 0))
    (below (8 + i))) in
    let count : length (subs_at_front n rest) ≡ n = length-subs_at_front n rest in (
      drop (4 * n) rest,
      sym (
          ap (λ (six : List ℕ). 1 ∷ length (subs_at_front n rest)
          ∷ ((six ++ sub_bytes (subs_at_front n rest)) ++ drop (4 * n) rest)) authority
          ∙ ap (λ (behind : List ℕ). 1 ∷ length (subs_at_front n rest) ∷ a ∷ b ∷ c ∷ d ∷ e ∷ f ∷ behind) subs
          ∙ ap (λ (k : ℕ). 1 ∷ k ∷ a ∷ b ∷ c ∷ d ∷ e ∷ f ∷ rest) count
          ∙ ap (λ (k : ℕ). k ∷ n ∷ a ∷ b ∷ c ∷ d ∷ e ∷ f ∷ rest) (sym revision)),
    )

refused_if : {X E : Type 0} (b : Bool) (e : E) (r : Result X E) (x : X) → (if b then Err e else r) ≡ Ok x → (b ≡ false)
    × (r ≡ Ok x)
refused_if false e r x is = (refl, is)
refused_if true e r x is = cc

-- four bytes make a number of 32 bits, and six one of 48
sub_fits : (bytes : List ℕ) → ((i : ℕ) → get_or bytes i 0 < 256) → from_le_bytes w32 bytes < 2 ^ 32
sub_fits bytes below =
    let a = below 0 in
    let b = below 1 in
    let c = below 2 in
    let d = below 3 in
    omega arith

authority_fits : (bytes : List ℕ) → ((i : ℕ) → get_or bytes i 0 < 256) → authority_at_front bytes < 2 ^ 48
unfolding authority_at_front
authority_fits bytes below =
    let a = below 0 in
    let b = below 1 in
    let c = below 2 in
    let d = below 3 in
    let e = below 4 in
    let f = below 5 in
    omega arith

bytes_dropped : (n : ℕ) (bytes : List ℕ) → ((i : ℕ) → get_or bytes i 0 < 256) → (i : ℕ) →
    get_or (drop n bytes) i 0 < 256
bytes_dropped n bytes below i = subst (λ (x : ℕ). x < 256) (sym (get_or-drop n bytes i 0)) (below (n + i))

subs_fit : (count : ℕ) (bytes : List ℕ) → ((i : ℕ) → get_or bytes i 0 < 256) →
    All (λ sub. sub < 2 ^ 32) (subs_at_front count bytes)
unfolding subs_at_front
subs_fit zero bytes below = λ k d within. absurd (omega arith)
subs_fit (suc count) bytes below =
    All-cons (λ sub. sub < 2 ^ 32) (from_le_bytes w32 bytes) (subs_at_front count (drop 4 bytes)) (sub_fits bytes below)
    (subs_fit count (drop 4 bytes) (bytes_dropped 4 bytes below))

all_below : (bytes : List ℕ) → All (λ byte. byte < 256) bytes → (i : ℕ) → get_or bytes i 0 < 256
all_below bytes all i = ⊎_elim (λ (inside : i < length bytes). all i 0 inside)
    (λ (past : length bytes ≤ i). subst (λ (x : ℕ). x < 256) (sym (get_or_past bytes i 0 past)) (omega arith))
    (cases_lt i (length bytes))

pub read_written_back : (bytes : List ℕ) (sid : SidValue) → All (λ byte. byte < 256) bytes → sid_of_bytes bytes ≡ Ok sid
    → IsSid sid × BeginWithSid bytes sid
unfolding sid_of_bytes
read_written_back bytes sid all read =
    let below : (i : ℕ) → get_or bytes i 0 < 256 = all_below bytes all in
    let a = refused_if (nat_lt (length bytes) 8) Short _ sid read in
    let b = refused_if (not (slice_index bytes 0 == 1)) Revision _ sid a.1 in
    let d = refused_if (nat_lt 15 (slice_index bytes 1)) Count _ sid b.1 in
    let e = refused_if (nat_lt (length bytes) (8 + 4 * slice_index bytes 1)) Short _ sid d.1 in
    let eight : 8 ≤ length bytes = (let t = a.0 in grind (arith, nat_tests)) in
    let revision : slice_index bytes 0 ≡ 1 = (let t = b.0 in grind (arith, nat_tests)) in
    let few : slice_index bytes 1 ≤ 15 = (let t = d.0 in grind (arith, nat_tests)) in
    let there : 8 + 4 * slice_index bytes 1 ≤ length bytes = (let t = e.0 in grind (arith, nat_tests)) in
    let found : SidValue = record {
      authority = authority_at_front (drop 2 bytes);
      subs =
          subs_at_front (slice_index bytes 1) (drop 8 bytes);
    } in
    let same : found ≡ sid = (let t = e.1 in cc) in
    subst (λ (sid : SidValue). IsSid sid × BeginWithSid bytes sid) same (
      record {
        authority_fits = authority_fits (drop 2 bytes) (bytes_dropped 2 bytes below);
        count_fits = subst (λ (n : ℕ). n ≤ 15) (sym (length-subs_at_front (slice_index bytes 1) (drop 8 bytes))) few;
        subs_fit = subs_fit (slice_index bytes 1) (drop 8 bytes) (bytes_dropped 8 bytes below);
      },
      spelled bytes eight revision there below,
    )

-- The reader against the grammar of texts
use Rattle.std.proofs.Common.{◌≡◌, ℕ, zero, suc, ◌+◌, ◌-◌, ◌^◌, ◌<◌, ◌⊎◌, inl, inr, List, [], ◌∷◌, ◌++◌, length, take}
use Rattle.std.proofs.Common.{drop, get_or, replicate, arith, refl, sym, ap, ◌∙◌, Option, Some, None, codes}
use Rattle.std.proofs.Common.{append_assoc, subst, true, false}
use Rattle.std.specs.Prelude.{option_and_then, nat_lt, if◌then◌else◌}
use Rattle.std.specs.Fmt.{decimal}
use Rattle.std.specs.Str.Parse.{AllDigits, digits_value}
use Rattle.std.proofs.lemmas.Fmt.{decimal_digit}
use Rattle.std.proofs.lemmas.Bool.Decides.{nat_tests}
use Rattle.std.proofs.lemmas.List.{append-nil, length-append, take_more, take-append-drop, length-replicate, take_all}
use Rattle.std.proofs.Math.Seq.{take-add}
use Rattle.std.proofs.lemmas.Int.Digits.{digits_push}
use Rattle.dtyp_sid.specs.Sids.{SidValue, IsSid, with_last, authority_alone}
use Rattle.dtyp_sid.specs.Text.{IsText, IsDecimalAuthority, IsHexadecimalAuthority, IsSidText, BeginsText, IsBadPlace}
use Rattle.dtyp_sid.specs.Text.{text_of, authority_text, hexadecimal}
use Rattle.dtyp_sid.specs.Reading.{stage_after, read_on, finished, sid_of_text}
use Rattle.dtyp_sid.specs.declared.reading.Stage.{Stage}
use Rattle.dtyp_sid.specs.declared.reading.Stage.TheVariants.{Opening, Decimal, Hexadecimal, Dashed, Sub}
use Rattle.dtyp_sid.proofs.Hexadecimals.{hexadecimal_are_digits, length-hexadecimal, digits_value-hexadecimal}
use Rattle.dtyp_sid.proofs.Reader.{read_on-append, reads_text}
use Rattle.dtyp_sid.proofs.Shown.{Shows, alone_text, more_text, hexadecimal_fits, finished_text, shows_more, some_bind}

-- what is read shows its stage
shown : (text : List ℕ) (last : Stage) → read_on (Opening 0) text ≡ Some last → Shows last text
shown text last read = shows_more text (Opening 0) [] last (omega arith, refl) read

-- the stage that is read gives the SID of the text
pub read_text : (text : List ℕ) (last : Stage) (sid : SidValue) → read_on (Opening 0) text ≡ Some last → finished last
    ≡ Some sid → IsText text sid
read_text text last sid read ends = finished_text last text sid (shown text last read) ends

-- a stage that gives no SID shows that the text is none
pub no_text : (text : List ℕ) (last : Stage) → read_on (Opening 0) text ≡ Some last → finished last ≡ None →
    ¬ (IsSidText text)
no_text text last read ends (sid, is) =
    let reads = reads_text text sid is in
    let same : last ≡ reads.last = (let a = reads.read in cc) in
    let finishes = reads.ends.finishes in
    cc

-- where a text may not go on, no text begins so
pub begins_none : (text : List ℕ) → read_on (Opening 0) text ≡ None → ¬ (BeginsText text)
begins_none text read (rest, (sid, is)) =
    let reads = reads_text (text ++ rest) sid is in
    let fails : read_on (Opening 0) (text ++ rest) ≡ None = read_on-append (Opening 0) text rest
    ∙ ap (option_and_then (λ next. read_on next rest)) read in
    let a = reads.read in
    cc

-- what begins a longer prefix begins a text
begins_shorter : (front more : List ℕ) → BeginsText (front ++ more) → BeginsText front
begins_shorter front more (rest, (sid, is)) =
    (more ++ rest, (sid, subst (λ (text : List ℕ). IsText text sid) (append_assoc front more rest) is))

zeros_are_digits : (count : ℕ) (digits : List ℕ) → AllDigits 16 digits → AllDigits 16 (digits ++ replicate count 48)
zeros_are_digits zero digits are = subst (λ (ds : List ℕ). AllDigits 16 ds) (sym (append-nil digits)) are
zeros_are_digits (suc count) digits are =
    subst (λ (ds : List ℕ). AllDigits 16 ds) (append_assoc digits (48 ∷ []) (replicate count 48))
    (zeros_are_digits count (digits ++ 48 ∷ []) (digits_push 16 digits 48 are (omega arith)))

some_again : {X : Type 0} (o : Option X) → option_and_then (λ x. Some x) o ≡ o
some_again None = refl
some_again (Some x) = refl

-- each stage begins some text
begins : (stage : Stage) (text : List ℕ) → Shows stage text → BeginsText text
begins (Opening count) text shows = (
  drop count (codes "S-1-") ++ codes "0",
  (
    authority_alone 0,
    let is : IsText (codes "S-1-" ++ decimal 0) (authority_alone 0) =
        alone_text (decimal 0) 0 (omega arith) (inl (record { fits = omega arith; spelled = refl })) in
        let spelled : text ++ (drop count (codes "S-1-") ++ codes "0") ≡ codes "S-1-" ++ decimal 0 =
        ap (λ front. front ++ (drop count (codes "S-1-") ++ codes "0")) shows.1
        ∙ sym (append_assoc (take count (codes "S-1-")) (drop count (codes "S-1-")) (codes "0"))
        ∙ ap (λ front. front ++ codes "0") (take-append-drop count (codes "S-1-"))
        ∙ ap (λ digits. codes "S-1-" ++ digits) (sym (decimal_digit 0 (omega arith))) in
        subst (λ (text : List ℕ). IsText text (authority_alone 0)) (sym spelled) is,
  ),
)
begins (Decimal number) text shows = (
  [],
  (
    authority_alone number,
    subst (λ (text : List ℕ). IsText text (authority_alone number)) (sym (append-nil text ∙ shows.1))
        (alone_text (decimal number) number (omega (arith, shows.0)) (inl (record { fits = shows.0; spelled = refl }))),
  ),
)
begins (Hexadecimal count number) text shows =
    let zeros = replicate (12 - count) 48 in
    let digits = shows.digits ++ zeros in
    let twelve : length digits ≡ 12 = length-append shows.digits zeros
    ∙ (let a : length zeros ≡ 12 - count = length-replicate (12 - count) 48 in
    omega (arith, shows.as_many, shows.few)) in
    let are : AllDigits 16 digits = zeros_are_digits (12 - count) shows.digits shows.are_digits in (
      zeros,
      (
        authority_alone (digits_value 16 digits),
        subst (λ (text : List ℕ). IsText text (authority_alone (digits_value 16 digits)))
            (sym (ap (λ text. text ++ zeros) shows.spelled ∙ append_assoc (codes "S-1-0x") shows.digits zeros))
            (alone_text (codes "0x" ++ digits) (digits_value 16 digits) (hexadecimal_fits digits twelve are)
            (inr (record { digits = digits; twelve = twelve; are_digits = are; spelled = refl; number = refl }))),
      ),
    )
begins (Dashed sid) text shows = (
  decimal 0,
  (
    with_last sid 0,
    subst (λ (text : List ℕ). IsText text (with_last sid 0))
        (sym (ap (λ text. text ++ decimal 0) shows.spelled ∙ append_assoc shows.front (codes "-") (decimal 0)))
        (more_text shows.front sid 0 shows.is shows.room (omega arith)),
  ),
)
begins (Sub sid number) text shows = (
  [],
  (
    with_last sid number,
    subst (λ (text : List ℕ). IsText text (with_last sid number)) (sym (append-nil text ∙ shows.spelled))
        (more_text shows.front sid number shows.is shows.room shows.fits),
  ),
)

-- one byte more of a text is read
pub read_byte : (text : List ℕ) (place : ℕ) (stage : Stage) → place < length text →
    read_on (Opening 0) (take place text) ≡ Some stage
    → read_on (Opening 0) (take (place + 1) text) ≡ stage_after stage (get_or text place 0)
read_byte text place stage inside read =
    ap (read_on (Opening 0)) (take_more text place 0 inside)
    ∙ read_on-append (Opening 0) (take place text) (get_or text place 0 ∷ [])
    ∙ ap (option_and_then (λ next. read_on next (get_or text place 0 ∷ []))) read
    ∙ some_again (stage_after stage (get_or text place 0))

-- a text that breaks at a byte
pub bad_at : (text : List ℕ) (place : ℕ) (stage : Stage) → place < length text
    → read_on (Opening 0) (take place text) ≡ Some stage → stage_after stage (get_or text place 0) ≡ None →
    IsBadPlace text place
bad_at text place stage inside read stops =
    let fails : read_on (Opening 0) (take (place + 1) text) ≡ None = read_byte text place stage inside read ∙ stops in
    record {
      no_text = λ whole. begins_none _ fails (begins_shorter (take (place + 1) text) (drop (place + 1) text) (
        [],
        (
          whole.0,
          subst (λ (t : List ℕ). IsText t whole.0)
              (sym (append-nil (take (place + 1) text ++ drop (place + 1) text) ∙ take-append-drop (place + 1) text))
              whole.1,
        ),
      ));
      within = omega arith;
      begins = begins stage (take place text) (shown _ stage read);
      longest = λ more after within starts.
          begins_none _ fails (begins_shorter (take (place + 1) text)
          (take (more - (place + 1)) (drop (place + 1) text))
          (let all : more ≡ (place + 1) + (more - (place + 1)) = omega arith in
          subst (λ (front : List ℕ). BeginsText front)
          (ap (λ n. take n text) all ∙ take-add (place + 1) (more - (place + 1)) text) starts));
    }

-- a text that breaks at its end
pub bad_end : (text : List ℕ) (last : Stage) → read_on (Opening 0) text ≡ Some last → finished last ≡ None →
    IsBadPlace text (length text)
bad_end text last read ends = record {
  no_text = no_text text last read ends;
  within = omega arith;
  begins = begins last (take (length text) text)
      (shown _ last (ap (read_on (Opening 0)) (take_all (length text) text (omega arith)) ∙ read));
  longest = λ more after within starts. absurd (omega arith);
}

-- the function from texts to SIDs is the grammar
pub sid_of_text-is : (text : List ℕ) (sid : SidValue) → IsText text sid → sid_of_text text ≡ Some sid
unfolding sid_of_text
sid_of_text-is text sid is =
    let reads = reads_text text sid is in
    ap (option_and_then finished) reads.read ∙ reads.ends.finishes

pub text-of_sid : (text : List ℕ) (sid : SidValue) → sid_of_text text ≡ Some sid → IsText text sid
unfolding sid_of_text
text-of_sid text sid is =
    let steps = some_bind finished (read_on (Opening 0) text) sid is in
    read_text text steps.0 sid steps.1 steps.2

pub one_sid : (text : List ℕ) (left right : SidValue) → IsText text left → IsText text right → left ≡ right
one_sid text left right is_left is_right =
    let a = sid_of_text-is text left is_left in
    let b = sid_of_text-is text right is_right in
    cc

-- the written authority is a text of it
written_authority : (authority : ℕ) → authority < 2 ^ 48 →
    IsDecimalAuthority (authority_text authority) authority ⊎ IsHexadecimalAuthority
    (authority_text authority) authority
unfolding authority_text
written_authority authority fits =
    elim (nat_lt authority (2 ^ 32)) as (λ b. (nat_lt authority (2 ^ 32) ≡ b)
    → IsDecimalAuthority (if b then decimal authority else codes "0x"
    ++ hexadecimal 12 authority) authority ⊎ IsHexadecimalAuthority
    (if b then decimal authority else codes "0x" ++ hexadecimal 12 authority) authority) [
      | true ↦ λ below. inl (record { fits = grind (arith, nat_tests); spelled = refl })
      | false ↦ λ above. inr (record {
        digits = hexadecimal 12 authority;
        twelve = length-hexadecimal 12 authority;
        are_digits = hexadecimal_are_digits 12 authority;
        spelled = refl;
        number = digits_value-hexadecimal 12 authority fits;
      })
    ] refl

pub written_text : (sid : SidValue) → IsSid sid → IsText (text_of sid) sid
unfolding text_of
written_text sid limits = record {
  limits = limits;
  authority = authority_text sid.authority;
  is_authority = written_authority sid.authority limits.authority_fits;
  spelled = refl;
}

-- a text of no SID
pub sid_of_text-none : (text : List ℕ) → ¬ (IsSidText text) → sid_of_text text ≡ None
sid_of_text-none text none =
    elim (sid_of_text text) as (λ o. (sid_of_text text ≡ o) → o ≡ None)
    [ None ↦ λ is. refl | Some sid ↦ λ is. absurd (none (sid, text-of_sid text sid is)) ] refl

-- two SIDs with one written text are one
pub written_one : (left right : SidValue) → IsSid left → IsSid right → text_of left ≡ text_of right → left ≡ right
written_one left right is_left is_right same =
    one_sid (text_of right) left right (subst (λ (text : List ℕ). IsText text left) same (written_text left is_left))
    (written_text right is_right)

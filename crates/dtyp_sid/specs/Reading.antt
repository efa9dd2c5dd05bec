-- How a text is read, byte by byte: the stages of the reader, and the SID that it has read
use Rattle.std.specs.Prelude.{◌≡◌, ℕ, ◌+◌, ◌-◌, ◌*◌, ◌^◌, ◌<◌, ◌≤◌, ◌↔◌, ◌&&◌, not, List, [], ◌∷◌, length, slice_index}
use Rattle.std.specs.Prelude.{nat_lt, ◌==◌, if◌then◌else◌, codes, option_and_then, option_map}
use Rattle.std.specs.Char.{is_ascii_digit, digit_value, is_digit}
use Rattle.std.specs.declared.option.Option.{Option}
use Rattle.std.specs.declared.option.Option.TheVariants.{Some, None}
use Rattle.dtyp_sid.specs.Sids.{SidValue, sid_max_sub_authorities, with_last, authority_alone}
use Rattle.dtyp_sid.specs.Text.{IsText}
use Rattle.dtyp_sid.specs.declared.reading.Stage.{Stage}
use Rattle.dtyp_sid.specs.declared.reading.Stage.TheVariants.{Opening, Decimal, Hexadecimal, Dashed, Sub}

-- the number that a digit begins
abbrev pub first_digit : ℕ → Option ℕ
first_digit byte = if is_ascii_digit byte then Some (byte - 48) else None

-- a number of 32 bits with one more digit, which none has after a leading zero
abbrev pub more_digits : ℕ → ℕ → Option ℕ
more_digits number byte =
    if is_ascii_digit byte && (not (number == 0) && nat_lt (number * 10 + (byte - 48)) (2 ^ 32)) then
    Some (number * 10 + (byte - 48)) else None

-- the stage after one more byte, where a text may go on so
unfoldable pub stage_after : Stage → ℕ → Option Stage
stage_after (Opening count) byte =
    if nat_lt count 4 then (if byte == slice_index (codes "S-1-") count then Some (Opening (count + 1)) else None)
    else option_map Decimal (first_digit byte)
stage_after (Decimal number) byte =
    if byte == 45 then Some (Dashed (authority_alone number))
    else (if (byte == 120) && (number == 0) then Some (Hexadecimal 0 0) else
    option_map Decimal (more_digits number byte))
stage_after (Hexadecimal count number) byte =
    if nat_lt count 12 then (if is_digit byte 16 then Some (Hexadecimal (count + 1) (number * 16 + digit_value byte))
    else None)
    else (if byte == 45 then Some (Dashed (authority_alone number)) else None)
stage_after (Dashed sid) byte = option_map (Sub sid) (first_digit byte)
stage_after (Sub sid number) byte =
    if byte == 45 then
    (if nat_lt (length sid.subs) (sid_max_sub_authorities - 1) then Some (Dashed (with_last sid number)) else None)
    else option_map (Sub sid) (more_digits number byte)

-- the stage after the bytes, where a text may go on so
abbrev pub read_on : Stage → List ℕ → Option Stage
read_on stage [] = Some stage
read_on stage (byte ∷ bytes) = option_and_then (λ next. read_on next bytes) (stage_after stage byte)

-- the SID that is read, where a text may end so
unfoldable pub finished : Stage → Option SidValue
finished (Opening count) = None
finished (Decimal number) = Some (authority_alone number)
finished (Hexadecimal count number) = if nat_lt count 12 then None else Some (authority_alone number)
finished (Dashed sid) = None
finished (Sub sid number) = Some (with_last sid number)

-- the SID that has the text
unfoldable pub sid_of_text : List ℕ → Option SidValue
sid_of_text text = option_and_then finished (read_on (Opening 0) text)

-- what a stage of the reader keeps
abbrev pub IsStage : Stage → Type 0
IsStage (Opening count) = count ≤ 4
IsStage (Decimal number) = Unit {0}
IsStage (Hexadecimal count number) = (count ≤ 12) × (number < 16 ^ count)
IsStage (Dashed sid) = length sid.subs < sid_max_sub_authorities
IsStage (Sub sid number) = length sid.subs < sid_max_sub_authorities

-- the function from texts to SIDs gives a SID exactly for its texts
abbrev pub ReadTextsAreTexts : Type 0
ReadTextsAreTexts = (text : List ℕ) (sid : SidValue) → (sid_of_text text ≡ Some sid) ↔ IsText text sid

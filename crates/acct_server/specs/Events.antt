-- The lines of an event file, and what each of them says.
use Rattle.std.specs.Prelude.{ℕ, ◌≤◌, ◌==◌, Bool, false, ◌&&◌, List, [], ◌∷◌, length, codes}
use Rattle.std.specs.Prelude.{Option, Some, None, Result, Ok, Err, if◌then◌else◌}
use Rattle.std.specs.Str.{bytes_eq}
use Rattle.acct_base.specs.Words.{is_within, parted, decimal_of}
use Rattle.hex.specs.Hex.{decode_of}
use Rattle.hex.specs.declared.FromHexError.{FromHexError}
use Rattle.hex.specs.declared.FromHexError.TheVariants.{OutOfMemory}
use Rattle.acct_server.specs.declared.events.Event.{Event}
use Rattle.acct_server.specs.declared.events.Event.TheVariants.{Nothing, Open, Data, End}
use Rattle.acct_server.specs.declared.events.LineError.{LineError}
use Rattle.acct_server.specs.declared.events.LineError.TheVariants.{Refused, NoMemory}

abbrev pub begins_with_feed : List ℕ → Bool
begins_with_feed [] = false
begins_with_feed (b ∷ bytes) = b == 10

abbrev pub first_line : ℕ → List (List ℕ) → List (List ℕ)
first_line b [] = (b ∷ []) ∷ []
first_line b (line ∷ lines) = (b ∷ line) ∷ lines

-- the lines, each up to a line feed, a carriage return and a line feed, or the end
abbrev pub lines_of : List ℕ → List (List ℕ)
lines_of [] = []
lines_of (b ∷ bytes) =
    if b == 10 then [] ∷ lines_of bytes
    else (if (b == 13) && begins_with_feed bytes then lines_of bytes else first_line b (lines_of bytes))

abbrev pub from_1_below_2^32 : Option ℕ → Option ℕ
from_1_below_2^32 None = None
from_1_below_2^32 (Some n) = if is_within 1 0xFFFFFFFF n then Some n else None

-- a number from 1 to 2 ^ 32 - 1 in decimal digits, without a leading zero
unfoldable pub number_of : List ℕ → Option ℕ
number_of word = from_1_below_2^32 (decimal_of 10 word)

abbrev pub opens : Option ℕ → List ℕ → Option Event
opens None listener = None
opens (Some conn) listener = Some (Open conn listener)

-- what digits that spell no bytes make of their line
abbrev pub undecoded : FromHexError → LineError
undecoded OutOfMemory = NoMemory
undecoded _ = Refused

abbrev pub brings : Option ℕ → Result (List ℕ) FromHexError → Option Event
brings None decoded = None
brings (Some conn) (Ok bytes) = Some (Data conn bytes)
brings (Some conn) (Err e) = None

abbrev pub ends : Option ℕ → Option Event
ends None = None
ends (Some conn) = Some (End conn)

-- an opening or data, after the command
abbrev pub of_two : List ℕ → Option (List ℕ × List ℕ) → Option Event
of_two command None = None
of_two command (Some (word, rest)) =
    if bytes_eq command (codes "open") then opens (number_of word) rest
    else (if bytes_eq command (codes "data") then brings (number_of word) (decode_of rest) else None)

abbrev pub of_command : Option (List ℕ × List ℕ) → Option Event
of_command None = None
of_command (Some (command, rest)) =
    if bytes_eq command (codes "end") then ends (number_of rest) else of_two command (parted 32 rest)

-- what a line says: `open N LISTENER`, `data N HEX`, `end N`, or nothing in an empty line and after a `#`
unfoldable pub event_of : List ℕ → Option Event
event_of [] = Some Nothing
event_of (b ∷ line) = if b == 35 then Some Nothing else of_command (parted 32 (b ∷ line))

-- data has at most so many bytes
abbrev pub DataFits : ℕ → Event → Type 0
DataFits most Nothing = Unit {0}
DataFits most (Open conn listener) = Unit {0}
DataFits most (Data conn bytes) = length bytes ≤ most
DataFits most (End conn) = Unit {0}

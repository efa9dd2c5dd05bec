-- What a run of lines comes to.
use Rattle.std.specs.Prelude.{◌≡◌, ℕ, ◌+◌, ◌-◌, ◌≤◌, ◌^◌, if◌then◌else◌, List, [], ◌∷◌, length, replicate}
use Rattle.host_lines.specs.declared.tally.Tally.{Tally}
use Rattle.host_lines.specs.declared.tally.Turn.{Turn}
use Rattle.host_lines.specs.Tally.{lines_a_minute, asked}

-- the turns of lines, by the minute in which each is asked for, and the tally after them
abbrev pub turns : Tally → List ℕ → List Turn
turns tally [] = []
turns tally (minute ∷ minutes) = (asked minute tally).1 ∷ turns (asked minute tally).0 minutes

abbrev pub after : Tally → List ℕ → Tally
after tally [] = tally
after tally (minute ∷ minutes) = after (asked minute tally).0 minutes

-- how many were written, how many were left out, and how many were told as left out
abbrev pub written_in : List Turn → ℕ
written_in [] = 0
written_in (turn ∷ turns) = (if turn.is_written then 1 else 0) + written_in turns

abbrev pub left_out_in : List Turn → ℕ
left_out_in [] = 0
left_out_in (turn ∷ turns) = (if turn.is_written then 0 else 1) + left_out_in turns

abbrev pub told_in : List Turn → ℕ
told_in [] = 0
told_in (turn ∷ turns) = turn.told + told_in turns

-- of the lines that are asked for one after the other in one minute at most so many are written
abbrev pub AtMostSoManyAMinute : Type 0
AtMostSoManyAMinute = (tally : Tally) (minute count : ℕ) →
    written_in (turns tally (replicate count minute)) ≤ lines_a_minute

-- what wasn't told yet and what was left out since is what was told since and what isn't told yet
abbrev pub EachIsWrittenOrTold : Type 0
EachIsWrittenOrTold = (tally : Tally) (minutes : List ℕ) → tally.left_out + length minutes ≤ 2 ^ 64 - 1 →
    tally.left_out + left_out_in (turns tally minutes)
    ≡ told_in (turns tally minutes) + (after tally minutes).left_out

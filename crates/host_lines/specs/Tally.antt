-- Which of the lines that are asked for are written, and what is told of those that aren't.
use Rattle.std.specs.Prelude.{ℕ, ◌+◌, ◌-◌, ◌^◌, ◌==◌, true, false, if◌then◌else◌, min, nat_lt}
use Rattle.host_lines.specs.declared.tally.Tally.{Tally}
use Rattle.host_lines.specs.declared.tally.Turn.{Turn}

abbrev pub lines_a_minute : ℕ
lines_a_minute = 30

-- a minute in which nothing was written yet
abbrev pub begun : ℕ → Tally
begun minute = record { minute = minute; written = 0; left_out = 0 }

-- in a minute: where another one runs it begins, and what was left out before is told
abbrev pub settled : ℕ → Tally → Tally × ℕ
settled minute tally = if tally.minute == minute then (tally, 0) else (begun minute, tally.left_out)

-- so many lines more are left out
abbrev pub missed : ℕ → Tally → Tally
missed count tally = record tally { left_out = min (tally.left_out + count) (2 ^ 64 - 1) }

-- a line is written while the minute has had fewer than it may have, and else left out
abbrev pub written : Tally → ℕ → Tally × Turn
written tally told = (record tally { written = tally.written + 1 }, record { told = told; is_written = true })

abbrev pub left : Tally → ℕ → Tally × Turn
left tally told = (missed 1 tally, record { told = told; is_written = false })

abbrev pub decided : Tally × ℕ → Tally × Turn
decided (tally, told) = if nat_lt tally.written lines_a_minute then written tally told else left tally told

-- a line that is asked for in a minute
abbrev pub asked : ℕ → Tally → Tally × Turn
asked minute tally = decided (settled minute tally)

-- The words of the command line.
use Rattle.std.specs.Prelude.{ℕ}

-- the character that no word of a command line has
abbrev pub nul : ℕ
nul = 0

-- The lines so far, followed by those of the served connections left, are those of all that are served.
use Rattle.std.proofs.Common.{◌≡◌, ◌+◌, ◌++◌, drop, map}
use Rattle.std.specs.List.{flat_map}
use Rattle.acct_server.specs.Replayed.{line_bytes, IsGone, served_from}
use Rattle.acct_server.proofs.running.gone_lines.Given as goal

abbrev pub invariant-loop-i : goal.invariant-loop-i
invariant-loop-i l =
    l.lines.items ++ flat_map line_bytes (map IsGone (served_from (l.i + 1) (drop l.i l.peers)))
    ≡ flat_map line_bytes (map IsGone (served_from 1 l.peers))

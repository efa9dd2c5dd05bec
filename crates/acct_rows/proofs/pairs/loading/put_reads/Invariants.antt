-- Putting the rows of the pairs left gives what putting all gives; each pair passed spells the row read of it.
use Rattle.std.proofs.Common.{◌≡◌, ℕ, ◌+◌, ◌<◌, ◌≤◌, drop, length, map, get_or}
use Rattle.acct_keeper.specs.declared.pairs.Pair.{Pair}
use Rattle.acct_rows.specs.Loading.{IsReadWell, somes, placed}
use Rattle.acct_tables.specs.Stored.{row_of}
use Rattle.acct_rows.proofs.pairs.loading.put_reads.Given as goal

abbrev pub invariant-loop-pair : goal.invariant-loop-pair
invariant-loop-pair l = record {
  rest : placed (somes (map row_of (drop l.pair-index l.pairs))) l.rows.lists
      ≡ placed (somes (map row_of l.pairs)) l.fn.rows.lists;
  spelled : (k : ℕ) (d : Pair) → k < l.pair-index → IsReadWell (get_or l.pairs k d);
  room : length l.pairs ≤ l.rows.spare + l.pair-index;
}

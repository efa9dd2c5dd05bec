-- `put_reads` meets its contract: pairs are read one by one.
use Rattle.std.proofs.Common.{◌+◌, drop, map, sym, ap, ◌∙◌, arith, rules}
use Rattle.acct_rows.specs.Loading.{somes, placed}
use Rattle.acct_rows.specs.Rows.{Lists}
use Rattle.acct_tables.specs.Stored.{row_of}
use Rattle.acct_rows.proofs.Loaded.{next_loaded, all_loaded, next_read}
use Rattle.acct_rows.proofs.pairs.loading.put_reads.Goals as goal

pub loop-pair-preserved : goal.loop-pair-preserved
loop-pair-preserved c =
    let pairs = c.args.pairs.now in
    let i = c.loop-pair.pair-index in
    record {
      rest = ap (λ (lists : Lists). placed (somes (map row_of (drop (i + 1) pairs))) lists)
          c.in_ok-put_read.ensures.rows
          ∙ next_loaded pairs i c.pair-item.result c.loop-pair.rows.lists c.loop-pair-test.true c.pair-item.is
          ∙ c.loop-pair.invariant.rest;
      spelled = next_read pairs i c.pair-item.result c.loop-pair-test.true c.pair-item.is
          c.in_ok-put_read.ensures.spelled
          c.loop-pair.invariant.spelled;
      room = search rules;
    }

pub returns-clause-rows : goal.returns-clause-rows
returns-clause-rows c =
    sym (all_loaded c.args.pairs.now c.loop-pair.pair-index c.loop-pair.rows.lists c.loop-pair-test.false)
    ∙ c.loop-pair.invariant.rest

pub returns-clause-spelled : goal.returns-clause-spelled
returns-clause-spelled c = λ k d lt. c.loop-pair.invariant.spelled k d (omega (arith, lt, c.loop-pair-test.false))

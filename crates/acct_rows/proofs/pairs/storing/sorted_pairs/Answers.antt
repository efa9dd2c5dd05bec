-- `sorted_pairs` meets its contract: the rows have spellings, and the sorted pairs are those of the rows.
use Rattle.std.proofs.Common.{rules}
use Rattle.std.specs.Cmp.Lexicographic.{nat_list_cmp_total}
use Rattle.std.proofs.lemmas.List.Sorted.{ranks_by, answers_always}
use Rattle.acct_rows.specs.PairRules.{pair_key}
use Rattle.acct_rows.proofs.Fitting.{all_fit}
use Rattle.acct_rows.proofs.Listed.{sorted_are_pairs}
use Rattle.acct_rows.proofs.pairs.storing.sorted_pairs.Goals as goal

pub all_pairs-requires : goal.all_pairs-requires
all_pairs-requires c = all_fit c.args.rows.now.lists c.requires

pub returns : goal.returns
returns c =
    let sorted = c.in_ok-sort_by.ensures in
    sorted_are_pairs c.written_bytes_are_read.ensures c.written_bytes_have_lengths.ensures
    c.read_bytes_are_written.ensures
    c.args.rows.now.lists _ _ c.requires c.in_ok-pairs.ensures sorted.permutation
    (sorted.sorted _ (ranks_by nat_list_cmp_total pair_key) (answers_always _ _ _ (λ f a r f' k. search rules)))

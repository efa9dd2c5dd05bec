-- `is_read_well` meets its contract: what is read of a pair is what it spells.
use Rattle.std.proofs.Common.{ℕ, ◌<◌, ◌^◌, All, List, subst}
use Rattle.acct_tables.proofs.Described.{next_is_spelled}
use Rattle.acct_tables.proofs.Taken.{bytes_from_All}
use Rattle.acct_rows.proofs.pairs.loading.is_read_well.Goals as goal

pub returns : goal.returns
returns c =
    let key = subst (λ (xs : List ℕ). All (λ byte. byte < 2 ^ 8) xs) c.as_slice.ensures c.are_bytes.ensures in
    let value = subst (λ (xs : List ℕ). All (λ byte. byte < 2 ^ 8) xs) c.as_slice-2.ensures c.are_bytes-2.ensures in (
      λ row e. c.read_rows_are_spelled.ensures c.args.pair.now row (record { key = key; value = value }) e,
      λ next e. next_is_spelled c.args.pair.now.value next (bytes_from_All c.args.pair.now.value value) e,
    )

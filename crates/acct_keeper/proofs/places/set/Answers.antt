-- Pairs still ascend after one was put in its place, and after the one with a key was taken out.
use Rattle.std.proofs.Common.{not}
use Rattle.acct_keeper.specs.Pairs.{same_key}
use Rattle.acct_keeper.proofs.Ordered.{is_ascending-put, is_ascending-filter}
use Rattle.acct_keeper.proofs.places.set.Goals as goal

pub returns-in-Some-clause-ascending : goal.returns-in-Some-clause-ascending
returns-in-Some-clause-ascending c =
    rw c.put.ensures.pairs (is_ascending-put (record { key = c.args.change.key; value = c.in-Some.value })
    c.args.pairs.now.items c.requires.ascending)

pub returns-in-None-clause-ascending : goal.returns-in-None-clause-ascending
returns-in-None-clause-ascending c =
    rw c.remove.ensures.pairs (is_ascending-filter (λ x. not (same_key c.as_slice.result.now x.key))
    c.args.pairs.now.items c.requires.ascending)

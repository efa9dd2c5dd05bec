-- `read_ascending` meets its contract: the smallest broken key, or the rows of pairs of which none is broken.
use Rattle.std.proofs.Common.{◌≡◌, None, sym, subst, map, rules}
use Rattle.acct_rows.specs.Loading.{loaded, somes, smallest_broken}
use Rattle.std.specs.Option.{unwrap_or}
use Rattle.acct_rows.specs.PairRules.{next_out_in}
use Rattle.acct_rows.specs.PairsOf.{HoldPairs, migrated}
use Rattle.acct_rows.specs.Rows.{Lists}
use Rattle.acct_rows.specs.Sound.{IsSoundRows}
use Rattle.acct_tables.specs.Stored.{row_of}
use Rattle.acct_rows.proofs.Loaded.{smallest_is, none_is_unbroken, loaded_tables, loaded_fits, loaded_held, next_fits}
use Rattle.acct_rows.proofs.Loaded.{migrated_unbroken}
use Rattle.acct_rows.proofs.Unbroken.{unbroken_is_sound}
use Rattle.acct_rows.proofs.pairs.loading.read_ascending.Goals as goal

pub smallest_broken-requires : goal.smallest_broken-requires
smallest_broken-requires c =
    let ok = c.in_ok-rows.ensures in
    record { ascending = c.requires; read_well = ok.spelled; rows = ok.rows }

pub returns-in-Ok-Some-clause-broken : goal.returns-in-Ok-Some-clause-broken
returns-in-Ok-Some-clause-broken c = smallest_is c.args.pairs.now c.requires c.in-Ok-Some.key (search rules)

pub returns-in-Ok-None-clause-unbroken : goal.returns-in-Ok-None-clause-unbroken
returns-in-Ok-None-clause-unbroken c =
    let none : smallest_broken c.args.pairs.now ≡ None = search rules in
    none_is_unbroken c.args.pairs.now c.requires none

pub returns-in-Ok-None-clause-pairs : goal.returns-in-Ok-None-clause-pairs
returns-in-Ok-None-clause-pairs c =
    let pairs = c.args.pairs.now in
    let none : smallest_broken pairs ≡ None = search rules in
    subst (λ (lists : Lists). HoldPairs lists (migrated pairs)) (sym c.in_ok-rows.ensures.rows)
    (loaded_held c.written_bytes_are_read.ensures c.written_bytes_have_lengths.ensures c.read_bytes_are_written.ensures
    c.equal_sids_are_one.ensures pairs c.requires c.in_ok-rows.ensures.spelled
    (none_is_unbroken pairs c.requires none))

pub returns-in-Ok-None-clause-sound : goal.returns-in-Ok-None-clause-sound
returns-in-Ok-None-clause-sound c =
    let pairs = c.args.pairs.now in
    let none : smallest_broken pairs ≡ None = search rules in
    let unbroken = none_is_unbroken pairs c.requires none in
    let back = c.written_bytes_are_read.ensures in
    let sizes = c.written_bytes_have_lengths.ensures in
    let only = c.read_bytes_are_written.ensures in
    let sids = c.equal_sids_are_one.ensures in
    let well = c.in_ok-rows.ensures.spelled in
    let up = loaded_tables (somes (map row_of pairs)) (unwrap_or (next_out_in pairs) 1) in
    let ups = c.requires in
    subst (λ (lists : Lists). IsSoundRows lists) (sym c.in_ok-rows.ensures.rows)
    (unbroken_is_sound back sizes only sids c.same_is_equivalence.ensures (loaded pairs) (migrated pairs)
    (loaded_fits back sizes only sids pairs ups well)
    (loaded_held back sizes only sids pairs ups well unbroken)
    (migrated_unbroken back sizes only sids pairs ups well unbroken)
    (next_fits back sizes only sids pairs ups well)
    up.domains up.accounts up.members up.aliases up.lsa up.descriptors up.outs)

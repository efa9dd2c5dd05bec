-- The seed rows of a domain whose name and SID are valid are sound.
use Rattle.std.proofs.Common.{◌∙◌}
use Rattle.std.proofs.lemmas.Result.{IfOk-weaker}
use Rattle.acct_rows.specs.Sound.{IsSoundRows}
use Rattle.acct_rows.proofs.Seeded.{seeded_is_sound}
use Rattle.acct_rows.proofs.rows.Rows.seed.Goals as goal

pub returns-clause-sound : goal.returns-clause-sound
returns-clause-sound c =
    IfOk-weaker _ _ (λ rows. IsSoundRows rows.lists)
    (λ rows are. seeded_is_sound c.args.name.now c.args.sid rows.lists c.requires.name c.requires.sid
    c.has_units.ensures c.keeps_limits.ensures (are ∙ c.in_ok-tables.ensures)) c.into_rows.ensures

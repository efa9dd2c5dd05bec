-- All accounts that are wanted stand after the RID, so none is missing from those that are walked.
use Rattle.std.proofs.Common.{ap, ◌∙◌}
use Rattle.std.specs.List.{filter}
use Rattle.samr_objects.specs.Enumerations.{is_wanted}
use Rattle.samr_objects.proofs.Wanting.{wanted_behind}
use Rattle.samr_objects.proofs.enumerations.accounts_left.Goals as goal

pub returns : goal.returns
returns c =
    ap (filter (is_wanted c.args.wanted.now)) c.accounts_behind.ensures
    ∙ wanted_behind c.args.wanted.now c.args.rows.now.lists.accounts

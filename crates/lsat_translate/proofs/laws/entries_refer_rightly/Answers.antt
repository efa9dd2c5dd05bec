-- The index of a match is the place of its domain among those that are referred to.
use Rattle.lsat_translate.proofs.Referring.{refers}
use Rattle.lsat_translate.proofs.laws.entries_refer_rightly.Goals as goal

pub returns : goal.returns
returns c = refers

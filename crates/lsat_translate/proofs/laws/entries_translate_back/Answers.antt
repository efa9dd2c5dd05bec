-- Each mapped entry has a SID that is translated to the same use and domain.
use Rattle.lsat_translate.proofs.Shown.{entries-back}
use Rattle.lsat_translate.proofs.laws.entries_translate_back.Goals as goal

pub returns : goal.returns
returns c = entries-back c.entries_refer_rightly.ensures c.sids_translate_back.ensures

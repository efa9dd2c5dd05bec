-- The SID of what a name is translated to is translated to the same.
use Rattle.lsat_translate.proofs.Back.{translate-back}
use Rattle.lsat_translate.proofs.laws.sids_translate_back.Goals as goal

pub returns : goal.returns
returns c = translate-back c.each_is_good.ensures c.equal_sids_are_one.ensures

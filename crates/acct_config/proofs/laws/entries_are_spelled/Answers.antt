-- An entry is read exactly from its texts, since a SID is read exactly from its own.
use Rattle.acct_config.proofs.Spelling.{entries_spelled}
use Rattle.acct_config.proofs.laws.entries_are_spelled.Goals as goal

pub returns : goal.returns
returns c = entries_spelled c.read_texts_are_texts.ensures

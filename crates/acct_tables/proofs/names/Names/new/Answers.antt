-- Where there is no account, no name is kept.
use Rattle.std.proofs.Common.{ap, ◌∙◌}
use Rattle.acct_tables.proofs.Named.{no_names}
use Rattle.acct_tables.proofs.names.Names.new.Goals as goal

pub returns : goal.returns
returns c = ap (λ keys. (keys, 0)) (c.new.ensures.items ∙ no_names)

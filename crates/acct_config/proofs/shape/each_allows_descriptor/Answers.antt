-- `each_allows_descriptor` holds just where each kind's key is absent or has a descriptor: one other stops it.
use Rattle.std.proofs.Common.{rules, tests}
use Rattle.std.proofs.lemmas.Iterator.{YieldsList-from_slice}
use Rattle.std.proofs.lemmas.Iterator.Search.{all_from_yields_List}
use Rattle.toml.specs.View.{view}
use Rattle.acct_config.specs.Kinds.{kind_name}
use Rattle.acct_config.specs.Document.{optional, is_descriptor}
use Rattle.acct_config.proofs.shape.each_allows_descriptor.Goals as goal

pub returns : goal.returns
returns c =
    all_from_yields_List (λ kind. optional is_descriptor (kind_name kind) (view c.args.value.now)) _ _ _
    c.all.ensures.ran
    (YieldsList-from_slice c.args.kinds.now cc) (λ x b q k. search (rules, tests))

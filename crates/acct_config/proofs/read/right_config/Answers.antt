-- Where the document breaks no rule, the configuration that is read of it is right.
use Rattle.std.proofs.Common.{List, All, sym, subst, ◌∙◌, ap}
use Rattle.toml.specs.View.{view}
use Rattle.dtyp_access.specs.declared.descriptor.Descriptor.{Descriptor}
use Rattle.dtyp_access.specs.Parts.{HasFewAces, IsDescriptor}
use Rattle.acct_config.specs.declared.config.Config.{Config}
use Rattle.acct_config.specs.Spelled.{IsRightConfig}
use Rattle.acct_config.proofs.Kept.{few-read, right-read}
use Rattle.acct_config.proofs.read.right_config.Goals as goal

pub keep_limits-requires : goal.keep_limits-requires
keep_limits-requires c =
    subst (λ (ds : List Descriptor). All (λ d. HasFewAces d.acl) ds)
    (sym (c.as_slice.ensures ∙ ap (λ (x : Config). x.descriptors) c.in_ok-config.ensures))
    (few-read (view c.args.document.now) c.requires)

pub returns-clause-right : goal.returns-clause-right
returns-clause-right c =
    let same = c.in_ok-config.ensures in
    subst IsRightConfig (sym same) (right-read (view c.args.document.now) c.requires
    (subst (λ (ds : List Descriptor). All IsDescriptor ds)
    (c.as_slice.ensures ∙ ap (λ (x : Config). x.descriptors) same) c.keep_limits.ensures))

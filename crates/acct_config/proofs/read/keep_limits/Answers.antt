-- Each descriptor is one that was passed, or the next one.
use Rattle.std.proofs.Common.{◌≤◌, All, length, List, subst, arith}
use Rattle.std.proofs.lemmas.List.{take_all}
use Rattle.std.proofs.lemmas.List.Elements.{All-more}
use Rattle.dtyp_access.specs.declared.descriptor.Descriptor.{Descriptor}
use Rattle.dtyp_access.specs.Parts.{IsDescriptor}
use Rattle.acct_config.proofs.read.keep_limits.Goals as goal

pub loop-descriptor-preserved : goal.loop-descriptor-preserved
loop-descriptor-preserved c =
    All-more IsDescriptor c.args.descriptors.now c.loop-descriptor.descriptor-index c.descriptor-item.result
    c.loop-descriptor-test.true c.loop-descriptor.invariant
    (subst IsDescriptor c.descriptor-item.is c.keeps_limits.ensures)

pub returns : goal.returns
returns c =
    let all : length c.args.descriptors.now ≤ c.loop-descriptor.descriptor-index = omega arith in
    subst (λ (ds : List Descriptor). All IsDescriptor ds)
    (take_all c.loop-descriptor.descriptor-index c.args.descriptors.now all) c.loop-descriptor.invariant

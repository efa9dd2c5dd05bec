-- The descriptor of the row is the object's, and where there is none it is the one that is configured.
use Rattle.std.proofs.Common.{rules, ◌≡◌, Option, Some, None, ◌∙◌, ap}
use Rattle.std.specs.Option.{option_or}
use Rattle.dtyp_access.specs.declared.descriptor.Descriptor.{Descriptor}
use Rattle.acct_tables.specs.Keys.{kind_of}
use Rattle.acct_rows.specs.Rows.{descriptor_of}
use Rattle.acct_machine.specs.Access.{configured}
use Rattle.acct_machine.proofs.opening.described.Goals as goal

pub returns-in-Some : goal.returns-in-Some
returns-in-Some c =
    let usual : Option Descriptor = configured c.args.config.now (kind_of c.args.object.now) in
    let row : Some c.in-Some.descriptor.now ≡ descriptor_of c.args.rows.now.lists c.args.object.now = search rules in
    ap (λ (o : Option Descriptor). option_or o usual) row

pub returns-in-None : goal.returns-in-None
returns-in-None c =
    let usual : Option Descriptor = configured c.args.config.now (kind_of c.args.object.now) in
    let none : None ≡ descriptor_of c.args.rows.now.lists c.args.object.now = search rules in
    let is : Some c.descriptor.result.now ≡ usual = search rules in
    is ∙ ap (λ (o : Option Descriptor). option_or o usual) none

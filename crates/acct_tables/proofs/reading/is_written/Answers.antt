-- `is_written` meets its contract: a list with more entries than may be written isn't written.
use Rattle.std.proofs.Common.{◌≡◌, ◌&&◌, true, false, sym, ap, ◌∙◌, rules}
use Rattle.std.specs.Str.{bytes_eq}
use Rattle.dtyp_access.specs.Parts.{descriptor_bytes}
use Rattle.acct_tables.specs.Stored.{has_few}
use Rattle.acct_tables.proofs.Described.{few_is}
use Rattle.acct_tables.proofs.reading.is_written.Goals as goal

pub write_descriptor-requires : goal.write_descriptor-requires
write_descriptor-requires c = c.has_few_aces.ensures.few.0 c.if-not-has_few_aces.false

pub returns-then-not-has_few_aces : goal.returns-then-not-has_few_aces
returns-then-not-has_few_aces c =
    let acl = c.args.descriptor.now.acl in
    let not : has_few acl ≡ false =
    sym (few_is acl c.has_few_aces.result c.has_few_aces.ensures.few) ∙ c.if-not-has_few_aces.true in
    sym (ap (λ b. b && bytes_eq (descriptor_bytes c.args.descriptor.now) c.args.value.now) not)

pub returns : goal.returns
returns c =
    let acl = c.args.descriptor.now.acl in
    let few : has_few acl ≡ true =
    sym (few_is acl c.has_few_aces.result c.has_few_aces.ensures.few) ∙ c.if-not-has_few_aces.false in
    let same : c.is_same.result ≡ bytes_eq (descriptor_bytes c.args.descriptor.now) c.args.value.now = search rules in
    same ∙ sym (ap (λ b. b && bytes_eq (descriptor_bytes c.args.descriptor.now) c.args.value.now) few)

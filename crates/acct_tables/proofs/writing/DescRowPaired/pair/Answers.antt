-- A descriptor that has a spelling has no more entries than may be written.
use Rattle.acct_tables.proofs.Described.{few_of}
use Rattle.acct_tables.proofs.writing.DescRowPaired.pair.Goals as goal

pub write_descriptor-requires : goal.write_descriptor-requires
write_descriptor-requires c = few_of c.args.self.now.descriptor.acl c.requires.descriptor.acl

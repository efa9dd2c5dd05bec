-- The parts that are shown have few entries, since the descriptor has.
use Rattle.acct_operations.proofs.Securing.{few-listed}
use Rattle.acct_operations.proofs.security.shown_parts.Goals as goal

pub write_parts-requires : goal.write_parts-requires
write_parts-requires c =
    c.in_ok-parts.ensures.few_aces (few-listed c.args.described.now.acl c.requires.acl)

-- A `u` and a number below 65537, of at most five digits, are short enough for a name of ASCII characters.
use Rattle.std.proofs.Common.{rules}
use Rattle.std.proofs.lemmas.Fmt.{length-decimal-le}
use Rattle.acct_commands.proofs.calls.user_name.Goals as goal

pub ascii_name-requires : goal.ascii_name-requires
ascii_name-requires c = search (rules, length-decimal-le 5)

-- The UTF-16 units of the text `site` are the codes of its letters.
use Rattle.std.proofs.Common.{◌≡◌, refl, codes}
use Rattle.std.specs.Str.{chars}
use Rattle.acct_calls.specs.Names.{units_of}
use Rattle.acct_commands.proofs.summary.alias_name.Goals as goal

units : units_of (chars (codes "site")) ≡ codes "site"
unfolding units_of chars
units = refl

pub returns : goal.returns
returns c = rw units at c.from_text.ensures

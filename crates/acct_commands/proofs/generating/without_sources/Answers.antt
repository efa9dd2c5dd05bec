-- A replay with no opening, history or rows and a new keeper is what running out of memory for its sources leaves.
use Rattle.std.proofs.Common.{ℕ, refl}
use Rattle.acct_commands.proofs.Summarizing.{without-sources}
use Rattle.acct_commands.proofs.generating.without_sources.Goals as goal

pub returns : goal.returns
returns c = λ (users : ℕ). without-sources users (record {}) _ refl refl c.new.ensures refl c.new-2.ensures

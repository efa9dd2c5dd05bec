-- The copies so far, followed by the listeners left, are the whole list of listeners.
use Rattle.std.proofs.Common.{◌≡◌, ◌++◌, drop}
use Rattle.acct_config.proofs.config.copy_listeners.Given as goal

abbrev pub invariant-loop-listener : goal.invariant-loop-listener
invariant-loop-listener l = l.copy ++ drop l.listener-index l.listeners ≡ l.listeners

-- What the machine shows of its beginning and of its history.
use Rattle.std.proofs.Common.{◌≤◌, List, subst}
use Rattle.acct_config.specs.Spelled.{IsRightConfig}
use Rattle.acct_config.specs.declared.config.Config.{Config}
use Rattle.acct_machine.specs.Legal.{Legal}
use Rattle.acct_machine.specs.Shown.{Shown}
use Rattle.acct_machine.specs.declared.entry.Entry.{Entry}
use Rattle.acct_rows.specs.Rows.{Lists}
use Rattle.acct_rows.specs.Sound.{IsSoundRows}
use Rattle.door_workers.proofs.kept.Locked.is_good.Goals as goal

pub returns-clause-good : goal.returns-clause-good
returns-clause-good g c =
    let config = c.config-config.ensures in
    let rows = c.opening_rows-rows.ensures in
    let history = c.history-history.ensures in
    record {
      right = subst (λ (m : Shown). IsRightConfig m.past.start.config) c.deref.ensures
          (subst (λ (x : Config). IsRightConfig x) config.all config.right);
      sound = subst (λ (m : Shown). IsSoundRows m.past.start.rows) c.deref-2.ensures
          (subst (λ (r : Lists). IsSoundRows r) rows.all rows.sound);
      legal = subst (λ (m : Shown). Legal m.past.start m.past.history) c.deref-3.ensures
          (subst (λ (h : List Entry). Legal c.deref-3.result.now.past.start h) history.all history.legal);
    }

pub returns-clause-later : goal.returns-clause-later
returns-clause-later g c =
    subst (λ (m : Shown). m.past.start.faults ≤ m.keeper.faults) c.deref-3.ensures
    c.history-history.ensures.counts.later

-- What the operations plan leaves the rows.
use Rattle.std.proofs.Common.{ℕ}
use Rattle.acct_calls.specs.declared.replies.Outs.{Outs}
use Rattle.acct_rows.specs.Rows.{Lists}
use Rattle.acct_rows.specs.Sound.{IsSoundRows}
use Rattle.acct_tables.specs.declared.object.Object.{Object}
use Rattle.acct_rules.specs.Operations.{Keeps}
use Rattle.acct_rules.specs.Planned.{answers}
use Rattle.lsad_rights.specs.Accounts.{guarded}

pub answers-keep : (r : Lists) (status : ℕ) (out : Outs) → IsSoundRows r → Keeps r (answers status out)
answers-keep r status out sound = record { sound = sound; stays = λ x was other. was; opens = λ opening is. cc }

pub guarded-keep : (r : Lists) (object : Object) (desired status : ℕ) (out : Outs) → IsSoundRows r
    → Keeps r (guarded object desired (answers status out))
guarded-keep r object desired status out sound =
    record { sound = sound; stays = λ x was other. was; opens = λ opening is. cc }

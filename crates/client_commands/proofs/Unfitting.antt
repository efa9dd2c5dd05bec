-- Outputs that aren't those of a step's operation.
use Rattle.std.proofs.Common.{◌≡◌, ℕ, List, Option, refl}
use Rattle.acct_calls.specs.declared.handle.Handle.{Handle}
use Rattle.acct_calls.specs.declared.replies.Outs.{Outs}
use Rattle.acct_calls.specs.declared.replies.Outs.TheVariants as outs
use Rattle.dtyp_sid.specs.Sids.{SidValue}
use Rattle.client_commands.specs.declared.command.NamedTask.{NamedTask}
use Rattle.client_commands.specs.declared.command.Task.{Task}
use Rattle.client_commands.specs.declared.outcomes.Outcome.TheVariants.{Unfit}
use Rattle.client_commands.specs.Outcomes.{after_domain, after_look_up}

pub no_sid : (server : Handle) (task : Task) (o : Outs) → ((s : Option SidValue) → o ≡ outs.OneSid s → ⊥)
    → Unfit ≡ after_domain server task o
no_sid server task outs.Nothing not = refl
no_sid server task (outs.Handle h) not = refl
no_sid server task (outs.Created h g r) not = refl
no_sid server task (outs.OneSid s) not = absurd (not s refl)
no_sid server task (outs.Page n e) not = refl
no_sid server task (outs.Shown n v) not = refl
no_sid server task (outs.RidList r) not = refl
no_sid server task (outs.RidUses r u) not = refl
no_sid server task (outs.NameUses n u) not = refl
no_sid server task (outs.Pairs p) not = refl
no_sid server task (outs.SidList s) not = refl
no_sid server task (outs.SidPage n s) not = refl
no_sid server task (outs.PrivilegePage n e) not = refl
no_sid server task (outs.Privileges p) not = refl
no_sid server task (outs.Bits b) not = refl
no_sid server task (outs.Luid l h) not = refl
no_sid server task (outs.OneName n) not = refl
no_sid server task (outs.NameList n) not = refl
no_sid server task (outs.Sids d e m) not = refl
no_sid server task (outs.Names d e m) not = refl
no_sid server task (outs.SidRefs d e m) not = refl
no_sid server task (outs.Display c t r e) not = refl
no_sid server task (outs.Security b) not = refl

pub no_uses : (domain : Handle) (task : NamedTask) (o : Outs)
    → ((rids uses : List ℕ) → o ≡ outs.RidUses rids uses → ⊥) → Unfit ≡ after_look_up domain task o
no_uses domain task outs.Nothing not = refl
no_uses domain task (outs.Handle h) not = refl
no_uses domain task (outs.Created h g r) not = refl
no_uses domain task (outs.OneSid s) not = refl
no_uses domain task (outs.Page n e) not = refl
no_uses domain task (outs.Shown n v) not = refl
no_uses domain task (outs.RidList r) not = refl
no_uses domain task (outs.RidUses r u) not = absurd (not r u refl)
no_uses domain task (outs.NameUses n u) not = refl
no_uses domain task (outs.Pairs p) not = refl
no_uses domain task (outs.SidList s) not = refl
no_uses domain task (outs.SidPage n s) not = refl
no_uses domain task (outs.PrivilegePage n e) not = refl
no_uses domain task (outs.Privileges p) not = refl
no_uses domain task (outs.Bits b) not = refl
no_uses domain task (outs.Luid l h) not = refl
no_uses domain task (outs.OneName n) not = refl
no_uses domain task (outs.NameList n) not = refl
no_uses domain task (outs.Sids d e m) not = refl
no_uses domain task (outs.Names d e m) not = refl
no_uses domain task (outs.SidRefs d e m) not = refl
no_uses domain task (outs.Display c t r e) not = refl
no_uses domain task (outs.Security b) not = refl

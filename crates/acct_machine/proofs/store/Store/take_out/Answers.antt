-- Rows from whose outbox the first row is removed are sound.
use Rattle.std.proofs.Common.{◌≡◌, Some, refl, sym, ap, subst}
use Rattle.acct_rows.specs.Rows.{Lists}
use Rattle.acct_rows.specs.Sound.{IsSoundRows}
use Rattle.acct_rows.specs.declared.plan.Plan.{Plan}
use Rattle.acct_machine.specs.Committing.{MayCommit}
use Rattle.acct_machine.specs.Outbox.{least_in}
use Rattle.acct_machine.specs.State.{State}
use Rattle.acct_machine.proofs.Leaving.{first-leaves}
use Rattle.acct_machine.proofs.store.Store.take_out.Goals as goal

pub commit-requires : goal.commit-requires
commit-requires g c =
    let r : Lists = c.self.inside.rows.lists in
    let rows : r ≡ c.args.self.now.rows = ap (λ (s : State). s.rows) c.self.view_is in
    let sound : IsSoundRows r = subst (λ (x : Lists). IsSoundRows x) (sym rows) c.requires.sound in
    subst (λ (plan : Plan). MayCommit plan r) (sym c.in_ok-plan.ensures) (record {
      before = sound;
      later = first-leaves c.removed_outs_stay_sound.ensures r r.outs c.args.number sound refl
          (subst (λ (x : Lists). least_in x.outs ≡ Some c.args.number) (sym rows) c.requires.first);
      numbers = tt;
    })

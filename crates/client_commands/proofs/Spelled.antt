-- The calls of fit steps can be written.
use Rattle.std.proofs.Common.{zero, suc, ◌≤◌, [], ◌∷◌, All, arith, refl, subst, sym}
use Rattle.std.proofs.lemmas.List.{length-map}
use Rattle.acct_codes.specs.Limits.{most_translated_sids}
use Rattle.acct_layouts.specs.Values.{IsText}
use Rattle.acct_layouts.specs.CallShapes.{CanBeSpelled}
use Rattle.acct_layouts.specs.Table.{lsa_layout, samr_layout}
use Rattle.client_commands.specs.declared.command.Command.TheVariants.{Domains, InDomain, AtPolicy}
use Rattle.client_commands.specs.declared.command.Task.TheVariants.{Users, CreateUser, Named}
use Rattle.client_commands.specs.declared.command.NamedTask.TheVariants.{DeleteUser, Members, AddMember}
use Rattle.client_commands.specs.declared.command.Query.TheVariants.{Names, Sids, Rights, Grant}
use Rattle.client_commands.specs.declared.steps.GroupTask.TheVariants as group_task
use Rattle.client_commands.specs.declared.steps.Step.TheVariants as step
use Rattle.client_commands.specs.Fit.{FitStepsAreSpelled}
use Rattle.client_commands.specs.Words.{sid_of_word}

one : {X : Type 0} (P : X → Type 0) (x : X) → P x → All P (x ∷ [])
one P x p zero d h = p
one P x p (suc k) d h = absurd (omega arith)

two : {X : Type 0} (P : X → Type 0) (x y : X) → P x → P y → All P (x ∷ y ∷ [])
two P x y p q zero d h = p
two P x y p q (suc zero) d h = q
two P x y p q (suc (suc k)) d h = absurd (omega arith)

pub fit_steps_are_spelled_is : FitStepsAreSpelled
unfolding CanBeSpelled samr_layout lsa_layout
fit_steps_are_spelled_is (step.Opening Domains) fit = (refl, omega arith)
fit_steps_are_spelled_is (step.Opening (InDomain domain task)) fit = (refl, omega arith)
fit_steps_are_spelled_is (step.Opening (AtPolicy (Names names))) fit = (refl, omega arith)
fit_steps_are_spelled_is (step.Opening (AtPolicy (Sids sids))) fit = (refl, omega arith)
fit_steps_are_spelled_is (step.Opening (AtPolicy (Rights sid))) fit = (refl, omega arith)
fit_steps_are_spelled_is (step.Opening (AtPolicy (Grant sid rights))) fit = (refl, omega arith)
fit_steps_are_spelled_is (step.ListingDomains server context) fit = (fit.0, (fit.1, refl, omega arith))
fit_steps_are_spelled_is (step.LookingUpDomain server domain task) fit = (fit.0, fit.1)
fit_steps_are_spelled_is (step.OpeningDomain server sid Users) fit = (fit.0, (omega arith, fit.1))
fit_steps_are_spelled_is (step.OpeningDomain server sid (CreateUser name)) fit = (fit.0, (omega arith, fit.1))
fit_steps_are_spelled_is (step.OpeningDomain server sid (Named task)) fit = (fit.0, (omega arith, fit.1))
fit_steps_are_spelled_is (step.ListingUsers domain context) fit = (fit.0, (fit.1, omega arith, omega arith))
fit_steps_are_spelled_is (step.CreatingUser domain name) fit = (fit.0, (fit.1, omega arith, omega arith))
fit_steps_are_spelled_is (step.LookingUp domain (DeleteUser name)) fit = (fit.0, (omega arith, one IsText name fit.1))
fit_steps_are_spelled_is (step.LookingUp domain (Members name)) fit = (fit.0, (omega arith, one IsText name fit.1))
fit_steps_are_spelled_is (step.LookingUp domain (AddMember group user)) fit =
    (fit.0, (omega arith, two IsText group user fit.1.0 fit.1.1))
fit_steps_are_spelled_is (step.OpeningUser domain rid) fit = (fit.0, (omega arith, fit.1))
fit_steps_are_spelled_is (step.DeletingUser user rid) fit = (fit, tt)
fit_steps_are_spelled_is (step.OpeningGroup domain rid group_task.Members) fit = (fit.0, (omega arith, fit.1))
fit_steps_are_spelled_is (step.OpeningGroup domain rid (group_task.Add user)) fit = (fit.0, (omega arith, fit.1))
fit_steps_are_spelled_is (step.ListingMembers group) fit = (fit, tt)
fit_steps_are_spelled_is (step.AddingMember group rid) fit = (fit.0, (fit.1, omega arith))
fit_steps_are_spelled_is (step.Asking policy (Names names)) fit = (fit.0, (omega arith, fit.1.0, fit.1.1))
fit_steps_are_spelled_is (step.Asking policy (Sids sids)) fit =
    (fit.0, (omega arith, subst (λ n. n ≤ most_translated_sids) (sym (length-map sids sid_of_word)) fit.1.0, fit.1.1))
fit_steps_are_spelled_is (step.Asking policy (Rights sid)) fit = (fit.0, fit.1)
fit_steps_are_spelled_is (step.Asking policy (Grant sid rights)) fit = (fit.0, (fit.1.0, fit.1.1, fit.1.2))

-- Which commands and steps have calls that can be written: names, lists and SIDs within the bounds of their operations.
use Rattle.std.specs.Prelude.{◌≤◌, length, map, All}
use Rattle.acct_codes.specs.Limits.{most_rights, most_translated_names, most_translated_sids}
use Rattle.acct_layouts.specs.Values.{IsHandle, IsLong, IsText}
use Rattle.acct_layouts.specs.CallShapes.{CanBeSpelled}
use Rattle.dtyp_sid.specs.Sids.{IsSid}
use Rattle.client_commands.specs.declared.command.Command.{Command}
use Rattle.client_commands.specs.declared.command.Command.TheVariants.{Domains, InDomain, AtPolicy}
use Rattle.client_commands.specs.declared.command.Task.{Task}
use Rattle.client_commands.specs.declared.command.Task.TheVariants.{Users, CreateUser, Named}
use Rattle.client_commands.specs.declared.command.NamedTask.{NamedTask}
use Rattle.client_commands.specs.declared.command.NamedTask.TheVariants.{DeleteUser, Members, AddMember}
use Rattle.client_commands.specs.declared.command.Query.{Query}
use Rattle.client_commands.specs.declared.command.Query.TheVariants.{Names, Sids, Rights, Grant}
use Rattle.client_commands.specs.declared.outcomes.Outcome.{Outcome}
use Rattle.client_commands.specs.declared.outcomes.Outcome.TheVariants.{Goes, Ends, Refuses, Unfit}
use Rattle.client_commands.specs.declared.steps.GroupTask.{GroupTask}
use Rattle.client_commands.specs.declared.steps.GroupTask.TheVariants as group_task
use Rattle.client_commands.specs.declared.steps.Step.{Step}
use Rattle.client_commands.specs.declared.steps.Step.TheVariants as step
use Rattle.client_commands.specs.Words.{sid_of_word, call_of}

abbrev pub IsFitNamed : NamedTask → Type 0
IsFitNamed (DeleteUser name) = IsText name
IsFitNamed (Members name) = IsText name
IsFitNamed (AddMember group user) = IsText group × IsText user

abbrev pub IsFitTask : Task → Type 0
IsFitTask Users = Unit {0}
IsFitTask (CreateUser name) = IsText name
IsFitTask (Named task) = IsFitNamed task

abbrev pub IsFitQuery : Query → Type 0
IsFitQuery (Names names) = (length names ≤ most_translated_names) × All IsText names
IsFitQuery (Sids sids) = (length sids ≤ most_translated_sids) × All IsSid (map sid_of_word sids)
IsFitQuery (Rights sid) = IsSid sid
IsFitQuery (Grant sid rights) = IsSid sid × (length rights ≤ most_rights) × All IsText rights

abbrev pub IsFitCommand : Command → Type 0
IsFitCommand Domains = Unit {0}
IsFitCommand (InDomain domain task) = IsText domain × IsFitTask task
IsFitCommand (AtPolicy query) = IsFitQuery query

abbrev pub IsFitGroup : GroupTask → Type 0
IsFitGroup group_task.Members = Unit {0}
IsFitGroup (group_task.Add rid) = IsLong rid

abbrev pub IsFitStep : Step → Type 0
IsFitStep (step.Opening command) = IsFitCommand command
IsFitStep (step.ListingDomains server context) = IsHandle server × IsLong context
IsFitStep (step.LookingUpDomain server domain task) = IsHandle server × IsText domain × IsFitTask task
IsFitStep (step.OpeningDomain server sid task) = IsHandle server × IsSid sid × IsFitTask task
IsFitStep (step.ListingUsers domain context) = IsHandle domain × IsLong context
IsFitStep (step.CreatingUser domain name) = IsHandle domain × IsText name
IsFitStep (step.LookingUp domain task) = IsHandle domain × IsFitNamed task
IsFitStep (step.OpeningUser domain rid) = IsHandle domain × IsLong rid
IsFitStep (step.DeletingUser user rid) = IsHandle user
IsFitStep (step.OpeningGroup domain rid task) = IsHandle domain × IsLong rid × IsFitGroup task
IsFitStep (step.ListingMembers group) = IsHandle group
IsFitStep (step.AddingMember group rid) = IsHandle group × IsLong rid
IsFitStep (step.Asking policy query) = IsHandle policy × IsFitQuery query

abbrev pub IsFitOutcome : Outcome → Type 0
IsFitOutcome (Goes lines next) = IsFitStep next
IsFitOutcome (Ends lines) = Unit {0}
IsFitOutcome (Refuses status) = Unit {0}
IsFitOutcome Unfit = Unit {0}

-- the calls of such steps can be written
abbrev pub FitStepsAreSpelled : Type 0
FitStepsAreSpelled = (s : Step) → IsFitStep s → CanBeSpelled (call_of s)

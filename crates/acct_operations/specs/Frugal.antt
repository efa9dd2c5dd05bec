-- Where deciding an operation, and making room for what it plans, may run out of memory. A legal history allows more.
use Rattle.std.specs.Prelude.{◌≡◌, Bool, true, false, not, List, ℕ, Option, Err, ◌⊎◌}
use Rattle.dtyp_access.specs.Reading.{OnlyAtList}
use Rattle.dtyp_access.specs.declared.descriptor.Descriptor.{Descriptor}
use Rattle.dtyp_access.specs.declared.errors.DescError.TheVariants.{Memory as OutOfMemory}
use Rattle.dtyp_access.specs.declared.parts.Parts.{Parts}
use Rattle.acct_calls.specs.declared.calls.Args.{Args}
use Rattle.acct_rows.specs.Rows.{Lists}
use Rattle.acct_tables.specs.declared.object.Object.{Object}
use Rattle.acct_rules.specs.Asked.{named_info, set_bytes}
use Rattle.acct_rules.specs.Planned.{none_fails}
use Rattle.acct_rules.specs.declared.profile.Memory.{Memory}
use Rattle.acct_rules.specs.declared.profile.Memory.TheVariants.{Never, AfterConditions, BeforeOpening, Anywhere}
use Rattle.acct_rules.specs.Profiles.{is_anywhere, is_never}
use Rattle.acct_operations.specs.declared.table.Work.{Work}
use Rattle.acct_operations.specs.declared.table.Work.TheVariants as works
use Rattle.acct_operations.specs.Openings.{names_parts, set_security}
use Rattle.acct_operations.specs.Table.{operation}

-- Closing a handle and looking one thing up take none; an opening takes some for the new handle alone. Each other
-- operation takes it once its conditions are known, except those that have none and those that take some to know one:
-- they compare names, or read a security descriptor.
abbrev pub taken_by : Work → Memory
taken_by works.SamrCloseHandle = Never
taken_by works.SamrLookupDomainInSamServer = Never
taken_by works.SamrRidToSid = Never
taken_by works.LsarClose = Never
taken_by works.LsarGetSystemAccessAccount = Never
taken_by works.SamrConnect2 = AfterConditions
taken_by works.SamrConnect4 = AfterConditions
taken_by works.SamrConnect5 = AfterConditions
taken_by works.SamrOpenDomain = AfterConditions
taken_by works.SamrOpenGroup = AfterConditions
taken_by works.SamrOpenAlias = AfterConditions
taken_by works.SamrOpenUser = AfterConditions
taken_by works.LsarOpenPolicy2 = AfterConditions
taken_by works.LsarOpenAccount = AfterConditions
taken_by works.SamrSetSecurityObject = Anywhere
taken_by works.SamrEnumerateDomainsInSamServer = Anywhere
taken_by works.SamrEnumerateGroupsInDomain = Anywhere
taken_by works.SamrEnumerateUsersInDomain = Anywhere
taken_by works.SamrEnumerateAliasesInDomain = Anywhere
taken_by works.SamrGetAliasMembership = Anywhere
taken_by works.SamrLookupNamesInDomain = Anywhere
taken_by works.SamrLookupIdsInDomain = Anywhere
taken_by works.SamrGetMembersInGroup = Anywhere
taken_by works.SamrGetMembersInAlias = Anywhere
taken_by works.SamrGetGroupsForUser = Anywhere
taken_by works.LsarSetSecurityObject = Anywhere
taken_by works.LsarEnumeratePrivileges = Anywhere
taken_by works.LsarEnumerateAccounts = Anywhere
taken_by works.LsarEnumeratePrivilegesAccount = Anywhere
taken_by works.LsarLookupPrivilegeValue = Anywhere
taken_by works.LsarDeleteObject = Anywhere
taken_by works.LsarEnumerateAccountsWithUserRight = Anywhere
taken_by works.LsarAddAccountRights = Anywhere
taken_by works.LsarRemoveAccountRights = Anywhere
taken_by _ = BeforeOpening

-- whether deciding an operation may run out of memory, by whether none of its conditions fails
abbrev pub may_want_to_decide : Memory → Bool → Bool
may_want_to_decide Never none = false
may_want_to_decide AfterConditions none = false
may_want_to_decide BeforeOpening none = none
may_want_to_decide Anywhere none = true

-- Reading the parts that bytes spell takes memory: its owner and group are read, and its list has an entry.
abbrev pub ReachesEntry : List ℕ → Type 0
ReachesEntry bytes = OnlyAtList {X = Parts} false (Err OutOfMemory) bytes

-- Setting a descriptor may run out of memory where none of its conditions fails, or where it is read to know one.
abbrev pub MayWantToSet : Lists → Option Descriptor → Object → Args → Type 0
MayWantToSet r described object asked =
    (none_fails (set_security r described object asked).conditions ≡ true)
    ⊎ ((names_parts (named_info asked) ≡ true) × ReachesEntry (set_bytes asked))

-- deciding an operation may run out of memory
abbrev pub MayWantToDecide : Work → Lists → Option Descriptor → Object → Args → Type 0
MayWantToDecide works.SamrSetSecurityObject r described object asked = MayWantToSet r described object asked
MayWantToDecide works.LsarSetSecurityObject r described object asked = MayWantToSet r described object asked
MayWantToDecide work r described object asked =
    may_want_to_decide (taken_by work) (none_fails ((operation work).rule r described object asked).conditions) ≡ true

-- none, or some for a handle alone
abbrev pub is_for_handle : Memory → Bool
is_for_handle Never = true
is_for_handle AfterConditions = true
is_for_handle BeforeOpening = false
is_for_handle Anywhere = false

-- memory runs out nowhere by the first where it may not by the second
abbrev pub is_no_more : Memory → Memory → Bool
is_no_more Never more = true
is_no_more AfterConditions more = not (is_never more)
is_no_more BeforeOpening more = not (is_for_handle more)
is_no_more Anywhere more = is_anywhere more

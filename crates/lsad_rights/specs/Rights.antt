-- The privileges and the rights to log on, by their names, and who holds one.
use Rattle.std.specs.Prelude.{ℕ, ◌==◌, Bool, codes, List, [], ◌∷◌, Option, not, bit_and, Some, None}
use Rattle.std.specs.List.{find, filter, list_any}
use Rattle.acct_codes.specs.Privileges.{se_create_token, se_assign_primary_token, se_lock_memory, se_increase_quota}
use Rattle.acct_codes.specs.Privileges.{se_machine_account, se_tcb, se_security, se_take_ownership, se_load_driver}
use Rattle.acct_codes.specs.Privileges.{se_system_profile, se_systemtime, se_prof_single_process, se_inc_base_priority}
use Rattle.acct_codes.specs.Privileges.{se_create_pagefile, se_create_permanent, se_backup, se_restore, se_shutdown}
use Rattle.acct_codes.specs.Privileges.{se_debug, se_audit, se_system_environment, se_change_notify, se_remote_shutdown}
use Rattle.acct_codes.specs.Privileges.{se_undock, se_sync_agent, se_enable_delegation, se_manage_volume}
use Rattle.acct_codes.specs.Privileges.{se_impersonate, se_create_global, policy_mode_interactive, policy_mode_network}
use Rattle.acct_codes.specs.Privileges.{policy_mode_batch, policy_mode_service, policy_mode_deny_interactive}
use Rattle.acct_codes.specs.Privileges.{policy_mode_deny_network, policy_mode_deny_batch, policy_mode_deny_service}
use Rattle.acct_codes.specs.Privileges.{policy_mode_remote_interactive, policy_mode_deny_remote_interactive}
use Rattle.acct_calls.specs.Names.{name_of_text, is_same}
use Rattle.acct_tables.specs.declared.row.Held.{Held}
use Rattle.acct_tables.specs.declared.row.LsaRow.{LsaRow}
use Rattle.lsad_rights.specs.declared.logon_rights.LogonRight.{LogonRight}
use Rattle.lsad_rights.specs.declared.logon_rights.LogonRight.TheVariants.{Interactive, Network, Batch, Service}
use Rattle.lsad_rights.specs.declared.logon_rights.LogonRight.TheVariants.{DenyInteractive, DenyNetwork, DenyBatch}
use Rattle.lsad_rights.specs.declared.logon_rights.LogonRight.TheVariants.{DenyService, RemoteInteractive}
use Rattle.lsad_rights.specs.declared.logon_rights.LogonRight.TheVariants.{DenyRemoteInteractive}
use Rattle.lsad_rights.specs.declared.privileges.KnownPrivilege.{KnownPrivilege}
use Rattle.lsad_rights.specs.declared.privileges.KnownPrivilege.TheVariants.{CreateToken, AssignPrimaryToken}
use Rattle.lsad_rights.specs.declared.privileges.KnownPrivilege.TheVariants.{LockMemory, IncreaseQuota, MachineAccount}
use Rattle.lsad_rights.specs.declared.privileges.KnownPrivilege.TheVariants.{Tcb, Security, TakeOwnership, LoadDriver}
use Rattle.lsad_rights.specs.declared.privileges.KnownPrivilege.TheVariants.{SystemProfile, Systemtime}
use Rattle.lsad_rights.specs.declared.privileges.KnownPrivilege.TheVariants.{ProfileSingleProcess, IncreaseBasePriority}
use Rattle.lsad_rights.specs.declared.privileges.KnownPrivilege.TheVariants.{CreatePagefile, CreatePermanent, Backup}
use Rattle.lsad_rights.specs.declared.privileges.KnownPrivilege.TheVariants.{Restore, Shutdown, Debug, Audit}
use Rattle.lsad_rights.specs.declared.privileges.KnownPrivilege.TheVariants.{SystemEnvironment, ChangeNotify}
use Rattle.lsad_rights.specs.declared.privileges.KnownPrivilege.TheVariants.{RemoteShutdown, Undock, SyncAgent}
use Rattle.lsad_rights.specs.declared.privileges.KnownPrivilege.TheVariants.{EnableDelegation, ManageVolume}
use Rattle.lsad_rights.specs.declared.privileges.KnownPrivilege.TheVariants.{Impersonate, CreateGlobal}
use Rattle.lsad_rights.specs.declared.rights.AccountRight.{AccountRight}
use Rattle.lsad_rights.specs.declared.rights.AccountRight.TheVariants.{Privilege, Logon}

-- ======== the privileges, each with its name and the low part of its LUID, whose high part is 0 (MS-LSAD 3.1.1.2.1)

-- the low part of a privilege's LUID, and its name's text
unfoldable pub privilege_row : KnownPrivilege → ℕ × List ℕ
privilege_row CreateToken = (se_create_token, codes "SeCreateTokenPrivilege")
privilege_row AssignPrimaryToken = (se_assign_primary_token, codes "SeAssignPrimaryTokenPrivilege")
privilege_row LockMemory = (se_lock_memory, codes "SeLockMemoryPrivilege")
privilege_row IncreaseQuota = (se_increase_quota, codes "SeIncreaseQuotaPrivilege")
privilege_row MachineAccount = (se_machine_account, codes "SeMachineAccountPrivilege")
privilege_row Tcb = (se_tcb, codes "SeTcbPrivilege")
privilege_row Security = (se_security, codes "SeSecurityPrivilege")
privilege_row TakeOwnership = (se_take_ownership, codes "SeTakeOwnershipPrivilege")
privilege_row LoadDriver = (se_load_driver, codes "SeLoadDriverPrivilege")
privilege_row SystemProfile = (se_system_profile, codes "SeSystemProfilePrivilege")
privilege_row Systemtime = (se_systemtime, codes "SeSystemtimePrivilege")
privilege_row ProfileSingleProcess = (se_prof_single_process, codes "SeProfileSingleProcessPrivilege")
privilege_row IncreaseBasePriority = (se_inc_base_priority, codes "SeIncreaseBasePriorityPrivilege")
privilege_row CreatePagefile = (se_create_pagefile, codes "SeCreatePagefilePrivilege")
privilege_row CreatePermanent = (se_create_permanent, codes "SeCreatePermanentPrivilege")
privilege_row Backup = (se_backup, codes "SeBackupPrivilege")
privilege_row Restore = (se_restore, codes "SeRestorePrivilege")
privilege_row Shutdown = (se_shutdown, codes "SeShutdownPrivilege")
privilege_row Debug = (se_debug, codes "SeDebugPrivilege")
privilege_row Audit = (se_audit, codes "SeAuditPrivilege")
privilege_row SystemEnvironment = (se_system_environment, codes "SeSystemEnvironmentPrivilege")
privilege_row ChangeNotify = (se_change_notify, codes "SeChangeNotifyPrivilege")
privilege_row RemoteShutdown = (se_remote_shutdown, codes "SeRemoteShutdownPrivilege")
privilege_row Undock = (se_undock, codes "SeUndockPrivilege")
privilege_row SyncAgent = (se_sync_agent, codes "SeSyncAgentPrivilege")
privilege_row EnableDelegation = (se_enable_delegation, codes "SeEnableDelegationPrivilege")
privilege_row ManageVolume = (se_manage_volume, codes "SeManageVolumePrivilege")
privilege_row Impersonate = (se_impersonate, codes "SeImpersonatePrivilege")
privilege_row CreateGlobal = (se_create_global, codes "SeCreateGlobalPrivilege")

abbrev pub low_of : KnownPrivilege → ℕ
low_of privilege = (privilege_row privilege).0

abbrev pub text_of : KnownPrivilege → List ℕ
text_of privilege = (privilege_row privilege).1

abbrev pub name_of : KnownPrivilege → List ℕ
name_of privilege = name_of_text (text_of privilege)

-- the privileges by ascending LUID
unfoldable pub privileges : List KnownPrivilege
privileges =
    CreateToken
    ∷ AssignPrimaryToken
    ∷ LockMemory
    ∷ IncreaseQuota
    ∷ MachineAccount
    ∷ Tcb
    ∷ Security
    ∷ TakeOwnership
    ∷ LoadDriver
    ∷ SystemProfile
    ∷ Systemtime
    ∷ ProfileSingleProcess
    ∷ IncreaseBasePriority
    ∷ CreatePagefile
    ∷ CreatePermanent
    ∷ Backup
    ∷ Restore
    ∷ Shutdown
    ∷ Debug
    ∷ Audit
    ∷ SystemEnvironment
    ∷ ChangeNotify
    ∷ RemoteShutdown
    ∷ Undock
    ∷ SyncAgent
    ∷ EnableDelegation
    ∷ ManageVolume
    ∷ Impersonate
    ∷ CreateGlobal
    ∷ []

-- the privilege whose LUID has this low part
abbrev pub has_low : ℕ → KnownPrivilege → Bool
has_low low privilege = low_of privilege == low

abbrev pub privilege_of : ℕ → Option KnownPrivilege
privilege_of low = find (has_low low) privileges

-- the privilege that has the name; names are compared as those of accounts are
abbrev pub is_named : List ℕ → KnownPrivilege → Bool
is_named name privilege = is_same name (name_of privilege)

abbrev pub privilege_named : List ℕ → Option KnownPrivilege
privilege_named name = find (is_named name) privileges

-- ======== the rights to log on, each with its name and its bit of an account's system access (MS-LSAD 3.1.1.2.2)

-- a right's bit of system access, and its name's text
unfoldable pub right_row : LogonRight → ℕ × List ℕ
right_row Interactive = (policy_mode_interactive, codes "SeInteractiveLogonRight")
right_row Network = (policy_mode_network, codes "SeNetworkLogonRight")
right_row Batch = (policy_mode_batch, codes "SeBatchLogonRight")
right_row Service = (policy_mode_service, codes "SeServiceLogonRight")
right_row DenyInteractive = (policy_mode_deny_interactive, codes "SeDenyInteractiveLogonRight")
right_row DenyNetwork = (policy_mode_deny_network, codes "SeDenyNetworkLogonRight")
right_row DenyBatch = (policy_mode_deny_batch, codes "SeDenyBatchLogonRight")
right_row DenyService = (policy_mode_deny_service, codes "SeDenyServiceLogonRight")
right_row RemoteInteractive = (policy_mode_remote_interactive, codes "SeRemoteInteractiveLogonRight")
right_row DenyRemoteInteractive = (policy_mode_deny_remote_interactive, codes "SeDenyRemoteInteractiveLogonRight")

abbrev pub bit_of : LogonRight → ℕ
bit_of right = (right_row right).0

abbrev pub right_text : LogonRight → List ℕ
right_text right = (right_row right).1

abbrev pub right_name : LogonRight → List ℕ
right_name right = name_of_text (right_text right)

-- the rights by ascending bit
unfoldable pub logon_rights : List LogonRight
logon_rights =
    Interactive
    ∷ Network
    ∷ Batch
    ∷ Service
    ∷ DenyInteractive
    ∷ DenyNetwork
    ∷ DenyBatch
    ∷ DenyService
    ∷ RemoteInteractive
    ∷ DenyRemoteInteractive
    ∷ []

-- the system access has the right
abbrev pub has_right : ℕ → LogonRight → Bool
has_right access right = not (bit_and access (bit_of right) == 0)

-- the rights of a system access, by ascending bit
abbrev pub rights_of : ℕ → List LogonRight
rights_of access = filter (has_right access) logon_rights

-- the right that has the name; names are compared as those of accounts are
abbrev pub is_right_named : List ℕ → LogonRight → Bool
is_right_named name right = is_same name (right_name right)

abbrev pub logon_right_named : List ℕ → Option LogonRight
logon_right_named name = find (is_right_named name) logon_rights

-- ======== the rights of an account: privileges, and rights to log on, by their names; and which accounts hold one
-- (MS-LSAD 3.1.1.3)

-- the privilege, or else the right to log on
abbrev pub either_right : Option KnownPrivilege → Option LogonRight → Option AccountRight
either_right (Some privilege) right = Some (Privilege privilege)
either_right None (Some right) = Some (Logon right)
either_right None None = None

-- the right that has the name
abbrev pub right_named : List ℕ → Option AccountRight
right_named name = either_right (privilege_named name) (logon_right_named name)

-- the privileges have the one whose LUID has this low part
abbrev pub has_privilege : ℕ → List Held → Bool
has_privilege low held = list_any (λ (h : Held). h.low == low) held

-- the account holds the right
abbrev pub holds : AccountRight → LsaRow → Bool
holds (Privilege privilege) account = has_privilege (low_of privilege) account.privileges
holds (Logon right) account = has_right account.access right

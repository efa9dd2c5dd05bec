-- What an account of the policy may hold: privileges, and rights to log on.
use Rattle.std.specs.Prelude.{ℕ}

-- ======== privileges, each by the low part of its LUID; the high part is 0 (MS-LSAD 3.1.1.2.1)

-- to create tokens; the least LUID
abbrev pub se_create_token : ℕ
se_create_token = 2

-- to assign a process's primary token
abbrev pub se_assign_primary_token : ℕ
se_assign_primary_token = 3

-- to lock pages in memory
abbrev pub se_lock_memory : ℕ
se_lock_memory = 4

-- to raise a process's quota
abbrev pub se_increase_quota : ℕ
se_increase_quota = 5

-- to create accounts of workstations
abbrev pub se_machine_account : ℕ
se_machine_account = 6

-- to act as part of the trusted computing base
abbrev pub se_tcb : ℕ
se_tcb = 7

-- to manage auditing and the security log
abbrev pub se_security : ℕ
se_security = 8

-- to take ownership of objects
abbrev pub se_take_ownership : ℕ
se_take_ownership = 9

-- to load and unload drivers
abbrev pub se_load_driver : ℕ
se_load_driver = 10

-- to profile the system
abbrev pub se_system_profile : ℕ
se_system_profile = 11

-- to set the time
abbrev pub se_systemtime : ℕ
se_systemtime = 12

-- to profile a process
abbrev pub se_prof_single_process : ℕ
se_prof_single_process = 13

-- to raise a process's base priority
abbrev pub se_inc_base_priority : ℕ
se_inc_base_priority = 14

-- to create paging files
abbrev pub se_create_pagefile : ℕ
se_create_pagefile = 15

-- to create permanent objects
abbrev pub se_create_permanent : ℕ
se_create_permanent = 16

-- to back up files
abbrev pub se_backup : ℕ
se_backup = 17

-- to restore files
abbrev pub se_restore : ℕ
se_restore = 18

-- to shut the system down
abbrev pub se_shutdown : ℕ
se_shutdown = 19

-- to debug processes
abbrev pub se_debug : ℕ
se_debug = 20

-- to write entries of the audit log
abbrev pub se_audit : ℕ
se_audit = 21

-- to change the firmware's environment
abbrev pub se_system_environment : ℕ
se_system_environment = 22

-- to pass directories without a right to them, and be told of changes
abbrev pub se_change_notify : ℕ
se_change_notify = 23

-- to shut the system down from afar
abbrev pub se_remote_shutdown : ℕ
se_remote_shutdown = 24

-- to undock a computer
abbrev pub se_undock : ℕ
se_undock = 25

-- to synchronize directory data
abbrev pub se_sync_agent : ℕ
se_sync_agent = 26

-- to mark accounts as trusted for delegation
abbrev pub se_enable_delegation : ℕ
se_enable_delegation = 27

-- to manage volumes
abbrev pub se_manage_volume : ℕ
se_manage_volume = 28

-- to impersonate clients
abbrev pub se_impersonate : ℕ
se_impersonate = 29

-- to create global objects; the greatest LUID, and all between the two are privileges
abbrev pub se_create_global : ℕ
se_create_global = 30

-- ======== bits of an account's system access: its rights to log on (MS-LSAD 2.2.1.2)

-- to log on interactively
abbrev pub policy_mode_interactive : ℕ
policy_mode_interactive = 0x0000_0001

-- to log on from the network
abbrev pub policy_mode_network : ℕ
policy_mode_network = 0x0000_0002

-- to log on as a batch job
abbrev pub policy_mode_batch : ℕ
policy_mode_batch = 0x0000_0004

-- to log on as a service
abbrev pub policy_mode_service : ℕ
policy_mode_service = 0x0000_0010

-- not to log on interactively
abbrev pub policy_mode_deny_interactive : ℕ
policy_mode_deny_interactive = 0x0000_0040

-- not to log on from the network
abbrev pub policy_mode_deny_network : ℕ
policy_mode_deny_network = 0x0000_0080

-- not to log on as a batch job
abbrev pub policy_mode_deny_batch : ℕ
policy_mode_deny_batch = 0x0000_0100

-- not to log on as a service
abbrev pub policy_mode_deny_service : ℕ
policy_mode_deny_service = 0x0000_0200

-- to log on interactively from afar
abbrev pub policy_mode_remote_interactive : ℕ
policy_mode_remote_interactive = 0x0000_0400

-- not to log on interactively from afar
abbrev pub policy_mode_deny_remote_interactive : ℕ
policy_mode_deny_remote_interactive = 0x0000_0800

-- all of these, and no other
abbrev pub known_system_access : ℕ
known_system_access = 0x0000_0FD7

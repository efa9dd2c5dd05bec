-- The numbers of privileges and rights: LUIDs between the first and the last, and single bits that are known.
use Rattle.std.proofs.Common.{◌≡◌, ℕ, ◌^◌, ◌<◌, ◌≤◌, ◌==◌, nat_le, Bool, true, false, cond, List, [], ◌∷◌, Some}
use Rattle.std.proofs.Common.{is_some, refl, subst, arith, lit<}
use Rattle.std.specs.Prelude.{◌&&◌, bit_and}
use Rattle.std.specs.Cmp.{first_so, second_so}
use Rattle.std.specs.List.{find}
use Rattle.std.proofs.lemmas.Bool.Decides.{nat_tests}
use Rattle.acct_codes.specs.Privileges.{se_create_token, se_create_global, known_system_access}
use Rattle.lsad_rights.specs.Rights.{right_row, bit_of, privilege_row, privileges, low_of, has_low, privilege_of}
use Rattle.lsad_rights.specs.declared.logon_rights.LogonRight.{LogonRight}
use Rattle.lsad_rights.specs.declared.logon_rights.LogonRight.TheVariants as right
use Rattle.lsad_rights.specs.declared.privileges.KnownPrivilege.{KnownPrivilege}
use Rattle.lsad_rights.specs.declared.privileges.KnownPrivilege.TheVariants as privilege

-- ---- LUIDs

abbrev is-between : ℕ → Bool
is-between low = nat_le se_create_token low && nat_le low se_create_global

lows-between : (p : KnownPrivilege) → is-between (low_of p) ≡ true
unfolding privilege_row
lows-between privilege.CreateToken = refl
lows-between privilege.AssignPrimaryToken = refl
lows-between privilege.LockMemory = refl
lows-between privilege.IncreaseQuota = refl
lows-between privilege.MachineAccount = refl
lows-between privilege.Tcb = refl
lows-between privilege.Security = refl
lows-between privilege.TakeOwnership = refl
lows-between privilege.LoadDriver = refl
lows-between privilege.SystemProfile = refl
lows-between privilege.Systemtime = refl
lows-between privilege.ProfileSingleProcess = refl
lows-between privilege.IncreaseBasePriority = refl
lows-between privilege.CreatePagefile = refl
lows-between privilege.CreatePermanent = refl
lows-between privilege.Backup = refl
lows-between privilege.Restore = refl
lows-between privilege.Shutdown = refl
lows-between privilege.Debug = refl
lows-between privilege.Audit = refl
lows-between privilege.SystemEnvironment = refl
lows-between privilege.ChangeNotify = refl
lows-between privilege.RemoteShutdown = refl
lows-between privilege.Undock = refl
lows-between privilege.SyncAgent = refl
lows-between privilege.EnableDelegation = refl
lows-between privilege.ManageVolume = refl
lows-between privilege.Impersonate = refl
lows-between privilege.CreateGlobal = refl

between : (low : ℕ) → is-between low ≡ true → (se_create_token ≤ low) × (low ≤ se_create_global)
between low is = (
  at-least (first_so (nat_le se_create_token low) (nat_le low se_create_global) is),
  at-most (second_so (nat_le se_create_token low) (nat_le low se_create_global) is),
)
  where
    at-least : nat_le se_create_token low ≡ true → se_create_token ≤ low
    at-least h = grind (arith, nat_tests)

    at-most : nat_le low se_create_global ≡ true → low ≤ se_create_global
    at-most h = grind (arith, nat_tests)

pub low-between : (p : KnownPrivilege) → (se_create_token ≤ low_of p) × (low_of p ≤ se_create_global)
low-between p = between (low_of p) (lows-between p)

-- the low part of a LUID at which there is one
found-between : (low : ℕ) (ps : List KnownPrivilege) → is_some (find (has_low low) ps) ≡ true → is-between low ≡ true
found-between low [] = λ found. cc
found-between low (p ∷ ps) =
    let rest = found-between low ps in
    elim (low_of p == low) as
    (λ b. (low_of p == low) ≡ b → is_some (cond b (Some p) (find (has_low low) ps)) ≡ true → is-between low ≡ true) [
      | true ↦ λ same found. subst (λ n. is-between n ≡ true) (equal (low_of p) low same) (lows-between p)
      | false ↦ λ same found. rest found
    ] refl
  where
    equal : (m n : ℕ) → (m == n) ≡ true → m ≡ n
    equal m n e = grind (arith, nat_tests)

pub known-between : (low : ℕ) → is_some (privilege_of low) ≡ true
    → (se_create_token ≤ low) × (low ≤ se_create_global)
known-between low found = between low (found-between low privileges found)

-- ---- bits

pub bit-known : (r : LogonRight) → bit_and (bit_of r) known_system_access ≡ bit_of r
unfolding right_row
bit-known right.Interactive = refl
bit-known right.Network = refl
bit-known right.Batch = refl
bit-known right.Service = refl
bit-known right.DenyInteractive = refl
bit-known right.DenyNetwork = refl
bit-known right.DenyBatch = refl
bit-known right.DenyService = refl
bit-known right.RemoteInteractive = refl
bit-known right.DenyRemoteInteractive = refl

-- the place of the only bit
abbrev pub place_of : LogonRight → ℕ
place_of right.Interactive = 0
place_of right.Network = 1
place_of right.Batch = 2
place_of right.Service = 4
place_of right.DenyInteractive = 6
place_of right.DenyNetwork = 7
place_of right.DenyBatch = 8
place_of right.DenyService = 9
place_of right.RemoteInteractive = 10
place_of right.DenyRemoteInteractive = 11

pub bit-at-place : (r : LogonRight) → bit_of r ≡ 2 ^ place_of r
unfolding right_row
bit-at-place right.Interactive = refl
bit-at-place right.Network = refl
bit-at-place right.Batch = refl
bit-at-place right.Service = refl
bit-at-place right.DenyInteractive = refl
bit-at-place right.DenyNetwork = refl
bit-at-place right.DenyBatch = refl
bit-at-place right.DenyService = refl
bit-at-place right.RemoteInteractive = refl
bit-at-place right.DenyRemoteInteractive = refl

pub place-fits : (r : LogonRight) → place_of r < 32
place-fits right.Interactive = lit< tt
place-fits right.Network = lit< tt
place-fits right.Batch = lit< tt
place-fits right.Service = lit< tt
place-fits right.DenyInteractive = lit< tt
place-fits right.DenyNetwork = lit< tt
place-fits right.DenyBatch = lit< tt
place-fits right.DenyService = lit< tt
place-fits right.RemoteInteractive = lit< tt
place-fits right.DenyRemoteInteractive = lit< tt

pub bit-fits : (r : LogonRight) → 2 ^ place_of r < 2 ^ 32
bit-fits right.Interactive = lit< tt
bit-fits right.Network = lit< tt
bit-fits right.Batch = lit< tt
bit-fits right.Service = lit< tt
bit-fits right.DenyInteractive = lit< tt
bit-fits right.DenyNetwork = lit< tt
bit-fits right.DenyBatch = lit< tt
bit-fits right.DenyService = lit< tt
bit-fits right.RemoteInteractive = lit< tt
bit-fits right.DenyRemoteInteractive = lit< tt

-- No two privileges or rights have one name, so that a name leads back to the privilege or the right.
use Rattle.std.proofs.Common.{◌≡◌, ℕ, ◌-◌, ◌<◌, ◌≤◌, ◌==◌, nat_lt, nat_le, Bool, true, false, not, cond, ◌&&◌}
use Rattle.std.proofs.Common.{List, [], ◌∷◌, map, length, get_or, Option, Some, None, slice_get, suc, zero, refl, sym}
use Rattle.std.proofs.Common.{ap, ◌∙◌, arith}
use Rattle.std.specs.Prelude.{◌^◌, bit_and}
use Rattle.std.specs.List.{find, list_all}
use Rattle.std.specs.Char.{to_ascii_lowercase}
use Rattle.std.specs.Str.{bytes_eq, chars}
use Rattle.std.specs.Cmp.{first_so, second_so}
use Rattle.std.proofs.lemmas.Bool.Decides.{nat_tests}
use Rattle.std.proofs.lemmas.Option.{slice_get-get_or}
use Rattle.ucd_case.specs.CaseFolding.{simple_fold}
use Rattle.ucd_case.proofs.CaseFoldingLemmas.{simple_fold-ascii}
use Rattle.acct_calls.specs.Names.{is_surrogate, code_points, units_of, folded_point, folded_points, is_same}
use Rattle.acct_codes.specs.Privileges.{se_create_token, se_create_global, known_system_access}
use Rattle.acct_tables.specs.Good.{IsKnown}
use Rattle.acct_tables.specs.declared.row.Held.{Held}
use Rattle.lsad_rights.specs.Listings.{name_in, held_name, low_in}
use Rattle.lsad_rights.specs.Rights.{right_row, bit_of, right_name, rights_of, logon_rights, is_right_named}
use Rattle.lsad_rights.specs.Rights.{logon_right_named, privilege_row, low_of, name_of, privileges, has_low, is_named}
use Rattle.lsad_rights.specs.Rights.{privilege_of, privilege_named, either_right, right_named}
use Rattle.lsad_rights.specs.declared.logon_rights.LogonRight.{LogonRight}
use Rattle.lsad_rights.specs.declared.logon_rights.LogonRight.TheVariants.{Interactive, Network, Batch, Service}
use Rattle.lsad_rights.specs.declared.logon_rights.LogonRight.TheVariants.{DenyInteractive, DenyNetwork, DenyBatch}
use Rattle.lsad_rights.specs.declared.logon_rights.LogonRight.TheVariants.{DenyService, RemoteInteractive}
use Rattle.lsad_rights.specs.declared.logon_rights.LogonRight.TheVariants.{DenyRemoteInteractive}
use Rattle.lsad_rights.specs.declared.privileges.KnownPrivilege.{KnownPrivilege}
use Rattle.lsad_rights.specs.declared.privileges.KnownPrivilege.TheVariants.{CreateToken, AssignPrimaryToken}
use Rattle.lsad_rights.specs.declared.privileges.KnownPrivilege.TheVariants.{LockMemory, IncreaseQuota}
use Rattle.lsad_rights.specs.declared.privileges.KnownPrivilege.TheVariants.{MachineAccount, Tcb, Security}
use Rattle.lsad_rights.specs.declared.privileges.KnownPrivilege.TheVariants.{TakeOwnership, LoadDriver, SystemProfile}
use Rattle.lsad_rights.specs.declared.privileges.KnownPrivilege.TheVariants.{Systemtime, ProfileSingleProcess}
use Rattle.lsad_rights.specs.declared.privileges.KnownPrivilege.TheVariants.{IncreaseBasePriority, CreatePagefile}
use Rattle.lsad_rights.specs.declared.privileges.KnownPrivilege.TheVariants.{CreatePermanent, Backup, Restore}
use Rattle.lsad_rights.specs.declared.privileges.KnownPrivilege.TheVariants.{Shutdown, Debug, Audit}
use Rattle.lsad_rights.specs.declared.privileges.KnownPrivilege.TheVariants.{SystemEnvironment, ChangeNotify}
use Rattle.lsad_rights.specs.declared.privileges.KnownPrivilege.TheVariants.{RemoteShutdown, Undock, SyncAgent}
use Rattle.lsad_rights.specs.declared.privileges.KnownPrivilege.TheVariants.{EnableDelegation, ManageVolume}
use Rattle.lsad_rights.specs.declared.privileges.KnownPrivilege.TheVariants.{Impersonate, CreateGlobal}
use Rattle.lsad_rights.specs.declared.rights.AccountRight.TheVariants.{Privilege, Logon}
use Rattle.lsad_rights.proofs.Finding.{low-found}

-- ---- each of the tables

-- what a test says of each element, it says of the one at a place
at-place : {A : Type 0} (test : A → Bool) (xs : List A) (place : ℕ) (x : A) → list_all test xs ≡ true
    → slice_get xs place ≡ Some x → test x ≡ true
at-place test [] place x all at = cc
at-place test (y ∷ ys) zero x all at = let e : y ≡ x = cc in ap test (sym e) ∙ first_so _ _ all
at-place test (y ∷ ys) (suc place) x all at = at-place test ys place x (second_so _ _ all) at

privilege-at : (p : KnownPrivilege) → slice_get privileges (low_of p - se_create_token) ≡ Some p
unfolding privileges privilege_row
privilege-at CreateToken = refl
privilege-at AssignPrimaryToken = refl
privilege-at LockMemory = refl
privilege-at IncreaseQuota = refl
privilege-at MachineAccount = refl
privilege-at Tcb = refl
privilege-at Security = refl
privilege-at TakeOwnership = refl
privilege-at LoadDriver = refl
privilege-at SystemProfile = refl
privilege-at Systemtime = refl
privilege-at ProfileSingleProcess = refl
privilege-at IncreaseBasePriority = refl
privilege-at CreatePagefile = refl
privilege-at CreatePermanent = refl
privilege-at Backup = refl
privilege-at Restore = refl
privilege-at Shutdown = refl
privilege-at Debug = refl
privilege-at Audit = refl
privilege-at SystemEnvironment = refl
privilege-at ChangeNotify = refl
privilege-at RemoteShutdown = refl
privilege-at Undock = refl
privilege-at SyncAgent = refl
privilege-at EnableDelegation = refl
privilege-at ManageVolume = refl
privilege-at Impersonate = refl
privilege-at CreateGlobal = refl

pub each-privilege : (test : KnownPrivilege → Bool) → list_all test privileges ≡ true → (p : KnownPrivilege)
    → test p ≡ true
each-privilege test all p = at-place test privileges (low_of p - se_create_token) p all (privilege-at p)

right_place : LogonRight → ℕ
right_place Interactive = 0
right_place Network = 1
right_place Batch = 2
right_place Service = 3
right_place DenyInteractive = 4
right_place DenyNetwork = 5
right_place DenyBatch = 6
right_place DenyService = 7
right_place RemoteInteractive = 8
right_place DenyRemoteInteractive = 9

right-at : (right : LogonRight) → slice_get logon_rights (right_place right) ≡ Some right
unfolding logon_rights right_place
right-at Interactive = refl
right-at Network = refl
right-at Batch = refl
right-at Service = refl
right-at DenyInteractive = refl
right-at DenyNetwork = refl
right-at DenyBatch = refl
right-at DenyService = refl
right-at RemoteInteractive = refl
right-at DenyRemoteInteractive = refl

pub each-right : (test : LogonRight → Bool) → list_all test logon_rights ≡ true → (right : LogonRight)
    → test right ≡ true
each-right test all right = at-place test logon_rights (right_place right) right all (right-at right)

-- ---- LUIDs

lows-are-high : list_all (λ p. nat_le se_create_token (low_of p)) privileges ≡ true
unfolding privileges privilege_row
lows-are-high = refl

pub low-leads-back : (p : KnownPrivilege) → privilege_of (low_of p) ≡ Some p
low-leads-back p =
    let high : nat_le se_create_token (low_of p) ≡ true =
    each-privilege (λ q. nat_le se_create_token (low_of q)) lows-are-high p in
    low-found (low_of p) (grind (arith, nat_tests)) ∙ privilege-at p

-- ---- ASCII folds to lower case

ascii-plain : (c : ℕ) → nat_lt c 128 ≡ true → is_surrogate c ≡ false
ascii-plain c small = let below : c < 128 = grind (arith, nat_tests) in grind (arith, nat_tests)

ascii-folds : (c : ℕ) → nat_lt c 128 ≡ true → folded_point c ≡ to_ascii_lowercase c
unfolding folded_point
ascii-folds c small =
    let below : c < 128 = grind (arith, nat_tests) in
    ap (λ b. cond b c (simple_fold c)) (ascii-plain c small) ∙ simple_fold-ascii c below

all-fold : (points : List ℕ) → list_all (λ c. nat_lt c 128) points ≡ true
    → map folded_point points ≡ map to_ascii_lowercase points
all-fold [] small = refl
all-fold (c ∷ points) small =
    ap (λ n. n ∷ map folded_point points) (ascii-folds c (first_so _ _ small))
    ∙ ap (λ ns. to_ascii_lowercase c ∷ ns) (all-fold points (second_so _ _ small))

-- the name in lower case
abbrev lower : List ℕ → List ℕ
lower name = map to_ascii_lowercase (code_points name)

abbrev is_ascii : List ℕ → Bool
is_ascii name = list_all (λ c. nat_lt c 128) (code_points name)

folds-to-lower : (name : List ℕ) → is_ascii name ≡ true → folded_points name ≡ lower name
unfolding folded_points
folds-to-lower name ascii = all-fold (code_points name) ascii

same-by-lower : (a b : List ℕ) → is_ascii a ≡ true → is_ascii b ≡ true → is_same a b ≡ bytes_eq (lower a) (lower b)
unfolding is_same
same-by-lower a b a-ascii b-ascii =
    ap (λ ns. bytes_eq ns (folded_points b)) (folds-to-lower a a-ascii)
    ∙ ap (bytes_eq (lower a)) (folds-to-lower b b-ascii)

privileges-ascii : list_all (λ p. is_ascii (name_of p)) privileges ≡ true
unfolding privileges privilege_row chars code_points units_of
privileges-ascii = refl

rights-ascii : list_all (λ right. is_ascii (right_name right)) logon_rights ≡ true
unfolding logon_rights right_row chars code_points units_of
rights-ascii = refl

-- ---- names differ

abbrev same_lower : List ℕ → List ℕ → Bool
same_lower a b = bytes_eq (lower a) (lower b)

abbrev tells : Bool → Bool → Bool
tells a b = cond a b (not b)

privileges-differ : list_all (λ p. list_all
    (λ q. tells (same_lower (name_of p) (name_of q)) (low_of q == low_of p)) privileges) privileges ≡ true
unfolding privileges privilege_row chars code_points units_of
privileges-differ = refl

rights-differ : list_all (λ p. list_all
    (λ q. tells (same_lower (right_name p) (right_name q)) (bit_of q == bit_of p)) logon_rights) logon_rights ≡ true
unfolding logon_rights right_row chars code_points units_of
rights-differ = refl

both-differ : list_all (λ p. list_all
    (λ q. not (same_lower (name_of p) (right_name q))) logon_rights) privileges ≡ true
unfolding logon_rights right_row privileges privilege_row chars code_points units_of
both-differ = refl

both-differ-too : list_all (λ p. list_all
    (λ q. not (same_lower (right_name q) (name_of p))) logon_rights) privileges ≡ true
unfolding logon_rights right_row privileges privilege_row chars code_points units_of
both-differ-too = refl

-- ---- what the tests tell

same-as : (b c : Bool) → tells b c ≡ true → b ≡ c
same-as true c is = sym is
same-as false true is = cc
same-as false false is = refl

not-so : (b : Bool) → not b ≡ true → b ≡ false
not-so true is = cc
not-so false is = refl

privilege-ascii : (p : KnownPrivilege) → is_ascii (name_of p) ≡ true
privilege-ascii p = each-privilege (λ q. is_ascii (name_of q)) privileges-ascii p

right-ascii : (right : LogonRight) → is_ascii (right_name right) ≡ true
right-ascii right = each-right (λ q. is_ascii (right_name q)) rights-ascii right

-- one name is the other's where the LUIDs are one
pub privilege-by-low : (p q : KnownPrivilege) → is_same (name_of p) (name_of q) ≡ (low_of q == low_of p)
privilege-by-low p q =
    same-by-lower (name_of p) (name_of q) (privilege-ascii p) (privilege-ascii q)
    ∙ same-as _ _ (each-privilege
    (λ y. tells (same_lower (name_of p) (name_of y)) (low_of y == low_of p))
    (each-privilege (λ x. list_all
    (λ y. tells (same_lower (name_of x) (name_of y)) (low_of y == low_of x)) privileges)
    privileges-differ p) q)

-- or where the bits are one
pub right-by-bit : (p q : LogonRight) → is_same (right_name p) (right_name q) ≡ (bit_of q == bit_of p)
right-by-bit p q =
    same-by-lower (right_name p) (right_name q) (right-ascii p) (right-ascii q)
    ∙ same-as _ _ (each-right
    (λ y. tells (same_lower (right_name p) (right_name y)) (bit_of y == bit_of p))
    (each-right (λ x. list_all
    (λ y. tells (same_lower (right_name x) (right_name y)) (bit_of y == bit_of x)) logon_rights)
    rights-differ p) q)

-- no privilege has the name of a right
pub privilege-is-no-right : (p : KnownPrivilege) (q : LogonRight)
    → is_same (name_of p) (right_name q) ≡ false
privilege-is-no-right p q =
    same-by-lower (name_of p) (right_name q) (privilege-ascii p) (right-ascii q)
    ∙ not-so _ (each-right (λ y. not (same_lower (name_of p) (right_name y)))
    (each-privilege (λ x. list_all (λ y. not (same_lower (name_of x) (right_name y))) logon_rights)
    both-differ p) q)

-- ---- names lead back

pub find-alike : {A : Type 0} (f g : A → Bool) (xs : List A) → ((x : A) → f x ≡ g x) → find f xs ≡ find g xs
find-alike f g [] alike = refl
find-alike f g (x ∷ xs) alike =
    ap (λ b. cond b (Some x) (find f xs)) (alike x) ∙ ap (λ rest. cond (g x) (Some x) rest) (find-alike f g xs alike)

pub find-none : {A : Type 0} (f : A → Bool) (xs : List A) → ((x : A) → f x ≡ false) → find f xs ≡ None
find-none f [] never = refl
find-none f (x ∷ xs) never = ap (λ b. cond b (Some x) (find f xs)) (never x) ∙ find-none f xs never

pub privilege-leads-back : (p : KnownPrivilege) → privilege_named (name_of p) ≡ Some p
privilege-leads-back p =
    find-alike (is_named (name_of p)) (has_low (low_of p)) privileges (privilege-by-low p)
    ∙ low-leads-back p

right-by-place : (right : LogonRight) → find (λ q. bit_of q == bit_of right) logon_rights ≡ Some right
unfolding logon_rights right_row
right-by-place Interactive = refl
right-by-place Network = refl
right-by-place Batch = refl
right-by-place Service = refl
right-by-place DenyInteractive = refl
right-by-place DenyNetwork = refl
right-by-place DenyBatch = refl
right-by-place DenyService = refl
right-by-place RemoteInteractive = refl
right-by-place DenyRemoteInteractive = refl

pub right-leads-back : (right : LogonRight) → logon_right_named (right_name right) ≡ Some right
right-leads-back right =
    find-alike (is_right_named (right_name right)) (λ q. bit_of q == bit_of right) logon_rights (right-by-bit right)
    ∙ right-by-place right

-- a privilege's name is no right's, whichever is looked for
pub right-is-no-privilege : (q : LogonRight) (p : KnownPrivilege)
    → is_same (right_name q) (name_of p) ≡ false
right-is-no-privilege q p =
    same-by-lower (right_name q) (name_of p) (right-ascii q) (privilege-ascii p)
    ∙ not-so _ (each-right (λ y. not (same_lower (right_name y) (name_of p)))
    (each-privilege (λ x. list_all (λ y. not (same_lower (right_name y) (name_of x))) logon_rights)
    both-differ-too p) q)

-- the privilege, of which no right has the name, or the right, of which no privilege has it
pub right-named-privilege : (p : KnownPrivilege) → right_named (name_of p) ≡ Some (Privilege p)
right-named-privilege p =
    ap (λ found. either_right found (logon_right_named (name_of p))) (privilege-leads-back p)

pub right-named-logon : (q : LogonRight) → right_named (right_name q) ≡ Some (Logon q)
right-named-logon q =
    ap (λ found. either_right found (logon_right_named (right_name q)))
    (find-none (is_named (right_name q)) privileges (right-is-no-privilege q))
    ∙ ap (either_right None) (right-leads-back q)

pub bits-lead-back : (right : LogonRight) → rights_of (bit_of right) ≡ right ∷ []
unfolding logon_rights right_row
bits-lead-back Interactive = refl
bits-lead-back Network = refl
bits-lead-back Batch = refl
bits-lead-back Service = refl
bits-lead-back DenyInteractive = refl
bits-lead-back DenyNetwork = refl
bits-lead-back DenyBatch = refl
bits-lead-back DenyService = refl
bits-lead-back RemoteInteractive = refl
bits-lead-back DenyRemoteInteractive = refl

-- ---- privileges that are held

privilege-count : length privileges ≡ 29
unfolding privileges
privilege-count = refl

found-one : {A : Type 0} (f : A → Bool) (b : Bool) (x y : A) (rest : Option A) → f x ≡ b → cond b (Some x) rest ≡ Some y
    → (rest ≡ Some y → f y ≡ true) → f y ≡ true
found-one f true x y rest is at later = let e : x ≡ y = cc in ap f (sym e) ∙ is
found-one f false x y rest is at later = later at

-- what is found passes the test
pub find-passes : {A : Type 0} (f : A → Bool) (xs : List A) (y : A) → find f xs ≡ Some y → f y ≡ true
find-passes f [] y at = cc
find-passes f (x ∷ xs) y at = found-one f (f x) x y (find f xs) refl at (find-passes f xs y)

missed-one : {A : Type 0} (f : A → Bool) (b : Bool) (x : A) (xs : List A) (rest : Option A) → f x ≡ b
    → cond b (Some x) rest ≡ None → (rest ≡ None → list_all (λ y. not (f y)) xs ≡ true)
    → (not (f x) && list_all (λ y. not (f y)) xs) ≡ true
missed-one f true x xs rest is none later = cc
missed-one f false x xs rest is none later =
    ap (λ b. not b && list_all (λ y. not (f y)) xs) is ∙ later none

-- where none is found, none passes
pub find-misses : {A : Type 0} (f : A → Bool) (xs : List A) → find f xs ≡ None
    → list_all (λ x. not (f x)) xs ≡ true
find-misses f [] none = refl
find-misses f (x ∷ xs) none = missed-one f (f x) x xs (find f xs) refl none (find-misses f xs)

pub no-privilege : (name : List ℕ) → privilege_named name ≡ None → (p : KnownPrivilege)
    → is_same name (name_of p) ≡ false
no-privilege name none p =
    not-so _ (each-privilege (λ q. not (is_named name q)) (find-misses (is_named name) privileges none) p)

pub no-right : (name : List ℕ) → logon_right_named name ≡ None → (q : LogonRight) → is_same name (right_name q) ≡ false
no-right name none q =
    not-so _ (each-right (λ y. not (is_right_named name y)) (find-misses (is_right_named name) logon_rights none) q)

equal : (m n : ℕ) → (m == n) ≡ true → m ≡ n
equal m n is = grind (arith, nat_tests)

-- a known LUID is that of a privilege
pub record IsLuidOf (low : ℕ) : Type 0 where
  pub privilege : KnownPrivilege
  pub found : privilege_of low ≡ Some privilege
  pub is : low_of privilege ≡ low

pub known-found : (low : ℕ) → se_create_token ≤ low → low ≤ se_create_global → IsLuidOf low
known-found low least most =
    let within : low - se_create_token < length privileges = omega (arith, privilege-count) in
    let at : KnownPrivilege = get_or privileges (low - se_create_token) CreateToken in
    let there : privilege_of low ≡ Some at =
    low-found low least ∙ slice_get-get_or privileges (low - se_create_token) CreateToken within in
    record {
      privilege = at;
      found = there;
      is = equal _ _ (find-passes (has_low low) privileges at there);
    }

-- so its name leads back to it
pub held-leads-back : (held : Held) → IsKnown held → low_in (privilege_named (held_name held)) ≡ held.low
held-leads-back held known =
    let at = known-found held.low known.0 known.1 in
    ap (λ found. low_in (privilege_named (name_in found))) at.found
    ∙ ap low_in (privilege-leads-back at.privilege)
    ∙ at.is

-- ---- what may be held

lows-are-known : list_all (λ p. nat_le se_create_token (low_of p) && nat_le (low_of p) se_create_global) privileges
    ≡ true
unfolding privileges privilege_row
lows-are-known = refl

pub privilege-may-be-held : (p : KnownPrivilege) (attributes : ℕ) → attributes < 2 ^ 32
    → IsKnown (record { low = low_of p; attributes = attributes })
privilege-may-be-held p attributes fits =
    let both : (nat_le se_create_token (low_of p) && nat_le (low_of p) se_create_global) ≡ true =
    each-privilege (λ q. nat_le se_create_token (low_of q) && nat_le (low_of q) se_create_global) lows-are-known p in
    let least : nat_le se_create_token (low_of p) ≡ true = first_so _ _ both in
    let most : nat_le (low_of p) se_create_global ≡ true = second_so _ _ both in
    (grind (arith, nat_tests), grind (arith, nat_tests), fits)

pub right-may-be-held : (right : LogonRight) → bit_and (bit_of right) known_system_access ≡ bit_of right
unfolding right_row
right-may-be-held Interactive = refl
right-may-be-held Network = refl
right-may-be-held Batch = refl
right-may-be-held Service = refl
right-may-be-held DenyInteractive = refl
right-may-be-held DenyNetwork = refl
right-may-be-held DenyBatch = refl
right-may-be-held DenyService = refl
right-may-be-held RemoteInteractive = refl
right-may-be-held DenyRemoteInteractive = refl

-- The names of what an account holds are those of its rights.
use Rattle.std.proofs.Common.{◌≡◌, ℕ, ◌==◌, Bool, true, false, ◌&&◌, ◌||◌, cond, All, List, [], ◌∷◌, map, Option}
use Rattle.std.proofs.Common.{Some, None}
use Rattle.std.proofs.Common.{refl, sym, ap, ◌∙◌}
use Rattle.std.specs.List.{filter, list_any}
use Rattle.std.proofs.lemmas.List.Elements.{All-head, All-tail}
use Rattle.std.proofs.lemmas.List.Folds.{list_any-append}
use Rattle.acct_calls.specs.Names.{is_same, IsEquivalence}
use Rattle.acct_tables.specs.Good.{IsKnown, IsGoodLsa}
use Rattle.acct_tables.specs.declared.row.Held.{Held}
use Rattle.acct_tables.specs.declared.row.LsaRow.{LsaRow}
use Rattle.lsad_rights.specs.Listings.{name_in, held_name, names_held, privilege_names, logon_names}
use Rattle.lsad_rights.specs.Laws.{holds_some, RightsAgree}
use Rattle.lsad_rights.specs.Rights.{right_row, bit_of, right_name, has_right, rights_of, logon_rights, is_right_named}
use Rattle.lsad_rights.specs.Rights.{logon_right_named, low_of, name_of, privileges, is_named, privilege_named}
use Rattle.lsad_rights.specs.Rights.{either_right, has_privilege}
use Rattle.lsad_rights.specs.declared.logon_rights.LogonRight.{LogonRight}
use Rattle.lsad_rights.specs.declared.logon_rights.LogonRight.TheVariants.{Interactive, Network, Batch, Service}
use Rattle.lsad_rights.specs.declared.logon_rights.LogonRight.TheVariants.{DenyInteractive, DenyNetwork, DenyBatch}
use Rattle.lsad_rights.specs.declared.logon_rights.LogonRight.TheVariants.{DenyService, RemoteInteractive}
use Rattle.lsad_rights.specs.declared.logon_rights.LogonRight.TheVariants.{DenyRemoteInteractive}
use Rattle.lsad_rights.specs.declared.privileges.KnownPrivilege.{KnownPrivilege}
use Rattle.lsad_rights.proofs.Naming.{privilege-by-low, right-by-bit, privilege-is-no-right, right-is-no-privilege}
use Rattle.lsad_rights.proofs.Naming.{find-passes, no-privilege, no-right, known-found}

-- ---- lists

any-alike : {A : Type 0} (f g : A → Bool) (xs : List A) → ((x : A) → f x ≡ g x) → list_any f xs ≡ list_any g xs
any-alike f g [] alike = refl
any-alike f g (x ∷ xs) alike =
    ap (λ b. b || list_any f xs) (alike x) ∙ ap (λ rest. g x || rest) (any-alike f g xs alike)

any-none : {A : Type 0} (f : A → Bool) (xs : List A) → ((x : A) → f x ≡ false) → list_any f xs ≡ false
any-none f [] never = refl
any-none f (x ∷ xs) never = ap (λ b. b || list_any f xs) (never x) ∙ any-none f xs never

any-map : {A B : Type 0} (f : B → Bool) (g : A → B) (xs : List A) → list_any f (map g xs) ≡ list_any (λ x. f (g x)) xs
any-map f g [] = refl
any-map f g (x ∷ xs) = ap (λ rest. f (g x) || rest) (any-map f g xs)

kept-one : {A : Type 0} (f : A → Bool) (b : Bool) (x : A) (xs : List A)
    → list_any f (cond b (x ∷ xs) xs) ≡ ((f x && b) || list_any f xs)
kept-one f true x xs = ap (λ c. c || list_any f xs) (sym (and-true (f x)))
  where
    and-true : (c : Bool) → (c && true) ≡ c
    and-true true = refl
    and-true false = refl
kept-one f false x xs = ap (λ c. c || list_any f xs) (sym (and-false (f x)))
  where
    and-false : (c : Bool) → (c && false) ≡ false
    and-false true = refl
    and-false false = refl

any-kept : {A : Type 0} (f g : A → Bool) (xs : List A) → list_any f (filter g xs) ≡ list_any (λ x. f x && g x) xs
any-kept f g [] = refl
any-kept f g (x ∷ xs) =
    kept-one f (g x) x (filter g xs) ∙ ap (λ rest. (f x && g x) || rest) (any-kept f g xs)

-- ---- names that are one

by-both : (b c : Bool) → (b ≡ true → c ≡ true) → (c ≡ true → b ≡ true) → b ≡ c
by-both true c to back = sym (to refl)
by-both false true to back = back refl
by-both false false to back = refl

same-alike : IsEquivalence → (name x n : List ℕ) → is_same name x ≡ true → is_same name n ≡ is_same x n
same-alike laws name x n one =
    by-both (is_same name n) (is_same x n)
    (λ is. laws.transitive x name n (laws.symmetric x name ∙ one) is)
    (λ is. laws.transitive name x n one is)

-- ---- privileges

held-same : (p : KnownPrivilege) (held : Held) → IsKnown held
    → is_same (name_of p) (held_name held) ≡ (held.low == low_of p)
held-same p held known =
    let at = known-found held.low known.0 known.1 in
    ap (λ found. is_same (name_of p) (name_in found)) at.found
    ∙ privilege-by-low p at.privilege
    ∙ ap (λ low. low == low_of p) at.is

held-other : (q : LogonRight) (held : Held) → IsKnown held → is_same (right_name q) (held_name held) ≡ false
held-other q held known =
    let at = known-found held.low known.0 known.1 in
    ap (λ found. is_same (right_name q) (name_in found)) at.found ∙ right-is-no-privilege q at.privilege

held-none : (name : List ℕ) → privilege_named name ≡ None → (held : Held) → IsKnown held
    → is_same name (held_name held) ≡ false
held-none name none held known =
    let at = known-found held.low known.0 known.1 in
    ap (λ found. is_same name (name_in found)) at.found ∙ no-privilege name none at.privilege

any-held : (f g : Held → Bool) (held : List Held) → ((h : Held) → IsKnown h → f h ≡ g h) → All IsKnown held
    → list_any f held ≡ list_any g held
any-held f g [] alike known = refl
any-held f g (h ∷ held) alike known =
    ap (λ b. b || list_any f held) (alike h (All-head IsKnown h held known))
    ∙ ap (λ rest. g h || rest) (any-held f g held alike (All-tail IsKnown h held known))

never : (xs : List Held) → list_any (λ h. false) xs ≡ false
never xs = any-none (λ h. false) xs (λ h. refl)

-- ---- rights to log on

or-false : (b : Bool) → (b || false) ≡ b
or-false true = refl
or-false false = refl

-- the one whose bit is looked for
by-bit : (access : ℕ) (q : LogonRight)
    → list_any (λ y. (bit_of y == bit_of q) && has_right access y) logon_rights ≡ has_right access q
unfolding logon_rights right_row
by-bit access Interactive = or-false (has_right access Interactive)
by-bit access Network = or-false (has_right access Network)
by-bit access Batch = or-false (has_right access Batch)
by-bit access Service = or-false (has_right access Service)
by-bit access DenyInteractive = or-false (has_right access DenyInteractive)
by-bit access DenyNetwork = or-false (has_right access DenyNetwork)
by-bit access DenyBatch = or-false (has_right access DenyBatch)
by-bit access DenyService = or-false (has_right access DenyService)
by-bit access RemoteInteractive = or-false (has_right access RemoteInteractive)
by-bit access DenyRemoteInteractive = or-false (has_right access DenyRemoteInteractive)

logon-same : (access : ℕ) (q : LogonRight)
    → list_any (is_same (right_name q)) (map right_name (rights_of access)) ≡ has_right access q
logon-same access q =
    any-map (is_same (right_name q)) right_name (rights_of access)
    ∙ any-alike (λ y. is_same (right_name q) (right_name y)) (λ y. bit_of y == bit_of q) (rights_of access)
    (right-by-bit q)
    ∙ any-kept (λ y. bit_of y == bit_of q) (has_right access) logon_rights
    ∙ by-bit access q

logon-none : (name : List ℕ) (access : ℕ) → ((q : LogonRight) → is_same name (right_name q) ≡ false)
    → list_any (is_same name) (map right_name (rights_of access)) ≡ false
logon-none name access other =
    any-map (is_same name) right_name (rights_of access)
    ∙ any-none (λ y. is_same name (right_name y)) (rights_of access) other

-- ---- all names

both : (b c d e : Bool) → b ≡ d → c ≡ e → (b || c) ≡ (d || e)
both b c d e left right = ap (λ x. x || c) left ∙ ap (λ x. d || x) right

parts : (name : List ℕ) (l : LsaRow) → list_any (is_same name) (names_held (Some l))
    ≡ (list_any (is_same name) (privilege_names l) || list_any (is_same name) (logon_names l))
parts name l = list_any-append (is_same name) (privilege_names l) (logon_names l)

privileges-of : (name : List ℕ) (l : LsaRow) (g : Held → Bool)
    → ((h : Held) → IsKnown h → is_same name (held_name h) ≡ g h) → IsGoodLsa l
    → list_any (is_same name) (privilege_names l) ≡ list_any g l.privileges
privileges-of name l g alike good =
    any-map (is_same name) held_name l.privileges
    ∙ any-held (λ h. is_same name (held_name h)) g l.privileges alike good.privileges_known

agree-privilege : (p : KnownPrivilege) (l : LsaRow) → IsGoodLsa l
    → list_any (is_same (name_of p)) (names_held (Some l)) ≡ has_privilege (low_of p) l.privileges
agree-privilege p l good =
    parts (name_of p) l
    ∙ both _ _ _ _ (privileges-of (name_of p) l (λ h. h.low == low_of p) (held-same p) good)
    (logon-none (name_of p) l.access (privilege-is-no-right p))
    ∙ or-false (has_privilege (low_of p) l.privileges)

agree-right : (q : LogonRight) (l : LsaRow) → IsGoodLsa l
    → list_any (is_same (right_name q)) (names_held (Some l)) ≡ has_right l.access q
agree-right q l good =
    parts (right_name q) l
    ∙ both _ _ _ _
    (privileges-of (right_name q) l (λ h. false) (held-other q) good ∙ never l.privileges)
    (logon-same l.access q)

agree-none : (name : List ℕ) (l : LsaRow) → privilege_named name ≡ None → logon_right_named name ≡ None → IsGoodLsa l
    → list_any (is_same name) (names_held (Some l)) ≡ false
agree-none name l no-p no-q good =
    parts name l
    ∙ both _ _ _ _
    (privileges-of name l (λ h. false) (held-none name no-p) good ∙ never l.privileges)
    (logon-none name l.access (no-right name no-q))

-- a name is compared as the right's own name is
as-named : IsEquivalence → (name own : List ℕ) (names : List (List ℕ)) → is_same name own ≡ true
    → list_any (is_same name) names ≡ list_any (is_same own) names
as-named laws name own names one = any-alike (is_same name) (is_same own) names (λ n. same-alike laws name own n one)

agree-by : IsEquivalence → (name : List ℕ) (l : LsaRow) (p : Option KnownPrivilege) (q : Option LogonRight)
    → privilege_named name ≡ p → logon_right_named name ≡ q → IsGoodLsa l
    → list_any (is_same name) (names_held (Some l)) ≡ holds_some (either_right p q) l
agree-by laws name l (Some p) q p-is q-is good =
    as-named laws name (name_of p) (names_held (Some l)) (find-passes (is_named name) privileges p p-is)
    ∙ agree-privilege p l good
agree-by laws name l None (Some q) p-is q-is good =
    as-named laws name (right_name q) (names_held (Some l)) (find-passes (is_right_named name) logon_rights q q-is)
    ∙ agree-right q l good
agree-by laws name l None None p-is q-is good = agree-none name l p-is q-is good

pub agree : IsEquivalence → RightsAgree
agree laws name l good =
    agree-by laws name l (privilege_named name) (logon_right_named name) refl refl good

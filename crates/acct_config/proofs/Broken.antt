-- The first broken rule is the least.
use Rattle.std.proofs.Common.{◌≡◌, ℕ, zero, suc, ◌+◌, ◌<◌, Bool, true, false, List, [], ◌∷◌, Some, None, length, refl}
use Rattle.std.proofs.Common.{subst, arith}
use Rattle.std.specs.List.{slice_get}
use Rattle.acct_codes.specs.declared.kind.Kind.TheVariants.{Server, Domain, Group, Alias, User, Policy, Account}
use Rattle.acct_config.specs.Laws.{FirstBrokenIsLeast, NoneBrokenIsEachKept, DescriptorsStandByKind}
use Rattle.acct_config.specs.Rules.{first_broken_from, rules}

-- the element at a place is the first that is false
record IsFirstFalse (ks : List Bool) (i : ℕ) : Type 0 where
  pub here : slice_get ks i ≡ Some false
  pub before : (j : ℕ) → j < i → slice_get ks j ≡ Some true

before_more : (ks : List Bool) (i : ℕ) → ((j : ℕ) → j < i → slice_get ks j ≡ Some true) → (j : ℕ) → j < suc i →
    slice_get (true ∷ ks) j ≡ Some true
before_more ks i h zero l = refl
before_more ks i h (suc j) l = h j (omega arith)

first_false : (n m : ℕ) (ks : List Bool) → first_broken_from n ks ≡ Some m → (i : ℕ) × (m ≡ n + i) × IsFirstFalse ks i
first_false n m [] h = absurd (cc)
first_false n m (true ∷ ks) h =
    let (i, e, f) = first_false (suc n) m ks h in
    (suc i, omega arith, record { here = f.here; before = before_more ks i f.before })
first_false n m (false ∷ ks) h =
    let same : n ≡ m = cc in
    (0, omega arith, record { here = refl; before = λ j l. absurd (omega arith) })

pub first_is_least : FirstBrokenIsLeast
first_is_least bytes number h =
    let (i, e, f) = first_false 0 number (rules bytes) h in
    let same : i ≡ number = omega arith in
    let first = subst (IsFirstFalse (rules bytes)) same f in
    record { broken = first.here; before = first.before }

each_kept : (n : ℕ) (ks : List Bool) → first_broken_from n ks ≡ None → (i : ℕ) → i < length ks → slice_get ks i
    ≡ Some true
each_kept n [] h i l = absurd (omega arith)
each_kept n (true ∷ ks) h zero l = refl
each_kept n (true ∷ ks) h (suc i) l = each_kept (suc n) ks h i (omega arith)
each_kept n (false ∷ ks) h i l = absurd (cc)

pub none_is_each : NoneBrokenIsEachKept
none_is_each bytes h number l = each_kept 0 (rules bytes) h number l

pub by_kind : DescriptorsStandByKind
by_kind d Server = refl
by_kind d Domain = refl
by_kind d Group = refl
by_kind d Alias = refl
by_kind d User = refl
by_kind d Policy = refl
by_kind d Account = refl

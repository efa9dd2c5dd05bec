-- What holds of each operation holds of the operation of a call, and what a decision is.
use Rattle.std.proofs.Common.{◌≡◌, inl, inr, ℕ, Bool, true, false, not, cond, List, [], ◌∷◌, Option, Some, None}
use Rattle.std.proofs.Common.{option_map, refl, sym, subst}
use Rattle.std.specs.List.{list_all}
use Rattle.std.specs.Prelude.{◌&&◌, ◌⊎◌}
use Rattle.acct_rules.specs.declared.planned.Planned.{Planned}
use Rattle.acct_rules.specs.Planned.{Condition, none_fails, refusal, decided}
use Rattle.acct_rules.specs.Profiles.{Operation}
use Rattle.acct_operations.specs.declared.table.Work.{Work}
use Rattle.acct_operations.specs.Table.{operation}

pub of-work : (P : Operation → Type 0) → ((work : Work) → P (operation work)) → (work : Option Work) (o : Operation)
    → option_map operation work ≡ Some o → P o
of-work P each None o is = cc
of-work P each (Some work) o is = let same : operation work ≡ o = cc in subst P same (each work)

pub both : (a b : Bool) → a && b ≡ true → (a ≡ true) × (b ≡ true)
both true b h = (refl, h)
both false b h = cc

-- A condition fails, and its status is answered; or none fails, and what was planned is.
pub record Fails (test : ℕ → Bool) (cs : List Condition) (planned : Planned) : Type 0 where
  pub status : ℕ
  pub refuses : decided cs planned ≡ refusal status
  pub tested : list_all (λ (c : Condition). test c.status) cs ≡ true → test status ≡ true
  pub fails : none_fails cs ≡ false

pub record Passes (cs : List Condition) (planned : Planned) : Type 0 where
  pub plans : decided cs planned ≡ planned
  pub none : none_fails cs ≡ true

abbrev pub Decision : (ℕ → Bool) → List Condition → Planned → Type 0
Decision test cs planned = Fails test cs planned ⊎ Passes cs planned

decides-by : (test : ℕ → Bool) (c : Condition) (cs : List Condition) (planned : Planned) (fails : Bool)
    → c.fails ≡ fails
    → Decision test cs planned → Decision test (c ∷ cs) planned
decides-by test c cs planned true is rest = inl (record {
  status = c.status;
  refuses = subst (λ (b : Bool). cond b (refusal c.status) (decided cs planned) ≡ refusal c.status) (sym is) refl;
  tested = λ all. (both _ _ all).0;
  fails = subst (λ (b : Bool). not b && none_fails cs ≡ false) (sym is) refl;
})
decides-by test c cs planned false is (inl rest) = inl (record {
  status = rest.status;
  refuses = subst (λ (b : Bool). cond b (refusal c.status) (decided cs planned) ≡ refusal rest.status) (sym is)
      rest.refuses;
  tested = λ all. rest.tested (both _ _ all).1;
  fails = subst (λ (b : Bool). not b && none_fails cs ≡ false) (sym is) rest.fails;
})
decides-by test c cs planned false is (inr rest) = inr (record {
  plans = subst (λ (b : Bool). cond b (refusal c.status) (decided cs planned) ≡ planned) (sym is) rest.plans;
  none = subst (λ (b : Bool). not b && none_fails cs ≡ true) (sym is) rest.none;
})

pub decides : (test : ℕ → Bool) (cs : List Condition) (planned : Planned) → Decision test cs planned
decides test [] planned = inr (record { plans = refl; none = refl })
decides test (c ∷ cs) planned = decides-by test c cs planned c.fails refl (decides test cs planned)

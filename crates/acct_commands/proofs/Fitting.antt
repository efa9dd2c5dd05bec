-- The calls of the generator can be encoded.
use Rattle.std.proofs.Common.{◌≡◌, ℕ, ◌+◌, ◌%◌, ◌==◌, ◌^◌, ◌<◌, ◌≤◌, Bool, true, false, List, [], ◌∷◌, ◌++◌}
use Rattle.std.proofs.Common.{if◌then◌else◌, length, codes, All, refl, arith, nat_lt}
use Rattle.std.specs.List.{list_all}
use Rattle.std.proofs.lemmas.Bool.{ltb-true}
use Rattle.std.proofs.lemmas.List.Elements.{All-nil, All-cons, All-append, All-from_recursion}
use Rattle.std.proofs.lemmas.List.Sums.{AllPass-from_list_all}
use Rattle.acct_calls.specs.declared.calls.Call.{Call}
use Rattle.acct_layouts.specs.Values.{IsText}
use Rattle.acct_layouts.specs.CallShapes.{CanBeSpelled}
use Rattle.acct_layouts.specs.Table.{samr_layout, lsa_layout}
use Rattle.dtyp_sid.specs.Sids.{IsSid}
use Rattle.acct_commands.specs.Generated.{most_users, domain_sid, user, user_sid, user_name, opening_calls, creation}
use Rattle.acct_commands.specs.Generated.{addition, control, control_calls, closing, user_calls, asked_names}
use Rattle.acct_commands.specs.Generated.{closing_calls}

below : (bound : ℕ) (numbers : List ℕ) → list_all (λ n. nat_lt n bound) numbers ≡ true → All (λ n. n < bound) numbers
below bound numbers all = λ k d lt. ltb-true _ _ (AllPass-from_list_all (λ n. nat_lt n bound) numbers all k d lt)

text-fits : (units : List ℕ) → length units ≤ 20 → list_all (λ unit. nat_lt unit (2 ^ 16)) units ≡ true → IsText units
text-fits units few all = (omega (arith, few), below (2 ^ 16) units all)

first-name : IsText (codes "u7919")
first-name = text-fits (codes "u7919") (omega arith) refl

domain-fits : IsSid domain_sid
domain-fits = record {
  authority_fits = omega arith;
  count_fits = omega arith;
  subs_fit = below (2 ^ 32) domain_sid.subs refl;
}

user-sid-fits : (k : ℕ) → k ≤ most_users → IsSid (user_sid k)
user-sid-fits k few =
    let last : All (λ (n : ℕ). n < 2 ^ 32) ((1000 + k) ∷ []) =
    All-cons (λ (n : ℕ). n < 2 ^ 32) (1000 + k) [] (omega (arith, few)) (All-nil (λ (n : ℕ). n < 2 ^ 32)) in
    record {
      authority_fits = omega arith;
      count_fits = omega arith;
      subs_fit = All-append (λ (n : ℕ). n < 2 ^ 32) domain_sid.subs ((1000 + k) ∷ [])
          (below (2 ^ 32) domain_sid.subs refl) last;
    }

pub opening-fits : All CanBeSpelled opening_calls
unfolding CanBeSpelled samr_layout opening_calls
opening-fits =
    All-from_recursion CanBeSpelled opening_calls (
      (refl, omega arith),
      (
        (omega arith, (omega arith, domain-fits)),
        ((omega arith, (text-fits (codes "site") (omega arith) refl, refl, omega arith)), tt),
      ),
    )

creation-fits : (k : ℕ) → IsText (user_name k) → CanBeSpelled (creation k)
unfolding CanBeSpelled samr_layout
creation-fits k text = (omega arith, (text, omega arith, omega arith))

addition-fits : (k : ℕ) → k ≤ most_users → CanBeSpelled (addition k)
unfolding CanBeSpelled samr_layout
addition-fits k few = (omega arith, user-sid-fits k few)

control-fits : (k : ℕ) → k ≤ most_users → CanBeSpelled (control k)
unfolding CanBeSpelled samr_layout
control-fits k few = (omega (arith, few), ((omega arith, refl), omega arith))

closing-fits : (k : ℕ) → k ≤ most_users → CanBeSpelled (closing (user k))
unfolding CanBeSpelled samr_layout
closing-fits k few = (omega (arith, few), tt)

if-fits : (b : Bool) (call : Call) → CanBeSpelled call → All CanBeSpelled (if b then call ∷ [] else [])
if-fits true call fits = All-cons CanBeSpelled call [] fits (All-nil CanBeSpelled)
if-fits false call fits = All-nil CanBeSpelled

pub user-fits : (k : ℕ) → k ≤ most_users → IsText (user_name k) → All CanBeSpelled (user_calls k)
unfolding user_calls
user-fits k few text =
    let last : List Call = closing (user k) ∷ [] in
    let more : List Call = control_calls k ++ last in
    All-cons CanBeSpelled (creation k) (addition k ∷ more) (creation-fits k text)
    (All-cons CanBeSpelled (addition k) more (addition-fits k few)
    (All-append CanBeSpelled (control_calls k) last (if-fits (k % 2 == 1) (control k) (control-fits k few))
    (All-cons CanBeSpelled (closing (user k)) [] (closing-fits k few) (All-nil CanBeSpelled))))

names-fit : All IsText asked_names
names-fit =
    All-from_recursion IsText asked_names (first-name, (text-fits (codes "nobody") (omega arith) refl, tt))

first-name-alone : All IsText (codes "u7919" ∷ [])
first-name-alone = All-from_recursion IsText (codes "u7919" ∷ []) (first-name, tt)

pub closings-fit : (users : ℕ) → users ≤ most_users → All CanBeSpelled (closing_calls users)
unfolding CanBeSpelled samr_layout lsa_layout closing_calls
closings-fit users few =
    All-from_recursion CanBeSpelled (closing_calls users) (
      (omega arith, (omega arith, names-fit)),
      (
        (omega arith, (omega arith, omega arith, omega arith)),
        (
          (omega arith, tt),
          (
            (omega arith, tt),
            (
              (omega arith, tt),
              (
                (omega arith, tt),
                (
                  (refl, omega arith),
                  (
                    (omega (arith, few), (omega arith, omega arith, first-name-alone)),
                    ((omega (arith, few), tt), tt),
                  ),
                ),
              ),
            ),
          ),
        ),
      ),
    )

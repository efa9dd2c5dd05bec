-- The three groups pushed one after the other are the seed groups after the rows that were there.
use Rattle.std.proofs.Common.{◌≡◌, List, [], ◌∷◌, ◌++◌, refl, append_assoc}
use Rattle.acct_rows.proofs.seed.push_groups.Goals as goal

-- three values after a list, one by one
pushed : {A : Type 0} (r s t u : List A) (x y z : A) → s ≡ r ++ x ∷ [] → t ≡ s ++ y ∷ [] → u ≡ t ++ z ∷ []
    → u ≡ r ++ x ∷ y ∷ z ∷ []
pushed r s t u x y z first second third = rw (third, second, first, append_assoc, append_assoc) refl

pub returns : goal.returns
returns c =
    pushed _ _ _ _ _ _ _ c.in_ok-push_group.ensures c.in_ok-push_group-2.ensures c.in_ok-push_group-3.ensures

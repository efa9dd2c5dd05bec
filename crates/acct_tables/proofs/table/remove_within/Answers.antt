-- Copying the tail over the values within the prefix, and cutting the length, leaves all other values.
use Rattle.std.proofs.Common.{◌≡◌, ◌+◌, ◌-◌, ◌≤◌, ℕ, Bool, List, ◌++◌, length, take, drop, sym, ap, subst, ◌∙◌}
use Rattle.std.specs.List.{filter}
use Rattle.acct_tables.proofs.Between.{cut}
use Rattle.acct_tables.proofs.table.remove_within.Goals as goal

-- the others, of one list that is another
others_of : {A : Type 0} (p : A → Bool) (xs ys : List A) (i j : ℕ) → ys ≡ xs → take i ys ++ drop j ys ≡ filter p ys
    → take i xs ++ drop j xs ≡ filter p xs
others_of {A} p xs ys i j same is = subst (λ (zs : List A). take i zs ++ drop j zs ≡ filter p zs) same is

pub returns-clause-values : goal.returns-clause-values
returns-clause-values g c =
    let i : ℕ = c.bounds-first.result.0 in
    let j : ℕ = c.bounds-first.result.1 in
    let n : ℕ = c.len-len.result in
    let long : n ≡ length c.args.values.now.items =
    c.len-len.ensures ∙ sym c.deref.ensures.len ∙ ap length c.deref.ensures.value in
    let inside : j ≤ n =
    subst (λ (m : ℕ). j ≤ m) (ap length c.deref.ensures.value ∙ sym long) c.bounds-first.ensures.inside in
    c.truncate.ensures.items ∙ ap (take (i + (n - j))) c.copy_within.ensures.items
    ∙ cut c.args.values.now.items i j n c.bounds-first.ensures.order inside long
    ∙ others_of _ _ _ i j c.deref.ensures.value c.bounds-first.ensures.others

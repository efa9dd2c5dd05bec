-- An act with those before it and those after it.
use Rattle.std.proofs.Common.{◌≡◌, ℕ, zero, suc, ◌+◌, ◌<◌, List, [], ◌∷◌, ◌++◌, length, take, Some, slice_get}
use Rattle.std.proofs.Common.{slice_index_or, sym, ap, subst, arith}
use Rattle.rpc_session.specs.declared.sessions.Act.{Act}

pub act-here : (i : ℕ) (acts : List Act) (x d : Act) → i < length acts → x ≡ slice_index_or acts i d
    → slice_get acts i ≡ Some x
act-here i [] x d lt is = absurd (omega arith)
act-here zero (y ∷ acts) x d lt is = ap (λ (z : Act). Some z) (sym is)
act-here (suc i) (y ∷ acts) x d lt is = act-here i acts x d (omega arith) is

pub record IsParted (i : ℕ) (acts : List Act) (x : Act) : Type 0 where
  pub rest : List Act
  pub whole : acts ≡ take i acts ++ x ∷ rest
  pub more : take (suc i) acts ≡ take i acts ++ x ∷ []

pub parted : (i : ℕ) (acts : List Act) (x : Act) → slice_get acts i ≡ Some x → IsParted i acts x
parted i [] x is = absurd cc
parted zero (y ∷ acts) x is =
    let same : y ≡ x = cc in record {
      rest = acts;
      whole = ap (λ (z : Act). z ∷ acts) same;
      more = ap (λ (z : Act). z ∷ []) same;
    }
parted (suc i) (y ∷ acts) x is =
    let p = parted i acts x is in record {
      rest = p.rest;
      whole = ap (λ (xs : List Act). y ∷ xs) p.whole;
      more = ap (λ (xs : List Act). y ∷ xs) p.more;
    }

pub one-more : (i : ℕ) (acts : List Act) (x : Act) → slice_get acts i ≡ Some x
    → take (i + 1) acts ≡ take i acts ++ x ∷ []
one-more i acts x is = let next : suc i ≡ i + 1 = omega arith in
    subst (λ (n : ℕ). take n acts ≡ take i acts ++ x ∷ []) next (parted i acts x is).more

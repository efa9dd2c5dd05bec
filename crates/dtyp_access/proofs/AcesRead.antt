-- The reading of a list of entries, one by one
use Rattle.std.proofs.Common.{◌≡◌, ℕ, suc, List, [], ◌∷◌, ◌++◌, refl, sym, ap, ◌∙◌, append_assoc, Result, Ok, Err}
use Rattle.std.proofs.lemmas.List.{append-nil}
use Rattle.dtyp_access.specs.declared.ace.Ace.{Ace}
use Rattle.dtyp_access.specs.declared.errors.DescError.{DescError}
use Rattle.dtyp_access.specs.declared.errors.DescError.TheVariants.{Short, Revision, Offset, AceType, Sid as NoSid}
use Rattle.dtyp_access.specs.declared.errors.DescError.TheVariants.{Memory}
use Rattle.dtyp_access.specs.Reading.{then_read, ReadsAllIfRoom, aces_at, ace_at, next_ace}

-- a refusal that is the expected one is an answer
pub answer_err : {X : Type 0} (refusal : DescError) (wanted : Result X DescError) → wanted ≡ Err refusal →
    ReadsAllIfRoom (Err refusal) wanted
answer_err (Short place) wanted is = is
answer_err (Revision place) wanted is = is
answer_err (Offset place) wanted is = is
answer_err (AceType place) wanted is = is
answer_err (NoSid place) wanted is = is
answer_err Memory wanted is = tt

-- entries after those that are read
abbrev pub behind : List Ace → Result (List Ace) DescError → Result (List Ace) DescError
behind read rest = then_read rest (λ aces. Ok (read ++ aces))

pub aces_at-none : (place end : ℕ) (bytes : List ℕ) → aces_at 0 place end bytes ≡ Ok []
unfolding aces_at
aces_at-none place end bytes = refl

pub aces_at-err : (rest place end : ℕ) (bytes : List ℕ) (refusal : DescError) → ace_at place end bytes ≡ Err refusal →
    aces_at (suc rest) place end bytes ≡ Err refusal
unfolding aces_at
aces_at-err rest place end bytes refusal is =
    ap (λ o. then_read o (λ ace. then_read (aces_at rest (next_ace place bytes) end bytes) (λ aces. Ok (ace ∷ aces))))
    is

pub aces_at-ok : (rest place end : ℕ) (bytes : List ℕ) (ace : Ace) → ace_at place end bytes ≡ Ok ace
    → aces_at (suc rest) place end bytes
    ≡ then_read (aces_at rest (next_ace place bytes) end bytes) (λ aces. Ok (ace ∷ aces))
unfolding aces_at
aces_at-ok rest place end bytes ace is =
    ap (λ o. then_read o (λ ace. then_read (aces_at rest (next_ace place bytes) end bytes) (λ aces. Ok (ace ∷ aces))))
    is

behind_one : (read : List Ace) (ace : Ace) (rest : Result (List Ace) DescError) →
    behind read (then_read rest (λ aces. Ok (ace ∷ aces))) ≡ behind (read ++ ace ∷ []) rest
behind_one read ace (Ok aces) =
    ap (λ (all : List Ace). let o : Result (List Ace) DescError = Ok all in o) (sym (append_assoc read (ace ∷ []) aces))
behind_one read ace (Err refusal) = refl

-- the step of the loop
pub read_err : (all : Result (List Ace) DescError) (read : List Ace) (left rest place end : ℕ) (bytes : List ℕ)
    (refusal : DescError)
    → left ≡ suc rest → all ≡ behind read (aces_at left place end bytes) → ace_at place end bytes ≡ Err refusal → all
    ≡ Err refusal
read_err all read left rest place end bytes refusal more is refused =
    is ∙ ap (λ n. behind read (aces_at n place end bytes)) more
    ∙ ap (behind read) (aces_at-err rest place end bytes refusal refused)

pub read_ok : (all : Result (List Ace) DescError) (read : List Ace) (left rest place end next : ℕ) (bytes : List ℕ)
    (ace : Ace)
    → left ≡ suc rest → all ≡ behind read (aces_at left place end bytes) → ace_at place end bytes ≡ Ok ace → next
    ≡ next_ace place bytes
    → all ≡ behind (read ++ ace ∷ []) (aces_at rest next end bytes)
read_ok all read left rest place end next bytes ace more is found is_next =
    is
    ∙ ap (λ n. behind read (aces_at n place end bytes)) more
    ∙ ap (behind read) (aces_at-ok rest place end bytes ace found)
    ∙ behind_one read ace (aces_at rest (next_ace place bytes) end bytes)
    ∙ ap (λ place. behind (read ++ ace ∷ []) (aces_at rest place end bytes)) (sym is_next)

pub read_all : (all : Result (List Ace) DescError) (read : List Ace) (left place end : ℕ) (bytes : List ℕ) → left ≡ 0 →
    all ≡ behind read (aces_at left place end bytes) → all ≡ Ok read
read_all all read left place end bytes none is =
    is ∙ ap (λ n. behind read (aces_at n place end bytes)) none ∙ ap (behind read) (aces_at-none place end bytes)
    ∙ ap (λ (aces : List Ace). let o : Result (List Ace) DescError = Ok aces in o) (append-nil read)

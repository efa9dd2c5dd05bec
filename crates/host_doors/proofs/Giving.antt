-- What holds of each door that was given, of the doors that are answered where a listener has them, and of what was
-- asked for, where nothing is told of that.
use Rattle.std.proofs.Common.{◌≡◌, refl, List, Result, Ok, Err, IfOk, None, All}
use Rattle.std.proofs.lemmas.List.Elements.{All-weaker}
use Rattle.acct_keeper.specs.declared.keeper.KeepError.{KeepError}
use Rattle.acct_links.specs.declared.asking.Asking.{Asking}
use Rattle.acct_links.specs.Doors.{asked_after}
use Rattle.std.specs.declared.io.Error.{Error}
use Rattle.host_doors.specs.declared.troubles.ListenError.{ListenError}
use Rattle.host_doors.specs.Troubles.{listened}

-- what follows for one door follows for each
pub each-weaker : {V D E : Type 0} (items : V → List D) (P Q : D → Type 0) → ((door : D) → P door → Q door)
    → (result : Result V E) → IfOk result (λ doors. All P (items doors)) → IfOk result (λ doors. All Q (items doors))
each-weaker items P Q follows (Ok doors) all = All-weaker P Q follows (items doors) all
each-weaker items P Q follows (Err e) all = tt

pub untold : {V : Type 0} (asking : Asking) (result : Result V KeepError) → None ≡ asked_after None asking result
untold asking (Ok doors) = refl
untold asking (Err e) = refl

-- what holds of the doors that were opened holds of those that are given
pub of-listened : {P V : Type 0} (Q : V → Type 0) (opened : Result (P × V) Error) (result : Result V ListenError)
    → result ≡ listened opened → IfOk opened (λ given. Q given.1) → IfOk result Q
of-listened Q (Ok given) result same holds = rw same holds
of-listened Q (Err e) result same holds = rw same tt

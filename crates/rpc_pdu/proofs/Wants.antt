-- Where reading runs out of memory, something was there to take it: bytes after a place, or a part that is counted.
use Rattle.std.proofs.Common.{◌≡◌, ℕ, ◌<◌, Bool, true, false, nat_lt, List, [], length, drop, Result, Ok, Err}
use Rattle.std.proofs.Common.{inl, inr, ◌∙◌, arith}
use Rattle.std.proofs.lemmas.Bool.{cases_lt, lt-ltb}
use Rattle.std.proofs.lemmas.List.{drop_all}
use Rattle.acct_base.specs.declared.fields.Unread.{Unread}
use Rattle.acct_base.specs.declared.fields.Unread.TheVariants.{Memory, Misspelled}
use Rattle.rpc_pdu.specs.Bodies.{WantsOnlyIf}

pub wants : {A : Type 0} {takes : Bool} (r : Result A Unread) → takes ≡ true → WantsOnlyIf takes r
wants (Ok x) is = tt
wants (Err Misspelled) is = tt
wants (Err Memory) is = is

-- a part is being read, so some are counted
pub counted : {A : Type 0} (r : Result A Unread) (done count : ℕ) → done < count → WantsOnlyIf (nat_lt 0 count) r
counted r done count lt = wants r (lt-ltb 0 count (omega (arith, lt)))

-- bytes after a place couldn't be copied, so there are some
pub behind : (place : ℕ) (bytes rest : List ℕ) → rest ≡ drop place bytes → (rest ≡ [] → false ≡ true)
    → nat_lt place (length bytes) ≡ true
behind place bytes rest is some =
    elim (cases_lt place (length bytes)) [
      | inl lt ↦ lt-ltb place (length bytes) lt
      | inr le ↦ absurd (let no = some (is ∙ drop_all place bytes le) in cc)
    ]

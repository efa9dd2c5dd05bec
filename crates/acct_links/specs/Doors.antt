-- What a door gives, and what an entrance was asked.
use Rattle.std.specs.Prelude.{◌≡◌, ◌≢◌, ℕ, Bool, true, false, List, [], ◌∷◌, ◌++◌, Option, Some, None, option_map}
use Rattle.std.specs.Prelude.{Result, Ok, Err}
use Rattle.acct_keeper.specs.declared.keeper.KeepError.{KeepError}
use Rattle.acct_links.specs.declared.asking.Asking.{Asking}
use Rattle.acct_links.specs.declared.doors.Next.{Next}
use Rattle.acct_links.specs.declared.doors.Next.TheVariants.{Link, Closed, Failed}

-- ---- the next link

-- P holds of the link that was given
abbrev pub IfLink : {L : Type 0} → Next L → (L → Type 0) → Type 0
IfLink (Link link) P = P link
IfLink Closed P = Unit {0}
IfLink Failed P = Unit {0}

abbrev pub is_closed : {L : Type 0} → Next L → Bool
is_closed (Link link) = false
is_closed Closed = true
is_closed Failed = false

abbrev pub is_failed : {L : Type 0} → Next L → Bool
is_failed (Link link) = false
is_failed Closed = false
is_failed Failed = true

-- The first of the links to come is given, and is then no longer to come. The door is closed exactly where none is to
-- come, and a failure leaves those to come.
abbrev pub GivesFirst : {L : Type 0} → Next L → List L → List L → Type 0
GivesFirst (Link link) old new = old ≡ link ∷ new
GivesFirst Closed old new = (old ≡ []) × (new ≡ [])
GivesFirst Failed old new = (old ≢ []) × (new ≡ old)

-- the same, where the links to come are told
abbrev pub GivesNext : {L : Type 0} → Next L → Option (List L) → Option (List L) → Type 0
GivesNext result None new = Unit {0}
GivesNext result (Some old) None = ⊥
GivesNext result (Some old) (Some new) = GivesFirst result old new

-- a finished link more, with the number of its connection
abbrev pub with_finished : {L : Type 0} → ℕ → L → Option (List (ℕ × L)) → Option (List (ℕ × L))
with_finished conn link finished = option_map (λ links. links ++ (conn, link) ∷ []) finished

-- ---- what an entrance was asked

-- the askings that were answered with doors, after one more
abbrev pub asked_after : {T : Type 0} → Option (List Asking) → Asking → Result T KeepError → Option (List Asking)
asked_after asked asking (Ok doors) = option_map (λ askings. askings ++ asking ∷ []) asked
asked_after asked asking (Err e) = asked

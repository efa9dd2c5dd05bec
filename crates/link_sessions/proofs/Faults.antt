-- The calls of a link that failed, after some of which none did.
use Rattle.std.proofs.Common.{ℕ, Bool, true, false, inl, inr, List, refl, ap, ◌∙◌, Result, Ok, Err, OnOk, OnErr}
use Rattle.std.specs.Prelude.{is_err, MatchResult}
use Rattle.acct_keeper.specs.Faults.{faults_after}
use Rattle.acct_links.specs.Links.{Told, Sends, SendsFront, FaultsAre}
use Rattle.link_sessions.specs.Sessions.{Faults}
use Rattle.link_sessions.specs.Taking.{IsSent, IsSentInPart}
use Rattle.link_sessions.specs.declared.ends.SessionEnd.{SessionEnd}
use Rattle.link_sessions.specs.declared.ends.SessionEnd.TheVariants as end

pub faults-none : (t : Told) → FaultsAre false false t t
faults-none t = record { reads = refl; writes = refl }

pub faults-then : (read write : Bool) (a b c : Told) → FaultsAre false false a b → FaultsAre read write b c
    → FaultsAre read write a c
faults-then read write a b c one two = record {
  reads = two.reads ∙ ap (λ n. faults_after read n) one.reads;
  writes = two.writes ∙ ap (λ n. faults_after write n) one.writes;
}

pub ends-then : (answer : SessionEnd) (a b c : Told) → FaultsAre false false a b → Faults answer b c
    → Faults answer a c
ends-then end.End a b c one two = faults-then false false a b c one two
ends-then (end.Closed place cause) a b c one two = faults-then false false a b c one two
ends-then end.ReadFault a b c one two = faults-then true false a b c one two
ends-then end.WriteFault a b c one two = faults-then false true a b c one two
ends-then (end.Full n) a b c one (inl two) = inl (faults-then false false a b c one two)
ends-then (end.Full n) a b c one (inr two) = inr (faults-then false true a b c one two)
ends-then (end.ByteLimit n) a b c one two = faults-then false false a b c one two
ends-then end.NoMemory a b c one two = faults-then false false a b c one two

-- what was sent, with the calls that failed
pub sent-whole : {T E : Type 0} (old new : Told) (bytes : List ℕ) (r : Result T E) → OnOk r (Sends old new bytes)
    → FaultsAre false (is_err r) old new → OnOk r (IsSent old new bytes)
sent-whole old new bytes (Ok x) sends faults = record { sends = sends; faults = faults }
sent-whole old new bytes (Err e) sends faults = tt

pub sent-in-part : {T E : Type 0} (old new : Told) (bytes : List ℕ) (r : Result T E)
    → OnErr r (SendsFront old new bytes) → FaultsAre false (is_err r) old new → OnErr r (IsSentInPart old new bytes)
sent-in-part old new bytes (Ok x) front faults = tt
sent-in-part old new bytes (Err e) front faults = record { front = front; faults = faults }

-- what a result says of the calls after some of which none failed
pub results-then : {T : Type 0} (r : Result T SessionEnd) (a b c : Told) → FaultsAre false false a b
    → MatchResult r (λ _. FaultsAre false false b c) (λ end. Faults end b c)
    → MatchResult r (λ _. FaultsAre false false a c) (λ end. Faults end a c)
results-then (Ok x) a b c one two = faults-then false false a b c one two
results-then (Err e) a b c one two = ends-then e a b c one two

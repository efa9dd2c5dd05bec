-- The place of what is left, and the bytes that wait, are the length of the stream.
use Rattle.std.proofs.Common.{◌≡◌, ℕ, zero, suc, ◌+◌, ◌<◌, ◌^◌, List, length, drop, Option, refl, sym, subst, arith}
use Rattle.std.proofs.Common.{length-drop}
use Rattle.rpc_pdu.specs.Laws.{IsStable}
use Rattle.rpc_session.specs.declared.sessions.Act.{Act}
use Rattle.rpc_session.specs.declared.sessions.Session.{Session}
use Rattle.rpc_session.specs.declared.sessions.Session.TheVariants.{Unbound}
use Rattle.rpc_session.specs.declared.hearing.Next.{Next}
use Rattle.rpc_session.specs.declared.hearing.Next.TheVariants as next
use Rattle.rpc_session.specs.declared.hearing.Hearing.{Hearing}
use Rattle.rpc_session.specs.declared.hearing.Hearing.TheVariants.{Going, Ended, Lost}
use Rattle.rpc_session.specs.Sessions.{Heard, heard_next, on_next, hear_in, hear, HasRoom}
use Rattle.rpc_session.specs.Acts.{IsRoomByLength}
use Rattle.rpc_session.proofs.Cutting.{whole_next}

-- where it is still going, so many bytes have come
abbrev HasCome : ℕ → Hearing → Type 0
HasCome n (Going conn place s rest) = place + length rest ≡ n
HasCome n Ended = Unit {0}
HasCome n Lost = Unit {0}

next_come : (conn place : ℕ) (bytes : List ℕ) (n : Next) (f : ℕ → Session → List ℕ → Heard)
    → ((act : Option Act) (t : Session) (size : ℕ) → n ≡ next.Goes act t size
    → HasCome (place + length bytes) (f (place + size) t (drop size bytes)).leaves)
    → HasCome (place + length bytes) (on_next conn place bytes n f).leaves
next_come conn place bytes (next.Waits t) f h = refl
next_come conn place bytes (next.Ends act) f h = tt
next_come conn place bytes (next.Goes act t size) f h = h act t size refl

come_in : IsStable → (turns conn place : ℕ) (s : Session) (bytes : List ℕ)
    → HasCome (place + length bytes) (hear_in turns conn place s bytes).leaves
unfolding hear_in
come_in stable zero conn place s bytes = refl
come_in stable (suc turns) conn place s bytes =
    next_come conn place bytes (heard_next conn place s bytes) (λ p t rest. hear_in turns conn p t rest)
    (λ act t size e.
    let w = whole_next stable conn place s bytes act t size e in let there = w.there in let len =
    length-drop size bytes in
    let total : place + size + length (drop size bytes) ≡ place + length bytes = omega (arith, there, len) in
    subst (λ (k : ℕ). HasCome k (hear_in turns conn (place + size) t (drop size bytes)).leaves) total
    (come_in stable turns conn (place + size) t (drop size bytes)))

room_of : (h : Hearing) (n : ℕ) (piece : List ℕ) → HasCome n h → n + length piece < 2 ^ 64 → HasRoom h piece
room_of (Going conn place s rest) n piece come lt = omega (arith, come, lt)
room_of Ended n piece come lt = tt
room_of Lost n piece come lt = tt

pub room_by_length_is : IsStable → IsRoomByLength
unfolding hear
room_by_length_is stable = λ conn stream hearing acts piece so_far lt.
    let come : HasCome (0 + length stream) (hear conn 0 Unbound stream).leaves =
    come_in stable (length stream) conn 0 Unbound stream in
    room_of hearing (0 + length stream) piece
    (subst (λ (h : Hearing). HasCome (0 + length stream) h) (sym so_far.stands) come) (omega arith)

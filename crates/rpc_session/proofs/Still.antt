-- Where no PDU and no refusal stands at the beginning, reading takes no memory; and so it is after all that was heard.
use Rattle.std.proofs.Common.{◌≡◌, ℕ, zero, suc, ◌+◌, ◌≤◌, false, nat_lt, List, [], ◌∷◌, length, take, drop, Option}
use Rattle.std.proofs.Common.{Some, None, refl, sym, ap, ◌∙◌, arith, length-drop}
use Rattle.std.proofs.lemmas.Bool.{le-ltb}
use Rattle.rpc_pdu.specs.declared.pdus.Pdu.{Pdu}
use Rattle.rpc_pdu.specs.declared.pdus.Side.{Side}
use Rattle.rpc_pdu.specs.declared.pdus.Side.TheVariants.{Server}
use Rattle.rpc_pdu.specs.Bodies.{Front, Whole, Rest, Refused, front, front_of_body, body_of}
use Rattle.rpc_pdu.specs.Laws.{IsStable}
use Rattle.rpc_pdu.specs.ReadPdu.{MayWant}
use Rattle.rpc_pdu.proofs.HeaderFacts.{long_16}
use Rattle.rpc_session.specs.declared.sessions.Act.{Act}
use Rattle.rpc_session.specs.declared.sessions.Session.{Session}
use Rattle.rpc_session.specs.declared.sessions.Session.TheVariants.{Unbound}
use Rattle.rpc_session.specs.declared.sessions.Step.{Step}
use Rattle.rpc_session.specs.declared.sessions.Step.TheVariants.{Refuses, Goes}
use Rattle.rpc_session.specs.declared.hearing.Next.{Next}
use Rattle.rpc_session.specs.declared.hearing.Next.TheVariants as next
use Rattle.rpc_session.specs.declared.hearing.Hearing.{Hearing}
use Rattle.rpc_session.specs.Sessions.{taken, Heard, stepped, next_of, heard_next, on_next, hear_in, hear, IsStill}
use Rattle.rpc_session.specs.Acts.{IsSoFar}
use Rattle.rpc_session.proofs.Cutting.{whole_next}

-- ---- running out of memory

body_isnt_rest : (head : List ℕ) (size : ℕ) (o : Option Pdu) → front_of_body head size o ≡ Rest → ⊥
body_isnt_rest head size None e = absurd cc
body_isnt_rest head size (Some pdu) e = absurd cc

pub wants_isnt_rest : (side : Side) (bytes : List ℕ) → MayWant side bytes → front side bytes ≡ Rest → ⊥
unfolding front
wants_isnt_rest side bytes may e =
    let low = long_16 side (take 16 bytes) may.kind may.size may.header in
    let there = may.there in
    let long : nat_lt (length bytes) 16 ≡ false = le-ltb _ _ (omega (arith, low, there)) in
    let whole : nat_lt (length bytes) may.size ≡ false = le-ltb _ _ there in
    let is : front side bytes ≡ front_of_body (take 16 bytes) may.size (body_of may.kind (take may.size bytes)) =
    rw (long, may.header, whole) refl in
    body_isnt_rest (take 16 bytes) may.size (body_of may.kind (take may.size bytes)) (sym is ∙ e)

-- ---- what stands at the beginning

pub waits_at_rest : (conn place : ℕ) (s : Session) (bytes : List ℕ) (n : Next) → front Server bytes ≡ Rest
    → heard_next conn place s bytes ≡ n → n ≡ next.Waits s
unfolding heard_next
waits_at_rest conn place s bytes n rest e = sym e ∙ ap (next_of conn place s) rest

step_goes_on : (conn place : ℕ) (pdu : Pdu) (size : ℕ) (t : Session) (step : Step)
    → stepped place pdu size step ≡ next.Waits t → ⊥
step_goes_on conn place pdu size t (Refuses cause) e = absurd cc
step_goes_on conn place pdu size t (Goes act after) e = absurd cc

rest_of_waits : (conn place : ℕ) (s t : Session) (f : Front) → next_of conn place s f ≡ next.Waits t → f ≡ Rest
rest_of_waits conn place s t (Whole pdu size) e = absurd (step_goes_on conn place pdu size t (taken conn s pdu) e)
rest_of_waits conn place s t Rest e = refl
rest_of_waits conn place s t (Refused at cause ptype id) e = absurd cc

waits_is_rest : (conn place : ℕ) (s t : Session) (bytes : List ℕ) → heard_next conn place s bytes ≡ next.Waits t
    → front Server bytes ≡ Rest
unfolding heard_next
waits_is_rest conn place s t bytes e = rest_of_waits conn place s t (front Server bytes) e

-- the same of bytes of which none was taken
pub first_at_rest : (conn place : ℕ) (s : Session) (all bytes : List ℕ) (at : ℕ) (n : Next) → bytes ≡ all → at ≡ 0
    → front Server all ≡ Rest → heard_next conn place s (drop at bytes) ≡ n → n ≡ next.Waits s
first_at_rest conn place s all bytes at n same first rest e =
    waits_at_rest conn place s (drop at bytes) n ((λ i. front Server (drop (first i) (same i))) ∙ rest) e

pub first_isnt_end : (conn place : ℕ) (s : Session) (all bytes : List ℕ) (at : ℕ) (act : Act) → bytes ≡ all → at ≡ 0
    → front Server all ≡ Rest → heard_next conn place s (drop at bytes) ≡ next.Ends act → ⊥
first_isnt_end conn place s all bytes at act same first rest e =
    let no = first_at_rest conn place s all bytes at (next.Ends act) same first rest e in absurd cc

pub first_isnt_whole : (conn place : ℕ) (s : Session) (all bytes : List ℕ) (at : ℕ) (act : Option Act) (t : Session)
    (size : ℕ) → bytes ≡ all → at ≡ 0 → front Server all ≡ Rest
    → heard_next conn place s (drop at bytes) ≡ next.Goes act t size → ⊥
first_isnt_whole conn place s all bytes at act t size same first rest e =
    let no = first_at_rest conn place s all bytes at (next.Goes act t size) same first rest e in absurd cc

-- ---- after all that was heard

nothing_is_rest : front Server [] ≡ Rest
unfolding front
nothing_is_rest = refl

still_next : (conn place : ℕ) (s : Session) (bytes : List ℕ) (later : ℕ → Session → List ℕ → Heard) (n : Next)
    → heard_next conn place s bytes ≡ n
    → ((act : Option Act) (t : Session) (size : ℕ) → heard_next conn place s bytes ≡ next.Goes act t size
    → IsStill (later (place + size) t (drop size bytes)).leaves)
    → IsStill (on_next conn place bytes n later).leaves
still_next conn place s bytes later (next.Waits t) e more = waits_is_rest conn place s t bytes e
still_next conn place s bytes later (next.Ends act) e more = tt
still_next conn place s bytes later (next.Goes act t size) e more = more act t size e

still_in : IsStable → (turns conn place : ℕ) (s : Session) (bytes : List ℕ) → length bytes ≤ turns
    → IsStill (hear_in turns conn place s bytes).leaves
unfolding hear_in
still_in stable zero conn place s [] le = nothing_is_rest
still_in stable zero conn place s (b ∷ bytes) le = absurd (omega arith)
still_in stable (suc turns) conn place s bytes le =
    still_next conn place s bytes (λ p t rest. hear_in turns conn p t rest) (heard_next conn place s bytes) refl
    (λ act t size e. let w = whole_next stable conn place s bytes act t size e in let len =
    length-drop size bytes in let low = w.low in let there = w.there in
    still_in stable turns conn (place + size) t (drop size bytes) (omega (arith, len, low, there, le)))

pub still : IsStable → (conn : ℕ) (stream : List ℕ) (h : Hearing) (acts : List Act) → IsSoFar conn stream h acts
    → IsStill h
unfolding hear
still stable conn stream h acts so_far =
    rw so_far.stands (still_in stable (length stream) conn 0 Unbound stream (omega arith))

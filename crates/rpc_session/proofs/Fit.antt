-- The sizes and the stubs of calls lie within the limits, and a refusal is the last act.
use Rattle.std.proofs.Common.{◌≡◌, ℕ, zero, suc, ◌+◌, ◌≤◌, ◌==◌, List, [], ◌∷◌, ◌++◌, length, drop, Option, Some, None}
use Rattle.std.proofs.Common.{All, true, false, slice_get, refl, sym, ◌∙◌, arith}
use Rattle.std.specs.Prelude.{nat_lt, bit_and}
use Rattle.std.proofs.lemmas.Bool.{cond_both, ltb-false}
use Rattle.std.proofs.lemmas.List.Elements.{All-append, All-nil, All-cons}
use Rattle.acct_codes.specs.Limits.{least_fragment, most_fragment, most_stub}
use Rattle.rpc_pdu.specs.declared.pdus.Side.TheVariants.{Server}
use Rattle.rpc_pdu.specs.declared.pdus.Pdu.{Pdu}
use Rattle.rpc_pdu.specs.declared.pdus.Pdu.TheVariants.{Bind, Alter, Request, Cancel, Orphaned, BindAck, AlterResp}
use Rattle.rpc_pdu.specs.declared.pdus.Pdu.TheVariants.{BindNak, Response, Fault}
use Rattle.rpc_pdu.specs.Bodies.{Front, Whole, Rest, Refused, front}
use Rattle.rpc_session.specs.declared.contexts.Context.{Context}
use Rattle.rpc_session.specs.declared.sessions.Act.{Act}
use Rattle.rpc_session.specs.declared.sessions.PartialRequest.{PartialRequest}
use Rattle.rpc_session.specs.declared.sessions.Association.{Association}
use Rattle.rpc_session.specs.declared.sessions.Session.{Session}
use Rattle.rpc_session.specs.declared.sessions.Session.TheVariants.{Unbound, Bound}
use Rattle.rpc_session.specs.declared.sessions.Step.{Step}
use Rattle.rpc_session.specs.declared.sessions.Step.TheVariants.{Refuses, Goes}
use Rattle.rpc_session.specs.declared.hearing.Hearing.TheVariants.{Ended}
use Rattle.rpc_session.specs.declared.hearing.Next.{Next}
use Rattle.rpc_session.specs.declared.hearing.Next.TheVariants as next
use Rattle.rpc_session.specs.Answers.{size_for, face_at}
use Rattle.rpc_session.specs.Sessions.{binds, asked, gathers, begins, goes_on, taken_first, taken_later, taken, Heard}
use Rattle.rpc_session.specs.Sessions.{stepped, next_of, heard_next, listed, joined, on_next, hear_in, hear}
use Rattle.rpc_session.specs.Acts.{IsFit, AllFit, is_refusal, IsLastOf, AreRefusalsLast}

abbrev FitSize : ℕ → Type 0
FitSize size = (least_fragment ≤ size) × (size ≤ most_fragment)

abbrev FitSession : Session → Type 0
FitSession Unbound = Unit {0}
FitSession (Bound b) = FitSize b.sizes.xmit

abbrev FitAct : Option Act → Type 0
FitAct None = Unit {0}
FitAct (Some act) = IsFit act × (is_refusal act ≡ false)

abbrev FitStep : Step → Type 0
FitStep (Refuses cause) = Unit {0}
FitStep (Goes act t) = FitAct act × FitSession t

size_fits : (n : ℕ) → FitSize (size_for n)
size_fits n = (omega arith, omega arith)

asked_fits : (g : PartialRequest) (size : ℕ) (o : Option Context) → FitSize size → length g.stub ≤ most_stub
    → FitAct (Some (asked g size o))
asked_fits g size None h le = (tt, refl)
asked_fits g size (Some c) h le = ((h.0, h.1, le), refl)

binds_fits : (b : Association) (answer : List ℕ) → FitSize b.sizes.xmit → FitStep (binds b answer)
binds_fits b answer h = cond_both (nat_lt 16 (length b.contexts)) _ _ FitStep (λ _. tt) (λ _. ((tt, refl), h))

gathers_fits : (b : Association) (flags : ℕ) (g : PartialRequest) → FitSize b.sizes.xmit → FitStep (gathers b flags g)
gathers_fits b flags g h =
    cond_both (nat_lt most_stub (length g.stub)) _ _ FitStep (λ _. tt)
    (λ is. let le = ltb-false most_stub (length g.stub) is in cond_both (bit_and flags 2 == 0) _ _ FitStep
    (λ _. (tt, h)) (λ _. (asked_fits g b.sizes.xmit (face_at g.context b.contexts) h le, h)))

begins_fits : (b : Association) (flags : ℕ) (g : PartialRequest) (o : Option PartialRequest) → FitSize b.sizes.xmit
    → FitStep (begins b flags g o)
begins_fits b flags g None h = gathers_fits b flags g h
begins_fits b flags g (Some other) h = tt

goes_on_fits : (b : Association) (flags id : ℕ) (stub : List ℕ) (o : Option PartialRequest) → FitSize b.sizes.xmit
    → FitStep (goes_on b flags id stub o)
goes_on_fits b flags id stub None h = tt
goes_on_fits b flags id stub (Some g) h =
    cond_both (g.id == id) _ _ FitStep (λ _. gathers_fits b flags (record g { stub = g.stub ++ stub }) h) (λ _. tt)

first_fits : (conn : ℕ) (pdu : Pdu) → FitStep (taken_first conn pdu)
unfolding taken_first
first_fits conn (Bind id xmit recv group elements) = binds_fits _ _ (size_fits recv)
first_fits conn (Alter id xmit recv group elements) = tt
first_fits conn (Request id flags context opnum stub) = tt
first_fits conn (Cancel id) = tt
first_fits conn (Orphaned id) = tt
first_fits conn (BindAck id xmit recv group outcomes) = tt
first_fits conn (AlterResp id xmit recv group outcomes) = tt
first_fits conn (BindNak id reason) = tt
first_fits conn (Response id flags context hint stub) = tt
first_fits conn (Fault id context status) = tt

later_fits : (conn : ℕ) (b : Association) (pdu : Pdu) → FitSize b.sizes.xmit → FitStep (taken_later conn b pdu)
unfolding taken_later
later_fits conn b (Bind id xmit recv group elements) h = tt
later_fits conn b (Alter id xmit recv group elements) h = binds_fits _ _ h
later_fits conn b (Request id flags context opnum stub) h =
    cond_both (bit_and flags 1 == 0) _ _ FitStep (λ _. goes_on_fits b flags id stub b.partial h)
    (λ _. begins_fits b flags (record { id = id; context = context; opnum = opnum; stub = stub }) b.partial h)
later_fits conn b (Cancel id) h = (tt, h)
later_fits conn b (Orphaned id) h = (tt, h)
later_fits conn b (BindAck id xmit recv group outcomes) h = tt
later_fits conn b (AlterResp id xmit recv group outcomes) h = tt
later_fits conn b (BindNak id reason) h = tt
later_fits conn b (Response id flags context hint stub) h = tt
later_fits conn b (Fault id context status) h = tt

taken_fits : (conn : ℕ) (s : Session) (pdu : Pdu) → FitSession s → FitStep (taken conn s pdu)
taken_fits conn Unbound pdu h = first_fits conn pdu
taken_fits conn (Bound b) pdu h = later_fits conn b pdu h

abbrev FitNext : Next → Type 0
FitNext (next.Waits t) = Unit {0}
FitNext (next.Ends act) = IsFit act
FitNext (next.Goes act t size) = FitAct act × FitSession t

stepped_fits : (place : ℕ) (pdu : Pdu) (size : ℕ) (step : Step) → FitStep step → FitNext (stepped place pdu size step)
stepped_fits place pdu size (Refuses cause) h = tt
stepped_fits place pdu size (Goes act t) h = h

front_fits : (conn place : ℕ) (s : Session) (f : Front) → FitSession s → FitNext (next_of conn place s f)
front_fits conn place s (Whole pdu size) h = stepped_fits place pdu size (taken conn s pdu) (taken_fits conn s pdu h)
front_fits conn place s Rest h = tt
front_fits conn place s (Refused at cause ptype id) h = tt

next_fits : (conn place : ℕ) (s : Session) (bytes : List ℕ) → FitSession s → FitNext (heard_next conn place s bytes)
unfolding heard_next
next_fits conn place s bytes h = front_fits conn place s (front Server bytes) h

listed_fits : (act : Option Act) → FitAct act → All IsFit (listed act)
listed_fits None h = All-nil IsFit
listed_fits (Some act) h = All-cons IsFit act [] h.0 (All-nil IsFit)

on_next_fits : (conn place : ℕ) (bytes : List ℕ) (n : Next) (f : ℕ → Session → List ℕ → Heard) → FitNext n
    → ((p : ℕ) (t : Session) (rest : List ℕ) → FitSession t → All IsFit (f p t rest).acts)
    → All IsFit (on_next conn place bytes n f).acts
on_next_fits conn place bytes (next.Waits t) f h later = All-nil IsFit
on_next_fits conn place bytes (next.Ends act) f h later = All-cons IsFit act [] h (All-nil IsFit)
on_next_fits conn place bytes (next.Goes act t size) f h later =
    All-append IsFit (listed act) (f (place + size) t (drop size bytes)).acts (listed_fits act h.0)
    (later (place + size) t (drop size bytes) h.1)

hear_fits : (turns conn place : ℕ) (s : Session) (bytes : List ℕ) → FitSession s
    → All IsFit (hear_in turns conn place s bytes).acts
unfolding hear_in
hear_fits zero conn place s bytes h = All-nil IsFit
hear_fits (suc turns) conn place s bytes h =
    on_next_fits conn place bytes (heard_next conn place s bytes) (λ p t rest. hear_in turns conn p t rest)
    (next_fits conn place s bytes h) (λ p t rest k. hear_fits turns conn p t rest k)

pub all_fit : AllFit
unfolding hear
all_fit conn stream = hear_fits (length stream) conn 0 Unbound stream tt

-- ---- a refusal is the last act

abbrev IsLast : Heard → Type 0
IsLast h = (i : ℕ) → IsLastOf h i (slice_get h.acts i)

-- one act more at the beginning, which is no refusal
last_behind : (act : Act) (h : Heard) → is_refusal act ≡ false → IsLast h → IsLast (joined (act ∷ []) h)
last_behind act h none last zero = λ is. let clash : true ≡ false = sym is ∙ none in absurd cc
last_behind act h none last (suc i) = later (slice_get h.acts i) (last i)
  where
    later : (o : Option Act) → IsLastOf h i o → IsLastOf (joined (act ∷ []) h) (suc i) o
    later None k = tt
    later (Some a) k = λ is. let e = k is in let first : i + 1 ≡ length h.acts = e.0 in (omega (arith, first), e.1)

on_next_last : (conn place : ℕ) (bytes : List ℕ) (n : Next) (f : ℕ → Session → List ℕ → Heard) → FitNext n
    → ((p : ℕ) (t : Session) (rest : List ℕ) → FitSession t → IsLast (f p t rest))
    → IsLast (on_next conn place bytes n f)
on_next_last conn place bytes (next.Waits t) f h later = λ i. tt
on_next_last conn place bytes (next.Ends act) f h later = ends
  where
    ends : IsLast (record { acts = act ∷ []; leaves = Ended })
    ends zero = λ is. (refl, refl)
    ends (suc i) = tt
on_next_last conn place bytes (next.Goes None t size) f h later = later (place + size) t (drop size bytes) h.1
on_next_last conn place bytes (next.Goes (Some act) t size) f h later =
    last_behind act (f (place + size) t (drop size bytes)) h.0.1 (later (place + size) t (drop size bytes) h.1)

hear_last : (turns conn place : ℕ) (s : Session) (bytes : List ℕ) → FitSession s
    → IsLast (hear_in turns conn place s bytes)
unfolding hear_in
hear_last zero conn place s bytes h = λ i. tt
hear_last (suc turns) conn place s bytes h =
    on_next_last conn place bytes (heard_next conn place s bytes) (λ p t rest. hear_in turns conn p t rest)
    (next_fits conn place s bytes h) (λ p t rest k. hear_last turns conn p t rest k)

pub refusals_last : AreRefusalsLast
unfolding hear
refusals_last conn stream i = hear_last (length stream) conn 0 Unbound stream tt i

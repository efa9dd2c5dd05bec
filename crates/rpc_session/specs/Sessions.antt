-- What a session does with the PDUs of its stream.
use Rattle.std.specs.Prelude.{ℕ, ◌==◌, List, [], ◌++◌, length, Option, Some, None, if◌then◌else◌, nat_lt, bit_and, ◌≡◌}
use Rattle.std.specs.Prelude.{zero, suc, ◌+◌, ◌<◌, ◌^◌, Bool, true, false, ◌∷◌, drop}
use Rattle.acct_codes.specs.Pdus.{cause_first_twice, cause_no_first, cause_stub_too_long, cause_bind_order}
use Rattle.acct_codes.specs.Pdus.{cause_too_many_contexts, fault_unknown_interface, pfc_first_frag, pfc_last_frag}
use Rattle.acct_codes.specs.Limits.{most_stub, most_contexts}
use Rattle.rpc_pdu.specs.Bodies.{Front, Whole, Rest, Refused, front}
use Rattle.rpc_pdu.specs.Written.{type_of, call_id}
use Rattle.rpc_pdu.specs.declared.pdus.Pdu.{Pdu}
use Rattle.rpc_pdu.specs.declared.pdus.Pdu.TheVariants.{Bind, Alter, Request, Cancel, Orphaned}
use Rattle.rpc_pdu.specs.declared.pdus.Side.TheVariants.{Server}
use Rattle.rpc_session.specs.Answers.{sizes_for, bind_answer, alter_answer, closing, with_elements, face_at}
use Rattle.rpc_session.specs.Answers.{fault_bytes}
use Rattle.rpc_session.specs.declared.contexts.Context.{Context}
use Rattle.rpc_session.specs.declared.hearing.Hearing.{Hearing}
use Rattle.rpc_session.specs.declared.hearing.Hearing.TheVariants.{Going, Ended, Lost}
use Rattle.rpc_session.specs.declared.hearing.Next.{Next}
use Rattle.rpc_session.specs.declared.hearing.Next.TheVariants as next
use Rattle.rpc_session.specs.declared.sessions.Act.{Act}
use Rattle.rpc_session.specs.declared.sessions.Act.TheVariants.{Answered, Call}
use Rattle.rpc_session.specs.declared.sessions.Association.{Association}
use Rattle.rpc_session.specs.declared.sessions.PartialRequest.{PartialRequest}
use Rattle.rpc_session.specs.declared.sessions.Session.{Session}
use Rattle.rpc_session.specs.declared.sessions.Session.TheVariants.{Unbound, Bound}
use Rattle.rpc_session.specs.declared.sessions.Step.{Step}
use Rattle.rpc_session.specs.declared.sessions.Step.TheVariants.{Refuses, Goes}

-- ======== what one whole PDU does in a session (C706, sections 12.6.3 and 12.6.4): which act it gives, and how the
-- session stands after it, or the cause for which it is refused

-- the contexts that are accepted at a time are at most most_contexts
abbrev pub binds : Association → List ℕ → Step
binds after answer = if nat_lt most_contexts (length after.contexts) then Refuses cause_too_many_contexts
    else Goes (Some (Answered answer)) (Bound after)

-- a request that is whole, on the context that is accepted now with its id; where there is none, nca_s_unk_if is
-- answered
abbrev pub asked : PartialRequest → ℕ → Option Context → Act
asked g size None = Answered (fault_bytes g.id g.context fault_unknown_interface)
asked g size (Some c) = Call (record {
  id = g.id;
  context = g.context;
  face = c.face;
  opnum = g.opnum;
  size = size;
  stub = g.stub;
})

-- a request with one more fragment, which has these flags: PFC_LAST_FRAG marks the last
abbrev pub gathers : Association → ℕ → PartialRequest → Step
gathers b flags g =
    if nat_lt most_stub (length g.stub) then Refuses cause_stub_too_long
    else (if bit_and flags pfc_last_frag == 0 then Goes None (Bound (record b { partial = Some g }))
    else Goes (Some (asked g b.sizes.xmit (face_at g.context b.contexts))) (Bound (record b { partial = None })))

abbrev pub begins : Association → ℕ → PartialRequest → Option PartialRequest → Step
begins b flags g None = gathers b flags g
begins b flags g (Some other) = Refuses cause_first_twice

abbrev pub goes_on : Association → ℕ → ℕ → List ℕ → Option PartialRequest → Step
goes_on b flags id stub None = Refuses cause_no_first
goes_on b flags id stub (Some g) = if g.id == id then gathers b flags (record g { stub = g.stub ++ stub })
    else Refuses cause_no_first

-- PFC_FIRST_FRAG marks the first fragment, which gives the call id, the context and the opnum
abbrev pub requests : Association → ℕ → ℕ → ℕ → ℕ → List ℕ → Step
requests b id flags context opnum stub =
    if bit_and flags pfc_first_frag == 0 then goes_on b flags id stub b.partial
    else begins b flags (record { id = id; context = context; opnum = opnum; stub = stub }) b.partial

-- the partial request, if it is not of the call with this id
abbrev pub without : ℕ → Option PartialRequest → Option PartialRequest
without id None = None
without id (Some g) = if g.id == id then None else Some g

-- the first PDU is a bind
unfoldable pub taken_first : ℕ → Pdu → Step
taken_first conn (Bind id xmit recv group elements) =
    binds (record { sizes = sizes_for xmit recv; contexts = with_elements [] elements; partial = None })
    (bind_answer conn id (sizes_for xmit recv) elements)
taken_first conn _ = Refuses cause_bind_order

-- and no other is
unfoldable pub taken_later : ℕ → Association → Pdu → Step
taken_later conn b (Alter id xmit recv group elements) =
    binds (record b { contexts = with_elements b.contexts elements }) (alter_answer conn id b.sizes elements)
taken_later conn b (Request id flags context opnum stub) = requests b id flags context opnum stub
taken_later conn b (Cancel id) = Goes None (Bound b)
taken_later conn b (Orphaned id) = Goes None (Bound (record b { partial = without id b.partial }))
taken_later conn b _ = Refuses cause_bind_order

abbrev pub taken : ℕ → Session → Pdu → Step
taken conn Unbound pdu = taken_first conn pdu
taken conn (Bound b) pdu = taken_later conn b pdu

-- ======== what is heard in a stream: the acts of its whole PDUs one after the other, up to the first that is refused,
-- and what is left

-- the acts, and what is left to hear
pub record Heard : Type 0 where
  pub acts : List Act
  pub leaves : Hearing

-- a whole PDU that begins at a place of the stream
abbrev pub stepped : ℕ → Pdu → ℕ → Step → Next
stepped place pdu size (Refuses cause) = next.Ends (closing place cause (type_of pdu) (call_id pdu))
stepped place pdu size (Goes act session) = next.Goes act session size

-- what stands at the beginning of the bytes from a place on
abbrev pub next_of : ℕ → ℕ → Session → Front → Next
next_of conn place session (Whole pdu size) = stepped place pdu size (taken conn session pdu)
next_of conn place session Rest = next.Waits session
next_of conn place session (Refused at cause ptype id) = next.Ends (closing (place + at) cause ptype id)

unfoldable pub heard_next : ℕ → ℕ → Session → List ℕ → Next
heard_next conn place session bytes = next_of conn place session (front Server bytes)

abbrev pub joined : List Act → Heard → Heard
joined before h = record { acts = before ++ h.acts; leaves = h.leaves }

abbrev pub listed : Option Act → List Act
listed None = []
listed (Some act) = act ∷ []

abbrev pub waits : ℕ → ℕ → Session → List ℕ → Heard
waits conn place session bytes = record { acts = []; leaves = Going conn place session bytes }

abbrev pub ends : Act → Heard
ends act = record { acts = act ∷ []; leaves = Ended }

abbrev pub on_next : ℕ → ℕ → List ℕ → Next → (ℕ → Session → List ℕ → Heard) → Heard
on_next conn place bytes (next.Waits session) later = waits conn place session bytes
on_next conn place bytes (next.Ends act) later = ends act
on_next conn place bytes (next.Goes act session size) later =
    joined (listed act) (later (place + size) session (drop size bytes))

-- in at most so many PDUs
unfoldable pub hear_in : ℕ → ℕ → ℕ → Session → List ℕ → Heard
hear_in zero conn place session bytes = waits conn place session bytes
hear_in (suc turns) conn place session bytes =
    on_next conn place bytes (heard_next conn place session bytes)
    (λ after later rest. hear_in turns conn after later rest)

-- each PDU takes a byte and more
unfoldable pub hear : ℕ → ℕ → Session → List ℕ → Heard
hear conn place session bytes = hear_in (length bytes) conn place session bytes

-- more may be heard
abbrev pub is_going : Hearing → Bool
is_going (Going conn place session rest) = true
is_going Ended = false
is_going Lost = false

-- what is heard in further bytes
abbrev pub on : Hearing → List ℕ → Heard
on (Going conn place session rest) piece = hear conn place session (rest ++ piece)
on Ended piece = record { acts = []; leaves = Ended }
on Lost piece = record { acts = []; leaves = Lost }

-- now is before with the first of the acts, in order
abbrev pub Begins : List Act → List Act → List Act → Type 0
Begins before now acts = (some : List Act) × (others : List Act) × (now ≡ before ++ some) × (some ++ others ≡ acts)

-- places in the stream are below 2 ^ 64
abbrev pub HasRoom : Hearing → List ℕ → Type 0
HasRoom (Going conn place session rest) piece = place + (length rest + length piece) < 2 ^ 64
HasRoom Ended piece = Unit {0}
HasRoom Lost piece = Unit {0}

-- no whole PDU and no refusal stands at the beginning of the bytes that are left, and memory never ran out
abbrev pub IsStill : Hearing → Type 0
IsStill (Going conn place session rest) = front Server rest ≡ Rest
IsStill Ended = Unit {0}
IsStill Lost = ⊥

-- ======== the acts of a stream

-- The same as a function, which tells what is left to hear as well: the acts of the whole stream of the connection with
-- this number. That it has these acts and no others is the law `AreActs`.
abbrev pub acts : ℕ → List ℕ → List Act
acts conn stream = (hear conn 0 Unbound stream).acts

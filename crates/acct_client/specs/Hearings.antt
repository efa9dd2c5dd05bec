-- What is heard of the answer that is awaited.
use Rattle.std.specs.Prelude.{ℕ, ◌==◌, Bool, false, ◌&&◌, List, [], ◌∷◌, ◌++◌, length, Option, Some, None}
use Rattle.std.specs.Prelude.{if◌then◌else◌, nat_lt, bit_and, ◌≡◌, zero, suc, ◌+◌, drop}
use Rattle.acct_codes.specs.Limits.{most_stub}
use Rattle.acct_codes.specs.Pdus.{result_acceptance, pfc_first_frag, pfc_last_frag}
use Rattle.rpc_pdu.specs.Bodies.{Front, Whole, Rest, Refused, front}
use Rattle.rpc_pdu.specs.declared.pdus.Outcome.{Outcome}
use Rattle.rpc_pdu.specs.declared.pdus.Pdu.{Pdu}
use Rattle.rpc_pdu.specs.declared.pdus.Pdu.TheVariants as pdu
use Rattle.rpc_pdu.specs.declared.pdus.Side.TheVariants.{Client}
use Rattle.acct_client.specs.declared.answers.Answer.TheVariants as answer
use Rattle.acct_client.specs.declared.answers.Awaited.{Awaited}
use Rattle.acct_client.specs.declared.answers.Awaited.TheVariants.{Binding, Reply}
use Rattle.acct_client.specs.declared.answers.PartialReply.{PartialReply}
use Rattle.acct_client.specs.declared.answers.Turn.{Turn}
use Rattle.acct_client.specs.declared.answers.Turn.TheVariants.{Goes, Gives, Wrong}
use Rattle.acct_client.specs.declared.hearing.Heard.{Heard}
use Rattle.acct_client.specs.declared.hearing.Heard.TheVariants.{Waits, Answered, NoAnswer}
use Rattle.acct_client.specs.declared.hearing.Listening.{Listening}
use Rattle.acct_client.specs.declared.hearing.Next.{Next}
use Rattle.acct_client.specs.declared.hearing.Next.TheVariants as next

-- ======== the answers of a peer: what one whole PDU of its stream does to the answer that is awaited (C706, sections
-- 12.6.3 and 12.6.4)

-- two contexts were offered, and both are accepted
abbrev pub both_accepted : List Outcome → Bool
both_accepted (first ∷ second ∷ []) = (first.result == result_acceptance) && (second.result == result_acceptance)
both_accepted _ = false

-- a reply with one more response, which has these flags: PFC_LAST_FRAG marks the last
abbrev pub gathers : ℕ → PartialReply → Turn
gathers flags g =
    if nat_lt most_stub (length g.stub) then Wrong
    else (if bit_and flags pfc_last_frag == 0 then Goes (Some g) else Gives (answer.Stub g.place g.stub))

-- the first response, which begins at this place: none may be gathered
abbrev pub begins : ℕ → ℕ → List ℕ → Option PartialReply → Turn
begins place flags stub None = gathers flags (record { place = place; stub = stub })
begins place flags stub (Some g) = Wrong

-- a later one: one must be gathered
abbrev pub goes_on : ℕ → List ℕ → Option PartialReply → Turn
goes_on flags stub None = Wrong
goes_on flags stub (Some g) = gathers flags (record g { stub = g.stub ++ stub })

-- PFC_FIRST_FRAG marks the first response
abbrev pub responds : ℕ → ℕ → List ℕ → Option PartialReply → Turn
responds place flags stub g =
    if bit_and flags pfc_first_frag == 0 then goes_on flags stub g else begins place flags stub g

-- What a PDU that begins at this place does. A fault and a bind_nak are answers whatever is awaited; the call id is
-- compared on responses alone.
abbrev pub turned : Awaited → ℕ → Option PartialReply → Pdu → Turn
turned awaited place g (pdu.Fault id context status) = Gives (answer.Fault status)
turned awaited place g (pdu.BindNak id reason) = Gives answer.Nak
turned Binding place g (pdu.BindAck id xmit recv group outcomes) =
    if both_accepted outcomes then Gives (answer.Bound recv) else Wrong
turned (Reply awaited) place g (pdu.Response id flags context hint stub) =
    if id == awaited then responds place flags stub g else Wrong
turned awaited place g _ = Wrong

-- ======== what is heard of the answer that is awaited: the whole PDUs of the peer's stream one after the other, until
-- the answer is whole or a PDU is no part of it

-- a whole PDU that begins at a place of the stream
abbrev pub stepped : ℕ → ℕ → Turn → Next
stepped place size (Goes reply) = next.Goes reply size
stepped place size (Gives answer) = next.Gives answer size
stepped place size Wrong = next.Wrong place

-- what stands at the beginning of the bytes from a place on
abbrev pub next_of : Awaited → ℕ → Option PartialReply → Front → Next
next_of awaited place reply (Whole pdu size) = stepped place size (turned awaited place reply pdu)
next_of awaited place reply Rest = next.Waits reply
next_of awaited place reply (Refused at cause ptype id) = next.Wrong (place + at)

unfoldable pub heard_next : Awaited → ℕ → Option PartialReply → List ℕ → Next
heard_next awaited place reply bytes = next_of awaited place reply (front Client bytes)

abbrev pub listening : ℕ → Option PartialReply → List ℕ → Listening
listening place reply rest = record { place = place; reply = reply; rest = rest }

abbrev pub on_next : ℕ → List ℕ → Next → (ℕ → Option PartialReply → List ℕ → Heard) → Heard
on_next place bytes (next.Waits reply) later = Waits (listening place reply bytes)
on_next place bytes (next.Wrong at) later = NoAnswer at
on_next place bytes (next.Gives answer size) later =
    Answered answer (listening (place + size) None (drop size bytes))
on_next place bytes (next.Goes reply size) later = later (place + size) reply (drop size bytes)

-- in at most so many PDUs
unfoldable pub hear_in : ℕ → Awaited → ℕ → Option PartialReply → List ℕ → Heard
hear_in zero awaited place reply bytes = Waits (listening place reply bytes)
hear_in (suc turns) awaited place reply bytes =
    on_next place bytes (heard_next awaited place reply bytes)
    (λ after gathered rest. hear_in turns awaited after gathered rest)

-- each PDU takes a byte and more
unfoldable pub hear : Awaited → ℕ → Option PartialReply → List ℕ → Heard
hear awaited place reply bytes = hear_in (length bytes) awaited place reply bytes

-- what is heard where more bytes come
abbrev pub on : Awaited → Listening → List ℕ → Heard
on awaited l piece = hear awaited l.place l.reply (l.rest ++ piece)

-- what becomes of what was heard, where more bytes come: they are heard while the answer isn't whole, and wait after
-- a whole one
abbrev pub with_more : Awaited → Heard → List ℕ → Heard
with_more awaited (Waits l) piece = on awaited l piece
with_more awaited (Answered answer l) piece = Answered answer (record l { rest = l.rest ++ piece })
with_more awaited (NoAnswer at) piece = NoAnswer at

-- pieces may be heard one after the other
abbrev pub IsCutAnywhere : Type 0
IsCutAnywhere = (awaited : Awaited) (l : Listening) (front more : List ℕ)
    → on awaited l (front ++ more) ≡ with_more awaited (on awaited l front) more

-- The PDUs that the client sends: one bind of both interfaces, and calls, whose stubs are cut into requests as those of
-- replies are into responses (C706, sections 12.6.3 and 12.6.4).
use Rattle.std.specs.Prelude.{◌≡◌, ℕ, ◌≤◌, true, List, [], ◌∷◌, length}
use Rattle.acct_codes.specs.Limits.{most_fragment}
use Rattle.acct_codes.specs.Pdus.{ptype_request}
use Rattle.acct_calls.specs.declared.calls.Face.{Face}
use Rattle.acct_calls.specs.declared.calls.Face.TheVariants.{Samr, Lsa}
use Rattle.rpc_pdu.specs.declared.pdus.Element.{Element}
use Rattle.rpc_pdu.specs.declared.pdus.Pdu.TheVariants.{Bind, Request}
use Rattle.rpc_pdu.specs.declared.syntaxes.Syntax.{Syntax}
use Rattle.rpc_pdu.specs.Headers.{samr, lsarpc, ndr}
use Rattle.rpc_pdu.specs.Written.{whole_flags, written}
use Rattle.rpc_session.specs.declared.fragments.FragmentHead.{FragmentHead}
use Rattle.rpc_session.specs.Answers.{cut_stub, fragment, most_of}

-- the context of each interface
abbrev pub context_of : Face → ℕ
context_of Samr = 0
context_of Lsa = 1

abbrev pub offered : ℕ → Syntax → Element
offered context subject = record { context = context; subject = subject; transfers = ndr ∷ [] }

abbrev pub elements : List Element
elements = offered 0 samr ∷ offered 1 lsarpc ∷ []

-- the one bind, with call id 1
abbrev pub bind_bytes : List ℕ
bind_bytes = written (Bind 1 most_fragment most_fragment 0 elements)

-- what all requests of a call have
abbrev pub request_head : ℕ → ℕ → ℕ → FragmentHead
request_head id context opnum = record { ptype = ptype_request; id = id; context = context; opnum = opnum }

-- the requests that bring a call's stub in fragments of at most so many bytes
abbrev pub request_bytes : ℕ → ℕ → ℕ → ℕ → List ℕ → List ℕ
request_bytes id context opnum size stub = cut_stub (fragment (request_head id context opnum)) (most_of size) true stub

-- a stub that fits a fragment is brought by the one PDU that write_pdu writes
abbrev pub AreOnePdu : Type 0
AreOnePdu = (id context opnum size : ℕ) (stub : List ℕ) → size ≤ most_fragment → length stub ≤ most_of size
    → request_bytes id context opnum size stub ≡ written (Request id whole_flags context opnum stub)

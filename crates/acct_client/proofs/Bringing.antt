-- What is heard of a stream is the answer that its PDUs bring.
use Rattle.std.proofs.Common.{◌≡◌, ℕ, zero, suc, ◌+◌, ◌≤◌, ◌==◌, Bool, true, false, not, ◌&&◌, List, [], ◌∷◌, ◌++◌, length}
use Rattle.std.proofs.Common.{take, drop, refl, sym, ap, subst, ◌∙◌, arith, length-append, length-drop, cond, Option, Some}
use Rattle.std.proofs.Common.{None, Result, Ok, Err}
use Rattle.std.specs.Prelude.{bit_and, is_none, nat_lt, unwrap_or}
use Rattle.std.proofs.Math.Seq.{drop-append_seam, take-append_seam}
use Rattle.std.proofs.lemmas.Bool.{eq-eqb, eqb-true, le-ltb, ltb-false, not-true, true≢false}
use Rattle.std.proofs.lemmas.List.{take-append-drop}
use Rattle.acct_codes.specs.Limits.{most_stub}
use Rattle.acct_codes.specs.Pdus.{pfc_first_frag, pfc_last_frag}
use Rattle.rpc_pdu.specs.Bodies.{Front, Whole, Rest, Refused, front}
use Rattle.rpc_pdu.specs.Grammar.{IsPdu}
use Rattle.rpc_pdu.specs.Laws.{IsStable, IsExact, Stays}
use Rattle.rpc_pdu.specs.declared.pdus.Outcome.{Outcome}
use Rattle.rpc_pdu.specs.declared.pdus.Pdu.{Pdu}
use Rattle.rpc_pdu.specs.declared.pdus.Pdu.TheVariants as pdu
use Rattle.rpc_pdu.specs.declared.pdus.Side.TheVariants.{Client}
use Rattle.acct_client.specs.declared.answers.Answer.{Answer}
use Rattle.acct_client.specs.declared.answers.Answer.TheVariants as answer
use Rattle.acct_client.specs.declared.answers.Awaited.{Awaited}
use Rattle.acct_client.specs.declared.answers.Awaited.TheVariants.{Binding as TheBind, Reply as TheReply}
use Rattle.acct_client.specs.declared.answers.PartialReply.{PartialReply}
use Rattle.acct_client.specs.declared.answers.Turn.{Turn}
use Rattle.acct_client.specs.declared.answers.Turn.TheVariants.{Goes, Gives, Wrong}
use Rattle.acct_client.specs.declared.hearing.Heard.{Heard}
use Rattle.acct_client.specs.declared.hearing.Heard.TheVariants.{Waits, Answered, NoAnswer}
use Rattle.acct_client.specs.Answered.{BeginWith, Denies, AnswersBind, has_flag, IsNextResponse, AnswerCall}
use Rattle.acct_client.specs.Answered.{HasBindAnswer, HasAnswer}
use Rattle.acct_client.specs.Hearings.{begins, gathers, goes_on, hear, heard_next, listening, next_of, on_next, responds}
use Rattle.acct_client.specs.Hearings.{stepped, turned}
use Rattle.acct_client.proofs.Cutting.{hear_next, on_gives, on_goes}

abbrev Gathered : Type 0
Gathered = Option PartialReply

-- what the proofs stand on
pub record Laws : Type 0 where
  pub stable : IsStable
  pub exact : IsExact

-- ---- one PDU

-- a PDU and then other bytes
pub record StandsFirst (p : Pdu) (size : ℕ) (bytes later : List ℕ) : Type 0 where
  pub whole : front Client bytes ≡ Whole p size
  pub others : drop size bytes ≡ later

stands_first : IsExact → (p : Pdu) (own later bytes : List ℕ) → bytes ≡ own ++ later → IsPdu Client p own
    → StandsFirst p (length own) bytes later
stands_first exact p own later bytes e is =
    let long = length-append own later in
    let is' : IsPdu Client p (take (length own) (own ++ later)) =
    subst (λ (x : List ℕ). IsPdu Client p x) (sym (take-append_seam own later)) is in
    record {
      whole = ap (front Client) e
          ∙ (exact Client p (length own) (own ++ later)).1 (omega (arith, long), is');
      others = ap (drop (length own)) e ∙ drop-append_seam own later;
    }

begins_on : IsExact → (p : Pdu) (size : ℕ) (pdus : List Pdu) (bytes rest : List ℕ) → front Client bytes ≡ Whole p size
    → BeginWith pdus (drop size bytes) rest → BeginWith (p ∷ pdus) bytes rest
unfolding BeginWith
begins_on exact p size pdus bytes rest e more = (
  take size bytes,
  drop size bytes,
  sym (take-append-drop size bytes),
  ((exact Client p size bytes).0 e).1,
  more,
)

-- a whole PDU takes 16 bytes and more
record IsLong (bytes : List ℕ) (size : ℕ) : Type 0 where
  low : 16 ≤ size
  there : size ≤ length bytes

whole_is_long : IsStable → (p : Pdu) (size : ℕ) (bytes : List ℕ) → front Client bytes ≡ Whole p size
    → IsLong bytes size
whole_is_long stable p size bytes e =
    let s = subst (λ (f : Front). Stays f Client bytes []) e (stable Client bytes []) in
    record { low = s.1; there = s.2 }

-- ---- what an answer says

abbrev pub meaning : Answer → Option (Result (List ℕ) ℕ)
meaning (answer.Bound recv) = None
meaning (answer.Stub place stub) = Some (Ok stub)
meaning (answer.Fault status) = Some (Err status)
meaning answer.Nak = Some (Err 0)

abbrev pub bind_meaning : Answer → Option (Result ℕ ℕ)
bind_meaning (answer.Bound recv) = Some (Ok recv)
bind_meaning (answer.Stub place stub) = None
bind_meaning (answer.Fault status) = Some (Err status)
bind_meaning answer.Nak = Some (Err 0)

-- the part of a stub that came
abbrev pub came : Gathered → Option (List ℕ)
came None = None
came (Some g) = Some g.stub

-- ---- what a PDU does is what it says: of what it did

abbrev TurnTells : ℕ → Gathered → Pdu → Turn → Type 0
TurnTells id g p Wrong = Unit {0}
TurnTells id g p (Goes None) = ⊥
TurnTells id g p (Goes (Some q)) = IsNextResponse id false (came g) q.stub p
TurnTells id g p (Gives a) =
    (said : Result (List ℕ) ℕ) × (meaning a ≡ Some said) × AnswerCall id (came g) (p ∷ []) said

-- by whether the stub is too long, and whether more of it comes
gathers_tells : (id : ℕ) (g : Gathered) (p : Pdu) (q : PartialReply) (long more : Bool)
    → ((is_last : Bool) → not more ≡ is_last → long ≡ false → IsNextResponse id is_last (came g) q.stub p)
    → TurnTells id g p (cond long Wrong (cond more (Goes (Some q)) (Gives (answer.Stub q.place q.stub))))
unfolding AnswerCall
gathers_tells id g p q true more h = tt
gathers_tells id g p q false true h = h false refl refl
gathers_tells id g p q false false h = (Ok q.stub, refl, h true refl refl)

-- by whether it is marked as the first
responds_tells : (id place flags context hint : ℕ) (part : List ℕ) (g : Gathered) (later : Bool)
    → (bit_and flags pfc_first_frag == 0) ≡ later
    → TurnTells id g (pdu.Response id flags context hint part)
    (cond later (goes_on flags part g) (begins place flags part g))
responds_tells id place flags context hint part None true e = tt
responds_tells id place flags context hint part (Some g) false e = tt
responds_tells id place flags context hint part None false e =
    gathers_tells id None (pdu.Response id flags context hint part) (record { place = place; stub = part })
    (nat_lt most_stub (length part)) (bit_and flags pfc_last_frag == 0)
    (λ is_last last short. record {
      flags = flags;
      context = context;
      hint = hint;
      part = part;
      pdu_is = refl;
      first = ap not e;
      last = last;
      joined = refl;
      within = ltb-false most_stub (length part) short;
    })
responds_tells id place flags context hint part (Some g) true e =
    gathers_tells id (Some g) (pdu.Response id flags context hint part)
    (record { place = g.place; stub = g.stub ++ part })
    (nat_lt most_stub (length (g.stub ++ part))) (bit_and flags pfc_last_frag == 0)
    (λ is_last last short. record {
      flags = flags;
      context = context;
      hint = hint;
      part = part;
      pdu_is = refl;
      first = ap not e;
      last = last;
      joined = refl;
      within = ltb-false most_stub (length (g.stub ++ part)) short;
    })

-- by whether it is of the call
response_tells : (id place other flags context hint : ℕ) (part : List ℕ) (g : Gathered) (same : Bool)
    → (other == id) ≡ same
    → TurnTells id g (pdu.Response other flags context hint part) (cond same (responds place flags part g) Wrong)
response_tells id place other flags context hint part g false e = tt
response_tells id place other flags context hint part g true e =
    subst (λ (i : ℕ). TurnTells i g (pdu.Response other flags context hint part) (responds place flags part g))
    (eqb-true other id e)
    (responds_tells other place flags context hint part g (bit_and flags pfc_first_frag == 0) refl)

turn_tells : (id place : ℕ) (g : Gathered) (p : Pdu) → TurnTells id g p (turned (TheReply id) place g p)
unfolding AnswerCall
turn_tells id place g (pdu.Response other flags context hint part) =
    response_tells id place other flags context hint part g (other == id) refl
turn_tells id place g (pdu.Fault other context status) = (Err status, refl, refl)
turn_tells id place g (pdu.BindNak other reason) = (Err 0, refl, refl)
turn_tells id place g (pdu.BindAck other xmit recv group outcomes) = tt
turn_tells id place g (pdu.AlterResp other xmit recv group outcomes) = tt
turn_tells id place g (pdu.Bind other xmit recv group elements) = tt
turn_tells id place g (pdu.Alter other xmit recv group elements) = tt
turn_tells id place g (pdu.Request other flags context opnum stub) = tt
turn_tells id place g (pdu.Cancel other) = tt
turn_tells id place g (pdu.Orphaned other) = tt

abbrev BindTells : Pdu → Turn → Type 0
BindTells p Wrong = Unit {0}
BindTells p (Goes t) = ⊥
BindTells p (Gives a) = (said : Result ℕ ℕ) × (bind_meaning a ≡ Some said) × AnswersBind said p

accepted_tells : (p : Pdu) (recv : ℕ) (one two : Bool) → (one ≡ true → two ≡ true → AnswersBind (Ok recv) p)
    → BindTells p (cond (one && two) (Gives (answer.Bound recv)) Wrong)
accepted_tells p recv true true h = (Ok recv, refl, h refl refl)
accepted_tells p recv true false h = tt
accepted_tells p recv false true h = tt
accepted_tells p recv false false h = tt

acked_tells : (place id xmit recv group : ℕ) (outcomes : List Outcome)
    → BindTells (pdu.BindAck id xmit recv group outcomes)
    (turned TheBind place None (pdu.BindAck id xmit recv group outcomes))
acked_tells place id xmit recv group [] = tt
acked_tells place id xmit recv group (first ∷ []) = tt
acked_tells place id xmit recv group (first ∷ second ∷ []) =
    accepted_tells (pdu.BindAck id xmit recv group (first ∷ second ∷ [])) recv (first.result == 0)
    (second.result == 0) (λ e e'. (refl, eqb-true first.result 0 e, eqb-true second.result 0 e'))
acked_tells place id xmit recv group (first ∷ second ∷ third ∷ others) = tt

bind_tells : (place : ℕ) (p : Pdu) → BindTells p (turned TheBind place None p)
bind_tells place (pdu.BindAck id xmit recv group outcomes) = acked_tells place id xmit recv group outcomes
bind_tells place (pdu.Fault other context status) = (Err status, refl, refl)
bind_tells place (pdu.BindNak other reason) = (Err 0, refl, refl)
bind_tells place (pdu.Response other flags context hint part) = tt
bind_tells place (pdu.AlterResp other xmit recv group outcomes) = tt
bind_tells place (pdu.Bind other xmit recv group elements) = tt
bind_tells place (pdu.Alter other xmit recv group elements) = tt
bind_tells place (pdu.Request other flags context opnum stub) = tt
bind_tells place (pdu.Cancel other) = tt
bind_tells place (pdu.Orphaned other) = tt

-- ---- what is heard is what the PDUs bring

abbrev pub HearTells : ℕ → Gathered → List ℕ → Heard → Type 0
HearTells id g bytes (Waits l) = Unit {0}
HearTells id g bytes (NoAnswer at) = Unit {0}
HearTells id g bytes (Answered a l) =
    (said : Result (List ℕ) ℕ) × (meaning a ≡ Some said) × HasAnswer id (came g) said bytes l.rest

more_answer : (id : ℕ) (before : Option (List ℕ)) (now : List ℕ) (p : Pdu) (pdus : List Pdu)
    (said : Result (List ℕ) ℕ) → IsNextResponse id false before now p → AnswerCall id (Some now) pdus said
    → AnswerCall id before (p ∷ pdus) said
unfolding AnswerCall
more_answer id before now p [] said n h = absurd h
more_answer id before now p (next ∷ pdus) said n h = (now, n, h)

add_first : IsExact → (id : ℕ) (g : Gathered) (bytes : List ℕ) (p : Pdu) (size : ℕ) (q : PartialReply) (h : Heard)
    → front Client bytes ≡ Whole p size → IsNextResponse id false (came g) q.stub p
    → HearTells id (Some q) (drop size bytes) h → HearTells id g bytes h
add_first exact id g bytes p size q (Waits l) e n tells = tt
add_first exact id g bytes p size q (NoAnswer at) e n tells = tt
add_first exact id g bytes p size q (Answered a l) e n tells =
    let has : HasAnswer id (Some q.stub) tells.0 (drop size bytes) l.rest = tells.2 in (
      tells.0,
      tells.1,
      record {
        pdus = p ∷ has.pdus;
        begins = begins_on exact p size has.pdus bytes l.rest e has.begins;
        answers = more_answer id (came g) q.stub p has.pdus tells.0 n has.answers;
      },
    )

tells_turn : IsExact → (id place : ℕ) (g : Gathered) (bytes : List ℕ) (p : Pdu) (size : ℕ) (t : Turn)
    → front Client bytes ≡ Whole p size
    → ((q : PartialReply) → HearTells id (Some q) (drop size bytes)
    (hear (TheReply id) (place + size) (Some q) (drop size bytes)))
    → TurnTells id g p t
    → HearTells id g bytes (on_next place bytes (stepped place size t) (λ at q rest. hear (TheReply id) at q rest))
unfolding BeginWith
tells_turn exact id place g bytes p size Wrong e later tells = tt
tells_turn exact id place g bytes p size (Goes None) e later tells = absurd tells
tells_turn exact id place g bytes p size (Goes (Some q)) e later tells =
    add_first exact id g bytes p size q (hear (TheReply id) (place + size) (Some q) (drop size bytes)) e tells
    (later q)
tells_turn exact id place g bytes p size (Gives a) e later tells = (
  tells.0,
  tells.1,
  record {
    pdus = p ∷ [];
    begins = begins_on exact p size [] bytes (drop size bytes) e refl;
    answers = tells.2;
  },
)

tells_front : Laws → (id place : ℕ) (g : Gathered) (bytes : List ℕ) (f : Front) → front Client bytes ≡ f
    → ((size : ℕ) (q : PartialReply) → IsLong bytes size → HearTells id (Some q) (drop size bytes)
    (hear (TheReply id) (place + size) (Some q) (drop size bytes)))
    → HearTells id g bytes
    (on_next place bytes (next_of (TheReply id) place g f) (λ at q rest. hear (TheReply id) at q rest))
tells_front laws id place g bytes (Whole p size) e later =
    tells_turn laws.exact id place g bytes p size (turned (TheReply id) place g p) e
    (λ q. later size q (whole_is_long laws.stable p size bytes e)) (turn_tells id place g p)
tells_front laws id place g bytes Rest e later = tt
tells_front laws id place g bytes (Refused at cause ptype other) e later = tt

tells_in : Laws → (n id place : ℕ) (g : Gathered) (bytes : List ℕ) → length bytes ≤ n
    → HearTells id g bytes (hear (TheReply id) place g bytes)
unfolding heard_next
tells_in laws zero id place g bytes le =
    subst (λ (h : Heard). HearTells id g bytes h) (sym (hear_next laws.stable (TheReply id) place g bytes))
    (tells_front laws id place g bytes (front Client bytes) refl
    (λ size q long. let low = long.low in let there = long.there in absurd (omega (arith, low, there, le))))
tells_in laws (suc n) id place g bytes le =
    subst (λ (h : Heard). HearTells id g bytes h) (sym (hear_next laws.stable (TheReply id) place g bytes))
    (tells_front laws id place g bytes (front Client bytes) refl
    (λ size q long. let low = long.low in let there = long.there in let less = length-drop size bytes in
    tells_in laws n id (place + size) (Some q) (drop size bytes) (omega (arith, low, there, less, le))))

-- what is heard of a call's answer is an answer of the stream
pub hear_tells : Laws → (id place : ℕ) (bytes : List ℕ)
    → HearTells id None bytes (hear (TheReply id) place None bytes)
hear_tells laws id place bytes = tells_in laws (length bytes) id place None bytes (omega arith)

abbrev pub BindHearTells : List ℕ → Heard → Type 0
BindHearTells bytes (Waits l) = Unit {0}
BindHearTells bytes (NoAnswer at) = Unit {0}
BindHearTells bytes (Answered a l) =
    (said : Result ℕ ℕ) × (bind_meaning a ≡ Some said) × HasBindAnswer said bytes l.rest

bind_tells_turn : IsExact → (place : ℕ) (bytes : List ℕ) (p : Pdu) (size : ℕ) (t : Turn)
    → front Client bytes ≡ Whole p size → BindTells p t
    → BindHearTells bytes (on_next place bytes (stepped place size t) (λ at q rest. hear TheBind at q rest))
unfolding BeginWith
bind_tells_turn exact place bytes p size Wrong e tells = tt
bind_tells_turn exact place bytes p size (Goes t) e tells = absurd tells
bind_tells_turn exact place bytes p size (Gives a) e tells = (
  tells.0,
  tells.1,
  record { pdu = p; begins = begins_on exact p size [] bytes (drop size bytes) e refl; answers = tells.2 },
)

bind_tells_front : IsExact → (place : ℕ) (bytes : List ℕ) (f : Front) → front Client bytes ≡ f
    → BindHearTells bytes
    (on_next place bytes (next_of TheBind place None f) (λ at q rest. hear TheBind at q rest))
bind_tells_front exact place bytes (Whole p size) e =
    bind_tells_turn exact place bytes p size (turned TheBind place None p) e (bind_tells place p)
bind_tells_front exact place bytes Rest e = tt
bind_tells_front exact place bytes (Refused at cause ptype other) e = tt

-- and so it is with the bind's answer
pub bind_hear_tells : Laws → (place : ℕ) (bytes : List ℕ) → BindHearTells bytes (hear TheBind place None bytes)
unfolding heard_next
bind_hear_tells laws place bytes =
    subst (λ (h : Heard). BindHearTells bytes h) (sym (hear_next laws.stable TheBind place None bytes))
    (bind_tells_front laws.exact place bytes (front Client bytes) refl)

-- ---- what a PDU says is what it does

abbrev so_far : ℕ → Gathered → PartialReply
so_far place None = record { place = place; stub = [] }
so_far place (Some g) = g

abbrev with_part : PartialReply → List ℕ → PartialReply
with_part g part = record { place = g.place; stub = g.stub ++ part }

came_is : (place : ℕ) (g : Gathered) → (so_far place g).stub ≡ unwrap_or (came g) []
came_is place None = refl
came_is place (Some g) = refl

not_false : (b : Bool) → not b ≡ false → b ≡ true
not_false true e = refl
not_false false e = absurd (true≢false e)

responds_is : (place flags : ℕ) (part : List ℕ) (g : Gathered) → has_flag flags pfc_first_frag ≡ is_none (came g)
    → responds place flags part g ≡ gathers flags (with_part (so_far place g) part)
responds_is place flags part None e =
    ap (λ (b : Bool). cond b (goes_on flags part None) (begins place flags part None))
    (not-true (bit_and flags pfc_first_frag == 0) e)
responds_is place flags part (Some g) e =
    ap (λ (b : Bool). cond b (goes_on flags part (Some g)) (begins place flags part (Some g)))
    (not_false (bit_and flags pfc_first_frag == 0) e)

turned_over : (more is_last : Bool) (a b : Turn) → not more ≡ is_last → cond more a b ≡ cond is_last b a
turned_over true is_last a b e = ap (λ (x : Bool). cond x b a) e
turned_over false is_last a b e = ap (λ (x : Bool). cond x b a) e

gathers_is : (flags : ℕ) (q : PartialReply) (is_last : Bool) → has_flag flags pfc_last_frag ≡ is_last
    → length q.stub ≤ most_stub
    → gathers flags q ≡ cond is_last (Gives (answer.Stub q.place q.stub)) (Goes (Some q))
gathers_is flags q is_last e few =
    ap (λ (b : Bool). cond b Wrong
    (cond (bit_and flags pfc_last_frag == 0) (Goes (Some q)) (Gives (answer.Stub q.place q.stub))))
    (le-ltb most_stub (length q.stub) few)
    ∙ turned_over (bit_and flags pfc_last_frag == 0) is_last (Goes (Some q)) (Gives (answer.Stub q.place q.stub)) e

-- one more response
record TurnsBy (id place : ℕ) (g : Gathered) (is_last : Bool) (now : List ℕ) (p : Pdu) : Type 0 where
  reply : PartialReply
  stub : reply.stub ≡ now
  is : turned (TheReply id) place g p ≡ cond is_last (Gives (answer.Stub reply.place reply.stub)) (Goes (Some reply))

next_turns : (id place : ℕ) (g : Gathered) (is_last : Bool) (now : List ℕ) (p : Pdu)
    → IsNextResponse id is_last (came g) now p → TurnsBy id place g is_last now p
next_turns id place g is_last now p n =
    let q : PartialReply = with_part (so_far place g) n.part in
    let same : q.stub ≡ now = ap (λ (x : List ℕ). x ++ n.part) (came_is place g) ∙ sym n.joined in
    record {
      reply = q;
      stub = same;
      is = ap (turned (TheReply id) place g) n.pdu_is
          ∙ ap (λ (b : Bool). cond b (responds place n.flags n.part g) Wrong) (eq-eqb id id refl)
          ∙ responds_is place n.flags n.part g n.first
          ∙ gathers_is n.flags q is_last n.last (subst (λ (x : List ℕ). length x ≤ most_stub) (sym same) n.within);
    }

-- a fault or a bind_nak
record IsDenied (w : Awaited) (place : ℕ) (g : Gathered) (status : ℕ) (p : Pdu) : Type 0 where
  said : Answer
  is : turned w place g p ≡ Gives said
  means : meaning said ≡ Some (Err status)
  bind_means : bind_meaning said ≡ Some (Err status)

faulted : (w : Awaited) (place : ℕ) (g : Gathered) (id context status : ℕ)
    → turned w place g (pdu.Fault id context status) ≡ Gives (answer.Fault status)
faulted TheBind place g id context status = refl
faulted (TheReply other) place g id context status = refl

denied_bind : (w : Awaited) (place : ℕ) (g : Gathered) (id reason : ℕ)
    → turned w place g (pdu.BindNak id reason) ≡ Gives answer.Nak
denied_bind TheBind place g id reason = refl
denied_bind (TheReply other) place g id reason = refl

denied : (w : Awaited) (place : ℕ) (g : Gathered) (status : ℕ) (p : Pdu) → Denies status p
    → IsDenied w place g status p
denied w place g status (pdu.Fault other context given) d = record {
  said = answer.Fault given;
  is = faulted w place g other context given;
  means = ap (λ (s : ℕ). Some (Err s)) d;
  bind_means = ap (λ (s : ℕ). Some (Err s)) d;
}
denied w place g status (pdu.BindNak other reason) d = record {
  said = answer.Nak;
  is = denied_bind w place g other reason;
  means = ap (λ (s : ℕ). Some (Err s)) d;
  bind_means = ap (λ (s : ℕ). Some (Err s)) d;
}
denied w place g status (pdu.Response other flags context hint part) d = absurd d
denied w place g status (pdu.BindAck other xmit recv group outcomes) d = absurd d
denied w place g status (pdu.AlterResp other xmit recv group outcomes) d = absurd d
denied w place g status (pdu.Bind other xmit recv group elements) d = absurd d
denied w place g status (pdu.Alter other xmit recv group elements) d = absurd d
denied w place g status (pdu.Request other flags context opnum stub) d = absurd d
denied w place g status (pdu.Cancel other) d = absurd d
denied w place g status (pdu.Orphaned other) d = absurd d

-- ---- what PDUs bring is heard

pub record Hears (w : Awaited) (place : ℕ) (g : Gathered) (bytes rest : List ℕ) (said : Answer) : Type 0 where
  pub at : ℕ
  pub is : hear w place g bytes ≡ Answered said (listening at None rest)

-- one PDU with which the answer is whole
gives_heard : Laws → (w : Awaited) (place : ℕ) (g : Gathered) (p : Pdu) (bytes rest : List ℕ) (said : Answer)
    → BeginWith (p ∷ []) bytes rest → turned w place g p ≡ Gives said → Hears w place g bytes rest said
unfolding BeginWith heard_next
gives_heard laws w place g p bytes rest said b e =
    let first = stands_first laws.exact p b.0 b.1 bytes b.2 b.3 in
    let size : ℕ = length b.0 in
    record {
      at = place + size;
      is = on_gives laws.stable w place g bytes said size
          (ap (next_of w place g) first.whole ∙ ap (stepped place size) e)
          ∙ ap (λ (x : List ℕ). Answered said (listening (place + size) None x)) (first.others ∙ sym b.4);
    }

pub record HearsCall (id place : ℕ) (g : Gathered) (bytes rest : List ℕ) (said : Result (List ℕ) ℕ) : Type 0 where
  pub answer : Answer
  pub means : meaning answer ≡ Some said
  pub hears : Hears (TheReply id) place g bytes rest answer

call_heard : Laws → (pdus : List Pdu) (id place : ℕ) (g : Gathered) (bytes rest : List ℕ) (said : Result (List ℕ) ℕ)
    → BeginWith pdus bytes rest → AnswerCall id (came g) pdus said → HearsCall id place g bytes rest said
unfolding BeginWith AnswerCall heard_next
call_heard laws [] id place g bytes rest said b a = absurd a
call_heard laws (p ∷ []) id place g bytes rest (Ok stub) b a =
    let t = next_turns id place g true stub p a in
    record {
      answer = answer.Stub t.reply.place t.reply.stub;
      means = ap (λ (x : List ℕ). Some (Ok x)) t.stub;
      hears = gives_heard laws (TheReply id) place g p bytes rest (answer.Stub t.reply.place t.reply.stub) b t.is;
    }
call_heard laws (p ∷ []) id place g bytes rest (Err status) b a =
    let d = denied (TheReply id) place g status p a in
    record {
      answer = d.said;
      means = d.means;
      hears = gives_heard laws (TheReply id) place g p bytes rest d.said b d.is;
    }
call_heard laws (p ∷ next ∷ pdus) id place g bytes rest said b a =
    let first = stands_first laws.exact p b.0 b.1 bytes b.2 b.3 in
    let size : ℕ = length b.0 in
    let t = next_turns id place g false a.0 p a.1 in
    let q : PartialReply = t.reply in
    let ih : HearsCall id (place + size) (Some q) b.1 rest said =
    call_heard laws (next ∷ pdus) id (place + size) (Some q) b.1 rest said b.4
    (subst (λ (x : List ℕ). AnswerCall id (Some x) (next ∷ pdus) said) (sym t.stub) a.2) in
    record {
      answer = ih.answer;
      means = ih.means;
      hears = record {
        at = ih.hears.at;
        is = on_goes laws.stable (TheReply id) place g (Some q) bytes size
            (ap (next_of (TheReply id) place g) first.whole ∙ ap (stepped place size) t.is)
            ∙ ap (hear (TheReply id) (place + size) (Some q)) first.others
            ∙ ih.hears.is;
      };
    }

-- an answer of the stream to a call is heard
pub answer_heard : Laws → (id place : ℕ) (bytes rest : List ℕ) (said : Result (List ℕ) ℕ)
    → HasAnswer id None said bytes rest → HearsCall id place None bytes rest said
answer_heard laws id place bytes rest said has =
    call_heard laws has.pdus id place None bytes rest said has.begins has.answers

pub record HearsBind (bytes rest : List ℕ) (said : Result ℕ ℕ) : Type 0 where
  pub answer : Answer
  pub means : bind_meaning answer ≡ Some said
  pub hears : Hears TheBind 0 None bytes rest answer

record BindTurns (said : Result ℕ ℕ) (p : Pdu) : Type 0 where
  answer : Answer
  means : bind_meaning answer ≡ Some said
  is : turned TheBind 0 None p ≡ Gives answer

both_zero : (first second : Outcome) → first.result ≡ 0 → second.result ≡ 0
    → ((first.result == 0) && (second.result == 0)) ≡ true
both_zero first second is is' =
    (λ i. (first.result == 0) && (eq-eqb second.result 0 is' i))
    ∙ (λ i. (eq-eqb first.result 0 is i) && true)

accepted_turns : (size id xmit recv group : ℕ) (outcomes : List Outcome)
    → AnswersBind (Ok size) (pdu.BindAck id xmit recv group outcomes)
    → BindTurns (Ok size) (pdu.BindAck id xmit recv group outcomes)
accepted_turns size id xmit recv group [] a = absurd a
accepted_turns size id xmit recv group (first ∷ []) a = absurd a
accepted_turns size id xmit recv group (first ∷ second ∷ []) a = record {
  answer = answer.Bound recv;
  means = ap (λ (x : ℕ). Some (Ok x)) a.0;
  is = ap (λ (b : Bool). cond b (Gives (answer.Bound recv)) Wrong) (both_zero first second a.1 a.2);
}
accepted_turns size id xmit recv group (first ∷ second ∷ third ∷ others) a = absurd a

bind_turns : (said : Result ℕ ℕ) (p : Pdu) → AnswersBind said p → BindTurns said p
bind_turns (Err status) p a =
    let d = denied TheBind 0 None status p a in record { answer = d.said; means = d.bind_means; is = d.is }
bind_turns (Ok size) (pdu.BindAck id xmit recv group outcomes) a = accepted_turns size id xmit recv group outcomes a
bind_turns (Ok size) (pdu.Fault other context status) a = absurd a
bind_turns (Ok size) (pdu.BindNak other reason) a = absurd a
bind_turns (Ok size) (pdu.Response other flags context hint part) a = absurd a
bind_turns (Ok size) (pdu.AlterResp other xmit recv group outcomes) a = absurd a
bind_turns (Ok size) (pdu.Bind other xmit recv group elements) a = absurd a
bind_turns (Ok size) (pdu.Alter other xmit recv group elements) a = absurd a
bind_turns (Ok size) (pdu.Request other flags context opnum stub) a = absurd a
bind_turns (Ok size) (pdu.Cancel other) a = absurd a
bind_turns (Ok size) (pdu.Orphaned other) a = absurd a

-- and so is one to the bind
pub bind_heard : Laws → (bytes rest : List ℕ) (said : Result ℕ ℕ) → HasBindAnswer said bytes rest
    → HearsBind bytes rest said
bind_heard laws bytes rest said has =
    let t = bind_turns said has.pdu has.answers in
    record {
      answer = t.answer;
      means = t.means;
      hears = gives_heard laws TheBind 0 None has.pdu bytes rest t.answer has.begins t.is;
    }

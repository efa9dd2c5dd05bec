-- The acts of a stream are those of the PDUs that it is divided into.
use Rattle.std.proofs.Common.{◌≡◌, ℕ, ◌+◌, List, [], ◌∷◌, ◌++◌, length, refl, sym, ap, subst, ◌∙◌, arith, length-append}
use Rattle.std.proofs.Math.Seq.{take-append_seam, drop-append_seam}
use Rattle.rpc_pdu.specs.declared.pdus.Pdu.{Pdu}
use Rattle.rpc_pdu.specs.declared.pdus.Side.TheVariants.{Server}
use Rattle.rpc_pdu.specs.Bodies.{Front, Whole, Rest, Refused, front}
use Rattle.rpc_pdu.specs.Grammar.{IsPdu}
use Rattle.rpc_pdu.specs.Laws.{IsStable, IsExact, IsEnd, IsDivided, AllDivideOnce}
use Rattle.rpc_session.specs.declared.sessions.Act.{Act}
use Rattle.rpc_session.specs.declared.sessions.Session.{Session}
use Rattle.rpc_session.specs.declared.sessions.Session.TheVariants.{Unbound}
use Rattle.rpc_session.specs.declared.sessions.Step.{Step}
use Rattle.rpc_session.specs.declared.sessions.Step.TheVariants.{Refuses, Goes}
use Rattle.rpc_session.specs.Sessions.{taken, Heard, stepped, next_of, heard_next, listed, on_next, hear}
use Rattle.rpc_session.specs.Acts.{acts_of_step, acts_of_end, acts_of, AreOfPdus, AreActs}
use Rattle.rpc_session.proofs.Cutting.{hear_next}

abbrev Part : Type 0
Part = Pdu × List ℕ

-- what is heard at the beginning, for what stands there
hear_front : IsStable → (conn place : ℕ) (s : Session) (bytes : List ℕ) (f : Front) → front Server bytes ≡ f
    → hear conn place s bytes ≡ on_next conn place bytes (next_of conn place s f) (λ p t rest. hear conn p t rest)
unfolding heard_next
hear_front stable conn place s bytes f e = hear_next stable conn place s bytes
    ∙ ap (λ (x : Front). on_next conn place bytes (next_of conn place s x) (λ p t rest. hear conn p t rest)) e

end_said : (conn place : ℕ) (s : Session) (bytes : List ℕ) (f : Front) → IsEnd f
    → (on_next conn place bytes (next_of conn place s f) (λ p t rest. hear conn p t rest)).acts ≡ acts_of_end place f
end_said conn place s bytes (Whole pdu size) h = absurd h
end_said conn place s bytes Rest h = refl
end_said conn place s bytes (Refused at cause ptype id) h = refl

front_part : IsExact → (part : Part) (rest : List ℕ) → IsPdu Server part.0 part.1
    → front Server (part.1 ++ rest) ≡ Whole part.0 (length part.1)
front_part exact part rest is =
    let joined = length-append part.1 rest in
    (exact Server part.0 (length part.1) (part.1 ++ rest)).1 (
      omega (arith, joined),
      subst (λ (x : List ℕ). IsPdu Server part.0 x) (sym (take-append_seam part.1 rest)) is,
    )

step_said : (conn place : ℕ) (part : Part) (rest : List ℕ) (step : Step) (later : Session → List Act)
    → ((t : Session) → (hear conn (place + length part.1) t rest).acts ≡ later t)
    → (on_next conn place (part.1 ++ rest) (stepped place part.0 (length part.1) step)
    (λ p t rest'. hear conn p t rest')).acts ≡ acts_of_step place part.0 step later
step_said conn place part rest (Refuses cause) later h = refl
step_said conn place part rest (Goes act t) later h =
    ap (λ (x : List ℕ). listed act ++ (hear conn (place + length part.1) t x).acts) (drop-append_seam part.1 rest)
    ∙ ap (λ (x : List Act). listed act ++ x) (h t)

pub parts_said : IsStable → IsExact → (conn place : ℕ) (s : Session) (parts : List Part) (end bytes : List ℕ)
    → IsDivided Server parts end bytes → (hear conn place s bytes).acts ≡ acts_of conn place s parts end
parts_said stable exact conn place s [] end bytes h =
    ap (λ (x : List ℕ). (hear conn place s x).acts) h.0
    ∙ ap (λ (x : Heard). x.acts) (hear_front stable conn place s end (front Server end) refl)
    ∙ end_said conn place s end (front Server end) h.1
parts_said stable exact conn place s (part ∷ parts) end bytes h =
    let rest = h.0 in
    ap (λ (x : List ℕ). (hear conn place s x).acts) h.1
    ∙ ap (λ (x : Heard). x.acts)
    (hear_front stable conn place s (part.1 ++ rest) (Whole part.0 (length part.1))
    (front_part exact part rest h.2))
    ∙ step_said conn place part rest (taken conn s part.0) (λ t. acts_of conn (place + length part.1) t parts end)
    (λ t. parts_said stable exact conn (place + length part.1) t parts end rest h.3)

pub are_of_pdus : IsStable → IsExact → AreOfPdus
are_of_pdus stable exact conn stream parts end h = parts_said stable exact conn 0 Unbound parts end stream h

pub are_acts : IsStable → IsExact → AllDivideOnce → AreActs
are_acts stable exact once conn stream told =
    let one = once Server stream in (
      λ has. has.acts_are ∙ sym (are_of_pdus stable exact conn stream has.pdus has.end has.divided),
      λ is. record {
        pdus = one.parts;
        end = one.end;
        divided = one.divided;
        acts_are = is ∙ are_of_pdus stable exact conn stream one.parts one.end one.divided;
      },
    )

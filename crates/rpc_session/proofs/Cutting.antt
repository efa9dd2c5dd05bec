-- A stream may be cut anywhere.
use Rattle.std.proofs.Common.{◌≡◌, ℕ, zero, suc, ◌+◌, ◌≤◌, List, [], ◌∷◌, ◌++◌, length, drop, Option, refl, sym, ap}
use Rattle.std.proofs.Common.{subst, ◌∙◌, arith, append_assoc, length-drop}
use Rattle.std.proofs.lemmas.List.{drop-append-le}
use Rattle.rpc_pdu.specs.declared.pdus.Pdu.{Pdu}
use Rattle.rpc_pdu.specs.declared.pdus.Side.TheVariants.{Server}
use Rattle.rpc_pdu.specs.Bodies.{Front, Whole, Rest, Refused, front}
use Rattle.rpc_pdu.specs.Laws.{Stays, IsStable}
use Rattle.rpc_session.specs.declared.sessions.Act.{Act}
use Rattle.rpc_session.specs.declared.sessions.Session.{Session}
use Rattle.rpc_session.specs.declared.sessions.Step.{Step}
use Rattle.rpc_session.specs.declared.sessions.Step.TheVariants.{Refuses, Goes}
use Rattle.rpc_session.specs.declared.hearing.Next.{Next}
use Rattle.rpc_session.specs.declared.hearing.Next.TheVariants as next
use Rattle.rpc_session.specs.declared.hearing.Hearing.TheVariants.{Going, Ended, Lost}
use Rattle.rpc_session.specs.Sessions.{taken, Heard, stepped, next_of, heard_next, listed, joined, on_next, hear_in}
use Rattle.rpc_session.specs.Sessions.{hear, on}
use Rattle.rpc_session.specs.Acts.{IsCutAnywhere}

abbrev Later : Type 0
Later = ℕ → Session → List ℕ → Heard

-- ---- what stands at the beginning stays, whatever follows

abbrev pub NextStays : ℕ → ℕ → Session → List ℕ → List ℕ → Next → Type 0
NextStays conn place s a b (next.Waits t) = t ≡ s
NextStays conn place s a b (next.Ends act) = heard_next conn place s (a ++ b) ≡ next.Ends act
NextStays conn place s a b (next.Goes act t size) = (heard_next conn place s (a ++ b) ≡ next.Goes act t size)
    × (16 ≤ size) × (size ≤ length a)

stays_stepped : (conn place : ℕ) (s : Session) (a b : List ℕ) (pdu : Pdu) (size : ℕ) (step : Step)
    → heard_next conn place s (a ++ b) ≡ stepped place pdu size step → 16 ≤ size → size ≤ length a
    → NextStays conn place s a b (stepped place pdu size step)
stays_stepped conn place s a b pdu size (Refuses cause) e low high = e
stays_stepped conn place s a b pdu size (Goes act t) e low high = (e, low, high)

stays_front : (conn place : ℕ) (s : Session) (a b : List ℕ) (f : Front) → Stays f Server a b
    → NextStays conn place s a b (next_of conn place s f)
unfolding heard_next
stays_front conn place s a b (Whole pdu size) h =
    stays_stepped conn place s a b pdu size (taken conn s pdu) (ap (next_of conn place s) h.0) h.1 h.2
stays_front conn place s a b Rest h = refl
stays_front conn place s a b (Refused at cause ptype id) h = ap (next_of conn place s) h.0

pub next_stays : IsStable → (conn place : ℕ) (s : Session) (a b : List ℕ)
    → NextStays conn place s a b (heard_next conn place s a)
unfolding heard_next
next_stays stable conn place s a b = stays_front conn place s a b (front Server a) (stable Server a b)

-- a whole PDU at the beginning
pub record IsWhole (bytes : List ℕ) (size : ℕ) : Type 0 where
  pub low : 16 ≤ size
  pub there : size ≤ length bytes

whole_goes : (conn place : ℕ) (s : Session) (bytes : List ℕ) (n : Next) (act : Option Act) (t : Session) (size : ℕ)
    → n ≡ next.Goes act t size → NextStays conn place s bytes [] n → IsWhole bytes size
whole_goes conn place s bytes n act t size e h =
    let k = subst (λ (x : Next). NextStays conn place s bytes [] x) e h in
    record { low = k.1; there = k.2 }

pub whole_next : IsStable → (conn place : ℕ) (s : Session) (bytes : List ℕ) (act : Option Act) (t : Session) (size : ℕ)
    → heard_next conn place s bytes ≡ next.Goes act t size → IsWhole bytes size
whole_next stable conn place s bytes act t size e =
    whole_goes conn place s bytes (heard_next conn place s bytes) act t size e (next_stays stable conn place s bytes [])

next_nil : (conn place : ℕ) (s : Session) → heard_next conn place s [] ≡ next.Waits s
unfolding heard_next front
next_nil conn place s = refl

-- ---- more turns than bytes change nothing

same_next : (conn place : ℕ) (bytes : List ℕ) (n : Next) (f g : Later)
    → ((act : Option Act) (t : Session) (size : ℕ) → n ≡ next.Goes act t size
    → f (place + size) t (drop size bytes) ≡ g (place + size) t (drop size bytes))
    → on_next conn place bytes n f ≡ on_next conn place bytes n g
same_next conn place bytes (next.Waits t) f g h = refl
same_next conn place bytes (next.Ends act) f g h = refl
same_next conn place bytes (next.Goes act t size) f g h = ap (joined (listed act)) (h act t size refl)

pub turns_same : IsStable → (m k conn place : ℕ) (s : Session) (bytes : List ℕ) → length bytes ≤ m → length bytes ≤ k
    → hear_in m conn place s bytes ≡ hear_in k conn place s bytes
unfolding hear_in
turns_same stable zero zero conn place s bytes le le' = refl
turns_same stable zero (suc k) conn place s [] le le' =
    sym (ap (λ (n : Next). on_next conn place [] n (λ p t rest. hear_in k conn p t rest)) (next_nil conn place s))
turns_same stable zero (suc k) conn place s (b ∷ bytes) le le' = absurd (omega arith)
turns_same stable (suc m) zero conn place s [] le le' =
    ap (λ (n : Next). on_next conn place [] n (λ p t rest. hear_in m conn p t rest)) (next_nil conn place s)
turns_same stable (suc m) zero conn place s (b ∷ bytes) le le' = absurd (omega arith)
turns_same stable (suc m) (suc k) conn place s bytes le le' =
    same_next conn place bytes (heard_next conn place s bytes) (λ p t rest. hear_in m conn p t rest)
    (λ p t rest. hear_in k conn p t rest)
    (λ act t size e. let w = whole_next stable conn place s bytes act t size e in let len =
    length-drop size bytes in let low = w.low in let there = w.there in
    turns_same stable m k conn (place + size) t (drop size bytes) (omega (arith, len, low, there, le))
    (omega (arith, len, low, there, le')))

-- ---- one PDU

pub hear_next : IsStable → (conn place : ℕ) (s : Session) (bytes : List ℕ)
    → hear conn place s bytes ≡ on_next conn place bytes (heard_next conn place s bytes)
    (λ p t rest. hear conn p t rest)
unfolding hear hear_in
hear_next stable conn place s [] =
    sym (ap (λ (n : Next). on_next conn place [] n (λ p t rest. hear conn p t rest)) (next_nil conn place s))
hear_next stable conn place s (b ∷ bytes) =
    same_next conn place (b ∷ bytes) (heard_next conn place s (b ∷ bytes))
    (λ p t rest. hear_in (length bytes) conn p t rest) (λ p t rest. hear conn p t rest)
    (λ act t size e. let w = whole_next stable conn place s (b ∷ bytes) act t size e in let len = length-drop size
    (b ∷ bytes) in let low = w.low in let there = w.there in
    turns_same stable (length bytes) (length (drop size (b ∷ bytes))) conn (place + size) t (drop size (b ∷ bytes))
    (omega (arith, len, low, there)) (omega arith))

-- ---- cutting

abbrev then : Heard → List ℕ → Heard
then h b = joined h.acts (on h.leaves b)

abbrev Cuts : ℕ → ℕ → Session → List ℕ → List ℕ → Type 0
Cuts conn place s a b = hear conn place s (a ++ b) ≡ then (hear conn place s a) b

regroup : (before : List Act) (acts : List Act) (h : Heard) → joined before (joined acts h) ≡ joined (before ++ acts) h
regroup before acts h =
    ap (λ (x : List Act). record { acts = x; leaves = h.leaves }) (sym (append_assoc before acts h.acts))

cut_next : (conn place : ℕ) (s : Session) (a b : List ℕ) (n : Next) → NextStays conn place s a b n
    → hear conn place s (a ++ b) ≡ on_next conn place (a ++ b) (heard_next conn place s (a ++ b))
    (λ p t rest. hear conn p t rest)
    → ((act : Option Act) (t : Session) (size : ℕ) → n ≡ next.Goes act t size
    → Cuts conn (place + size) t (drop size a) b)
    → hear conn place s (a ++ b) ≡ then (on_next conn place a n (λ p t rest. hear conn p t rest)) b
cut_next conn place s a b (next.Waits t) stays one h = ap (λ (x : Session). hear conn place x (a ++ b)) (sym stays)
cut_next conn place s a b (next.Ends act) stays one h = one
    ∙ ap (λ (n : Next). on_next conn place (a ++ b) n (λ p t rest. hear conn p t rest)) stays
cut_next conn place s a b (next.Goes act t size) stays one h =
    let le = stays.2 in
    one ∙ ap (λ (n : Next). on_next conn place (a ++ b) n (λ p t rest. hear conn p t rest)) stays.0
    ∙ ap (λ (x : List ℕ). joined (listed act) (hear conn (place + size) t x)) (drop-append-le size a b le)
    ∙ ap (joined (listed act)) (h act t size refl)
    ∙ regroup (listed act) (hear conn (place + size) t (drop size a)).acts
    (on (hear conn (place + size) t (drop size a)).leaves b)

pub cuts : IsStable → (turns conn place : ℕ) (s : Session) (a b : List ℕ) → length a ≤ turns → Cuts conn place s a b
cuts stable zero conn place s a b le =
    cut_next conn place s a b (heard_next conn place s a) (next_stays stable conn place s a b)
    (hear_next stable conn place s (a ++ b))
    (λ act t size e. let w = whole_next stable conn place s a act t size e in let low = w.low in let there =
    w.there in absurd (omega (arith, low, there, le)))
    ∙ ap (λ (h : Heard). then h b) (sym (hear_next stable conn place s a))
cuts stable (suc turns) conn place s a b le =
    cut_next conn place s a b (heard_next conn place s a) (next_stays stable conn place s a b)
    (hear_next stable conn place s (a ++ b))
    (λ act t size e. let w = whole_next stable conn place s a act t size e in let low = w.low in let there =
    w.there in let len =
    length-drop size a in cuts stable turns conn (place + size) t (drop size a) b
    (omega (arith, len, low, there, le)))
    ∙ ap (λ (h : Heard). then h b) (sym (hear_next stable conn place s a))

pub cut_anywhere_is : IsStable → IsCutAnywhere
cut_anywhere_is stable (Going conn place s rest) a b =
    ap (λ (x : List ℕ). hear conn place s x) (sym (append_assoc rest a b))
    ∙ cuts stable (length (rest ++ a)) conn place s (rest ++ a) b (omega arith)
cut_anywhere_is stable Ended a b = refl
cut_anywhere_is stable Lost a b = refl

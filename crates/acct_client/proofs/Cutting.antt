-- The peer's stream may be cut anywhere.
use Rattle.std.proofs.Common.{◌≡◌, ℕ, zero, suc, ◌+◌, ◌≤◌, List, [], ◌∷◌, ◌++◌, length, drop, Option, None, refl, sym}
use Rattle.std.proofs.Common.{ap}
use Rattle.std.proofs.Common.{subst, ◌∙◌, arith, append_assoc, length-drop}
use Rattle.std.proofs.lemmas.List.{drop-append-le}
use Rattle.rpc_pdu.specs.declared.pdus.Side.TheVariants.{Client}
use Rattle.rpc_pdu.specs.Bodies.{Front, Whole, Rest, Refused, front}
use Rattle.rpc_pdu.specs.Laws.{Stays, IsStable}
use Rattle.acct_client.specs.declared.answers.Awaited.{Awaited}
use Rattle.acct_client.specs.declared.answers.PartialReply.{PartialReply}
use Rattle.acct_client.specs.declared.answers.Answer.{Answer}
use Rattle.acct_client.specs.declared.answers.Turn.{Turn}
use Rattle.acct_client.specs.declared.answers.Turn.TheVariants.{Goes, Gives, Wrong}
use Rattle.acct_client.specs.declared.hearing.Next.{Next}
use Rattle.acct_client.specs.declared.hearing.Next.TheVariants as next
use Rattle.acct_client.specs.declared.hearing.Heard.{Heard}
use Rattle.acct_client.specs.declared.hearing.Heard.TheVariants.{Waits, Answered, NoAnswer}
use Rattle.acct_client.specs.Hearings.{turned, stepped, next_of, heard_next, listening, on_next, hear_in, hear}
use Rattle.acct_client.specs.Hearings.{with_more, IsCutAnywhere}

abbrev Gathered : Type 0
Gathered = Option PartialReply

abbrev Later : Type 0
Later = ℕ → Gathered → List ℕ → Heard

-- ---- what stands at the beginning stays, whatever follows

-- a whole PDU at the beginning
pub record IsWhole (bytes : List ℕ) (size : ℕ) : Type 0 where
  pub low : 16 ≤ size
  pub there : size ≤ length bytes

abbrev pub NextStays : Awaited → ℕ → Gathered → List ℕ → List ℕ → Next → Type 0
NextStays w place g a b (next.Waits t) = t ≡ g
NextStays w place g a b (next.Wrong at) = heard_next w place g (a ++ b) ≡ next.Wrong at
NextStays w place g a b (next.Gives answer size) = (heard_next w place g (a ++ b) ≡ next.Gives answer size)
    × IsWhole a size
NextStays w place g a b (next.Goes t size) = (heard_next w place g (a ++ b) ≡ next.Goes t size) × IsWhole a size

stays_stepped : (w : Awaited) (place : ℕ) (g : Gathered) (a b : List ℕ) (size : ℕ) (turn : Turn)
    → heard_next w place g (a ++ b) ≡ stepped place size turn → IsWhole a size
    → NextStays w place g a b (stepped place size turn)
stays_stepped w place g a b size Wrong e whole = e
stays_stepped w place g a b size (Goes t) e whole = (e, whole)
stays_stepped w place g a b size (Gives answer) e whole = (e, whole)

stays_front : (w : Awaited) (place : ℕ) (g : Gathered) (a b : List ℕ) (f : Front) → Stays f Client a b
    → NextStays w place g a b (next_of w place g f)
unfolding heard_next
stays_front w place g a b (Whole pdu size) h =
    stays_stepped w place g a b size (turned w place g pdu) (ap (next_of w place g) h.0)
    (record { low = h.1; there = h.2 })
stays_front w place g a b Rest h = refl
stays_front w place g a b (Refused at cause ptype id) h = ap (next_of w place g) h.0

pub next_stays : IsStable → (w : Awaited) (place : ℕ) (g : Gathered) (a b : List ℕ)
    → NextStays w place g a b (heard_next w place g a)
unfolding heard_next
next_stays stable w place g a b = stays_front w place g a b (front Client a) (stable Client a b)

goes_whole : (w : Awaited) (place : ℕ) (g : Gathered) (bytes : List ℕ) (n : Next) (t : Gathered) (size : ℕ)
    → n ≡ next.Goes t size → NextStays w place g bytes [] n → IsWhole bytes size
goes_whole w place g bytes n t size e h = (subst (λ (x : Next). NextStays w place g bytes [] x) e h).1

pub whole_next : IsStable → (w : Awaited) (place : ℕ) (g : Gathered) (bytes : List ℕ) (t : Gathered) (size : ℕ)
    → heard_next w place g bytes ≡ next.Goes t size → IsWhole bytes size
whole_next stable w place g bytes t size e =
    goes_whole w place g bytes (heard_next w place g bytes) t size e (next_stays stable w place g bytes [])

gives_whole : (w : Awaited) (place : ℕ) (g : Gathered) (bytes : List ℕ) (n : Next) (answer : Answer) (size : ℕ)
    → n ≡ next.Gives answer size → NextStays w place g bytes [] n → IsWhole bytes size
gives_whole w place g bytes n answer size e h = (subst (λ (x : Next). NextStays w place g bytes [] x) e h).1

pub whole_given : IsStable → (w : Awaited) (place : ℕ) (g : Gathered) (bytes : List ℕ) (answer : Answer) (size : ℕ)
    → heard_next w place g bytes ≡ next.Gives answer size → IsWhole bytes size
whole_given stable w place g bytes answer size e =
    gives_whole w place g bytes (heard_next w place g bytes) answer size e (next_stays stable w place g bytes [])

next_nil : (w : Awaited) (place : ℕ) (g : Gathered) → heard_next w place g [] ≡ next.Waits g
unfolding heard_next front
next_nil w place g = refl

-- ---- more turns than bytes change nothing

same_next : (place : ℕ) (bytes : List ℕ) (n : Next) (f h : Later)
    → ((t : Gathered) (size : ℕ) → n ≡ next.Goes t size
    → f (place + size) t (drop size bytes) ≡ h (place + size) t (drop size bytes))
    → on_next place bytes n f ≡ on_next place bytes n h
same_next place bytes (next.Waits t) f h same = refl
same_next place bytes (next.Wrong at) f h same = refl
same_next place bytes (next.Gives answer size) f h same = refl
same_next place bytes (next.Goes t size) f h same = same t size refl

pub turns_same : IsStable → (m k : ℕ) (w : Awaited) (place : ℕ) (g : Gathered) (bytes : List ℕ) → length bytes ≤ m
    → length bytes ≤ k → hear_in m w place g bytes ≡ hear_in k w place g bytes
unfolding hear_in
turns_same stable zero zero w place g bytes le le' = refl
turns_same stable zero (suc k) w place g [] le le' =
    sym (ap (λ (n : Next). on_next place [] n (λ p t rest. hear_in k w p t rest)) (next_nil w place g))
turns_same stable zero (suc k) w place g (b ∷ bytes) le le' = absurd (omega arith)
turns_same stable (suc m) zero w place g [] le le' =
    ap (λ (n : Next). on_next place [] n (λ p t rest. hear_in m w p t rest)) (next_nil w place g)
turns_same stable (suc m) zero w place g (b ∷ bytes) le le' = absurd (omega arith)
turns_same stable (suc m) (suc k) w place g bytes le le' =
    same_next place bytes (heard_next w place g bytes) (λ p t rest. hear_in m w p t rest)
    (λ p t rest. hear_in k w p t rest)
    (λ t size e. let x = whole_next stable w place g bytes t size e in let len =
    length-drop size bytes in let low = x.low in let there = x.there in
    turns_same stable m k w (place + size) t (drop size bytes) (omega (arith, len, low, there, le))
    (omega (arith, len, low, there, le')))

-- ---- one PDU

pub hear_next : IsStable → (w : Awaited) (place : ℕ) (g : Gathered) (bytes : List ℕ)
    → hear w place g bytes ≡ on_next place bytes (heard_next w place g bytes) (λ p t rest. hear w p t rest)
unfolding hear hear_in
hear_next stable w place g [] =
    sym (ap (λ (n : Next). on_next place [] n (λ p t rest. hear w p t rest)) (next_nil w place g))
hear_next stable w place g (b ∷ bytes) =
    same_next place (b ∷ bytes) (heard_next w place g (b ∷ bytes))
    (λ p t rest. hear_in (length bytes) w p t rest) (λ p t rest. hear w p t rest)
    (λ t size e. let x = whole_next stable w place g (b ∷ bytes) t size e in let len = length-drop size
    (b ∷ bytes) in let low = x.low in let there = x.there in
    turns_same stable (length bytes) (length (drop size (b ∷ bytes))) w (place + size) t (drop size (b ∷ bytes))
    (omega (arith, len, low, there)) (omega arith))

-- where one of the cases is known
pub on_waits : IsStable → (w : Awaited) (place : ℕ) (g t : Gathered) (bytes : List ℕ)
    → heard_next w place g bytes ≡ next.Waits t → hear w place g bytes ≡ Waits (listening place t bytes)
on_waits stable w place g t bytes e = hear_next stable w place g bytes
    ∙ ap (λ (n : Next). on_next place bytes n (λ p t rest. hear w p t rest)) e

pub on_wrong : IsStable → (w : Awaited) (place : ℕ) (g : Gathered) (bytes : List ℕ) (at : ℕ)
    → heard_next w place g bytes ≡ next.Wrong at → hear w place g bytes ≡ NoAnswer at
on_wrong stable w place g bytes at e = hear_next stable w place g bytes
    ∙ ap (λ (n : Next). on_next place bytes n (λ p t rest. hear w p t rest)) e

pub on_gives : IsStable → (w : Awaited) (place : ℕ) (g : Gathered) (bytes : List ℕ) (answer : Answer) (size : ℕ)
    → heard_next w place g bytes ≡ next.Gives answer size
    → hear w place g bytes ≡ Answered answer (listening (place + size) None (drop size bytes))
on_gives stable w place g bytes answer size e = hear_next stable w place g bytes
    ∙ ap (λ (n : Next). on_next place bytes n (λ p t rest. hear w p t rest)) e

pub on_goes : IsStable → (w : Awaited) (place : ℕ) (g t : Gathered) (bytes : List ℕ) (size : ℕ)
    → heard_next w place g bytes ≡ next.Goes t size
    → hear w place g bytes ≡ hear w (place + size) t (drop size bytes)
on_goes stable w place g t bytes size e = hear_next stable w place g bytes
    ∙ ap (λ (n : Next). on_next place bytes n (λ p t rest. hear w p t rest)) e

-- ---- cutting

abbrev Cuts : Awaited → ℕ → Gathered → List ℕ → List ℕ → Type 0
Cuts w place g a b = hear w place g (a ++ b) ≡ with_more w (hear w place g a) b

cut_next : (w : Awaited) (place : ℕ) (g : Gathered) (a b : List ℕ) (n : Next) → NextStays w place g a b n
    → hear w place g (a ++ b) ≡ on_next place (a ++ b) (heard_next w place g (a ++ b)) (λ p t rest. hear w p t rest)
    → ((t : Gathered) (size : ℕ) → n ≡ next.Goes t size → Cuts w (place + size) t (drop size a) b)
    → hear w place g (a ++ b) ≡ with_more w (on_next place a n (λ p t rest. hear w p t rest)) b
cut_next w place g a b (next.Waits t) stays one h = ap (λ (x : Gathered). hear w place x (a ++ b)) (sym stays)
cut_next w place g a b (next.Wrong at) stays one h = one
    ∙ ap (λ (n : Next). on_next place (a ++ b) n (λ p t rest. hear w p t rest)) stays
cut_next w place g a b (next.Gives answer size) stays one h =
    let le = stays.1.there in
    one ∙ ap (λ (n : Next). on_next place (a ++ b) n (λ p t rest. hear w p t rest)) stays.0
    ∙ ap (λ (x : List ℕ). Answered answer (listening (place + size) None x)) (drop-append-le size a b le)
cut_next w place g a b (next.Goes t size) stays one h =
    let le = stays.1.there in
    one ∙ ap (λ (n : Next). on_next place (a ++ b) n (λ p t rest. hear w p t rest)) stays.0
    ∙ ap (λ (x : List ℕ). hear w (place + size) t x) (drop-append-le size a b le)
    ∙ h t size refl

pub cuts : IsStable → (turns : ℕ) (w : Awaited) (place : ℕ) (g : Gathered) (a b : List ℕ) → length a ≤ turns
    → Cuts w place g a b
cuts stable zero w place g a b le =
    cut_next w place g a b (heard_next w place g a) (next_stays stable w place g a b)
    (hear_next stable w place g (a ++ b))
    (λ t size e. let x = whole_next stable w place g a t size e in let low = x.low in let there =
    x.there in absurd (omega (arith, low, there, le)))
    ∙ ap (λ (h : Heard). with_more w h b) (sym (hear_next stable w place g a))
cuts stable (suc turns) w place g a b le =
    cut_next w place g a b (heard_next w place g a) (next_stays stable w place g a b)
    (hear_next stable w place g (a ++ b))
    (λ t size e. let x = whole_next stable w place g a t size e in let low = x.low in let there =
    x.there in let len =
    length-drop size a in cuts stable turns w (place + size) t (drop size a) b
    (omega (arith, len, low, there, le)))
    ∙ ap (λ (h : Heard). with_more w h b) (sym (hear_next stable w place g a))

pub cut_anywhere_is : IsStable → IsCutAnywhere
cut_anywhere_is stable w l a b =
    ap (λ (x : List ℕ). hear w l.place l.reply x) (sym (append_assoc l.rest a b))
    ∙ cuts stable (length (l.rest ++ a)) w l.place l.reply (l.rest ++ a) b (omega arith)

-- A whole answer takes a byte and more, so that the place goes on and less is left to hear.
use Rattle.std.proofs.Common.{◌≡◌, ℕ, zero, suc, ◌+◌, ◌≤◌, ◌<◌, Bool, true, false, List, [], ◌++◌, length, drop}
use Rattle.std.proofs.Common.{refl, sym, ap, subst, arith, length-drop, ◌⊎◌, inl, inr, cond, Option}
use Rattle.std.proofs.lemmas.Bool.{true≢false}
use Rattle.std.proofs.lemmas.List.{append-nil}
use Rattle.rpc_pdu.specs.Laws.{IsStable}
use Rattle.acct_client.specs.declared.answers.Awaited.{Awaited}
use Rattle.acct_client.specs.declared.answers.PartialReply.{PartialReply}
use Rattle.acct_client.specs.declared.dialogue.Progress.{Progress}
use Rattle.acct_client.specs.declared.dialogue.State.{State}
use Rattle.acct_client.specs.declared.dialogue.Talk.{Talk}
use Rattle.acct_client.specs.declared.hearing.Heard.{Heard}
use Rattle.acct_client.specs.declared.hearing.Heard.TheVariants.{Waits, Answered, NoAnswer}
use Rattle.acct_client.specs.declared.hearing.Listening.{Listening}
use Rattle.acct_client.specs.declared.hearing.Next.{Next}
use Rattle.acct_client.specs.declared.hearing.Next.TheVariants as next
use Rattle.acct_client.specs.Dialogues.{answered, awaits, awaited_of, is_failed, joined, progress, told, took}
use Rattle.acct_client.specs.Hearings.{hear, hear_in, heard_next, on, on_next}
use Rattle.acct_client.proofs.Answering.{HearsWhole, IsWhole, answered_kept, answered_leaves, goes_unfailed}
use Rattle.acct_client.proofs.Answering.{hears_whole}

-- ---- what is heard of some bytes from a place on

-- after a whole answer less is left and the place is further; while it isn't whole the place doesn't fall
abbrev pub Advances : ℕ → ℕ → Heard → Type 0
Advances place n (Waits l) = place ≤ l.place
Advances place n (NoAnswer at) = Unit {0}
Advances place n (Answered a l) = (place < l.place) × (length l.rest < n)

advances_next : (w : Awaited) (place : ℕ) (bytes : List ℕ) (n : Next) (turns : ℕ) → HearsWhole bytes n
    → ((t : Option PartialReply) (size : ℕ) → IsWhole bytes size
    → Advances place (length bytes) (hear_in turns w (place + size) t (drop size bytes)))
    → Advances place (length bytes) (on_next place bytes n (λ p t rest. hear_in turns w p t rest))
advances_next w place bytes (next.Waits t) turns whole h = omega arith
advances_next w place bytes (next.Wrong at) turns whole h = tt
advances_next w place bytes (next.Gives a size) turns whole h =
    let low = whole.low in let there = whole.there in let len = length-drop size bytes in
    (omega (arith, low), omega (arith, low, there, len))
advances_next w place bytes (next.Goes t size) turns whole h = h t size whole

further : (place place' m n : ℕ) (h : Heard) → place ≤ place' → m ≤ n → Advances place' m h → Advances place n h
further place place' m n (Waits l) le le' s = omega (arith, le, s)
further place place' m n (NoAnswer at) le le' s = tt
further place place' m n (Answered a l) le le' s = (omega (arith, le, s.0), omega (arith, le', s.1))

advances_in : IsStable → (turns : ℕ) (w : Awaited) (place : ℕ) (g : Option PartialReply) (bytes : List ℕ)
    → Advances place (length bytes) (hear_in turns w place g bytes)
unfolding hear_in
advances_in stable zero w place g bytes = omega arith
advances_in stable (suc turns) w place g bytes =
    advances_next w place bytes (heard_next w place g bytes) turns (hears_whole stable w place g bytes)
    (λ t size x. let len = length-drop size bytes in let there = x.there in
    further place (place + size) (length (drop size bytes)) (length bytes)
    (hear_in turns w (place + size) t (drop size bytes)) (omega arith) (omega (arith, len, there))
    (advances_in stable turns w (place + size) t (drop size bytes)))

pub advances_on : IsStable → (w : Awaited) (l : Listening) (b : List ℕ)
    → Advances l.place (length (l.rest ++ b)) (on w l b)
unfolding hear
advances_on stable w l b = advances_in stable (length (l.rest ++ b)) w l.place l.reply (l.rest ++ b)

-- ---- a dialogue

-- the dialogue after a piece, where an answer is awaited
pub took_is : (t : Talk) (b : List ℕ) → awaits t.state ≡ true → took t b ≡ joined t (progress t.state t.left b)
unfolding took
took_is t b e = ap (λ (x : Bool). cond x t (joined t (progress t.state t.left b))) (goes_unfailed t.state e)

-- where what was heard is no error, the place goes on after a whole answer, and doesn't fall else
abbrev pub MovesTo : ℕ → Progress → Type 0
MovesTo place p = is_failed p.state ≡ false
    → (place ≤ p.left.place) × (p.is_awaiting ≡ false → place < p.left.place)

moves_told : (place n : ℕ) (s : State) (h : Heard) → Advances place n h → MovesTo place (told s h)
unfolding told
moves_told place n s (Waits l) a = λ e. (a, λ x. absurd (true≢false x))
moves_told place n s (NoAnswer at) a = λ e. absurd (true≢false e)
moves_told place n s (Answered answer l) a = λ e.
    let left : (answered s l answer).left ≡ l = answered_kept s l answer e in
    let lt : place < (answered s l answer).left.place =
    subst (λ (x : Listening). place < x.place) (sym left) a.0 in
    (omega (arith, lt), λ x. lt)

pub moves_progress : IsStable → (s : State) (l : Listening) (b : List ℕ) → MovesTo l.place (progress s l b)
unfolding progress
moves_progress stable s l b =
    moves_told l.place (length (l.rest ++ b)) s (on (awaited_of s) l b) (advances_on stable (awaited_of s) l b)

-- ---- what a run goes on from

-- the answer is whole, and less is left to hear; or no answer is awaited
abbrev pub Shrinks : ℕ → Progress → Type 0
Shrinks n p = p.is_awaiting ≡ false → (length p.left.rest < n) ⊎ (awaits p.state ≡ false)

shrinks_told : (place n : ℕ) (s : State) (h : Heard) → Advances place n h → Shrinks n (told s h)
unfolding told
shrinks_told place n s (Waits l) short = λ e. absurd (true≢false e)
shrinks_told place n s (NoAnswer at) short = λ e. inr refl
shrinks_told place n s (Answered a l) short = λ e. elim (answered_leaves s l a) [
  | inl left ↦ inl (subst (λ (x : Listening). length x.rest < n) (sym left) short.1)
  | inr done ↦ inr done
]

pub shrinks : IsStable → (s : State) (l : Listening) → Shrinks (length l.rest) (progress s l [])
unfolding progress
shrinks stable s l =
    subst (λ (x : List ℕ). Shrinks (length x) (told s (on (awaited_of s) l []))) (append-nil l.rest)
    (shrinks_told l.place (length (l.rest ++ [])) s (on (awaited_of s) l []) (advances_on stable (awaited_of s) l []))

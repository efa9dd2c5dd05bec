-- One PDU after the other, as a loop takes them.
use Rattle.std.proofs.Common.{◌≡◌, ℕ, ◌+◌, List, [], ◌∷◌, ◌++◌, drop, Option, refl, sym, ap, subst, ◌∙◌, append_assoc}
use Rattle.std.proofs.Common.{arith}
use Rattle.std.proofs.lemmas.List.{append-nil, drop-drop}
use Rattle.std.specs.Prelude.{Result, Ok, Err}
use Rattle.std.specs.Result.{OnErr}
use Rattle.rpc_pdu.specs.Laws.{IsStable}
use Rattle.rpc_session.specs.declared.sessions.Act.{Act}
use Rattle.rpc_session.specs.declared.sessions.Session.{Session}
use Rattle.rpc_session.specs.declared.sessions.Session.TheVariants.{Unbound}
use Rattle.rpc_session.specs.declared.hearing.Next.{Next}
use Rattle.rpc_session.specs.declared.hearing.Next.TheVariants as next
use Rattle.rpc_session.specs.declared.hearing.Hearing.{Hearing}
use Rattle.rpc_session.specs.declared.hearing.Hearing.TheVariants.{Going, Ended}
use Rattle.rpc_session.specs.Sessions.{Heard, heard_next, listed, joined, on_next, hear_in, hear, on, Begins}
use Rattle.rpc_session.specs.Acts.{IsSoFar, IsCutAnywhere}
use Rattle.rpc_session.proofs.Cutting.{hear_next}

-- the acts so far, and what is heard in the rest, are all that is heard
pub record IsHearing (before now : List Act) (conn place : ℕ) (s : Session) (bytes : List ℕ)
    (all : Heard) : Type 0 where
  pub some : List Act
  pub now_is : now ≡ before ++ some
  pub all_is : joined some (hear conn place s bytes) ≡ all

pub begun : (before : List Act) (conn place : ℕ) (s : Session) (bytes : List ℕ)
    → IsHearing before before conn place s bytes (hear conn place s bytes)
begun before conn place s bytes = record { some = []; now_is = sym (append-nil before); all_is = refl }

more_acts : (before now some more : List Act) → now ≡ before ++ some → now ++ more ≡ before ++ (some ++ more)
more_acts before now some more e = ap (λ (x : List Act). x ++ more) e ∙ append_assoc before some more

regroup : (some more : List Act) (h : Heard) → joined (some ++ more) h ≡ joined some (joined more h)
regroup some more h = ap (λ (x : List Act). record { acts = x; leaves = h.leaves }) (append_assoc some more h.acts)

one : IsStable → (conn place : ℕ) (s : Session) (bytes : List ℕ) (n : Next) → heard_next conn place s bytes ≡ n
    → hear conn place s bytes ≡ on_next conn place bytes n (λ p t rest. hear conn p t rest)
one stable conn place s bytes n e = hear_next stable conn place s bytes
    ∙ ap (λ (x : Next). on_next conn place bytes x (λ p t rest. hear conn p t rest)) e

pub goes : IsStable
    → (before now : List Act) (conn place : ℕ) (s t : Session) (bytes : List ℕ) (all : Heard) (act : Option Act)
    (size : ℕ) → IsHearing before now conn place s bytes all → heard_next conn place s bytes ≡ next.Goes act t size
    → IsHearing before (now ++ listed act) conn (place + size) t (drop size bytes) all
goes stable before now conn place s t bytes all act size h e = record {
  some = h.some ++ listed act;
  now_is = more_acts before now h.some (listed act) h.now_is;
  all_is = regroup h.some (listed act) (hear conn (place + size) t (drop size bytes))
      ∙ ap (joined h.some) (sym (one stable conn place s bytes (next.Goes act t size) e)) ∙ h.all_is;
}

-- what is told at the end: the acts, and what is left to hear
abbrev pub IsTold : List Act → List Act → Hearing → Heard → Type 0
IsTold before now leaves all = record { acts = now; leaves = leaves } ≡ joined before all

pub ended : IsStable → (before now : List Act) (conn place : ℕ) (s : Session) (bytes : List ℕ) (all : Heard) (act : Act)
    → IsHearing before now conn place s bytes all → heard_next conn place s bytes ≡ next.Ends act
    → IsTold before (now ++ act ∷ []) Ended all
ended stable before now conn place s bytes all act h e =
    ap (λ (x : List Act). record { acts = x; leaves = Ended }) (more_acts before now h.some (act ∷ []) h.now_is)
    ∙ ap (joined before) (ap (joined h.some) (sym (one stable conn place s bytes (next.Ends act) e)) ∙ h.all_is)

pub waiting : IsStable → (before now : List Act) (conn place : ℕ) (s t : Session) (bytes : List ℕ) (all : Heard)
    → IsHearing before now conn place s bytes all → heard_next conn place s bytes ≡ next.Waits t
    → IsTold before now (Going conn place t bytes) all
waiting stable before now conn place s t bytes all h e =
    let acts : now ≡ before ++ (h.some ++ []) = h.now_is
    ∙ ap (λ (x : List Act). before ++ x) (sym (append-nil h.some)) in
    ap (λ (x : List Act). record { acts = x; leaves = Going conn place t bytes }) acts
    ∙ ap (joined before) (ap (joined h.some) (sym (one stable conn place s bytes (next.Waits t) e)) ∙ h.all_is)

pub stopped : (before now : List Act) (conn place : ℕ) (s : Session) (bytes : List ℕ) (all : Heard)
    → IsHearing before now conn place s bytes all → Begins before now all.acts
stopped before now conn place s bytes all h =
    (h.some, (hear conn place s bytes).acts, h.now_is, ap (λ (x : Heard). x.acts) h.all_is)

pub heard_more : IsCutAnywhere → (conn : ℕ) (stream piece : List ℕ) (h k : Hearing) (before now : List Act)
    → IsSoFar conn stream h before → record { acts = now; leaves = k } ≡ joined before (on h piece)
    → IsSoFar conn (stream ++ piece) k now
heard_more cut conn stream piece h k before now so_far told =
    let joins : hear conn 0 Unbound (stream ++ piece)
    ≡ joined (hear conn 0 Unbound stream).acts (on (hear conn 0 Unbound stream).leaves piece) =
    cut (Going conn 0 Unbound []) stream piece in
    let same : joined before (on h piece)
    ≡ joined (hear conn 0 Unbound stream).acts (on (hear conn 0 Unbound stream).leaves piece) =
    (λ i. joined (so_far.told i) (on (so_far.stands i) piece)) in
    let all : record { acts = now; leaves = k } ≡ hear conn 0 Unbound (stream ++ piece) = told ∙ same ∙ sym joins in
    record { told = ap (λ (x : Heard). x.acts) all; stands = ap (λ (x : Heard). x.leaves) all }

pub heard_nothing : (conn : ℕ) → IsSoFar conn [] (Going conn 0 Unbound []) []
unfolding hear hear_in
heard_nothing conn = record { told = refl; stands = refl }

pub on_err : {T E : Type 0} (r : Result T E) (P : Type 0) → P → OnErr r P
on_err (Ok x) P p = tt
on_err (Err e) P p = p

-- the same place of the rest, counted from the start
pub moved : (before now : List Act) (conn place at size : ℕ) (s : Session) (bytes : List ℕ) (all : Heard)
    → IsHearing before now conn (place + at + size) s (drop size (drop at bytes)) all
    → IsHearing before now conn (place + (at + size)) s (drop (at + size) bytes) all
moved before now conn place at size s bytes all h =
    let sum : place + at + size ≡ place + (at + size) = omega arith in
    subst (λ (n : ℕ). IsHearing before now conn n s (drop (at + size) bytes) all) sum
    (subst (λ (x : List ℕ). IsHearing before now conn (place + at + size) s x all) (drop-drop size at bytes) h)

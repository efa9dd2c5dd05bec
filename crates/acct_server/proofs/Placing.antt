-- The connections of a replay, one of which is put in another standing, and acts at their places.
use Rattle.std.proofs.Common.{◌≡◌, ◌≢◌, inl, inr, ℕ, zero, suc, ◌+◌, ◌<◌, ◌^◌, Bool, true, false, List, [], ◌∷◌, ◌++◌}
use Rattle.std.proofs.Common.{length, take, Option, Some, None, slice_get, slice_set, slice_index_or, refl, sym, ap}
use Rattle.std.proofs.Common.{◌∙◌, subst, arith}
use Rattle.std.specs.Prelude.{IsSome}
use Rattle.std.proofs.lemmas.Bool.{cases_eq}
use Rattle.acct_machine.specs.State.{State}
use Rattle.acct_machine.specs.Machine.{OneLessLive}
use Rattle.rpc_session.specs.declared.sessions.Act.{Act}
use Rattle.rpc_session.specs.declared.sessions.Act.TheVariants as act
use Rattle.rpc_session.specs.Acts.{is_refusal}
use Rattle.link_sessions.specs.declared.connections.Peer.{Peer}
use Rattle.link_sessions.specs.declared.connections.Peer.TheVariants.{Ended}
use Rattle.link_sessions.specs.Connections.{is_served}
use Rattle.acct_server.specs.Replayed.{peer_of, with_peer}
use Rattle.acct_server.specs.steps.Running.{IsClosing, Ties}
use Rattle.acct_server.proofs.Closing.{length-set_peer}

set_here : (i : ℕ) (peers : List Peer) (p q : Peer) → slice_get peers i ≡ Some q
    → slice_get (slice_set peers i p) i ≡ Some p
set_here i [] p q is = absurd cc
set_here zero (r ∷ peers) p q is = refl
set_here (suc i) (r ∷ peers) p q is = set_here i peers p q is

set_there : (i j : ℕ) (peers : List Peer) (p : Peer) → i ≢ j → slice_get (slice_set peers i p) j ≡ slice_get peers j
set_there i j [] p other = refl
set_there zero zero (r ∷ peers) p other = absurd (other refl)
set_there zero (suc j) (r ∷ peers) p other = refl
set_there (suc i) zero (r ∷ peers) p other = refl
set_there (suc i) (suc j) (r ∷ peers) p other = set_there i j peers p (λ same. other (ap suc same))

pub peer-here : (c : ℕ) (peers : List Peer) (p q : Peer) → peer_of c peers ≡ Some q
    → peer_of c (with_peer c p peers) ≡ Some p
peer-here zero peers p q is = absurd cc
peer-here (suc i) peers p q is = set_here i peers p q is

pub peer-there : (c k : ℕ) (peers : List Peer) (p : Peer) → c ≢ k → peer_of k (with_peer c p peers) ≡ peer_of k peers
peer-there zero k peers p other = refl
peer-there (suc i) zero peers p other = refl
peer-there (suc i) (suc j) peers p other = set_there i j peers p (λ same. other (ap suc same))

length-with_peer : (conn : ℕ) (peer : Peer) (peers : List Peer) → length (with_peer conn peer peers) ≡ length peers
length-with_peer zero peer peers = refl
length-with_peer (suc i) peer peers = length-set_peer i peers peer

-- a connection that was put twice
set-other : (i : ℕ) (peers : List Peer) (p q : Peer) → slice_set (slice_set peers i p) i q ≡ slice_set peers i q
set-other i [] p q = refl
set-other zero (r ∷ peers) p q = refl
set-other (suc i) (r ∷ peers) p q = ap (λ (ps : List Peer). r ∷ ps) (set-other i peers p q)

pub with-other : (conn : ℕ) (peers : List Peer) (p q : Peer) → with_peer conn q (with_peer conn p peers)
    ≡ with_peer conn q peers
with-other zero peers p q = refl
with-other (suc i) peers p q = set-other i peers p q

pub some-there : (o : Option Peer) → IsSome o → (peer : Peer) × (o ≡ Some peer)
some-there None is = cc
some-there (Some peer) is = (peer, refl)

pub served-some : (o : Option Peer) → is_served o ≡ true → IsSome o
served-some None served = absurd cc
served-some (Some peer) served = refl

pub some-is : (o : Option Peer) (peer : Peer) → o ≡ Some peer → IsSome o
some-is o peer is = subst (λ (x : Option Peer). IsSome x) (sym is) refl

pub served-there : (o : Option Peer) → is_served o ≡ true → (peer : Peer) × (o ≡ Some peer)
served-there None served = absurd cc
served-there (Some peer) served = (peer, refl)

-- a connection that is live no more was ended
pub ties-ended : (conn : ℕ) (peers : List Peer) (peer : Peer) (old new : State) → peer_of conn peers ≡ Some peer
    → Ties peers old → OneLessLive old new conn → Ties (with_peer conn Ended peers) new
ties-ended conn peers peer old new stands ties less = record {
  count = less.count ∙ ties.count ∙ sym (length-with_peer conn Ended peers);
  bounded = let bound = ties.bounded in subst (λ (n : ℕ). n < 2 ^ 32) (sym (length-with_peer conn Ended peers)) bound;
  lives = λ k served. elim (cases_eq conn k) [
    | inl same ↦
        let over : is_served (peer_of k (with_peer conn Ended peers)) ≡ false =
        subst (λ (n : ℕ). is_served (peer_of n (with_peer conn Ended peers)) ≡ false) same
        (ap is_served (peer-here conn peers Ended peer stands)) in
        let clash : true ≡ false = sym served ∙ over in absurd cc
    | inr other ↦ less.others k (λ is. other (sym is))
        ∙ ties.lives k (sym (ap is_served (peer-there conn k peers Ended other)) ∙ served)
  ];
}

-- a connection was ended, and is perhaps still live
pub ties-set : (conn : ℕ) (peers : List Peer) (peer : Peer) (s : State) → peer_of conn peers ≡ Some peer → Ties peers s
    → Ties (with_peer conn Ended peers) s
ties-set conn peers peer s stands ties = record {
  count = ties.count ∙ sym (length-with_peer conn Ended peers);
  bounded = let bound = ties.bounded in subst (λ (n : ℕ). n < 2 ^ 32) (sym (length-with_peer conn Ended peers)) bound;
  lives = λ k served. elim (cases_eq conn k) [
    | inl same ↦
        let over : is_served (peer_of k (with_peer conn Ended peers)) ≡ false =
        subst (λ (n : ℕ). is_served (peer_of n (with_peer conn Ended peers)) ≡ false) same
        (ap is_served (peer-here conn peers Ended peer stands)) in
        let clash : true ≡ false = sym served ∙ over in absurd cc
    | inr other ↦ ties.lives k (sym (ap is_served (peer-there conn k peers Ended other)) ∙ served)
  ];
}

-- ---- acts at their places

pub act-here : (i : ℕ) (acts : List Act) (x d : Act) → i < length acts → x ≡ slice_index_or acts i d
    → slice_get acts i ≡ Some x
act-here i [] x d lt is = absurd (omega arith)
act-here zero (y ∷ acts) x d lt is = ap (λ (z : Act). Some z) (sym is)
act-here (suc i) (y ∷ acts) x d lt is = act-here i acts x d (omega arith) is

-- an act with those before it and those after it
pub record IsParted (i : ℕ) (acts : List Act) (x : Act) : Type 0 where
  pub rest : List Act
  pub whole : acts ≡ take i acts ++ x ∷ rest
  pub more : take (suc i) acts ≡ take i acts ++ x ∷ []

pub parted : (i : ℕ) (acts : List Act) (x : Act) → slice_get acts i ≡ Some x → IsParted i acts x
parted i [] x is = absurd cc
parted zero (y ∷ acts) x is = let same : y ≡ x =
    cc in record { rest = acts; whole = ap (λ (z : Act). z ∷ acts) same; more = ap (λ (z : Act). z ∷ []) same }
parted (suc i) (y ∷ acts) x is = let p =
    parted i acts x is in record {
      rest = p.rest;
      whole = ap (λ (xs : List Act). y ∷ xs) p.whole;
      more =
          ap (λ (xs : List Act). y ∷ xs) p.more;
    }

pub one-more : (i : ℕ) (acts : List Act) (x : Act) → slice_get acts i ≡ Some x
    → take (i + 1) acts ≡ take i acts ++ x ∷ []
one-more i acts x is = let next : suc i ≡ i + 1 =
    omega arith in subst (λ (n : ℕ). take n acts ≡ take i acts ++ x ∷ []) next (parted i acts x is).more

-- what holds after an act that is no refusal holds where another act follows
pub not-last : (x : Act) (i count : ℕ) (served : Bool) (P : Type 0) → (is_refusal x ≡ false → P)
    → IsClosing served i count (Some x) → i + 1 < count → P
not-last (act.Answered bytes) i count served P holds closing lt = holds refl
not-last (act.Call asked) i count served P holds closing lt = holds refl
not-last (act.Closed place cause bytes) i count served P holds closing lt = let last =
    (closing refl).0 in absurd (omega (arith, last, lt))

pub closing-here : (i count : ℕ) (served : Bool) (acts : List Act) (x : Act) → slice_get acts i ≡ Some x
    → IsClosing served i count (slice_get acts i) → IsClosing served i count (Some x)
closing-here i count served acts x is closing = subst (λ (o : Option Act). IsClosing served i count o) is closing

-- The connections that are open are ended one after the other.
use Rattle.std.proofs.Common.{◌≡◌, ℕ, zero, suc, ◌+◌, ◌<◌, ◌⊎◌, List, [], ◌∷◌, ◌++◌, length, drop, map, slice_get}
use Rattle.std.proofs.Common.{slice_set, refl, sym, ap, ◌∙◌, arith, subst, append_assoc, inl, inr}
use Rattle.std.proofs.lemmas.List.{map-append}
use Rattle.acct_machine.specs.declared.entry.Entry.{Entry}
use Rattle.acct_machine.specs.declared.entry.Entry.TheVariants.{Gone}
use Rattle.link_sessions.specs.declared.connections.Peer.{Peer}
use Rattle.link_sessions.specs.declared.connections.Peer.TheVariants.{Ended}
use Rattle.acct_server.specs.Replayed.{number_of, served_from, peer_of, with_peer}

first_open : (i n : ℕ) (peers : List Peer) → i < length peers
    → served_from n (drop i peers) ≡ number_of n (slice_get peers i) ++ served_from (n + 1) (drop (suc i) peers)
first_open i n [] lt = absurd (omega arith)
first_open zero n (peer ∷ peers) lt = refl
first_open (suc i) n (peer ∷ peers) lt = first_open i n peers (omega arith)

pub drop-set_peer : (i : ℕ) (peers : List Peer) (peer : Peer)
    → drop (suc i) (slice_set peers i peer) ≡ drop (suc i) peers
drop-set_peer i [] peer = refl
drop-set_peer zero (p ∷ peers) peer = refl
drop-set_peer (suc i) (p ∷ peers) peer = drop-set_peer i peers peer

pub length-set_peer : (i : ℕ) (peers : List Peer) (peer : Peer) → length (slice_set peers i peer) ≡ length peers
length-set_peer i [] peer = refl
length-set_peer zero (p ∷ peers) peer = refl
length-set_peer (suc i) (p ∷ peers) peer = ap suc (length-set_peer i peers peer)

-- the connections that come after one that may have been ended
behind_same : (i : ℕ) (peers new : List Peer) → (new ≡ peers) ⊎ (new ≡ slice_set peers i Ended)
    → drop (suc i) new ≡ drop (suc i) peers
behind_same i peers new (inl same) = ap (λ (ps : List Peer). drop (suc i) ps) same
behind_same i peers new (inr is) = ap (λ (ps : List Peer). drop (suc i) ps) is ∙ drop-set_peer i peers Ended

count_same : (i : ℕ) (peers new : List Peer) → (new ≡ peers) ⊎ (new ≡ slice_set peers i Ended)
    → length new ≡ length peers
count_same i peers new (inl same) = ap (λ (ps : List Peer). length ps) same
count_same i peers new (inr is) = ap (λ (ps : List Peer). length ps) is ∙ length-set_peer i peers Ended

goes_on : (i : ℕ) (history now all : List Entry) (peers new : List Peer) → i < length peers
    → now ≡ history ++ map Gone (number_of (suc i) (slice_get peers i))
    → (new ≡ peers) ⊎ (new ≡ slice_set peers i Ended)
    → history ++ map Gone (served_from (suc i) (drop i peers)) ≡ all
    → now ++ map Gone (served_from (suc i + 1) (drop (suc i) new)) ≡ all
goes_on i history now all peers new lt is ends so_far =
    ap (λ (h : List Entry). h ++ map Gone (served_from (suc i + 1) (drop (suc i) new))) is
    ∙ ap (λ (ps : List Peer). (history ++ map Gone (number_of (suc i) (slice_get peers i))) ++ map Gone
    (served_from (suc i + 1) ps)) (behind_same i peers new ends)
    ∙ append_assoc history _ _
    ∙ ap (λ (es : List Entry). history ++ es)
    (sym (map-append Gone (number_of (suc i) (slice_get peers i)) (served_from (suc i + 1) (drop (suc i) peers))))
    ∙ ap (λ (ns : List ℕ). history ++ map Gone ns) (sym (first_open i (suc i) peers lt))
    ∙ so_far

pub closing-goes_on : (i : ℕ) (history now all : List Entry) (peers new : List Peer) → i < length peers
    → now ≡ history ++ map Gone (number_of (i + 1) (peer_of (i + 1) peers))
    → (new ≡ peers) ⊎ (new ≡ with_peer (i + 1) Ended peers)
    → history ++ map Gone (served_from (i + 1) (drop i peers)) ≡ all
    → now ++ map Gone (served_from (i + 1 + 1) (drop (i + 1) new)) ≡ all
closing-goes_on i history now all peers new lt is ends so_far =
    let P : ℕ → Type 0 = λ n. now ≡ history ++ map Gone (number_of n (peer_of n peers))
    → (new ≡ peers) ⊎ (new ≡ with_peer n Ended peers)
    → history ++ map Gone (served_from n (drop i peers)) ≡ all → now ++ map Gone (served_from (n + 1) (drop n new))
    ≡ all in
    let next : suc i ≡ i + 1 = omega arith in
    subst P next (goes_on i history now all peers new lt) is ends so_far

pub closing-count : (i : ℕ) (peers new : List Peer) → (new ≡ peers) ⊎ (new ≡ with_peer (i + 1) Ended peers)
    → length new ≡ length peers
closing-count i peers new ends =
    let P : ℕ → Type 0 = λ n. (new ≡ peers) ⊎ (new ≡ with_peer n Ended peers) → length new ≡ length peers in
    let next : suc i ≡ i + 1 = omega arith in
    subst P next (count_same i peers new) ends

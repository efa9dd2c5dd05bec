-- What a connection has heard, one piece more.
use Rattle.std.proofs.Common.{◌≡◌, ℕ, zero, suc, ◌+◌, ◌-◌, ◌≤◌, ◌^◌, ◌⊎◌, inl, inr, List, [], ◌∷◌, ◌++◌, length, All}
use Rattle.std.proofs.Common.{Option, Some, None, slice_get, slice_set, slice_index_or, refl, sym, ap, subst, ◌∙◌}
use Rattle.std.proofs.Common.{arith, length-append}
use Rattle.std.proofs.lemmas.Bool.{cases_eq}
use Rattle.std.proofs.lemmas.List.{drop_at}
use Rattle.std.proofs.lemmas.List.Elements.{All-drop}
use Rattle.rpc_session.specs.declared.sessions.Act.{Act}
use Rattle.rpc_session.specs.declared.sessions.Session.TheVariants.{Unbound}
use Rattle.rpc_session.specs.declared.hearing.Hearing.{Hearing}
use Rattle.rpc_session.specs.declared.hearing.Hearing.TheVariants.{Going}
use Rattle.rpc_session.specs.Sessions.{Heard, hear, hear_in, on, joined, is_going, HasRoom, acts}
use Rattle.rpc_session.specs.Acts.{IsCutAnywhere, IsRoomByLength, IsFit, AllFit, IsLastOf, AreRefusalsLast}
use Rattle.link_sessions.specs.declared.connections.Peer.{Peer}
use Rattle.link_sessions.specs.declared.connections.Peer.TheVariants.{Open, Ended as EndedPeer}
use Rattle.link_sessions.specs.Connections.{nothing_heard}
use Rattle.acct_server.specs.Replayed.{peer_of, with_peer}
use Rattle.acct_server.specs.steps.Running.{Running, Hears, HeardPeer, AllHeard, IsClosing, peers_behind}
use Rattle.acct_server.proofs.Placing.{peer-here, peer-there, some-is, some-there}
use Rattle.std.specs.Prelude.{IsSome}

-- what a connection has heard that is open
heard-open : (most conn : ℕ) (hearing : Hearing) (peer : Option Peer) → peer ≡ Some (Open hearing)
    → HeardPeer most conn peer → HeardPeer most conn (Some (Open hearing))
heard-open most conn hearing peer is heard = subst (λ (p : Option Peer). HeardPeer most conn p) is heard

-- the whole stream with the piece
with-piece : IsCutAnywhere → (conn : ℕ) (stream piece : List ℕ) (hearing : Hearing)
    → hearing ≡ (hear conn 0 Unbound stream).leaves
    → hear conn 0 Unbound (stream ++ piece) ≡ joined (acts conn stream) (on hearing piece)
with-piece cut conn stream piece hearing stands =
    cut (Going conn 0 Unbound []) stream piece
    ∙ ap (λ (h : Hearing). joined (acts conn stream) (on h piece)) (sym stands)

-- there is room for the piece
pub piece-fits : IsRoomByLength → (conn : ℕ) (hearing : Hearing) (piece : List ℕ)
    → HeardPeer (2 ^ 32) conn (Some (Open hearing)) → length piece ≤ 2 ^ 32 → HasRoom hearing piece
piece-fits room conn hearing piece heard short =
    let le = heard.2 in
    room conn heard.0 hearing (acts conn heard.0) piece heard.1 (omega (arith, le, short))

pub piece-heard : IsCutAnywhere → (most conn : ℕ) (hearing : Hearing) (piece : List ℕ)
    → HeardPeer most conn (Some (Open hearing))
    → HeardPeer (most + length piece) conn (Some (Open (on hearing piece).leaves))
piece-heard cut most conn hearing piece heard =
    let stream = heard.0 in
    let le = heard.2 in
    let whole = with-piece cut conn stream piece hearing heard.1.stands in (
      stream ++ piece,
      record { told = refl; stands = sym (ap (λ (x : Heard). x.leaves) whole) },
      omega (arith, le, length-append stream piece),
    )

-- the acts that the piece completes stand after those before
acts-behind : IsCutAnywhere → (conn : ℕ) (stream piece : List ℕ) (hearing : Hearing)
    → hearing ≡ (hear conn 0 Unbound stream).leaves
    → acts conn (stream ++ piece) ≡ acts conn stream ++ (on hearing piece).acts
acts-behind cut conn stream piece hearing stands =
    ap (λ (x : Heard). x.acts) (with-piece cut conn stream piece hearing stands)

pub piece-acts-fit : IsCutAnywhere → AllFit → (most conn : ℕ) (hearing : Hearing) (piece : List ℕ)
    → HeardPeer most conn (Some (Open hearing)) → All IsFit (on hearing piece).acts
piece-acts-fit cut fit most conn hearing piece heard =
    let stream = heard.0 in
    let before = acts conn stream in
    let all = subst (λ (as' : List Act). All IsFit as') (acts-behind cut conn stream piece hearing heard.1.stands)
    (fit conn (stream ++ piece)) in
    subst (λ (as' : List Act). All IsFit as') (drop_at before (on hearing piece).acts (length before) refl)
    (All-drop IsFit (length before) (before ++ (on hearing piece).acts) all)

get-behind : (xs ys : List Act) (i : ℕ) → (j : ℕ) × (j ≡ length xs + i) × (slice_get (xs ++ ys) j ≡ slice_get ys i)
get-behind [] ys i = (i, omega arith, refl)
get-behind (x ∷ xs) ys i = let k = get-behind xs ys i in let e = k.1 in (suc k.0, omega (arith, e), k.2)

closing-by : (count n i j : ℕ) (whole : Heard) (leaves : Hearing) (o : Option Act) → j ≡ n + i
    → length whole.acts ≡ n + count → whole.leaves ≡ leaves → IsLastOf whole j o → IsClosing (is_going leaves) i count o
closing-by count n i j whole leaves None at all same last = tt
closing-by count n i j whole leaves (Some a) at all same last = λ is.
    let k = last is in let place : j + 1 ≡ length whole.acts =
    k.0 in (omega (arith, place, at, all), ap (λ (h : Hearing). is_going h) (sym same ∙ k.1))

pub piece-closes : IsCutAnywhere → AreRefusalsLast → (most conn : ℕ) (hearing : Hearing) (piece : List ℕ)
    → HeardPeer most conn (Some (Open hearing))
    → (i : ℕ) → IsClosing (is_going (on hearing piece).leaves) i (length (on hearing piece).acts)
    (slice_get (on hearing piece).acts i)
piece-closes cut last most conn hearing piece heard i =
    let stream = heard.0 in
    let before = acts conn stream in
    let new = (on hearing piece).acts in
    let whole = hear conn 0 Unbound (stream ++ piece) in
    let is = with-piece cut conn stream piece hearing heard.1.stands in
    let behind = acts-behind cut conn stream piece hearing heard.1.stands in
    let at = get-behind before new i in
    let here : slice_get whole.acts at.0 ≡ slice_get new i = ap (λ (as' : List Act). slice_get as' at.0) behind
    ∙ at.2 in
    closing-by (length new) (length before) i at.0 whole (on hearing piece).leaves (slice_get new i) at.1
    (ap (λ (as' : List Act). length as') behind ∙ length-append before new) (ap (λ (x : Heard). x.leaves) is)
    (subst (λ (o : Option Act). IsLastOf whole at.0 o) here (last conn (stream ++ piece) at.0))

more-heard : (most more conn : ℕ) (peer : Option Peer) → HeardPeer most conn peer → HeardPeer (most + more) conn peer
more-heard most more conn None heard = tt
more-heard most more conn (Some (Open hearing)) heard = let le = heard.2 in (heard.0, heard.1, omega (arith, le))
more-heard most more conn (Some EndedPeer) heard = tt

-- ---- the connection at a number

got : (i : ℕ) (peers : List Peer) (p d : Peer) → slice_get peers i ≡ Some p → slice_index_or peers i d ≡ p
got i [] p d is = absurd cc
got zero (q ∷ peers) p d is = let same : q ≡ p = cc in same
got (suc i) (q ∷ peers) p d is = got i peers p d is

peer-got : (conn : ℕ) (peers : List Peer) (p d : Peer) → peer_of conn peers ≡ Some p
    → slice_index_or peers (conn - 1) d ≡ p
peer-got zero peers p d is = absurd cc
peer-got (suc i) peers p d is = let same : i ≡ suc i - 1 =
    omega arith in subst (λ (n : ℕ). slice_index_or peers n d ≡ p) same (got i peers p d is)

pub peer-set : (conn : ℕ) (peers : List Peer) (p q : Peer) → peer_of conn peers ≡ Some p
    → slice_set peers (conn - 1) q ≡ with_peer conn q peers
peer-set zero peers p q is = absurd cc
peer-set (suc i) peers p q is = let same : i ≡ suc i - 1 =
    omega arith in subst (λ (n : ℕ). slice_set peers n q ≡ slice_set peers i q) same refl

-- the connection at a place that was lent is the open one that was found
pub open-here : (conn : ℕ) (now lent : List Peer) (found here : Peer) (hearing : Hearing) → lent ≡ now
    → Some found ≡ peer_of conn now → here ≡ slice_index_or lent (conn - 1) here → here ≡ Open hearing
    → peer_of conn now ≡ Some (Open hearing)
open-here conn now lent found here hearing same at is stands =
    let known = subst (λ (ps : List Peer). peer_of conn ps ≡ Some found) (sym same) (sym at) in
    sym at ∙ ap (λ (p : Peer). Some p) (sym (is ∙ peer-got conn lent found here known) ∙ stands)

-- what it leaves once it has heard a piece
pub heard-here : (conn : ℕ) (now lent : List Peer) (hearing left : Hearing) (piece : List ℕ) → lent ≡ now
    → peer_of conn now ≡ Some (Open hearing) → left ≡ (on hearing piece).leaves
    → slice_set lent (conn - 1) (Open left) ≡ with_peer conn (Open (on hearing piece).leaves) now
heard-here conn now lent hearing left piece same stands leaves =
    let behind : Peer = Open (on hearing piece).leaves in
    ap (λ (h : Hearing). slice_set lent (conn - 1) (Open h)) leaves
    ∙ ap (λ (ps : List Peer). slice_set ps (conn - 1) behind) same ∙ peer-set conn now (Open hearing) behind stands

-- every connection has heard at most so much, where one has heard a piece more
pub all-heard : IsCutAnywhere → (most conn : ℕ) (hearing : Hearing) (piece : List ℕ) (peers : List Peer)
    → peer_of conn peers ≡ Some (Open hearing) → AllHeard most peers
    → AllHeard (most + length piece) (with_peer conn (Open (on hearing piece).leaves) peers)
all-heard cut most conn hearing piece peers stands heard k =
    let new = Open (on hearing piece).leaves in
    elim (cases_eq conn k) [
      | inl same ↦ subst (λ (n : ℕ). HeardPeer (most + length piece) n (peer_of n (with_peer conn new peers))) same
          (subst (λ (o : Option Peer). HeardPeer (most + length piece) conn o)
          (sym (peer-here conn peers new (Open hearing) stands))
          (piece-heard cut most conn hearing piece
          (subst (λ (o : Option Peer). HeardPeer most conn o) stands (heard conn))))
      | inr other ↦ subst (λ (o : Option Peer). HeardPeer (most + length piece) k o)
          (sym (peer-there conn k peers new other)) (more-heard most (length piece) k (peer_of k peers) (heard k))
    ]

set-twice : (i : ℕ) (peers : List Peer) (p : Peer) → slice_set (slice_set peers i p) i p ≡ slice_set peers i p
set-twice i [] p = refl
set-twice zero (q ∷ peers) p = refl
set-twice (suc i) (q ∷ peers) p = ap (λ (ps : List Peer). q ∷ ps) (set-twice i peers p)

with-twice : (conn : ℕ) (peers : List Peer) (p : Peer) → with_peer conn p (with_peer conn p peers)
    ≡ with_peer conn p peers
with-twice zero peers p = refl
with-twice (suc i) peers p = set-twice i peers p

-- a connection is ended that may have been ended before
pub ended-at : (conn : ℕ) (old new : List Peer) (p : Peer) → peer_of conn old ≡ Some p
    → (new ≡ old) ⊎ (new ≡ with_peer conn EndedPeer old)
    → slice_set new (conn - 1) EndedPeer ≡ with_peer conn EndedPeer old
ended-at conn old new p stands (inl same) = ap (λ (ps : List Peer). slice_set ps (conn - 1) EndedPeer) same
    ∙ peer-set conn old p EndedPeer stands
ended-at conn old new p stands (inr set) =
    ap (λ (ps : List Peer). slice_set ps (conn - 1) EndedPeer) set
    ∙ peer-set conn (with_peer conn EndedPeer old) EndedPeer EndedPeer (peer-here conn old EndedPeer p stands)
    ∙ with-twice conn old EndedPeer

pub still-there : (conn : ℕ) (old new : List Peer) (p : Peer) → peer_of conn old ≡ Some p
    → (new ≡ old) ⊎ (new ≡ with_peer conn EndedPeer old) → (q : Peer) × (peer_of conn new ≡ Some q)
still-there conn old new p stands (inl same) = (p, ap (λ (ps : List Peer). peer_of conn ps) same ∙ stands)
still-there conn old new p stands (inr set) =
    (EndedPeer, ap (λ (ps : List Peer). peer_of conn ps) set ∙ peer-here conn old EndedPeer p stands)

pub all-heard-ended : (most conn : ℕ) (peers : List Peer) (p : Peer) → peer_of conn peers ≡ Some p → AllHeard most peers
    → AllHeard most (with_peer conn EndedPeer peers)
all-heard-ended most conn peers p stands heard k =
    elim (cases_eq conn k) [
      | inl same ↦ subst (λ (n : ℕ). HeardPeer most n (peer_of n (with_peer conn EndedPeer peers))) same
          (subst (λ (o : Option Peer). HeardPeer most conn o) (sym (peer-here conn peers EndedPeer p stands)) tt)
      | inr other ↦ subst (λ (o : Option Peer). HeardPeer most k o) (sym (peer-there conn k peers EndedPeer other))
          (heard k)
    ]

fresh-heard : (most conn : ℕ) → HeardPeer most conn (Some (Open (nothing_heard conn)))
unfolding hear hear_in
fresh-heard most conn = ([], record { told = refl; stands = refl }, omega arith)

pushed-heard : (most k c i : ℕ) (peers : List Peer) → (i ≡ length peers → c ≡ k) → HeardPeer most k (slice_get peers i)
    → HeardPeer most k (slice_get (peers ++ Open (nothing_heard c) ∷ []) i)
pushed-heard most k c zero [] same heard =
    subst (λ (n : ℕ). HeardPeer most k (Some (Open (nothing_heard n)))) (sym (same refl)) (fresh-heard most k)
pushed-heard most k c (suc i) [] same heard = tt
pushed-heard most k c zero (p ∷ peers) same heard = heard
pushed-heard most k c (suc i) (p ∷ peers) same heard = pushed-heard most k c i peers (λ e. same (ap suc e)) heard

pub all-heard-pushed : (most conn : ℕ) (peers : List Peer) → conn ≡ length peers + 1 → AllHeard most peers
    → AllHeard most (peers ++ Open (nothing_heard conn) ∷ [])
all-heard-pushed most conn peers is heard zero = tt
all-heard-pushed most conn peers is heard (suc i) =
    pushed-heard most (suc i) conn i peers (λ e. omega (arith, e, is)) (heard (suc i))

has-within : (n most conn : ℕ) (peer : Option Peer) → n ≤ most → HeardPeer n conn peer → HeardPeer most conn peer
has-within n most conn None le heard = tt
has-within n most conn (Some (Open hearing)) le heard = let within =
    heard.2 in (heard.0, heard.1, omega (arith, within, le))
has-within n most conn (Some EndedPeer) le heard = tt

pub all-within : (n most : ℕ) (peers : List Peer) → n ≤ most → AllHeard n peers → AllHeard most peers
all-within n most peers le heard conn = has-within n most conn (peer_of conn peers) le (heard conn)

pub none-heard : (n : ℕ) (peers : List Peer) → peers ≡ [] → AllHeard n peers
none-heard n peers none zero = tt
none-heard n peers none (suc i) = subst (λ (ps : List Peer). HeardPeer n (suc i) (slice_get ps i)) (sym none) tt

-- the connection that heard a piece is there
pub heard-there : (old mid : Running) (conn : ℕ) (bytes : List ℕ) (as' : List Act) → Hears conn bytes old as' mid
    → IsSome (peer_of conn mid.peers)
heard-there old mid conn bytes as' hears =
    let leaves = (on hears.hearing bytes).leaves in
    some-is (peer_of conn mid.peers) (Open leaves)
    (ap (λ (r : Running). peer_of conn r.peers) hears.left
    ∙ peer-here conn old.peers (Open leaves) (Open hears.hearing) hears.stood)

-- after acts, one of which may have found the history full
pub all-heard-behind : (most conn : ℕ) (found : Option ℕ) (peers : List Peer) → IsSome (peer_of conn peers)
    → AllHeard most peers → AllHeard most (peers_behind found conn peers)
all-heard-behind most conn None peers some heard = heard
all-heard-behind most conn (Some count) peers some heard =
    let there = some-there (peer_of conn peers) some in
    all-heard-ended most conn peers there.0 there.1 heard

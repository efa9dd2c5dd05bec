-- Acts that are answered one after the other, over any gate, to whatever takes the answers.
use Rattle.std.specs.Prelude.{◌≡◌, ℕ, true, false, List, [], ◌∷◌, ◌++◌, ◌⊎◌, length, Ok}
use Rattle.acct_calls.specs.declared.calls.Call.{Call}
use Rattle.acct_machine.specs.State.{Start}
use Rattle.acct_machine.specs.declared.entry.Entry.{Entry}
use Rattle.rpc_session.specs.declared.sessions.Act.{Act}
use Rattle.rpc_session.specs.declared.sessions.Act.TheVariants as act
use Rattle.rpc_session.specs.declared.sessions.Request.{Request}
use Rattle.acct_links.specs.Links.{Told, Sends, SendsFront, FaultsAre}
use Rattle.link_sessions.specs.declared.ends.Stop.{Stop}
use Rattle.link_sessions.specs.declared.ends.Stop.TheVariants as stop
use Rattle.link_sessions.specs.Answering.{AnswersBy, BeginsRequest, FindsFull}
use Rattle.link_sessions.specs.Transcript.{call_on, busy_bytes}

-- An act has these bytes as its answer: a request as the history that its turn found has it, and any other its own, by
-- which nothing happens.
abbrev pub AnswersAct : Start → ℕ → (List Entry → Type 0) → List Entry → List Entry → Act → List ℕ → Type 0
AnswersAct start k finds known left (act.Answered given) bytes = (left ≡ known) × (bytes ≡ given)
AnswersAct start k finds known left (act.Call asked) bytes =
    AnswersBy start k finds known left asked (length asked.stub) (call_on asked.face asked.opnum asked.stub) bytes
AnswersAct start k finds known left (act.Closed place cause given) bytes = (left ≡ known) × (bytes ≡ given)

-- One act was answered on a connection that the gate serves, and its answer was taken.
pub record TakesAct {V U : Type 0} (takes : V → List ℕ → V → Type 0) (start : U → Start) (known : U → List Entry)
    (finds : U → List Entry → Type 0) (serves : U → ℕ → Type 0) (k : ℕ) (x : Act) (t : V) (g : U) (t' : V) (g' : U)
    : Type 0 where
  pub served : serves g k
  pub same : start g' ≡ start g
  pub bytes : List ℕ
  pub answers : AnswersAct (start g) k (finds g) (known g) (known g') x bytes
  pub taken : takes t bytes t'

-- one act was, and then what comes later was done
pub record TakesThen {V U : Type 0} (takes : V → List ℕ → V → Type 0) (start : U → Start) (known : U → List Entry)
    (finds : U → List Entry → Type 0) (serves : U → ℕ → Type 0) (k : ℕ) (x : Act) (t : V) (g : U)
    (later : V → U → Type 0) : Type 0 where
  pub mid : V
  pub there : U
  pub one : TakesAct takes start known finds serves k x t g mid there
  pub others : later mid there

-- acts were, one after the other
abbrev pub TakesActs : {V U : Type 0} → (V → List ℕ → V → Type 0) → (U → Start) → (U → List Entry)
    → (U → List Entry → Type 0) → (U → ℕ → Type 0) → ℕ → List Act → V → U → V → U → Type 0
TakesActs takes start known finds serves k [] t g t' g' = (t' ≡ t) × (g' ≡ g)
TakesActs takes start known finds serves k (x ∷ xs) t g t' g' =
    TakesThen takes start known finds serves k x t g
    (λ mid there. TakesActs takes start known finds serves k xs mid there t' g')

-- an act has an answer, which wasn't taken
pub record FailsAct {V : Type 0} (fails : V → List ℕ → V → Type 0) (start : Start) (finds : List Entry → Type 0)
    (known left : List Entry) (k : ℕ) (x : Act) (t t' : V) : Type 0 where
  pub bytes : List ℕ
  pub answers : AnswersAct start k finds known left x bytes
  pub failed : fails t bytes t'

-- where memory ran out: a request was begun
abbrev pub BeginsAct : Start → ℕ → (List Entry → Type 0) → List Entry → List Entry → Act → Type 0
BeginsAct start k finds known left (act.Call asked) =
    BeginsRequest start k finds known left (length asked.stub) (call_on asked.face asked.opnum asked.stub)
BeginsAct start k finds known left _ = ⊥

-- a request is a call that found the history full, and that the server is too busy was taken, or wasn't
pub record FullRequest {V : Type 0} (takes fails : V → List ℕ → V → Type 0) (start : Start)
    (finds : List Entry → Type 0) (left : List Entry) (n : ℕ) (asked : Request) (t t' : V) : Type 0 where
  pub call : Call
  pub decoded : call_on asked.face asked.opnum asked.stub ≡ Ok call
  pub full : FindsFull start finds left (length asked.stub) n
  pub told : takes t (busy_bytes asked) t' ⊎ fails t (busy_bytes asked) t'

abbrev pub FullAct : {V : Type 0} → (V → List ℕ → V → Type 0) → (V → List ℕ → V → Type 0) → Start
    → (List Entry → Type 0) → List Entry → ℕ → Act → V → V → Type 0
FullAct takes fails start finds left n (act.Call asked) t t' = FullRequest takes fails start finds left n asked t t'
FullAct takes fails start finds left n _ t t' = ⊥

-- how an act wasn't answered
abbrev pub HaltsAct : {V U : Type 0} → (V → List ℕ → V → Type 0) → (V → List ℕ → V → Type 0) → (U → Start)
    → (U → List Entry) → (U → List Entry → Type 0) → ℕ → Act → V → U → V → U → Stop → Type 0
HaltsAct takes fails start known finds k x t g t' g' stop.WriteFault =
    FailsAct fails (start g) (finds g) (known g) (known g') k x t t'
HaltsAct takes fails start known finds k x t g t' g' stop.NoMemory =
    BeginsAct (start g) k (finds g) (known g) (known g') x × (t' ≡ t)
HaltsAct takes fails start known finds k x t g t' g' (stop.Full n) =
    FullAct takes fails (start g) (finds g) (known g') n x t t'

-- Acts were answered up to one that wasn't.
pub record HaltsActs {V U : Type 0} (takes fails : V → List ℕ → V → Type 0) (start : U → Start)
    (known : U → List Entry) (finds : U → List Entry → Type 0) (serves : U → ℕ → Type 0) (k : ℕ) (acts : List Act)
    (t : V) (g : U) (t' : V) (g' : U) (why : Stop) : Type 0 where
  pub done : List Act
  pub begun : Act
  pub others : List Act
  pub splits : acts ≡ done ++ begun ∷ others
  pub mid : V
  pub there : U
  pub answered : TakesActs takes start known finds serves k done t g mid there
  pub served : serves there k
  pub halts : HaltsAct takes fails start known finds k begun mid there t' g' why

-- ---- a link

-- an answer was written whole, and no call of the link failed
pub record IsSent (old new : Told) (bytes : List ℕ) : Type 0 where
  pub sends : Sends old new bytes
  pub faults : FaultsAre false false old new

-- a prefix of an answer was written, and then a write failed, the one call of the link that did
pub record IsSentInPart (old new : Told) (bytes : List ℕ) : Type 0 where
  pub front : SendsFront old new bytes
  pub faults : FaultsAre false true old new

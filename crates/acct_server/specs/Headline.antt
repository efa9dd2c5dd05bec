-- The headline: of a connection what came and what was sent, and of the history in which its calls stand that it is
-- legal, where access is denied in it, and what is stored after it.
use Rattle.std.specs.Prelude.{◌≡◌, ℕ, List, ◌++◌, Option}
use Rattle.acct_calls.specs.declared.calls.Call.{Call}
use Rattle.acct_config.specs.declared.config.Config.{Config}
use Rattle.acct_keeper.specs.declared.pairs.Pair.{Pair}
use Rattle.acct_machine.specs.Legal.{Legal, replies, calls_of}
use Rattle.acct_machine.specs.State.{Start}
use Rattle.acct_machine.specs.Step.{state_at}
use Rattle.acct_machine.specs.Outbox.{HoldsRows}
use Rattle.acct_machine.specs.declared.entry.Entry.{Entry}
use Rattle.rpc_session.specs.Sessions.{acts, listed}
use Rattle.rpc_session.specs.declared.sessions.Act.{Act}
use Rattle.link_sessions.specs.Transcript.{transcript, busy, decoded_calls}
use Rattle.door_workers.specs.Services.{HasGone}
use Rattle.acct_server.specs.Begun.{IsBegun, DeniesExactlyIn}

-- How far the acts of the bytes that came on a connection were answered: all of them; up to a call that found the
-- history full, which is answered that the server is too busy; the same, but that the write of this answer failed; or
-- up to one at which a write failed, or memory ran out.
pub data Extent : Type 0 where
  ToTheEnd : Extent
  UntilFull : Extent
  UntilFullCut : Extent
  UntilLost : Extent

-- these bytes are the first of those
abbrev pub Begin : List ℕ → List ℕ → Type 0
Begin these those = (rest : List ℕ) × (those ≡ these ++ rest)

-- All that came was answered: what was sent is the transcript of its acts, with the replies of the connection's calls
-- in the history. These calls are the decoded calls of the acts, each once, in their order.
pub record AnswersAll (start : Start) (history : List Entry) (k : ℕ) (came sent : List ℕ) : Type 0 where
  pub transcribed : sent ≡ transcript (acts k came) (replies start k history)
  pub calls : calls_of k history ≡ decoded_calls (acts k came)

-- A call found the history full: after the transcript, which stops there, the server is too busy. The calls from that
-- one on stand outside the history.
pub record AnswersUntilFull (start : Start) (history : List Entry) (k : ℕ) (came sent : List ℕ) : Type 0 where
  pub transcribed : sent ≡ busy (acts k came) (replies start k history)
  pub outside : List (Call × ℕ)
  pub calls : decoded_calls (acts k came) ≡ calls_of k history ++ outside

-- The same, and only the beginning of the last answer was sent.
pub record AnswersUntilFullCut (start : Start) (history : List Entry) (k : ℕ) (came sent : List ℕ) : Type 0 where
  pub transcribed : Begin (transcript (acts k came) (replies start k history)) sent
  pub begun : Begin sent (busy (acts k came) (replies start k history))
  pub outside : List (Call × ℕ)
  pub calls : decoded_calls (acts k came) ≡ calls_of k history ++ outside

-- A write failed, or memory ran out: the first of the acts were answered, each whole but perhaps the last. The
-- connection's calls are the decoded calls of these acts.
pub record AnswersUntilLost (start : Start) (history : List Entry) (k : ℕ) (came sent : List ℕ) : Type 0 where
  pub whole : List Act
  pub last : Option Act
  pub others : List Act
  pub splits : acts k came ≡ whole ++ (listed last ++ others)
  pub transcribed : Begin (transcript whole (replies start k history)) sent
  pub begun : Begin sent (transcript (whole ++ listed last) (replies start k history))
  pub calls : calls_of k history ≡ decoded_calls (whole ++ listed last)

abbrev pub AnswersBy : Extent → Start → List Entry → ℕ → List ℕ → List ℕ → Type 0
AnswersBy ToTheEnd start history k came sent = AnswersAll start history k came sent
AnswersBy UntilFull start history k came sent = AnswersUntilFull start history k came sent
AnswersBy UntilFullCut start history k came sent = AnswersUntilFullCut start history k came sent
AnswersBy UntilLost start history k came sent = AnswersUntilLost start history k came sent

-- The headline, of connection k in a history that began there and over a keeper that held these pairs before and holds
-- those now. `Happened` says what the outside has seen of the connection: how far it was answered, which bytes came on
-- it in all, however they were cut, and which were sent.
pub record Headline (config : Config) (held now : Option (List Pair)) (faults : ℕ) (start : Start)
    (history : List Entry) (k : ℕ) (Happened : Extent → List ℕ → List ℕ → Type 0) : Type 0 where
  -- what came on the connection, what was sent on it, and how far it was answered
  pub extent : Extent
  pub came : List ℕ
  pub sent : List ℕ
  pub happened : Happened extent came sent
  -- what was sent is the transcript of what came, with the replies of the connection's calls in the one history, which
  -- has each decoded call once, in order, and the connection's end
  pub answered : AnswersBy extent start history k came sent
  pub gone : HasGone k history
  -- the history begins with the rows whose pairs the keeper held, or the seed rows where it held none, and is legal
  pub begun : IsBegun config held faults start
  pub legal : Legal start history
  -- access is denied there exactly where the recorded grant of a handle, or the check of an opening, lacks a bit
  pub denied : DeniesExactlyIn start history
  -- the keeper holds the pairs of the rows after the history
  pub stored : HoldsRows now (state_at start history).rows

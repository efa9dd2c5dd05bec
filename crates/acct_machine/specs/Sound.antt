-- Which states are sound: their rows are, their connections are numbered, and each handle stands for an object that is
-- there and has what its connection was given.
use Rattle.std.specs.Prelude.{◌≡◌, ◌≢◌, ℕ, ◌+◌, ◌^◌, ◌≤◌, ◌<◌, true, bit_and, List, [], ◌∷◌, length, ⊤, All, AllPairs}
use Rattle.acct_codes.specs.Rights.{valid_rights}
use Rattle.acct_config.specs.declared.config.Config.{Config}
use Rattle.acct_config.specs.Spelled.{IsRightConfig}
use Rattle.acct_rows.specs.Rows.{exists}
use Rattle.acct_tables.specs.Keys.{kind_of}
use Rattle.acct_rows.specs.Sound.{IsSoundRows}
use Rattle.acct_machine.specs.declared.state.Conn.{Conn}
use Rattle.acct_machine.specs.declared.state.Held.{Held}
use Rattle.acct_machine.specs.declared.entry.Entry.{Entry}
use Rattle.acct_machine.specs.State.{State, Start, is_live, last_serial}
use Rattle.acct_machine.specs.Step.{state_at}
use Rattle.acct_machine.specs.Legal.{Legal}

-- the connections have the numbers from this one on, in order, each once
abbrev pub IsNumberedFrom : ℕ → List Conn → Type 0
IsNumberedFrom n [] = ⊤
IsNumberedFrom n (c ∷ cs) = (c.number ≡ n) × IsNumberedFrom (n + 1) cs

-- The configuration is the one where the history began. The connections are numbered from 1, each at one of its
-- listeners, and are fewer than 2^32.
pub record AreConnected (config : Config) (s : State) : Type 0 where
  pub configuration : s.config ≡ config
  pub numbered : IsNumberedFrom 1 s.conns
  pub configured : All (λ (c : Conn). c.listener < length config.listeners) s.conns
  pub few : length s.conns < 2 ^ 32

-- A handle's connection is live and gave it its serial, its object is there, and its grant lies within the valid rights
-- to it.
pub record IsHeldSoundly (s : State) (held : Held) : Type 0 where
  pub live : is_live held.conn s.conns ≡ true
  pub from_one : 1 ≤ held.serial
  pub given : held.serial ≤ last_serial held.conn s.conns
  pub there : exists s.rows held.object ≡ true
  pub valid : bit_and held.granted (valid_rights (kind_of held.object)) ≡ held.granted

-- two handles aren't the same
abbrev pub AreApart : Held → Held → Type 0
AreApart h g = h.conn ≡ g.conn → h.serial ≢ g.serial

pub record IsSound (config : Config) (s : State) : Type 0 where
  pub connected : AreConnected config s
  pub rows : IsSoundRows s.rows
  pub held : All (IsHeldSoundly s) s.handles
  pub distinct : AllPairs AreApart s.handles

-- the connections of a legal history are in order
abbrev pub KeepsConnected : Type 0
KeepsConnected =
    (start : Start) (history : List Entry) → Legal start history → AreConnected start.config (state_at start history)

-- under a right configuration every state of a legal history that begins with sound rows is sound
abbrev pub KeepsSound : Type 0
KeepsSound =
    (start : Start) (history : List Entry) → IsRightConfig start.config → IsSoundRows start.rows → Legal start history
    → IsSound start.config (state_at start history)

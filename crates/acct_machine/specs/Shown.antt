-- What a machine shows, and what its parts must keep.
use Rattle.std.specs.Prelude.{◌≡◌, ℕ, ◌+◌, ◌≤◌, List, [], ◌∷◌, Option, if◌then◌else◌}
use Rattle.acct_config.specs.declared.config.Config.{Config}
use Rattle.acct_config.specs.Spelled.{IsRightConfig}
use Rattle.acct_keeper.specs.declared.pairs.Pair.{Pair}
use Rattle.acct_rows.specs.Rows.{Lists}
use Rattle.acct_rows.specs.Sound.{IsSoundRows}
use Rattle.acct_machine.specs.declared.entry.Entry.{Entry}
use Rattle.acct_machine.specs.declared.state.Conn.{Conn}
use Rattle.acct_machine.specs.State.{State, Start}
use Rattle.acct_machine.specs.Step.{state_at}
use Rattle.acct_machine.specs.Legal.{call_count, stub_bytes, hooked_count, most_entries, Legal}
use Rattle.acct_machine.specs.Sound.{IsNumberedFrom}

-- where a history began, and the history
pub record Past : Type 0 where
  pub start : Start
  pub history : List Entry

-- the pairs that a keeper holds, where it tells them, and its count of faults
pub record Keeping : Type 0 where
  pub held : Option (List Pair)
  pub faults : ℕ

-- what happened, and what the keeper tells
pub record Shown : Type 0 where
  pub past : Past
  pub keeper : Keeping

-- where a history began whose state has this configuration, with those rows and that count of faults
abbrev pub begins : State → Lists → ℕ → Start
begins s rows faults = record { config = s.config; rows = rows; faults = faults }

-- how many connections are live
abbrev pub live_count : List Conn → ℕ
live_count [] = 0
live_count (c ∷ cs) = (if c.live then 1 else 0) + live_count cs

-- The history began rightly and is legal, and the store is the state after it. Its calls and the bytes of their stubs
-- are counted, and there is room for all that it may come to have.
pub record IsKept (start : Start) (history : List Entry) (s : State) (calls bytes capacity : ℕ) : Type 0 where
  pub right : IsRightConfig start.config
  pub rows : IsSoundRows start.rows
  pub legal : Legal start history
  pub state : state_at start history ≡ s
  pub calls_are : call_count history ≡ calls
  pub bytes_are : stub_bytes history ≡ bytes
  pub room : most_entries start.config.limits + hooked_count history ≤ capacity

-- The configuration is right, the connections are numbered in order, and there is room for as many as it says.
pub record HasRoom (config : Config) (conns : List Conn) (capacity : ℕ) : Type 0 where
  pub right : IsRightConfig config
  pub numbered : IsNumberedFrom 1 conns
  pub room : config.limits.max_conns ≤ capacity

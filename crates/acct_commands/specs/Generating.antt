-- The replay of the generated events: what is written of it, and the five counts that are told.
use Rattle.std.specs.Prelude.{ℕ, Bool, true, false, List, [], ◌∷◌, ◌++◌, length, codes, Option, Some, None, ◌≡◌, ◌≢◌}
use Rattle.std.specs.Prelude.{◌≤◌, take}
use Rattle.std.specs.Fmt.{decimal}
use Rattle.std.specs.Io.KnownBytes.{Appends}
use Rattle.std.specs.List.{filter}
use Rattle.acct_config.specs.Rules.{first_broken}
use Rattle.acct_codes.specs.declared.kind.Kind.{Kind}
use Rattle.acct_codes.specs.declared.kind.Kind.TheVariants.{Alias, User}
use Rattle.acct_keeper.specs.Faults.{Rose}
use Rattle.acct_keeper.specs.Memory.{SteadyInMemory}
use Rattle.acct_keeper.specs.declared.memory_streams.SteadySink.{SteadySink}
use Rattle.acct_keeper.specs.declared.pairs.Pair.{Pair}
use Rattle.acct_rows.specs.Rows.{Lists, alias_members_of, domain_at, find_name, Shown}
use Rattle.acct_tables.specs.Selected.{same_kind}
use Rattle.acct_tables.specs.Keys.{account_domain}
use Rattle.acct_tables.specs.declared.row.AccountRow.{AccountRow}
use Rattle.acct_tables.specs.declared.row.DomainRow.{DomainRow}
use Rattle.acct_machine.specs.Legal.{call_count}
use Rattle.acct_machine.specs.State.{Start}
use Rattle.acct_machine.specs.declared.entry.Entry.{Entry}
use Rattle.acct_machine.specs.declared.entry.Entry.TheVariants.{Opened, Called, Gone, Hooked}
use Rattle.acct_server.specs.Replaying.{TellingReplay, Parts, IsReplay, lists_in}
use Rattle.acct_server.specs.declared.replays.Replayed.{Replayed}
use Rattle.acct_server.specs.declared.status.Status.{Status}
use Rattle.acct_server.specs.declared.status.Status.TheVariants.{Done, WriteFault, NoMemory, HistoryFull, InputTooLong}
use Rattle.acct_server.specs.declared.status.Status.TheVariants.{EventLine}
use Rattle.acct_server.specs.Leaves.{spelled}
use Rattle.acct_server.specs.Replayed.{listener_from, replayed}
use Rattle.acct_commands.specs.Generated.{generated, line}
use Rattle.acct_commands.specs.declared.generating.Generation.{Generation}

-- ======== what is printed of a history and of rows: five lines, each with a number that is counted there

-- a word, a space (32), a number and LF (10)
unfoldable pub count_line : List ℕ → ℕ → List ℕ
count_line word count = word ++ 32 ∷ decimal count ++ 10 ∷ []

abbrev pub is_call : Entry → Bool
is_call (Opened conn listener) = false
is_call (Called conn call verdict bytes) = true
is_call (Gone conn) = false
is_call (Hooked number) = false

abbrev pub is_of_kind : Kind → AccountRow → Bool
is_of_kind kind account = same_kind kind account.kind

-- the accounts of a kind, of all domains
abbrev pub kind_count : Kind → Lists → ℕ
kind_count kind rows = length (filter (is_of_kind kind) rows.accounts)

abbrev pub members_in : Lists → Option AccountRow → ℕ
members_in rows None = 0
members_in rows (Some alias) = length (alias_members_of rows account_domain alias.rid)

-- the members of the alias `site` of the account domain
abbrev pub member_count : Lists → ℕ
member_count rows = members_in rows (find_name rows account_domain (codes "site"))

abbrev pub next_rid_in : Option DomainRow → ℕ
next_rid_in None = 0
next_rid_in (Some domain) = domain.next_rid

-- the next RID of the account domain
abbrev pub next_rid : Lists → ℕ
next_rid rows = next_rid_in (domain_at rows account_domain)

unfoldable pub summary : List Entry → Lists → List ℕ
summary history rows =
    count_line (codes "calls") (call_count history)
    ++ count_line (codes "users") (kind_count User rows)
    ++ count_line (codes "aliases") (kind_count Alias rows)
    ++ count_line (codes "members") (member_count rows)
    ++ count_line (codes "next") (next_rid rows)

-- ======== the command `gen N`: a replay of the generated events, and what is written of what it left

-- the configuration under which the events are replayed: one domain, and one listener whose clients are administrators
unfoldable pub configuration : List ℕ
configuration =
    line (codes "[domain]")
    ++ line (codes "name = \"CORP\"")
    ++ line (codes "sid = \"S-1-5-21-1-2-3\"")
    ++ line (codes "[[listener]]")
    ++ line (codes "name = \"a\"")
    ++ line (codes "address = \"tcp:127.0.0.1:4045\"")
    ++ line (codes "token = [\"S-1-5-21-1-2-3-500\", \"S-1-1-0\", \"S-1-5-32-544\"]")

-- It breaks no rule, and the listener of the generated events is its first.
pub record ConfigurationIsTaken : Type 0 where
  pub kept_all : first_broken configuration ≡ None
  pub listener : listener_from 0 (codes "a") (spelled configuration).listeners ≡ Some 0

-- Each of the lines is accepted, from whatever rows and with whatever verdicts they are replayed, where there is a
-- listener of this name: no replay ends at one of them.
abbrev pub AreAccepted : List ℕ → Type 0
AreAccepted lines =
    (start : Start) (history : List Entry) (place : ℕ)
    → listener_from 0 (codes "a") start.config.listeners ≡ Some place
    → (n : ℕ) → (replayed start lines history).status ≢ EventLine n

-- a source that has these bytes
abbrev pub source : List ℕ → SteadyInMemory
source bytes = record { left = bytes; ended = false }

-- Sources, a sink and a keeper in memory that never fail; the sink tells nothing.
abbrev pub steady : TellingReplay SteadyInMemory SteadySink (List Pair)
steady = record {
  left = λ s. Some s.left;
  read_faults = λ s. 0;
  held = λ s. None;
  write_faults = λ s. 0;
  pairs = λ pairs. Some pairs;
  store_faults = λ pairs. 0;
}

-- How a replay of the generated events may end: it is run to its end, memory runs out, the history is full, or there are
-- more bytes than a source may have. The configuration is taken and each line accepted, and no source, sink or keeper
-- fails.
abbrev pub IsOfGenerated : Status → Type 0
IsOfGenerated Done = Unit {0}
IsOfGenerated NoMemory = Unit {0}
IsOfGenerated (HistoryFull count) = Unit {0}
IsOfGenerated InputTooLong = Unit {0}
IsOfGenerated _ = ⊥

-- A replay of the generated events, over such parts and a keeper that holds no pair, left this.
pub record LeftByReplay (users : ℕ) (left : Replayed (List Pair)) : Type 0 where
  pub out : SteadySink
  pub after : Parts SteadyInMemory SteadySink (List Pair)
  pub keeper : after.keeper ≡ left.keeper
  pub replayed : IsReplay steady
      (record { config = source configuration; events = source (generated users); out = out; keeper = [] }) after left
  pub possible : IsOfGenerated left.status

-- How the writing of a text ended: it was written; or the sink's count rose, and a prefix of it was written; or memory
-- ran out, and none of it was written.
abbrev pub IsWritten : List ℕ → Option (List ℕ) → Option (List ℕ) → ℕ → ℕ → Status → Type 0
IsWritten text held now before after Done = Appends held now text
IsWritten text held now before after WriteFault = ((n : ℕ) × Appends held now (take n text)) × Rose before after
IsWritten text held now before after NoMemory = now ≡ held
IsWritten text held now before after _ = ⊥

-- There are rows, and the summary of a history and of these was written.
pub record IsSummarized (history : List Entry) (left : Option Shown) (held now : Option (List ℕ)) (before after : ℕ)
    (ended : Status) : Type 0 where
  pub rows : Lists
  pub there : lists_in left ≡ Some rows
  pub written : IsWritten (summary history rows) held now before after ended

-- What a replay left, with this status, was told to a sink: its summary, if it was run to its end; else nothing, and
-- the status stands.
pub record Tells (status : Status) (history : List Entry) (rows : Option Shown) (held now : Option (List ℕ))
    (before after : ℕ) (ended : Status) : Type 0 where
  pub done : status ≡ Done → IsSummarized history rows held now before after ended
  pub others : status ≢ Done → (ended ≡ status) × (now ≡ held)
  pub later : before ≤ after

-- The events of so many users were replayed, and what that left was told to a sink. So the command ends as the replay,
-- or where that was run to its end as the writing.
pub record IsGeneration (users : ℕ) (held now : Option (List ℕ)) (before after : ℕ) (done : Generation) : Type 0 where
  pub left : Replayed (List Pair)
  pub replayed : LeftByReplay users left
  pub tells : Tells left.status left.history left.rows held now before after done.ended
  pub opening : done.opening ≡ left.opening
  pub history : done.history ≡ left.history
  pub rows : done.rows ≡ left.rows

-- The exit code of a status, its word, and whether a message follows.
use Rattle.std.specs.Prelude.{ℕ, Bool, true, false, List, codes}
use Rattle.acct_server.specs.declared.status.Status.{Status}
use Rattle.acct_server.specs.declared.status.Status.TheVariants.{Done, NoMemory, Usage, Config, ReadFault, WriteFault}
use Rattle.acct_server.specs.declared.status.Status.TheVariants.{StoreFault, StoredPair, EventLine, DoorFault}
use Rattle.acct_server.specs.declared.status.Status.TheVariants.{HistoryFull, PeerBytes, PeerFault, InputTooLong}
use Rattle.acct_server.specs.declared.status.Status.TheVariants.{Refused, HookHeld, HookStore, SpawnFault}

abbrev pub code_of : Status → ℕ
code_of Done = 0
code_of NoMemory = 1
code_of Usage = 2
code_of (Config rule) = 3
code_of ReadFault = 4
code_of WriteFault = 5
code_of StoreFault = 6
code_of (StoredPair key) = 7
code_of (EventLine line) = 8
code_of DoorFault = 9
code_of (HistoryFull count) = 10
code_of (PeerBytes place) = 11
code_of PeerFault = 12
code_of InputTooLong = 13
code_of (Refused number) = 14
code_of (HookHeld number) = 15
code_of (HookStore count) = 16
code_of SpawnFault = 17

abbrev pub word_of : Status → List ℕ
word_of Done = codes "done"
word_of NoMemory = codes "memory"
word_of Usage = codes "usage"
word_of (Config rule) = codes "config"
word_of ReadFault = codes "read"
word_of WriteFault = codes "write"
word_of StoreFault = codes "store"
word_of (StoredPair key) = codes "pair"
word_of (EventLine line) = codes "event"
word_of DoorFault = codes "door"
word_of (HistoryFull count) = codes "full"
word_of (PeerBytes place) = codes "peer"
word_of PeerFault = codes "link"
word_of InputTooLong = codes "long"
word_of (Refused number) = codes "refused"
word_of (HookHeld number) = codes "hook"
word_of (HookStore count) = codes "outbox"
word_of SpawnFault = codes "spawner"

-- a message says what happened, with what the status carries; of the others the world tells more, or there is no more
abbrev pub has_message : Status → Bool
has_message Done = false
has_message NoMemory = false
has_message Usage = false
has_message (Config rule) = true
has_message ReadFault = true
has_message WriteFault = true
has_message StoreFault = true
has_message (StoredPair key) = true
has_message (EventLine line) = true
has_message DoorFault = false
has_message (HistoryFull count) = true
has_message (PeerBytes place) = false
has_message PeerFault = false
has_message InputTooLong = true
has_message (Refused number) = false
has_message (HookHeld number) = false
has_message (HookStore count) = true
has_message SpawnFault = false

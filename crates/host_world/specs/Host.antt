-- What a source, a keeper and a link of the real world tell, how many accounts a keeper's pairs have, what answers over
-- a link by its first bytes, and what the real world keeps of what went wrong.
use Rattle.std.specs.Prelude.{ℕ, List, ◌∷◌, [], Bool, true, false, codes, Option, Some, None, nat_eq, if◌then◌else◌}
use Rattle.std.specs.Prelude.{option_map, is_some, slice_get, length, ◌==◌, ◌&&◌}
use Rattle.std.specs.List.{starts_with, filter, filter_map}
use Rattle.std.specs.Str.{bytes_eq}
use Rattle.std.specs.declared.io.Error.{Error}
use Rattle.host_world.specs.declared.opened.Opened.{Opened}
use Rattle.host_world.specs.declared.opened.Opened.TheVariants.{Standard, Disk}
use Rattle.host_world.specs.declared.channel.Channel.{Channel}
use Rattle.host_world.specs.declared.channel.Channel.TheVariants.{Tcp, Unix}
use Rattle.acct_keeper.specs.declared.pairs.Pair.{Pair}
use Rattle.acct_keeper.specs.declared.pairs.Change.{Change}
use Rattle.host_world.specs.declared.host_keeper.HostKeeper.{HostKeeper}
use Rattle.host_world.specs.declared.host_keeper.HostKeeper.TheVariants.{Memory, File}
use Rattle.host_world.specs.declared.stranger.Stranger.{Stranger}
use Rattle.host_world.specs.declared.stranger.Stranger.TheVariants.{Http, Ssh, Tls, Other}
use Rattle.host_world.specs.declared.trouble.Trouble.{Trouble}
use Rattle.host_world.specs.declared.trouble.Trouble.TheVariants.{Ended}
use Rattle.host_world.specs.declared.unread.Unread.{Unread}
use Rattle.host_world.specs.declared.unread.Unread.TheVariants.{Input, Named}
use Rattle.host_doors.specs.declared.doors.HostDoor.{HostDoor}
use Rattle.host_doors.specs.declared.troubles.DoorTrouble.{DoorTrouble}
use Rattle.host_doors.specs.declared.troubles.DoorTrouble.TheVariants.{NotAccepted}

-- the standard input tells what its reader tells; a file doesn't tell what it has left
abbrev pub left_of : {I : Type 0} → (I → Option (List ℕ)) → Opened I → Option (List ℕ)
left_of tells (Standard input) = tells input
left_of tells (Disk file) = None

-- a keeper in memory tells its pairs, and one in a file doesn't
abbrev pub held_by : HostKeeper → Option (List Pair)
held_by (Memory pairs) = Some pairs
held_by (File faults) = None

-- how many of its calls have failed: none of one in memory
abbrev pub faults_of : HostKeeper → ℕ
faults_of (Memory pairs) = 0
faults_of (File faults) = faults

-- the key of an account begins with `a`
abbrev pub is_account_key : List ℕ → Bool
is_account_key [] = false
is_account_key (letter ∷ rest) = letter == 97

abbrev pub is_account : Pair → Bool
is_account pair = is_account_key pair.key

abbrev pub puts_account : Change → Bool
puts_account change = is_some change.value && is_account_key change.key

-- how many pairs are of accounts, and how many changes put one
abbrev pub accounts_in : List Pair → ℕ
accounts_in pairs = length (filter is_account pairs)

abbrev pub accounts_put : List Change → ℕ
accounts_put changes = length (filter puts_account changes)

-- the bytes begin as an answer by HTTP, a banner of SSH or an alert of TLS
abbrev pub stranger_of : List ℕ → Stranger
stranger_of front = if starts_with nat_eq front (codes "HTTP/") then Http else
    (if starts_with nat_eq front (codes "SSH-") then Ssh else
    (if starts_with nat_eq front (21 ∷ 3 ∷ []) then Tls else Other))

abbrev pub is_known : Stranger → Bool
is_known Other = false
is_known _ = true

-- whether an address is of a socket's path, or of a host and a port, and whether a channel goes over a Unix socket
abbrev pub has_path : List ℕ → Bool
has_path address = starts_with nat_eq address (codes "unix:")

abbrev pub has_place : List ℕ → Bool
has_place address = starts_with nat_eq address (codes "tcp:")

abbrev pub is_unix : {S : Type 0} → Channel S → Bool
is_unix (Tcp stream) = false
is_unix (Unix stream) = true

-- what went wrong with a link: what it kept, or else that it ended
abbrev pub trouble_of : Bool → Option Trouble → Option Trouble
trouble_of true None = Some Ended
trouble_of _ trouble = trouble

-- what went wrong at a door, and at the first of some doors at which something did
abbrev pub trouble_at : {R T S : Type 0} → HostDoor R T S → Option DoorTrouble
trouble_at door = option_map (λ error. NotAccepted error) door.trouble

abbrev pub first_trouble : {R T S : Type 0} → List (HostDoor R T S) → Option DoorTrouble
first_trouble doors = slice_get (filter_map trouble_at doors) 0

-- why the source of a name wasn't read: the name `-` is the standard input's
abbrev pub unread_of : List ℕ → Error → Unread
unread_of name error = if bytes_eq name (codes "-") then Input error else Named error

-- and what the world keeps of that once a source was given back: what went wrong with it, or else what it kept before
abbrev pub unread_after : List ℕ → Option Error → Option Unread → Option Unread
unread_after name None kept = kept
unread_after name (Some error) kept = Some (unread_of name error)

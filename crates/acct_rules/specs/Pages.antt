-- Pages of an enumeration, and their entries.
use Rattle.std.specs.Prelude.{ℕ, ◌-◌, Bool, true, false, ◌||◌, nat_le, nat_lt, min, List, [], ◌∷◌, length}
use Rattle.std.specs.Prelude.{if◌then◌else◌, ◌+◌, ◌*◌}
use Rattle.acct_codes.specs.Limits.{most_page, page_entry_cost}
use Rattle.acct_codes.specs.Statuses.{status_success, status_more_entries}
use Rattle.acct_calls.specs.declared.lists.RidName.{RidName}
use Rattle.acct_rules.specs.declared.pages.PageRoom.{PageRoom}

-- ======== pages of an enumeration (MS-SAMR 3.1.5.2, MS-LSAD 3.1.4.5.2): as many entries as are preferred, one at least

-- the entries from the first on whose costs sum up to so much at most
abbrev pub within : {A : Type 0} → (A → ℕ) → ℕ → List A → List A
within cost left [] = []
within cost left (x ∷ xs) = if nat_le (cost x) left then x ∷ within cost (left - cost x) xs else []

-- the first, whatever it costs, and after it those that keep the sum of costs within so much
abbrev pub first_within : {A : Type 0} → (A → ℕ) → ℕ → List A → List A
first_within cost most [] = []
first_within cost most (x ∷ xs) = x ∷ within cost (most - cost x) xs

-- A page of the entries that are left: the first, whatever it costs, and after it those that keep the sum of costs
-- within the preferred length.
abbrev pub page : {A : Type 0} → (A → ℕ) → ℕ → List A → List A
page cost preferred xs = first_within cost (min preferred most_page) xs

-- some of the entries that were left are left after a page
abbrev pub leaves_some : {A : Type 0} → List A → List A → Bool
leaves_some given left = nat_lt (length given) (length left)

-- the status of a page: some entries are left after it, or none
abbrev pub page_status : Bool → ℕ
page_status more = if more then status_more_entries else status_success

-- ---- a page that is filled entry by entry

-- the room of a page without an entry
abbrev pub preferred_room : ℕ → PageRoom
preferred_room preferred = record { is_empty = true; left = min preferred most_page }

-- there is room for an entry of this cost
abbrev pub has_room : ℕ → PageRoom → Bool
has_room cost room = room.is_empty || nat_le cost room.left

-- the room that is left after it
abbrev pub room_behind : ℕ → PageRoom → PageRoom
room_behind cost room = if has_room cost room then record { is_empty = false; left = room.left - cost } else room

-- the entries, from the first on, for which there is room
abbrev pub given_in : {A : Type 0} → (A → ℕ) → PageRoom → List A → List A
given_in cost room xs = if room.is_empty then first_within cost room.left xs else within cost room.left xs

-- ======== the entries of a page that are names with numbers: what they cost, and the last one's number, after which
-- the next page goes on

abbrev pub entry : ℕ → List ℕ → RidName
entry rid name = record { rid = rid; name = name }

-- an entry costs its name's bytes, and some more
abbrev pub name_cost : List ℕ → ℕ
name_cost name = page_entry_cost + 2 * length name

abbrev pub entry_cost : RidName → ℕ
entry_cost entry = name_cost entry.name

-- the number of the last entry that was given; where none was, the one before
abbrev pub last_rid : ℕ → List RidName → ℕ
last_rid before [] = before
last_rid before (entry ∷ entries) = last_rid entry.rid entries

-- What links and doors of the system show: counts of their faults, how many links a door still gives, and which link it
-- keeps for later.
use Rattle.std.specs.Prelude.{ℕ, ◌+◌, ◌-◌, ◌^◌, ◌==◌, min, Bool, true, false, not, ◌&&◌, Option, Some, None, option_map}
use Rattle.std.specs.Prelude.{if◌then◌else◌, is_none, Result, Ok, Err}
use Rattle.acct_keeper.specs.Faults.{one_more}
use Rattle.acct_keeper.specs.declared.streams.Failed.{Failed as CallFailed}
use Rattle.acct_links.specs.Links.{Told}
use Rattle.acct_links.specs.declared.doors.Next.{Next}
use Rattle.acct_links.specs.declared.doors.Next.TheVariants.{Link, Closed, Failed}
use Rattle.host_doors.specs.declared.channels.Channel.{Channel}
use Rattle.host_doors.specs.declared.channels.Channel.TheVariants.{Ended}

-- ---- links

-- nothing of the bytes
abbrev pub told_by : Bool → ℕ → ℕ → Told
told_by ended reads writes = record {
  received = None;
  left = None;
  sent = None;
  ended = ended;
  read_faults = reads;
  write_faults = writes;
}

-- how many bytes were read after a read, a number that stands still at the end of its type
abbrev pub read_after : Result ℕ CallFailed → ℕ → ℕ
read_after (Ok count) before = min (before + count) (2 ^ 64 - 1)
read_after (Err failed) before = before

-- ---- doors

-- how many links a new door gives; none where the number is 0, which stands for any number
abbrev pub left_of : ℕ → Option ℕ
left_of links = if links == 0 then None else Some links

-- no link is left
abbrev pub is_spent : Option ℕ → Bool
is_spent None = false
is_spent (Some left) = left == 0

-- how many are left after an answer: one less where it is a link
abbrev pub left_after : {L : Type 0} → Next L → Option ℕ → Option ℕ
left_after (Link link) left = option_map (λ n. n - 1) left
left_after Closed left = left
left_after Failed left = left

-- whether a connection had ended before it came
abbrev pub is_over : {S : Type 0} → Channel S → Bool
is_over Ended = true
is_over _ = false

-- A link is given back unused: with the number 0, and nothing of it was read or written, to a door that isn't closed
-- and keeps none. It isn't counted among those that the door gave: one more is left, where they are counted.
abbrev pub is_unused : {L : Type 0} → ℕ → Bool → Bool → Option L → Bool
is_unused conn used closed kept = ((conn == 0) && not used) && (not closed && is_none kept)

abbrev pub left_with : Option ℕ → Option ℕ
left_with left = option_map one_more left

-- The link of the door is new.
use Rattle.server_vectors.proofs.tests.doors.meeting.door_of.Goals as goal

pub new-requires : goal.new-requires
new-requires c k d lt =
    let new = c.in_ok-links.ensures k d lt in
    record { received = new.received; sent = new.sent; going = new.going }

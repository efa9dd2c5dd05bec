-- Nothing went wrong at the doors before this one.
use Rattle.std.proofs.Common.{◌≡◌, drop}
use Rattle.std.specs.List.{filter_map}
use Rattle.host_world.specs.Host.{trouble_at}
use Rattle.host_world.proofs.host_entrance.first_trouble.Given as goal

abbrev pub invariant-loop-door : goal.invariant-loop-door
invariant-loop-door g l = filter_map trouble_at l.doors ≡ filter_map trouble_at (drop l.door-index l.doors)

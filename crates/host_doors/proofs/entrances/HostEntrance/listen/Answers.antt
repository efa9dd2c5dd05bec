-- The doors that are given are those that were opened.
use Rattle.std.proofs.Common.{All}
use Rattle.host_doors.specs.Doors.{IsDoor}
use Rattle.host_doors.proofs.Giving.{of-listened}
use Rattle.host_doors.proofs.entrances.HostEntrance.listen.Goals as goal

pub returns-clause-doors : goal.returns-clause-doors
returns-clause-doors g c =
    of-listened (λ doors. All (λ door. IsDoor c.args.listener c.args.links door) doors.items) c.open-opened.result
    c.settle.result c.settle.ensures.doors c.open-opened.ensures.doors

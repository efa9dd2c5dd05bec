-- The entrance of the system opens doors at listeners and takes them back as an `Entrance` must.
use Rattle.std.proofs.Common.{◌≡◌, false}
use Rattle.host_doors.specs.Doors.{IsDoor}
use Rattle.host_doors.proofs.Giving.{each-weaker, untold}
use Rattle.host_doors.proofs.entrances.HostEntranceEntrance.TheImpl.Goals as goal

pub doors-tells : goal.doors-tells
doors-tells g x c = record {
  count = c.ensures.count;
  listener = each-weaker (λ doors. doors.items) (λ door. IsDoor c.args.listener c.args.links door)
      (λ door. door.listener ≡ c.args.listener) (λ door is. is.listener) c.result c.ensures.doors;
  «open» = each-weaker (λ doors. doors.items) (λ door. IsDoor c.args.listener c.args.links door)
      (λ door. door.is_closed ≡ false) (λ door is. is.going) c.result c.ensures.doors;
  unused = each-weaker (λ doors. doors.items) (λ door. IsDoor c.args.listener c.args.links door)
      (λ door. Unit {0}) (λ door is. tt) c.result c.ensures.doors;
  asked = untold (record {
    listener = c.args.listener;
    address = c.args.address.now;
    workers = c.args.workers;
    links = c.args.links;
  }) c.result;
  cause = c.ensures.cause;
  later = c.ensures.later;
  faults = c.ensures.faults;
}

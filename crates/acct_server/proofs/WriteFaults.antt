-- A status of lines that were run through is none of a failed write.
use Rattle.std.proofs.Common.{◌≡◌, false, refl}
use Rattle.acct_server.specs.declared.status.Status.{Status}
use Rattle.acct_server.specs.declared.status.Status.TheVariants as status
use Rattle.acct_server.specs.Leaves.{IsRunThrough, is_write_fault}

pub through-no-fault : (s : Status) → IsRunThrough s → is_write_fault s ≡ false
through-no-fault status.Done through = refl
through-no-fault (status.EventLine n) through = refl
through-no-fault (status.HistoryFull n) through = refl
through-no-fault status.NoMemory through = absurd through
through-no-fault status.Usage through = absurd through
through-no-fault (status.Config n) through = absurd through
through-no-fault status.ReadFault through = absurd through
through-no-fault status.WriteFault through = absurd through
through-no-fault status.StoreFault through = absurd through
through-no-fault (status.StoredPair key) through = absurd through
through-no-fault status.DoorFault through = absurd through
through-no-fault (status.PeerBytes n) through = absurd through
through-no-fault status.PeerFault through = absurd through
through-no-fault status.InputTooLong through = absurd through
through-no-fault (status.Refused n) through = absurd through
through-no-fault (status.HookHeld n) through = absurd through
through-no-fault (status.HookStore n) through = absurd through
through-no-fault status.SpawnFault through = absurd through

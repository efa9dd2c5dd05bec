-- What comes of a listener that isn't opened, what to do about it, and whether the socket of a door is
-- lost, by the system's reason.
use Rattle.std.specs.Prelude.{ℤ, pos, Bool, true, false, ◌||◌, Option, Some, None, Result, Ok, Err}
use Rattle.std.specs.Ordering.{int_eq}
use Rattle.std.specs.IoError.{error_kind}
use Rattle.std.specs.declared.io.Error.{Error}
use Rattle.std.specs.declared.io.ErrorKind.{ErrorKind}
use Rattle.std.specs.declared.io.ErrorKind.TheVariants.{AddrInUse, AlreadyExists, NotFound, NotADirectory}
use Rattle.std.specs.declared.io.ErrorKind.TheVariants.{PermissionDenied, AddrNotAvailable, InvalidInput}
use Rattle.std.specs.declared.io.ErrorKind.TheVariants.{OutOfMemory, Uncategorized}
use Rattle.acct_keeper.specs.declared.keeper.KeepError.{KeepError}
use Rattle.acct_keeper.specs.declared.keeper.KeepError.TheVariants.{Failed, NoMemory as KeepsNoMemory}
use Rattle.host_doors.specs.declared.troubles.ListenError.{ListenError}
use Rattle.host_doors.specs.declared.troubles.ListenError.TheVariants.{Refused, NoMemory}
use Rattle.host_doors.specs.declared.troubles.Advice.{Advice}
use Rattle.host_doors.specs.declared.troubles.Advice.TheVariants.{InUse, Occupied, NoFolder, NotAllowed, NotHere}
use Rattle.host_doors.specs.declared.troubles.Advice.TheVariants.{Malformed, UnknownHost, Other}

-- where the system has no memory, memory ran out, and every other error is a refusal
abbrev pub listen_error_of : ErrorKind → ListenError
listen_error_of OutOfMemory = NoMemory
listen_error_of kind = Refused

-- what an entrance answers for it by its trait: a refusal is a fault
abbrev pub keep_error_of : ListenError → KeepError
keep_error_of Refused = Failed
keep_error_of NoMemory = KeepsNoMemory

abbrev pub is_refused : {T : Type 0} → Result T ListenError → Bool
is_refused (Ok doors) = false
is_refused (Err Refused) = true
is_refused (Err NoMemory) = false

-- what comes of opening a listener: its doors beside the address at which they are, or why there are none
abbrev pub listened : {P T : Type 0} → Result (P × T) Error → Result T ListenError
listened (Ok given) = Ok given.1
listened (Err error) = Err (listen_error_of (error_kind error))

-- by the kind of the error, and the system's number of it, which a host's name that isn't found has none of
abbrev pub advice_of : ErrorKind → Option ℤ → Advice
advice_of AddrInUse number = InUse
advice_of AlreadyExists number = Occupied
advice_of NotFound number = NoFolder
advice_of NotADirectory number = NoFolder
advice_of PermissionDenied number = NotAllowed
advice_of AddrNotAvailable number = NotHere
advice_of InvalidInput number = Malformed
advice_of Uncategorized None = UnknownHost
advice_of kind number = Other

-- The socket of a door is lost: it is no open file (EBADF), listens no more (EINVAL), or is no socket (ENOTSOCK). After
-- every other error a connection may come.
abbrev pub is_lost : Option ℤ → Bool
is_lost None = false
is_lost (Some number) = int_eq number (pos 9) || (int_eq number (pos 22) || int_eq number (pos 88))

-- A keeper may go to another thread: so may its connection, since so may the file of the system in its store.
use denote.RattleType.{RattleType}
use denote.Param.Send.{IsSend, AllSend, view_send, recorded_send, struct_send, sendable}
use denote.Struct.Declared.{fields, shape}
use Rattle.std.proofs.Crossing.{crosses}
use Rattle.std.specs.contracts.option.Option as Option
use Rattle.host_lines.proofs.lines.Lines.TheSendSync as lines
use Rattle.sqlite.proofs.connection.Connection.TheSendSync as connection
use Rattle.sqlite.proofs.FileStore.TheSendSync as store
use Rattle.sqlite.below.sqlite_disk.proofs.modelled.Modelled.TheSendSync as modelled
use Rattle.sqlite.below.sqlite_std_file.specs.contracts.host.Host as Host
use Rattle.sqlite.below.sqlite_std_file.specs.contracts.host.HostCalls.TheImpl as calls
use Rattle.sqlite.below.sqlite_disk.specs.contracts.modelled.Modelled as Modelled
use Rattle.sqlite.below.sqlite_disk.specs.contracts.modelled.ModelledDisk.TheImpl as disk
use Rattle.sqlite.below.sqlite_disk.specs.contracts.start.UnknownStart.TheImpl as unknown
use Rattle.sqlite.below.sqlite_store.specs.contracts.store.FileStoreStore.TheImpl as stores
use Rattle.sqlite.specs.contracts.Unknown as Unknown
use Rattle.keeper_sqlite.specs.contracts.keeper.SqliteKeeper.{the_row}
use Rattle.keeper_sqlite.specs.contracts.keeper.SqliteKeeper.TheInside as inside

host-send : IsSend Host.the_row
host-send = search (crosses, sendable) depth 60 fits 20000

abbrev file : RattleType
file = Modelled.the_row Host.the_row Unknown.the_row calls.ghosts unknown.ghosts

file-send : IsSend file
file-send = modelled.the_send Host.the_row Unknown.the_row calls.ghosts unknown.ghosts host-send

option-send : (T : RattleType) → IsSend T → IsSend (Option.the_field T).row
option-send T s = search sendable depth 12

fields-send : AllSend (fields inside.the_type)
fields-send =
    let on = disk.ghosts Host.the_row Unknown.the_row calls.ghosts disk.no_dict unknown.ghosts disk.no_dict
    disk.no_dict in (
      (search (sendable, crosses) depth 20),
      (
        (search (sendable, crosses) depth 20),
        (
          option-send _ (connection.the_send _ (stores.ghosts file on stores.no_dict) (store.the_send file on file-send)),
          (
            (search (sendable, crosses) depth 40),
            ((search sendable), ((search sendable), (lines.the_field_send, tt))),
          ),
        ),
      ),
    )

inside-send : IsSend inside.the_row
inside-send = recorded_send _ _ _ (inside.the_type).to_one (struct_send (shape inside.the_type) fields-send)

pub keeper-send : IsSend the_row
keeper-send = view_send _ _ _ _ _ inside-send

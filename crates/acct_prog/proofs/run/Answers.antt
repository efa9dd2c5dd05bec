-- The program over the real world: its keeper may go to another thread, with the board that it shares with the doors.
use denote.Param.Send.{sendable}
use Rattle.std.proofs.Crossing.{crosses}
use Rattle.host_doors.proofs.boards.Board.TheSendSync as board
use Rattle.keeper_sqlite.proofs.Sends.{keeper-send}
use Rattle.acct_prog.proofs.run.Goals as goal

pub account-status-requires-send-W-K : goal.account-status-requires-send-W-K
account-status-requires-send-W-K g c κs within =
    search (keeper-send, board.the_send, board.the_sync, crosses, sendable) depth 40

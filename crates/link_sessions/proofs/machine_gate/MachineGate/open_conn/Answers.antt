-- A connection that was just opened is in no entry before, so it has made no call.
use Rattle.link_sessions.proofs.Opening.{silent-opened}
use Rattle.link_sessions.proofs.machine_gate.MachineGate.open_conn.Goals as goal

pub returns-clause-silent : goal.returns-clause-silent
returns-clause-silent g c =
    silent-opened c.others_change_nothing.ensures c.args.self.now.past c.open_conn.new.self.past c.open_conn.result
    c.open_conn.ensures.fresh c.open_conn.ensures.calls

-- A connection with another serial keeps its number, so that they are numbered from 1 on as before.
use Rattle.std.proofs.Common.{List, sym, subst, arith}
use Rattle.acct_machine.specs.declared.state.Conn.{Conn}
use Rattle.acct_machine.specs.Sound.{IsNumberedFrom}
use Rattle.acct_machine.proofs.Conns.{numbered-set}
use Rattle.acct_machine.proofs.store.Store.open.Goals as goal

pub invariant_of-self-2 : goal.invariant_of-self-2
invariant_of-self-2 g c = record {
  right = c.self.invariant.right;
  numbered = subst (λ (cs : List Conn). IsNumberedFrom 1 cs) (sym c.set_serial.ensures.items)
      (numbered-set 1 c.args.conn c.args.serial c.self.inside.conns.items c.self.invariant.numbered);
  room = omega (arith, c.self.invariant.room, c.set_serial.ensures.capacity);
}

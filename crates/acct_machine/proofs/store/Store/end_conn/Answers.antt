-- A connection that ends keeps its number, so that they are numbered from 1 on as before, and their room stays.
use Rattle.std.proofs.Common.{List, sym, subst, arith}
use Rattle.acct_machine.specs.declared.state.Conn.{Conn}
use Rattle.acct_machine.specs.Sound.{IsNumberedFrom}
use Rattle.acct_machine.proofs.Conns.{numbered-ended}
use Rattle.acct_machine.proofs.store.Store.end_conn.Goals as goal

pub invariant_of-self : goal.invariant_of-self
invariant_of-self c = record {
  right = c.self.invariant.right;
  numbered = subst (λ (cs : List Conn). IsNumberedFrom 1 cs) (sym c.end_live.ensures.items)
      (numbered-ended 1 c.args.conn c.self.inside.conns.items c.self.invariant.numbered);
  room = omega (arith, c.self.invariant.room, c.end_live.ensures.capacity);
}

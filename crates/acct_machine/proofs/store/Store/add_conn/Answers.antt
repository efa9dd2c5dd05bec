-- With one more of the next number, the connections are numbered from 1 on as before, and have no less room.
use Rattle.std.proofs.Common.{◌≡◌, ◌≤◌, ◌+◌, [], ◌∷◌, ◌++◌, length, sym, subst, arith, List}
use Rattle.std.specs.Vec.{vec_capacity}
use Rattle.std.proofs.lemmas.Grind.{common_steps}
use Rattle.acct_machine.specs.declared.state.Conn.{Conn}
use Rattle.acct_machine.specs.Step.{new_conn}
use Rattle.acct_machine.specs.Sound.{IsNumberedFrom}
use Rattle.acct_machine.proofs.Conns.{numbered-push}
use Rattle.acct_machine.proofs.store.Store.add_conn.Goals as goal

pub invariant_of-self : goal.invariant_of-self
invariant_of-self c =
    let more : c.push_reserved.new.self.items ≡ c.self.inside.conns.items ++ new_conn c.args.conn c.args.listener ∷ [] =
    grind (arith, common_steps) in
    let next : c.args.conn ≡ 1 + length c.self.inside.conns.items = grind (arith, common_steps) in
    let grows : vec_capacity c.self.inside.conns ≤ vec_capacity c.push_reserved.new.self =
    grind (arith, common_steps) in
    record {
      right = c.self.invariant.right;
      numbered = subst (λ (cs : List Conn). IsNumberedFrom 1 cs) (sym more)
          (numbered-push 1 (new_conn c.args.conn c.args.listener) c.self.inside.conns.items c.self.invariant.numbered
          next);
      room = omega (arith, c.self.invariant.room, grows);
    }

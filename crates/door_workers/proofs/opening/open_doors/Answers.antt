-- The doors got so far, with those of the listeners left, are those of all, up to the first asking that fails.
use Rattle.std.proofs.Common.{◌≡◌, ◌<◌, ◌∷◌, ◌++◌, [], length, map, replicate, ◌∙◌, ap, subst, arith, get_or, Err}
use Rattle.acct_keeper.specs.Faults.{faults_after}
use Rattle.acct_keeper.specs.Memory.{is_fault}
use Rattle.door_workers.specs.Doors.{asking_of, asked_besides}
use Rattle.door_workers.proofs.Placing.{opens-more, workers-within}
use Rattle.door_workers.proofs.opening.open_doors.Goals as goal

pub loop-listener-preserved : goal.loop-listener-preserved
loop-listener-preserved g c =
    let a = c.args in
    let inv = c.loop-listener.invariant in
    let e = c.ask.ensures in
    let door = g.E.D.Door in
    let asks = g.E.Entrance.asked in
    let n = c.loop-listener.listener-index in
    let item = c.listener-item.result in
    let ls = a.config.now.listeners in
    let old = asks c.loop-listener.entrance in
    let had = c.loop-listener.doors.items in
    let is : item ≡ get_or ls n item =
    c.listener-item.is ∙ ap (λ l. get_or l n item) c.as_slice-listener-items.ensures in
    let lt : n < length ls =
    subst (λ l. n < length l) c.as_slice-listener-items.ensures c.loop-listener-test.true in
    let number = inv.number in
    let most = workers-within ls n item lt c.requires.right.listeners in
    let workers = ap (λ l. l.workers) is in
    let done = c.in-Ok.ensures in
    record {
      number = omega arith;
      opens = opens-more door a.config.now n item (asks a.entrance.now) old (asks c.ask.new.entrance) had
          c.ask.new.doors.items lt inv.opens
          (done.asked ∙ ap (λ m. asked_besides (asking_of m item ∷ []) old) number
          ∙ ap (λ l. asked_besides (asking_of n l ∷ []) old) is)
          (done.listeners ∙ ap (λ m. map door.listener had ++ replicate item.workers m) number
          ∙ ap (λ l. map door.listener had ++ replicate l.workers n) is)
          (e.open inv.opens.doors.going) (e.unused inv.opens.doors.unused);
      few = let count = done.count in let was = inv.few in omega arith;
      within = e.within (length ls) (omega arith) inv.within;
      faults = done.faults ∙ inv.faults;
    }

pub returns-in-Err-clause-faults : goal.returns-in-Err-clause-faults
returns-in-Err-clause-faults g c =
    c.in-Err.ensures.faults
    ∙ ap (λ n. faults_after (is_fault {T = Unit {0}} (Err c.in-Err.e)) n) c.loop-listener.invariant.faults

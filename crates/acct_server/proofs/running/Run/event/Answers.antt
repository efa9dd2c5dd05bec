-- An event does or is refused as its `open` or `end` is; of data no more is heard than the event brings.
use Rattle.std.proofs.Common.{◌≡◌, ◌+◌, ◌≤◌, Err, List, ℕ, length, sym, ap, subst, ◌∙◌, arith}
use Rattle.acct_server.specs.declared.events.Event.{Event}
use Rattle.acct_server.specs.declared.events.Event.TheVariants.{Open, Data, End}
use Rattle.acct_server.specs.Events.{DataFits}
use Rattle.acct_server.proofs.Bytes.{on-ok}
use Rattle.acct_server.proofs.Heard.{all-within}
use Rattle.acct_server.specs.declared.events.LineError.TheVariants.{Refused}
use Rattle.acct_server.proofs.Moves.{nothing-does, event-does, event-refuses}
use Rattle.acct_server.proofs.running.Run.event.Goals as goal

pub returns-in-Nothing-clause-does : goal.returns-in-Nothing-clause-does
returns-in-Nothing-clause-does g c =
    nothing-does c.args.self.now c.args.event c.new.result.items c.in-Nothing.is c.new.ensures.items

pub returns-in-Open-clause-does : goal.returns-in-Open-clause-does
returns-in-Open-clause-does g c =
    let is : c.args.event ≡ Open c.in-Open.conn c.as_slice.result.now =
    c.in-Open.is ∙ ap (λ (name : List ℕ). Open c.in-Open.conn name) (sym c.as_slice.ensures) in
    event-does (λ o. o.output.items) (λ o. o.full) c.args.self.now c.open.new.self c.args.event (Open c.in-Open.conn
    c.as_slice.result.now)
    c.open.result is c.open.ensures.does

pub returns-in-Open-clause-refused : goal.returns-in-Open-clause-refused
returns-in-Open-clause-refused g c =
    let is : c.args.event ≡ Open c.in-Open.conn c.as_slice.result.now =
    c.in-Open.is ∙ ap (λ (name : List ℕ). Open c.in-Open.conn name) (sym c.as_slice.ensures) in
    event-refuses c.args.self.now c.open.new.self c.args.event (Open c.in-Open.conn c.as_slice.result.now)
    (c.open.result ≡ Err Refused) is c.open.ensures.refused

pub returns-in-End-clause-does : goal.returns-in-End-clause-does
returns-in-End-clause-does g c = event-does (λ o. o.output.items) (λ o. o.full) c.args.self.now c.end.new.self
    c.args.event (End c.in-End.conn)
    c.end.result c.in-End.is c.end.ensures.does

pub returns-in-End-clause-refused : goal.returns-in-End-clause-refused
returns-in-End-clause-refused g c =
    event-refuses c.args.self.now c.end.new.self c.args.event (End c.in-End.conn) (c.end.result ≡ Err Refused)
    c.in-End.is c.end.ensures.refused

pub returns-in-Data-clause-hears : goal.returns-in-Data-clause-hears
returns-in-Data-clause-hears g c = λ most more all fits.
    let bytes = c.as_slice-in-Data.result.now in
    let is : c.args.event ≡ Data c.in-Data.conn bytes =
    c.in-Data.is ∙ ap (λ (bs : List ℕ). Data c.in-Data.conn bs) (sym c.as_slice-in-Data.ensures) in
    let within : length bytes ≤ more = subst (λ (e : Event). DataFits more e) is fits in
    on-ok c.data.result
    (λ heard. all-within (most + length bytes) (most + more) c.data.new.self.peers (omega (arith, within)) heard)
    (c.data.ensures.hears most all)

-- Words that an asker is made of spell one command, so `run_client` makes that call, and its answer isn't usage.
use Rattle.std.proofs.Common.{◌≡◌, ◌<◌, ◌∙◌, length, sym, ap, map, drop, get_or, List, ℕ, [], Option, Some, None, arith}
use Rattle.std.proofs.lemmas.List.{drop-map, get_or-map}
use Rattle.std.specs.String.{string_bytes}
use Rattle.acct_commands.specs.Words.{Calling, call_form}
use Rattle.acct_commands.specs.Calling.{Calls}
use Rattle.acct_commands.proofs.Callings.{asks, of_the_one, call-form}
use Rattle.acct_commands.proofs.command.run_client.Goals as goal

clash : (o : Option Calling) (one : Calling) → o ≡ Some one → o ≡ None → ⊥
clash o one some none = let e : Some one ≡ None = sym some ∙ none in absurd cc

pub run_call-requires-after_bounds : goal.run_call-requires-after_bounds
run_call-requires-after_bounds g c = λ lives outlive.
    let a = asks (map string_bytes c.after_two.result.now) c.in-Ok.asker c.in-Ok.ensures.ok in (a.command, a.begins)

pub returns-in-Ok : goal.returns-in-Ok
returns-in-Ok g c =
    let t = g.W.T.Sink in
    let k = g.W.C.Caller in
    let l = g.W.C.L.Link in
    let w = g.W.World in
    let items = c.args.words.now.items in
    let words : List (List ℕ) = map string_bytes items in
    let rest : List (List ℕ) = map string_bytes c.after_two.result.now in
    let a = asks rest c.in-Ok.asker c.in-Ok.ensures.ok in
    let address = c.as_str.result.now in
    let behind : drop 2 words ≡ rest =
    drop-map string_bytes 2 items ∙ ap (λ (xs : List _). map string_bytes xs) (sym c.after_two.ensures) in
    let some : 1 < length items = omega (arith, c.requires.some) in
    let here : get_or words 1 [] ≡ address = get_or-map string_bytes items 1 c.index.result.now [] some
    ∙ ap (λ (word : _). string_bytes word) (sym c.index.ensures) ∙ sym c.as_str.ensures.value in
    let form = call-form words rest address a.command c.requires.call here behind a.is in
    record {
      calls = λ calling is. of_the_one (λ (one : Calling). Calls (record {
        sunk = λ out. record { held = t.held out; faults = t.faults out };
        called = k.called;
        call_faults = k.faults;
        link = l.told;
      }) one (w.seen c.args.world.now) (w.seen c.run_call.new.world) c.run_call.result) (call_form words)
          (record { address = address; command = a.command }) form (c.run_call.ensures.calls a.command a.begins) calling
          is;
      usage = λ is. absurd (c.run_call.ensures.not_usage is);
      none = λ is. absurd (clash (call_form words) _ form is);
      untouched = λ is. absurd (clash (call_form words) _ form is);
    }

-- What a world shows over the command `gen`.
use Rattle.std.proofs.Common.{◌≡◌, ℕ, List, [], Ok, Option, refl, ◌∙◌, ap}
use Rattle.acct_commands.specs.Generating.{IsGeneration}
use Rattle.acct_commands.specs.declared.generating.Generation.{Generation}
use Rattle.acct_server.specs.declared.status.Status.{Status}
use Rattle.acct_world.specs.declared.part.Part.TheVariants as part
use Rattle.acct_world.specs.World.{Seen, TakesSink, GivesSink}
use Rattle.acct_commands.specs.Commanded.{KeepsAny, period_between}
use Rattle.acct_commands.specs.Generates.{HasGenerated}
use Rattle.acct_commands.proofs.Worlds.{asked-ok, keeps-later, keeps-earlier}

pub has-generated : {S T K E D C L P : Type 0} (held : T → Option (List ℕ)) (faults : T → ℕ) (users : ℕ)
    (w0 w1 w2 w3 : Seen S T K E D C L P) (before after : T) (done : Generation) (status : Status) → TakesSink w0 w1
    (Ok before)
    → IsGeneration users (held before) (held after) (faults before) (faults after) done
    → KeepsAny w1 w2 (period_between done.opening done.history done.rows []) done.ended status
    → GivesSink w2 w3 after → HasGenerated held faults users w0 w3 status
has-generated held faults users w0 w1 w2 w3 before after done status takes generation keeps gives =
    let period = period_between done.opening done.history done.rows [] in
    let tells1 : w1.tells ≡ w0.tells = ap (λ (s : Seen _ _ _ _ _ _ _ _). s.tells) takes.others in
    let tells2 : w2.tells ≡ w0.tells = ap (λ (s : Seen _ _ _ _ _ _ _ _). s.tells) keeps.others ∙ tells1 in
    record {
      done = done;
      before = before;
      after = after;
      generation = generation;
      took = λ t. takes.part t;
      gave = λ t. gives.holds (tells2 ∙ t);
      sources = λ name. ap (λ (s : Seen _ _ _ _ _ _ _ _). s.source name) gives.others
          ∙ ap (λ (s : Seen _ _ _ _ _ _ _ _). s.source name) keeps.others
          ∙ ap (λ (s : Seen _ _ _ _ _ _ _ _). s.source name) takes.others;
      keepers = λ name. ap (λ (s : Seen _ _ _ _ _ _ _ _). s.keeper name) gives.others
          ∙ ap (λ (s : Seen _ _ _ _ _ _ _ _). s.keeper name) keeps.others
          ∙ ap (λ (s : Seen _ _ _ _ _ _ _ _). s.keeper name) takes.others;
      entrance = ap (λ (s : Seen _ _ _ _ _ _ _ _). s.entrance) gives.others
          ∙ ap (λ (s : Seen _ _ _ _ _ _ _ _). s.entrance) keeps.others
          ∙ ap (λ (s : Seen _ _ _ _ _ _ _ _). s.entrance) takes.others;
      caller = ap (λ (s : Seen _ _ _ _ _ _ _ _). s.caller) gives.others
          ∙ ap (λ (s : Seen _ _ _ _ _ _ _ _). s.caller) keeps.others
          ∙ ap (λ (s : Seen _ _ _ _ _ _ _ _). s.caller) takes.others;
      spawner = ap (λ (s : Seen _ _ _ _ _ _ _ _). s.spawner) gives.others
          ∙ ap (λ (s : Seen _ _ _ _ _ _ _ _). s.spawner) keeps.others
          ∙ ap (λ (s : Seen _ _ _ _ _ _ _ _). s.spawner) takes.others;
      asked = λ t. ap (λ (s : Seen _ _ _ _ _ _ _ _). s.asked) gives.others
          ∙ ap (λ (s : Seen _ _ _ _ _ _ _ _). s.asked) keeps.others
          ∙ asked-ok part.Sink w0.asked w1.asked before (Ok before) refl (takes.asked t);
      keeps = keeps-later w0 w2 w3 period done.ended status (ap (λ (s : Seen _ _ _ _ _ _ _ _). s.periods) gives.others)
          (keeps-earlier w0 w1 w2 period done.ended status
          (ap (λ (s : Seen _ _ _ _ _ _ _ _). s.periods) takes.others) tells1
          keeps.periods);
    }

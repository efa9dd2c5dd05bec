-- The real world hands out its parts and takes them back as a `World` must.
use Rattle.std.proofs.Common.{◌≡◌, ℕ, ◌≤◌, List, false, [], Option, Some, None, Result, Ok, Err, refl, ap, ◌∙◌, arith}
use Rattle.std.specs.Prelude.{IfOk, IsOk, OnErr}
use Rattle.acct_keeper.specs.declared.pairs.Pair.{Pair}
use Rattle.acct_keeper.specs.Faults.{Rose}
use Rattle.acct_links.specs.declared.callers.TakeError.{TakeError}
use Rattle.acct_links.specs.declared.callers.TakeError.TheVariants.{Failed}
use Rattle.acct_world.specs.World.{Seen, TakesSource, TakesSink, TakesKeeper, TakesEntrance, TakesCaller, KeepsPeriod}
use Rattle.acct_world.specs.World.{GivesSource, GivesEntrance, GivesCaller, GivesSpawner, TakesSpawner}
use Rattle.acct_world.specs.declared.period.Period.{Period}
use Rattle.host_world.specs.Host.{held_by}
use Rattle.host_world.specs.declared.host.HostWorld.{HostWorld}
use Rattle.host_world.proofs.host.HostWorldWorld.TheImpl.Goals as goal

-- what the real world shows: its counts of sources and of keepers that weren't handed out
abbrev real : {S T K E D C L P : Type 0} → ℕ → ℕ → Seen S T K E D C L P
real sources keepers = record {
  tells = false;
  knows = λ name. false;
  source = λ name. None;
  sink = None;
  stores = λ name. false;
  keeper = λ name. None;
  entrance = None;
  doors = [];
  caller = None;
  talked = None;
  spawner = None;
  periods = [];
  asked = [];
  source_faults = sources;
  sink_faults = 0;
  keeper_faults = keepers;
  entrance_faults = 0;
  caller_faults = 0;
  spawner_faults = 0;
}

same : {S T K E D C L P : Type 0} (sources keepers sources_now keepers_now : ℕ) → sources_now ≡ sources
    → keepers_now ≡ keepers
    → real {S = S} {T = T} {K = K} {E = E} {D = D} {C = C} {L = L} {P = P} sources_now keepers_now
    ≡ real sources keepers
same sources keepers sources_now keepers_now same_sources same_keepers =
    ap (λ (n : ℕ). real n keepers_now) same_sources ∙ ap (λ (n : ℕ). real sources n) same_keepers

given : {S T K E D C L P : Type 0} (sources keepers sources_now keepers_now : ℕ) (part : C) (link : Option L)
    → sources_now ≡ sources → keepers_now ≡ keepers
    → GivesCaller {S = S} {T = T} {K = K} {E = E} {D = D} {P = P} (real sources keepers)
    (real sources_now keepers_now) part link
given sources keepers sources_now keepers_now part link same_sources same_keepers = record {
  holds = λ tells. absurd cc;
  talked = λ tells. absurd cc;
  others = same sources keepers sources_now keepers_now same_sources same_keepers;
}

given-doors : {S T K E D C L P : Type 0} (sources keepers sources_now keepers_now : ℕ) (part : E) (doors : List D)
    → sources_now ≡ sources → keepers_now ≡ keepers
    → GivesEntrance {S = S} {T = T} {K = K} {C = C} {L = L} {P = P} (real sources keepers)
    (real sources_now keepers_now) part doors
given-doors sources keepers sources_now keepers_now part doors same_sources same_keepers = record {
  holds = λ tells. absurd cc;
  back = λ tells. absurd cc;
  others = same sources keepers sources_now keepers_now same_sources same_keepers;
}

given-spawner : {S T K E D C L P : Type 0} (sources keepers sources_now keepers_now : ℕ) (part : P)
    → sources_now ≡ sources → keepers_now ≡ keepers
    → GivesSpawner {S = S} {T = T} {K = K} {E = E} {D = D} {C = C} {L = L} (real sources keepers)
    (real sources_now keepers_now) part
given-spawner sources keepers sources_now keepers_now part same_sources same_keepers = record {
  holds = λ tells. absurd cc;
  others = same sources keepers sources_now keepers_now same_sources same_keepers;
}

given-source : {S T K E D C L P : Type 0} (sources keepers sources_now keepers_now : ℕ) (name : List ℕ) (part : S)
    → sources_now ≡ sources → keepers_now ≡ keepers
    → GivesSource {T = T} {K = K} {E = E} {D = D} {C = C} {L = L} {P = P} (real sources keepers)
    (real sources_now keepers_now) name part
given-source sources keepers sources_now keepers_now name part same_sources same_keepers = record {
  holds = λ tells knows. absurd cc;
  sources = λ other differs. refl;
  others = same sources keepers sources_now keepers_now same_sources same_keepers;
}

-- a source, or Failed where the count of its faults rose
taken-source : {S T K E D C L P : Type 0} (sources keepers sources_now keepers_now : ℕ) (name : List ℕ)
    (answer : Result S TakeError) → OnErr answer (Rose sources sources_now) → sources ≤ sources_now
    → keepers_now ≡ keepers
    → TakesSource {T = T} {K = K} {E = E} {D = D} {C = C} {L = L} {P = P} (real sources keepers)
    (real sources_now keepers_now) name answer
taken-source sources keepers sources_now keepers_now name (Ok part) cause later same_keepers = record {
  part = λ tells. absurd cc;
  kept = tt;
  sources = λ other differs. refl;
  others = same sources_now keepers sources_now keepers_now refl same_keepers;
  asked = λ tells. absurd cc;
  cause = λ failed. absurd cc;
  later = later;
}
taken-source sources keepers sources_now keepers_now name (Err e) cause later same_keepers = record {
  part = tt;
  kept = refl;
  sources = λ other differs. refl;
  others = same sources_now keepers sources_now keepers_now refl same_keepers;
  asked = λ tells. absurd cc;
  cause = λ failed. cause;
  later = later;
}

taken-keeper : {S T K E D C L P : Type 0} (pairs : K → Option (List Pair))
    (sources keepers sources_now keepers_now : ℕ) (name : List ℕ) (answer : Result K TakeError)
    → IfOk answer (λ keeper. name ≡ [] → pairs keeper ≡ Some [])
    → (answer ≡ Err Failed → Rose keepers keepers_now) → keepers ≤ keepers_now → sources_now ≡ sources
    → TakesKeeper {S = S} {T = T} {E = E} {D = D} {C = C} {L = L} {P = P} pairs (real sources keepers)
    (real sources_now keepers_now) name answer
taken-keeper pairs sources keepers sources_now keepers_now name (Ok part) empty cause later same_sources = record {
  part = λ tells. absurd cc;
  empty = λ tells. empty;
  kept = tt;
  keepers = λ other differs. refl;
  others = same sources keepers_now sources_now keepers_now same_sources refl;
  asked = λ tells. absurd cc;
  cause = cause;
  later = later;
}
taken-keeper pairs sources keepers sources_now keepers_now name (Err e) empty cause later same_sources = record {
  part = tt;
  empty = tt;
  kept = refl;
  keepers = λ other differs. refl;
  others = same sources keepers_now sources_now keepers_now same_sources refl;
  asked = λ tells. absurd cc;
  cause = cause;
  later = later;
}

taken-sink : {S T K E D C L P : Type 0} (sources keepers sources_now keepers_now : ℕ) (answer : Result T TakeError)
    → IsOk answer → sources_now ≡ sources → keepers_now ≡ keepers
    → TakesSink {S = S} {K = K} {E = E} {D = D} {C = C} {L = L} {P = P} (real sources keepers)
    (real sources_now keepers_now) answer
taken-sink sources keepers sources_now keepers_now (Ok part) given same_sources same_keepers = record {
  part = λ tells. absurd cc;
  kept = tt;
  others = same sources keepers sources_now keepers_now same_sources same_keepers;
  asked = λ tells. absurd cc;
  cause = λ failed. absurd cc;
  later = omega arith;
}
taken-sink sources keepers sources_now keepers_now (Err e) given same_sources same_keepers = absurd cc

taken-spawner : {S T K E D C L P : Type 0} (sources keepers sources_now keepers_now : ℕ) (answer : Result P TakeError)
    → IsOk answer → sources_now ≡ sources → keepers_now ≡ keepers
    → TakesSpawner {S = S} {T = T} {K = K} {E = E} {D = D} {C = C} {L = L} (real sources keepers)
    (real sources_now keepers_now) answer
taken-spawner sources keepers sources_now keepers_now (Ok part) given same_sources same_keepers = record {
  part = λ tells. absurd cc;
  kept = tt;
  others = same sources keepers sources_now keepers_now same_sources same_keepers;
  asked = λ tells. absurd cc;
  cause = λ failed. absurd cc;
  later = omega arith;
}
taken-spawner sources keepers sources_now keepers_now (Err e) given same_sources same_keepers = absurd cc

taken-entrance : {S T K E D C L P : Type 0} (sources keepers sources_now keepers_now : ℕ)
    (answer : Result E TakeError) → IsOk answer → sources_now ≡ sources → keepers_now ≡ keepers
    → TakesEntrance {S = S} {T = T} {K = K} {D = D} {C = C} {L = L} {P = P} (real sources keepers)
    (real sources_now keepers_now) answer
taken-entrance sources keepers sources_now keepers_now (Ok part) given same_sources same_keepers = record {
  part = λ tells. absurd cc;
  kept = tt;
  others = same sources keepers sources_now keepers_now same_sources same_keepers;
  asked = λ tells. absurd cc;
  cause = λ failed. absurd cc;
  later = omega arith;
}
taken-entrance sources keepers sources_now keepers_now (Err e) given same_sources same_keepers = absurd cc

taken-caller : {S T K E D C L P : Type 0} (sources keepers sources_now keepers_now : ℕ)
    (answer : Result C TakeError) → IsOk answer → sources_now ≡ sources → keepers_now ≡ keepers
    → TakesCaller {S = S} {T = T} {K = K} {E = E} {D = D} {L = L} {P = P} (real sources keepers)
    (real sources_now keepers_now) answer
taken-caller sources keepers sources_now keepers_now (Ok part) given same_sources same_keepers = record {
  part = λ tells. absurd cc;
  kept = tt;
  others = same sources keepers sources_now keepers_now same_sources same_keepers;
  asked = λ tells. absurd cc;
  cause = λ failed. absurd cc;
  later = omega arith;
}
taken-caller sources keepers sources_now keepers_now (Err e) given same_sources same_keepers = absurd cc

kept-period : {S T K E D C L P X : Type 0} (sources keepers sources_now keepers_now : ℕ) (period : Period)
    (answer : Result (Unit {0}) X) → IsOk answer → sources_now ≡ sources → keepers_now ≡ keepers
    → KeepsPeriod {S = S} {T = T} {K = K} {E = E} {D = D} {C = C} {L = L} {P = P} (real sources keepers)
    (real sources_now keepers_now) period answer
kept-period sources keepers sources_now keepers_now period (Ok done) given same_sources same_keepers = record {
  kept = λ tells. absurd cc;
  none = tt;
  others = same sources keepers sources_now keepers_now same_sources same_keepers;
}
kept-period sources keepers sources_now keepers_now period (Err e) given same_sources same_keepers = absurd cc

pub take_source-tells : goal.take_source-tells
take_source-tells g x d e c =
    let old = c.args.self.now in
    let new = c.new.self.now in
    record {
      takes = taken-source old.source_faults old.keeper_faults new.source_faults new.keeper_faults c.args.name.now
          c.result c.ensures.cause c.ensures.later (ap (λ (w : HostWorld). w.keeper_faults) c.ensures.kept);
    }

pub take_sink-tells : goal.take_sink-tells
take_sink-tells g x d e c =
    let old = c.args.self.now in
    let new = c.new.self.now in
    record {
      takes = taken-sink old.source_faults old.keeper_faults new.source_faults new.keeper_faults c.result
          c.ensures.given (ap (λ (w : HostWorld). w.source_faults) c.ensures.kept)
          (ap (λ (w : HostWorld). w.keeper_faults) c.ensures.kept);
    }

pub take_spawner-tells : goal.take_spawner-tells
take_spawner-tells g x d e c =
    let old = c.args.self.now in
    let new = c.new.self.now in
    record {
      takes = taken-spawner old.source_faults old.keeper_faults new.source_faults new.keeper_faults c.result
          c.ensures.given (ap (λ (w : HostWorld). w.source_faults) c.ensures.kept)
          (ap (λ (w : HostWorld). w.keeper_faults) c.ensures.kept);
    }

pub take_keeper-tells : goal.take_keeper-tells
take_keeper-tells g x d e c =
    let old = c.args.self.now in
    let new = c.new.self.now in
    record {
      takes = taken-keeper (λ told. held_by told.keeper) old.source_faults old.keeper_faults new.source_faults
          new.keeper_faults c.args.name.now c.result c.ensures.empty c.ensures.cause c.ensures.later
          (ap (λ (w : HostWorld). w.source_faults) c.ensures.kept);
    }

pub take_entrance-tells : goal.take_entrance-tells
take_entrance-tells g x d e c =
    let old = c.args.self.now in
    let new = c.new.self.now in
    record {
      takes = taken-entrance old.source_faults old.keeper_faults new.source_faults new.keeper_faults c.result
          c.ensures.given (ap (λ (w : HostWorld). w.source_faults) c.ensures.kept)
          (ap (λ (w : HostWorld). w.keeper_faults) c.ensures.kept);
    }

pub take_caller-tells : goal.take_caller-tells
take_caller-tells g x d e c =
    let old = c.args.self.now in
    let new = c.new.self.now in
    record {
      takes = taken-caller old.source_faults old.keeper_faults new.source_faults new.keeper_faults c.result
          c.ensures.given (ap (λ (w : HostWorld). w.source_faults) c.ensures.kept)
          (ap (λ (w : HostWorld). w.keeper_faults) c.ensures.kept);
    }

pub keep_period-tells : goal.keep_period-tells
keep_period-tells g x d e c =
    let old = c.args.self.now in
    let new = c.new.self.now in
    record {
      keeps = kept-period old.source_faults old.keeper_faults new.source_faults new.keeper_faults c.args.period
          c.result c.ensures.given (ap (λ (w : HostWorld). w.source_faults) c.ensures.kept)
          (ap (λ (w : HostWorld). w.keeper_faults) c.ensures.kept);
    }

pub give_source-tells : goal.give_source-tells
give_source-tells g x d e c =
    let old = c.args.self.now in
    let new = c.new.self.now in
    record {
      gives = given-source old.source_faults old.keeper_faults new.source_faults new.keeper_faults c.args.name.now
          c.args.part (ap (λ (w : HostWorld). w.source_faults) c.ensures.kept)
          (ap (λ (w : HostWorld). w.keeper_faults) c.ensures.kept);
    }

pub give_entrance-tells : goal.give_entrance-tells
give_entrance-tells g x d e c =
    let old = c.args.self.now in
    let new = c.new.self.now in
    record {
      gives = given-doors old.source_faults old.keeper_faults new.source_faults new.keeper_faults c.args.part
          c.args.doors.items (ap (λ (w : HostWorld). w.source_faults) c.ensures.kept)
          (ap (λ (w : HostWorld). w.keeper_faults) c.ensures.kept);
    }

pub give_caller-tells : goal.give_caller-tells
give_caller-tells g x d e c =
    let old = c.args.self.now in
    let new = c.new.self.now in
    record {
      gives = given old.source_faults old.keeper_faults new.source_faults new.keeper_faults c.args.part c.args.link
          (ap (λ (w : HostWorld). w.source_faults) c.ensures.kept)
          (ap (λ (w : HostWorld). w.keeper_faults) c.ensures.kept);
    }

pub give_spawner-tells : goal.give_spawner-tells
give_spawner-tells g x d e c =
    let old = c.args.self.now in
    let new = c.new.self.now in
    record {
      gives = given-spawner old.source_faults old.keeper_faults new.source_faults new.keeper_faults c.args.part
          (ap (λ (w : HostWorld). w.source_faults) c.ensures.kept)
          (ap (λ (w : HostWorld). w.keeper_faults) c.ensures.kept);
    }

-- What a world shows over the command `serve`: parts that are out are given back, and those that were handed out
-- before.
use Rattle.std.proofs.Common.{◌≡◌, ◌⊎◌, inl, inr, Bool, true, false, List, ◌∷◌, [], ◌++◌, Option, Some, None}
use Rattle.std.proofs.Common.{Ok, Err, refl, sym, ◌∙◌, ap, subst}
use Rattle.std.specs.Prelude.{is_some, IfSome, IsSome, MatchOption, if◌then◌else◌}
use Rattle.std.specs.List.{flat_map}
use Rattle.std.specs.declared.result.Result.{Result}
use Rattle.std.proofs.lemmas.List.{append-nil}
use Rattle.acct_config.specs.declared.config.Config.{Config}
use Rattle.acct_config.specs.declared.config.Hook.{Hook}
use Rattle.acct_keeper.specs.Faults.{Rose}
use Rattle.acct_links.specs.declared.callers.TakeError.{TakeError}
use Rattle.acct_links.specs.declared.callers.TakeError.TheVariants as taken
use Rattle.acct_server.specs.Beside.{ServingBesideIsComplete}
use Rattle.acct_server.specs.Serving.{ServingIsComplete}
use Rattle.acct_server.specs.Leaves.{ConfigCause}
use Rattle.acct_server.specs.declared.status.Status.{Status}
use Rattle.acct_world.specs.declared.part.Part.{Part}
use Rattle.acct_world.specs.declared.part.Part.TheVariants as part
use Rattle.acct_world.specs.declared.period.Period.{Period}
use Rattle.acct_commands.specs.Words.{ServeNames}
use Rattle.acct_world.specs.World.{Seen, Asks, TakesSource, GivesSource, TakesKeeper, GivesKeeper, TakesEntrance}
use Rattle.acct_world.specs.World.{GivesEntrance, TakesSpawner, GivesSpawner}
use Rattle.acct_commands.specs.Commanded.{spawn_status}
use Rattle.acct_commands.specs.Serving.{TellingServe, ServeParts, Spawning, HandsSpawner, HasServed}
use Rattle.acct_commands.specs.Serving.{IsSpelled, SpawnCause, kept_in}
use Rattle.acct_commands.specs.steps.Rounds.{RunsOpened, RunsParts, ReturnsParts}
use Rattle.acct_commands.proofs.Completing.{serving-completes}
use Rattle.acct_commands.proofs.Worlds.{asked-ok, asked-more}

-- ---- what runs programs

none-is : {A : Type 0} (o : Option A) → is_some o ≡ false → o ≡ None
none-is None is = refl
none-is (Some a) is = absurd cc

pub some-is : {A : Type 0} (o : Option A) → is_some o ≡ true → (a : A) × (o ≡ Some a)
some-is None is = absurd cc
some-is (Some a) is = (a, refl)

module _ {S T K E D C L P : Type 0} where
  -- nothing of it has changed since
  spawner-later : (w0 w1 w2 : Seen S T K E D C L P) (spawning : Spawning P) → HandsSpawner w0 w1 spawning
      → w2.spawner ≡ w1.spawner → w2.spawner_faults ≡ w1.spawner_faults → HandsSpawner w0 w2 spawning
  spawner-later w0 w1 w2 spawning hands same count = record {
    took = hands.took;
    gave = subst
        (λ (s : Option P). MatchOption spawning.back (s ≡ w0.spawner) (λ p. w0.tells ≡ true → s ≡ Some p)) (sym same)
        hands.gave;
    faults_before = hands.faults_before;
    faults_after = hands.faults_after ∙ sym count;
  }

  spawner-before : (w0 w1 w2 : Seen S T K E D C L P) (spawning : Spawning P) → HandsSpawner w1 w2 spawning
      → w1.spawner ≡ w0.spawner → w1.spawner_faults ≡ w0.spawner_faults → w1.tells ≡ w0.tells
      → HandsSpawner w0 w2 spawning
  spawner-before w0 w1 w2 spawning hands same count told = record {
    took = λ tells. subst (λ (s : Option P). IfSome spawning.handed (λ p. s ≡ Some p)) same
        (hands.took (told ∙ tells));
    gave = subst
        (λ (b : Bool). MatchOption spawning.back (w2.spawner ≡ w0.spawner) (λ p. b ≡ true → w2.spawner ≡ Some p)) told
        (subst (λ (s : Option P). MatchOption spawning.back (w2.spawner ≡ s) (λ p. w1.tells ≡ true
        → w2.spawner ≡ Some p)) same hands.gave);
    faults_before = hands.faults_before ∙ count;
    faults_after = hands.faults_after;
  }

  -- the configuration has no hook
  pub ran-alone : {F : Type 0} (told : TellingServe S K E D F P) (config : Config) (before after : ServeParts S K E D)
      (back : Option P) (old new : Seen S T K E D C L P) (status : Status) → config.hook ≡ None
      → is_some back ≡ is_some config.hook → IsSpelled told before.config config
      → RunsOpened told config before after None back old new status → RunsParts told before after old new status
  ran-alone told config before after back old new status none handed spelled opened =
      let spawning : Spawning P = record {
        parts = [];
        faults_before = old.spawner_faults;
        faults_after = new.spawner_faults;
        handed = None;
        back = None;
      } in
      let lacks : is_some config.hook ≡ false = ap (λ (h : Option Hook). is_some h) none in
      let others = opened.keeps.others in
      let f : Seen S T K E D C L P → Seen S T K E D C L P = λ x. record old {
        periods = new.periods;
        spawner = x.spawner;
        asked = x.asked;
        spawner_faults = x.spawner_faults;
      } in
      record {
        spawning = spawning;
        rounds = opened.rounds;
        leaves = opened.leaves spawning refl (sym (none-is back (handed ∙ lacks)))
            (record {
              handed = sym lacks;
              asked = ap (λ (b : Bool). if b then part.Spawner ∷ [] else []) (sym lacks);
            }) spelled;
        spawner = record {
          took = λ tells. tt;
          gave = ap (λ (s : Seen _ _ _ _ _ _ _ _). s.spawner) others;
          faults_before = refl;
          faults_after = refl;
        };
        asked = λ tells. ap (λ (s : Seen _ _ _ _ _ _ _ _). s.asked) others ∙ sym (append-nil old.asked);
        periods = opened.keeps.periods;
        others = others ∙ ap f (sym others);
      }

  -- it has one, and what runs programs was handed out and is given back
  pub ran-beside : {F : Type 0} (told : TellingServe S K E D F P) (config : Config)
      (before after : ServeParts S K E D) (spawner back : P) (w0 w1 w2 w3 : Seen S T K E D C L P) (status : Status)
      → IsSome config.hook → TakesSpawner w0 w1 (Ok spawner) → IsSpelled told before.config config
      → RunsOpened told config before after (Some spawner) (Some back) w1 w2 status → GivesSpawner w2 w3 back
      → RunsParts told before after w0 w3 status
  ran-beside told config before after spawner back w0 w1 w2 w3 status some takes spelled opened gives =
      let has : is_some config.hook ≡ true = some in
      let spawning : Spawning P = record {
        parts = part.Spawner ∷ [];
        faults_before = w0.spawner_faults;
        faults_after = w3.spawner_faults;
        handed = Some spawner;
        back = Some back;
      } in
      let keeps = opened.keeps in
      let tells1 : w1.tells ≡ w0.tells = ap (λ (s : Seen _ _ _ _ _ _ _ _). s.tells) takes.others in
      let tells2 : w2.tells ≡ w0.tells = ap (λ (s : Seen _ _ _ _ _ _ _ _). s.tells) keeps.others ∙ tells1 in
      let f : Seen S T K E D C L P → Seen S T K E D C L P = λ x. record x {
        periods = w3.periods;
        spawner = w3.spawner;
        asked = w3.asked;
        spawner_faults = w3.spawner_faults;
      } in
      record {
        spawning = spawning;
        rounds = opened.rounds;
        leaves = opened.leaves spawning refl refl
            (record {
              handed = sym has;
              asked = ap (λ (b : Bool). if b then part.Spawner ∷ [] else []) (sym has);
            }) spelled;
        spawner = record {
          took = λ tells. takes.part tells;
          gave = λ tells. gives.holds (tells2 ∙ tells);
          faults_before = refl;
          faults_after = refl;
        };
        asked = λ tells. ap (λ (s : Seen _ _ _ _ _ _ _ _). s.asked) gives.others
            ∙ ap (λ (s : Seen _ _ _ _ _ _ _ _). s.asked) keeps.others
            ∙ asked-ok part.Spawner w0.asked w1.asked spawner (Ok spawner) refl (takes.asked tells);
        periods = λ tells. ap (λ (s : Seen _ _ _ _ _ _ _ _). s.periods) gives.others
            ∙ keeps.periods (tells1 ∙ tells)
            ∙ ap (λ (ps : List Period). ps ++ flat_map kept_in opened.rounds)
            (ap (λ (s : Seen _ _ _ _ _ _ _ _). s.periods) takes.others);
        others = ap f gives.others ∙ ap f keeps.others ∙ ap f takes.others;
      }

-- ---- it was refused

-- the parts that were asked for, by what the world tells
abbrev Refused : TakeError → List Part → Type 0
Refused e parts = (parts ≡ part.Spawner ∷ []) ⊎ ((parts ≡ []) × (e ≡ taken.NoMemory))

same-error : {P : Type 0} (e f : TakeError) → (let x : Result P TakeError = Err e in x ≡ Err f) → e ≡ f
same-error e f is = cc

by-asks : {P : Type 0} (e : TakeError) (old new : List Part)
    → (let x : Result P TakeError = Err e in Asks part.Spawner old new x)
    → (parts : List Part) × (new ≡ old ++ parts) × Refused e parts
by-asks e old new (inl is) = (part.Spawner ∷ [], is, inl refl)
by-asks e old new (inr is) = ([], is.1 ∙ sym (append-nil old), inr (refl, same-error e taken.NoMemory is.0))

by-telling : {P : Type 0} (tells : Bool) (e : TakeError) (old new : List Part)
    → (tells ≡ true → (let x : Result P TakeError = Err e in Asks part.Spawner old new x))
    → (parts : List Part) × (tells ≡ true → new ≡ old ++ parts) × Refused e parts
by-telling true e old new asks = let by = by-asks e old new (asks refl) in (by.0, (λ is. by.1), by.2)
by-telling false e old new asks = (part.Spawner ∷ [], (λ is. absurd cc), inl refl)

refused-cause : {P : Type 0} (e : TakeError) (spawning : Spawning P) → Refused e spawning.parts
    → (e ≡ taken.Failed → Rose spawning.faults_before spawning.faults_after) → SpawnCause spawning (spawn_status e)
refused-cause taken.Failed spawning (inl is) rose = (rose refl, is)
refused-cause taken.Failed spawning (inr is) rose = let clash : taken.Failed ≡ taken.NoMemory = is.1 in absurd cc
refused-cause taken.NoMemory spawning (inl is) rose = inl is
refused-cause taken.NoMemory spawning (inr is) rose = inr is.0

pub spawner-refused : {S T K E D F C L P : Type 0} (told : TellingServe S K E D F P) (config : Config) (first now : S)
    (keeper : K) (entrance : E) (doors : List D) (w0 w1 : Seen S T K E D C L P) (e : TakeError) (status : Status)
    → doors ≡ [] → status ≡ spawn_status e → IsSome config.hook → TakesSpawner w0 w1 (Err e)
    → IsSpelled told first config
    → RunsParts told (record { config = first; keeper = keeper; entrance = entrance; doors = [] })
    (record { config = now; keeper = keeper; entrance = entrance; doors = doors }) w0 w1 status
spawner-refused {P = P} told config first now keeper entrance doors w0 w1 e status none is some takes spelled =
    let by = by-telling w0.tells e w0.asked w1.asked takes.asked in
    let spawning : Spawning P = record {
      parts = by.0;
      faults_before = w0.spawner_faults;
      faults_after = w1.spawner_faults;
      handed = None;
      back = None;
    } in
    record {
      spawning = spawning;
      rounds = [];
      leaves = inr (inl (record {
        config = config;
        spelled = spelled;
        hook = some;
        cause = subst (λ (s : Status). SpawnCause spawning s) (sym is)
            (refused-cause e spawning by.2
            (λ failed. takes.cause (ap (λ (f : TakeError). let x : Result P TakeError = Err f in x) failed)));
        untouched = record {
          entrance = refl;
          doors = none;
          keeper = refl;
          handed = refl;
          back = refl;
          none = refl;
        };
      }));
      spawner = record {
        took = λ tells. tt;
        gave = takes.kept;
        faults_before = refl;
        faults_after = refl;
      };
      asked = by.1;
      periods = λ tells. ap (λ (s : Seen _ _ _ _ _ _ _ _). s.periods) takes.others ∙ sym (append-nil w0.periods);
      others = takes.others
          ∙ ap (λ (ps : List Period). record w0 {
            periods = ps;
            spawner = w1.spawner;
            asked = w1.asked;
            spawner_faults = w1.spawner_faults;
          }) (sym (ap (λ (s : Seen _ _ _ _ _ _ _ _). s.periods) takes.others));
    }

-- the configuration wasn't read
pub not-configured : {S T K E D F C L P : Type 0} (told : TellingServe S K E D F P) (first now : S) (keeper : K)
    (entrance : E) (doors : List D) (w : Seen S T K E D C L P) (status : Status) → doors ≡ []
    → ConfigCause (told.left first) (told.read_faults first) (told.read_faults now) status
    → RunsParts told (record { config = first; keeper = keeper; entrance = entrance; doors = doors })
    (record { config = now; keeper = keeper; entrance = entrance; doors = doors }) w w status
not-configured told first now keeper entrance doors w status none cause = record {
  spawning = record {
    parts = [];
    faults_before = w.spawner_faults;
    faults_after = w.spawner_faults;
    handed = None;
    back = None;
  };
  rounds = [];
  leaves = inl (record {
    cause = cause;
    untouched = record {
      entrance = refl;
      doors = none;
      keeper = refl;
      handed = refl;
      back = refl;
      none = refl;
    };
    unasked = refl;
  });
  spawner = record { took = λ tells. tt; gave = refl; faults_before = refl; faults_after = refl };
  asked = λ tells. sym (append-nil w.asked);
  periods = λ tells. sym (append-nil w.periods);
  others = refl;
}

-- ---- the world

-- the parts that were out are given back
pub gave-back : {S T K E D F C L P : Type 0} (told : TellingServe S K E D F P) (names : ServeNames)
    (before after : ServeParts S K E D) (w3 w4 w5 w6 w7 : Seen S T K E D C L P) (status : Status)
    → RunsParts told before after w3 w4 status → GivesEntrance w4 w5 after.entrance after.doors
    → GivesKeeper w5 w6 names.store after.keeper → GivesSource w6 w7 names.config after.config
    → ReturnsParts told names before w3 w7 status
gave-back told names before after w3 w4 w5 w6 w7 status runs entrance keeper config =
    let others4 = runs.others in
    let tells4 : w4.tells ≡ w3.tells = ap (λ (s : Seen _ _ _ _ _ _ _ _). s.tells) others4 in
    let tells5 : w5.tells ≡ w3.tells = ap (λ (s : Seen _ _ _ _ _ _ _ _). s.tells) entrance.others ∙ tells4 in
    let tells6 : w6.tells ≡ w3.tells = ap (λ (s : Seen _ _ _ _ _ _ _ _). s.tells) keeper.others ∙ tells5 in
    record {
      after = after;
      spawning = runs.spawning;
      rounds = runs.rounds;
      leaves = runs.leaves;
      gave_config = λ tells knows. config.holds (tells6 ∙ tells)
          (ap (λ (s : Seen _ _ _ _ _ _ _ _). s.knows names.config) keeper.others
          ∙ ap (λ (s : Seen _ _ _ _ _ _ _ _). s.knows names.config) entrance.others
          ∙ ap (λ (s : Seen _ _ _ _ _ _ _ _). s.knows names.config) others4 ∙ knows);
      gave_keeper = λ tells stores. ap (λ (s : Seen _ _ _ _ _ _ _ _). s.keeper names.store) config.others
          ∙ keeper.holds (tells5 ∙ tells) (ap (λ (s : Seen _ _ _ _ _ _ _ _). s.stores names.store) entrance.others
          ∙ ap (λ (s : Seen _ _ _ _ _ _ _ _). s.stores names.store) others4 ∙ stores);
      gave_entrance = λ tells. ap (λ (s : Seen _ _ _ _ _ _ _ _). s.entrance) config.others
          ∙ ap (λ (s : Seen _ _ _ _ _ _ _ _). s.entrance) keeper.others ∙ entrance.holds (tells4 ∙ tells);
      gave_doors = λ tells. ap (λ (s : Seen _ _ _ _ _ _ _ _). s.doors) config.others
          ∙ ap (λ (s : Seen _ _ _ _ _ _ _ _). s.doors) keeper.others ∙ entrance.back (tells4 ∙ tells);
      sources = λ other differ. config.sources other differ
          ∙ ap (λ (s : Seen _ _ _ _ _ _ _ _). s.source other) keeper.others
          ∙ ap (λ (s : Seen _ _ _ _ _ _ _ _). s.source other) entrance.others
          ∙ ap (λ (s : Seen _ _ _ _ _ _ _ _). s.source other) others4;
      keepers = λ other differ. ap (λ (s : Seen _ _ _ _ _ _ _ _). s.keeper other) config.others
          ∙ keeper.keepers other differ ∙ ap (λ (s : Seen _ _ _ _ _ _ _ _). s.keeper other) entrance.others
          ∙ ap (λ (s : Seen _ _ _ _ _ _ _ _). s.keeper other) others4;
      sink = ap (λ (s : Seen _ _ _ _ _ _ _ _). s.sink) config.others
          ∙ ap (λ (s : Seen _ _ _ _ _ _ _ _). s.sink) keeper.others
          ∙ ap (λ (s : Seen _ _ _ _ _ _ _ _). s.sink) entrance.others
          ∙ ap (λ (s : Seen _ _ _ _ _ _ _ _). s.sink) others4;
      caller = ap (λ (s : Seen _ _ _ _ _ _ _ _). s.caller) config.others
          ∙ ap (λ (s : Seen _ _ _ _ _ _ _ _). s.caller) keeper.others
          ∙ ap (λ (s : Seen _ _ _ _ _ _ _ _). s.caller) entrance.others
          ∙ ap (λ (s : Seen _ _ _ _ _ _ _ _). s.caller) others4;
      spawner = spawner-later w3 w4 w7 runs.spawning runs.spawner
          (ap (λ (s : Seen _ _ _ _ _ _ _ _). s.spawner) config.others
          ∙ ap (λ (s : Seen _ _ _ _ _ _ _ _). s.spawner) keeper.others
          ∙ ap (λ (s : Seen _ _ _ _ _ _ _ _). s.spawner) entrance.others)
          (ap (λ (s : Seen _ _ _ _ _ _ _ _). s.spawner_faults) config.others
          ∙ ap (λ (s : Seen _ _ _ _ _ _ _ _). s.spawner_faults) keeper.others
          ∙ ap (λ (s : Seen _ _ _ _ _ _ _ _). s.spawner_faults) entrance.others);
      asked = λ tells. ap (λ (s : Seen _ _ _ _ _ _ _ _). s.asked) config.others
          ∙ ap (λ (s : Seen _ _ _ _ _ _ _ _). s.asked) keeper.others
          ∙ ap (λ (s : Seen _ _ _ _ _ _ _ _). s.asked) entrance.others ∙ runs.asked tells;
      periods = λ tells. ap (λ (s : Seen _ _ _ _ _ _ _ _). s.periods) config.others
          ∙ ap (λ (s : Seen _ _ _ _ _ _ _ _). s.periods) keeper.others
          ∙ ap (λ (s : Seen _ _ _ _ _ _ _ _). s.periods) entrance.others ∙ runs.periods tells;
    }

-- all parts were handed out, and are given back
pub has-served : {S T K E D F C L P : Type 0} (told : TellingServe S K E D F P) (names : ServeNames)
    (w0 w1 w2 w3 w7 : Seen S T K E D C L P) (config : S) (keeper : K) (entrance : E) (status : Status)
    → TakesSource w0 w1 names.config (Ok config) → TakesKeeper told.served.serving.pairs w1 w2 names.store (Ok keeper)
    → TakesEntrance w2 w3 (Ok entrance) → ServingIsComplete told.served.serving
    → ServingBesideIsComplete told.served
    → ReturnsParts told names (record { config = config; keeper = keeper; entrance = entrance; doors = [] }) w3 w7
    status
    → HasServed told names w0 w7 status
has-served told names w0 w1 w2 w3 w7 config keeper entrance status source store door complete beside back =
    let tells1 : w1.tells ≡ w0.tells = ap (λ (s : Seen _ _ _ _ _ _ _ _). s.tells) source.others in
    let tells2 : w2.tells ≡ w0.tells = ap (λ (s : Seen _ _ _ _ _ _ _ _). s.tells) store.others ∙ tells1 in
    let tells3 : w3.tells ≡ w0.tells = ap (λ (s : Seen _ _ _ _ _ _ _ _). s.tells) door.others ∙ tells2 in
    record {
      before = record { config = config; keeper = keeper; entrance = entrance; doors = [] };
      after = back.after;
      spawning = back.spawning;
      rounds = back.rounds;
      leaves = back.leaves;
      complete = λ quiet. serving-completes told
          (record { config = config; keeper = keeper; entrance = entrance; doors = [] }) back.after back.spawning
          back.rounds status complete beside back.leaves quiet;
      took_config = λ tells. (source.part tells).0;
      took_keeper = λ tells. sym (ap (λ (s : Seen _ _ _ _ _ _ _ _). s.keeper names.store) source.others)
          ∙ (store.part (tells1 ∙ tells)).0;
      took_entrance = λ tells. sym (ap (λ (s : Seen _ _ _ _ _ _ _ _). s.entrance) store.others
          ∙ ap (λ (s : Seen _ _ _ _ _ _ _ _). s.entrance) source.others) ∙ door.part (tells2 ∙ tells);
      no_pair = λ silent unnamed. store.empty (tells1 ∙ silent) unnamed;
      gave_config = λ tells. back.gave_config (tells3 ∙ tells)
          (ap (λ (s : Seen _ _ _ _ _ _ _ _). s.knows names.config) door.others
          ∙ ap (λ (s : Seen _ _ _ _ _ _ _ _). s.knows names.config) store.others
          ∙ ap (λ (s : Seen _ _ _ _ _ _ _ _). s.knows names.config) source.others ∙ (source.part tells).1);
      gave_keeper = λ tells. back.gave_keeper (tells3 ∙ tells)
          (ap (λ (s : Seen _ _ _ _ _ _ _ _). s.stores names.store) door.others
          ∙ ap (λ (s : Seen _ _ _ _ _ _ _ _). s.stores names.store) store.others ∙ (store.part (tells1 ∙ tells)).1);
      gave_entrance = λ tells. back.gave_entrance (tells3 ∙ tells);
      gave_doors = λ tells. back.gave_doors (tells3 ∙ tells);
      sources = λ other differ. back.sources other differ
          ∙ ap (λ (s : Seen _ _ _ _ _ _ _ _). s.source other) door.others
          ∙ ap (λ (s : Seen _ _ _ _ _ _ _ _). s.source other) store.others ∙ source.sources other differ;
      keepers = λ other differ. back.keepers other differ
          ∙ ap (λ (s : Seen _ _ _ _ _ _ _ _). s.keeper other) door.others
          ∙ store.keepers other differ ∙ ap (λ (s : Seen _ _ _ _ _ _ _ _). s.keeper other) source.others;
      sink = back.sink ∙ ap (λ (s : Seen _ _ _ _ _ _ _ _). s.sink) door.others
          ∙ ap (λ (s : Seen _ _ _ _ _ _ _ _). s.sink) store.others
          ∙ ap (λ (s : Seen _ _ _ _ _ _ _ _). s.sink) source.others;
      caller = back.caller ∙ ap (λ (s : Seen _ _ _ _ _ _ _ _). s.caller) door.others
          ∙ ap (λ (s : Seen _ _ _ _ _ _ _ _). s.caller) store.others
          ∙ ap (λ (s : Seen _ _ _ _ _ _ _ _). s.caller) source.others;
      spawner = spawner-before w0 w3 w7 back.spawning back.spawner
          (ap (λ (s : Seen _ _ _ _ _ _ _ _). s.spawner) door.others
          ∙ ap (λ (s : Seen _ _ _ _ _ _ _ _). s.spawner) store.others
          ∙ ap (λ (s : Seen _ _ _ _ _ _ _ _). s.spawner) source.others)
          (ap (λ (s : Seen _ _ _ _ _ _ _ _). s.spawner_faults) door.others
          ∙ ap (λ (s : Seen _ _ _ _ _ _ _ _). s.spawner_faults) store.others
          ∙ ap (λ (s : Seen _ _ _ _ _ _ _ _). s.spawner_faults) source.others) tells3;
      asked = λ tells.
          let first = asked-ok (part.Source names.config) w0.asked w1.asked config (Ok config) refl (source.asked tells)
          in
          let second = asked-ok (part.Keeper names.store) w1.asked w2.asked keeper (Ok keeper) refl
          (store.asked (tells1 ∙ tells)) in
          let third = asked-ok part.Entrance w2.asked w3.asked entrance (Ok entrance) refl
          (door.asked (tells2 ∙ tells)) in
          back.asked (tells3 ∙ tells)
          ∙ ap (λ (ps : List Part). ps ++ back.spawning.parts)
          (asked-more w0.asked w2.asked w3.asked (part.Source names.config ∷ part.Keeper names.store ∷ [])
          part.Entrance
          (asked-more w0.asked w1.asked w2.asked (part.Source names.config ∷ []) (part.Keeper names.store) first second)
          third);
      periods = λ tells. back.periods (tells3 ∙ tells)
          ∙ ap (λ (ps : List Period). ps ++ flat_map kept_in back.rounds)
          (ap (λ (s : Seen _ _ _ _ _ _ _ _). s.periods) door.others
          ∙ ap (λ (s : Seen _ _ _ _ _ _ _ _). s.periods) store.others
          ∙ ap (λ (s : Seen _ _ _ _ _ _ _ _). s.periods) source.others);
    }

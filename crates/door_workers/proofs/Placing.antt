-- The askings for the first listeners and for one more, and doors that all have one listener.
use Rattle.std.proofs.Common.{◌≡◌, ℕ, zero, suc, ◌+◌, ◌<◌, ◌≤◌, arith, List, [], ◌∷◌, ◌++◌, length, take, map}
use Rattle.std.proofs.Common.{replicate, All}
use Rattle.std.proofs.Common.{refl, sym, ◌∙◌, ap, get_or, append_assoc, Option, Some, None, Bool, true, false, ◌&&◌}
use Rattle.std.specs.Prelude.{IfSome, nat_le}
use Rattle.std.specs.List.{list_all}
use Rattle.std.proofs.lemmas.Bool.{false≢true}
use Rattle.std.proofs.lemmas.Bool.Decides.{nat_tests}
use Rattle.std.proofs.lemmas.List.{append-nil}
use Rattle.std.proofs.lemmas.List.Concat.{flat_map-append}
use Rattle.std.proofs.lemmas.List.Elements.{All-head, All-tail}
use Rattle.acct_base.specs.Words.{is_within}
use Rattle.acct_config.specs.Spelled.{is_right_listener}
use Rattle.acct_config.specs.declared.config.Config.{Config}
use Rattle.acct_links.specs.declared.doors.Door.{Ghosts}
use Rattle.acct_config.specs.declared.config.Listener.{Listener}
use Rattle.acct_links.specs.declared.asking.Asking.{Asking}
use Rattle.door_workers.specs.Doors.{asking_of, askings_from, askings_of, listeners_for, asked_besides, OpensDoors}

module _ {X Y : Type 0} (f : X → Y) (y : Y) where
  -- elements that have one value
  pub map-same : (xs : List X) → All (λ x. f x ≡ y) xs → map f xs ≡ replicate (length xs) y
  map-same [] each = refl
  map-same (x ∷ xs) each =
      ap (λ (z : Y). z ∷ map f xs) (All-head (λ x. f x ≡ y) x xs each)
      ∙ ap (λ (zs : List Y). y ∷ zs) (map-same xs (All-tail (λ x. f x ≡ y) x xs each))

-- the askings for so many listeners, and for the next
pub askings-next : (number n : ℕ) (ls : List Listener) (d : Listener) → n < length ls
    → take (suc n) (askings_from number ls)
    ≡ take n (askings_from number ls) ++ asking_of (number + n) (get_or ls n d) ∷ []
askings-next number n [] d lt = absurd (omega arith)
askings-next number zero (l ∷ ls) d lt =
    let same : number ≡ number + 0 = omega arith in
    ap (λ (m : ℕ). asking_of m l ∷ []) same
askings-next number (suc n) (l ∷ ls) d lt =
    let same : number + 1 + n ≡ number + suc n = omega arith in
    ap (λ (later : List Asking). asking_of number l ∷ later)
    (askings-next (number + 1) n ls d (omega arith)
    ∙ ap (λ (m : ℕ). take n (askings_from (number + 1) ls) ++ asking_of m (get_or ls n d) ∷ []) same)

listeners-more : (askings : List Asking) (asking : Asking)
    → listeners_for (askings ++ asking ∷ []) ≡ listeners_for askings ++ replicate asking.workers asking.listener
listeners-more askings asking =
    flat_map-append (λ (a : Asking). replicate a.workers a.listener) askings (asking ∷ [])
    ∙ ap (λ (ns : List ℕ). listeners_for askings ++ ns) (append-nil (replicate asking.workers asking.listener))

asked-then : (xs ys : List Asking) (asked : Option (List Asking))
    → asked_besides ys (asked_besides xs asked) ≡ asked_besides (xs ++ ys) asked
asked-then xs ys None = refl
asked-then xs ys (Some before) = ap (λ (l : List Asking). Some l) (append_assoc before xs ys)

-- one more listener was asked for, and gave its doors
pub opens-more : {D L : Type 0} (door : Ghosts D L) (config : Config) (n : ℕ) (d : Listener)
    (before old now : Option (List Asking)) (had given : List D) → n < length config.listeners
    → OpensDoors door config n before old had
    → now ≡ asked_besides (asking_of n (get_or config.listeners n d) ∷ []) old
    → map door.listener given
    ≡ map door.listener had ++ replicate (get_or config.listeners n d).workers n
    → All (λ x. door.closed x ≡ false) given
    → All (λ x. IfSome (door.finished x) (λ links. links ≡ [])) given
    → OpensDoors door config (n + 1) before now given
opens-more door config n d before old now had given lt opens asked listeners going unused =
    let asking : Asking = asking_of n (get_or config.listeners n d) in
    let so_far : List Asking = take n (askings_of config) in
    let next : n + 1 ≡ suc n = omega arith in
    let zero-on : 0 + n ≡ n = omega arith in
    let more : take (n + 1) (askings_of config) ≡ so_far ++ asking ∷ [] =
    ap (λ m. take m (askings_of config)) next ∙ askings-next 0 n config.listeners d lt
    ∙ ap (λ m. so_far ++ asking_of m (get_or config.listeners n d) ∷ []) zero-on in
    record {
      within = omega arith;
      asked = asked
          ∙ ap (λ (o : Option (List Asking)). asked_besides (asking ∷ []) o) opens.asked
          ∙ asked-then so_far (asking ∷ []) before
          ∙ ap (λ (l : List Asking). asked_besides l before) (sym more);
      doors = record {
        listeners = listeners
            ∙ ap (λ (ns : List ℕ). ns ++ replicate asking.workers asking.listener) opens.doors.listeners
            ∙ sym (listeners-more so_far asking)
            ∙ ap (λ (l : List Asking). listeners_for l) (sym more);
        going = going;
        unused = unused;
      };
    }

-- ---- how many workers a listener has

both : (a b : Bool) → (a && b) ≡ true → (a ≡ true) × (b ≡ true)
both true b is = (refl, is)
both false b is = absurd (false≢true is)

workers-of : (l : Listener) → is_right_listener l ≡ true → l.workers ≤ 64
workers-of l right =
    let front = (both _ (is_within 0 4294967295 l.links) right).0 in
    let workers = (both _ (is_within 1 64 l.workers) front).1 in
    let most = (both (nat_le 1 l.workers) (nat_le l.workers 64) workers).1 in
    grind (arith, nat_tests)

pub workers-within : (ls : List Listener) (n : ℕ) (d : Listener) → n < length ls
    → list_all is_right_listener ls ≡ true → (get_or ls n d).workers ≤ 64
workers-within [] n d lt right = absurd (omega arith)
workers-within (l ∷ ls) zero d lt right = workers-of l (both (is_right_listener l) _ right).0
workers-within (l ∷ ls) (suc n) d lt right =
    workers-within ls n d (omega arith) (both (is_right_listener l) _ right).1

-- That turns on one connection, one after another, are such turns: what the laws of a gate over the lock say.
use Rattle.std.proofs.Common.{◌≡◌, ℕ, List, [], ◌++◌, refl, sym, ap, ◌∙◌, subst, append_assoc}
use Rattle.std.proofs.lemmas.List.{append-nil}
use Rattle.hist_lock.specs.declared.view.View.{View}
use Rattle.acct_machine.specs.State.{Start}
use Rattle.acct_machine.specs.declared.entry.Entry.{Entry}
use Rattle.acct_machine.specs.Passing.{KeepsConnection}
use Rattle.link_sessions.specs.Transcript.{IsFrontOf}
use Rattle.door_workers.specs.declared.kept.Begun.{Begun}
use Rattle.door_workers.specs.steps.Passing.{MovesOn}

pub passes-none : (start : Start) (k : ℕ) (h : List Entry) → KeepsConnection start k h h
passes-none start k h = record { calls = refl; replies = refl; live = refl }

pub front-then : (a b c : List Entry) → IsFrontOf a b → IsFrontOf b c → IsFrontOf a c
front-then a b c one two =
    (one.0 ++ two.0, two.1 ∙ ap (λ (l : List Entry). l ++ two.0) one.1 ∙ append_assoc a one.0 two.0)

pub front-same : (h : List Entry) → IsFrontOf h h
front-same h = ([], sym (append-nil h))

pub passes-then : (start : Start) (k : ℕ) (a b c : List Entry) → KeepsConnection start k a b
    → KeepsConnection start k b c → KeepsConnection start k a c
passes-then start k a b c one two = record {
  calls = two.calls ∙ one.calls;
  replies = two.replies ∙ one.replies;
  live = two.live ∙ one.live;
}

pub moves-none : (start : Start) (k : ℕ) (v : View Begun Entry) → MovesOn start k v v
moves-none start k v = record {
  number = refl;
  grows = front-same v.known;
  mine = λ j m. m;
  no_more = λ j m. m;
  others = λ j ne m. passes-none start j v.known;
}

pub moves-then : (start : Start) (k : ℕ) (u v w : View Begun Entry) → MovesOn start k u v → MovesOn start k v w
    → MovesOn start k u w
moves-then start k u v w one two = record {
  number = two.number ∙ one.number;
  grows = front-then u.known v.known w.known one.grows two.grows;
  mine = λ j m. two.mine j (one.mine j m);
  no_more = λ j m. one.no_more j (two.no_more j m);
  others = λ j ne m. passes-then start j u.known v.known w.known (one.others j ne m) (two.others j ne (one.mine j m));
}

pub moves-by : {L : Type 0} (start_of : L → Start) (k : ℕ) (x y : L) (u v w : View Begun Entry) → y ≡ x
    → MovesOn (start_of x) k u v → MovesOn (start_of y) k v w → MovesOn (start_of x) k u w
moves-by start_of k x y u v w same before after =
    moves-then (start_of x) k u v w before (subst (λ l. MovesOn (start_of l) k v w) same after)

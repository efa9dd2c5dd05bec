-- What calls of a gate leave, one after the other.
use Rattle.std.proofs.Common.{◌≡◌, ℕ, List, [], ◌∷◌, ◌++◌, map, refl, sym, ap, ◌∙◌, append_assoc}
use Rattle.std.proofs.Math.Nat.{le_refl, le_trans}
use Rattle.std.proofs.lemmas.List.{append-nil}
use Rattle.acct_machine.specs.declared.entry.Entry.{Entry}
use Rattle.acct_machine.specs.declared.entry.Entry.TheVariants.{Hooked}
use Rattle.acct_machine.specs.Shown.{Shown}
use Rattle.acct_machine.specs.Gates.{Moves, RoseTo}

hooked-then : (a b : List ℕ) → map Hooked (a ++ b) ≡ map Hooked a ++ map Hooked b
hooked-then [] b = refl
hooked-then (n ∷ a) b = ap (λ (es : List Entry). Hooked n ∷ es) (hooked-then a b)

pub still : (m : Shown) → Moves m m
still m = record {
  start = refl;
  more = [];
  entries = sym (append-nil m.past.history);
  later = le_refl m.keeper.faults;
}

pub moved : (a b c : Shown) → Moves a b → Moves b c → Moves a c
moved a b c p q = record {
  start = q.start ∙ p.start;
  more = p.more ++ q.more;
  entries = q.entries ∙ ap (λ (h : List Entry). h ++ map Hooked q.more) p.entries
      ∙ append_assoc a.past.history (map Hooked p.more) (map Hooked q.more)
      ∙ ap (λ (es : List Entry). a.past.history ++ es) (sym (hooked-then p.more q.more));
  later = le_trans p.later q.later;
}

pub rose-since : (a b : Shown) (n : ℕ) → Moves a b → RoseTo b.keeper.faults n → RoseTo a.keeper.faults n
rose-since a b n p f = record {
  count = f.count;
  since = le_trans p.later f.since;
  rose = f.rose;
}

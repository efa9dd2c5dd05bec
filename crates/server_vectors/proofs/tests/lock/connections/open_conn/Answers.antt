-- A pass that owned nothing, and opened the connection, owns its opening alone, and no call.
use Rattle.std.proofs.Common.{◌≡◌, ℕ, ◌<◌, zero, suc, List, [], ◌∷◌, ◌++◌, length, drop, sym, refl, ap, ◌∙◌, subst}
use Rattle.std.proofs.Math.Seq.{drop-append_seam}
use mathlib.Core.Option.{some-injective, some-ne-none}
use Rattle.hist_lock.specs.Histories.{In, Opened, placed}
use Rattle.server_vectors.specs.declared.tests.lock.connections.Entry.{Entry}
use Rattle.server_vectors.specs.declared.tests.lock.connections.Entry.TheVariants as entry
use Rattle.server_vectors.specs.contracts.tests.lock.connections.LogKept.TheImpl.{lane-value}
use Rattle.server_vectors.proofs.tests.lock.connections.open_conn.Goals as goal

module _ (h : List Entry) (conn : ℕ) where
  opening : List (ℕ × Entry)
  opening = (length h, entry.Opened conn) ∷ []

  opened_only : (own own' : List (ℕ × Entry)) (h' : List Entry) → own ≡ [] → own' ≡ own
      ++ placed (length h) (drop (length h) h') → h' ≡ h ++ entry.Opened conn ∷ [] → own'
      ≡ (length h, entry.Opened conn) ∷ []
  opened_only own own' h' none_yet more is = more ∙ ap (λ l. l ++ placed (length h) (drop (length h) h')) none_yet
      ∙ ap (λ l. placed (length h) (drop (length h) l)) is
      ∙ ap (placed (length h)) (drop-append_seam h (entry.Opened conn ∷ []))

  no_call : (p n : ℕ) → In ((length h, entry.Opened conn) ∷ []) p (entry.Called conn n) → n < 0
  no_call p n (zero, at) = let same : entry.Opened conn
      ≡ entry.Called conn n = ap (λ (x : ℕ × Entry). x.1)
      (some-injective (length h, entry.Opened conn) (p, entry.Called conn n) at) in absurd (cc)
  no_call p n (suc k, at) = absurd (some-ne-none (p, entry.Called conn n) (sym at))

pub returns-clause-opened : goal.returns-clause-opened
returns-clause-opened g c did =
    let t = c.turn.ensures.turn in
    subst (λ l. Opened lane-value.it l c.args.conn)
    (sym (opened_only t.before c.args.conn _ _ t.after c.requires.new t.own (t.related did)))
    (length t.before, entry.Opened c.args.conn, (0, refl), refl)

pub returns-clause-numbers : goal.returns-clause-numbers
returns-clause-numbers g c did =
    let t = c.turn.ensures.turn in
    subst (λ l. (p n : ℕ) → In l p (entry.Called c.args.conn n) → n < 0)
    (sym (opened_only t.before c.args.conn _ _ t.after c.requires.new t.own (t.related did)))
    (no_call t.before c.args.conn)

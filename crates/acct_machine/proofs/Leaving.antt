-- What a machine keeps where a row leaves the outbox, and where it can't.
use Rattle.std.proofs.Common.{◌≡◌, ℕ, ◌+◌, ◌≤◌, List, [], ◌∷◌, ◌++◌, length, Some, None}
use Rattle.std.proofs.Common.{refl, sym, ◌∙◌, ap, subst, arith}
use Rattle.std.specs.List.{slice_get}
use Rattle.std.proofs.lemmas.List.{append-nil}
use Rattle.acct_rows.specs.Laws.{RemovedOutsStaySound}
use Rattle.acct_rows.specs.Rows.{Lists, remove_row}
use Rattle.acct_rows.specs.Sound.{IsSoundRows}
use Rattle.acct_tables.specs.declared.row.OutRow.{OutRow}
use Rattle.acct_tables.specs.declared.row.RowKey.TheVariants as keys
use Rattle.acct_machine.specs.declared.entry.Entry.{Entry}
use Rattle.acct_machine.specs.declared.entry.Entry.TheVariants.{Opened, Called, Gone, Hooked}
use Rattle.acct_machine.specs.State.{State, Start, first}
use Rattle.acct_machine.specs.Step.{step, state_at}
use Rattle.acct_machine.specs.Legal.{opened_count, call_count, hooked_count, most_entries, May, calls_of, replies}
use Rattle.acct_machine.specs.Machine.{SameLive, SameCalls}
use Rattle.acct_machine.specs.Outbox.{least_in}
use Rattle.acct_machine.specs.Shown.{IsKept, begins}
use Rattle.acct_machine.proofs.History.{state_after-push, calls_of-append, replies-append}
use Rattle.acct_machine.proofs.Kept.{opened-kept, kept-more}

-- ---- the first row

-- the first row's number
pub least-is : (outs : List OutRow) (o : OutRow) → slice_get outs 0 ≡ Some o → Some o.number ≡ least_in outs
least-is [] o is = cc
least-is (p ∷ outs) o is = let same : p ≡ o = cc in ap (λ (x : OutRow). Some x.number) (sym same)

pub least-none : (outs : List OutRow) → slice_get outs 0 ≡ None → None ≡ least_in outs
least-none [] none = refl
least-none (o ∷ outs) none = absurd cc

-- rows without the first one stay sound
pub first-leaves : RemovedOutsStaySound → (r : Lists) (outs : List OutRow) (number : ℕ) → IsSoundRows r
    → r.outs ≡ outs → least_in outs ≡ Some number → IsSoundRows (remove_row (keys.Out number) r)
first-leaves taken r [] number sound are is = cc
first-leaves taken r (o ∷ others) number sound are is =
    let same : o.number ≡ number = cc in
    subst (λ (n : ℕ). IsSoundRows (remove_row (keys.Out n) r)) same (taken r o others sound are).0.sound

-- ---- room

-- each call, each opening and each row that left has an entry
entries-count : (es : List Entry) → call_count es + opened_count es + hooked_count es ≤ length es
entries-count [] = omega arith
entries-count (Opened conn listener ∷ es) = omega (arith, entries-count es)
entries-count (Called conn call verdict bytes ∷ es) = omega (arith, entries-count es)
entries-count (Gone conn ∷ es) = omega (arith, entries-count es)
entries-count (Hooked number ∷ es) = omega (arith, entries-count es)

-- with room for so many more entries there is room for one that takes a row out, and for all that may come besides
pub kept-roomier : (start : Start) (history : List Entry) (s : State) (calls bytes capacity more larger : ℕ)
    → IsKept start history s calls bytes capacity
    → more + calls + length s.conns ≡ most_entries start.config.limits + 1 → length history + more ≤ larger
    → (small : ℕ) × IsKept start history s calls bytes small × (small + 1 ≤ larger)
kept-roomier start history s calls bytes capacity more larger kept is fits =
    let count = entries-count history in
    let opened = opened-kept start history s calls bytes capacity kept in (
      most_entries start.config.limits + hooked_count history,
      record {
        right = kept.right;
        rows = kept.rows;
        legal = kept.legal;
        state = kept.state;
        calls_are = kept.calls_are;
        bytes_are = kept.bytes_are;
        room = omega arith;
      },
      omega (arith, count, opened, kept.calls_are, is, fits),
    )

-- a machine from whose outbox a row left
pub left-kept : (s new : State) (rows : Lists) (since : ℕ) (history more : List Entry)
    (calls bytes capacity room larger number : ℕ)
    → IsKept (begins s rows since) history s calls bytes capacity → least_in s.rows.outs ≡ Some number
    → new ≡ step s (Hooked number) → more ≡ history ++ Hooked number ∷ []
    → room + calls + length s.conns ≡ most_entries s.config.limits + 1 → length history + room ≤ larger
    → IsKept (begins new rows since) more new calls bytes larger
left-kept s new rows since history more calls bytes capacity room larger number kept least is longer rooms fits =
    let roomier = kept-roomier (begins s rows since) history s calls bytes capacity room larger kept rooms fits in
    let may : May (begins s rows since) history (Hooked number) =
    subst (λ (x : State). least_in x.rows.outs ≡ Some number) (sym kept.state) least in
    kept-more s new rows since history more calls bytes roomier.0 calls bytes larger (Hooked number) roomier.1 may is
    longer (omega arith) (omega arith) (omega (arith, roomier.2))

-- with more room, or as much, what was kept is kept
pub kept-wider : (start : Start) (history same : List Entry) (s : State) (calls bytes capacity larger : ℕ)
    → IsKept start history s calls bytes capacity → same ≡ history → capacity ≤ larger
    → IsKept start same s calls bytes larger
kept-wider start history same s calls bytes capacity larger kept is le =
    subst (λ (h : List Entry). IsKept start h s calls bytes larger) (sym is) (record {
      right = kept.right;
      rows = kept.rows;
      legal = kept.legal;
      state = kept.state;
      calls_are = kept.calls_are;
      bytes_are = kept.bytes_are;
      room = omega (arith, kept.room, le);
    })

-- ---- the connections

-- a row that leaves changes nothing of them
pub same_live-hooked : (start : Start) (history : List Entry) (number : ℕ)
    → SameLive (state_at start history) (state_at start (history ++ Hooked number ∷ []))
same_live-hooked start history number =
    rw (state_after-push (first start) history (Hooked number)) (record { lives = λ k. refl; count = refl })

pub same_calls-hooked : (start : Start) (history : List Entry) (number : ℕ)
    → SameCalls (record { start = start; history = history })
    (record { start = start; history = history ++ Hooked number ∷ [] })
same_calls-hooked start history number = record {
  calls = λ k. calls_of-append k history (Hooked number ∷ []) ∙ append-nil (calls_of k history);
  replies = λ k. replies-append (first start) k history (Hooked number ∷ []) ∙ append-nil
      (replies start k history);
}

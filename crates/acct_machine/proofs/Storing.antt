-- What the keeper of a machine holds and counts, with one more entry of the history.
use Rattle.std.proofs.Common.{◌≡◌, ℕ, zero, suc, ◌≤◌, ◌<◌, ◌^◌, true, false, List, [], ◌∷◌, ◌++◌, Option}
use Rattle.std.proofs.Common.{refl, sym, ◌∙◌, ap, subst, arith}
use Rattle.std.specs.List.{All}
use Rattle.std.proofs.lemmas.List.Elements.{All-nil, All-cons}
use Rattle.acct_calls.specs.declared.calls.Call.{Call}
use Rattle.acct_keeper.specs.Faults.{one_more}
use Rattle.acct_keeper.specs.declared.pairs.Pair.{Pair}
use Rattle.acct_rows.specs.Rows.{Lists}
use Rattle.acct_machine.specs.declared.entry.Verdict.{Verdict}
use Rattle.acct_machine.specs.declared.entry.Verdict.TheVariants.{Ran, StoreFault, NoMemory}
use Rattle.acct_machine.specs.declared.entry.Entry.{Entry}
use Rattle.acct_machine.specs.declared.entry.Entry.TheVariants.{Opened, Called, Gone, Hooked}
use Rattle.acct_machine.specs.State.{Start}
use Rattle.acct_machine.specs.Legal.{faults_of, counts_of, Rises}
use Rattle.acct_machine.specs.Outbox.{has_hook, HoldsRows, Counts, risen, CountsTo, AreCounted, IsStored}

-- ---- counts

-- an entry of no commit that failed counts nothing
counted-quiet : (now missed count : ℕ) (history : List Entry) (e : Entry) → faults_of (e ∷ []) ≡ []
    → CountsTo now missed count history → CountsTo now missed count (history ++ e ∷ [])
counted-quiet now missed count [] (Opened conn listener) none was = was
counted-quiet now missed count [] (Called conn call Ran bytes) none was = was
counted-quiet now missed count [] (Called conn call (StoreFault n) bytes) none was =
    absurd
    (let e : n ∷ [] ≡ [] = none in cc)
counted-quiet now missed count [] (Called conn call NoMemory bytes) none was = was
counted-quiet now missed count [] (Gone conn) none was = was
counted-quiet now missed count [] (Hooked number) none was = was
counted-quiet now missed count (Opened conn listener ∷ history) e none was =
    counted-quiet now missed count history e none was
counted-quiet now missed count (Called conn call Ran bytes ∷ history) e none was =
    counted-quiet now missed count history e none was
counted-quiet now missed count (Called conn call (StoreFault n) bytes ∷ history) e none was =
    (was.0, was.1, was.2, was.3, counted-quiet now was.1 n history e none was.4)
counted-quiet now missed count (Called conn call NoMemory bytes ∷ history) e none was =
    counted-quiet now missed count history e none was
counted-quiet now missed count (Gone conn ∷ history) e none was = counted-quiet now missed count history e none was
counted-quiet now missed count (Hooked number ∷ history) e none was = counted-quiet now missed count history e none was

-- a call counts by its verdict
counted-called : (now later missed count : ℕ) (history : List Entry) (conn : ℕ) (call : Call) (verdict : Verdict)
    (bytes : ℕ) → CountsTo now missed count history → Counts now later verdict
    → CountsTo later missed count (history ++ Called conn call verdict bytes ∷ [])
counted-called now later missed count [] conn call Ran bytes was counts = counts ∙ was
counted-called now later missed count [] conn call (StoreFault n) bytes was counts =
    (missed, 0, omega arith, counts.0 ∙ counts.2 ∙ ap (λ (m : ℕ). one_more m) was, sym counts.0)
counted-called now later missed count [] conn call NoMemory bytes was counts = counts ∙ was
counted-called now later missed count (Opened c l ∷ history) conn call verdict bytes was counts =
    counted-called now later missed count history conn call verdict bytes was counts
counted-called now later missed count (Called c d Ran b ∷ history) conn call verdict bytes was counts =
    counted-called now later missed count history conn call verdict bytes was counts
counted-called now later missed count (Called c d (StoreFault n) b ∷ history) conn call verdict bytes was counts = (
  was.0,
  was.1,
  was.2,
  was.3,
  counted-called now later was.1 n history conn call verdict bytes was.4 counts,
)
counted-called now later missed count (Called c d NoMemory b ∷ history) conn call verdict bytes was counts =
    counted-called now later missed count history conn call verdict bytes was counts
counted-called now later missed count (Gone c ∷ history) conn call verdict bytes was counts =
    counted-called now later missed count history conn call verdict bytes was counts
counted-called now later missed count (Hooked number ∷ history) conn call verdict bytes was counts =
    counted-called now later missed count history conn call verdict bytes was counts

-- and an out row that couldn't be taken out counts one more
counted-missed : (now missed count : ℕ) (history : List Entry) → CountsTo now missed count history
    → CountsTo (one_more now) (suc missed) count history
counted-missed now missed count [] was = ap (λ (m : ℕ). one_more m) was
counted-missed now missed count (Opened conn listener ∷ history) was = counted-missed now missed count history was
counted-missed now missed count (Called conn call Ran bytes ∷ history) was =
    counted-missed now missed count history was
counted-missed now missed count (Called conn call (StoreFault n) bytes ∷ history) was =
    (was.0, suc was.1, omega (arith, was.2), was.3, counted-missed now was.1 n history was.4)
counted-missed now missed count (Called conn call NoMemory bytes ∷ history) was =
    counted-missed now missed count history was
counted-missed now missed count (Gone conn ∷ history) was = counted-missed now missed count history was
counted-missed now missed count (Hooked number ∷ history) was = counted-missed now missed count history was

-- a count that rises doesn't fall
risen-up : (times count : ℕ) → count < 2 ^ 64 → (count ≤ risen times count) × (risen times count < 2 ^ 64)
risen-up zero count small = (omega arith, small)
risen-up (suc times) count small =
    let before = risen-up times count small in
    (omega (arith, before.0, before.1), omega (arith, before.1))

-- no count of a commit that failed lies above that of now
faults-below : (now missed count : ℕ) (es : List Entry) → CountsTo now missed count es
    → All (λ m. m ≤ now) (faults_of es) × (count < 2 ^ 64 → count ≤ now)
faults-below now missed count [] to =
    (All-nil (λ m. m ≤ now), λ small. omega (arith, to, (risen-up missed count small).0))
faults-below now missed count (Opened conn listener ∷ es) to = faults-below now missed count es to
faults-below now missed count (Called conn call Ran bytes ∷ es) to = faults-below now missed count es to
faults-below now missed count (Called conn call (StoreFault n) bytes ∷ es) to =
    let rest = faults-below now to.1 n es to.4 in
    let small : n < 2 ^ 64 = omega (arith, to.3) in
    let here : n ≤ now = rest.1 small in (
      All-cons (λ m. m ≤ now) n (faults_of es) here rest.0,
      λ first.
          let up = risen-up to.0 count first in omega (arith, here, to.3, up.0, up.1),
    )
faults-below now missed count (Called conn call NoMemory bytes ∷ es) to = faults-below now missed count es to
faults-below now missed count (Gone conn ∷ es) to = faults-below now missed count es to
faults-below now missed count (Hooked number ∷ es) to = faults-below now missed count es to

pub counted-below : (now : ℕ) (start : Start) (history : List Entry) → AreCounted now start history
    → All (λ m. m ≤ now) (counts_of start history)
counted-below now start history counted =
    All-cons (λ m. m ≤ now) start.faults (faults_of history) counted.later
    (faults-below now counted.missed start.faults history counted.each).0

-- the count at a commit that failed lies above those before it
pub rises-called : (now later : ℕ) (start : Start) (history : List Entry) (verdict : Verdict)
    → AreCounted now start history → Counts now later verdict → Rises start history verdict
rises-called now later start history Ran was counts = tt
rises-called now later start history NoMemory was counts = tt
rises-called now later start history (StoreFault n) was counts =
    let below = counted-below now start history was in
    (counts.1, λ k d lt. omega (arith, below k d lt, counts.0, counts.2))

-- ---- what a machine keeps

-- where the history began so
from : (now : ℕ) (start same : Start) (history more : List Entry) → start ≡ same → more ≡ history
    → AreCounted now start history → AreCounted now same more
from now start same history more is longer counted =
    subst (λ (h : List Entry). AreCounted now same h) (sym longer)
    (subst (λ (s : Start). AreCounted now s history) is counted)

-- an entry that is no call: the keeper's count is as it was
pub stored-hooked : (held new : Option (List Pair)) (rows left : Lists) (now later : ℕ) (start begun : Start)
    (history more : List Entry) (e : Entry)
    → IsStored held rows now start history → faults_of (e ∷ []) ≡ [] → (HoldsRows held rows → HoldsRows new left)
    → later ≡ now → start ≡ begun → more ≡ history ++ e ∷ [] → IsStored new left later begun more
stored-hooked held new rows left now later start begun history more e was none goes same is longer = record {
  pairs = goes was.pairs;
  counts = subst (λ (count : ℕ). AreCounted count begun more) (sym same)
      (from now start begun (history ++ e ∷ []) more is longer (record {
        missed = was.counts.missed;
        told = was.counts.told;
        each = counted-quiet now was.counts.missed start.faults history e none was.counts.each;
        later = was.counts.later;
      }));
}

-- and it changes no row, except where it takes one out of the outbox
pub stored-quiet : (held : Option (List Pair)) (rows same : Lists) (now : ℕ) (start begun : Start)
    (history more : List Entry) (e : Entry)
    → IsStored held rows now start history → faults_of (e ∷ []) ≡ [] → same ≡ rows → start ≡ begun
    → more ≡ history ++ e ∷ [] → IsStored held same now begun more
stored-quiet held rows same now start begun history more e was none unchanged is longer =
    stored-hooked held held rows same now now start begun history more e was none
    (λ holds. subst (λ (x : Lists). HoldsRows held x) (sym unchanged) holds) refl is longer

pub stored-called : (held new : Option (List Pair)) (rows left : Lists) (now later : ℕ) (start begun : Start)
    (history more : List Entry) (conn : ℕ) (call : Call) (verdict : Verdict) (bytes : ℕ)
    → IsStored held rows now start history → (HoldsRows held rows → HoldsRows new left) → now ≤ later
    → Counts now later verdict → start ≡ begun → more ≡ history ++ Called conn call verdict bytes ∷ []
    → IsStored new left later begun more
stored-called held new rows left now later start begun history more conn call verdict bytes was goes le counts is
    longer =
    record {
      pairs = goes was.pairs;
      counts = from later start begun (history ++ Called conn call verdict bytes ∷ []) more is longer (record {
        missed = was.counts.missed;
        told = was.counts.told;
        each = counted-called now later was.counts.missed start.faults history conn call verdict bytes
            was.counts.each counts;
        later = omega (arith, was.counts.later, le);
      });
    }

-- an out row that couldn't be taken out changes no row
pub stored-missed : (held new : Option (List Pair)) (rows : Lists) (now later : ℕ) (start : Start)
    (history : List Entry) → IsStored held rows now start history → has_hook start.config ≡ true → new ≡ held
    → later ≡ one_more now → now ≤ later → IsStored new rows later start history
stored-missed held new rows now later start history was told same is le = record {
  pairs = subst (λ (h : Option (List Pair)). HoldsRows h rows) (sym same) was.pairs;
  counts = subst (λ (count : ℕ). AreCounted count start history) (sym is) (record {
    missed = suc was.counts.missed;
    told = λ none. absurd (let e : true ≡ false = sym told ∙ none in cc);
    each = counted-missed now was.counts.missed start.faults history was.counts.each;
    later = omega (arith, was.counts.later, le, is);
  });
}

-- nothing has happened
pub stored-new : (held : Option (List Pair)) (rows lists : Lists) (now : ℕ) (start : Start) (history : List Entry)
    → HoldsRows held lists → rows ≡ lists → start.faults ≡ now → history ≡ []
    → IsStored held rows now start history
stored-new held rows lists now start history holds same is none = record {
  pairs = subst (λ (x : Lists). HoldsRows held x) (sym same) holds;
  counts = subst (λ (h : List Entry). AreCounted now start h) (sym none) (record {
    missed = 0;
    told = λ untold. refl;
    each = sym is;
    later = omega (arith, is);
  });
}

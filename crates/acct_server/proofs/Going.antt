-- A replay that has come to a line, and how it goes on.
use Rattle.std.proofs.Common.{◌≡◌, ℕ, ◌+◌, List, [], ◌∷◌, ◌++◌, inl, inr, take, length, Option, Some, None, refl, sym}
use Rattle.std.proofs.Common.{◌∙◌, ap, subst, append_assoc, arith, IfSome}
use Rattle.std.specs.Io.KnownBytes.{Appends}
use Rattle.std.specs.List.{flat_map}
use Rattle.std.proofs.lemmas.List.{append-nil, take-append-le, take_all}
use Rattle.std.proofs.lemmas.List.Concat.{flat_map-append}
use Rattle.acct_machine.specs.State.{Start}
use Rattle.acct_machine.specs.declared.entry.Entry.{Entry}
use Rattle.acct_server.specs.declared.status.Status.{Status}
use Rattle.acct_server.specs.declared.status.Status.TheVariants.{Done, EventLine, HistoryFull}
use Rattle.acct_server.specs.Events.{lines_of}
use Rattle.acct_server.specs.Replayed.{Effect, Move, Standing, Trace, Verdicts, on_line, moved, behind, follow}
use Rattle.acct_server.specs.Replayed.{unless_full, ends, ending, trace_from, at_start, verdict_in, replayed}
use Rattle.acct_server.specs.Replayed.{entries_of, output_of, line_bytes}
use Rattle.acct_server.specs.steps.Running.{Running, standing, DoesLine, Refuses, MayStop}
use Rattle.acct_server.specs.Leaves.{Leaves, Breaks, RunsOut, Finishes, FinishBreaks}
use Rattle.acct_server.proofs.Bytes.{Appends-then, Appends-none}

behind-behind : (xs ys : List Effect) (t : Trace) → behind xs (behind ys t) ≡ behind (xs ++ ys) t
behind-behind xs ys t = λ i. record { effects = sym (append_assoc xs ys t.effects) i; status = t.status }

entries-push : (done : List Effect) (e : Effect) → entries_of (done ++ e ∷ []) ≡ entries_of done ++ e.entries
entries-push done e = flat_map-append (λ x. x.entries) done (e ∷ [])
    ∙ ap (λ (xs : List Entry). entries_of done ++ xs) (append-nil e.entries)

abbrev lines_in : Effect → List ℕ
lines_in e = flat_map line_bytes e.prints

output-push : (done : List Effect) (e : Effect) → output_of (done ++ e ∷ []) ≡ output_of done ++ lines_in e
output-push done e = flat_map-append lines_in done (e ∷ [])
    ∙ ap (λ (xs : List ℕ). output_of done ++ xs) (append-nil (lines_in e))

-- The replay of the events has come to this run, with so many lines after it and these bytes before it, by whatever
-- entries its
-- history goes on.
pub record Going (start : Start) (held now : Option (List ℕ)) (events : List ℕ) (run : Running) (number : ℕ)
    (ahead : List ℕ) : Type 0 where
  pub done : List Effect
  pub configured : run.machine.start ≡ start
  pub entries : run.machine.history ≡ entries_of done
  pub lines : Appends held now (output_of done)
  pub rest : (later : List Entry)
      → trace_from (verdict_in (run.machine.history ++ later)) (at_start start) 1 (lines_of events)
      ≡ behind done (trace_from (verdict_in (run.machine.history ++ later)) (standing run) (number + 1)
      (lines_of ahead))

pub going-starts : (held : Option (List ℕ)) (events : List ℕ) (run : Running) → run.machine.history ≡ []
    → run.peers ≡ [] → Going run.machine.start held held events run 0 events
going-starts held events run none fresh = record {
  done = [];
  configured = refl;
  entries = none;
  lines = Appends-none held;
  rest = λ later.
      let same : at_start run.machine.start ≡ standing run =
      λ i. record { start = run.machine.start; history = sym none i; peers = sym fresh i } in
      ap (λ (s : Standing). trace_from (verdict_in (run.machine.history ++ later)) s 1 (lines_of events)) same;
}

-- what the replay does after a line, which may have found the history full
abbrev later_by : Option ℕ → Verdicts → Standing → ℕ → List (List ℕ) → Trace
later_by found verdicts s n ls = unless_full found s (λ after. trace_from verdicts after n ls)

-- what the replay does from a line on, once its move is known
at_move : (verdicts : Verdicts) (s : Standing) (n : ℕ) (line : List ℕ) (ls : List (List ℕ)) (move : Move)
    (found : Option ℕ)
    → move.effect.full ≡ found → on_line verdicts s line ≡ Some move
    → trace_from verdicts s n (line ∷ ls)
    ≡ behind (move.effect ∷ []) (later_by found verdicts (moved s move) (n + 1) ls)
unfolding trace_from
at_move verdicts s n line ls move found full is =
    ap (λ (m : Option Move). follow s n m (λ after. trace_from verdicts after (n + 1) ls)) is
    ∙ ap (λ (o : Option ℕ). behind (move.effect ∷ [])
    (unless_full o (moved s move) (λ after. trace_from verdicts after (n + 1) ls))) full

-- the entries of a line stand: what the whole replay is then
met : (start : Start) (held now : Option (List ℕ)) (events : List ℕ) (old new : Running) (number : ℕ)
    (ahead line after : List ℕ) (going : Going start held now events old number ahead) (move : Move) (found : Option ℕ)
    → move.effect.full ≡ found
    → lines_of ahead ≡ line ∷ lines_of after
    → ((later : List Entry) → on_line (verdict_in (new.machine.history ++ later)) (standing old) line ≡ Some move)
    → new.machine.history ≡ old.machine.history ++ move.effect.entries
    → (later : List Entry) → trace_from (verdict_in (new.machine.history ++ later)) (at_start start) 1 (lines_of events)
    ≡ behind (going.done ++ move.effect ∷ [])
    (later_by found (verdict_in (new.machine.history ++ later)) (moved (standing old) move) (number + 1 + 1)
    (lines_of after))
met start held now events old new number ahead line after going move found full lines is history later =
    let h = new.machine.history ++ later in
    let longer : h ≡ old.machine.history ++ (move.effect.entries ++ later) =
    ap (λ (xs : List Entry). xs ++ later) history ∙ append_assoc old.machine.history move.effect.entries later in
    let from_here : trace_from (verdict_in h) (at_start start) 1 (lines_of events)
    ≡ behind going.done (trace_from (verdict_in h) (standing old) (number + 1) (lines_of ahead)) =
    subst (λ (x : List Entry). trace_from (verdict_in x) (at_start start) 1 (lines_of events)
    ≡ behind going.done (trace_from (verdict_in x) (standing old) (number + 1) (lines_of ahead))) (sym longer)
    (going.rest (move.effect.entries ++ later)) in
    let known : on_line (verdict_in h) (standing old) line ≡ Some move = is later in
    from_here
    ∙ ap (λ (ls : List (List ℕ)). behind going.done (trace_from (verdict_in h) (standing old) (number + 1) ls)) lines
    ∙ ap (λ (t : Trace). behind going.done t)
    (at_move (verdict_in h) (standing old) (number + 1) line (lines_of after) move found full known)
    ∙ behind-behind going.done (move.effect ∷ [])
    (later_by found (verdict_in h) (moved (standing old) move) (number + 1 + 1) (lines_of after))

abbrev OfLine : Running → List ℕ → Verdicts → Option Move
OfLine run line verdicts = on_line verdicts (standing run) line

pub going-on : (start : Start) (held now then : Option (List ℕ)) (events : List ℕ) (old new : Running) (number : ℕ)
    (ahead line after output : List ℕ)
    → Going start held now events old number ahead → lines_of ahead ≡ line ∷ lines_of after
    → DoesLine (λ verdicts. on_line verdicts (standing old) line) old output None new → Appends now then output
    → Going start held then events new (number + 1) after
going-on start held now then events old new number ahead line after output going lines does appends =
    let e = does.move.effect in
    let same : moved (standing old) does.move ≡ standing new =
    λ i. record { start = sym does.start i; history = sym does.history i; peers = sym does.peers i } in
    record {
      done = going.done ++ e ∷ [];
      configured = does.start ∙ going.configured;
      entries = does.history ∙ ap (λ (h : List Entry). h ++ e.entries) going.entries ∙ sym (entries-push going.done e);
      lines = rw (output-push going.done e)
          (Appends-then held now then (output_of going.done) (lines_in e) going.lines
          (subst (λ (bytes : List ℕ). Appends now then bytes) does.prints appends));
      rest = λ later.
          met start held now events old new number ahead line after going does.move None does.full lines does.is
          does.history later
          ∙ ap (λ (s : Standing). behind (going.done ++ e ∷ [])
          (trace_from (verdict_in (new.machine.history ++ later)) s (number + 1 + 1) (lines_of after))) same;
    }

-- the whole replay, with the verdicts of a history that nothing follows
whole : (start : Start) (events : List ℕ) (history : List Entry)
    → replayed start events history ≡ trace_from (verdict_in (history ++ [])) (at_start start) 1 (lines_of events)
whole start events history = ap (λ (h : List Entry). trace_from (verdict_in h) (at_start start) 1 (lines_of events))
    (sym (append-nil history))

-- the sink fails at the lines of a line
pub going-breaks : (start : Start) (held now then : Option (List ℕ)) (events : List ℕ) (old new : Running) (number : ℕ)
    (ahead line after output : List ℕ) (found : Option ℕ) (written : ℕ)
    → Going start held now events old number ahead → lines_of ahead ≡ line ∷ lines_of after
    → DoesLine (λ verdicts. on_line verdicts (standing old) line) old output found new
    → Appends now then (take written output)
    → Breaks start held then events new.machine.history
going-breaks start held now then events old new number ahead line after output found written going lines does appends =
    let e = does.move.effect in
    let later = later_by found (verdict_in (new.machine.history ++ [])) (moved (standing old) does.move)
    (number + 1 + 1) (lines_of after) in
    let is : replayed start events new.machine.history ≡ behind (going.done ++ e ∷ []) later =
    whole start events new.machine.history
    ∙ met start held now events old new number ahead line after going does.move found does.full lines does.is
    does.history [] in
    record {
      done = going.done;
      met = e;
      ahead = later.effects;
      written = written;
      splits = ap (λ (t : Trace). t.effects) is ∙ append_assoc going.done (e ∷ []) later.effects;
      entries = does.history ∙ ap (λ (h : List Entry). h ++ e.entries) going.entries;
      lines = Appends-then held now then (output_of going.done) (take written (lines_in e)) going.lines
          (subst (λ (bytes : List ℕ). Appends now then (take written bytes)) does.prints appends);
    }

-- all the lines of the effects done, and those of others
front_lines : (held now : Option (List ℕ)) (done others : List Effect) → Appends held now (output_of done)
    → Appends held now (take (length (output_of done)) (output_of (done ++ others)))
front_lines held now done others appends =
    let front : take (length (output_of done)) (output_of (done ++ others)) ≡ output_of done =
    ap (λ (xs : List ℕ). take (length (output_of done)) xs) (flat_map-append lines_in done others)
    ∙ take-append-le (length (output_of done)) (output_of done) (output_of others) (omega arith)
    ∙ take_all (length (output_of done)) (output_of done) (omega arith) in
    subst (λ (bytes : List ℕ). Appends held now bytes) (sym front) appends

-- A line found the history full: the lines of what was done, and what is left to do, which is the end.
record Filled (start : Start) (held now : Option (List ℕ)) (events : List ℕ) (run : Running) (status : Status)
    : Type 0 where
  done : List Effect
  entries : run.machine.history ≡ entries_of done
  lines : Appends held now (output_of done)
  rest : (later : List Entry)
      → trace_from (verdict_in (run.machine.history ++ later)) (at_start start) 1 (lines_of events)
      ≡ behind done (ends (standing run) status)

filled : (start : Start) (held now then : Option (List ℕ)) (events : List ℕ) (old new : Running) (number : ℕ)
    (ahead line after output : List ℕ) (count : ℕ)
    → Going start held now events old number ahead → lines_of ahead ≡ line ∷ lines_of after
    → DoesLine (λ verdicts. on_line verdicts (standing old) line) old output (Some count) new → Appends now then output
    → Filled start held then events new (HistoryFull count)
filled start held now then events old new number ahead line after output count going lines does appends =
    let e = does.move.effect in
    let same : moved (standing old) does.move ≡ standing new =
    λ i. record { start = sym does.start i; history = sym does.history i; peers = sym does.peers i } in
    record {
      done = going.done ++ e ∷ [];
      entries = does.history ∙ ap (λ (h : List Entry). h ++ e.entries) going.entries ∙ sym (entries-push going.done e);
      lines = rw (output-push going.done e)
          (Appends-then held now then (output_of going.done) (lines_in e) going.lines
          (subst (λ (bytes : List ℕ). Appends now then bytes) does.prints appends));
      rest = λ later.
          met start held now events old new number ahead line after going does.move (Some count) does.full lines does.is
          does.history later
          ∙ ap (λ (s : Standing). behind (going.done ++ e ∷ []) (ends s (HistoryFull count))) same;
    }

filled-whole : (start : Start) (held now : Option (List ℕ)) (events : List ℕ) (old new : Running) (status : Status)
    (f : Filled start held now events old status)
    → new.machine.history ≡ old.machine.history ++ (ending (standing old)).entries
    → replayed start events new.machine.history ≡ behind f.done (ends (standing old) status)
filled-whole start held now events old new status f history =
    ap (λ (h : List Entry). replayed start events h) history ∙ f.rest (ending (standing old)).entries

-- the connections that were open have been ended after it
pub going-fills : (start : Start) (held now then last : Option (List ℕ)) (events : List ℕ) (old mid new : Running)
    (number : ℕ) (ahead line after output : List ℕ) (count : ℕ) (answer : Status)
    → Going start held now events old number ahead → lines_of ahead ≡ line ∷ lines_of after
    → DoesLine (λ verdicts. on_line verdicts (standing old) line) old output (Some count) mid → Appends now then output
    → Finishes then last mid new (HistoryFull count) answer
    → Leaves start held last events new.machine.history answer
going-fills start held now then last events old mid new number ahead line after output count answer going lines does
    appends finishes =
    let f = filled start held now then events old mid number ahead line after output count going lines does appends in
    let is = filled-whole start held then events mid new (HistoryFull count) f finishes.entries in
    let end = ending (standing mid) in
    record {
      entries = finishes.entries ∙ ap (λ (h : List Entry). h ++ end.entries) f.entries
          ∙ sym (entries-push f.done end) ∙ sym (ap (λ (t : Trace). entries_of t.effects) is);
      lines = subst (λ (bytes : List ℕ). Appends held last bytes)
          (sym (output-push f.done end) ∙ sym (ap (λ (t : Trace). output_of t.effects) is))
          (Appends-then held then last (output_of f.done) (lines_in end) f.lines finishes.lines);
      ends = finishes.ends ∙ sym (ap (λ (t : Trace). t.status) is);
    }

pub going-fill-breaks : (start : Start) (held now then last : Option (List ℕ)) (events : List ℕ)
    (old mid new : Running) (number : ℕ) (ahead line after output : List ℕ) (count : ℕ)
    → Going start held now events old number ahead → lines_of ahead ≡ line ∷ lines_of after
    → DoesLine (λ verdicts. on_line verdicts (standing old) line) old output (Some count) mid → Appends now then output
    → FinishBreaks then last mid new → Breaks start held last events new.machine.history
going-fill-breaks start held now then last events old mid new number ahead line after output count going lines does
    appends broken =
    let f = filled start held now then events old mid number ahead line after output count going lines does appends in
    let is = filled-whole start held then events mid new (HistoryFull count) f broken.entries in
    let end = ending (standing mid) in
    record {
      done = f.done;
      met = end;
      ahead = [];
      written = broken.written;
      splits = ap (λ (t : Trace). t.effects) is;
      entries = broken.entries ∙ ap (λ (h : List Entry). h ++ end.entries) f.entries;
      lines = Appends-then held then last (output_of f.done) (take broken.written (lines_in end)) f.lines broken.lines;
    }

-- memory ran out for the lines of the end
pub going-fill-stops : (start : Start) (held now then : Option (List ℕ)) (events : List ℕ) (old mid new : Running)
    (number : ℕ) (ahead line after output : List ℕ) (count : ℕ)
    → Going start held now events old number ahead → lines_of ahead ≡ line ∷ lines_of after
    → DoesLine (λ verdicts. on_line verdicts (standing old) line) old output (Some count) mid → Appends now then output
    → new.machine.history ≡ mid.machine.history
    → RunsOut start held then events new.machine.history
going-fill-stops start held now then events old mid new number ahead line after output count going lines does appends
    same =
    let f = filled start held now then events old mid number ahead line after output count going lines does appends in
    let others = ends (standing mid) (HistoryFull count) in
    let is : replayed start events new.machine.history ≡ behind f.done others =
    ap (λ (h : List Entry). replayed start events h) same ∙ whole start events mid.machine.history ∙ f.rest [] in
    record {
      later = entries_of others.effects;
      written = length (output_of f.done);
      entries = ap (λ (t : Trace). entries_of t.effects) is ∙ flat_map-append (λ x. x.entries) f.done others.effects
          ∙ ap (λ (h : List Entry). h ++ entries_of others.effects) (sym (same ∙ f.entries));
      lines = subst (λ (t : Trace). Appends held then (take (length (output_of f.done)) (output_of t.effects)))
          (sym is) (front_lines held then f.done others.effects f.lines);
    }

-- the whole replay, at the end of the lines or at a refused one
closes : (start : Start) (held now : Option (List ℕ)) (events : List ℕ) (old new : Running) (number : ℕ)
    (ahead : List ℕ) (status : Status) (going : Going start held now events old number ahead)
    → ((verdicts : Verdicts) → trace_from verdicts (standing old) (number + 1) (lines_of ahead)
    ≡ ends (standing old) status)
    → new.machine.history ≡ old.machine.history ++ (ending (standing old)).entries
    → replayed start events new.machine.history ≡ behind going.done (ends (standing old) status)
closes start held now events old new number ahead status going at history =
    let entries = (ending (standing old)).entries in
    ap (λ (h : List Entry). replayed start events h) history ∙ going.rest entries
    ∙ ap (λ (t : Trace). behind going.done t) (at (verdict_in (old.machine.history ++ entries)))

going-closes : (start : Start) (held now then : Option (List ℕ)) (events : List ℕ) (old new : Running) (number : ℕ)
    (ahead : List ℕ) (status answer : Status) (going : Going start held now events old number ahead)
    → ((verdicts : Verdicts) → trace_from verdicts (standing old) (number + 1) (lines_of ahead)
    ≡ ends (standing old) status)
    → Finishes now then old new status answer → Leaves start held then events new.machine.history answer
going-closes start held now then events old new number ahead status answer going at finishes =
    let is = closes start held now events old new number ahead status going at finishes.entries in
    let end = ending (standing old) in
    record {
      entries = finishes.entries ∙ ap (λ (h : List Entry). h ++ end.entries) going.entries
          ∙ sym (entries-push going.done end) ∙ sym (ap (λ (t : Trace). entries_of t.effects) is);
      lines = subst (λ (bytes : List ℕ). Appends held then bytes)
          (sym (output-push going.done end) ∙ sym (ap (λ (t : Trace). output_of t.effects) is))
          (Appends-then held now then (output_of going.done) (lines_in end) going.lines finishes.lines);
      ends = finishes.ends ∙ sym (ap (λ (t : Trace). t.status) is);
    }

going-close-breaks : (start : Start) (held now then : Option (List ℕ)) (events : List ℕ) (old new : Running)
    (number : ℕ) (ahead : List ℕ) (status : Status) (going : Going start held now events old number ahead)
    → ((verdicts : Verdicts) → trace_from verdicts (standing old) (number + 1) (lines_of ahead)
    ≡ ends (standing old) status)
    → FinishBreaks now then old new → Breaks start held then events new.machine.history
going-close-breaks start held now then events old new number ahead status going at broken =
    let is = closes start held now events old new number ahead status going at broken.entries in
    let end = ending (standing old) in
    record {
      done = going.done;
      met = end;
      ahead = [];
      written = broken.written;
      splits = ap (λ (t : Trace). t.effects) is;
      entries = broken.entries ∙ ap (λ (h : List Entry). h ++ end.entries) going.entries;
      lines = Appends-then held now then (output_of going.done) (take broken.written (lines_in end)) going.lines
          broken.lines;
    }

at_end : (old : Running) (number : ℕ) (ahead : List ℕ) → ahead ≡ [] → (verdicts : Verdicts)
    → trace_from verdicts (standing old) (number + 1) (lines_of ahead) ≡ ends (standing old) Done
unfolding trace_from
at_end old number ahead none verdicts =
    ap (λ (bytes : List ℕ). trace_from verdicts (standing old) (number + 1) (lines_of bytes)) none

at_refused : (old : Running) (number : ℕ) (ahead line after : List ℕ) → lines_of ahead ≡ line ∷ lines_of after
    → ((verdicts : Verdicts) → on_line verdicts (standing old) line ≡ None)
    → (verdicts : Verdicts) → trace_from verdicts (standing old) (number + 1) (lines_of ahead)
    ≡ ends (standing old) (EventLine (number + 1))
unfolding trace_from
at_refused old number ahead line after lines none verdicts =
    ap (λ (ls : List (List ℕ)). trace_from verdicts (standing old) (number + 1) ls) lines
    ∙ ap (λ (m : Option Move). follow (standing old) (number + 1) m
    (λ s. trace_from verdicts s (number + 1 + 1) (lines_of after))) (none verdicts)

pub going-ends : (start : Start) (held now then : Option (List ℕ)) (events : List ℕ) (old new : Running) (number : ℕ)
    (ahead : List ℕ) (answer : Status)
    → Going start held now events old number ahead → ahead ≡ [] → Finishes now then old new Done answer
    → Leaves start held then events new.machine.history answer
going-ends start held now then events old new number ahead answer going none finishes =
    going-closes start held now then events old new number ahead Done answer going (at_end old number ahead none)
    finishes

pub going-end-breaks : (start : Start) (held now then : Option (List ℕ)) (events : List ℕ) (old new : Running)
    (number : ℕ) (ahead : List ℕ)
    → Going start held now events old number ahead → ahead ≡ [] → FinishBreaks now then old new
    → Breaks start held then events new.machine.history
going-end-breaks start held now then events old new number ahead going none broken =
    going-close-breaks start held now then events old new number ahead Done going (at_end old number ahead none) broken

pub going-refused : (start : Start) (held now then : Option (List ℕ)) (events : List ℕ) (old same new : Running)
    (number : ℕ) (ahead line after : List ℕ) (answer : Status)
    → Going start held now events old number ahead → lines_of ahead ≡ line ∷ lines_of after
    → Refuses (λ verdicts. on_line verdicts (standing old) line) old same
    → Finishes now then same new (EventLine (number + 1)) answer
    → Leaves start held then events new.machine.history answer
going-refused start held now then events old same new number ahead line after answer going lines refuses finishes =
    going-closes start held now then events old new number ahead (EventLine (number + 1)) answer going
    (at_refused old number ahead line after lines refuses.none)
    (subst (λ (r : Running). Finishes now then r new (EventLine (number + 1)) answer) refuses.same finishes)

pub going-refused-breaks : (start : Start) (held now then : Option (List ℕ)) (events : List ℕ) (old same new : Running)
    (number : ℕ) (ahead line after : List ℕ)
    → Going start held now events old number ahead → lines_of ahead ≡ line ∷ lines_of after
    → Refuses (λ verdicts. on_line verdicts (standing old) line) old same
    → FinishBreaks now then same new → Breaks start held then events new.machine.history
going-refused-breaks start held now then events old same new number ahead line after going lines refuses broken =
    going-close-breaks start held now then events old new number ahead (EventLine (number + 1)) going
    (at_refused old number ahead line after lines refuses.none)
    (subst (λ (r : Running). FinishBreaks now then r new) refuses.same broken)

-- memory runs out where the entries that stand are those of the effects done
pub going-stops : (start : Start) (held now : Option (List ℕ)) (events : List ℕ) (old new : Running) (number : ℕ)
    (ahead : List ℕ) → Going start held now events old number ahead → new.machine.history ≡ old.machine.history
    → RunsOut start held now events new.machine.history
going-stops start held now events old new number ahead going same =
    let others = trace_from (verdict_in (old.machine.history ++ [])) (standing old) (number + 1) (lines_of ahead) in
    let is : replayed start events new.machine.history ≡ behind going.done others =
    ap (λ (h : List Entry). replayed start events h) same ∙ whole start events old.machine.history
    ∙ going.rest [] in
    record {
      later = entries_of others.effects;
      written = length (output_of going.done);
      entries = ap (λ (t : Trace). entries_of t.effects) is ∙ flat_map-append (λ x. x.entries) going.done others.effects
          ∙ ap (λ (h : List Entry). h ++ entries_of others.effects) (sym (same ∙ going.entries));
      lines = subst (λ (t : Trace). Appends held now (take (length (output_of going.done)) (output_of t.effects)))
          (sym is) (front_lines held now going.done others.effects going.lines);
    }

-- memory runs out at a line
pub going-may-stop : (start : Start) (held now : Option (List ℕ)) (events : List ℕ) (old new : Running) (number : ℕ)
    (ahead line after : List ℕ)
    → Going start held now events old number ahead → lines_of ahead ≡ line ∷ lines_of after
    → MayStop (λ verdicts. on_line verdicts (standing old) line) old new
    → RunsOut start held now events new.machine.history
going-may-stop start held now events old new number ahead line after going lines (inl same) =
    going-stops start held now events old new number ahead going same
going-may-stop start held now events old new number ahead line after going lines (inr enters) =
    let h = new.machine.history ++ [] in
    let move = enters.move [] in
    let e = move.effect in
    let longer : h ≡ old.machine.history ++ enters.front = append-nil new.machine.history ∙ enters.history in
    let from_here : trace_from (verdict_in h) (at_start start) 1 (lines_of events)
    ≡ behind going.done (trace_from (verdict_in h) (standing old) (number + 1) (lines_of ahead)) =
    subst (λ (x : List Entry). trace_from (verdict_in x) (at_start start) 1 (lines_of events)
    ≡ behind going.done (trace_from (verdict_in x) (standing old) (number + 1) (lines_of ahead))) (sym longer)
    (going.rest enters.front) in
    let known : on_line (verdict_in h) (standing old) line ≡ Some move = enters.is [] in
    let others = later_by e.full (verdict_in h) (moved (standing old) move) (number + 1 + 1) (lines_of after) in
    let is : replayed start events new.machine.history ≡ behind (going.done ++ e ∷ []) others =
    whole start events new.machine.history
    ∙ from_here
    ∙ ap (λ (ls : List (List ℕ)). behind going.done (trace_from (verdict_in h) (standing old) (number + 1) ls)) lines
    ∙ ap (λ (t : Trace). behind going.done t)
    (at_move (verdict_in h) (standing old) (number + 1) line (lines_of after) move e.full refl known)
    ∙ behind-behind going.done (e ∷ []) others in
    let all : (replayed start events new.machine.history).effects ≡ going.done ++ e ∷ others.effects =
    ap (λ (t : Trace). t.effects) is ∙ append_assoc going.done (e ∷ []) others.effects in
    let left = enters.others [] ++ entries_of others.effects in
    let stands : new.machine.history ≡ entries_of going.done ++ enters.front =
    enters.history ∙ ap (λ (x : List Entry). x ++ enters.front) going.entries in
    let of_line : e.entries ++ entries_of others.effects ≡ enters.front ++ left =
    ap (λ (x : List Entry). x ++ entries_of others.effects) (enters.begins [])
    ∙ append_assoc enters.front (enters.others []) (entries_of others.effects) in
    record {
      later = left;
      written = length (output_of going.done);
      entries =
          ap (λ (es : List Effect). entries_of es) all
          ∙ flat_map-append (λ x. x.entries) going.done (e ∷ others.effects)
          ∙ ap (λ (x : List Entry). entries_of going.done ++ x) of_line
          ∙ sym (append_assoc (entries_of going.done) enters.front left)
          ∙ ap (λ (x : List Entry). x ++ left) (sym stands);
      lines = subst (λ (es : List Effect). Appends held now (take (length (output_of going.done)) (output_of es)))
          (sym all) (front_lines held now going.done (e ∷ others.effects) going.lines);
    }

-- memory runs out before a line was run
stops-none : (start : Start) (held : Option (List ℕ)) (events : List ℕ) (history : List Entry) → history ≡ []
    → RunsOut start held held events history
stops-none start held events history none = record {
  later = entries_of (replayed start events history).effects;
  written = 0;
  entries = ap (λ (h : List Entry). h ++ entries_of (replayed start events history).effects) (sym none);
  lines = Appends-none held;
}

pub stops-early : (start : Start) (held left : Option (List ℕ)) (history : List Entry) → history ≡ []
    → IfSome left (λ bytes. RunsOut start held held bytes history)
stops-early start held None history none = tt
stops-early start held (Some bytes) history none = stops-none start held bytes history none

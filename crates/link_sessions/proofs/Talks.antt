-- Acts that were answered one after another on a link, up to one that wasn't.
use Rattle.std.proofs.Common.{◌≡◌, ℕ, ◌≤◌, List, [], ◌∷◌, ◌++◌, ◌⊎◌, inl, inr, length, take, None, refl}
use Rattle.std.proofs.Common.{sym, ◌∙◌, ap, subst, arith, append_assoc, length-append}
use Rattle.std.proofs.lemmas.List.{take_all}
use Rattle.acct_calls.specs.declared.calls.Call.{Call}
use Rattle.acct_calls.specs.declared.replies.Reply.{Reply}
use Rattle.acct_machine.specs.State.{Start}
use Rattle.acct_machine.specs.declared.entry.Entry.{Entry}
use Rattle.acct_machine.specs.Legal.{replies, calls_of}
use Rattle.rpc_session.specs.declared.sessions.Act.{Act}
use Rattle.rpc_session.specs.Sessions.{listed}
use Rattle.acct_keeper.specs.Faults.{Rose}
use Rattle.acct_links.specs.Links.{Told, Sends, SendsFront}
use Rattle.rpc_session.specs.declared.sessions.Request.{Request}
use Rattle.link_sessions.specs.Transcript.{transcript, decoded_calls, no_bytes, busy_bytes, IsFrontOf}
use Rattle.link_sessions.specs.steps.Talking.{Answers, Talks, StopsTalk, Halts, IsWanting, MeetsFull, SendsSome}
use Rattle.rpc_session.specs.declared.sessions.Act.TheVariants as act
use Rattle.link_sessions.specs.declared.ends.Stop.{Stop}
use Rattle.link_sessions.specs.declared.ends.Stop.TheVariants as stop
use Rattle.link_sessions.proofs.Fronts.{front-then}
use Rattle.link_sessions.proofs.Results.{Appends-none, Appends-then}
use Rattle.link_sessions.proofs.Transcripts.{decoded-then, written-then}
use Rattle.link_sessions.proofs.Answering.{answers-none}

-- ---- what was sent

pub sends-none : (t : Told) → Sends t t []
sends-none t = record {
  sent = Appends-none t.sent;
  later = omega arith;
  received = refl;
  left = refl;
  ended = refl;
  read_faults = refl;
}

pub sends-then : (a b c : Told) (x y : List ℕ) → Sends a b x → Sends b c y → Sends a c (x ++ y)
sends-then a b c x y first second = record {
  sent = Appends-then a.sent b.sent c.sent x y first.sent second.sent;
  later = let one = first.later in let two = second.later in omega (arith, one, two);
  received = second.received ∙ first.received;
  left = second.left ∙ first.left;
  ended = second.ended ∙ first.ended;
  read_faults = second.read_faults ∙ first.read_faults;
}

pub rose-later : (a b c : ℕ) → a ≤ b → Rose b c → Rose a c
rose-later a b c le rose = grind arith

module _ (start : Start) (k : ℕ) where
  pub answers-then : (xs ys : List Act) (a b c : List Entry) (x y : List ℕ) → Answers start k xs a b x
      → Answers start k ys b c y → Answers start k (xs ++ ys) a c (x ++ y)
  answers-then xs ys a b c x y first second = record {
    grows = front-then a b c first.grows second.grows;
    given = first.given ++ second.given;
    calls =
        second.calls
        ∙ ap (λ (l : List (Call × ℕ)). l ++ decoded_calls ys) first.calls
        ∙ append_assoc (calls_of k a) (decoded_calls xs) (decoded_calls ys)
        ∙ ap (λ (l : List (Call × ℕ)). calls_of k a ++ l) (sym (decoded-then xs ys));
    replied =
        second.replied
        ∙ ap (λ (l : List Reply). l ++ second.given) first.replied
        ∙ append_assoc (replies start k a) first.given second.given;
    each = let one = first.each in let two = second.each in
        let decoded = ap (λ (l : List (Call × ℕ)). length l) (decoded-then xs ys) in
        omega (
          arith,
          one,
          two,
          decoded,
          length-append first.given second.given,
          length-append (decoded_calls xs) (decoded_calls ys),
        );
    bytes_are =
        ap (λ (l : List ℕ). l ++ y) first.bytes_are
        ∙ ap (λ (l : List ℕ). transcript xs first.given ++ l) second.bytes_are
        ∙ sym (written-then no_bytes xs ys first.given second.given first.each);
  }

  pub talks-none : (h : List Entry) (t : Told) → Talks start k [] h h t t
  talks-none h t = record { bytes = []; sends = sends-none t; answers = answers-none start k h }

  pub talks-one : (xs : List Act) (a b : List Entry) (s t : Told) (bytes : List ℕ) → Answers start k xs a b bytes
      → Sends s t bytes → Talks start k xs a b s t
  talks-one xs a b s t bytes answers sends = record { bytes = bytes; sends = sends; answers = answers }

  pub talks-then : (xs ys : List Act) (a b c : List Entry) (s t u : Told) → Talks start k xs a b s t
      → Talks start k ys b c t u → Talks start k (xs ++ ys) a c s u
  talks-then xs ys a b c s t u first second = record {
    bytes = first.bytes ++ second.bytes;
    sends = sends-then s t u first.bytes second.bytes first.sends second.sends;
    answers = answers-then xs ys a b c first.bytes second.bytes first.answers second.answers;
  }

  -- ---- an act that wasn't answered

  -- where no act was answered before it
  stops-first : (why : Stop) (rest : List Act) (a b : List Entry) (last : List ℕ) (s t : Told) → Sends s t last
      → Halts why start k rest a b last s t → StopsTalk start k rest a b s t why
  stops-first why rest a b last s t sends halts = record {
    done = [];
    rest = rest;
    splits = refl;
    bytes = [];
    last = last;
    sends = sends;
    middle = a;
    answers = answers-none start k a;
    halts = halts;
  }

  pub stops-cut : (x : Act) (a b : List Entry) (s t : Told) (bytes : List ℕ) → Answers start k (x ∷ []) a b bytes
      → SendsFront s t bytes → StopsTalk start k (x ∷ []) a b s t stop.WriteFault
  stops-cut x a b s t bytes answers front =
      stops-first stop.WriteFault (x ∷ []) a b (take front.count bytes) s t front.sends (record {
        begun = x;
        others = [];
        first = refl;
        answer = bytes;
        answers = answers;
        count = front.count;
        written = refl;
        failed = front.failed;
      })

  pub stops-wanting : (rest : List Act) (a b : List Entry) (t : Told) → IsWanting start k rest a b []
      → StopsTalk start k rest a b t t stop.NoMemory
  stops-wanting rest a b t wants = stops-first stop.NoMemory rest a b [] t t (sends-none t) wants

  -- none of the acts was come to
  pub wanting-none : (rest : List Act) (h : List Entry) → IsWanting start k rest h h []
  wanting-none rest h = record {
    begun = None;
    others = rest;
    first = refl;
    answer = [];
    answers = answers-none start k h;
    nothing = refl;
  }

  pub stops-full : (n : ℕ) (asked : Request) (a b : List Entry) (s t : Told)
      → MeetsFull start k n asked a b → SendsSome s t (busy_bytes asked)
      → StopsTalk start k (act.Call asked ∷ []) a b s t (stop.Full n)
  stops-full n asked a b s t meets some =
      stops-first (stop.Full n) (act.Call asked ∷ []) a b some.last s t some.sends (record {
        asked = asked;
        others = [];
        first = refl;
        meets = meets;
        count = some.count;
        written = some.written;
        all = some.all;
      })

  -- ---- after acts that were answered, and before others

  rose-or : {A : Type 0} (a b c : ℕ) → a ≤ b → A ⊎ Rose b c → A ⊎ Rose a c
  rose-or a b c le (inl x) = inl x
  rose-or a b c le (inr rose) = inr (rose-later a b c le rose)

  pub halts-later : (why : Stop) (rest : List Act) (a b : List Entry) (last : List ℕ) (s t u : Told)
      → s.write_faults ≤ t.write_faults → Halts why start k rest a b last t u → Halts why start k rest a b last s u
  halts-later stop.WriteFault rest a b last s t u le h = record {
    begun = h.begun;
    others = h.others;
    first = h.first;
    answer = h.answer;
    answers = h.answers;
    count = h.count;
    written = h.written;
    failed = rose-later s.write_faults t.write_faults u.write_faults le h.failed;
  }
  halts-later stop.NoMemory rest a b last s t u le h = h
  halts-later (stop.Full n) rest a b last s t u le h = record {
    asked = h.asked;
    others = h.others;
    first = h.first;
    meets = h.meets;
    count = h.count;
    written = h.written;
    all = rose-or s.write_faults t.write_faults u.write_faults le h.all;
  }

  pub stops-then : (xs ys : List Act) (a b c : List Entry) (s t u : Told) (why : Stop) → Talks start k xs a b s t
      → StopsTalk start k ys b c t u why → StopsTalk start k (xs ++ ys) a c s u why
  stops-then xs ys a b c s t u why first second = record {
    done = xs ++ second.done;
    rest = second.rest;
    splits = ap (λ (l : List Act). xs ++ l) second.splits ∙ sym (append_assoc xs second.done second.rest);
    bytes = first.bytes ++ second.bytes;
    last = second.last;
    sends = subst (λ (l : List ℕ). Sends s u l) (sym (append_assoc first.bytes second.bytes second.last))
        (sends-then s t u first.bytes (second.bytes ++ second.last) first.sends second.sends);
    middle = second.middle;
    answers = answers-then xs second.done a b second.middle first.bytes second.bytes first.answers second.answers;
    halts = halts-later why second.rest second.middle c second.last s t u first.sends.later second.halts;
  }

  pub halts-grow : (why : Stop) (rest : List Act) (a b : List Entry) (last : List ℕ) (s t : Told)
      → Halts why start k rest a b last s t → IsFrontOf a b
  halts-grow stop.WriteFault rest a b last s t h = h.answers.grows
  halts-grow stop.NoMemory rest a b last s t h = h.answers.grows
  halts-grow (stop.Full n) rest a b last s t h = h.meets.passes.grows

  before-others : (x : Act) (rest others ys : List Act) → rest ≡ x ∷ others → rest ++ ys ≡ x ∷ (others ++ ys)
  before-others x rest others ys is = ap (λ (l : List Act). l ++ ys) is

  halts-before : (why : Stop) (rest ys : List Act) (a b : List Entry) (last : List ℕ) (s t : Told)
      → Halts why start k rest a b last s t → Halts why start k (rest ++ ys) a b last s t
  halts-before stop.WriteFault rest ys a b last s t h = record {
    begun = h.begun;
    others = h.others ++ ys;
    first = before-others h.begun rest h.others ys h.first;
    answer = h.answer;
    answers = h.answers;
    count = h.count;
    written = h.written;
    failed = h.failed;
  }
  halts-before stop.NoMemory rest ys a b last s t h = record {
    begun = h.begun;
    others = h.others ++ ys;
    first = ap (λ (l : List Act). l ++ ys) h.first ∙ append_assoc (listed h.begun) h.others ys;
    answer = h.answer;
    answers = h.answers;
    nothing = h.nothing;
  }
  halts-before (stop.Full n) rest ys a b last s t h = record {
    asked = h.asked;
    others = h.others ++ ys;
    first = before-others (act.Call h.asked) rest h.others ys h.first;
    meets = h.meets;
    count = h.count;
    written = h.written;
    all = h.all;
  }

  pub stops-before : (xs ys : List Act) (a b : List Entry) (s t : Told) (why : Stop) → StopsTalk start k xs a b s t why
      → StopsTalk start k (xs ++ ys) a b s t why
  stops-before xs ys a b s t why h = record {
    done = h.done;
    rest = h.rest ++ ys;
    splits = ap (λ (l : List Act). l ++ ys) h.splits ∙ append_assoc h.done h.rest ys;
    bytes = h.bytes;
    last = h.last;
    sends = h.sends;
    middle = h.middle;
    answers = h.answers;
    halts = halts-before why h.rest ys h.middle b h.last s t h.halts;
  }

-- ---- the fault that the server is too busy

pub sends-all : (s t : Told) (bytes : List ℕ) → Sends s t bytes → SendsSome s t bytes
sends-all s t bytes sends = record {
  last = bytes;
  sends = sends;
  count = length bytes;
  written = sym (take_all (length bytes) bytes (omega arith));
  all = inl refl;
}

pub sends-front : (s t : Told) (bytes : List ℕ) → SendsFront s t bytes → SendsSome s t bytes
sends-front s t bytes front = record {
  last = take front.count bytes;
  sends = front.sends;
  count = front.count;
  written = refl;
  all = inr front.failed;
}

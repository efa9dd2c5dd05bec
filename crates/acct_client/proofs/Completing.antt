-- A peer that spells all answers brings the dialogue to its end.
use Rattle.std.proofs.Common.{◌≡◌, ℕ, zero, suc, ◌≤◌, Bool, true, false, List, [], ◌∷◌, ◌++◌, length, Some, None}
use Rattle.std.proofs.Common.{Option}
use Rattle.std.proofs.Common.{refl, sym, ap, subst, ◌∙◌, arith, length-append, cond, inl, inr}
use Rattle.std.proofs.lemmas.Bool.{cases_Bool, true≢false}
use Rattle.std.proofs.lemmas.List.{append-nil}
use Rattle.std.specs.Io.KnownBytes.{Consumes, IsAtEnd}
use Rattle.acct_keeper.specs.Faults.{NotRisen, Rose}
use Rattle.acct_links.specs.Links.{Told}
use Rattle.client_commands.specs.declared.command.Command.{Command}
use Rattle.acct_client.specs.declared.dialogue.Progress.{Progress}
use Rattle.acct_client.specs.declared.dialogue.State.{State}
use Rattle.acct_client.specs.declared.dialogue.State.TheVariants.{Ended, Failed}
use Rattle.acct_client.specs.declared.dialogue.Talk.{Talk}
use Rattle.acct_client.specs.declared.errors.AskError.{AskError}
use Rattle.acct_client.specs.declared.errors.AskError.TheVariants as error
use Rattle.acct_client.specs.declared.hearing.Listening.{Listening}
use Rattle.acct_client.specs.Dialogues.{awaited_of, awaits, begun, is_failed, joined, progress}
use Rattle.acct_client.specs.Hearings.{listening, on}
use Rattle.acct_client.specs.Runs.{more, IsSpokenInPieces}
use Rattle.acct_client.specs.Talks.{run, run_in, run_on, spoken, BringsAll, ComesToItsEnd, Talks, most_read}
use Rattle.acct_client.specs.declared.ends.TalkEnd.{TalkEnd}
use Rattle.acct_client.specs.declared.ends.TalkEnd.TheVariants as ends
use Rattle.acct_client.proofs.Answering.{heard_on}
use Rattle.acct_client.proofs.Listened.{awaits_told}

-- ---- an answer is awaited only where one is awaited in the state

abbrev IsFit : Talk → Type 0
IsFit t = t.is_awaiting ≡ true → awaits t.state ≡ true

fit_progress : (s : State) (l : Listening) → awaits s ≡ true → (progress s l []).is_awaiting ≡ true
    → awaits (progress s l []).state ≡ true
unfolding progress
fit_progress s l e still = awaits_told s (on (awaited_of s) l []) e still

fit_on : (t : Talk) (p : Progress) (f : Talk → Talk) → (p.is_awaiting ≡ true → awaits p.state ≡ true)
    → (p.is_awaiting ≡ false → IsFit (f (joined t p))) → IsFit (run_on t p f)
fit_on t p f fits later =
    let P : Bool → Type 0 = λ b. p.is_awaiting ≡ b → IsFit (cond b (joined t p) (f (joined t p))) in
    let split : (b : Bool) → P b = λ b. elim b as P [
      | true ↦ λ e. fits
      | false ↦ λ e. later e
    ] in
    split p.is_awaiting refl

fit_in : (n : ℕ) (t : Talk) → IsFit t → IsFit (run_in n t)
unfolding run_in
fit_in zero t fit = fit
fit_in (suc n) t fit =
    let p : Progress = progress t.state t.left [] in
    let B : Bool → Talk = λ b. cond b (run_on t p (λ next. run_in n next)) t in
    elim (cases_Bool (awaits t.state)) [
      | inl on_it ↦ subst (λ (b : Bool). IsFit (B b)) (sym on_it)
          (fit_on t p (λ next. run_in n next) (fit_progress t.state t.left on_it)
          (λ idle. fit_in n (joined t p) (λ still. absurd (true≢false (sym still ∙ idle)))))
      | inr off ↦ subst (λ (b : Bool). IsFit (B b)) (sym off) fit
    ]

fit_spoken : (command : Command) (stream : List ℕ) → IsFit (spoken command stream)
unfolding run
fit_spoken command stream =
    fit_in (suc (length stream)) (record (begun command) { left = listening 0 None stream })
    (λ still. absurd (true≢false (sym still)))

-- at its end a dialogue awaits nothing
ended_idle : (command : Command) (peer : List ℕ) → (spoken command peer).state ≡ Ended
    → (spoken command peer).is_awaiting ≡ true → ⊥
ended_idle command peer ended still = true≢false (sym (fit_spoken command peer still) ∙ ap awaits ended)

-- ---- an error stands, whatever follows

stands : (t : Talk) → awaits t.state ≡ false → run t ≡ t
unfolding run run_in
stands t e = ap (λ (b : Bool). cond b
    (run_on t (progress t.state t.left []) (λ next. run_in (length t.left.rest) next)) t) e

failed_on : IsSpokenInPieces → (command : Command) (stream rest : List ℕ) (e : AskError)
    → (spoken command stream).state ≡ Failed e → (spoken command (stream ++ rest)).state ≡ Failed e
failed_on pieces command stream rest e failed =
    let t : Talk = spoken command stream in
    let same : more t rest ≡ t = ap (λ (b : Bool). cond b t (record t { left = heard_on t.left rest }))
    (ap is_failed failed) in
    ap (λ (u : Talk). u.state) (pieces (record (begun command) { left = listening 0 None stream }) rest
    ∙ ap run same ∙ stands t (ap awaits failed)) ∙ failed

failed_never : IsSpokenInPieces → (command : Command) (peer received rest : List ℕ) (e : AskError)
    → peer ≡ received ++ rest → (spoken command peer).state ≡ Ended
    → (spoken command received).state ≡ Failed e → ⊥
failed_never pieces command peer received rest e splits ended failed =
    let wrong : (spoken command peer).state ≡ Failed e =
    ap (λ (x : List ℕ). (spoken command x).state) splits ∙ failed_on pieces command received rest e failed in
    true≢false (sym (ap is_failed wrong) ∙ ap is_failed ended)

-- ---- what is left of the peer's bytes

record Splits (left : Option (List ℕ)) (peer received : List ℕ) : Type 0 where
  rest : List ℕ
  is : left ≡ Some rest
  splits : peer ≡ received ++ rest

left_over : (left : Option (List ℕ)) (peer received : List ℕ) → Consumes (Some peer) left received
    → Splits left peer received
left_over None peer received c = absurd c
left_over (Some rest) peer received c = record { rest = rest; is = refl; splits = c }

splits_of : (command : Command) (end : TalkEnd) (old new : Told) (lines peer : List ℕ)
    (t : Talks command end old new lines) → BringsAll command old new peer → Splits new.left peer t.received
splits_of command end old new lines peer t b = left_over new.left peer t.received
    (subst (λ (x : Option (List ℕ)). Consumes x new.left t.received) b.tells t.consumed)

-- where all was read, nothing is awaited
read_all : (command : Command) (peer received rest : List ℕ) → peer ≡ received ++ rest → rest ≡ []
    → (spoken command peer).state ≡ Ended → (spoken command received).is_awaiting ≡ true → ⊥
read_all command peer received rest splits none ended still =
    let all : peer ≡ received = splits ∙ ap (λ (x : List ℕ). received ++ x) none ∙ append-nil received in
    ended_idle command peer ended (ap (λ (x : List ℕ). (spoken command x).is_awaiting) all ∙ still)

none_left : (received rest : List ℕ) → length (received ++ rest) ≤ most_read → length received ≡ most_read → rest ≡ []
none_left received [] le e = refl
none_left received (x ∷ rest) le e = let len = length-append received (x ∷ rest) in absurd (omega (arith, le, e, len))

not_risen : (before now : ℕ) → NotRisen before now → Rose before now → ⊥
not_risen before now n r = omega (arith, n.0, n.1, r)

pub comes_to_its_end : IsSpokenInPieces → ComesToItsEnd
comes_to_its_end pieces command ends.Done old new lines peer t b = tt
comes_to_its_end pieces command ends.NoMemory old new lines peer t b = tt
comes_to_its_end pieces command (ends.PeerBytes place) old new lines peer t b =
    let s = splits_of command (ends.PeerBytes place) old new lines peer t b in
    failed_never pieces command peer t.received s.rest (error.PeerBytes place) s.splits b.spells t.ends
comes_to_its_end pieces command ends.PeerFault old new lines peer t b =
    let s = splits_of command ends.PeerFault old new lines peer t b in
    elim t.ends.2 [
      | inl rose ↦ elim rose [
        | inl r ↦ not_risen old.read_faults new.read_faults b.reads r
        | inr r ↦ not_risen old.write_faults new.write_faults b.writes r
      ]
      | inr ended ↦ read_all command peer t.received s.rest s.splits
          (subst (λ (x : Option (List ℕ)). IsAtEnd x) s.is ended.none_left) b.spells t.ends.0
    ]
comes_to_its_end pieces command ends.InputTooLong old new lines peer t b =
    let s = splits_of command ends.InputTooLong old new lines peer t b in
    read_all command peer t.received s.rest s.splits
    (none_left t.received s.rest (subst (λ (x : List ℕ). length x ≤ most_read) s.splits b.within) t.ends.1)
    b.spells t.ends.0
comes_to_its_end pieces command (ends.Refused status) old new lines peer t b =
    let s = splits_of command (ends.Refused status) old new lines peer t b in
    elim t.ends [
      | inl failed ↦ failed_never pieces command peer t.received s.rest (error.Refused status) s.splits b.spells failed
      | inr failed ↦
          failed_never pieces command peer t.received s.rest (error.PeerFault status) s.splits b.spells failed
    ]

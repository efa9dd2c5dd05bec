-- What was read and sent over a link so far.
use Rattle.std.proofs.Common.{◌≡◌, ℕ, zero, suc, ◌+◌, ◌≤◌, Bool, true, false, List, [], ◌∷◌, ◌++◌, length, take}
use Rattle.std.proofs.Common.{Option, Some, None, refl, sym, ap, subst, ◌∙◌, append_assoc, arith, length-append}
use Rattle.std.proofs.Common.{min, inl, inr}
use Rattle.std.proofs.lemmas.Bool.{true≢false}
use Rattle.std.proofs.lemmas.List.{append-nil, take-append-le, take_all}
use Rattle.std.specs.Io.KnownBytes.{Appends, Consumes}
use Rattle.acct_keeper.specs.Faults.{Rose}
use Rattle.acct_links.specs.Links.{Told, Sends, SendsFront}
use Rattle.acct_client.specs.steps.Parts.{AsksBy, IsPieceRead, IsUnread, LinkSoFar, SentSoFar}
use Rattle.acct_client.specs.Talks.{SendsBy}
use Rattle.acct_client.specs.declared.ends.TalkEnd.{TalkEnd}
use Rattle.acct_client.specs.declared.ends.TalkEnd.TheVariants.{Done, NoMemory, PeerBytes, PeerFault, InputTooLong}
use Rattle.acct_client.specs.declared.ends.TalkEnd.TheVariants.{Refused}

pub Appends-none : (a : Option (List ℕ)) → Appends a a []
Appends-none None = tt
Appends-none (Some xs) = sym (append-nil xs)

pub Appends-then : (a b c : Option (List ℕ)) (x y : List ℕ) → Appends a b x → Appends b c y → Appends a c (x ++ y)
Appends-then None b c x y p q = tt
Appends-then (Some xs) None c x y p q = absurd p
Appends-then (Some xs) (Some ys) None x y p q = absurd q
Appends-then (Some xs) (Some ys) (Some zs) x y p q = q ∙ ap (λ (t : List ℕ). t ++ y) p ∙ append_assoc xs x y

pub Consumes-none : (a : Option (List ℕ)) → Consumes a a []
Consumes-none None = tt
Consumes-none (Some xs) = refl

pub Consumes-then : (a b c : Option (List ℕ)) (x y : List ℕ) → Consumes a b x → Consumes b c y → Consumes a c (x ++ y)
Consumes-then None b c x y p q = tt
Consumes-then (Some xs) None c x y p q = absurd p
Consumes-then (Some xs) (Some ys) None x y p q = absurd q
Consumes-then (Some xs) (Some ys) (Some zs) x y p q =
    p ∙ ap (λ (t : List ℕ). x ++ t) q ∙ sym (append_assoc x y zs)

rose-later : (a b c : ℕ) → a ≤ b → Rose b c → Rose a c
rose-later a b c le r = omega (arith, le, r)

-- ---- what was sent

-- a prefix of what was to be sent is one also where there is more
front-more : (n : ℕ) (x y : List ℕ) → n ≤ length x → take n (x ++ y) ≡ take n x
front-more n x y le = take-append-le n x y le

sent-same : (cut : Bool) (old now new : Told) (bytes : List ℕ) → new.sent ≡ now.sent
    → new.write_faults ≡ now.write_faults → SentSoFar cut old now bytes → SentSoFar cut old new bytes
sent-same false old now new bytes same faults s =
    subst (λ (x : Option (List ℕ)). Appends old.sent x bytes) (sym same) s
sent-same true old now new bytes same faults s = (
  s.0,
  s.1,
  subst (λ (x : Option (List ℕ)). Appends old.sent x (take s.0 bytes)) (sym same) s.2,
  subst (λ (x : ℕ). Rose old.write_faults x) (sym faults) s.3,
)

-- after a failed write nothing more is sent
pub sent-cut : (old now : Told) (before bytes : List ℕ) → SentSoFar true old now before
    → SentSoFar true old now (before ++ bytes)
sent-cut old now before bytes s = let len = length-append before bytes in (
  s.0,
  omega (arith, s.1, len),
  subst (λ (x : List ℕ). Appends old.sent now.sent x) (sym (front-more s.0 before bytes s.1)) s.2,
  s.3,
)

pub sent-whole : (old now new : Told) (before bytes : List ℕ) → SentSoFar false old now before → Sends now new bytes
    → SentSoFar false old new (before ++ bytes)
sent-whole old now new before bytes s w = Appends-then old.sent now.sent new.sent before bytes s w.sent

-- a prefix of some bytes, after others
take-behind : (x y : List ℕ) (n : ℕ) → x ++ take n y ≡ take (length x + n) (x ++ y)
take-behind [] y n = let same : 0 + n ≡ n = omega arith in rw same refl
take-behind (b ∷ x) y n = let same : suc (length x) + n ≡ suc (length x + n) =
    omega arith in rw same (ap (λ (bs : List ℕ). b ∷ bs) (take-behind x y n))

take-within : (n : ℕ) (y : List ℕ) → take n y ≡ take (min n (length y)) y
take-within zero y = let same : min 0 (length y) ≡ 0 = omega arith in rw same refl
take-within (suc n) [] = let same : min (suc n) 0 ≡ 0 = omega arith in rw same refl
take-within (suc n) (b ∷ y) = let same : min (suc n) (suc (length y)) ≡ suc (min n (length y)) =
    omega arith in rw same (ap (λ (bs : List ℕ). b ∷ bs) (take-within n y))

pub sent-front : (old now new : Told) (before bytes : List ℕ) → old.write_faults ≤ now.write_faults
    → SentSoFar false old now before → SendsFront now new bytes → SentSoFar true old new (before ++ bytes)
sent-front old now new before bytes le s f =
    let m : ℕ = min f.count (length bytes) in
    let len = length-append before bytes in
    let all : before ++ take f.count bytes ≡ take (length before + m) (before ++ bytes) =
    ap (λ (bs : List ℕ). before ++ bs) (take-within f.count bytes) ∙ take-behind before bytes m in (
      length before + m,
      omega (arith, len),
      subst (λ (bs : List ℕ). Appends old.sent new.sent bs) all
          (Appends-then old.sent now.sent new.sent before (take f.count bytes) s f.sends.sent),
      rose-later old.write_faults now.write_faults new.write_faults le f.failed,
    )

-- by whether a write has failed before
pub sent-cut-by : (cut : Bool) (old now : Told) (before bytes : List ℕ) → cut ≡ true → SentSoFar cut old now before
    → SentSoFar cut old now (before ++ bytes)
sent-cut-by true old now before bytes e s = sent-cut old now before bytes s
sent-cut-by false old now before bytes e s = absurd (true≢false (sym e))

pub sent-whole-by : (cut : Bool) (old now new : Told) (before bytes : List ℕ) → cut ≡ false
    → SentSoFar cut old now before → Sends now new bytes → SentSoFar cut old new (before ++ bytes)
sent-whole-by true old now new before bytes e s w = absurd (true≢false e)
sent-whole-by false old now new before bytes e s w = sent-whole old now new before bytes s w

pub sent-front-by : (cut : Bool) (old now new : Told) (before bytes : List ℕ) → cut ≡ false
    → old.write_faults ≤ now.write_faults → SentSoFar cut old now before → SendsFront now new bytes
    → SentSoFar true old new (before ++ bytes)
sent-front-by true old now new before bytes e le s f = absurd (true≢false e)
sent-front-by false old now new before bytes e le s f = sent-front old now new before bytes le s f

-- ---- both directions

pub reads-piece : (old now new : Told) (room room' : ℕ) (cut : Bool) (received bytes piece : List ℕ)
    → room' + length piece ≡ room → LinkSoFar old now room cut received bytes → IsPieceRead now new piece
    → LinkSoFar old new room' cut (received ++ piece) bytes
reads-piece old now new room room' cut received bytes piece less s p =
    let len = length-append received piece in record {
      appended = Appends-then old.received now.received new.received received piece s.appended p.received;
      consumed = Consumes-then old.left now.left new.left received piece s.consumed p.left;
      room = omega (arith, len, s.room, less);
      reads = omega (arith, s.reads, p.reads);
      writes = omega (arith, s.writes, p.writes);
      sent = sent-same cut old now new bytes p.sent p.writes s.sent;
    }

pub sends-request : (old now new : Told) (room : ℕ) (cut cut' : Bool) (received bytes more : List ℕ)
    → LinkSoFar old now room cut received bytes → IsUnread now new → SentSoFar cut' old new (bytes ++ more)
    → LinkSoFar old new room cut' received (bytes ++ more)
sends-request old now new room cut cut' received bytes more s u sent = record {
  appended = subst (λ (x : Option (List ℕ)). Appends old.received x received) (sym u.received) s.appended;
  consumed = subst (λ (x : Option (List ℕ)). Consumes old.left x received) (sym u.left) s.consumed;
  room = s.room;
  reads = omega (arith, s.reads, u.reads);
  writes = omega (arith, s.writes, u.writes);
  sent = sent;
}

-- ---- what was sent at the end

sends-all : (cut : Bool) (old now : Told) (bytes all : List ℕ) → all ≡ bytes → SentSoFar cut old now bytes
    → SendsBy Done old now all
sends-all false old now bytes all same s =
    inl (subst (λ (x : List ℕ). Appends old.sent now.sent x) (sym same) s)
sends-all true old now bytes all same s =
    inr (s.0, subst (λ (x : List ℕ). Appends old.sent now.sent (take s.0 x)) (sym same) s.2, s.3)

sends-some : (cut : Bool) (old now : Told) (bytes later all : List ℕ) → all ≡ bytes ++ later
    → SentSoFar cut old now bytes → SendsBy NoMemory old now all
sends-some false old now bytes later all same s = (
  length bytes,
  subst (λ (x : List ℕ). Appends old.sent now.sent x) (sym (ap (take (length bytes)) same
      ∙ front-more (length bytes) bytes later (omega arith) ∙ take_all (length bytes) bytes (omega arith))) s,
)
sends-some true old now bytes later all same s = (
  s.0,
  subst (λ (x : List ℕ). Appends old.sent now.sent x) (sym (ap (take s.0) same ∙ front-more s.0 bytes later s.1)) s.2,
)

pub sends-by : (end : TalkEnd) (cut : Bool) (old now : Told) (bytes all : List ℕ) → AsksBy end bytes all
    → SentSoFar cut old now bytes → SendsBy end old now all
sends-by Done cut old now bytes all a s = sends-all cut old now bytes all a s
sends-by NoMemory cut old now bytes all a s = sends-some cut old now bytes a.0 all a.1 s
sends-by (PeerBytes place) cut old now bytes all a s = sends-all cut old now bytes all a s
sends-by PeerFault cut old now bytes all a s = sends-all cut old now bytes all a s
sends-by InputTooLong cut old now bytes all a s = sends-all cut old now bytes all a s
sends-by (Refused status) cut old now bytes all a s = sends-all cut old now bytes all a s

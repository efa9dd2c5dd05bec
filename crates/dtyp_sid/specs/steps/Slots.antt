-- How the sub-authorities lie in slots, as many as a SID may have: from the beginning, with zeros after them
use Rattle.std.specs.Prelude.{◌≡◌, ℕ, suc, ◌+◌, ◌-◌, ◌<◌, ◌≤◌, List, ◌∷◌, ◌++◌, length, replicate, take, drop}
use Rattle.std.proofs.Common.{ap, ◌∙◌, sym, arith, set}
use Rattle.std.proofs.lemmas.List.{length-take-le, take-append-drop, drop-set-lt, drop-drop, drop-replicate, drop-set}
use Rattle.std.proofs.Math.ListN.{length-set}
use Rattle.dtyp_sid.specs.Sids.{sid_max_sub_authorities}

-- the slots of a list of sub-authorities
abbrev pub slots_of : List ℕ → List ℕ
slots_of subs = subs ++ replicate (sid_max_sub_authorities - length subs) 0

-- a count of slots, of which those after it are zero
pub record AreSlots (count : ℕ) (slots : List ℕ) : Type 0 where
  pub count_fits : count ≤ sid_max_sub_authorities
  pub all_there : length slots ≡ sid_max_sub_authorities
  pub zeros : drop count slots ≡ replicate (sid_max_sub_authorities - count) 0

pub length_taken : (count : ℕ) (slots : List ℕ) → AreSlots count slots → length (take count slots) ≡ count
length_taken count slots are = length-take-le count slots (omega arith)

pub slots_of_taken : (count : ℕ) (slots : List ℕ) → AreSlots count slots → slots_of (take count slots) ≡ slots
slots_of_taken count slots are =
    rw (length_taken count slots are, ← are.zeros) (take-append-drop count slots)

-- one more slot is taken
pub pushed : (count : ℕ) (slots : List ℕ) (sub : ℕ) → AreSlots count slots → count < sid_max_sub_authorities
    → AreSlots (count + 1) (set slots count sub)
pushed count slots sub are room = record {
  count_fits = omega arith;
  all_there = length-set slots count sub ∙ are.all_there;
  zeros =
      drop-set-lt (count + 1) slots count sub (omega arith)
      ∙ sym (drop-drop 1 count slots)
      ∙ ap (drop 1) are.zeros
      ∙ drop-replicate 1 (sid_max_sub_authorities - count) 0
      ∙ (let one_less : sid_max_sub_authorities - count - 1 ≡ sid_max_sub_authorities - (count + 1) = omega arith in
      ap (λ n. replicate n 0) one_less);
}

-- the last slot that is taken is freed
pub popped : (count last : ℕ) (slots : List ℕ) → AreSlots count slots → last + 1 ≡ count →
    AreSlots last (set slots last 0)
popped count last slots are before = record {
  count_fits = omega arith;
  all_there = length-set slots last 0 ∙ are.all_there;
  zeros =
      drop-set slots last 0 (omega arith)
      ∙ ap (λ rest. 0 ∷ rest) (ap (λ n. drop n slots) before ∙ are.zeros)
      ∙ (let one_more : suc (sid_max_sub_authorities - count) ≡ sid_max_sub_authorities - last = omega arith in
      ap (λ n. replicate n 0) one_more);
}

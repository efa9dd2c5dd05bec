-- The lines of names and of SIDs, one after the other.
use Rattle.std.proofs.Common.{◌≡◌, ℕ, zero, suc, ◌+◌, ◌<◌, List, [], ◌∷◌, ◌++◌, length, drop, get_or, slice_get, refl}
use Rattle.std.proofs.Common.{ap, ◌∙◌}
use Rattle.std.proofs.Common.{arith}
use Rattle.acct_calls.specs.declared.lists.TranslatedName.{TranslatedName}
use Rattle.acct_calls.specs.declared.lists.TranslatedSid.{TranslatedSid}
use Rattle.client_commands.specs.declared.command.SidWord.{SidWord}
use Rattle.client_commands.specs.Outcomes.{entry_or_unmapped, name_line, sid_line, name_lines, sid_lines}

-- the lines from a place on are the line at the place, and those after it
name_more : (names : List (List ℕ)) (entries : List TranslatedSid) (i : ℕ) (d : List ℕ) → i < length names
    → name_lines (drop i names) (drop i entries)
    ≡ name_line (get_or names i d) (entry_or_unmapped (slice_get entries i))
    ++ name_lines (drop (suc i) names) (drop (suc i) entries)
name_more [] entries i d lt = absurd (omega (arith, lt))
name_more (name ∷ names) [] zero d lt = refl
name_more (name ∷ names) (entry ∷ entries) zero d lt = refl
name_more (name ∷ names) [] (suc zero) d lt = name_more names [] zero d (omega (arith, lt))
name_more (name ∷ names) [] (suc (suc i)) d lt = name_more names [] (suc i) d (omega (arith, lt))
name_more (name ∷ names) (entry ∷ entries) (suc i) d lt = name_more names entries i d (omega (arith, lt))

sid_more : (sids : List SidWord) (entries : List TranslatedName) (i : ℕ) (d : SidWord) → i < length sids
    → sid_lines (drop i sids) (drop i entries)
    ≡ sid_line (get_or sids i d) (slice_get entries i) ++ sid_lines (drop (suc i) sids) (drop (suc i) entries)
sid_more [] entries i d lt = absurd (omega (arith, lt))
sid_more (sid ∷ sids) [] zero d lt = refl
sid_more (sid ∷ sids) (entry ∷ entries) zero d lt = refl
sid_more (sid ∷ sids) [] (suc zero) d lt = sid_more sids [] zero d (omega (arith, lt))
sid_more (sid ∷ sids) [] (suc (suc i)) d lt = sid_more sids [] (suc i) d (omega (arith, lt))
sid_more (sid ∷ sids) (entry ∷ entries) (suc i) d lt = sid_more sids entries i d (omega (arith, lt))

suc-is : (i : ℕ) → suc i ≡ i + 1
suc-is i = omega arith

pub name_step : (names : List (List ℕ)) (entries : List TranslatedSid) (i : ℕ) (d : List ℕ) → i < length names
    → name_lines (drop i names) (drop i entries)
    ≡ name_line (get_or names i d) (entry_or_unmapped (slice_get entries i))
    ++ name_lines (drop (i + 1) names) (drop (i + 1) entries)
name_step names entries i d lt = name_more names entries i d lt
    ∙ ap (λ n. name_line (get_or names i d) (entry_or_unmapped (slice_get entries i))
    ++ name_lines (drop n names) (drop n entries)) (suc-is i)

pub sid_step : (sids : List SidWord) (entries : List TranslatedName) (i : ℕ) (d : SidWord) → i < length sids
    → sid_lines (drop i sids) (drop i entries)
    ≡ sid_line (get_or sids i d) (slice_get entries i) ++ sid_lines (drop (i + 1) sids) (drop (i + 1) entries)
sid_step sids entries i d lt = sid_more sids entries i d lt
    ∙ ap (λ n. sid_line (get_or sids i d) (slice_get entries i) ++ sid_lines (drop n sids) (drop n entries)) (suc-is i)

-- The SIDs of words, one after the other.
use Rattle.std.proofs.Common.{◌≡◌, ℕ, List, [], ◌∷◌, ◌++◌, Option, Some, None, refl, sym, ap, ◌∙◌, append_assoc}
use Rattle.std.proofs.lemmas.List.{append-nil}
use Rattle.client_commands.specs.declared.command.SidWord.{SidWord}
use Rattle.client_commands.specs.Words.{before, sid_word, all_sids}

-- these SIDs, and others after them where there are any
abbrev pub onto : List SidWord → Option (List SidWord) → Option (List SidWord)
onto done None = None
onto done (Some sids) = Some (done ++ sids)

onto_before : (done : List SidWord) (sid : SidWord) (rest : Option (List SidWord))
    → onto (done ++ sid ∷ []) rest ≡ onto done (before (Some sid) rest)
onto_before done sid None = refl
onto_before done sid (Some sids) = ap Some (append_assoc done (sid ∷ []) sids)

-- one more word
pub one_more : (done : List SidWord) (sid : SidWord) (word : List ℕ) (words : List (List ℕ))
    → sid_word word ≡ Some sid → onto (done ++ sid ∷ []) (all_sids words) ≡ onto done (all_sids (word ∷ words))
one_more done sid word words e = onto_before done sid (all_sids words)
    ∙ ap (λ s. onto done (before s (all_sids words))) (sym e)

-- a word that is no SID
pub none_at : (done : List SidWord) (word : List ℕ) (words : List (List ℕ))
    → sid_word word ≡ None → onto done (all_sids (word ∷ words)) ≡ None
none_at done word words e = ap (λ s. onto done (before s (all_sids words))) e

pub onto_nothing : (done : List SidWord) → onto done (Some []) ≡ Some done
onto_nothing done = ap Some (append-nil done)

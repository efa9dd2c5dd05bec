-- What the laws of the machine as a gate say: a history is its own prefix, and whatever is said of a connection is the
-- same in the same history.
use Rattle.std.proofs.Common.{◌≡◌, ℕ, List, [], refl, sym, ◌∙◌, subst}
use Rattle.std.proofs.lemmas.List.{append-nil}
use Rattle.acct_machine.specs.State.{Start}
use Rattle.acct_machine.specs.declared.entry.Entry.{Entry}
use Rattle.acct_machine.specs.Passing.{KeepsConnection}
use Rattle.link_sessions.specs.Transcript.{IsFrontOf}

pub fronts-same : (known found : List Entry) → found ≡ known → IsFrontOf known found
fronts-same known found same = ([], same ∙ sym (append-nil known))

pub passes-same : (start : Start) (k : ℕ) (known found : List Entry) → found ≡ known
    → KeepsConnection start k known found
passes-same start k known found same =
    subst (λ (h : List Entry). KeepsConnection start k known h) (sym same)
    (record { calls = refl; replies = refl; live = refl })

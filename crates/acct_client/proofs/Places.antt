-- The same place of the rest, counted from the start.
use Rattle.std.proofs.Common.{◌≡◌, ℕ, ◌+◌, List, drop, Option, sym, ap, ◌∙◌, arith}
use Rattle.std.proofs.lemmas.List.{drop-drop}
use Rattle.acct_client.specs.declared.answers.Awaited.{Awaited}
use Rattle.acct_client.specs.declared.answers.PartialReply.{PartialReply}
use Rattle.acct_client.specs.Hearings.{hear}

pub dropped : (size at : ℕ) (bytes : List ℕ) → drop size (drop at bytes) ≡ drop (at + size) bytes
dropped size at bytes = drop-drop size at bytes

pub moved : (w : Awaited) (place at size : ℕ) (g : Option PartialReply) (bytes : List ℕ)
    → hear w (place + (at + size)) g (drop (at + size) bytes) ≡ hear w (place + at + size) g (drop size (drop at bytes))
moved w place at size g bytes =
    let sum : place + (at + size) ≡ place + at + size = omega arith in
    ap (λ (n : ℕ). hear w n g (drop (at + size) bytes)) sum
    ∙ ap (λ (x : List ℕ). hear w (place + at + size) g x) (sym (dropped size at bytes))

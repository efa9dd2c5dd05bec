-- Of the calls of a legal history, which were denied access.
use Rattle.std.proofs.Common.{List, [], ◌∷◌, ◌++◌, sym, subst, append_assoc}
use Rattle.std.proofs.lemmas.List.{append-nil}
use Rattle.acct_machine.specs.State.{Start}
use Rattle.acct_machine.specs.declared.entry.Entry.{Entry}
use Rattle.acct_machine.specs.declared.entry.Entry.TheVariants.{Called}
use Rattle.acct_machine.specs.Step.{state_at}
use Rattle.acct_machine.specs.Legal.{May, LegalAfter, Legal, DeniesExactly, DeniesRan}
use Rattle.acct_server.specs.Begun.{DeniesExactlyIn}

-- an entry of a legal history may come after those before it
pub may-after : (start : Start) (behind front after : List Entry) (e : Entry)
    → LegalAfter start behind (front ++ e ∷ after) → May start (behind ++ front) e
may-after start behind [] after e legal = subst (λ (h : List Entry). May start h e) (sym (append-nil behind)) legal.0
may-after start behind (x ∷ front) after e legal =
    subst (λ (h : List Entry). May start h e) (append_assoc behind (x ∷ []) front)
    (may-after start (behind ++ x ∷ []) front after e legal.1)

pub denies-in : DeniesExactly → DeniesRan → (start : Start) (history : List Entry) → Legal start history
    → DeniesExactlyIn start history
denies-in exactly ran start history legal = record {
  exactly = λ before conn call o stands. exactly (state_at start before) conn call o stands.operation;
  ran = λ before conn call verdict o stands denied.
      let whole : LegalAfter start [] (before ++ Called conn call verdict stands.bytes ∷ stands.after) =
      subst (λ (h : List Entry). LegalAfter start [] h) stands.stands legal in
      ran start before conn call verdict stands.bytes o
      (may-after start [] before stands.after (Called conn call verdict stands.bytes) whole) stands.operation
      denied;
}

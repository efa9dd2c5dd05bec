-- Prefixes of histories, one after the other.
use Rattle.std.proofs.Common.{List, [], ◌++◌, sym, ◌∙◌, ap, append_assoc}
use Rattle.std.proofs.lemmas.List.{append-nil}
use Rattle.acct_machine.specs.declared.entry.Entry.{Entry}
use Rattle.link_sessions.specs.Transcript.{IsFrontOf}

pub front-same : (h : List Entry) → IsFrontOf h h
front-same h = ([], sym (append-nil h))

pub front-then : (a b c : List Entry) → IsFrontOf a b → IsFrontOf b c → IsFrontOf a c
front-then a b c one two =
    (one.0 ++ two.0, two.1 ∙ ap (λ (l : List Entry). l ++ two.0) one.1 ∙ append_assoc a one.0 two.0)

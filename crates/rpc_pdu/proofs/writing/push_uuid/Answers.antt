-- A UUID that is read with its low bytes first is written with the bytes of its first three fields turned round.
use Rattle.std.proofs.Common.{◌∙◌, ◌++◌, List, ℕ, ap}
use Rattle.std.proofs.lemmas.Result.{on_ok_weaker}
use Rattle.rpc_pdu.proofs.writing.push_uuid.Goals as goal

pub returns-clause-bytes : goal.returns-clause-bytes
returns-clause-bytes c =
    on_ok_weaker c.push_bytes.result
    (λ put. put ∙ ap (λ (x : List ℕ). c.args.out.now.items ++ x) (c.into_bytes.ensures ∙ c.from_bytes_le.ensures))
    c.push_bytes.ensures

-- The UUID's bytes, and after them the version's, are the bytes of the syntax.
use Rattle.std.proofs.Common.{◌∙◌, ◌++◌, List, ℕ, ap, append_assoc}
use Rattle.std.proofs.lemmas.Result.{on_ok_weaker}
use Rattle.uuid.specs.Parts.{swap_fields}
use Rattle.rpc_pdu.specs.Headers.{u32_bytes, syntax_bytes}
use Rattle.rpc_pdu.proofs.writing.push_syntax.Goals as goal

pub returns-clause-bytes : goal.returns-clause-bytes
unfolding syntax_bytes
returns-clause-bytes c =
    let id = c.args.syntax.now.id in
    let version = u32_bytes c.args.syntax.now.version in
    on_ok_weaker c.push_u32.result
    (λ put. put ∙ ap (λ (x : List ℕ). x ++ version) (c.in_ok-push_uuid.ensures.bytes
    ∙ ap (λ (x : List ℕ). c.args.out.now.items ++ swap_fields x) c.as_bytes.ensures)
    ∙ append_assoc c.args.out.now.items (swap_fields id) version)
    c.push_u32.ensures

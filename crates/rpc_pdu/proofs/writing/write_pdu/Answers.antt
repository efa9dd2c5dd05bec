-- The size fits 16 bits, header and body are the bytes of the PDU, and its reader gets the PDU back.
use Rattle.std.proofs.Common.{◌≡◌, List, ℕ, ◌++◌, length, ap, ◌∙◌, arith, w16, rules}
use Rattle.std.proofs.Math.Facts.{Fits-of_lt}
use Rattle.rpc_pdu.specs.Written.{body_bytes}
use Rattle.rpc_pdu.proofs.WrittenPdu.{read_back, size_from, written_from}
use Rattle.rpc_pdu.proofs.writing.write_pdu.Goals as goal

pub overflow_cast-size : goal.overflow_cast-size
overflow_cast-size c =
    let body : c.push_body.new.out.items ≡ body_bytes c.args.pdu.now = c.in_ok-push_body.ensures.bytes
    ∙ ap (λ (x : List ℕ). x ++ body_bytes c.args.pdu.now) c.new-body.ensures.items in
    let counted : c.len.result ≡ length c.push_body.new.out.items = search rules in
    let is = size_from c.args.pdu.now c.push_body.new.out.items c.len.result body counted in
    let le = c.requires.size in
    Fits-of_lt {w = w16} (omega (arith, is, le))

pub returns-clause-bytes : goal.returns-clause-bytes
returns-clause-bytes c =
    let body : c.push_body.new.out.items ≡ body_bytes c.args.pdu.now = c.in_ok-push_body.ensures.bytes
    ∙ ap (λ (x : List ℕ). x ++ body_bytes c.args.pdu.now) c.new-body.ensures.items in
    let counted : c.len.result ≡ length c.push_body.new.out.items = search rules in
    c.in_ok-push_bytes.ensures
    ∙ ap (λ (x : List ℕ). c.push_header.new.out.items ++ x) c.deref.ensures.value
    ∙ written_from c.args.pdu.now c.type_of.result c.flags_of.result c.len.result c.call_id.result
    c.push_body.new.out.items c.push_header.new.out.items body counted c.type_of.ensures c.flags_of.ensures
    c.call_id.ensures
    (rw c.new-out.ensures.items at c.in_ok-push_header.ensures)

pub returns-clause-back : goal.returns-clause-back
returns-clause-back c = read_back c.args.pdu.now c.in_ok-push_body.ensures.whole

-- The bytes that are written are read as the same parts, no other bytes after them.
use Rattle.std.proofs.Common.{◌≡◌, ◌∙◌, [], ap, sym, Ok}
use Rattle.std.proofs.lemmas.List.{append-nil}
use Rattle.std.proofs.lemmas.Result.{IfOk-weaker}
use Rattle.dtyp_access.specs.Reading.{parts_of_bytes}
use Rattle.dtyp_access.specs.Parts.{parts_bytes}
use Rattle.dtyp_access.proofs.write.write_parts.Goals as goal

pub returns-clause-read_back : goal.returns-clause-read_back
returns-clause-read_back c =
    let p = c.args.parts.now in
    IfOk-weaker c.bytes_of_parts.result (λ bytes. bytes.items ≡ parts_bytes p)
    (λ bytes. parts_of_bytes bytes.items ≡ Ok p)
    (λ bytes is. ap parts_of_bytes (is ∙ sym (append-nil (parts_bytes p)))
    ∙ c.written_parts_are_read.ensures p [] c.keep_limits.ensures)
    c.bytes_of_parts.ensures

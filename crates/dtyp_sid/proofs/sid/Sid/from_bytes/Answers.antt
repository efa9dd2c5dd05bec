-- Bytes of which a SID was read begin with the bytes of this SID.
use Rattle.std.proofs.Common.{◌≡◌, ap, ◌∙◌, arith, drop, subst, w8}
use Rattle.std.specs.Prelude.{slice_index}
use Rattle.std.proofs.Math.Facts.{Fits-lt-pow}
use Rattle.dtyp_sid.specs.Sids.{SidValue, authority_at_front, subs_at_front, BeginWithSid}
use Rattle.dtyp_sid.proofs.SidBytes.{spelled}
use Rattle.dtyp_sid.proofs.sid.Sid.from_bytes.Goals as goal

pub returns-clause-spelled : goal.returns-clause-spelled
returns-clause-spelled c =
    let bytes = c.args.bytes.now in
    let authority : c.authority_at_front-authority.result ≡ authority_at_front (drop 2 bytes) =
    c.authority_at_front-authority.ensures.value ∙ ap authority_at_front c.rest_of.ensures.value in
    let subs : subs_at_front c.from-count.result c.rest_of-2.result.now
    ≡ subs_at_front (slice_index bytes 1) (drop 8 bytes) = cc (c.from-count.ensures, c.rest_of-2.ensures.value) in
    let sid : SidValue = record {
      authority = authority_at_front (drop 2 bytes);
      subs =
          subs_at_front (slice_index bytes 1) (drop 8 bytes);
    } in
    let same : sid ≡ c.from_front.result = cc (c.from_front.ensures) in
    subst (λ (sid : SidValue). BeginWithSid bytes sid) same
    (spelled bytes (omega arith) (omega (arith, c.if-bytes-ne-SID_REVISION.false))
    (omega (arith, c.if-bytes-count.false, c.from-count.ensures)) (λ i. Fits-lt-pow {w = w8} (c.type_inv.bytes i)))

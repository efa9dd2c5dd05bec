-- The place in the table finds the privilege.
use Rattle.std.proofs.Common.{sym, ◌∙◌, ap, slice_get, arith}
use Rattle.lsad_rights.specs.Rights.{privileges}
use Rattle.lsad_rights.proofs.Finding.{low-found, low-missing, got}
use Rattle.lsad_rights.proofs.privileges.KnownPrivilege.of_low.Goals as goal

pub returns-in_err-place : goal.returns-in_err-place
returns-in_err-place c =
    c.from_residual.ensures ∙ sym (low-missing c.args.low (omega (arith, c.in_err-place.ensures)))

pub returns : goal.returns
returns c =
    c.copied.ensures
    ∙ got c.get.result c.all.result.now c.in_ok-place.place c.get.ensures.lookup.0 c.get.ensures.lookup.1
    ∙ ap (λ ps. slice_get ps c.in_ok-place.place) c.all.ensures
    ∙ ap (slice_get privileges) c.in_ok-place.ensures.1
    ∙ sym (low-found c.args.low c.in_ok-place.ensures.0)

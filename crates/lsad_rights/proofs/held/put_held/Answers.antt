-- A privilege is put where it stands, or before the first with a higher number.
use Rattle.std.proofs.Common.{◌∙◌, arith}
use Rattle.std.proofs.lemmas.List.Sums.{prefix_len-le-length}
use Rattle.lsad_rights.specs.Holdings.{is_below}
use Rattle.lsad_rights.proofs.Placing.{put-here, put-apart, put-last}
use Rattle.lsad_rights.proofs.held.put_held.Goals.{else-place-len-via-then-place-len+else-index-privilege}
use Rattle.lsad_rights.proofs.held.put_held.Goals.{else-place-len-via-else-place-len}
use Rattle.lsad_rights.proofs.held.put_held.Goals as goal

pub insert-requires : goal.insert-requires
insert-requires c = omega (arith, prefix_len-le-length (is_below c.args.privilege.low) c.deref.result.now)

pub returns-then-index-privilege : goal.returns-then-index-privilege
returns-then-index-privilege c =
    put-here c.args.privilege c.index.result.now c.args.held.now.items c.deref.result.now c.place-place.result
    c.place-place.ensures c.deref.ensures.value (omega arith) c.index.ensures c.if-index-privilege.true

pub returns-in_ok-insert : goal.returns-in_ok-insert
returns-in_ok-insert c = c.in_ok-insert.ensures.items ∙ elim c.else-place-len.branch [
  | else-place-len-via-then-place-len+else-index-privilege w ↦
      put-apart c.args.privilege w.index.result.now c.args.held.now.items c.deref.result.now c.place-place.result
      c.place-place.ensures c.deref.ensures.value w.index.ensures w.if-index-privilege.false
  | else-place-len-via-else-place-len w ↦
      put-last c.args.privilege c.args.held.now.items c.deref.result.now c.place-place.result c.place-place.ensures
      c.deref.ensures.value (omega arith)
]

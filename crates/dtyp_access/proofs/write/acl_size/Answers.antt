-- The size so far is 8 plus the bytes of the entries so far, and at most 8 plus 76 for each of them.
use Rattle.std.proofs.Common.{◌≡◌, ◌+◌, ◌++◌, ◌∷◌, [], take, length, arith, ap, ◌∙◌, sym}
use Rattle.std.proofs.lemmas.List.{take_more, length-append}
use Rattle.dtyp_access.specs.declared.ace.Ace.{Ace}
use Rattle.dtyp_access.specs.Parts.{aces_bytes, ace_bytes}
use Rattle.dtyp_access.proofs.Writing.{aces_bytes-none, aces_bytes-take_more, length-ace_bytes}
use Rattle.dtyp_access.proofs.write.acl_size.Goals as goal

pub loop-ace-init : goal.loop-ace-init
loop-ace-init c = (omega (arith, ap length aces_bytes-none), omega arith)

pub loop-ace-preserved : goal.loop-ace-preserved
loop-ace-preserved c =
    let aces = c.args.aces.now in
    let index = c.loop-ace.ace-index in
    let ace : Ace = c.ace-item.result in
    let more : take (index + 1) aces ≡ take index aces ++ ace ∷ [] =
    take_more aces index ace c.loop-ace-test.true ∙ ap (λ (a : Ace). take index aces ++ a ∷ []) (sym c.ace-item.is) in
    let bytes : length (aces_bytes (take (index + 1) aces)) ≡ length (aces_bytes (take index aces))
    + length (ace_bytes ace) =
    ap length (aces_bytes-take_more aces index ace c.loop-ace-test.true more)
    ∙ length-append (aces_bytes (take index aces)) (ace_bytes ace) in (
      omega (arith, length-ace_bytes ace, c.loop-ace.invariant.0, c.ace_size-size.ensures.size),
      omega (arith, c.loop-ace.invariant.1, c.ace_size-size.ensures.small),
    )

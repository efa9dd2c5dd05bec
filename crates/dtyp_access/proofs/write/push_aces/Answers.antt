-- After each entry `out` has the bytes of the entries so far after what it had.
use Rattle.std.proofs.Common.{◌≡◌, ◌+◌, ◌++◌, ◌∷◌, [], take, ap, ◌∙◌, sym}
use Rattle.std.proofs.lemmas.List.{take_more, append-nil}
use Rattle.dtyp_access.specs.declared.ace.Ace.{Ace}
use Rattle.dtyp_access.specs.Parts.{aces_bytes, ace_bytes}
use Rattle.dtyp_access.proofs.Writing.{aces_bytes-none, aces_bytes-take_more, pushed_more}
use Rattle.dtyp_access.proofs.write.push_aces.Goals as goal

pub loop-ace-init : goal.loop-ace-init
loop-ace-init c = sym (ap (λ bytes. c.args.out.now.items ++ bytes) aces_bytes-none ∙ append-nil c.args.out.now.items)

pub loop-ace-preserved : goal.loop-ace-preserved
loop-ace-preserved c =
    let aces = c.args.aces.now in
    let index = c.loop-ace.ace-index in
    let ace : Ace = c.ace-item.result in
    let more : take (index + 1) aces ≡ take index aces ++ ace ∷ [] =
    take_more aces index ace c.loop-ace-test.true ∙ ap (λ (a : Ace). take index aces ++ a ∷ []) (sym c.ace-item.is) in
    pushed_more c.args.out.now.items (aces_bytes (take index aces))
    (ace_bytes ace) c.loop-ace.out.items c.push_ace.new.out.items c.loop-ace.invariant c.in_ok-push_ace.ensures
    ∙ ap (λ bytes. c.args.out.now.items ++ bytes) (sym (aces_bytes-take_more aces index ace c.loop-ace-test.true more))

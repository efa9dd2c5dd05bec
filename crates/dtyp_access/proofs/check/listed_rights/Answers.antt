-- The walk begins with the owner's rights; an entry that speaks of the token decides what it names, any other none.
use Rattle.std.proofs.Common.{◌≡◌, List, ◌^◌, ◌+◌, ◌++◌, ◌∷◌, [], take, ap, ◌∙◌, sym, subst}
use Rattle.std.specs.Prelude.{◌&&◌, not}
use Rattle.std.specs.Int.{bit_not, w32}
use Rattle.std.proofs.lemmas.List.{take_more}
use Rattle.dtyp_access.specs.declared.ace.Ace.{Ace}
use Rattle.dtyp_access.specs.declared.check.Walk.{Walk}
use Rattle.dtyp_access.specs.Granted.{shares}
use Rattle.dtyp_access.proofs.Masks.{shares-and, shares-not}
use Rattle.dtyp_access.proofs.Nameless.{shares-named}
use Rattle.dtyp_access.proofs.Walk.{IsWalked, walked_none, walked_past, walked_by, walked_as, is_named}
use Rattle.dtyp_access.proofs.check.listed_rights.Goals as goal
use Rattle.dtyp_access.proofs.check.listed_rights.Goals.{then-speaks_of, else-speaks_of}

pub loop-ace-init : goal.loop-ace-init
loop-ace-init c = λ bit within.
    let owners = c.owners_rights-granted.ensures bit within in
    let granted = c.owners_rights-granted.result in
    walked_none c.args.token.now c.args.owner.now (2 ^ bit) _ _ owners
    (shares-and 0x0DFF_FFFF (bit_not w32 granted) bit
    ∙ ap (λ b. b && shares (bit_not w32 granted) (2 ^ bit)) (shares-named bit within)
    ∙ ap (λ b. is_named (2 ^ bit) && b)
    (shares-not granted bit c.owners_rights-granted.type_inv within ∙ ap not owners))

pub loop-ace-preserved : goal.loop-ace-preserved
loop-ace-preserved c = λ bit within.
    let token = c.args.token.now in
    let owner = c.args.owner.now in
    let aces = c.args.aces.now in
    let right = 2 ^ bit in
    let index = c.loop-ace.ace-index in
    let ace : Ace = c.ace-item.result in
    let more : take (index + 1) aces ≡ take index aces ++ ace ∷ [] =
    take_more aces index ace c.loop-ace-test.true ∙ ap (λ (a : Ace). take index aces ++ a ∷ []) (sym c.ace-item.is) in
    let walked = c.loop-ace.invariant bit within in
    subst (λ (aces : List Ace). IsWalked token owner right aces (shares c.if-speaks_of.walk.granted right)
    (shares c.if-speaks_of.walk.undecided right)) (sym more)
    (elim c.if-speaks_of.branch [
      | then-speaks_of w ↦ subst (λ (walk : Walk).
          IsWalked token owner right (take index aces ++ ace ∷ []) (shares walk.granted right)
          (shares walk.undecided right)) (sym w.walk-is)
          (walked_as token owner right (take index aces ++ ace ∷ []) _ _ _ _ (w.decided-walk.ensures.granted bit within)
          (w.decided-walk.ensures.undecided bit within)
          (walked_by token owner right (take index aces) ace _ _
          (sym c.speaks_of.ensures ∙ w.if-speaks_of.true) walked))
      | else-speaks_of w ↦ subst (λ (walk : Walk).
          IsWalked token owner right (take index aces ++ ace ∷ []) (shares walk.granted right)
          (shares walk.undecided right)) (sym w.walk-is)
          (walked_past token owner right (take index aces) ace _ _
          (sym c.speaks_of.ensures ∙ w.if-speaks_of.false) walked)
    ])

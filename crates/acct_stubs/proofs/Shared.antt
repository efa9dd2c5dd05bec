-- Each operation has a layout that is shared or its interface's own.
use Rattle.std.proofs.Common.{◌≡◌, ℕ, Bool, true, false, cond, List, [], ◌∷◌, Option, Some, refl, subst}
use Rattle.std.specs.Prelude.{◌==◌, ◌||◌, ◌&&◌}
use Rattle.acct_calls.specs.declared.calls.Face.{Face}
use Rattle.acct_calls.specs.declared.calls.Face.TheVariants.{Lsa, Samr}
use Rattle.acct_layouts.specs.Table.{layout_in, lsa_layout, lsa_table, samr_layout, samr_table}
use Rattle.acct_layouts.specs.declared.table.Layout.{Layout}
use Rattle.ndr_types.specs.Translations.{first}
use Rattle.acct_stubs.specs.Shared.{AreLayoutsOfTheirFace, are_own, are_shared, own_outputs, shared_outputs}

-- a test that each layout of a table passes
abbrev all_pass : (Layout → Bool) → List (ℕ × Layout) → Bool
all_pass test [] = true
all_pass test (x ∷ xs) = test x.1 && all_pass test xs

both_true : (a b : Bool) → (a && b) ≡ true → (a ≡ true) × (b ≡ true)
both_true true true e = (refl, refl)
both_true true false e = absurd cc
both_true false b e = absurd cc

abbrev some_layout : Layout → Option Layout
some_layout layout = Some layout

passes : (test : Layout → Bool) (b : Bool) (first : Layout) (rest : Option Layout) (layout : Layout)
    → test first ≡ true → (rest ≡ Some layout → test layout ≡ true) → cond b (Some first) rest ≡ Some layout
    → test layout ≡ true
passes test true first rest layout h g e =
    let same : first ≡ layout = (let k : some_layout first ≡ Some layout = e in cc) in
    subst (λ (x : Layout). test x ≡ true) same h
passes test false first rest layout h g e = g e

found_passes : (test : Layout → Bool) (xs : List (ℕ × Layout)) (opnum : ℕ) (layout : Layout)
    → all_pass test xs ≡ true → layout_in opnum xs ≡ Some layout → test layout ≡ true
found_passes test [] opnum layout h e = absurd cc
found_passes test (x ∷ xs) opnum layout h e =
    let b = both_true (test x.1) (all_pass test xs) h in
    passes test (opnum == x.0) x.1 (layout_in opnum xs) layout b.0 (found_passes test xs opnum layout b.1) e

abbrev fields_of : Face → Layout → Bool
fields_of face layout = are_shared layout.fields || are_own face layout.fields

abbrev outputs_of : Face → Layout → Bool
outputs_of face layout = shared_outputs layout.outputs || own_outputs face layout.outputs

pub layouts_of_their_face : AreLayoutsOfTheirFace
unfolding samr_layout lsa_layout
layouts_of_their_face Samr opnum layout e = (
  found_passes (fields_of Samr) samr_table opnum layout refl e,
  found_passes (outputs_of Samr) samr_table opnum layout refl e,
)
layouts_of_their_face Lsa opnum layout e = (
  found_passes (fields_of Lsa) lsa_table opnum layout refl e,
  found_passes (outputs_of Lsa) lsa_table opnum layout refl e,
)

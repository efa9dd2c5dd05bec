-- Each operation that has a layout stands in the table.
use Rattle.std.proofs.Common.{◌≡◌, ℕ, ◌==◌, Bool, true, ◌&&◌, List, [], ◌∷◌, Option, Some, None, refl, sym}
use Rattle.std.proofs.Common.{subst}
use Rattle.std.proofs.Common.{inl, inr, arith}
use Rattle.std.specs.Cmp.{first_so, second_so}
use Rattle.std.proofs.lemmas.Bool.{cases_Bool}
use Rattle.std.proofs.lemmas.Bool.Decides.{nat_tests}
use Rattle.acct_calls.specs.declared.calls.Call.{Call}
use Rattle.acct_calls.specs.declared.calls.Face.{Face}
use Rattle.acct_calls.specs.declared.calls.Face.TheVariants.{Samr, Lsa}
use Rattle.acct_layouts.specs.CallShapes.{CanBeSpelled, HasArguments}
use Rattle.acct_layouts.specs.Table.{samr_table, lsa_table, layout_in, samr_layout, lsa_layout, layout_of}
use Rattle.acct_layouts.specs.declared.table.Layout.{Layout}
use Rattle.acct_operations.specs.Laws.{CallsHaveOperations}
use Rattle.acct_operations.specs.Table.{operation, work_of, has_operation}

-- each opnum of a table of layouts has its operation
abbrev all-built : Face → List (ℕ × Layout) → Bool
all-built face [] = true
all-built face (x ∷ xs) = has_operation face x.0 && all-built face xs

in-table : (face : Face) (opnum : ℕ) (table : List (ℕ × Layout)) (l : Layout) → all-built face table ≡ true
    → layout_in opnum table ≡ Some l → has_operation face opnum ≡ true
in-table face opnum [] l all found = absurd cc
in-table face opnum (x ∷ xs) l all found =
    elim (cases_Bool (opnum == x.0)) [
      | inl here ↦
          let same : opnum ≡ x.0 = grind (arith, nat_tests) in
          subst (λ n. has_operation face n ≡ true) (sym same) (first_so _ _ all)
      | inr other ↦
          let later : layout_in opnum xs ≡ Some l = rw other at found in
          in-table face opnum xs l (second_so _ _ all) later
    ]

samr-built : all-built Samr samr_table ≡ true
unfolding work_of operation
samr-built = refl

lsa-built : all-built Lsa lsa_table ≡ true
unfolding work_of operation
lsa-built = refl

built : (face : Face) (opnum : ℕ) (l : Layout) → layout_of face opnum ≡ Some l → has_operation face opnum ≡ true
unfolding samr_layout lsa_layout
built Samr opnum l found = in-table Samr opnum samr_table l samr-built found
built Lsa opnum l found = in-table Lsa opnum lsa_table l lsa-built found

by-layout : (call : Call) (layout : Option Layout) → layout_of call.face call.opnum ≡ layout → HasArguments layout call
    → has_operation call.face call.opnum ≡ true
by-layout call None is arguments = absurd arguments
by-layout call (Some l) is arguments = built call.face call.opnum l is

pub calls-built : CallsHaveOperations
unfolding CanBeSpelled
calls-built call spelled = by-layout call (layout_of call.face call.opnum) refl spelled

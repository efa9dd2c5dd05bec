-- The operations by opnum: what stands at the place of an opnum is what a search of the table finds, and nothing is
-- served after the last place.
use Rattle.std.proofs.Common.{◌≡◌, ℕ, ◌+◌, ◌<◌, ◌≤◌, ◌==◌, nat_lt, Bool, true, false, not, ◌&&◌, ◌||◌, cond}
use Rattle.std.proofs.Common.{List, [], ◌∷◌, Some, None, map, length, get_or}
use Rattle.std.proofs.Common.{refl, sym, ap, subst, ◌∙◌, inl, inr, arith}
use Rattle.std.specs.List.{find, list_all, range_with_len}
use Rattle.std.specs.Cmp.{first_so, second_so}
use Rattle.std.proofs.lemmas.Bool.Decides.{nat_tests}
use Rattle.std.proofs.lemmas.Bool.{cases_Bool}
use Rattle.std.proofs.lemmas.List.{get_or_past}
use Rattle.std.proofs.lemmas.List.FromFn.{get_or-map-range_with_len, length-map-range_with_len}
use Rattle.acct_calls.specs.declared.calls.Face.{Face}
use Rattle.acct_calls.specs.declared.calls.Face.TheVariants.{Samr, Lsa}
use Rattle.acct_operations.specs.Table.{operation, same_face, is_work_of, work_of, all_works, opnum_count}
use Rattle.acct_operations.specs.declared.table.Work.{Work}

-- whether an operation is of another interface, or has an opnum below the number
abbrev pub is_below : Face → ℕ → Work → Bool
is_below face n work = not (same_face face (operation work).profile.face) || nat_lt (operation work).profile.opnum n

another : (b : Bool) (n opnum m : ℕ) → (not b || nat_lt m n) ≡ true → n ≤ opnum → (b && (opnum == m)) ≡ false
another true n opnum m below over = grind (arith, nat_tests)
another false n opnum m below over = refl

behind : (face : Face) (n opnum : ℕ) (xs : List Work) → list_all (is_below face n) xs ≡ true → n ≤ opnum
    → find (is_work_of face opnum) xs ≡ None
behind face n opnum [] all over = refl
behind face n opnum (x ∷ xs) all over =
    ap (λ b. cond b (Some x) (find (is_work_of face opnum) xs))
    (another (same_face face (operation x).profile.face) n opnum (operation x).profile.opnum (first_so _ _ all) over)
    ∙ behind face n opnum xs (second_so _ _ all) over

all_below : (face : Face) → list_all (is_below face (opnum_count face)) all_works ≡ true
unfolding operation
all_below Samr = refl
all_below Lsa = refl

none_behind : (face : Face) (opnum : ℕ) → opnum_count face ≤ opnum → work_of face opnum ≡ None
unfolding work_of
none_behind face opnum over = behind face (opnum_count face) opnum all_works (all_below face) over

-- what stands at the place of an opnum among those below a number, after which nothing is served
at_opnum : (face : Face) (n opnum : ℕ) → (n ≤ opnum → work_of face opnum ≡ None)
    → get_or (map (work_of face) (range_with_len 0 n)) opnum None ≡ work_of face opnum
at_opnum face n opnum over =
    elim (cases_Bool (nat_lt opnum n)) [
      | inl t ↦
          let within : opnum < n = grind (arith, nat_tests) in
          let same : 0 + opnum ≡ opnum = omega arith in
          get_or-map-range_with_len (work_of face) 0 n opnum opnum None within same
      | inr t ↦
          let past : n ≤ opnum = grind (arith, nat_tests) in
          let end : length (map (work_of face) (range_with_len 0 n)) ≤ opnum =
          subst (λ (k : ℕ). k ≤ opnum) (sym (length-map-range_with_len (work_of face) 0 n)) past in
          get_or_past (map (work_of face) (range_with_len 0 n)) opnum None end ∙ sym (over past)
    ]

pub samr_at : (opnum : ℕ)
    → get_or (map (work_of Samr) (range_with_len 0 (opnum_count Samr))) opnum None ≡ work_of Samr opnum
samr_at opnum = at_opnum Samr (opnum_count Samr) opnum (none_behind Samr opnum)

pub lsa_at : (opnum : ℕ)
    → get_or (map (work_of Lsa) (range_with_len 0 (opnum_count Lsa))) opnum None ≡ work_of Lsa opnum
lsa_at opnum = at_opnum Lsa (opnum_count Lsa) opnum (none_behind Lsa opnum)

-- The changes of a plan take the pairs of the rows to those of the rows after it.
use Rattle.std.proofs.Common.{◌≡◌, ◌≢◌, ◌↔◌, ℕ, ◌+◌, ◌≤◌, ◌==◌, Bool, true, false, ◌&&◌, ◌||◌, cond, List, [], ◌∷◌, ◌++◌}
use Rattle.std.proofs.Common.{Option, Some, None, refl, sym, ap, subst, ◌∙◌, inl, inr, ◌⊎◌, arith}
use Rattle.std.specs.Prelude.{is_some, option_map, not}
use Rattle.std.specs.Str.{bytes_eq}
use Rattle.std.proofs.lemmas.Slice.Eq.{bytes_eq-Decides}
use Rattle.std.specs.declared.cmp.Ordering.{Ordering}
use Rattle.std.specs.declared.cmp.Ordering.TheVariants.{Less, Equal, Greater}
use Rattle.dtyp_sid.specs.Sids.{WrittenBytesAreRead, WrittenBytesHaveLengths, ReadBytesAreWritten, EqualSidsAreOne}
use Rattle.acct_keeper.specs.declared.pairs.Pair.{Pair}
use Rattle.acct_keeper.specs.declared.pairs.Change.{Change}
use Rattle.acct_keeper.specs.Pairs as kept
use Rattle.acct_rows.specs.Changes.{Follow, row_at, stored_at, same_row_key, is_put}
use Rattle.acct_rows.specs.Changes.{has_value, where_so, removal, removals}
use Rattle.acct_rows.specs.Changes.{row_written, last_written, rows_written, next_out_written, changes_of, LastFit}
use Rattle.acct_tables.specs.KeyedRows.{compare, same_key, by_order, put, is_ascending}
use Rattle.acct_rows.specs.PairRules.{pair_key, pair_at, is_old}
use Rattle.acct_rows.specs.PairsOf.{IsRowOf, IsNextOut, IsPairOf, HoldPairs, migration, MigratedPairsAscend}
use Rattle.acct_rows.specs.Rows.{Lists, put_row, remove_row, removed, with_puts, next_past, after}
use Rattle.acct_rows.specs.Sound.{IsSoundRows}
use Rattle.acct_tables.specs.Spelled.{stored_key, stored_value, key_of, pair_of, format_key, format_pair, next_out_key}
use Rattle.acct_tables.specs.Spelled.{next_out_value, next_out_pair, Fits}
use Rattle.acct_tables.specs.Stored.{row_of}
use Rattle.acct_rows.specs.declared.plan.Plan.{Plan}
use Rattle.acct_tables.specs.declared.row.Row.{Row}
use Rattle.acct_tables.specs.declared.row.Row.TheVariants as rows
use Rattle.acct_tables.specs.declared.row.RowKey.{RowKey}
use Rattle.acct_tables.specs.declared.row.RowKey.TheVariants as keys
use Rattle.acct_tables.proofs.Ascending.{is_ascending-put, is_ascending-filter}
use Rattle.acct_tables.proofs.Lookups.{at-put, at-without, same_Some, there_or_not}
use Rattle.acct_tables.proofs.Orders.{same_key-is, same_key-itself, tested}
use Rattle.acct_rows.proofs.Fitting.{all_fit}
use Rattle.acct_rows.proofs.Members.{ascending-kept}
use Rattle.acct_tables.proofs.ReadRows.{FitsKey}
use Rattle.acct_tables.proofs.SpelledRows.{fits_key, spelled_rows_are_read}
use Rattle.acct_tables.proofs.Equals.{equals, equal_is, nat_cases}
use Rattle.acct_rows.proofs.Translated.{is_row_at, at_is_row, one_key, not_format, not_next_out, pair_is, keys_apart}
use Rattle.acct_rows.proofs.RowsAt.{among, row_fits, same_itself, same_or_not, removed_at, puts_elsewhere, last_found}
use Rattle.acct_rows.proofs.RowsAt.{same_lists, sound_tables}

-- ---- changes of pairs, seen at one key

put-kept : (p : Pair) (ps : List Pair) → kept.put p ps ≡ put pair_key p ps
put-kept p [] = refl
put-kept p (q ∷ qs) = by_cases (compare p.key q.key) (put-kept p qs)
  where
    by_cases : (r : Ordering) → kept.put p qs ≡ put pair_key p qs
        → kept.by_order r (p ∷ q ∷ qs) (p ∷ qs) (q ∷ kept.put p qs)
        ≡ by_order r (p ∷ q ∷ qs) (p ∷ qs) (q ∷ put pair_key p qs)
    by_cases Less e = refl
    by_cases Equal e = refl
    by_cases Greater e = ap (λ xs. q ∷ xs) e

abbrev pair_made : List ℕ → List ℕ → Pair
pair_made key value = record { key = key; value = value }

-- what a change leaves at its key
abbrev made : List ℕ → Option (List ℕ) → Option Pair
made key value = option_map (pair_made key) value

pub set_here : (key : List ℕ) (value : Option (List ℕ)) (ps : List Pair)
    → pair_at key (kept.set_key key value ps) ≡ made key value
set_here key (Some value) ps =
    ap (pair_at key) (put-kept (pair_made key value) ps) ∙ at-put pair_key key (pair_made key value) ps
    ∙ ap (λ b. cond b (Some (pair_made key value)) (pair_at key ps)) (same_key-itself key)
set_here key None ps =
    at-without pair_key key key ps ∙ ap (λ b. cond (not b) (pair_at key ps) None) (same_key-itself key)

pub set_apart : (k key : List ℕ) (value : Option (List ℕ)) (ps : List Pair) → k ≢ key
    → pair_at k (kept.set_key key value ps) ≡ pair_at k ps
set_apart k key (Some value) ps apart =
    elim (tested (same_key k key)) [
      | inl t ↦ absurd (apart (same_key-is k key t))
      | inr t ↦ ap (pair_at k) (put-kept (pair_made key value) ps) ∙ at-put pair_key k (pair_made key value) ps
          ∙ ap (λ b. cond b (Some (pair_made key value)) (pair_at k ps)) t
    ]
set_apart k key None ps apart =
    elim (tested (same_key key k)) [
      | inl t ↦ absurd (apart (sym (same_key-is key k t)))
      | inr t ↦ at-without pair_key k key ps ∙ ap (λ b. cond (not b) (pair_at k ps) None) t
    ]

set_ascends : (key : List ℕ) (value : Option (List ℕ)) (ps : List Pair) → is_ascending pair_key ps ≡ true
    → is_ascending pair_key (kept.set_key key value ps) ≡ true
set_ascends key (Some value) ps up =
    ap (is_ascending pair_key) (put-kept (pair_made key value) ps)
    ∙ is_ascending-put pair_key (pair_made key value) ps up
set_ascends key None ps up = is_ascending-filter pair_key (λ p. not (same_key key p.key)) ps up

after_ascends : (cs : List Change) (ps : List Pair) → is_ascending pair_key ps ≡ true
    → is_ascending pair_key (kept.after cs ps) ≡ true
after_ascends [] ps up = up
after_ascends (c ∷ cs) ps up = after_ascends cs (kept.set_key c.key c.value ps) (set_ascends c.key c.value ps up)

pub migrated_ascend : MigratedPairsAscend
migrated_ascend pairs up =
    let keyed : is_ascending pair_key pairs ≡ true = ascending-kept pairs ∙ up in
    let then : is_ascending pair_key (kept.after (migration ∷ []) pairs) ≡ true =
    after_ascends (migration ∷ []) pairs keyed in
    elim (is_old pairs) as (λ b. kept.is_ascending (cond b (kept.after (migration ∷ []) pairs) pairs) ≡ true) [
      | true ↦ sym (ascending-kept (kept.after (migration ∷ []) pairs)) ∙ then
      | false ↦ up
    ]

after_append : (cs ds : List Change) (ps : List Pair) → kept.after (cs ++ ds) ps ≡ kept.after ds (kept.after cs ps)
after_append [] ds ps = refl
after_append (c ∷ cs) ds ps = after_append cs ds (kept.set_key c.key c.value ps)

-- ---- what is written of a key and of a row

so_or_not : (b : Bool) (c : Change) → ((b ≡ true) × (where_so b c ≡ c ∷ [])) ⊎ ((b ≡ false) × (where_so b c ≡ []))
so_or_not true c = inl (refl, refl)
so_or_not false c = inr (refl, refl)

abbrev is_gone : Lists → List Row → RowKey → Bool
is_gone lists puts key = is_some (row_at lists key) && not (is_put puts key)

abbrev gone_change : RowKey → Change
gone_change key = record { key = stored_key key; value = None }

removal_cases : (lists : Lists) (puts : List Row) (key : RowKey)
    → ((is_gone lists puts key ≡ true) × (removal lists puts key ≡ gone_change key ∷ []))
    ⊎ ((is_gone lists puts key ≡ false) × (removal lists puts key ≡ []))
unfolding removal
removal_cases lists puts key = so_or_not (is_gone lists puts key) (gone_change key)

abbrev is_stored : Lists → Row → Bool
is_stored lists row = has_value (stored_value row) (stored_at lists (key_of row))

abbrev row_change : Row → Change
row_change row = record { key = stored_key (key_of row); value = Some (stored_value row) }

-- a row that counts is written, or its pair is there; another isn't written
record LastCases (lists : Lists) (row : Row) (later : List Row) : Type 0 where
  count : is_put later (key_of row) ≡ false
  cases : ((is_stored lists row ≡ false) × (last_written lists row later ≡ row_change row ∷ []))
      ⊎ ((is_stored lists row ≡ true) × (last_written lists row later ≡ []))

not_true_is : (b : Bool) → not b ≡ true → b ≡ false
not_true_is false e = refl
not_true_is true e = absurd cc

not_false_is : (b : Bool) → not b ≡ false → b ≡ true
not_false_is true e = refl
not_false_is false e = absurd cc

row_cases : (lists : Lists) (row : Row)
    → ((is_stored lists row ≡ false) × (row_written lists row ≡ row_change row ∷ []))
    ⊎ ((is_stored lists row ≡ true) × (row_written lists row ≡ []))
unfolding row_written
row_cases lists row =
    elim (so_or_not (not (is_stored lists row)) (row_change row)) [
      | inl w ↦ inl (not_true_is (is_stored lists row) w.0, w.1)
      | inr w ↦ inr (not_false_is (is_stored lists row) w.0, w.1)
    ]

last_cases : (lists : Lists) (row : Row) (later : List Row)
    → LastCases lists row later ⊎ ((is_put later (key_of row) ≡ true) × (last_written lists row later ≡ []))
unfolding last_written
last_cases lists row later =
    elim (tested (is_put later (key_of row))) [
      | inl t ↦ inr (t, ap (λ b. cond b [] (row_written lists row)) t)
      | inr t ↦
          let is : last_written lists row later ≡ row_written lists row =
          ap (λ b. cond b [] (row_written lists row)) t in
          inl (record {
            count = t;
            cases = elim (row_cases lists row) [
              | inl w ↦ inl (w.0, is ∙ w.1)
              | inr w ↦ inr (w.0, is ∙ w.1)
            ];
          })
    ]

and_false : (b : Bool) → (b && false) ≡ false
and_false true = refl
and_false false = refl

or_true : (a b : Bool) → b ≡ true → (a || b) ≡ true
or_true true b e = refl
or_true false b e = e

both_so : (a b : Bool) → (a && b) ≡ true → (a ≡ true) × (b ≡ true)
both_so true b e = (refl, e)
both_so false b e = absurd cc

none_either : {A : Type 0} (b : Bool) (o : Option A) → o ≡ None → cond b None o ≡ None
none_either true o e = refl
none_either false o e = e

-- the next out number that a plan leaves
removed_next : (gone : List RowKey) (lists : Lists) → (removed gone lists).next_out ≡ lists.next_out
removed_next [] lists = refl
removed_next (key ∷ gone) lists = removed_next gone (remove_row key lists) ∙ one key
  where
    one : (key : RowKey) → (remove_row key lists).next_out ≡ lists.next_out
    one (keys.Domain number) = refl
    one (keys.Account domain rid) = refl
    one (keys.Member group user) = refl
    one (keys.Alias domain alias member) = refl
    one (keys.Lsa sid) = refl
    one (keys.Desc object) = refl
    one (keys.Out number) = refl

puts_next : (puts : List Row) (lists : Lists) → (with_puts puts lists).next_out ≡ next_past lists.next_out puts
puts_next [] lists = refl
puts_next (row ∷ puts) lists = puts_next puts (put_row row lists)

pub plan_next : (plan : Plan) (lists : Lists) → (after plan lists).next_out ≡ next_past lists.next_out plan.puts
plan_next plan lists =
    puts_next plan.puts (removed plan.removes lists)
    ∙ ap (λ n. next_past n plan.puts) (removed_next plan.removes lists)

-- it isn't lower than before
not_lower : (puts : List Row) (next : ℕ) → next ≤ next_past next puts
not_lower [] next = omega arith
not_lower (rows.Out o ∷ puts) next = let rest = not_lower puts (next + 1) in omega arith
not_lower (rows.Domain x ∷ puts) next = not_lower puts next
not_lower (rows.Account x ∷ puts) next = not_lower puts next
not_lower (rows.Member x ∷ puts) next = not_lower puts next
not_lower (rows.Alias x ∷ puts) next = not_lower puts next
not_lower (rows.Lsa x ∷ puts) next = not_lower puts next
not_lower (rows.Desc x ∷ puts) next = not_lower puts next

abbrev next_change : ℕ → Change
next_change later = record { key = next_out_key; value = Some (next_out_value later) }

next_cases : (next later : ℕ) → ((later ≢ next) × (next_out_written next later ≡ next_change later ∷ []))
    ⊎ ((later ≡ next) × (next_out_written next later ≡ []))
unfolding next_out_written
next_cases next later =
    elim (so_or_not (not (later == next)) (next_change later)) [
      | inl w ↦ inl (
        (λ same. (
            let t : (later == next) ≡ true = equals later next same in
            let f : (later == next) ≡ false = not_true_is (later == next) w.0 in cc (t, f))),
        w.1,
      )
      | inr w ↦ inr (equal_is later next (not_false_is (later == next) w.0), w.1)
    ]

abbrev stored : Row → Pair
stored row = pair_of row

module _ (back : WrittenBytesAreRead) (sizes : WrittenBytesHaveLengths) (only : ReadBytesAreWritten)
    (equal_sids : EqualSidsAreOne) (lists others : Lists) (fit : (row : Row) → IsRowOf lists row → Fits row)
    (fits : (row : Row) → IsRowOf others row → Fits row) where
  -- what is found has a key with a spelling
  there_fits : (key : RowKey) → is_some (row_at lists key) ≡ true → FitsKey key
  there_fits key there =
      elim (there_or_not (row_at lists key)) [
        | inl found ↦
            let is = at_is_row lists key found.0 found.1 in
            subst FitsKey is.1 (fits_key back sizes only found.0 (fit found.0 is.0))
        | inr none ↦ absurd (let e : is_some (row_at lists key) ≡ false = ap is_some none in cc (e, there))
      ]

  gone_fits : (puts : List Row) (key : RowKey) → is_gone lists puts key ≡ true → FitsKey key
  gone_fits puts key gone = there_fits key (both_so (is_some (row_at lists key)) (not (is_put puts key)) gone).0

  -- the last row of a key is one of the later rows
  last_row : (row : Row) (later : List Row) (base : Lists) → with_puts (row ∷ later) base ≡ others
      → is_put later (key_of row) ≡ false → row_at others (key_of row) ≡ Some row
  last_row row later base is none =
      ap (λ l. row_at l (key_of row)) (sym is) ∙ last_found equal_sids row later base none

  last_fits : (row : Row) (later : List Row) (base : Lists) → with_puts (row ∷ later) base ≡ others
      → is_put later (key_of row) ≡ false → Fits row
  last_fits row later base is none =
      fits row (at_is_row others (key_of row) row (last_row row later base is none)).0

  pub all_last_fit : (puts : List Row) (base : Lists) → with_puts puts base ≡ others → LastFit puts
  all_last_fit [] base is = tt
  all_last_fit (row ∷ later) base is =
      ((λ none. last_fits row later base is none), all_last_fit later (put_row row base) is)

  -- the pair of a row that is stored as it is
  stored_is : (row : Row) → is_stored lists row ≡ true → stored_at lists (key_of row) ≡ Some (stored row)
  stored_is row same =
      elim (there_or_not (row_at lists (key_of row))) [
        | inr none ↦ absurd (
            let unlike : is_stored lists row ≡ false =
            ap (λ o. has_value (stored_value row) (option_map (λ r. stored r) o)) none in cc (unlike, same))
        | inl found ↦
            let q = found.0 in
            let key = (at_is_row lists (key_of row) q found.1).1 in
            let test : bytes_eq (stored_value row) (stored_value q) ≡ true =
            ap (λ o. has_value (stored_value row) (option_map (λ r. stored r) o)) (sym found.1) ∙ same in
            let value : stored_value row ≡ stored_value q =
            (bytes_eq-Decides (stored_value row) (stored_value q)).0 test in
            ap (option_map (λ r. stored r)) found.1
            ∙ ap (λ k. Some (pair_made (stored_key k) (stored_value q))) key
            ∙ ap (λ v. Some (pair_made (stored_key (key_of row)) v)) (sym value)
      ]

  one_row : (p q : Row) → Fits p → Fits q → stored p ≡ stored q → p ≡ q
  one_row p q fp fq e =
      same_Some (sym (spelled_rows_are_read back sizes only p fp) ∙ ap row_of e
      ∙ spelled_rows_are_read back sizes only q fq)

  module _ (puts : List Row) (key : RowKey) (fk : FitsKey key) where
    abbrev k : List ℕ
    k = stored_key key

    apart : (j : RowKey) → FitsKey j → key ≢ j → k ≢ stored_key j
    apart j fj unlike e = unlike (one_key back sizes only key j fk fj e)

    -- what is left at the key after the removals
    removals_at : (gone : List RowKey) (ps : List Pair) → pair_at k (kept.after (removals lists puts gone) ps)
        ≡ cond (is_gone lists puts key && among gone key) None (pair_at k ps)
    removals_at [] ps = sym (ap (λ b. cond b None (pair_at k ps)) (and_false (is_gone lists puts key)))
    removals_at (j ∷ js) ps =
        let qs = kept.after (removal lists puts j) ps in
        ap (pair_at k) (after_append (removal lists puts j) (removals lists puts js) ps) ∙ removals_at js qs
        ∙ elim (removal_cases lists puts j) [
          | inr w ↦
              let left : pair_at k qs ≡ pair_at k ps = ap (λ cs. pair_at k (kept.after cs ps)) w.1 in
              ap (cond (is_gone lists puts key && among js key) None) left
              ∙ elim (same_or_not equal_sids key j) [
                | inl e ↦
                    let unlike : is_gone lists puts key ≡ false = ap (is_gone lists puts) e ∙ w.0 in
                    ap (λ b. cond (b && among js key) None (pair_at k ps)) unlike
                    ∙ sym (ap (λ b. cond (b && (same_row_key key j || among js key)) None (pair_at k ps)) unlike)
                | inr n ↦ sym (ap (λ b. cond (is_gone lists puts key && (b || among js key)) None (pair_at k ps)) n.0)
              ]
          | inl w ↦ elim (same_or_not equal_sids key j) [
            | inl e ↦
                let so : is_gone lists puts key ≡ true = ap (is_gone lists puts) e ∙ w.0 in
                let same : same_row_key key j ≡ true = ap (same_row_key key) (sym e) ∙ same_itself equal_sids key in
                let none : pair_at k qs ≡ None =
                ap (λ cs. pair_at k (kept.after cs ps)) w.1
                ∙ ap (λ i. pair_at (stored_key i) (kept.set_key (stored_key j) None ps)) e
                ∙ set_here (stored_key j) None ps in
                none_either (is_gone lists puts key && among js key) (pair_at k qs) none
                ∙ sym (ap (λ b. cond (b && (same_row_key key j || among js key)) None (pair_at k ps)) so
                ∙ ap (λ b. cond (b || among js key) None (pair_at k ps)) same)
            | inr n ↦
                let left : pair_at k qs ≡ pair_at k ps =
                ap (λ cs. pair_at k (kept.after cs ps)) w.1
                ∙ set_apart k (stored_key j) None ps (apart j (gone_fits puts j w.0) n.1) in
                ap (cond (is_gone lists puts key && among js key) None) left
                ∙ sym (ap (λ b. cond (is_gone lists puts key && (b || among js key)) None (pair_at k ps)) n.0)
          ]
        ]

    -- a row of another key leaves what is at the key
    other_left : (row : Row) (later : List Row) (base : Lists) → with_puts (row ∷ later) base ≡ others
        → key ≢ key_of row
        → (ps : List Pair) → pair_at k (kept.after (last_written lists row later) ps) ≡ pair_at k ps
    other_left row later base is unlike ps =
        elim (last_cases lists row later) [
          | inr w ↦ ap (λ cs. pair_at k (kept.after cs ps)) w.1
          | inl l ↦ elim l.cases [
            | inr w ↦ ap (λ cs. pair_at k (kept.after cs ps)) w.1
            | inl w ↦ ap (λ cs. pair_at k (kept.after cs ps)) w.1
                ∙ set_apart k (stored_key (key_of row)) (Some (stored_value row)) ps
                (apart (key_of row) (fits_key back sizes only row (last_fits row later base is l.count)) unlike)
          ]
        ]

    -- what is left there after the rows that are put
    rows_at : (rest : List Row) (base : Lists) → with_puts rest base ≡ others → (ps : List Pair)
        → (is_put rest key ≡ true → pair_at k ps ≡ stored_at lists key)
        → pair_at k (kept.after (rows_written lists rest) ps)
        ≡ cond (is_put rest key) (stored_at others key) (pair_at k ps)
    rows_at [] base is ps held = refl
    rows_at (row ∷ later) base is ps held =
        let qs = kept.after (last_written lists row later) ps in
        let same = same_row_key key (key_of row) in
        ap (pair_at k) (after_append (last_written lists row later) (rows_written lists later) ps)
        ∙ elim (tested (is_put later key)) [
          | inl t ↦
              let left : pair_at k qs ≡ pair_at k ps =
              elim (last_cases lists row later) [
                | inr w ↦ ap (λ cs. pair_at k (kept.after cs ps)) w.1
                | inl l ↦ other_left row later base is (λ e. (
                    let unlike : is_put later key ≡ false = ap (is_put later) e ∙ l.count in cc (unlike, t))) ps
              ] in
              rows_at later (put_row row base) is qs (λ u. left ∙ held (or_true same (is_put later key) u))
              ∙ ap (λ b. cond b (stored_at others key) (pair_at k qs)) t
              ∙ sym (ap (λ b. cond b (stored_at others key) (pair_at k ps)) (or_true same (is_put later key) t))
          | inr t ↦
              rows_at later (put_row row base) is qs (λ u. absurd cc)
              ∙ ap (λ b. cond b (stored_at others key) (pair_at k qs)) t
              ∙ elim (same_or_not equal_sids key (key_of row)) [
                | inr n ↦
                    other_left row later base is n.1 ps
                    ∙ sym (ap (λ b. cond (b || is_put later key) (stored_at others key) (pair_at k ps)) n.0
                    ∙ ap (λ b. cond b (stored_at others key) (pair_at k ps)) t)
                | inl e ↦
                    let so : same ≡ true = ap (same_row_key key) (sym e) ∙ same_itself equal_sids key in
                    here row later base is ps e t (held (ap (λ b. b || is_put later key) so))
                    ∙ sym (ap (λ b. cond (b || is_put later key) (stored_at others key) (pair_at k ps)) so)
              ]
        ]
      where
        here : (row : Row) (later : List Row) (base : Lists) → with_puts (row ∷ later) base ≡ others → (ps : List Pair)
            → key ≡ key_of row → is_put later key ≡ false → pair_at k ps ≡ stored_at lists key
            → pair_at k (kept.after (last_written lists row later) ps) ≡ stored_at others key
        here row later base is ps e t held =
            let none : is_put later (key_of row) ≡ false = ap (is_put later) (sym e) ∙ t in
            let then : stored_at others key ≡ Some (stored row) =
            ap (stored_at others) e ∙ ap (option_map (λ r. stored r)) (last_row row later base is none) in
            elim (last_cases lists row later) [
              | inr w ↦ absurd (let u = w.0 in cc (none, u))
              | inl l ↦ elim l.cases [
                | inl w ↦
                    ap (λ cs. pair_at k (kept.after cs ps)) w.1
                    ∙ ap (λ i. pair_at (stored_key i)
                    (kept.set_key (stored_key (key_of row)) (Some (stored_value row)) ps)) e
                    ∙ set_here (stored_key (key_of row)) (Some (stored_value row)) ps ∙ sym then
                | inr w ↦
                    ap (λ cs. pair_at k (kept.after cs ps)) w.1 ∙ held ∙ ap (stored_at lists) e
                    ∙ stored_is row w.0 ∙ sym then
              ]
            ]

  -- a change's key is that of a row
  abbrev IsStoredKey : List ℕ → Type 0
  IsStoredKey k = (key : RowKey) × FitsKey key × (k ≡ stored_key key)

  abbrev Stored : List Change → Type 0
  Stored [] = Unit {0}
  Stored (c ∷ cs) = IsStoredKey c.key × Stored cs

  stored_append : (cs ds : List Change) → Stored cs → Stored ds → Stored (cs ++ ds)
  stored_append [] ds s t = t
  stored_append (c ∷ cs) ds s t = (s.0, stored_append cs ds s.1 t)

  removals_stored : (puts : List Row) (gone : List RowKey) → Stored (removals lists puts gone)
  removals_stored puts [] = tt
  removals_stored puts (j ∷ js) =
      stored_append (removal lists puts j) (removals lists puts js)
      (elim (removal_cases lists puts j) [
        | inl w ↦ subst Stored (sym w.1) ((j, gone_fits puts j w.0, refl), tt)
        | inr w ↦ subst Stored (sym w.1) tt
      ])
      (removals_stored puts js)

  rows_stored : (puts : List Row) (base : Lists) → with_puts puts base ≡ others → Stored (rows_written lists puts)
  rows_stored [] base is = tt
  rows_stored (row ∷ later) base is =
      stored_append (last_written lists row later) (rows_written lists later)
      (elim (last_cases lists row later) [
        | inr w ↦ subst Stored (sym w.1) tt
        | inl l ↦ elim l.cases [
          | inr w ↦ subst Stored (sym w.1) tt
          | inl w ↦ subst Stored (sym w.1)
              ((key_of row, fits_key back sizes only row (last_fits row later base is l.count), refl), tt)
        ]
      ])
      (rows_stored later (put_row row base) is)

  -- at a key that is none of a row nothing changes
  after_cases : (k : List ℕ) (cs : List Change) (ps : List Pair) → Stored cs
      → IsStoredKey k ⊎ (pair_at k (kept.after cs ps) ≡ pair_at k ps)
  after_cases k [] ps s = inr refl
  after_cases k (c ∷ cs) ps s =
      elim (tested (same_key k c.key)) [
        | inl t ↦ inl (s.0.0, s.0.1, same_key-is k c.key t ∙ s.0.2)
        | inr t ↦ elim (after_cases k cs (kept.set_key c.key c.value ps) s.1) [
          | inl is ↦ inl is
          | inr e ↦ inr (e ∙ set_apart k c.key c.value ps (λ same. (
              let u : same_key k c.key ≡ true = ap (same_key k) (sym same) ∙ same_key-itself k in cc (t, u))))
        ]
      ]

  module _ (plan : Plan) (is : after plan lists ≡ others) where
    abbrev later : ℕ
    later = next_past lists.next_out plan.puts

    abbrev row_changes : List Change
    row_changes = removals lists plan.puts plan.removes ++ rows_written lists plan.puts

    abbrev changes : List Change
    changes = changes_of lists plan

    later_is : others.next_out ≡ later
    later_is = ap (λ l. l.next_out) (sym is) ∙ plan_next plan lists

    -- the next out number's change is the last one
    changes_after : (ps : List Pair)
        → kept.after changes ps ≡ kept.after (next_out_written lists.next_out later) (kept.after row_changes ps)
    changes_after ps =
        let gone = removals lists plan.puts plan.removes in
        let put = rows_written lists plan.puts in
        let next = next_out_written lists.next_out later in
        after_append gone (put ++ next) ps ∙ after_append put next (kept.after gone ps)
        ∙ ap (kept.after next) (sym (after_append gone put ps))

    -- and changes what is at its key alone
    next_apart : (k : List ℕ) (ps : List Pair) → k ≢ next_out_key
        → pair_at k (kept.after (next_out_written lists.next_out later) ps) ≡ pair_at k ps
    next_apart k ps apart =
        elim (next_cases lists.next_out later) [
          | inl w ↦ ap (λ cs. pair_at k (kept.after cs ps)) w.1
              ∙ set_apart k next_out_key (Some (next_out_value later)) ps apart
          | inr w ↦ ap (λ cs. pair_at k (kept.after cs ps)) w.1
        ]

    not_gone : (b c : Bool) → c ≡ true → (b && not c) ≡ false
    not_gone true c e = ap not e
    not_gone false c e = refl

    -- the row at a key after the plan, where the plan puts none
    left_at : (key : RowKey) → is_put plan.puts key ≡ false
        → row_at others key ≡ cond (among plan.removes key) None (row_at lists key)
    left_at key none =
        ap (λ l. row_at l key) (sym is) ∙ puts_elsewhere equal_sids plan.puts (removed plan.removes lists) key none
        ∙ removed_at equal_sids plan.removes lists key

    gone_or : (o : Option Row) (a : Bool) → cond ((is_some o && true) && a) None (option_map (λ r. stored r) o)
        ≡ option_map (λ r. stored r) (cond a None o)
    gone_or None true = refl
    gone_or None false = refl
    gone_or (Some r) true = refl
    gone_or (Some r) false = refl

    module _ (pairs : List Pair) (held : HoldPairs lists pairs) (least : 1 ≤ lists.next_out) where
      abbrev rowed : List Pair
      rowed = kept.after row_changes pairs

      abbrev new : List Pair
      new = kept.after changes pairs

      new_apart : (k : List ℕ) → k ≢ next_out_key → pair_at k new ≡ pair_at k rowed
      new_apart k apart = ap (pair_at k) (changes_after pairs) ∙ next_apart k rowed apart

      pairs_at : (key : RowKey) → FitsKey key → pair_at (stored_key key) new ≡ stored_at others key
      pairs_at key fk =
          let k = stored_key key in
          let middle = kept.after (removals lists plan.puts plan.removes) pairs in
          let was : pair_at k pairs ≡ stored_at lists key = pair_is back sizes only lists pairs fit held key fk in
          let between : pair_at k middle ≡ cond (is_gone lists plan.puts key
          && among plan.removes key) None (pair_at k pairs) =
          removals_at plan.puts key fk plan.removes pairs in
          new_apart k (not_next_out back sizes only key fk)
          ∙ ap (pair_at k) (after_append (removals lists plan.puts plan.removes) (rows_written lists plan.puts) pairs)
          ∙ rows_at plan.puts key fk plan.puts (removed plan.removes lists) is middle (λ t.
          between
          ∙ ap (λ b. cond (b && among plan.removes key) None (pair_at k pairs))
          (not_gone (is_some (row_at lists key)) (is_put plan.puts key) t) ∙ was)
          ∙ elim (tested (is_put plan.puts key)) [
            | inl t ↦ ap (λ b. cond b (stored_at others key) (pair_at k middle)) t
            | inr t ↦
                ap (λ b. cond b (stored_at others key) (pair_at k middle)) t ∙ between
                ∙ ap (λ b. cond ((is_some (row_at lists key) && not b)
                && among plan.removes key) None (pair_at k pairs)) t
                ∙ ap (cond ((is_some (row_at lists key) && true) && among plan.removes key) None) was
                ∙ gone_or (row_at lists key) (among plan.removes key)
                ∙ sym (ap (option_map (λ r. stored r)) (left_at key t))
          ]

      all_stored : Stored row_changes
      all_stored = stored_append (removals lists plan.puts plan.removes) (rows_written lists plan.puts)
          (removals_stored plan.puts plan.removes) (rows_stored plan.puts (removed plan.removes lists) is)

      found_row : (p : Pair) (o : Option Row) → option_map (λ r. stored r) o ≡ Some p
          → (r : Row) × (o ≡ Some r) × (p ≡ stored r)
      found_row p (Some r) e = (r, refl, sym (same_Some e))
      found_row p None e = absurd cc

      row_of_found : (p : Pair) (key : RowKey) → FitsKey key → p.key ≡ stored_key key → pair_at p.key new ≡ Some p
          → IsPairOf others p
      row_of_found p key fk same e =
          let there : stored_at others key ≡ Some p =
          sym (pairs_at key fk) ∙ ap (λ k. pair_at k new) (sym same) ∙ e in
          let r = found_row p (row_at others key) there in
          inr (inr (r.0, (at_is_row others key r.0 r.1).0, r.2))

      -- no row's pair is at these keys
      format_left : pair_at format_key rowed ≡ pair_at format_key pairs
      format_left =
          elim (after_cases format_key row_changes pairs all_stored) [
            | inl s ↦ absurd (not_format back sizes only s.0 s.1 (sym s.2))
            | inr same ↦ same
          ]

      next_left : pair_at next_out_key rowed ≡ pair_at next_out_key pairs
      next_left =
          elim (after_cases next_out_key row_changes pairs all_stored) [
            | inl s ↦ absurd (not_next_out back sizes only s.0 s.1 (sym s.2))
            | inr same ↦ same
          ]

      -- the next out number's pair
      next_written : later ≢ lists.next_out → pair_at next_out_key new ≡ Some (next_out_pair later)
      next_written unlike =
          ap (pair_at next_out_key) (changes_after pairs) ∙ elim (next_cases lists.next_out later) [
            | inl w ↦ ap (λ cs. pair_at next_out_key (kept.after cs rowed)) w.1
                ∙ set_here next_out_key (Some (next_out_value later)) rowed
            | inr w ↦ absurd (unlike w.0)
          ]

      next_stays : later ≡ lists.next_out → pair_at next_out_key new ≡ pair_at next_out_key pairs
      next_stays same =
          ap (pair_at next_out_key) (changes_after pairs) ∙ elim (next_cases lists.next_out later) [
            | inl w ↦ absurd (w.0 same)
            | inr w ↦ ap (λ cs. pair_at next_out_key (kept.after cs rowed)) w.1 ∙ next_left
          ]

      risen : later ≢ lists.next_out → others.next_out ≢ 1
      risen unlike one = unlike (
          let up = not_lower plan.puts lists.next_out in
          let now : later ≡ 1 = sym later_is ∙ one in
          omega (arith, up, now, least))

      next_found : (p : Pair) → pair_at next_out_key new ≡ Some p → p.key ≡ next_out_key → IsPairOf others p
      next_found p e key =
          elim (nat_cases later lists.next_out) [
            | inr unlike ↦
                let is_next : next_out_pair later ≡ p = same_Some (sym (next_written unlike) ∙ e) in
                inr (inl (risen unlike, sym is_next ∙ ap (λ n. next_out_pair n) (sym later_is)))
            | inl same ↦
                let own : pair_at p.key pairs ≡ Some p =
                ap (λ k. pair_at k pairs) key ∙ sym (next_stays same) ∙ e in
                let next : others.next_out ≡ lists.next_out = later_is ∙ same in
                elim ((held p).0 own) [
                  | inl f ↦ inl f
                  | inr other ↦ elim other [
                    | inl n ↦ inr (inl (subst (λ m. IsNextOut m p) (sym next) n))
                    | inr r ↦ absurd (not_next_out back sizes only (key_of r.0)
                        (fits_key back sizes only r.0 (fit r.0 r.1)) (sym (ap pair_key r.2) ∙ key))
                  ]
                ]
          ]

      next_listed : IsNextOut others.next_out (next_out_pair others.next_out)
          → pair_at next_out_key new ≡ Some (next_out_pair others.next_out)
      next_listed is_next =
          elim (nat_cases later lists.next_out) [
            | inr unlike ↦ next_written unlike ∙ ap (λ n. Some (next_out_pair n)) (sym later_is)
            | inl same ↦
                let next : others.next_out ≡ lists.next_out = later_is ∙ same in
                next_stays same
                ∙ (held (next_out_pair lists.next_out)).1 (inr (inl (subst (λ n. n ≢ 1) next is_next.0, refl)))
                ∙ ap (λ n. Some (next_out_pair n)) (sym next)
          ]

      other_found : (p : Pair) → pair_at p.key new ≡ Some p → p.key ≢ next_out_key → IsPairOf others p
      other_found p e apart =
          elim (after_cases p.key row_changes pairs all_stored) [
            | inl s ↦ row_of_found p s.0 s.1 s.2 e
            | inr same ↦ elim ((held p).0 (sym same ∙ sym (new_apart p.key apart) ∙ e)) [
              | inl f ↦ inl f
              | inr other ↦ elim other [
                | inl n ↦ absurd (apart (ap pair_key n.1))
                | inr r ↦ row_of_found p (key_of r.0) (fits_key back sizes only r.0 (fit r.0 r.1)) (ap pair_key r.2) e
              ]
            ]
          ]

      pub changed_hold : HoldPairs others new
      changed_hold p = (
        (λ e. elim (tested (same_key p.key next_out_key)) [
          | inl t ↦
              let key = same_key-is p.key next_out_key t in
              next_found p (ap (λ k. pair_at k new) (sym key) ∙ e) key
          | inr t ↦ other_found p e (λ same. (
              let u : same_key p.key next_out_key ≡ true =
              ap (same_key p.key) (sym same) ∙ same_key-itself p.key in cc (t, u)))
        ]),
        (λ e. elim e [
          | inl f ↦ subst (λ q. pair_at q.key new ≡ Some q) (sym f)
              (new_apart format_key keys_apart ∙ format_left ∙ (held format_pair).1 (inl refl))
          | inr other ↦ elim other [
            | inl n ↦ subst (λ q. pair_at q.key new ≡ Some q) (sym n.1) (next_listed (n.0, refl))
            | inr r ↦ subst (λ q. pair_at q.key new ≡ Some q) (sym r.2)
                (pairs_at (key_of r.0) (fits_key back sizes only r.0 (fits r.0 r.1))
                ∙ ap (option_map (λ x. stored x)) (is_row_at others r.0 r.1))
          ]
        ]),
      )

    -- ---- nothing is written exactly where the rows stay
    empty_parts : {A : Type 0} (xs ys : List A) → xs ++ ys ≡ [] → (xs ≡ []) × (ys ≡ [])
    empty_parts [] ys e = (refl, e)
    empty_parts (x ∷ xs) ys e = absurd cc

    none_gone : (puts : List Row) (gone : List RowKey) (key : RowKey) → removals lists puts gone ≡ []
        → among gone key ≡ true → is_gone lists puts key ≡ false
    none_gone puts [] key none i = absurd cc
    none_gone puts (j ∷ js) key none i =
        let parts = empty_parts (removal lists puts j) (removals lists puts js) none in
        elim (same_or_not equal_sids key j) [
          | inr n ↦ none_gone puts js key parts.1 (sym (ap (λ b. b || among js key) n.0) ∙ i)
          | inl e ↦ elim (removal_cases lists puts j) [
            | inl w ↦ absurd (let unlike : gone_change j ∷ [] ≡ [] = sym w.1 ∙ parts.0 in cc)
            | inr w ↦ ap (is_gone lists puts) e ∙ w.0
          ]
        ]

    none_put : (rest : List Row) (base : Lists) (key : RowKey) → with_puts rest base ≡ others
        → rows_written lists rest ≡ [] → is_put rest key ≡ true → row_at others key ≡ row_at lists key
    none_put [] base key is none put = absurd cc
    none_put (row ∷ later) base key is none put =
        let parts = empty_parts (last_written lists row later) (rows_written lists later) none in
        elim (tested (is_put later key)) [
          | inl t ↦ none_put later (put_row row base) key is parts.1 t
          | inr t ↦ elim (same_or_not equal_sids key (key_of row)) [
            | inr n ↦ absurd (
                let unlike : (same_row_key key (key_of row) || is_put later key) ≡ false =
                ap (λ b. b || is_put later key) n.0 ∙ t in cc (unlike, put))
            | inl e ↦ elim (last_cases lists row later) [
              | inr w ↦ absurd (let unlike : is_put later (key_of row) ≡ false = ap (is_put later) (sym e) ∙ t in
                  let so = w.0 in cc (unlike, so))
              | inl l ↦ elim l.cases [
                | inl w ↦ absurd (let unlike : row_change row ∷ [] ≡ [] = sym w.1 ∙ parts.0 in cc)
                | inr w ↦
                    let found = found_stored row (last_fits row later base is l.count) (stored_is row w.0) in
                    ap (row_at others) e ∙ last_row row later base is l.count ∙ sym found
                    ∙ ap (row_at lists) (sym e)
              ]
            ]
          ]
        ]
      where
        found_stored : (row : Row) → Fits row → stored_at lists (key_of row) ≡ Some (stored row)
            → row_at lists (key_of row) ≡ Some row
        found_stored row f e =
            elim (there_or_not (row_at lists (key_of row))) [
              | inr none ↦ absurd (
                  let unlike : Some (stored row) ≡ None = sym e ∙ ap (option_map (λ r. stored r)) none in cc)
              | inl found ↦
                  let q = found.0 in
                  let same : stored q ≡ stored row =
                  same_Some (sym (ap (option_map (λ r. stored r)) found.1) ∙ e) in
                  let is = one_row q row (fit q (at_is_row lists (key_of row) q found.1).0) f same in
                  found.1 ∙ ap (λ r. Some r) is
            ]

    rows_stay : changes ≡ [] → (key : RowKey) → row_at others key ≡ row_at lists key
    rows_stay none key =
        let parts = empty_parts (removals lists plan.puts plan.removes) _ none in
        let written = empty_parts (rows_written lists plan.puts) _ parts.1 in
        elim (tested (is_put plan.puts key)) [
          | inl t ↦ none_put plan.puts (removed plan.removes lists) key is written.0 t
          | inr t ↦ left_at key t ∙ elim (tested (among plan.removes key)) [
            | inr u ↦ ap (λ b. cond b None (row_at lists key)) u
            | inl u ↦ ap (λ b. cond b None (row_at lists key)) u
                ∙ sym (nothing (row_at lists key) (sym (ap (λ b. is_some (row_at lists key) && not b) t)
                ∙ none_gone plan.puts plan.removes key parts.0 u))
          ]
        ]
      where
        nothing : (o : Option Row) → (is_some o && true) ≡ false → o ≡ None
        nothing None e = refl
        nothing (Some r) e = absurd cc

    stay_rows : others ≡ lists → (key : RowKey) → row_at others key ≡ row_at lists key
    stay_rows same key = ap (λ l. row_at l key) same

    gone_none : ((key : RowKey) → among plan.removes key ≡ true → is_gone lists plan.puts key ≡ false)
        → (gone : List RowKey) → ((key : RowKey) → among gone key ≡ true → among plan.removes key ≡ true)
        → removals lists plan.puts gone ≡ []
    gone_none unlike [] within = refl
    gone_none unlike (j ∷ js) within =
        let j_in : among plan.removes j ≡ true =
        within j (ap (λ b. b || among js j) (same_itself equal_sids j)) in
        let rest = gone_none unlike js (λ key e. within key (or_true (same_row_key key j) (among js key) e)) in
        elim (removal_cases lists plan.puts j) [
          | inl w ↦ absurd (let so = w.0 in let none = unlike j j_in in cc (so, none))
          | inr w ↦ ap (λ cs. cs ++ removals lists plan.puts js) w.1 ∙ rest
        ]

    put_none : others ≡ lists → (rest : List Row) (base : Lists) → with_puts rest base ≡ others
        → rows_written lists rest ≡ []
    put_none same [] base is = refl
    put_none same (row ∷ later) base is =
        let rest = put_none same later (put_row row base) is in
        elim (last_cases lists row later) [
          | inr w ↦ ap (λ cs. cs ++ rows_written lists later) w.1 ∙ rest
          | inl l ↦ elim l.cases [
            | inr w ↦ ap (λ cs. cs ++ rows_written lists later) w.1 ∙ rest
            | inl w ↦ absurd (
                let there : row_at lists (key_of row) ≡ Some row =
                sym (stay_rows same (key_of row)) ∙ last_row row later base is l.count in
                let so : is_stored lists row ≡ true =
                ap (λ o. has_value (stored_value row) (option_map (λ r. stored r) o)) there
                ∙ (bytes_eq-Decides (stored_value row) (stored_value row)).1 refl in
                let unlike = w.0 in
                cc (so, unlike))
          ]
        ]

    removed_none : others ≡ lists → (key : RowKey) → among plan.removes key ≡ true
        → is_gone lists plan.puts key ≡ false
    removed_none same key i =
        elim (tested (is_put plan.puts key)) [
          | inl t ↦ not_gone (is_some (row_at lists key)) (is_put plan.puts key) t
          | inr t ↦
              let none : row_at lists key ≡ None =
              sym (stay_rows same key) ∙ left_at key t ∙ ap (λ b. cond b None (row_at lists key)) i in
              ap (λ o. is_some o && not (is_put plan.puts key)) none
        ]

    next_stay : changes ≡ [] → later ≡ lists.next_out
    next_stay none =
        let parts = empty_parts (removals lists plan.puts plan.removes) _ none in
        let written = empty_parts (rows_written lists plan.puts) _ parts.1 in
        elim (next_cases lists.next_out later) [
          | inl w ↦ absurd (let unlike : next_change later ∷ [] ≡ [] = sym w.1 ∙ written.1 in cc)
          | inr w ↦ w.0
        ]

    next_none : others ≡ lists → next_out_written lists.next_out later ≡ []
    next_none same =
        elim (next_cases lists.next_out later) [
          | inl w ↦ absurd (w.0 (sym later_is ∙ ap (λ l. l.next_out) same))
          | inr w ↦ w.1
        ]

    pub none_written : others ≡ lists → changes ≡ []
    none_written same =
        let next = next_out_written lists.next_out later in
        ap (λ cs. cs ++ (rows_written lists plan.puts ++ next)) (gone_none (removed_none same) plan.removes (λ key e. e))
        ∙ ap (λ cs. cs ++ next) (put_none same plan.puts (removed plan.removes lists) is) ∙ next_none same

    pub stay : changes ≡ [] → IsSoundRows lists → IsSoundRows others → others ≡ lists
    stay none sound later =
        same_lists others lists (sound_tables others later) (sound_tables lists sound)
        (λ row e. (at_is_row lists (key_of row) row
        (sym (rows_stay none (key_of row)) ∙ is_row_at others row e)).0)
        (λ row e. (at_is_row others (key_of row) row
        (rows_stay none (key_of row) ∙ is_row_at lists row e)).0)
        (later_is ∙ next_stay none)

-- the changes of a plan follow it
module _ (back : WrittenBytesAreRead) (sizes : WrittenBytesHaveLengths) (only : ReadBytesAreWritten)
    (equal_sids : EqualSidsAreOne) (lists : Lists) (plan : Plan) (before : IsSoundRows lists)
    (then : IsSoundRows (after plan lists)) where
  pub follow : Follow lists (after plan lists) (changes_of lists plan)
  follow pairs are = record {
    ascending = sym (ascending-kept (kept.after (changes_of lists plan) pairs))
        ∙ after_ascends (changes_of lists plan) pairs (ascending-kept pairs ∙ are.ascending);
    held = changed_hold back sizes only equal_sids lists (after plan lists) (row_fits lists (all_fit lists before))
        (row_fits (after plan lists) (all_fit (after plan lists) then)) plan refl pairs are.held before.next_least;
  }

  pub none_or_stay : (changes_of lists plan ≡ []) ↔ (after plan lists ≡ lists)
  none_or_stay = (
    (λ none. stay back sizes only equal_sids lists (after plan lists) (row_fits lists (all_fit lists before))
        (row_fits (after plan lists) (all_fit (after plan lists) then)) plan refl none before then),
    (λ same. none_written back sizes only equal_sids lists (after plan lists) (row_fits lists (all_fit lists before))
        (row_fits (after plan lists) (all_fit (after plan lists) then)) plan refl same),
  )

  pub puts_fit : LastFit plan.puts
  puts_fit = all_last_fit back sizes only equal_sids lists (after plan lists) (row_fits lists (all_fit lists before))
      (row_fits (after plan lists) (all_fit (after plan lists) then)) plan.puts (removed plan.removes lists) refl

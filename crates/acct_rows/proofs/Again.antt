-- Sound rows with the same pairs are the same rows.
use Rattle.std.proofs.Common.{◌≡◌, List, refl, sym, ap, subst, ◌∙◌, inl, inr}
use Rattle.dtyp_sid.specs.Sids.{WrittenBytesAreRead, WrittenBytesHaveLengths, ReadBytesAreWritten}
use Rattle.acct_keeper.specs.declared.pairs.Pair.{Pair}
use Rattle.acct_rows.specs.PairRules.{pair_key}
use Rattle.acct_rows.specs.PairsOf.{IsRowOf, HoldPairs, PairsAreOfOne}
use Rattle.acct_rows.specs.Rows.{Lists}
use Rattle.acct_tables.specs.Spelled.{key_of, pair_of, Fits}
use Rattle.acct_tables.specs.Stored.{row_of}
use Rattle.acct_tables.specs.declared.row.Row.{Row}
use Rattle.acct_rows.proofs.Fitting.{all_fit}
use Rattle.acct_tables.proofs.Lookups.{same_Some}
use Rattle.acct_tables.proofs.SpelledRows.{fits_key, spelled_rows_are_read}
use Rattle.acct_rows.proofs.Translated.{not_format, not_next_out, next_known}
use Rattle.acct_rows.proofs.RowsAt.{row_fits, same_lists, sound_tables}

module _ (back : WrittenBytesAreRead) (sizes : WrittenBytesHaveLengths) (only : ReadBytesAreWritten) where
  one_row : (p q : Row) → Fits p → Fits q → pair_of p ≡ pair_of q → p ≡ q
  one_row p q fp fq e =
      same_Some (sym (spelled_rows_are_read back sizes only p fp) ∙ ap row_of e
      ∙ spelled_rows_are_read back sizes only q fq)

  -- a row of the one is a row of the other
  also_there : (lists others : Lists) (pairs : List Pair) → ((row : Row) → IsRowOf lists row → Fits row)
      → ((row : Row) → IsRowOf others row → Fits row) → HoldPairs lists pairs → HoldPairs others pairs → (row : Row)
      → IsRowOf lists row → IsRowOf others row
  also_there lists others pairs fit fits held too row e =
      elim ((too (pair_of row)).0 ((held (pair_of row)).1 (inr (inr (row, e, refl))))) [
        | inl f ↦ absurd (not_format back sizes only (key_of row) (fits_key back sizes only row (fit row e))
            (ap pair_key f))
        | inr other ↦ elim other [
          | inl n ↦ absurd (not_next_out back sizes only (key_of row) (fits_key back sizes only row (fit row e))
              (ap pair_key n.1))
          | inr r ↦ subst (IsRowOf others) (one_row r.0 row (fits r.0 r.1) (fit row e) (sym r.2)) r.1
        ]
      ]

  pub one_rows : PairsAreOfOne
  one_rows lists others pairs sound later held too =
      let fit = row_fits lists (all_fit lists sound) in
      let fits = row_fits others (all_fit others later) in
      same_lists lists others (sound_tables lists sound) (sound_tables others later)
      (also_there lists others pairs fit fits held too) (also_there others lists pairs fits fit too held)
      (same_Some (sym (next_known back sizes only lists pairs fit held sound.next_least sound.next_most)
      ∙ next_known back sizes only others pairs fits too later.next_least later.next_most))

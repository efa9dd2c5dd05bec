-- The first account that is put or removed, one element further on.
use Rattle.std.proofs.Common.{◌≡◌, ℕ, ◌+◌, ◌<◌, List, ◌∷◌, Some, length, drop, get_or, refl, sym, ap, ◌∙◌}
use Rattle.std.proofs.lemmas.List.{at_drop_more}
use Rattle.acct_tables.specs.declared.row.AccountRow.{AccountRow}
use Rattle.acct_tables.specs.declared.row.Row.{Row}
use Rattle.acct_tables.specs.declared.row.Row.TheVariants as rows
use Rattle.acct_tables.specs.declared.row.RowKey.{RowKey}
use Rattle.acct_tables.specs.declared.row.RowKey.TheVariants as keys
use Rattle.acct_rules.specs.Planned.{put_account, removed_account}

no-put : (row : Row) (later : List Row) → ((a : AccountRow) → row ≡ rows.Account a → ⊥)
    → put_account (row ∷ later) ≡ put_account later
no-put (rows.Account a) later not = absurd (not a refl)
no-put _ later not = refl

pub put-passed : (puts : List Row) (i : ℕ) (row : Row) → i < length puts → row ≡ get_or puts i row
    → ((a : AccountRow) → row ≡ rows.Account a → ⊥) → put_account (drop (i + 1) puts) ≡ put_account (drop i puts)
put-passed puts i row lt at not =
    sym (no-put row (drop (i + 1) puts) not)
    ∙ ap (λ (x : Row). put_account (x ∷ drop (i + 1) puts)) at
    ∙ sym (at_drop_more put_account puts i row lt)

pub put-here : (puts : List Row) (i : ℕ) (row : Row) (a : AccountRow) → i < length puts → row ≡ get_or puts i row
    → row ≡ rows.Account a → Some a ≡ put_account (drop i puts)
put-here puts i row a lt at is =
    ap (λ (x : Row). put_account (x ∷ drop (i + 1) puts)) (sym is ∙ at) ∙ sym (at_drop_more put_account puts i row lt)

no-removal : (key : RowKey) (later : List RowKey) → ((domain rid : ℕ) → key ≡ keys.Account domain rid → ⊥)
    → removed_account (key ∷ later) ≡ removed_account later
no-removal (keys.Account domain rid) later not = absurd (not domain rid refl)
no-removal _ later not = refl

pub removal-passed : (removes : List RowKey) (i : ℕ) (key : RowKey) → i < length removes → key ≡ get_or removes i key
    → ((domain rid : ℕ) → key ≡ keys.Account domain rid → ⊥)
    → removed_account (drop (i + 1) removes) ≡ removed_account (drop i removes)
removal-passed removes i key lt at not =
    sym (no-removal key (drop (i + 1) removes) not)
    ∙ ap (λ (x : RowKey). removed_account (x ∷ drop (i + 1) removes)) at
    ∙ sym (at_drop_more removed_account removes i key lt)

pub removal-here : (removes : List RowKey) (i : ℕ) (key : RowKey) (domain rid : ℕ) → i < length removes
    → key ≡ get_or removes i key → key ≡ keys.Account domain rid
    → Some (domain, rid) ≡ removed_account (drop i removes)
removal-here removes i key domain rid lt at is =
    ap (λ (x : RowKey). removed_account (x ∷ drop (i + 1) removes)) (sym is ∙ at)
    ∙ sym (at_drop_more removed_account removes i key lt)

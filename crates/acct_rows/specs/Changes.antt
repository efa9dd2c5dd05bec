-- What a plan changes of the stored pairs
use Rattle.std.specs.Prelude.{◌≡◌, ◌==◌, Bool, false, ◌&&◌, not, List, [], ◌∷◌, ◌++◌, Option, Some, None}
use Rattle.std.specs.Prelude.{ℕ, is_some, option_map, if◌then◌else◌}
use Rattle.std.specs.List.{list_any}
use Rattle.dtyp_sid.specs.Sids.{sid_eq}
use Rattle.acct_keeper.specs.declared.pairs.Pair.{Pair}
use Rattle.acct_keeper.specs.declared.pairs.Change.{Change}
use Rattle.acct_keeper.specs.Pairs.{after}
use Rattle.acct_tables.specs.Keys.{same_object}
use Rattle.acct_rows.specs.Rows.{Lists, domain_at, account_at, member_at, alias_row_at, lsa_at, desc_at, out_at}
use Rattle.acct_rows.specs.Rows.{next_past}
use Rattle.acct_tables.specs.Spelled.{stored_key, stored_value, key_of, pair_of, next_out_key, next_out_value, Fits}
pub use Rattle.acct_rows.specs.PairRules.{has_value}
use Rattle.acct_rows.specs.PairsOf.{ArePairsOf}
use Rattle.acct_rows.specs.declared.plan.Plan.{Plan}
use Rattle.acct_tables.specs.declared.row.Row.{Row}
use Rattle.acct_tables.specs.declared.row.Row.TheVariants as rows
use Rattle.acct_tables.specs.declared.row.RowKey.{RowKey}
use Rattle.acct_tables.specs.declared.row.RowKey.TheVariants as keys

-- changes that take the pairs of some rows to those of the later ones
abbrev pub Follow : Lists → Lists → List Change → Type 0
Follow lists later changes = (pairs : List Pair) → ArePairsOf lists pairs → ArePairsOf later (after changes pairs)

-- the row with a key
abbrev pub row_at : Lists → RowKey → Option Row
row_at lists (keys.Domain number) = option_map (λ d. rows.Domain d) (domain_at lists number)
row_at lists (keys.Account domain rid) = option_map (λ a. rows.Account a) (account_at lists domain rid)
row_at lists (keys.Member group user) = option_map (λ m. rows.Member m) (member_at lists group user)
row_at lists (keys.Alias domain alias member) = option_map (λ a. rows.Alias a) (alias_row_at lists domain alias member)
row_at lists (keys.Lsa sid) = option_map (λ l. rows.Lsa l) (lsa_at lists sid)
row_at lists (keys.Desc object) = option_map (λ d. rows.Desc d) (desc_at lists object)
row_at lists (keys.Out number) = option_map (λ o. rows.Out o) (out_at lists number)

-- the pair at the key of a row
abbrev pub stored_at : Lists → RowKey → Option Pair
stored_at lists key = option_map (λ row. pair_of row) (row_at lists key)

-- whether two keys are one
abbrev pub same_row_key : RowKey → RowKey → Bool
same_row_key (keys.Domain a) (keys.Domain b) = a == b
same_row_key (keys.Account a i) (keys.Account b j) = (a == b) && (i == j)
same_row_key (keys.Member a i) (keys.Member b j) = (a == b) && (i == j)
same_row_key (keys.Alias a i s) (keys.Alias b j t) = (a == b) && ((i == j) && sid_eq s t)
same_row_key (keys.Lsa s) (keys.Lsa t) = sid_eq s t
same_row_key (keys.Desc x) (keys.Desc y) = same_object x y
same_row_key (keys.Out m) (keys.Out n) = m == n
same_row_key _ _ = false

-- whether one of the rows has the key
abbrev pub is_put : List Row → RowKey → Bool
is_put puts key = list_any (λ row. same_row_key key (key_of row)) puts

abbrev pub where_so : Bool → Change → List Change
where_so test change = if test then change ∷ [] else []

-- the pair of a removed key goes, where there is one and none is put
unfoldable pub removal : Lists → List Row → RowKey → List Change
removal lists puts key =
    where_so (is_some (row_at lists key) && not (is_put puts key)) (record { key = stored_key key; value = None })

abbrev pub removals : Lists → List Row → List RowKey → List Change
removals lists puts [] = []
removals lists puts (key ∷ keys) = removal lists puts key ++ removals lists puts keys

-- a row's pair is put, where it isn't there as it is
unfoldable pub row_written : Lists → Row → List Change
row_written lists row =
    where_so (not (has_value (stored_value row) (stored_at lists (key_of row))))
    (record { key = stored_key (key_of row); value = Some (stored_value row) })

-- of the rows that a plan puts the last one with a key is the one that counts
unfoldable pub last_written : Lists → Row → List Row → List Change
last_written lists row later = if is_put later (key_of row) then [] else row_written lists row

abbrev pub rows_written : Lists → List Row → List Change
rows_written lists [] = []
rows_written lists (row ∷ later) = last_written lists row later ++ rows_written lists later

-- the next out number is written where it is another
unfoldable pub next_out_written : ℕ → ℕ → List Change
next_out_written next later =
    where_so (not (later == next)) (record { key = next_out_key; value = Some (next_out_value later) })

-- what a plan changes
abbrev pub changes_of : Lists → Plan → List Change
changes_of lists plan = removals lists plan.puts plan.removes ++ (rows_written lists plan.puts
    ++ next_out_written lists.next_out (next_past lists.next_out plan.puts))

-- each row that counts has a spelling
abbrev pub LastFit : List Row → Type 0
LastFit [] = Unit {0}
LastFit (row ∷ later) = (is_put later (key_of row) ≡ false → Fits row) × LastFit later

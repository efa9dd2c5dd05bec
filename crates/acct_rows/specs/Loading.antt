-- Which pairs are loaded, and as which rows
use Rattle.std.specs.Prelude.{◌≡◌, ℕ, ◌^◌, ◌<◌, nat_lt, Bool, true, false, not, List, [], ◌∷◌, map, All, find}
use Rattle.std.specs.Prelude.{Option, Some, None, is_some, option_map, if◌then◌else◌}
use Rattle.std.specs.Ordering.{is_lt}
use Rattle.acct_keeper.specs.declared.pairs.Pair.{Pair}
use Rattle.acct_keeper.specs.Pairs.{compare}
use Rattle.acct_tables.specs.KeyedRows.{is_ascending}
use Rattle.std.specs.Option.{unwrap_or}
use Rattle.acct_rows.specs.PairRules.{pair_key, pair_at, domain_in, account_in, has_taken_name, is_broken_pair}
use Rattle.acct_rows.specs.PairRules.{needed_keys, next_out_in, IsSmallestBroken}
use Rattle.acct_rows.specs.Rows.{Lists, domain_at, account_at, find_name, place_row}
use Rattle.acct_tables.specs.Spelled.{IsSpelled, next_out_value}
use Rattle.acct_tables.specs.Stored.{row_of, next_out_of}
use Rattle.acct_rows.specs.declared.pairs.loading.PairsError.{PairsError}
use Rattle.acct_rows.specs.declared.pairs.loading.PairsError.TheVariants.{BadPair, Memory}
use Rattle.acct_tables.specs.declared.row.AccountRow.{AccountRow}
use Rattle.acct_tables.specs.declared.row.Row.{Row}
use Rattle.acct_tables.specs.declared.row.Row.TheVariants as rows

-- why pairs are no rows: the smallest broken key, or running out of memory, which has no cause in the pairs
abbrev pub BadPairs : List Pair → PairsError → Type 0
BadPairs pairs (BadPair key) = IsSmallestBroken pairs key
BadPairs pairs Memory = Unit {0}

-- the row that is read of the pair is what it spells, and so is the next out number that is read of its value
abbrev pub IsReadWell : Pair → Type 0
IsReadWell pair = ((row : Row) → row_of pair ≡ Some row → IsSpelled pair row)
    × ((next : ℕ) → next_out_of pair.value ≡ Some next → pair.value ≡ next_out_value next)

-- no rows, with a next out number
abbrev pub no_lists : ℕ → Lists
no_lists next = record {
  domains = [];
  accounts = [];
  members = [];
  aliases = [];
  lsa = [];
  descriptors = [];
  outs = [];
  next_out = next;
}

-- with rows in their places
abbrev pub placed : List Row → Lists → Lists
placed [] lists = lists
placed (row ∷ rows) lists = placed rows (place_row row lists)

-- those that are there
abbrev pub somes : List (Option Row) → List Row
somes [] = []
somes (None ∷ os) = somes os
somes (Some row ∷ os) = row ∷ somes os

-- the rows that are loaded of pairs
abbrev pub loaded : List Pair → Lists
loaded pairs = placed (somes (map row_of pairs)) (no_lists (unwrap_or (next_out_in pairs) 1))

-- the pairs ascend, each is read well, and the rows are those that are loaded of them
pub record IsLoaded (pairs : List Pair) (lists : Lists) : Type 0 where
  pub ascending : is_ascending pair_key pairs ≡ true
  pub read_well : All IsReadWell pairs
  pub rows : lists ≡ loaded pairs

-- an account that is found has a smaller RID
abbrev pub is_smaller : ℕ → Option AccountRow → Bool
is_smaller rid None = false
is_smaller rid (Some a) = nat_lt a.rid rid

-- what is looked up among the pairs is found among the rows that are loaded of them: an account of a name at once
pub record LoadedRowsAreFound : Type 0 where
  pub domains : (pairs : List Pair) (lists : Lists) (number : ℕ) → IsLoaded pairs lists
      → domain_in pairs number ≡ domain_at lists number
  pub accounts : (pairs : List Pair) (lists : Lists) (domain rid : ℕ) → IsLoaded pairs lists → rid < 2 ^ 32
      → account_in pairs domain rid ≡ account_at lists domain rid
  pub names : (pairs : List Pair) (lists : Lists) (a : AccountRow) → IsLoaded pairs lists
      → has_taken_name pairs (rows.Account a) ≡ is_smaller a.rid (find_name lists a.domain a.name)

-- the smaller of two keys that may be there
abbrev pub smaller : Option (List ℕ) → Option (List ℕ) → Option (List ℕ)
smaller None k = k
smaller (Some j) None = Some j
smaller (Some j) (Some k) = if is_lt (compare k j) then Some k else Some j

-- the first needed key that has no pair
abbrev pub first_missing : List Pair → Option (List ℕ)
first_missing pairs = find (λ k. not (is_some (pair_at k pairs))) needed_keys

-- the smallest broken key of pairs by ascending key: that of the first pair that breaks a rule, or a missing one
unfoldable pub smallest_broken : List Pair → Option (List ℕ)
smallest_broken pairs =
    smaller (option_map (λ p. p.key) (find (is_broken_pair pairs) pairs)) (first_missing pairs)

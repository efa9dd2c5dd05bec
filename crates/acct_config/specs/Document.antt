-- The document of a configuration: what it has at its keys, and which keys it may have.
use Rattle.std.specs.Prelude.{ℕ, ℤ, if◌then◌else◌, List, [], ◌∷◌, Option, Some, None, option_and_then, unwrap_or, pos}
use Rattle.std.specs.Prelude.{codes, map, Bool, true, false, ◌&&◌, is_some, bytes_eq}
use Rattle.std.specs.List.{list_all, list_any}
use Rattle.std.specs.Str.{is_utf8}
use Rattle.toml.specs.Data.{Data, string, integer, array, table, Items, no_items, item, Members, no_members, member}
use Rattle.toml.specs.Data.{get, as_str, as_integer, as_array, as_table}
use Rattle.toml.specs.Parse.{parse_document}
use Rattle.acct_config.specs.Kinds.{kinds, kind_name, kind_names}
use Rattle.acct_config.specs.declared.limits.Limit.{Limit}
use Rattle.acct_config.specs.declared.limits.Limit.TheVariants.{Calls, Bytes, Conns, Read, Periods}
use Rattle.acct_config.specs.declared.limits.Range.{Range}

-- ======== what a document has at its keys
-- Each look-up is total: what is absent, or of another type, reads as nothing.

-- the document that bytes spell, if they spell one: they are UTF-8, and TOML
abbrev pub document : List ℕ → Option Members
document bytes = if is_utf8 bytes then parse_document bytes else None

-- the document as a table, which is empty where there is none
abbrev pub whole : List ℕ → Data
whole bytes = table (unwrap_or (document bytes) no_members)

-- the keys of a table
abbrev pub keys : Members → List (List ℕ)
keys no_members = []
keys (member key d members) = key ∷ keys members

-- the elements of an array
abbrev pub item_list : Items → List Data
item_list no_items = []
item_list (item d items) = d ∷ item_list items

abbrev pub elements : Data → List Data
elements (array items) = item_list items
elements _ = []

-- what is at a key of the table at a key
abbrev pub get_in : List ℕ → List ℕ → Data → Option Data
get_in section key d = option_and_then (get key) (get section d)

-- the text, the elements, the number that was found
abbrev pub text_of : Option Data → List ℕ
text_of (Some (string text)) = text
text_of _ = []

abbrev pub elements_of : Option Data → List Data
elements_of None = []
elements_of (Some d) = elements d

-- a number that is absent stands for another
abbrev pub number_of : ℤ → Option Data → ℤ
number_of absent (Some (integer number)) = number
number_of absent _ = absent

-- ======== the limits of a server, in one table: the key that sets each, its range, and what it is where no key sets it

abbrev pub each_limit : List Limit
each_limit = Calls ∷ Bytes ∷ Conns ∷ Read ∷ Periods ∷ []

abbrev pub limit_key : Limit → List ℕ
limit_key Calls = codes "max_calls"
limit_key Bytes = codes "max_bytes"
limit_key Conns = codes "max_conns"
limit_key Read = codes "max_read"
limit_key Periods = codes "max_periods"

abbrev pub limit_keys : List (List ℕ)
limit_keys = map limit_key each_limit

abbrev pub range_of : Limit → Range
range_of Calls = record { low = 1; high = 1_000_000; absent = pos 65_536 }
range_of Bytes = record { low = 1; high = 1_073_741_824; absent = pos 67_108_864 }
range_of Conns = record { low = 1; high = 65_536; absent = pos 1_024 }
range_of Read = record { low = 1; high = 1_099_511_627_776; absent = pos 4_294_967_296 }
range_of Periods = record { low = 1; high = 1_000_000; absent = pos 1 }

-- ======== which keys a document has, and of which types: the schema of a configuration, one definition a table

-- whether the key is one of the names
abbrev pub is_among : List (List ℕ) → List ℕ → Bool
is_among names key = list_any (λ name. bytes_eq name key) names

abbrev pub keys_are_among : List (List ℕ) → Option Members → Bool
keys_are_among names None = false
keys_are_among names (Some members) = list_all (is_among names) (keys members)

-- a table whose keys are among these
abbrev pub has_only : List (List ℕ) → Data → Bool
has_only names d = keys_are_among names (as_table d)

-- what was found passes, or nothing was found and that may be
abbrev pub found : Bool → (Data → Bool) → Option Data → Bool
found absent test None = absent
found absent test (Some d) = test d

abbrev pub required : (Data → Bool) → List ℕ → Data → Bool
required test key d = found false test (get key d)

abbrev pub optional : (Data → Bool) → List ℕ → Data → Bool
optional test key d = found true test (get key d)

abbrev pub is_text : Data → Bool
is_text d = is_some (as_str d)

abbrev pub is_number : Data → Bool
is_number d = is_some (as_integer d)

-- an array of such elements
abbrev pub is_array_of : (Data → Bool) → Data → Bool
is_array_of test d = is_some (as_array d) && list_all test (elements d)

unfoldable pub is_domain : Data → Bool
is_domain d =
    has_only (codes "name" ∷ codes "sid" ∷ []) d && required is_text (codes "name") d
    && required is_text (codes "sid") d

unfoldable pub is_listener : Data → Bool
is_listener d =
    has_only (codes "name" ∷ codes "address" ∷ codes "token" ∷ codes "workers" ∷ codes "links" ∷ []) d
    && required is_text (codes "name") d && required is_text (codes "address") d
    && required (is_array_of is_text) (codes "token") d
    && optional is_number (codes "workers") d && optional is_number (codes "links") d

unfoldable pub is_descriptor : Data → Bool
is_descriptor d =
    has_only (codes "owner" ∷ codes "aces" ∷ []) d
    && required is_text (codes "owner") d && optional (is_array_of is_text) (codes "aces") d

unfoldable pub are_descriptors : Data → Bool
are_descriptors d = has_only kind_names d && list_all (λ kind. optional is_descriptor (kind_name kind) d) kinds

unfoldable pub are_limits : Data → Bool
are_limits d = has_only limit_keys d && list_all (λ limit. optional is_number (limit_key limit) d) each_limit

unfoldable pub is_hook : Data → Bool
is_hook d =
    has_only (codes "program" ∷ codes "tries" ∷ []) d && optional is_text (codes "program") d
    && optional is_number (codes "tries") d

-- the tables of a document
abbrev pub table_names : List (List ℕ)
table_names = codes "domain" ∷ codes "listener" ∷ codes "descriptor" ∷ codes "limits" ∷ codes "hook" ∷ []

unfoldable pub is_document : Data → Bool
is_document d =
    has_only table_names d && required is_domain (codes "domain") d
    && required (is_array_of is_listener) (codes "listener") d
    && optional are_descriptors (codes "descriptor") d && optional are_limits (codes "limits") d
    && optional is_hook (codes "hook") d

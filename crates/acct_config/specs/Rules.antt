-- The rules of a configuration, each a test of the parsed document, and the first that is broken.
-- Their numbers are those of the answers: a list of rules begins with the first of them.
use Rattle.std.specs.Prelude.{ℕ, suc, ℤ, pos, negsuc, Bool, true, false, not, ◌&&◌, is_some, if◌then◌else◌, codes}
use Rattle.std.specs.Prelude.{◌==◌, List, [], ◌∷◌, length, map, Option, Some, None}
use Rattle.std.specs.List.{list_all}
use Rattle.std.specs.Option.{option_map_or}
use Rattle.toml.specs.Data.{Data, get}
use Rattle.dtyp_sid.specs.Sids.{SidValue}
use Rattle.dtyp_sid.specs.Reading.{sid_of_text}
use Rattle.acct_codes.specs.declared.kind.Kind.{Kind}
use Rattle.acct_config.specs.declared.limits.Limit.{Limit}
use Rattle.acct_config.specs.Values.{is_address, ace_of_text, is_listener_name, are_distinct}
use Rattle.acct_config.specs.Document.{document, whole, get_in, text_of, number_of, elements_of, each_limit, limit_key}
use Rattle.acct_config.specs.Document.{range_of, is_document, found}
use Rattle.acct_config.specs.Kinds.{kinds, kind_name}
use Rattle.acct_calls.specs.Names.{name_of_text, is_domain_name, is_domain_sid}
use Rattle.acct_base.specs.Words.{is_within}

-- the account domain
abbrev pub domain_name : Data → List ℕ
domain_name d = text_of (get_in (codes "domain") (codes "name") d)

abbrev pub domain_sid : Data → Option SidValue
domain_sid d = sid_of_text (text_of (get_in (codes "domain") (codes "sid") d))

-- rule 2: the account domain has a name that it may have
abbrev pub has_domain_name : Data → Bool
has_domain_name d = is_domain_name (name_of_text (domain_name d))

-- rule 3: and a SID that it may have, however it is spelled
abbrev pub has_domain_sid : Data → Bool
has_domain_sid d = option_map_or is_domain_sid (domain_sid d) false

-- the tables of listeners
abbrev pub listeners : Data → List Data
listeners d = elements_of (get (codes "listener") d)

abbrev pub listener_name : Data → List ℕ
listener_name listener = text_of (get (codes "name") listener)

abbrev pub listener_address : Data → List ℕ
listener_address listener = text_of (get (codes "address") listener)

-- rule 4: there are 1 to 16 listeners, and each has a name of its own
abbrev pub have_names : List Data → Bool
have_names tables =
    is_within 1 16 (length tables) && list_all (λ listener. is_listener_name (listener_name listener)) tables
    && are_distinct (map listener_name tables)

-- rule 5: each has an address
abbrev pub has_address : Data → Bool
has_address listener = is_address (listener_address listener)

-- rule 6: each has a token of 1 to 64 SIDs
abbrev pub sid_of : Data → Option SidValue
sid_of text = sid_of_text (text_of (Some text))

abbrev pub is_sid : Data → Bool
is_sid text = is_some (sid_of text)

abbrev pub token_texts : Data → List Data
token_texts listener = elements_of (get (codes "token") listener)

abbrev pub has_token : Data → Bool
has_token listener = is_within 1 64 (length (token_texts listener)) && list_all is_sid (token_texts listener)

-- rule 7: each has 1 to 64 workers, 1 where it doesn't say, and takes at most 2^32 - 1 links, 0 where it doesn't say
abbrev pub is_number_within : ℕ → ℕ → ℤ → Bool
is_number_within low high (pos number) = is_within low high number
is_number_within low high (negsuc number) = false

abbrev pub workers : Data → ℤ
workers listener = number_of (pos 1) (get (codes "workers") listener)

abbrev pub links : Data → ℤ
links listener = number_of (pos 0) (get (codes "links") listener)

abbrev pub has_counts : Data → Bool
has_counts listener = is_number_within 1 64 (workers listener) && is_number_within 0 4294967295 (links listener)

-- the descriptor table of a kind
abbrev pub descriptor_table : Data → Kind → Option Data
descriptor_table d kind = get_in (codes "descriptor") (kind_name kind) d

abbrev pub owner : Data → Option SidValue
owner descriptor = sid_of_text (text_of (get (codes "owner") descriptor))

-- rule 8: the owner of each descriptor table is a SID
abbrev pub has_owner : Data → Bool
has_owner descriptor = is_some (owner descriptor)

unfoldable pub owner_is_sid : Data → Kind → Bool
owner_is_sid d kind = found true has_owner (descriptor_table d kind)

abbrev pub have_owners : Data → Bool
have_owners d = list_all (owner_is_sid d) kinds

-- rule 9: each has at most 800 entries
abbrev pub is_ace : Data → Bool
is_ace text = is_some (ace_of_text (text_of (Some text)))

abbrev pub ace_texts : Data → List Data
ace_texts descriptor = elements_of (get (codes "aces") descriptor)

abbrev pub has_aces : Data → Bool
has_aces descriptor = is_within 0 800 (length (ace_texts descriptor)) && list_all is_ace (ace_texts descriptor)

unfoldable pub aces_are_entries : Data → Kind → Bool
aces_are_entries d kind = found true has_aces (descriptor_table d kind)

abbrev pub have_aces : Data → Bool
have_aces d = list_all (aces_are_entries d) kinds

-- rule 10: each limit is in its range. Where no key sets it, it is what the table of limits says
abbrev pub limit_number : Data → Limit → ℤ
limit_number d limit = number_of (range_of limit).absent (get_in (codes "limits") (limit_key limit) d)

abbrev pub is_in_range : Data → Limit → Bool
is_in_range d limit = is_number_within (range_of limit).low (range_of limit).high (limit_number d limit)

abbrev pub have_limits : Data → Bool
have_limits d = list_all (is_in_range d) each_limit

-- rule 11: the program that is told of changes is named, and tried 1 to 100 times, 3 where the table doesn't say
abbrev pub hook_table : Data → Option Data
hook_table d = get (codes "hook") d

abbrev pub program : Data → List ℕ
program hook = text_of (get (codes "program") hook)

abbrev pub tries : Data → ℤ
tries hook = number_of (pos 3) (get (codes "tries") hook)

abbrev pub names_program : Data → Bool
names_program hook = not (length (program hook) == 0) && is_number_within 1 100 (tries hook)

unfoldable pub hook_is_right : Data → Bool
hook_is_right d = found true names_program (hook_table d)

-- which of the rules from 1 on a parsed document keeps, in order
unfoldable pub kept : Data → List Bool
kept d =
    is_document d ∷ has_domain_name d ∷ has_domain_sid d ∷ have_names (listeners d) ∷ list_all has_address (listeners d)
    ∷ list_all has_token (listeners d) ∷ list_all has_counts (listeners d) ∷ have_owners d ∷ have_aces d ∷ have_limits d
    ∷ hook_is_right d ∷ []

-- which of the rules bytes keep, in order: rule 0 is that they spell a document
abbrev pub rules : List ℕ → List Bool
rules bytes = is_some (document bytes) ∷ kept (whole bytes)

-- the number of the first rule that is broken, where the first of the list is the rule of this number
abbrev pub first_broken_from : ℕ → List Bool → Option ℕ
first_broken_from number [] = None
first_broken_from number (is_kept ∷ later) = if is_kept then first_broken_from (suc number) later else Some number

-- the number of the first rule that bytes break, if they break one
abbrev pub first_broken : List ℕ → Option ℕ
first_broken bytes = first_broken_from 0 (rules bytes)

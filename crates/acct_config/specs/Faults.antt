-- At which key a parsed document breaks a rule: the first one, table after table.
use Rattle.std.specs.Prelude.{ℕ, suc, Bool, true, false, not, is_some, if◌then◌else◌, ◌==◌, codes, List, [], ◌∷◌}
use Rattle.std.specs.Prelude.{length, map, Option, Some, None, option_map, option_and_then, position, find, slice_get}
use Rattle.std.specs.List.{list_any}
use Rattle.std.specs.Option.{option_or}
use Rattle.std.specs.Str.{bytes_eq}
use Rattle.toml.specs.Data.{Data, Members, get, as_table}
use Rattle.acct_codes.specs.declared.kind.Kind.{Kind}
use Rattle.acct_config.specs.declared.sections.Section.{Section}
use Rattle.acct_config.specs.declared.sections.Section.TheVariants.{Document, Domain, Listener, Descriptors, Descriptor}
use Rattle.acct_config.specs.declared.sections.Section.TheVariants.{Limits, Hook}
use Rattle.acct_config.specs.Document.{keys, each_limit, limit_key, limit_keys, is_among, required, optional, is_text}
use Rattle.acct_config.specs.Document.{is_number, is_array_of, is_listener, is_descriptor, table_names}
use Rattle.acct_config.specs.Kinds.{kinds, kind_name, kind_names}
use Rattle.acct_config.specs.Rules.{listeners, listener_name, has_address, has_token, has_counts, is_number_within}
use Rattle.acct_config.specs.Rules.{workers, owner_is_sid, aces_are_entries, is_in_range, hook_table, program}
use Rattle.acct_config.specs.Values.{is_listener_name}
use Rattle.acct_base.specs.Words.{is_within}

-- a key of a table of the document
abbrev pub Fault : Type 0
Fault = Section × List ℕ

abbrev pub of_section : Section → Option (List ℕ) → Option Fault
of_section section None = None
of_section section (Some key) = Some (section, key)

-- the key, unless what is there is right
abbrev pub unless : Bool → List ℕ → Option (List ℕ)
unless true key = None
unless false key = Some key

-- the first key of a table that is none of these
abbrev pub unknown_in : List (List ℕ) → Option Members → Option (List ℕ)
unknown_in names None = None
unknown_in names (Some members) = find (λ key. not (is_among names key)) (keys members)

abbrev pub unknown_key : List (List ℕ) → Data → Option (List ℕ)
unknown_key names d = unknown_in names (as_table d)

-- rule 1, in each table: an unknown key, or one without a value that it needs, or with a value of another type
abbrev pub is_table : Data → Bool
is_table d = is_some (as_table d)

unfoldable pub whole_misfit : Data → Option (List ℕ)
whole_misfit d =
    option_or (unknown_key table_names d)
    (option_or (unless (required is_table (codes "domain") d) (codes "domain"))
    (option_or (unless (required (is_array_of is_table) (codes "listener") d) (codes "listener"))
    (option_or (unless (optional is_table (codes "descriptor") d) (codes "descriptor"))
    (option_or (unless (optional is_table (codes "limits") d) (codes "limits"))
    (unless (optional is_table (codes "hook") d) (codes "hook"))))))

unfoldable pub domain_misfit : Data → Option (List ℕ)
domain_misfit d =
    option_or (unknown_key (codes "name" ∷ codes "sid" ∷ []) d)
    (option_or (unless (required is_text (codes "name") d) (codes "name"))
    (unless (required is_text (codes "sid") d) (codes "sid")))

unfoldable pub listener_misfit : Data → Option (List ℕ)
listener_misfit d =
    option_or (unknown_key (codes "name" ∷ codes "address" ∷ codes "token" ∷ codes "workers" ∷ codes "links" ∷ []) d)
    (option_or (unless (required is_text (codes "name") d) (codes "name"))
    (option_or (unless (required is_text (codes "address") d) (codes "address"))
    (option_or (unless (required (is_array_of is_text) (codes "token") d) (codes "token"))
    (option_or (unless (optional is_number (codes "workers") d) (codes "workers"))
    (unless (optional is_number (codes "links") d) (codes "links"))))))

unfoldable pub descriptor_misfit : Data → Option (List ℕ)
descriptor_misfit d =
    option_or (unknown_key (codes "owner" ∷ codes "aces" ∷ []) d)
    (option_or (unless (required is_text (codes "owner") d) (codes "owner"))
    (unless (optional (is_array_of is_text) (codes "aces") d) (codes "aces")))

unfoldable pub descriptors_misfit : Data → Option (List ℕ)
descriptors_misfit d =
    option_or (unknown_key kind_names d)
    (option_map kind_name (find (λ kind. not (optional is_table (kind_name kind) d)) kinds))

unfoldable pub limits_misfit : Data → Option (List ℕ)
limits_misfit d =
    option_or (unknown_key limit_keys d)
    (option_map limit_key (find (λ limit. not (optional is_number (limit_key limit) d)) each_limit))

unfoldable pub hook_misfit : Data → Option (List ℕ)
hook_misfit d =
    option_or (unknown_key (codes "program" ∷ codes "tries" ∷ []) d)
    (option_or (unless (optional is_text (codes "program") d) (codes "program"))
    (unless (optional is_number (codes "tries") d) (codes "tries")))

-- rule 1, in the tables of the document
abbrev pub domain_shape : Data → Option Fault
domain_shape d = of_section Domain (option_and_then domain_misfit (get (codes "domain") d))

abbrev pub listener_shape : List Data → Option ℕ → Option Fault
listener_shape tables None = None
listener_shape tables (Some place) =
    of_section (Listener place) (option_and_then listener_misfit (slice_get tables place))

abbrev pub listeners_shape : Data → Option Fault
listeners_shape d = listener_shape (listeners d) (position (λ table. not (is_listener table)) (listeners d))

abbrev pub descriptor_shape : Data → Option Kind → Option Fault
descriptor_shape d None = None
descriptor_shape d (Some kind) =
    of_section (Descriptor kind) (option_and_then descriptor_misfit (get (kind_name kind) d))

abbrev pub each_descriptor_shape : Data → Option Fault
each_descriptor_shape d =
    descriptor_shape d (find (λ kind. not (optional is_descriptor (kind_name kind) d)) kinds)

abbrev pub descriptors_shape_of : Data → Option Fault
descriptors_shape_of d = option_or (of_section Descriptors (descriptors_misfit d)) (each_descriptor_shape d)

abbrev pub descriptors_shape : Data → Option Fault
descriptors_shape d = option_and_then descriptors_shape_of (get (codes "descriptor") d)

abbrev pub limits_shape : Data → Option Fault
limits_shape d = of_section Limits (option_and_then limits_misfit (get (codes "limits") d))

abbrev pub hook_shape : Data → Option Fault
hook_shape d = of_section Hook (option_and_then hook_misfit (get (codes "hook") d))

unfoldable pub document_shape : Data → Option Fault
document_shape d =
    option_or (of_section Document (whole_misfit d)) (option_or (domain_shape d)
    (option_or (listeners_shape d) (option_or (descriptors_shape d) (option_or (limits_shape d) (hook_shape d)))))

-- a key of the listener that was found
abbrev pub at_listener : List ℕ → Option ℕ → Option Fault
at_listener key None = None
at_listener key (Some place) = Some (Listener place, key)

-- rule 4: the list, where there are too few or too many, or a listener without a name, or with that of a later one
abbrev pub first_taken : ℕ → List Data → Option ℕ
first_taken place [] = None
first_taken place (listener ∷ later) =
    if list_any (bytes_eq (listener_name listener)) (map listener_name later) then Some place
    else first_taken (suc place) later

unfoldable pub names_fault : List Data → Option Fault
names_fault tables =
    if not (is_within 1 16 (length tables)) then Some (Document, codes "listener")
    else (option_or
    (at_listener (codes "name") (position (λ table. not (is_listener_name (listener_name table))) tables))
    (at_listener (codes "name") (first_taken 0 tables)))

-- rules 5 to 7: the first listener that breaks it
abbrev pub addresses_fault : List Data → Option Fault
addresses_fault tables = at_listener (codes "address") (position (λ table. not (has_address table)) tables)

abbrev pub tokens_fault : List Data → Option Fault
tokens_fault tables = at_listener (codes "token") (position (λ table. not (has_token table)) tables)

abbrev pub counts_key : Data → List ℕ
counts_key listener = if is_number_within 1 64 (workers listener) then codes "links" else codes "workers"

abbrev pub counts_fault_at : List Data → Option ℕ → Option Fault
counts_fault_at tables None = None
counts_fault_at tables (Some place) =
    of_section (Listener place) (option_map counts_key (slice_get tables place))

abbrev pub counts_fault : List Data → Option Fault
counts_fault tables = counts_fault_at tables (position (λ table. not (has_counts table)) tables)

-- rules 8 and 9: the first descriptor table that breaks it
abbrev pub at_descriptor : List ℕ → Option Kind → Option Fault
at_descriptor key None = None
at_descriptor key (Some kind) = Some (Descriptor kind, key)

abbrev pub owners_fault : Data → Option Fault
owners_fault d = at_descriptor (codes "owner") (find (λ kind. not (owner_is_sid d kind)) kinds)

abbrev pub aces_fault : Data → Option Fault
aces_fault d = at_descriptor (codes "aces") (find (λ kind. not (aces_are_entries d kind)) kinds)

-- rule 10: the first limit out of its range
abbrev pub limits_fault : Data → Option Fault
limits_fault d = of_section Limits (option_map limit_key (find (λ limit. not (is_in_range d limit)) each_limit))

-- rule 11: the program where it is missing or empty, and else the tries
abbrev pub hook_key : Data → List ℕ
hook_key hook = if length (program hook) == 0 then codes "program" else codes "tries"

abbrev pub hook_fault : Data → Option Fault
hook_fault d = of_section Hook (option_map hook_key (hook_table d))

-- the key at which the rule of a number is broken, of a document that breaks it
unfoldable pub fault_of : ℕ → Data → Option Fault
fault_of rule d =
    if rule == 1 then document_shape d
    else (if rule == 2 then Some (Domain, codes "name")
    else (if rule == 3 then Some (Domain, codes "sid")
    else (if rule == 4 then names_fault (listeners d)
    else (if rule == 5 then addresses_fault (listeners d)
    else (if rule == 6 then tokens_fault (listeners d)
    else (if rule == 7 then counts_fault (listeners d)
    else (if rule == 8 then owners_fault d
    else (if rule == 9 then aces_fault d
    else (if rule == 10 then limits_fault d
    else (if rule == 11 then hook_fault d else None))))))))))

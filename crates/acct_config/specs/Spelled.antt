-- The configuration that a document spells, and which configurations are right.
use Rattle.std.specs.Prelude.{◌≡◌, ℕ, ℤ, pos, negsuc, codes, List, map, Option, Some, None, unwrap_or, option_map}
use Rattle.std.specs.Prelude.{if◌then◌else◌, nat_le, ◌≤◌, Bool, true, ◌&&◌, length, All, IfSome}
use Rattle.std.specs.List.{filter_map, list_all}
use Rattle.toml.specs.Data.{Data, get}
use Rattle.acct_base.specs.Words.{is_within}
use Rattle.dtyp_access.specs.Parts.{IsDescriptor}
use Rattle.dtyp_access.specs.declared.ace.Ace.{Ace}
use Rattle.dtyp_access.specs.declared.descriptor.Descriptor.{Descriptor}
use Rattle.acct_calls.specs.Names.{name_of_text, is_domain_name, is_domain_sid}
use Rattle.acct_config.specs.Values.{is_address, ace_of_text, administrators, is_listener_name, are_distinct}
use Rattle.acct_config.specs.Document.{whole, text_of, elements, range_of}
use Rattle.acct_config.specs.Kinds.{kinds}
use Rattle.acct_config.specs.Rules.{kept, first_broken_from, first_broken, domain_name, domain_sid, listeners}
use Rattle.acct_config.specs.Rules.{listener_name, listener_address, sid_of, token_texts, workers, links}
use Rattle.acct_config.specs.Rules.{descriptor_table, owner, limit_number, hook_table, program, tries}
use Rattle.acct_config.specs.declared.config.Config.{Config}
use Rattle.acct_config.specs.declared.config.Hook.{Hook}
use Rattle.acct_config.specs.declared.config.Listener.{Listener}
use Rattle.acct_config.specs.declared.limits.Limit.{Limit}
use Rattle.acct_config.specs.declared.limits.Limit.TheVariants.{Calls, Bytes, Conns, Read, Periods}
use Rattle.acct_config.specs.declared.limits.Limits.{Limits}

-- ======== the configuration that a parsed document spells
-- It is total: of a document that breaks no rule nothing is left out.

-- a number up to the highest, and else 0
abbrev pub count_of : ℕ → ℤ → ℕ
count_of high (pos number) = if nat_le number high then number else 0
count_of high (negsuc number) = 0

abbrev pub listener_of : Data → Listener
listener_of listener = record {
  name = listener_name listener;
  address = listener_address listener;
  token = filter_map sid_of (token_texts listener);
  workers = count_of 64 (workers listener);
  links = count_of 4294967295 (links listener);
}

-- the entries of a list
abbrev pub ace_at : Data → Option Ace
ace_at text = ace_of_text (text_of (Some text))

abbrev pub acl_of : Data → List Ace
acl_of aces = filter_map ace_at (elements aces)

-- the descriptor of a table: an absent one stands for the administrators as the owner, and no list
abbrev pub descriptor_of : Option Data → Descriptor
descriptor_of None = record { owner = administrators; group = None; acl = None }
descriptor_of (Some descriptor) = record {
  owner = unwrap_or (owner descriptor) administrators;
  group = None;
  acl = option_map acl_of (get (codes "aces") descriptor);
}

-- the limits: each as its key says, and else what it is where no key sets it
abbrev pub limit_of : Data → Limit → ℕ
limit_of d limit = count_of (range_of limit).high (limit_number d limit)

abbrev pub limits_of : Data → Limits
limits_of d = record {
  max_calls = limit_of d Calls;
  max_bytes = limit_of d Bytes;
  max_conns = limit_of d Conns;
  max_read = limit_of d Read;
  max_periods = limit_of d Periods;
}

-- the program that is told of changes, where there is a table for it
abbrev pub hook_of : Data → Hook
hook_of hook = record { program = program hook; tries = count_of 100 (tries hook) }

-- the configuration that a document spells
abbrev pub config_of : Data → Config
config_of d = record {
  name = name_of_text (domain_name d);
  sid = unwrap_or (domain_sid d) administrators;
  listeners = map listener_of (listeners d);
  descriptors = map (λ kind. descriptor_of (descriptor_table d kind)) kinds;
  limits = limits_of d;
  hook = option_map hook_of (hook_table d);
}

-- a document that breaks no rule from 1 on, and its configuration
pub record IsConfigOf (d : Data) (config : Config) : Type 0 where
  pub kept_all : first_broken_from 1 (kept d) ≡ None
  pub value : config ≡ config_of d

-- bytes that break no rule, and their configuration
pub record IsSpelledBy (bytes : List ℕ) (config : Config) : Type 0 where
  pub kept_all : first_broken bytes ≡ None
  pub value : config ≡ config_of (whole bytes)

-- ======== which configurations are right: what each that is read keeps, and a server may rely on

-- a listener has a name and an address, a token of 1 to 64 SIDs, 1 to 64 workers, and a number of links of 32 bits
abbrev pub is_right_listener : Listener → Bool
is_right_listener listener =
    is_listener_name listener.name && is_address listener.address && is_within 1 64 (length listener.token)
    && is_within 1 64 listener.workers && is_within 0 4294967295 listener.links

-- a list has at most 800 entries
abbrev pub is_right_list : Option (List Ace) → Bool
is_right_list None = true
is_right_list (Some aces) = is_within 0 800 (length aces)

abbrev pub is_right_descriptor : Descriptor → Bool
is_right_descriptor descriptor = is_right_list descriptor.acl

-- a number in the range of a limit
abbrev pub IsInRange : Limit → ℕ → Type 0
IsInRange limit number = ((range_of limit).low ≤ number) × (number ≤ (range_of limit).high)

-- each limit is in its range
pub record AreLimits (limits : Limits) : Type 0 where
  pub calls : IsInRange Calls limits.max_calls
  pub bytes : IsInRange Bytes limits.max_bytes
  pub conns : IsInRange Conns limits.max_conns
  pub read : IsInRange Read limits.max_read
  pub periods : IsInRange Periods limits.max_periods

-- a program that is named, and tried 1 to 100 times
pub record IsRightHook (hook : Hook) : Type 0 where
  pub named : 1 ≤ length hook.program
  pub tried : 1 ≤ hook.tries
  pub tries_most : hook.tries ≤ 100

pub record IsRightConfig (config : Config) : Type 0 where
  pub name : is_domain_name config.name ≡ true
  pub sid : is_domain_sid config.sid ≡ true
  pub listener_count : is_within 1 16 (length config.listeners) ≡ true
  pub listeners : list_all is_right_listener config.listeners ≡ true
  pub names_differ : are_distinct (map (λ listener. listener.name) config.listeners) ≡ true
  pub descriptor_count : length config.descriptors ≡ length kinds
  pub descriptors : list_all is_right_descriptor config.descriptors ≡ true
  pub parts : All IsDescriptor config.descriptors
  pub limits : AreLimits config.limits
  pub hook : IfSome config.hook IsRightHook

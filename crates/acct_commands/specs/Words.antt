-- The words of the program.
use Rattle.std.specs.Prelude.{ℕ, ◌==◌, Bool, false, ◌&&◌, ◌||◌, not, List, [], ◌∷◌, codes, Option, Some, None}
use Rattle.std.specs.Prelude.{option_map, if◌then◌else◌, get_or, drop}
use Rattle.std.specs.List.{list_any}
use Rattle.std.specs.Option.{option_or}
use Rattle.std.specs.Str.{bytes_eq}
use Rattle.acct_base.specs.Words.{is_within, decimal_of}
use Rattle.acct_commands.specs.Generated.{most_users}
use Rattle.acct_config.specs.Values.{is_address}
use Rattle.client_commands.specs.declared.command.Command.{Command}
use Rattle.client_commands.specs.Words.{command_of}

-- an address, and a command of the client
pub record Calling : Type 0 where
  pub address : List ℕ
  pub command : Command

-- the names of a configuration and of a store
pub record ServeNames : Type 0 where
  pub config : List ℕ
  pub store : List ℕ

-- what the words ask for, with what they name: the configuration of a replay or of an audit, how many users the
-- generator makes, the configuration and the store of a server or of an outbox, or what is asked for at which address
pub data Form : Type 0 where
  Replay : List ℕ → Form
  Audit : List ℕ → Form
  Generate : ℕ → Form
  Serve : ServeNames → Form
  Hooks : ServeNames → Form
  Call : Calling → Form

abbrev pub begins_with_dash : List ℕ → Bool
begins_with_dash [] = false
begins_with_dash (b ∷ word) = b == 45

-- `replay CONFIG`, whose second word doesn't begin with a dash: the name of the configuration
abbrev pub replay_form : List (List ℕ) → Option (List ℕ)
replay_form (command ∷ name ∷ []) =
    if bytes_eq command (codes "replay") then (if begins_with_dash name then None else Some name) else None
replay_form _ = None

-- `audit CONFIG`, whose second word doesn't begin with a dash: the name of the configuration
abbrev pub audit_form : List (List ℕ) → Option (List ℕ)
audit_form (command ∷ name ∷ []) =
    if bytes_eq command (codes "audit") then (if begins_with_dash name then None else Some name) else None
audit_form _ = None

abbrev pub from_1_to_most : Option ℕ → Option ℕ
from_1_to_most None = None
from_1_to_most (Some n) = if is_within 1 most_users n then Some n else None

-- a number of users in at most five decimal digits, without a leading zero
unfoldable pub users_in : List ℕ → Option ℕ
users_in word = from_1_to_most (decimal_of 5 word)

-- `gen N`: the number of users
abbrev pub gen_form : List (List ℕ) → Option ℕ
gen_form (command ∷ number ∷ []) = if bytes_eq command (codes "gen") then users_in number else None
gen_form _ = None

-- `serve CONFIG STORE` or `hooks CONFIG STORE`, of which neither name begins with a dash
abbrev pub names_form : List ℕ → List (List ℕ) → Option ServeNames
names_form word (command ∷ config ∷ store ∷ []) =
    if bytes_eq command word && not (begins_with_dash config || begins_with_dash store)
    then Some (record { config = config; store = store }) else None
names_form word _ = None

abbrev pub serve_form : List (List ℕ) → Option ServeNames
serve_form words = names_form (codes "serve") words

abbrev pub hooks_form : List (List ℕ) → Option ServeNames
hooks_form words = names_form (codes "hooks") words

-- the command of the client that words are, at an address
abbrev pub calling : List ℕ → Command → Calling
calling address command = record { address = address; command = command }

abbrev pub calling_at : List ℕ → List (List ℕ) → Option Calling
calling_at address words = option_map (λ (c : Command). calling address c) (command_of words)

-- `call ADDRESS WORD` with one or more words, of which none begins with a dash
abbrev pub is_call_form : List (List ℕ) → Bool
is_call_form (command ∷ address ∷ word ∷ words) =
    bytes_eq command (codes "call") && is_address address && not (list_any begins_with_dash (word ∷ words))
is_call_form _ = false

abbrev pub call_form : List (List ℕ) → Option Calling
call_form words = if is_call_form words then calling_at (get_or words 1 []) (drop 2 words) else None

-- what the words ask for, if they have a form
abbrev pub form_of : List (List ℕ) → Option Form
form_of words = option_or (option_map Replay (replay_form words))
    (option_or (option_map Audit (audit_form words))
    (option_or (option_map Generate (gen_form words))
    (option_or (option_map Serve (serve_form words))
    (option_or (option_map Hooks (hooks_form words)) (option_map Call (call_form words))))))

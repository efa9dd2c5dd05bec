-- The commands of the client: their words, and the calls that each of them makes.
use Rattle.std.specs.Prelude.{ℕ, Bool, ◌&&◌, List, [], ◌∷◌, length, map, codes, chars, Option, Some, None, nat_le}
use Rattle.std.specs.Prelude.{if◌then◌else◌, option_map, ◌+◌, false}
use Rattle.std.specs.List.{list_all}
use Rattle.std.specs.Str.{bytes_eq}
use Rattle.acct_codes.specs.Accounts.{new_group_attributes, lsap_lookup_wksta, user_normal_account}
use Rattle.acct_codes.specs.Limits.{most_rights, most_translated_names}
use Rattle.acct_codes.specs.Opnums.{samr_connect2, samr_lookup_domain_in_sam_server, samr_open_domain}
use Rattle.acct_codes.specs.Opnums.{samr_enumerate_domains_in_sam_server, samr_enumerate_users_in_domain}
use Rattle.acct_codes.specs.Opnums.{samr_create_user2_in_domain, samr_lookup_names_in_domain, samr_open_user}
use Rattle.acct_codes.specs.Opnums.{samr_delete_user, samr_open_group, samr_get_members_in_group}
use Rattle.acct_codes.specs.Opnums.{samr_add_member_to_group, lsar_open_policy2, lsar_lookup_names, lsar_lookup_sids}
use Rattle.acct_codes.specs.Opnums.{lsar_enumerate_account_rights, lsar_add_account_rights}
use Rattle.acct_codes.specs.Rights.{sam_server_enumerate_domains, sam_server_lookup_domain, domain_list_accounts}
use Rattle.acct_codes.specs.Rights.{domain_create_user, domain_lookup, group_list_members, group_add_member}
use Rattle.acct_codes.specs.Rights.{policy_create_account, policy_lookup_names, delete, maximum_allowed}
use Rattle.dtyp_sid.specs.Reading.{sid_of_text}
use Rattle.dtyp_sid.specs.Sids.{SidValue}
use Rattle.acct_calls.specs.Calls.{lsa_call, samr_call, zero_handle}
use Rattle.acct_calls.specs.Names.{units_of}
use Rattle.acct_calls.specs.declared.calls.Args.{Args}
use Rattle.acct_calls.specs.declared.calls.Args.TheVariants as args
use Rattle.acct_calls.specs.declared.calls.Call.{Call}
use Rattle.acct_calls.specs.declared.handle.Handle.{Handle}
use Rattle.client_commands.specs.declared.command.Command.{Command}
use Rattle.client_commands.specs.declared.command.Command.TheVariants.{Domains, InDomain, AtPolicy}
use Rattle.client_commands.specs.declared.command.NamedTask.{NamedTask}
use Rattle.client_commands.specs.declared.command.NamedTask.TheVariants.{DeleteUser, Members, AddMember}
use Rattle.client_commands.specs.declared.command.Query.{Query}
use Rattle.client_commands.specs.declared.command.Query.TheVariants.{Names, Sids, Rights, Grant}
use Rattle.client_commands.specs.declared.command.SidWord.{SidWord}
use Rattle.client_commands.specs.declared.command.Task.{Task}
use Rattle.client_commands.specs.declared.command.Task.TheVariants.{Users, CreateUser, Named}
use Rattle.client_commands.specs.declared.steps.GroupTask.{GroupTask}
use Rattle.client_commands.specs.declared.steps.GroupTask.TheVariants as group_task
use Rattle.client_commands.specs.declared.steps.Step.{Step}
use Rattle.client_commands.specs.declared.steps.Step.TheVariants as step

-- ======== the words of the client's commands

-- the most UTF-16 units of a name
abbrev pub most_units : ℕ
most_units = 300

-- the name that a word spells
abbrev pub name_in : List ℕ → List ℕ
name_in word = units_of (chars word)

abbrev pub is_short : List ℕ → Bool
is_short name = nat_le (length name) most_units

abbrev pub name_of : List ℕ → Option (List ℕ)
name_of word = if is_short (name_in word) then Some (name_in word) else None

abbrev pub both_of : Option (List ℕ) → Option (List ℕ) → Option (List ℕ × List ℕ)
both_of None second = None
both_of (Some first) None = None
both_of (Some first) (Some second) = Some (first, second)

-- the names of words that are two
abbrev pub two_names : List (List ℕ) → Option (List ℕ × List ℕ)
two_names (first ∷ second ∷ []) = both_of (name_of first) (name_of second)
two_names _ = None

-- so many names at most, each of them short
unfoldable pub names_of : ℕ → List (List ℕ) → Option (List (List ℕ))
names_of most words =
    if nat_le (length words) most && list_all is_short (map name_in words) then Some (map name_in words) else None

-- a SID with its word
abbrev pub spelled_sid : List ℕ → Option SidValue → Option SidWord
spelled_sid word None = None
spelled_sid word (Some sid) = Some (record { word = word; sid = sid })

abbrev pub sid_word : List ℕ → Option SidWord
sid_word word = spelled_sid word (sid_of_text word)

abbrev pub before : Option SidWord → Option (List SidWord) → Option (List SidWord)
before None sids = None
before (Some sid) None = None
before (Some sid) (Some sids) = Some (sid ∷ sids)

-- each word is a SID's
abbrev pub all_sids : List (List ℕ) → Option (List SidWord)
all_sids [] = Some []
all_sids (word ∷ words) = before (sid_word word) (all_sids words)

unfoldable pub sids_of : List (List ℕ) → Option (List SidWord)
sids_of words = if nat_le (length words) most_translated_names then all_sids words else None

-- ---- what stands after the first word

abbrev pub in_domain : Option (List ℕ) → Option Task → Option Command
in_domain None task = None
in_domain (Some domain) None = None
in_domain (Some domain) (Some task) = Some (InDomain domain task)

abbrev pub adding : Option (List ℕ) → Option (List ℕ) → Option Task
adding None user = None
adding (Some group) None = None
adding (Some group) (Some user) = Some (Named (AddMember group user))

abbrev pub granting : Option SidValue → Option (List (List ℕ)) → Option Command
granting None rights = None
granting (Some sid) None = None
granting (Some sid) (Some rights) = Some (AtPolicy (Grant sid rights))

-- the words after each first word
abbrev pub domains_form : List (List ℕ) → Option Command
domains_form [] = Some Domains
domains_form _ = None

abbrev pub users_form : List (List ℕ) → Option Command
users_form (domain ∷ []) = in_domain (name_of domain) (Some Users)
users_form _ = None

abbrev pub create_form : List (List ℕ) → Option Command
create_form (domain ∷ name ∷ []) = in_domain (name_of domain) (option_map CreateUser (name_of name))
create_form _ = None

abbrev pub delete_form : List (List ℕ) → Option Command
delete_form (domain ∷ name ∷ []) = in_domain (name_of domain) (option_map (λ n. Named (DeleteUser n)) (name_of name))
delete_form _ = None

abbrev pub members_form : List (List ℕ) → Option Command
members_form (domain ∷ group ∷ []) = in_domain (name_of domain) (option_map (λ n. Named (Members n)) (name_of group))
members_form _ = None

abbrev pub add_form : List (List ℕ) → Option Command
add_form (domain ∷ group ∷ user ∷ []) = in_domain (name_of domain) (adding (name_of group) (name_of user))
add_form _ = None

abbrev pub names_form : List (List ℕ) → Option Command
names_form [] = None
names_form (name ∷ names) =
    option_map (λ all. AtPolicy (Names all)) (names_of most_translated_names (name ∷ names))

abbrev pub sids_form : List (List ℕ) → Option Command
sids_form [] = None
sids_form (sid ∷ sids) = option_map (λ all. AtPolicy (Sids all)) (sids_of (sid ∷ sids))

abbrev pub rights_form : List (List ℕ) → Option Command
rights_form (sid ∷ []) = option_map (λ s. AtPolicy (Rights s)) (sid_of_text sid)
rights_form _ = None

abbrev pub grant_form : List (List ℕ) → Option Command
grant_form (sid ∷ right ∷ rights) = granting (sid_of_text sid) (names_of most_rights (right ∷ rights))
grant_form _ = None

-- the command of a first word and those after it
unfoldable pub verb_form : List ℕ → List (List ℕ) → Option Command
verb_form verb words =
    if bytes_eq verb (codes "domains") then domains_form words
    else (if bytes_eq verb (codes "users") then users_form words
    else (if bytes_eq verb (codes "create-user") then create_form words
    else (if bytes_eq verb (codes "delete-user") then delete_form words
    else (if bytes_eq verb (codes "members") then members_form words
    else (if bytes_eq verb (codes "add-member") then add_form words
    else (if bytes_eq verb (codes "names") then names_form words
    else (if bytes_eq verb (codes "sids") then sids_form words
    else (if bytes_eq verb (codes "rights") then rights_form words
    else (if bytes_eq verb (codes "grant") then grant_form words
    else None)))))))))

-- the table of the commands
abbrev pub command_of : List (List ℕ) → Option Command
command_of [] = None
command_of (verb ∷ words) = verb_form verb words

-- ======== the calls that each command makes in order (MS-SAMR 3.1.5, MS-LSAD 3.1.4, MS-LSAT 3.1.4), with what the
-- replies before them brought

-- the length of a page that is asked for
abbrev pub preferred : ℕ
preferred = 4096

-- the access to the domain that a task needs
abbrev pub domain_access : Task → ℕ
domain_access Users = domain_list_accounts
domain_access (CreateUser name) = domain_create_user
domain_access (Named task) = domain_lookup

abbrev pub group_access : GroupTask → ℕ
group_access group_task.Members = group_list_members
group_access (group_task.Add rid) = group_add_member

abbrev pub policy_access : Query → ℕ
policy_access (Names names) = policy_lookup_names
policy_access (Sids sids) = policy_lookup_names
policy_access (Rights sid) = policy_lookup_names
policy_access (Grant sid rights) = policy_create_account + policy_lookup_names

-- every command opens the server or the policy first
abbrev pub opening_call : Command → Call
opening_call Domains = samr_call samr_connect2 zero_handle (args.Access sam_server_enumerate_domains)
opening_call (InDomain domain task) = samr_call samr_connect2 zero_handle (args.Access sam_server_lookup_domain)
opening_call (AtPolicy query) = lsa_call lsar_open_policy2 zero_handle (args.Policy false (policy_access query))

abbrev pub page : ℕ → Args
page context = args.Page context 0 preferred

-- the names that a task looks up: of a membership the group's first
abbrev pub asked_names : NamedTask → List (List ℕ)
asked_names (DeleteUser name) = name ∷ []
asked_names (Members name) = name ∷ []
asked_names (AddMember group user) = group ∷ user ∷ []

abbrev pub sid_of_word : SidWord → SidValue
sid_of_word word = word.sid

abbrev pub query_call : Handle → Query → Call
query_call policy (Names names) = lsa_call lsar_lookup_names policy (args.LookNames lsap_lookup_wksta names)
query_call policy (Sids sids) =
    lsa_call lsar_lookup_sids policy (args.LookSids lsap_lookup_wksta (map sid_of_word sids))
query_call policy (Rights sid) = lsa_call lsar_enumerate_account_rights policy (args.OneSid sid)
query_call policy (Grant sid rights) = lsa_call lsar_add_account_rights policy (args.Rights sid false rights)

-- the call of a step
abbrev pub call_of : Step → Call
call_of (step.Opening command) = opening_call command
call_of (step.ListingDomains server context) =
    samr_call samr_enumerate_domains_in_sam_server server (page context)
call_of (step.LookingUpDomain server domain task) =
    samr_call samr_lookup_domain_in_sam_server server (args.OneName (Some domain))
call_of (step.OpeningDomain server sid task) =
    samr_call samr_open_domain server (args.AccessSid (domain_access task) sid)
call_of (step.ListingUsers domain context) = samr_call samr_enumerate_users_in_domain domain (page context)
call_of (step.CreatingUser domain name) =
    samr_call samr_create_user2_in_domain domain (args.Make name user_normal_account maximum_allowed)
call_of (step.LookingUp domain task) = samr_call samr_lookup_names_in_domain domain (args.NameList (asked_names task))
call_of (step.OpeningUser domain rid) = samr_call samr_open_user domain (args.AccessRid delete rid)
call_of (step.DeletingUser user rid) = samr_call samr_delete_user user args.Nothing
call_of (step.OpeningGroup domain rid task) =
    samr_call samr_open_group domain (args.AccessRid (group_access task) rid)
call_of (step.ListingMembers group) = samr_call samr_get_members_in_group group args.Nothing
call_of (step.AddingMember group rid) =
    samr_call samr_add_member_to_group group (args.RidBits rid new_group_attributes)
call_of (step.Asking policy query) = query_call policy query

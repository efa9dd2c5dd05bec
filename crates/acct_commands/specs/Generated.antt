-- The calls and the events of the generator.
use Rattle.std.specs.Prelude.{ℕ, zero, suc, ◌+◌, ◌*◌, ◌^◌, ◌%◌, ◌==◌, false, List, [], ◌∷◌, ◌++◌, codes, if◌then◌else◌}
use Rattle.std.specs.Fmt.{decimal}
use Rattle.hex.specs.Hex.{encode_lower}
use Rattle.acct_codes.specs.InfoClasses.{user_control_information}
use Rattle.acct_codes.specs.Limits.{most_fragment}
use Rattle.acct_codes.specs.Accounts.{lsap_lookup_wksta, security_nt_authority, first_created_rid, user_normal_account}
use Rattle.acct_codes.specs.Opnums.{samr_connect2, samr_open_domain, samr_create_alias_in_domain}
use Rattle.acct_codes.specs.Opnums.{samr_create_user2_in_domain, samr_add_member_to_alias, samr_set_information_user}
use Rattle.acct_codes.specs.Opnums.{samr_close_handle, samr_lookup_names_in_domain, samr_enumerate_users_in_domain}
use Rattle.acct_codes.specs.Opnums.{samr_get_members_in_alias, lsar_open_policy2, lsar_lookup_names, lsar_close}
use Rattle.acct_codes.specs.Rights.{maximum_allowed}
use Rattle.dtyp_sid.specs.Sids.{with_last, SidValue}
use Rattle.acct_calls.specs.Calls.{lsa_call, samr_call, zero_handle}
use Rattle.acct_calls.specs.declared.calls.Args.TheVariants as args
use Rattle.acct_calls.specs.declared.calls.Call.{Call}
use Rattle.acct_calls.specs.declared.handle.Handle.{Handle}
use Rattle.acct_calls.specs.declared.info.Info.TheVariants as info
use Rattle.acct_client.specs.Dialogues.{call_bytes}
use Rattle.acct_client.specs.Requests.{bind_bytes}

-- ======== the calls of the generator (MS-SAMR 3.1.5, MS-LSAD 3.1.4, MS-LSAT 3.1.4): on one connection they make an
-- alias and users that are its members, and look them up

-- the most users that are generated
abbrev pub most_users : ℕ
most_users = 10_000

-- The handles are known before they are given out: a handle's number is its connection's number, here 1, in the high 64
-- bits, and in the low 64 bits its serial, from 1 in the order in which the connection's calls open.
abbrev pub handle_of : ℕ → Handle
handle_of serial = record { number = 2 ^ 64 + serial }

abbrev pub server : Handle
server = handle_of 1

abbrev pub domain : Handle
domain = handle_of 2

abbrev pub alias : Handle
alias = handle_of 3

-- the users are numbered from 1
abbrev pub user : ℕ → Handle
user k = handle_of (3 + k)

-- after so many users
abbrev pub policy : ℕ → Handle
policy users = handle_of (4 + users)

-- S-1-5-21-1-2-3
abbrev pub domain_sid : SidValue
domain_sid = record { authority = security_nt_authority; subs = 21 ∷ 1 ∷ 2 ∷ 3 ∷ [] }

-- The alias has the first RID, and each user the next.
abbrev pub user_sid : ℕ → SidValue
user_sid k = with_last domain_sid (first_created_rid + k)

-- Names are of ASCII characters, a unit each: here `u` and a number. 65,537 is prime, so that 65,536 users have names
-- of their own.
unfoldable pub user_name : ℕ → List ℕ
user_name k = codes "u" ++ decimal ((k * 7919) % 65537)

-- every opening asks for all that it may have
unfoldable pub opening_calls : List Call
opening_calls =
    samr_call samr_connect2 zero_handle (args.Access maximum_allowed)
    ∷ samr_call samr_open_domain server (args.AccessSid maximum_allowed domain_sid)
    ∷ samr_call samr_create_alias_in_domain domain (args.Make (codes "site") 0 maximum_allowed)
    ∷ []

abbrev pub creation : ℕ → Call
creation k =
    samr_call samr_create_user2_in_domain domain (args.Make (user_name k) user_normal_account maximum_allowed)

abbrev pub addition : ℕ → Call
addition k = samr_call samr_add_member_to_alias alias (args.OneSid (user_sid k))

-- the user is no longer disabled
abbrev pub control : ℕ → Call
control k =
    samr_call samr_set_information_user (user k)
    (args.Put user_control_information (info.Number user_normal_account))

abbrev pub closing : Handle → Call
closing handle = samr_call samr_close_handle handle args.Nothing

-- the control of every second user is set
abbrev pub control_calls : ℕ → List Call
control_calls k = if k % 2 == 1 then control k ∷ [] else []

unfoldable pub user_calls : ℕ → List Call
user_calls k = creation k ∷ addition k ∷ control_calls k ++ closing (user k) ∷ []

-- for the users up to a number, in order
unfoldable pub calls_for_users : ℕ → List Call
calls_for_users zero = []
calls_for_users (suc k) = calls_for_users k ++ user_calls (suc k)

abbrev pub policy_calls : ℕ → List Call
policy_calls users =
    lsa_call lsar_open_policy2 zero_handle (args.Policy false maximum_allowed)
    ∷ lsa_call lsar_lookup_names (policy users) (args.LookNames lsap_lookup_wksta (codes "u7919" ∷ []))
    ∷ lsa_call lsar_close (policy users) args.Nothing
    ∷ []

-- of the first user and of one that isn't there
abbrev pub asked_names : List (List ℕ)
asked_names = codes "u7919" ∷ codes "nobody" ∷ []

unfoldable pub closing_calls : ℕ → List Call
closing_calls users =
    samr_call samr_lookup_names_in_domain domain (args.NameList asked_names)
    ∷ samr_call samr_enumerate_users_in_domain domain (args.Page 0 0 65_535)
    ∷ samr_call samr_get_members_in_alias alias args.Nothing
    ∷ closing alias
    ∷ closing domain
    ∷ closing server
    ∷ policy_calls users

-- with so many users
abbrev pub calls : ℕ → List Call
calls users = opening_calls ++ calls_for_users users ++ closing_calls users

-- ======== the events of the generator: one connection on the listener `a`, a line of data for each PDU, and no end

-- a line that ends with LF (10)
abbrev pub line : List ℕ → List ℕ
line text = text ++ 10 ∷ []

unfoldable pub data_line : List ℕ → List ℕ
data_line bytes = line (codes "data 1 " ++ encode_lower bytes)

-- Both sides take fragments of most_fragment bytes. The stub of each of the calls fits one, so that it is one PDU.
unfoldable pub call_line : ℕ → Call → List ℕ
call_line id call = data_line (call_bytes id most_fragment call)

-- calls in order, of which the first has this call id
unfoldable pub call_lines : ℕ → List Call → List ℕ
call_lines id [] = []
call_lines id (call ∷ calls) = call_line id call ++ call_lines (id + 1) calls

-- The bind has call id 1.
unfoldable pub beginning : List ℕ
beginning = line (codes "open 1 a") ++ data_line bind_bytes

abbrev pub generated : ℕ → List ℕ
generated users = beginning ++ call_lines 2 (calls users)

-- What each reply brings, as lines and as the next step.
use Rattle.std.specs.Prelude.{ℕ, List, encode_utf8, if◌then◌else◌, ◌==◌, [], ◌∷◌, ◌++◌, codes, drop, slice_get, Option}
use Rattle.std.specs.Prelude.{Some, None, negsuc}
use Rattle.std.specs.Fmt.{decimal, signed_decimal}
use Rattle.std.specs.List.{flat_map}
use Rattle.acct_codes.specs.Statuses.{status_more_entries, status_none_mapped}
use Rattle.acct_codes.specs.Accounts.{sid_type_unknown}
use Rattle.dtyp_sid.specs.Text.{hexadecimal, text_of}
use Rattle.dtyp_sid.specs.Sids.{SidValue}
use Rattle.acct_calls.specs.Names.{is_surrogate, code_points}
use Rattle.acct_calls.specs.declared.handle.Handle.{Handle}
use Rattle.acct_calls.specs.declared.lists.RidBits.{RidBits}
use Rattle.acct_calls.specs.declared.lists.RidName.{RidName}
use Rattle.acct_calls.specs.declared.lists.TranslatedName.{TranslatedName}
use Rattle.acct_calls.specs.declared.lists.TranslatedSid.{TranslatedSid}
use Rattle.acct_calls.specs.declared.replies.Outs.{Outs}
use Rattle.acct_calls.specs.declared.replies.Outs.TheVariants as outs
use Rattle.acct_calls.specs.declared.replies.Reply.{Reply}
use Rattle.acct_calls.specs.declared.replies.Reply.TheVariants as reply
use Rattle.acct_layouts.specs.Refusals.{is_refusal}
use Rattle.client_commands.specs.declared.command.Command.{Command}
use Rattle.client_commands.specs.declared.command.Command.TheVariants.{Domains, InDomain, AtPolicy}
use Rattle.client_commands.specs.declared.command.NamedTask.{NamedTask}
use Rattle.client_commands.specs.declared.command.NamedTask.TheVariants.{DeleteUser, Members, AddMember}
use Rattle.client_commands.specs.declared.command.Query.{Query}
use Rattle.client_commands.specs.declared.command.Query.TheVariants.{Names, Sids, Rights, Grant}
use Rattle.client_commands.specs.declared.command.SidWord.{SidWord}
use Rattle.client_commands.specs.declared.command.Task.{Task}
use Rattle.client_commands.specs.declared.command.Task.TheVariants.{Users, CreateUser, Named}
use Rattle.client_commands.specs.declared.outcomes.Outcome.{Outcome}
use Rattle.client_commands.specs.declared.outcomes.Outcome.TheVariants.{Goes, Ends, Refuses, Unfit}
use Rattle.client_commands.specs.declared.steps.GroupTask.{GroupTask}
use Rattle.client_commands.specs.declared.steps.GroupTask.TheVariants as group_task
use Rattle.client_commands.specs.declared.steps.Step.{Step}
use Rattle.client_commands.specs.declared.steps.Step.TheVariants as step

-- ======== names as text

-- `?` (63) in place of a surrogate that stands alone
abbrev pub glyph : ℕ → ℕ
glyph point = if is_surrogate point then 63 else point

-- the name in UTF-8
unfoldable pub name_text : List ℕ → List ℕ
name_text units = flat_map (λ point. encode_utf8 (glyph point)) (code_points units)

-- ======== what each reply brings: the lines that are printed of it, and the next step

-- ---- lines, each ended by LF (10), with single spaces (32)

abbrev pub domain_line : RidName → List ℕ
domain_line entry = name_text entry.name ++ 10 ∷ []

abbrev pub user_line : RidName → List ℕ
user_line entry = decimal entry.rid ++ 32 ∷ [] ++ name_text entry.name ++ 10 ∷ []

abbrev pub member_line : RidBits → List ℕ
member_line member = decimal member.rid ++ 32 ∷ [] ++ decimal member.bits ++ 10 ∷ []

abbrev pub right_line : List ℕ → List ℕ
right_line right = name_text right ++ 10 ∷ []

-- what was done to the account with this RID
abbrev pub done_line : List ℕ → ℕ → List ℕ
done_line word rid = word ++ decimal rid ++ 10 ∷ []

unfoldable pub refused_line : ℕ → List ℕ
refused_line status = codes "refused 0x" ++ hexadecimal 8 status ++ 10 ∷ []

-- a name that wasn't translated
abbrev pub unmapped : TranslatedSid
unmapped = record { usage = sid_type_unknown; rid = 0; index = negsuc 0 }

abbrev pub entry_or_unmapped : Option TranslatedSid → TranslatedSid
entry_or_unmapped None = unmapped
entry_or_unmapped (Some entry) = entry

unfoldable pub name_line : List ℕ → TranslatedSid → List ℕ
name_line name entry = name_text name ++ 32 ∷ [] ++ decimal entry.usage ++ 32 ∷ [] ++ decimal entry.rid ++ 32 ∷ []
    ++ signed_decimal entry.index ++ 10 ∷ []

-- a SID that wasn't translated has its text as its name
unfoldable pub sid_line : SidWord → Option TranslatedName → List ℕ
sid_line sid None = sid.word ++ 32 ∷ [] ++ decimal sid_type_unknown ++ 32 ∷ [] ++ text_of sid.sid
    ++ 32 ∷ [] ++ signed_decimal (negsuc 0) ++ 10 ∷ []
sid_line sid (Some entry) = sid.word ++ 32 ∷ [] ++ decimal entry.usage ++ 32 ∷ [] ++ name_text entry.name
    ++ 32 ∷ [] ++ signed_decimal entry.index ++ 10 ∷ []

-- Of each name that was asked its line: where entries are missing it wasn't translated, and further ones are dropped.
abbrev pub name_lines : List (List ℕ) → List TranslatedSid → List ℕ
name_lines [] entries = []
name_lines (name ∷ names) entries =
    name_line name (entry_or_unmapped (slice_get entries 0)) ++ name_lines names (drop 1 entries)

abbrev pub sid_lines : List SidWord → List TranslatedName → List ℕ
sid_lines [] entries = []
sid_lines (sid ∷ sids) entries = sid_line sid (slice_get entries 0) ++ sid_lines sids (drop 1 entries)

-- ---- what each step's reply brings

abbrev pub listed : {A : Type 0} → Option (List A) → List A
listed None = []
listed (Some entries) = entries

-- a page: more is asked for exactly while the status is STATUS_MORE_ENTRIES
abbrev pub paged : List ℕ → ℕ → Step → Outcome
paged lines status next = if status == status_more_entries then Goes lines next else Ends lines

abbrev pub opened : Command → Handle → Step
opened Domains handle = step.ListingDomains handle 0
opened (InDomain domain task) handle = step.LookingUpDomain handle domain task
opened (AtPolicy query) handle = step.Asking handle query

abbrev pub after_opening : Command → Outs → Outcome
after_opening command (outs.Handle handle) = Goes [] (opened command handle)
after_opening command _ = Unfit

abbrev pub after_domains : Handle → ℕ → Outs → Outcome
after_domains server status (outs.Page context entries) =
    paged (flat_map domain_line (listed entries)) status (step.ListingDomains server context)
after_domains server status _ = Unfit

-- a null SID is no domain
abbrev pub with_domain : Handle → Task → Option SidValue → Outcome
with_domain server task None = Refuses status_none_mapped
with_domain server task (Some sid) = Goes [] (step.OpeningDomain server sid task)

abbrev pub after_domain : Handle → Task → Outs → Outcome
after_domain server task (outs.OneSid sid) = with_domain server task sid
after_domain server task _ = Unfit

abbrev pub in_domain : Task → Handle → Step
in_domain Users domain = step.ListingUsers domain 0
in_domain (CreateUser name) domain = step.CreatingUser domain name
in_domain (Named task) domain = step.LookingUp domain task

abbrev pub after_open_domain : Task → Outs → Outcome
after_open_domain task (outs.Handle domain) = Goes [] (in_domain task domain)
after_open_domain task _ = Unfit

abbrev pub after_users : Handle → ℕ → Outs → Outcome
after_users domain status (outs.Page context entries) =
    paged (flat_map user_line (listed entries)) status (step.ListingUsers domain context)
after_users domain status _ = Unfit

abbrev pub after_creation : Outs → Outcome
after_creation (outs.Created handle granted rid) = Ends (done_line (codes "created ") rid)
after_creation _ = Unfit

-- the RID of the name at a place, if it was found: both lists have it, and its use isn't SidTypeUnknown
abbrev pub known : Option ℕ → Option ℕ → Option ℕ
known None usage = None
known (Some rid) None = None
known (Some rid) (Some usage) = if usage == sid_type_unknown then None else Some rid

abbrev pub rid_at : List ℕ → List ℕ → ℕ → Option ℕ
rid_at rids uses place = known (slice_get rids place) (slice_get uses place)

abbrev pub found : Handle → NamedTask → Option ℕ → Option ℕ → Outcome
found domain task None second = Refuses status_none_mapped
found domain (DeleteUser name) (Some rid) second = Goes [] (step.OpeningUser domain rid)
found domain (Members name) (Some rid) second = Goes [] (step.OpeningGroup domain rid group_task.Members)
found domain (AddMember group user) (Some rid) None = Refuses status_none_mapped
found domain (AddMember group user) (Some rid) (Some second) =
    Goes [] (step.OpeningGroup domain rid (group_task.Add second))

abbrev pub after_look_up : Handle → NamedTask → Outs → Outcome
after_look_up domain task (outs.RidUses rids uses) = found domain task (rid_at rids uses 0) (rid_at rids uses 1)
after_look_up domain task _ = Unfit

abbrev pub after_open_user : ℕ → Outs → Outcome
after_open_user rid (outs.Handle user) = Goes [] (step.DeletingUser user rid)
after_open_user rid _ = Unfit

abbrev pub after_deletion : ℕ → Outs → Outcome
after_deletion rid (outs.Handle handle) = Ends (done_line (codes "deleted ") rid)
after_deletion rid _ = Unfit

abbrev pub with_group : GroupTask → Handle → Step
with_group group_task.Members group = step.ListingMembers group
with_group (group_task.Add rid) group = step.AddingMember group rid

abbrev pub after_open_group : GroupTask → Outs → Outcome
after_open_group task (outs.Handle group) = Goes [] (with_group task group)
after_open_group task _ = Unfit

abbrev pub after_members : Outs → Outcome
after_members (outs.Pairs members) = Ends (flat_map member_line (listed members))
after_members _ = Unfit

abbrev pub after_addition : ℕ → Outs → Outcome
after_addition rid outs.Nothing = Ends (done_line (codes "added ") rid)
after_addition rid _ = Unfit

abbrev pub after_names : List (List ℕ) → Outs → Outcome
after_names names (outs.Sids domains entries mapped) = Ends (name_lines names entries)
after_names names _ = Unfit

abbrev pub after_sids : List SidWord → Outs → Outcome
after_sids sids (outs.Names domains entries mapped) = Ends (sid_lines sids entries)
after_sids sids _ = Unfit

abbrev pub after_rights : Outs → Outcome
after_rights (outs.NameList rights) = Ends (flat_map right_line rights)
after_rights _ = Unfit

abbrev pub after_grant : Outs → Outcome
after_grant outs.Nothing = Ends (codes "granted" ++ 10 ∷ [])
after_grant _ = Unfit

abbrev pub after_query : Query → Outs → Outcome
after_query (Names names) o = after_names names o
after_query (Sids sids) o = after_sids sids o
after_query (Rights sid) o = after_rights o
after_query (Grant sid rights) o = after_grant o

abbrev pub answered : Step → ℕ → Outs → Outcome
answered (step.Opening command) status o = after_opening command o
answered (step.ListingDomains server context) status o = after_domains server status o
answered (step.LookingUpDomain server domain task) status o = after_domain server task o
answered (step.OpeningDomain server sid task) status o = after_open_domain task o
answered (step.ListingUsers domain context) status o = after_users domain status o
answered (step.CreatingUser domain name) status o = after_creation o
answered (step.LookingUp domain task) status o = after_look_up domain task o
answered (step.OpeningUser domain rid) status o = after_open_user rid o
answered (step.DeletingUser user rid) status o = after_deletion rid o
answered (step.OpeningGroup domain rid task) status o = after_open_group task o
answered (step.ListingMembers group) status o = after_members o
answered (step.AddingMember group rid) status o = after_addition rid o
answered (step.Asking policy query) status o = after_query query o

-- a refusal ends the command
abbrev pub after : Step → Reply → Outcome
after s (reply.Fault status) = Unfit
after s (reply.Done status o) = if is_refusal status then Refuses status else answered s status o

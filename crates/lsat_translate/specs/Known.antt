-- The domains that a translation may refer to, and the well-known names (MS-LSAT 3.1.1.1, MS-DTYP 2.4.2.4).
use Rattle.std.specs.Prelude.{ℕ, Bool, true, false, codes, List, [], ◌∷◌, Option, Some, None}
use Rattle.acct_calls.specs.Names.{name_of_text, builtin_name, builtin_sid, authority_name}
use Rattle.acct_codes.specs.Accounts.{security_world_authority, security_nt_authority, security_world_rid}
use Rattle.acct_codes.specs.Accounts.{security_anonymous_logon_rid, security_authenticated_user_rid}
use Rattle.acct_codes.specs.Accounts.{security_local_system_rid}
use Rattle.acct_rows.specs.Rows.{Lists, domain_at}
use Rattle.acct_tables.specs.Keys.{account_domain}
use Rattle.acct_tables.specs.declared.row.DomainRow.{DomainRow}
use Rattle.dtyp_sid.specs.Sids.{authority_alone, SidValue}
use Rattle.lsat_translate.specs.declared.known.Known.{Known}
use Rattle.lsat_translate.specs.declared.known.Known.TheVariants.{Account, Builtin, NtAuthority, World}
use Rattle.lsat_translate.specs.declared.known.WellKnown.{WellKnown}
use Rattle.lsat_translate.specs.declared.known.WellKnown.TheVariants.{Everyone, AnonymousLogon}
use Rattle.lsat_translate.specs.declared.known.WellKnown.TheVariants.{AuthenticatedUsers, System}

-- ---- the well-known names

abbrev pub all_well_known : List WellKnown
all_well_known = Everyone ∷ AnonymousLogon ∷ AuthenticatedUsers ∷ System ∷ []

abbrev pub well_known_text : WellKnown → List ℕ
well_known_text Everyone = codes "Everyone"
well_known_text AnonymousLogon = codes "ANONYMOUS LOGON"
well_known_text AuthenticatedUsers = codes "Authenticated Users"
well_known_text System = codes "SYSTEM"

unfoldable pub well_known_name : WellKnown → List ℕ
well_known_name w = name_of_text (well_known_text w)

-- the RID after the SID of its domain
abbrev pub well_known_rid : WellKnown → ℕ
well_known_rid Everyone = security_world_rid
well_known_rid AnonymousLogon = security_anonymous_logon_rid
well_known_rid AuthenticatedUsers = security_authenticated_user_rid
well_known_rid System = security_local_system_rid

-- the domain that it refers to: only Everyone stands in the fourth
abbrev pub home_of : WellKnown → Known
home_of Everyone = World
home_of AnonymousLogon = NtAuthority
home_of AuthenticatedUsers = NtAuthority
home_of System = NtAuthority

abbrev pub authority_of : WellKnown → ℕ
authority_of Everyone = security_world_authority
authority_of AnonymousLogon = security_nt_authority
authority_of AuthenticatedUsers = security_nt_authority
authority_of System = security_nt_authority

abbrev pub well_known_sid : WellKnown → SidValue
well_known_sid w = record { authority = authority_of w; subs = well_known_rid w ∷ [] }

-- ---- the domains

abbrev pub same_known : Known → Known → Bool
same_known Account Account = true
same_known Builtin Builtin = true
same_known NtAuthority NtAuthority = true
same_known World World = true
same_known _ _ = false

-- those that a name may name: the fourth has none
abbrev pub named_domains : List Known
named_domains = Account ∷ Builtin ∷ NtAuthority ∷ []

-- the name and the SID of a domain of the rows; the empty name and S-1-0 where there is none, which sound rows have
abbrev pub row_name : Option DomainRow → List ℕ
row_name None = []
row_name (Some d) = d.name

abbrev pub row_sid : Option DomainRow → SidValue
row_sid None = authority_alone 0
row_sid (Some d) = d.sid

abbrev pub domain_name : Lists → Known → List ℕ
domain_name r Account = row_name (domain_at r account_domain)
domain_name r Builtin = builtin_name
domain_name r NtAuthority = authority_name
domain_name r World = []

abbrev pub domain_sid : Lists → Known → SidValue
domain_sid r Account = row_sid (domain_at r account_domain)
domain_sid r Builtin = builtin_sid
domain_sid r NtAuthority = authority_alone security_nt_authority
domain_sid r World = authority_alone security_world_authority

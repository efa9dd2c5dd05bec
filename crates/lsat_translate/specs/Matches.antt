-- What a name or a SID is translated to: what it is used for, its RID, its SID, its name, and the domain that it
-- refers to.
use Rattle.std.specs.Prelude.{ℕ, ◌==◌, List, [], Option, Some, None, if◌then◌else◌}
use Rattle.acct_codes.specs.Accounts.{sid_type_domain, sid_type_well_known_group, sid_type_unknown}
use Rattle.acct_rows.specs.Rows.{Lists, account_at}
use Rattle.acct_tables.specs.Keys.{account_domain}
use Rattle.acct_tables.specs.declared.row.AccountRow.{AccountRow}
use Rattle.acct_rules.specs.Planned.{use_of_kind, with_rid}
use Rattle.dtyp_sid.specs.Sids.{SidValue}
use Rattle.lsat_translate.specs.Known.{domain_name, domain_sid, home_of, well_known_name, well_known_rid}
use Rattle.lsat_translate.specs.Known.{well_known_sid}
use Rattle.lsat_translate.specs.declared.known.Known.{Known}
use Rattle.lsat_translate.specs.declared.known.Known.TheVariants as known
use Rattle.lsat_translate.specs.declared.matches.Match.{Match}
use Rattle.lsat_translate.specs.declared.matches.Match.TheVariants.{WellKnown, Domain, Account}

abbrev pub account_match : AccountRow → Match
account_match a = Account a.domain a.rid a.kind

-- ---- the domain

-- the domain of the rows with a number
abbrev pub known_of_number : ℕ → Known
known_of_number number = if number == account_domain then known.Account else known.Builtin

abbrev pub known_of : Match → Known
known_of (WellKnown w) = home_of w
known_of (Domain k) = k
known_of (Account number rid k) = known_of_number number

-- ---- what it is used for (SID_NAME_USE, MS-SAMR 2.2.2.3)

abbrev pub use_of : Match → ℕ
use_of (WellKnown w) = sid_type_well_known_group
use_of (Domain k) = sid_type_domain
use_of (Account number rid k) = use_of_kind k

abbrev pub use_in : Option Match → ℕ
use_in None = sid_type_unknown
use_in (Some m) = use_of m

-- ---- its RID

-- the RID of a domain, which has none
abbrev pub no_rid : ℕ
no_rid = 0xFFFF_FFFF

abbrev pub rid_of : Match → ℕ
rid_of (WellKnown w) = well_known_rid w
rid_of (Domain k) = no_rid
rid_of (Account number rid k) = rid

abbrev pub rid_in : Option Match → ℕ
rid_in None = 0
rid_in (Some m) = rid_of m

-- ---- its SID

-- that of an account is its domain's followed by its RID
abbrev pub sid_of : Lists → Match → Option SidValue
sid_of r (WellKnown w) = Some (well_known_sid w)
sid_of r (Domain k) = Some (domain_sid r k)
sid_of r (Account number rid k) = with_rid rid (domain_sid r (known_of_number number))

abbrev pub sid_in : Lists → Option Match → Option SidValue
sid_in r None = None
sid_in r (Some m) = sid_of r m

-- ---- its name

abbrev pub account_name : Option AccountRow → List ℕ
account_name None = []
account_name (Some a) = a.name

abbrev pub name_of : Lists → Match → List ℕ
name_of r (WellKnown w) = well_known_name w
name_of r (Domain k) = domain_name r k
name_of r (Account number rid k) = account_name (account_at r number rid)

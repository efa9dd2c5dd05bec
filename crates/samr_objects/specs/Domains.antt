-- The operations that look for something: domains, and accounts of a domain.
use Rattle.std.specs.Prelude.{ℕ, Bool, List, [], Option, Some, None, ◌+◌, not, ◌∷◌, length, map, drop, is_some}
use Rattle.std.specs.List.{find}
use Rattle.std.specs.Option.{option_map}
use Rattle.acct_codes.specs.Statuses.{status_success, status_no_such_domain}
use Rattle.acct_codes.specs.Accounts.{sid_type_unknown}
use Rattle.dtyp_sid.specs.Sids.{sid_eq, SidValue}
use Rattle.acct_calls.specs.Names.{is_same}
use Rattle.acct_calls.specs.declared.calls.Args.{Args}
use Rattle.acct_calls.specs.declared.lists.RidName.{RidName}
use Rattle.acct_calls.specs.declared.replies.Outs.TheVariants as outs
use Rattle.acct_tables.specs.Keys.{domain_of}
use Rattle.acct_rows.specs.Rows.{Lists, domain_at, find_name, account_at}
use Rattle.acct_tables.specs.declared.object.Object.{Object}
use Rattle.acct_tables.specs.declared.object.Object.TheVariants.{Domain}
use Rattle.acct_tables.specs.declared.row.AccountRow.{AccountRow}
use Rattle.acct_tables.specs.declared.row.DomainRow.{DomainRow}
use Rattle.acct_rules.specs.Asked.{asked_name, asked_sid, asked_rid, asked_context, asked_length, desired_access}
use Rattle.acct_rules.specs.Asked.{asked_names, asked_rids}
use Rattle.acct_rules.specs.Planned.{use_of_kind, mapped_status, Ruled, when, answers, opens, with_rid}
use Rattle.acct_rules.specs.Pages.{entry, entry_cost, page, page_status, leaves_some}

-- ======== what is found in the rows: a domain by its name or its SID, and what an account that was looked for shows

-- ---- domains

-- Names are one where they are so after simple case folding.
abbrev pub is_named : List ℕ → DomainRow → Bool
is_named name d = is_same d.name name

abbrev pub domain_named : Lists → Option (List ℕ) → Option DomainRow
domain_named r None = None
domain_named r (Some name) = find (is_named name) r.domains

abbrev pub has_sid : SidValue → DomainRow → Bool
has_sid sid d = sid_eq d.sid sid

abbrev pub domain_of_sid : Lists → Option SidValue → Option DomainRow
domain_of_sid r None = None
domain_of_sid r (Some sid) = find (has_sid sid) r.domains

-- the number of a domain that was found; 0 where none was
abbrev pub number_of : Option DomainRow → ℕ
number_of None = 0
number_of (Some d) = d.number

-- ---- accounts

-- what an account that was looked for is used for; one that isn't there is unknown
abbrev pub use_in : Option AccountRow → ℕ
use_in None = sid_type_unknown
use_in (Some a) = use_of_kind a.kind

-- its RID, or 0
abbrev pub rid_in : Option AccountRow → ℕ
rid_in None = 0
rid_in (Some a) = a.rid

-- its name, or the empty one
abbrev pub name_in : Option AccountRow → List ℕ
name_in None = []
name_in (Some a) = a.name

-- ======== the operations on domains: to look for one by its name, to list them, to open one, and the SID of a RID

abbrev pub sid_in : Option DomainRow → Option SidValue
sid_in d = option_map (λ (row : DomainRow). row.sid) d

-- SamrLookupDomainInSamServer (MS-SAMR 3.1.5.11.1)
abbrev pub look_domain : Lists → Object → Args → Ruled
look_domain r object asked =
    let found = domain_named r (asked_name asked) in
    record {
      conditions = when (not (is_some found)) status_no_such_domain ∷ [];
      planned = answers status_success (outs.OneSid (sid_in found));
    }

-- A domain is listed by its name, with the RID 0.
abbrev pub listed : DomainRow → RidName
listed d = entry 0 d.name

-- SamrEnumerateDomainsInSamServer (MS-SAMR 3.1.5.2.1); the context counts the domains that were listed before
abbrev pub list_domains : Lists → Object → Args → Ruled
list_domains r object asked =
    let left = map listed (drop (asked_context asked) r.domains) in
    let given = page entry_cost (asked_length asked) left in
    record {
      conditions = [];
      planned =
          answers (page_status (leaves_some given left))
          (outs.Page (asked_context asked + length given) (Some given));
    }

-- SamrOpenDomain (MS-SAMR 3.1.5.1.5)
abbrev pub open_domain : Lists → Object → Args → Ruled
open_domain r object asked =
    let found = domain_of_sid r (asked_sid asked) in
    record {
      conditions = when (not (is_some found)) status_no_such_domain ∷ [];
      planned = opens (Domain (number_of found)) (desired_access asked);
    }

-- the SID of a RID of a domain
abbrev pub sid_of_rid : Option DomainRow → ℕ → Option SidValue
sid_of_rid None rid = None
sid_of_rid (Some d) rid = with_rid rid d.sid

-- SamrRidToSid (MS-SAMR 3.1.5.13.5): no account need have the RID
abbrev pub rid_to_sid : Lists → Object → Args → Ruled
rid_to_sid r object asked = record {
  conditions = [];
  planned =
      answers status_success (outs.OneSid (sid_of_rid (domain_at r (domain_of object)) (asked_rid asked)));
}

-- ======== the operations that look for accounts of a domain: by names, and by RIDs

-- SamrLookupNamesInDomain (MS-SAMR 3.1.5.11.2)
abbrev pub look_names : Lists → Object → Args → Ruled
look_names r object asked =
    let found = map (find_name r (domain_of object)) (asked_names asked) in
    let uses = map use_in found in
    record {
      conditions = [];
      planned = answers (mapped_status uses) (outs.RidUses (map rid_in found) uses);
    }

-- SamrLookupIdsInDomain (MS-SAMR 3.1.5.11.3)
abbrev pub look_ids : Lists → Object → Args → Ruled
look_ids r object asked =
    let found = map (account_at r (domain_of object)) (asked_rids asked) in
    let uses = map use_in found in
    record {
      conditions = [];
      planned = answers (mapped_status uses) (outs.NameUses (map name_in found) uses);
    }

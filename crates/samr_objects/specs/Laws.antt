-- What holds of each operation, and what they leave.
use Rattle.std.specs.Prelude.{◌≡◌, ℕ, nat_lt, List, [], ◌∷◌, ◌++◌, length, ◌≢◌, ◌<◌, true, Some, is_some, ◌+◌}
use Rattle.std.specs.Prelude.{None, Option}
use Rattle.std.specs.Prelude.{take, drop}
use Rattle.acct_calls.specs.declared.lists.DisplayRow.{DisplayRow}
use Rattle.acct_calls.specs.declared.lists.RidName.{RidName}
use Rattle.acct_rows.specs.Rows.{Lists, domain_at, account_at, after, find_name, remove_row}
use Rattle.acct_tables.specs.declared.row.RowKey.TheVariants as keys
use Rattle.acct_rows.specs.Sound.{IsSoundRows, next_rid_of}
use Rattle.acct_rules.specs.Operations.{IsRight, KeepsRows, IsAsked}
use Rattle.acct_rules.specs.Profiles.{Operation}
use Rattle.acct_calls.specs.declared.calls.Args.{Args}
use Rattle.acct_calls.specs.declared.calls.Args.TheVariants as args
use Rattle.acct_calls.specs.declared.info.Info.{Info}
use Rattle.acct_codes.specs.Statuses.{status_success}
use Rattle.acct_layouts.specs.Values.{shown_arm}
use Rattle.acct_layouts.specs.declared.classes.Subject.TheVariants as subject
use Rattle.acct_rows.specs.Rows.{exists}
use Rattle.acct_tables.specs.Keys.{domain_of, rid_of}
use Rattle.acct_tables.specs.declared.object.Object.TheVariants as object
use Rattle.acct_rules.specs.Asked.{class_of, made_name, or_empty}
use Rattle.acct_rules.specs.Pages.{page, page_status, entry_cost, last_rid}
use Rattle.acct_calls.specs.Calls.{zero_handle}
use Rattle.acct_rules.specs.Planned.{Ruled, none_fails, decision, answers}
use Rattle.samr_objects.specs.Enumerations.{display_cost, left_of, list_accounts}
use Rattle.samr_objects.specs.Settings.{query_domain, query_group, query_alias, query_user, set_field, with_field}
use Rattle.samr_objects.specs.Settings.{with_oem}
use Rattle.samr_objects.specs.Table.{query_information_domain, query_information_domain2, query_information_group}
use Rattle.samr_objects.specs.Table.{query_information_alias, query_information_user, query_information_user2}
use Rattle.samr_objects.specs.Table.{lookup_domain_in_sam_server, enumerate_domains_in_sam_server}
use Rattle.samr_objects.specs.Table.{open_domain_in_sam_server, lookup_names_in_domain, lookup_ids_in_domain}
use Rattle.samr_objects.specs.Table.{open_group_in_domain, open_alias_in_domain, open_user_in_domain}
use Rattle.samr_objects.specs.Table.{sid_of_rid_in_domain, enumerate_groups_in_domain, enumerate_aliases_in_domain}
use Rattle.samr_objects.specs.Table.{enumerate_users_in_domain, set_information_domain, set_information_group}
use Rattle.samr_objects.specs.Table.{set_information_alias, set_information_user, set_information_user2}
use Rattle.samr_objects.specs.Table.{delete_group_in_domain, delete_alias_in_domain, delete_user_in_domain}
use Rattle.samr_objects.specs.Table.{create_group_in_domain, create_alias_in_domain, create_user_in_domain}
use Rattle.samr_objects.specs.Table.{create_user2_in_domain, query_display_information}
use Rattle.samr_objects.specs.declared.enumerations.Wanted.{Wanted}
use Rattle.std.specs.Option.{option_map}
use Rattle.acct_calls.specs.declared.calls.Call.{Call}
use Rattle.acct_codes.specs.declared.kind.Kind.{Kind}
use Rattle.acct_codes.specs.declared.kind.Kind.TheVariants as kind
use Rattle.acct_rows.specs.Laws.{IsWithout}
use Rattle.acct_tables.specs.declared.object.Object.{Object}
use Rattle.acct_tables.specs.declared.row.AccountRow.{AccountRow}
use Rattle.acct_tables.specs.declared.row.DomainRow.{DomainRow}
use Rattle.dtyp_access.specs.declared.descriptor.Descriptor.{Descriptor}
use Rattle.dtyp_sid.specs.Sids.{SidValue}
use Rattle.samr_objects.specs.Accounts.{account_sid}
use Rattle.acct_calls.specs.declared.replies.Outs.{Outs}
use Rattle.acct_calls.specs.declared.replies.Outs.TheVariants as outs

-- what holds of each operation
pub record Each (P : Operation → Type 0) : Type 0 where
  pub look_domain : P lookup_domain_in_sam_server
  pub list_domains : P enumerate_domains_in_sam_server
  pub open_domain : P open_domain_in_sam_server
  pub look_names : P lookup_names_in_domain
  pub look_ids : P lookup_ids_in_domain
  pub open_group : P open_group_in_domain
  pub open_alias : P open_alias_in_domain
  pub open_user : P open_user_in_domain
  pub rid_to_sid : P sid_of_rid_in_domain
  pub list_groups : P enumerate_groups_in_domain
  pub list_aliases : P enumerate_aliases_in_domain
  pub list_users : P enumerate_users_in_domain
  pub query_display : P query_display_information
  pub delete_group : P delete_group_in_domain
  pub delete_alias : P delete_alias_in_domain
  pub delete_user : P delete_user_in_domain
  pub set_domain : P set_information_domain
  pub set_group : P set_information_group
  pub set_alias : P set_information_alias
  pub set_user : P set_information_user
  pub set_user2 : P set_information_user2
  pub query_domain : P query_information_domain
  pub query_domain2 : P query_information_domain2
  pub query_group : P query_information_group
  pub query_alias : P query_information_alias
  pub query_user : P query_information_user
  pub query_user2 : P query_information_user2
  pub create_group : P create_group_in_domain
  pub create_alias : P create_alias_in_domain
  pub create_user : P create_user_in_domain
  pub create_user2 : P create_user2_in_domain

abbrev pub AreRight : Type 0
AreRight = Each IsRight

abbrev pub KeepRows : Type 0
KeepRows = Each KeepsRows

-- ---- enumerations of accounts

-- the entries of a page
abbrev pub given_of : Wanted → ℕ → Lists → List RidName
given_of w preferred r = page entry_cost preferred (left_of w r)

-- the enumeration that goes on after it
abbrev pub later : Wanted → ℕ → Lists → Wanted
later w preferred r = record w { behind = last_rid w.behind (given_of w preferred r) }

-- the entries of several pages, each with a preferred length of its own, and the enumeration that goes on after them
abbrev pub given_of_all : Wanted → List ℕ → Lists → List RidName
given_of_all w [] r = []
given_of_all w (preferred ∷ rest) r = given_of w preferred r ++ given_of_all (later w preferred r) rest r

abbrev pub later_than_all : Wanted → List ℕ → Lists → Wanted
later_than_all w [] r = w
later_than_all w (preferred ∷ rest) r = later_than_all (later w preferred r) rest r

-- What is left of an enumeration is given once, whatever lengths are preferred: the entries of its pages, and then what
-- is left after them. A page is empty only where nothing is left, and its status says that there is more exactly where
-- something is left after it.
pub record GoesOn (w : Wanted) (r : Lists) : Type 0 where
  pub once : (preferred : List ℕ) → left_of w r ≡ given_of_all w preferred r ++ left_of (later_than_all w preferred r) r
  pub empty : (preferred : ℕ) → given_of w preferred r ≡ [] → left_of w r ≡ []
  pub more : (preferred : ℕ)
      → (list_accounts w preferred r).planned.status
      ≡ page_status (nat_lt 0 (length (left_of (later w preferred r) r)))

abbrev pub EnumerationsGoOn : Type 0
EnumerationsGoOn = (w : Wanted) (r : Lists) → IsSoundRows r → GoesOn w r

-- ---- what is displayed

-- the page after so many entries, of at most as many as are asked for
abbrev pub display_page : List DisplayRow → ℕ → ℕ → ℕ → List DisplayRow
display_page all index count preferred = page display_cost preferred (take count (drop index all))

-- What is left after an index is given by the page there, and by those after its entries: where each page is asked
-- for after those that were given before, each entry is given once. A page is empty only where no entry is asked for
-- or none is left.
pub record DisplayGoesOn (all : List DisplayRow) : Type 0 where
  pub once : (index count preferred : ℕ)
      → drop index all
      ≡ display_page all index count preferred ++ drop (index + length (display_page all index count preferred)) all
  pub empty : (index count preferred : ℕ) → nat_lt 0 count ≡ true → display_page all index count preferred ≡ []
      → drop index all ≡ []

abbrev pub DisplaysGoOn : Type 0
DisplaysGoOn = (all : List DisplayRow) → DisplayGoesOn all

-- ---- deletions

-- An account is gone with its descriptor: no row names it or its SID, every other row is as it was, and neither its RID
-- nor its name finds it. Its RID is below the next one, so that no creation gives it again.
pub record IsGone (object : Object) (r later : Lists) : Type 0 where
  pub sid_there : is_some (account_sid r object) ≡ true
  pub rows : (sid : SidValue) → account_sid r object ≡ Some sid
      → IsWithout (domain_of object) (rid_of object) sid (remove_row (keys.Desc object) r) later
  pub below : rid_of object < next_rid_of (domain_at later (domain_of object))

-- so it is after what the operation plans, where no condition fails
abbrev pub Deletes : Operation → Type 0
Deletes o =
    (r : Lists) (described : Option Descriptor) (object : Object) (call : Call) → IsAsked o r described object call
    → none_fails (o.rule r described object call.args).conditions ≡ true
    → IsGone object r (after (o.rule r described object call.args).planned.plan r)

pub record AccountsGo : Type 0 where
  pub group : Deletes delete_group_in_domain
  pub alias : Deletes delete_alias_in_domain
  pub user : Deletes delete_user_in_domain

-- ---- sets

-- The account's row is the old one with a change, and every other row is as it was.
pub record AccountIsSet (object : Object) (change : AccountRow → AccountRow) (r later : Lists) : Type 0 where
  pub row : account_at later (domain_of object) (rid_of object)
      ≡ option_map change (account_at r (domain_of object) (rid_of object))
  pub others : (domain rid : ℕ) → ¬ ((domain ≡ domain_of object) × (rid ≡ rid_of object))
      → account_at later domain rid ≡ account_at r domain rid
  pub domains : later.domains ≡ r.domains
  pub members : later.members ≡ r.members
  pub aliases : later.aliases ≡ r.aliases
  pub lsa : later.lsa ≡ r.lsa

pub record DomainIsSet (object : Object) (change : DomainRow → DomainRow) (r later : Lists) : Type 0 where
  pub row : domain_at later (domain_of object) ≡ option_map change (domain_at r (domain_of object))
  pub others : (number : ℕ) → number ≢ domain_of object → domain_at later number ≡ domain_at r number
  pub accounts : later.accounts ≡ r.accounts
  pub members : later.members ≡ r.members
  pub aliases : later.aliases ≡ r.aliases
  pub lsa : later.lsa ≡ r.lsa

-- After what the operation plans, where no condition fails, the account has the field that the class sets as it is
-- asked for.
abbrev pub SetsAccount : Kind → Operation → Type 0
SetsAccount k o =
    (r : Lists) (described : Option Descriptor) (object : Object) (call : Call) → IsAsked o r described object call
    → none_fails (o.rule r described object call.args).conditions ≡ true
    → (is_some (set_field k (class_of call.args)) ≡ true)
    × AccountIsSet object (with_field (set_field k (class_of call.args)) call.args) r
    (after (o.rule r described object call.args).planned.plan r)

abbrev pub SetsDomain : Operation → Type 0
SetsDomain o =
    (r : Lists) (described : Option Descriptor) (object : Object) (call : Call) → IsAsked o r described object call
    → none_fails (o.rule r described object call.args).conditions ≡ true
    → DomainIsSet object (with_oem call.args) r (after (o.rule r described object call.args).planned.plan r)

pub record FieldsAreSet : Type 0 where
  pub domain : SetsDomain set_information_domain
  pub group : SetsAccount kind.Group set_information_group
  pub alias : SetsAccount kind.Alias set_information_alias
  pub user : SetsAccount kind.User set_information_user
  pub user2 : SetsAccount kind.User set_information_user2

-- After what the operation plans, where no condition fails, a query of the class by the same object answers the value
-- that was brought.
abbrev pub ShowsWhatIsSet : Operation → (Lists → Object → Args → Ruled) → Type 0
ShowsWhatIsSet o query =
    (r : Lists) (described : Option Descriptor) (object : Object) (call : Call) (class : ℕ) (value : Info)
    → IsAsked o r described object call
    → call.args ≡ args.Put class value → none_fails (o.rule r described object call.args).conditions ≡ true
    → decision (query (after (o.rule r described object call.args).planned.plan r) object (args.Class class))
    ≡ answers status_success (outs.Shown class (Some value))

pub record SetsAreShown : Type 0 where
  pub domain : ShowsWhatIsSet set_information_domain query_domain
  pub group : ShowsWhatIsSet set_information_group query_group
  pub alias : ShowsWhatIsSet set_information_alias query_alias
  pub user : ShowsWhatIsSet set_information_user query_user
  pub user2 : ShowsWhatIsSet set_information_user2 query_user

-- ---- information classes

-- An object that is there shows each class of its kind that a reply can show, and refuses each other class.
pub record ShowsItsClasses (r : Lists) (asked : Args) : Type 0 where
  pub domain : (number : ℕ) → exists r (object.Domain number) ≡ true
      → none_fails (query_domain r (object.Domain number) asked).conditions
      ≡ is_some (shown_arm subject.Domain (class_of asked))
  pub group : (rid : ℕ) → exists r (object.Group rid) ≡ true
      → none_fails (query_group r (object.Group rid) asked).conditions
      ≡ is_some (shown_arm subject.Group (class_of asked))
  pub alias : (number rid : ℕ) → exists r (object.Alias number rid) ≡ true
      → none_fails (query_alias r (object.Alias number rid) asked).conditions
      ≡ is_some (shown_arm subject.Alias (class_of asked))
  pub user : (rid : ℕ) → exists r (object.User rid) ≡ true
      → none_fails (query_user r (object.User rid) asked).conditions
      ≡ is_some (shown_arm subject.User (class_of asked))

abbrev pub ClassesAreShown : Type 0
ClassesAreShown = (r : Lists) (asked : Args) → ShowsItsClasses r asked

-- ---- creations

-- An account of the kind was created in a domain: the outputs show its RID, which no account had; it is found by the
-- RID and by the name, and the domain's next RID is above its own, so that its SID isn't given again (MS-SAMR
-- 3.1.1.9.2).
pub record IsCreated (k : Kind) (r later : Lists) (domain : ℕ) (name : List ℕ) (out : Outs) : Type 0 where
  pub account : AccountRow
  pub of_kind : account.kind ≡ k
  pub shown : out ≡ outs.Created zero_handle 0 account.rid
  pub named : account.name ≡ name
  pub rid_was_free : account_at r domain account.rid ≡ None
  pub found_by_rid : account_at later domain account.rid ≡ Some account
  pub found_by_name : find_name later domain name ≡ Some account
  pub next_is_above : next_rid_of (domain_at later domain) ≡ account.rid + 1

-- so it is after what a creation plans where none of its conditions fails
abbrev pub Creates : Kind → Operation → Type 0
Creates k o =
    (r : Lists) (described : Option Descriptor) (object : Object) (call : Call) → IsAsked o r described object call
    → none_fails (o.rule r described object call.args).conditions ≡ true
    → IsCreated k r (after (o.rule r described object call.args).planned.plan r) (domain_of object)
    (or_empty (made_name call.args)) (o.rule r described object call.args).planned.outs

pub record CreationsAreFound : Type 0 where
  pub create_group : Creates kind.Group create_group_in_domain
  pub create_alias : Creates kind.Alias create_alias_in_domain
  pub create_user : Creates kind.User create_user_in_domain
  pub create_user2 : Creates kind.User create_user2_in_domain

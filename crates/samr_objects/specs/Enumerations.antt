-- The operations that list the accounts of a domain, by RID or as they are displayed.
use Rattle.std.specs.Prelude.{ℕ, ◌==◌, Bool, not, ◌&&◌, ◌||◌, nat_lt, bit_and, List, [], ◌∷◌, map, Some, ◌+◌, ◌-◌, ◌*◌}
use Rattle.std.specs.Prelude.{min, ◌++◌, length, take, drop, Option, None, is_some, if◌then◌else◌}
use Rattle.std.specs.List.{filter, sum_by}
use Rattle.acct_codes.specs.Limits.{page_entry_cost}
use Rattle.acct_codes.specs.Statuses.{status_invalid_info_class}
use Rattle.acct_codes.specs.Accounts.{user_normal_account}
use Rattle.acct_codes.specs.declared.kind.Kind.{Kind}
use Rattle.acct_codes.specs.declared.kind.Kind.TheVariants as kind
use Rattle.acct_calls.specs.declared.calls.Args.{Args}
use Rattle.acct_calls.specs.declared.lists.DisplayRow.{DisplayRow}
use Rattle.acct_calls.specs.declared.lists.RidName.{RidName}
use Rattle.acct_calls.specs.declared.replies.Outs.TheVariants as outs
use Rattle.acct_layouts.specs.Values.{display_arm}
use Rattle.acct_layouts.specs.declared.classes.DisplayArm.{DisplayArm}
use Rattle.acct_layouts.specs.declared.classes.DisplayArm.TheVariants as display
use Rattle.acct_tables.specs.Keys.{domain_of}
use Rattle.acct_rows.specs.Rows.{Lists}
use Rattle.acct_tables.specs.Selected.{same_kind}
use Rattle.acct_tables.specs.declared.object.Object.{Object}
use Rattle.acct_tables.specs.declared.row.AccountRow.{AccountRow}
use Rattle.acct_rules.specs.Asked.{asked_context, asked_filter, asked_length, class_of, asked_index, asked_count}
use Rattle.acct_rules.specs.Pages.{entry, entry_cost, last_rid, page, page_status, leaves_some, has_room, room_behind}
use Rattle.acct_rules.specs.Pages.{given_in}
use Rattle.acct_rules.specs.Planned.{Ruled, answers, when}
use Rattle.samr_objects.specs.declared.displays.DisplayPage.{DisplayPage}
use Rattle.samr_objects.specs.declared.enumerations.Wanted.{Wanted}

-- ======== the operations that list the accounts of a domain, by ascending RID

-- ---- which accounts are left

-- one of the bits is the account's; where none is asked for, each account will do
abbrev pub has_one_of : ℕ → ℕ → Bool
has_one_of asked bits = (asked == 0) || not (bit_and bits asked == 0)

-- an account of the domain and of the kind, after a RID, with one of the bits
abbrev pub is_wanted : Wanted → AccountRow → Bool
is_wanted w a =
    (a.domain == w.domain) && same_kind w.kind a.kind && nat_lt w.behind a.rid && has_one_of w.filter a.bits

-- an account is listed by its RID and its name
abbrev pub entry_of : AccountRow → RidName
entry_of a = entry a.rid a.name

-- the entries that are left; accounts stand by ascending RID
abbrev pub left_of : Wanted → Lists → List RidName
left_of w r = map entry_of (filter (is_wanted w) r.accounts)

-- ---- a page of them

-- Common processing (MS-SAMR 3.1.5.2.2): the context is the last RID that was given.
abbrev pub list_accounts : Wanted → ℕ → Lists → Ruled
list_accounts w preferred r =
    let left = left_of w r in
    let given = page entry_cost preferred left in
    record {
      conditions = [];
      planned = answers (page_status (leaves_some given left)) (outs.Page (last_rid w.behind given) (Some given));
    }

abbrev pub wanted : Kind → ℕ → Object → Args → Wanted
wanted k filter domain asked =
    record { kind = k; domain = domain_of domain; filter = filter; behind = asked_context asked }

-- SamrEnumerateGroupsInDomain (MS-SAMR 3.1.5.2.3)
abbrev pub list_groups : Lists → Object → Args → Ruled
list_groups r domain asked = list_accounts (wanted kind.Group 0 domain asked) (asked_length asked) r

-- SamrEnumerateAliasesInDomain (MS-SAMR 3.1.5.2.4)
abbrev pub list_aliases : Lists → Object → Args → Ruled
list_aliases r domain asked = list_accounts (wanted kind.Alias 0 domain asked) (asked_length asked) r

-- SamrEnumerateUsersInDomain (MS-SAMR 3.1.5.2.5): those with one of the control bits that are asked for
abbrev pub list_users : Lists → Object → Args → Ruled
list_users r domain asked = list_accounts (wanted kind.User (asked_filter asked) domain asked) (asked_length asked) r

-- ======== the operation that displays the accounts of a domain, by pages

-- ---- what a class displays (DOMAIN_DISPLAY_INFORMATION, MS-SAMR 2.2.8.12)

-- a user is normal where its control has the bit of a normal account
abbrev pub is_normal : AccountRow → Bool
is_normal a = not (bit_and a.bits user_normal_account == 0)

-- the account is of the domain, and a normal user or a group
abbrev pub is_displayed : DisplayArm → ℕ → AccountRow → Bool
is_displayed display.User domain a = (a.domain == domain) && same_kind kind.User a.kind && is_normal a
is_displayed display.Group domain a = (a.domain == domain) && same_kind kind.Group a.kind

-- an account as it is displayed at a place: a group has no full name
abbrev pub displayed : ℕ → AccountRow → DisplayRow
displayed place a = record {
  index = place;
  rid = a.rid;
  bits = a.bits;
  name = a.name;
  comment = a.comment;
  full_name = if same_kind kind.User a.kind then a.full_name else [];
}

-- accounts as they are displayed, the first of them at this place
abbrev pub displayed_from : ℕ → List AccountRow → List DisplayRow
displayed_from place [] = []
displayed_from place (a ∷ rest) = displayed place a ∷ displayed_from (place + 1) rest

-- The entries of a class, by ascending RID, each with its place from 1 as index; accounts stand by ascending RID.
abbrev pub display_of : Option DisplayArm → ℕ → Lists → List DisplayRow
display_of None domain r = []
display_of (Some arm) domain r = displayed_from 1 (filter (is_displayed arm domain) r.accounts)

-- ---- what entries cost

-- an entry costs the bytes of its texts, and some more
abbrev pub display_cost : DisplayRow → ℕ
display_cost entry = page_entry_cost + 2 * (length entry.name + length entry.comment + length entry.full_name)

-- so many bytes as a number of 32 bits: the greatest where there are more
abbrev pub as_count : ℕ → ℕ
as_count bytes = min bytes 0xFFFF_FFFF

-- what entries cost together
abbrev pub costs_of : List DisplayRow → ℕ
costs_of entries = as_count (sum_by display_cost entries)

-- ---- the operation

-- Of the entries after the first ones, as many as the index says, a page of at most as many as are asked for. The
-- total is what all that are left cost, and what is returned is what those cost that are given.
abbrev pub displays : Option DisplayArm → Lists → ℕ → Args → Ruled
displays arm r domain asked =
    let left = drop (asked_index asked) (display_of arm domain r) in
    let given = page display_cost (asked_length asked) (take (asked_count asked) left) in
    record {
      conditions = when (not (is_some arm)) status_invalid_info_class ∷ [];
      planned =
          answers (page_status (leaves_some given left))
          (outs.Display (class_of asked) (costs_of left) (costs_of given) given);
    }

-- SamrQueryDisplayInformation (MS-SAMR 3.1.5.3.3, by the common processing of 3.1.5.3.1); a class that displays nothing
-- is refused
abbrev pub query_display : Lists → Object → Args → Ruled
query_display r domain asked = displays (display_arm (class_of asked)) r (domain_of domain) asked

-- ---- a page that is filled account by account

-- what an account costs, at whatever place it is displayed
abbrev pub account_cost : AccountRow → ℕ
account_cost a = display_cost (displayed 0 a)

-- it may have one more entry, and there is room for the account
abbrev pub takes_account : DisplayPage → AccountRow → Bool
takes_account p a = nat_lt 0 p.count && has_room (account_cost a) p.room

-- the page with the account at its end
abbrev pub with_account : AccountRow → DisplayPage → DisplayPage
with_account a p = record {
  entries = p.entries ++ displayed (p.place + 1) a ∷ [];
  room = room_behind (account_cost a) p.room;
  place = p.place + 1;
  count = p.count - 1;
  returned = as_count (p.returned + account_cost a);
}

-- the accounts as they are displayed on it
abbrev pub left_for : DisplayPage → List AccountRow → List DisplayRow
left_for p accounts = displayed_from (p.place + 1) accounts

-- those of them for which it has places and room
abbrev pub given_on : DisplayPage → List AccountRow → List DisplayRow
given_on p accounts = given_in display_cost p.room (take p.count (left_for p accounts))

-- Which rows break a rule by themselves, each rule as a test of a row that breaks it
use Rattle.std.specs.Prelude.{◌==◌, nat_lt, nat_le, Bool, false, ◌&&◌, ◌||◌, not, length, bit_and}
use Rattle.std.specs.List.{list_all}
use Rattle.std.specs.Str.{bytes_eq}
use Rattle.acct_codes.specs.declared.kind.Kind.TheVariants.{Group, Alias, User}
use Rattle.acct_codes.specs.Limits.{most_text}
use Rattle.acct_codes.specs.Privileges.{se_create_token, se_create_global, known_system_access}
use Rattle.acct_codes.specs.Accounts.{domain_group_rid_users, first_created_rid, most_rid}
use Rattle.dtyp_sid.specs.Sids.{sid_eq}
use Rattle.acct_calls.specs.Names.{builtin_name, builtin_sid, is_domain_name, is_domain_sid, is_valid_name}
use Rattle.acct_tables.specs.Keys.{account_domain, builtin_domain}
use Rattle.acct_tables.specs.Selected.{same_kind}
use Rattle.acct_tables.specs.Good.{control_is_good, good_primary}
use Rattle.acct_tables.specs.declared.row.Held.{Held}
use Rattle.acct_tables.specs.declared.row.Row.{Row}
use Rattle.acct_tables.specs.declared.row.Row.TheVariants as rows

-- the name of an account, or of a change of one, is none that its kind may have, or a text is too long
abbrev pub has_bad_text : Row → Bool
has_bad_text (rows.Domain d) = nat_lt most_text (length d.oem)
has_bad_text (rows.Account a) =
    not (is_valid_name a.kind a.name) || (nat_lt most_text (length a.full_name) || nat_lt most_text (length a.comment))
has_bad_text (rows.Out o) = not (is_valid_name o.kind o.name)
has_bad_text _ = false

-- a user's bits are no control
abbrev pub has_bad_control : Row → Bool
has_bad_control (rows.Account a) = same_kind User a.kind && not (control_is_good a.bits)
has_bad_control _ = false

-- an alias has bits, or a group or an alias a primary group
abbrev pub has_needless_number : Row → Bool
has_needless_number (rows.Account a) =
    (same_kind Alias a.kind && not (a.bits == 0)) || not (good_primary a.kind a.primary)
has_needless_number _ = false

-- an access has a bit that is none of a right, or a privilege isn't known
abbrev pub is_known_low : Held → Bool
is_known_low held = nat_le se_create_token held.low && nat_le held.low se_create_global

abbrev pub has_unknown_right : Row → Bool
has_unknown_right (rows.Lsa l) =
    not (bit_and l.access known_system_access == l.access) || not (list_all is_known_low l.privileges)
has_unknown_right _ = false

-- a domain's next RID is none that a created account may take, nor the limit
abbrev pub has_bad_next : Row → Bool
has_bad_next (rows.Domain d) = nat_lt d.next_rid first_created_rid || nat_lt most_rid d.next_rid
has_bad_next _ = false

-- a change's action is none, or its RID none that a domain may have given out
abbrev pub is_bad_change : Row → Bool
is_bad_change (rows.Out o) = (o.action == 0) || (nat_lt 3 o.action || nat_le most_rid o.rid)
is_bad_change _ = false

-- an account of BUILTIN, or one that was changed, isn't an alias, or the account of all users isn't a group
abbrev pub is_misplaced : Row → Bool
is_misplaced (rows.Account a) =
    ((a.domain == builtin_domain) && not (same_kind Alias a.kind))
    || ((a.domain == account_domain) && ((a.rid == domain_group_rid_users) && not (same_kind Group a.kind)))
is_misplaced (rows.Out o) = (o.domain == builtin_domain) && not (same_kind Alias o.kind)
is_misplaced _ = false

-- the account domain's name or SID is none that a configuration may name
abbrev pub is_bad_account_domain : Row → Bool
is_bad_account_domain (rows.Domain d) =
    (d.number == account_domain) && not (is_domain_name d.name && is_domain_sid d.sid)
is_bad_account_domain _ = false

-- those of BUILTIN aren't its own
abbrev pub is_bad_builtin : Row → Bool
is_bad_builtin (rows.Domain d) =
    (d.number == builtin_domain) && not (bytes_eq d.name builtin_name && sid_eq d.sid builtin_sid)
is_bad_builtin _ = false

-- a row breaks one of these rules
abbrev pub breaks_alone : Row → Bool
breaks_alone row =
    has_bad_text row || (has_bad_control row || (has_needless_number row || (has_unknown_right row
    || (has_bad_next row || (is_bad_change row || (is_misplaced row
    || (is_bad_account_domain row || is_bad_builtin row)))))))

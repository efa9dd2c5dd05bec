-- The operations on objects of every kind: to open the server and the policy, to close a handle, and to read and set a
-- security descriptor.
use Rattle.std.specs.Prelude.{Bool, false, [], ◌∷◌, ℕ, ◌+◌, ◌==◌, not, ◌&&◌, ◌||◌, bit_and, List, Option, Some, None}
use Rattle.std.specs.Prelude.{is_some, option_map, Result, Ok, Err}
use Rattle.acct_codes.specs.Descriptors.{owner_security_information, group_security_information}
use Rattle.acct_codes.specs.Descriptors.{dacl_security_information}
use Rattle.acct_codes.specs.Statuses.{status_invalid_parameter, status_success}
use Rattle.dtyp_access.specs.Granted.{shares}
use Rattle.dtyp_access.specs.Parts.{has_few_aces, named_parts, replaced, parts_bytes}
use Rattle.dtyp_access.specs.Reading.{parts_of_bytes}
use Rattle.dtyp_access.specs.declared.descriptor.Descriptor.{Descriptor}
use Rattle.dtyp_access.specs.declared.errors.DescError.{DescError}
use Rattle.dtyp_access.specs.declared.parts.Parts.{Parts}
use Rattle.acct_calls.specs.declared.calls.Args.{Args}
use Rattle.acct_calls.specs.declared.calls.Args.TheVariants as args
use Rattle.acct_calls.specs.declared.replies.Outs.TheVariants as outs
use Rattle.acct_rows.specs.Rows.{Lists}
use Rattle.acct_tables.specs.declared.object.Object.{Object}
use Rattle.acct_tables.specs.declared.object.Object.TheVariants.{Server, Policy}
use Rattle.acct_tables.specs.declared.row.Row.{Row}
use Rattle.acct_tables.specs.declared.row.Row.TheVariants as rows
use Rattle.acct_rules.specs.Asked.{desired_access, named_info, set_bytes}
use Rattle.acct_rules.specs.Planned.{Ruled, when, opens, closes, answers, puts}

-- ======== the operations that open the server of the account database and the policy

-- SamrConnect2, SamrConnect4 and SamrConnect5 (MS-SAMR 3.1.5.1.3, 3.1.5.1.2, 3.1.5.1.1)
abbrev pub connect : Lists → Object → Args → Ruled
connect r object asked = record { conditions = []; planned = opens Server (desired_access asked) }

-- the object attributes name a root directory
abbrev pub is_rooted : Args → Bool
is_rooted (args.Policy rooted access) = rooted
is_rooted _ = false

-- LsarOpenPolicy2 (MS-LSAD 3.1.4.4.1)
abbrev pub open_policy : Lists → Object → Args → Ruled
open_policy r object asked = record {
  conditions = when (is_rooted asked) status_invalid_parameter ∷ [];
  planned = opens Policy (desired_access asked);
}

-- ======== the operations that close a handle

-- SamrCloseHandle (MS-SAMR 3.1.5.13.1) and LsarClose (MS-LSAD 3.1.4.9.4)
abbrev pub close : Lists → Object → Args → Ruled
close r object asked = record { conditions = []; planned = closes }

-- ======== the operations that read and set the security descriptor of an object: SamrQuerySecurityObject and
-- SamrSetSecurityObject (MS-SAMR 3.1.5.12.2 and 3.1.5.12.1), LsarQuerySecurityObject and LsarSetSecurityObject (MS-LSAD
-- 3.1.4.9.1 and 3.1.4.9.2)

-- ---- conditions

abbrev pub all_parts : ℕ
all_parts = owner_security_information + group_security_information + dacl_security_information

-- the bits name one part at least, and nothing else
abbrev pub names_parts : ℕ → Bool
names_parts info = not (info == 0) && (bit_and info all_parts == info)

-- the parts that bytes spell, if they spell some
abbrev pub spelled_parts : Result Parts DescError → Option Parts
spelled_parts (Ok parts) = Some parts
spelled_parts (Err refusal) = None

abbrev pub set_parts : Args → Option Parts
set_parts asked = spelled_parts (parts_of_bytes (set_bytes asked))

-- there are parts, and their list has at most 800 entries
abbrev pub are_spelled : Option Parts → Bool
are_spelled None = false
are_spelled (Some parts) = has_few_aces parts.acl

-- they have an owner, where the bits name it
abbrev pub have_owner : ℕ → Option Parts → Bool
have_owner info None = false
have_owner info (Some parts) = not (shares info owner_security_information) || is_some parts.owner

-- ---- what is answered and put

-- the bytes of the named parts
abbrev pub shown_parts : ℕ → Option Descriptor → Option (List ℕ)
shown_parts info described = option_map (λ d. parts_bytes (named_parts info d)) described

-- the object's descriptor with the named parts replaced, as its row
abbrev pub replaced_row : Object → ℕ → Option Descriptor → Option Parts → List Row
replaced_row object info (Some d) (Some parts) =
    rows.Desc (record { object = object; descriptor = replaced d info parts }) ∷ []
replaced_row object info _ _ = []

-- ---- operations

abbrev pub query_security : Lists → Option Descriptor → Object → Args → Ruled
query_security r described object asked = record {
  conditions = when (not (names_parts (named_info asked))) status_invalid_parameter ∷ [];
  planned = answers status_success (outs.Security (shown_parts (named_info asked) described));
}

abbrev pub set_security : Lists → Option Descriptor → Object → Args → Ruled
set_security r described object asked = record {
  conditions =
      when (not (names_parts (named_info asked))) status_invalid_parameter
      ∷ when (not (are_spelled (set_parts asked))) status_invalid_parameter
      ∷ when (not (have_owner (named_info asked) (set_parts asked))) status_invalid_parameter
      ∷ [];
  planned = puts (replaced_row object (named_info asked) described (set_parts asked));
}

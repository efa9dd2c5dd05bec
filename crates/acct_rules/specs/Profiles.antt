-- What an operation is: its profile, and its rule.
use Rattle.std.specs.Prelude.{ℕ, ◌+◌, ◌==◌, Bool, true, false, not, if◌then◌else◌, Option}
use Rattle.acct_codes.specs.Rights.{write_dac, write_owner}
use Rattle.acct_codes.specs.Descriptors.{owner_security_information, group_security_information}
use Rattle.acct_codes.specs.Descriptors.{dacl_security_information}
use Rattle.acct_codes.specs.declared.kind.Kind.{Kind}
use Rattle.acct_codes.specs.declared.kind.Kind.TheVariants as kind
use Rattle.dtyp_access.specs.Granted.{shares}
use Rattle.dtyp_access.specs.declared.descriptor.Descriptor.{Descriptor}
use Rattle.acct_calls.specs.declared.calls.Args.{Args}
use Rattle.acct_calls.specs.declared.calls.Face.{Face}
use Rattle.acct_rows.specs.Rows.{Lists}
use Rattle.acct_tables.specs.Selected.{same_kind}
use Rattle.acct_tables.specs.declared.object.Object.{Object}
use Rattle.acct_rules.specs.Asked.{class_of, has_asked_account, named_info}
use Rattle.acct_rules.specs.Planned.{Ruled}
use Rattle.acct_rules.specs.declared.profile.Brings.TheVariants as brings
use Rattle.acct_rules.specs.declared.profile.Kinds.{Kinds}
use Rattle.acct_rules.specs.declared.profile.Kinds.TheVariants as kinds
use Rattle.acct_rules.specs.declared.profile.Memory.{Memory}
use Rattle.acct_rules.specs.declared.profile.Memory.TheVariants as memory
use Rattle.acct_rules.specs.declared.profile.Needs.{Needs}
use Rattle.acct_rules.specs.declared.profile.Needs.TheVariants as needs
use Rattle.acct_rules.specs.declared.profile.Profile.{Profile}

-- ======== the words of an operation's profile: which handles it takes, and which bits their grants must have

-- the kinds of the policy (MS-LSAD); the others are those of the account database (MS-SAMR)
abbrev pub is_lsa : Kind → Bool
is_lsa kind.Policy = true
is_lsa kind.Account = true
is_lsa _ = false

-- a domain, and the kinds that stand in one
abbrev pub is_in_domain : Kind → Bool
is_in_domain kind.Domain = true
is_in_domain kind.Group = true
is_in_domain kind.Alias = true
is_in_domain kind.User = true
is_in_domain _ = false

-- the kinds of objects whose handles are taken
abbrev pub takes : Kinds → Kind → Bool
takes (kinds.Only only) k = same_kind only k
takes kinds.Samr k = not (is_lsa k)
takes kinds.InDomain k = is_in_domain k
takes kinds.Lsa k = is_lsa k

-- the bits that a change of the named parts of a descriptor needs: WRITE_OWNER for the owner and the group, WRITE_DAC
-- for the list (MS-SAMR 3.1.5.12.1, MS-LSAD 3.1.4.9.2)
abbrev pub change_bits : ℕ → ℕ
change_bits info =
    (if shares info (owner_security_information + group_security_information) then write_owner else 0)
    + (if shares info dacl_security_information then write_dac else 0)

-- the bits that the handle's grant must have, by the rows and the arguments
abbrev pub needed_bits : Needs → Lists → Args → ℕ
needed_bits (needs.Bits bits) r asked = bits
needed_bits (needs.ByClass class bits others) r asked = if class_of asked == class then bits else others
needed_bits (needs.ByAccount bits missing) r asked = if has_asked_account r asked then bits else missing
needed_bits needs.ByParts r asked = change_bits (named_info asked)

-- memory may run out wherever the handle passed
abbrev pub is_anywhere : Memory → Bool
is_anywhere memory.Anywhere = true
is_anywhere memory.BeforeOpening = false
is_anywhere memory.AfterConditions = false
is_anywhere memory.Never = false

abbrev pub is_never : Memory → Bool
is_never memory.Never = true
is_never memory.AfterConditions = false
is_never memory.BeforeOpening = false
is_never memory.Anywhere = false

-- An operation that brings a handle to an object of these kinds, whose grant has these bits.
abbrev pub asking : Face → ℕ → Kinds → ℕ → Memory → Profile
asking face opnum taken bits wants = record {
  face = face;
  opnum = opnum;
  brings = brings.Handle taken;
  needs = needs.Bits bits;
  memory = wants;
}

-- ======== operations

-- its profile, and its rule on the rows, the security descriptor and the object of the handle that was brought, and the
-- arguments
pub record Operation : Type 0 where
  pub profile : Profile
  pub rule : Lists → Option Descriptor → Object → Args → Ruled

-- a rule that no descriptor decides
abbrev pub undescribed : (Lists → Object → Args → Ruled) → Lists → Option Descriptor → Object → Args → Ruled
undescribed rule r described object asked = rule r object asked

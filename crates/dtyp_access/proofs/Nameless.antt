-- The bits of access masks that name no right, as masks and one right at a time
use Rattle.std.proofs.Common.{◌≡◌, ℕ, ◌^◌, ◌<◌, refl, true}
use Rattle.std.specs.Prelude.{not, ◌||◌, ◌==◌}
use Rattle.acct_codes.specs.Rights.{read_control, write_dac, access_system_security, maximum_allowed}
use Rattle.dtyp_access.specs.Granted.{shares, is_generic, all_rights}
use Rattle.dtyp_access.proofs.Masks.{by_checks}

-- all bits but the generic ones and MAXIMUM_ALLOWED
pub shares-named : (bit : ℕ) → bit < 32 → shares 0x0DFF_FFFF (2 ^ bit)
    ≡ not (is_generic (2 ^ bit) || (2 ^ bit) == maximum_allowed)
unfolding shares all_rights
shares-named = by_checks (shares 0x0DFF_FFFF) (λ right. not (is_generic right || right == maximum_allowed)) refl

-- all bits but ACCESS_SYSTEM_SECURITY
pub shares-all : (bit : ℕ) → bit < 32 → shares 0xFEFF_FFFF (2 ^ bit) ≡ not ((2 ^ bit) == access_system_security)
unfolding shares all_rights
shares-all = by_checks (shares 0xFEFF_FFFF) (λ right. not (right == access_system_security)) refl

-- the rights of the owner
pub shares-owners : (bit : ℕ) → bit < 32 → shares 0x0006_0000 (2 ^ bit)
    ≡ ((2 ^ bit) == read_control || (2 ^ bit) == write_dac)
unfolding shares all_rights
shares-owners = by_checks (shares 0x0006_0000) (λ right. right == read_control || right == write_dac) refl

-- all bits
pub shares-every : (bit : ℕ) → bit < 32 → shares 0xFFFF_FFFF (2 ^ bit) ≡ true
unfolding shares all_rights
shares-every = by_checks (shares 0xFFFF_FFFF) (λ right. true) refl

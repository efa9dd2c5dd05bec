-- No operation touches an account row, or a row of the outbox.
use Rattle.std.proofs.Common.{◌≡◌, true, [], Option, Some, None, refl}
use Rattle.acct_tables.specs.declared.object.Object.{Object}
use Rattle.acct_rules.specs.Touched.{is_modest}
use Rattle.dtyp_sid.specs.Sids.{SidValue}
use Rattle.samr_members.specs.Members.{added_rows, removed_keys}

pub modest-added : (alias : Object) (sid : Option SidValue)
    → is_modest (record { puts = added_rows alias sid; removes = [] }) ≡ true
modest-added alias None = refl
modest-added alias (Some sid) = refl

pub modest-removed : (alias : Object) (sid : Option SidValue)
    → is_modest (record { puts = []; removes = removed_keys alias sid }) ≡ true
modest-removed alias None = refl
modest-removed alias (Some sid) = refl

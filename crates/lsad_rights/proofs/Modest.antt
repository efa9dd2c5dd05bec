-- No operation touches an account row of a domain, or a row of the outbox.
use Rattle.std.proofs.Common.{◌≡◌, ℕ, true, List, [], Option, Some, None, refl}
use Rattle.acct_calls.specs.declared.calls.Args.{Args}
use Rattle.acct_rows.specs.Rows.{Lists}
use Rattle.acct_tables.specs.declared.object.Object.{Object}
use Rattle.acct_tables.specs.declared.object.Object.TheVariants as objects
use Rattle.acct_tables.specs.declared.row.LsaRow.{LsaRow}
use Rattle.acct_rules.specs.Touched.{is_modest}
use Rattle.dtyp_sid.specs.Sids.{SidValue}
use Rattle.lsad_rights.specs.Accounts.{new_rows, keys_of}
use Rattle.lsad_rights.specs.Holdings.{changed}
use Rattle.lsad_rights.specs.RightsChanges.{added_rows, left_rows}

pub modest-new : (sid : Option SidValue) → is_modest (record { puts = new_rows sid; removes = [] }) ≡ true
modest-new None = refl
modest-new (Some sid) = refl

pub modest-keys : (object : Object) → is_modest (record { puts = []; removes = keys_of object }) ≡ true
modest-keys objects.Server = refl
modest-keys (objects.Domain number) = refl
modest-keys (objects.Group rid) = refl
modest-keys (objects.Alias domain rid) = refl
modest-keys (objects.User rid) = refl
modest-keys objects.Policy = refl
modest-keys (objects.Account sid) = refl

pub modest-changed : (change : LsaRow → LsaRow) (l : Option LsaRow)
    → is_modest (record { puts = changed change l; removes = [] }) ≡ true
modest-changed change None = refl
modest-changed change (Some l) = refl

pub modest-added : (r : Lists) (sid : Option SidValue) (names : List (List ℕ))
    → is_modest (record { puts = added_rows r sid names; removes = [] }) ≡ true
modest-added r None names = refl
modest-added r (Some sid) names = refl

pub modest-left : (asked : Args) (l : Option LsaRow)
    → is_modest (record { puts = left_rows asked l; removes = [] }) ≡ true
modest-left asked None = refl
modest-left asked (Some l) = refl

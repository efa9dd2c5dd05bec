-- Each operation touches one account row at most, and no row of the outbox.
use Rattle.std.proofs.Common.{◌≡◌, ℕ, true, false, List, [], ◌∷◌, ◌++◌, map, Option, Some, None, refl, ap}
use Rattle.std.proofs.Common.{◌∙◌, append_assoc}
use Rattle.std.specs.List.{filter, list_any}
use Rattle.acct_calls.specs.declared.calls.Args.{Args}
use Rattle.acct_rows.specs.Rows.{Lists}
use Rattle.acct_tables.specs.Selected.{key_of_member, key_of_alias, is_member_of, is_alias_row_of}
use Rattle.acct_tables.specs.Keys.{domain_of, rid_of}
use Rattle.acct_tables.specs.declared.object.Object.{Object}
use Rattle.acct_tables.specs.declared.row.AccountRow.{AccountRow}
use Rattle.acct_tables.specs.declared.row.AliasRow.{AliasRow}
use Rattle.acct_tables.specs.declared.row.DomainRow.{DomainRow}
use Rattle.acct_tables.specs.declared.row.MemberRow.{MemberRow}
use Rattle.acct_tables.specs.declared.row.Row.TheVariants as rows
use Rattle.acct_tables.specs.declared.row.RowKey.{RowKey}
use Rattle.acct_tables.specs.declared.row.RowKey.TheVariants as keys
use Rattle.acct_rules.specs.Touched.{is_account_key, is_out_key, is_modest}
use Rattle.dtyp_sid.specs.Sids.{SidValue}
use Rattle.samr_objects.specs.Accounts.{risen_row, keys_of}
use Rattle.samr_objects.specs.Settings.{account_puts, domain_puts}
use Rattle.samr_objects.specs.declared.settings.Field.{Field}

-- ---- sets

pub modest-set : (set : Option Field) (asked : Args) (o : Option AccountRow)
    → is_modest (record { puts = account_puts set asked o; removes = [] }) ≡ true
modest-set set asked None = refl
modest-set set asked (Some a) = refl

pub modest-domain : (asked : Args) (o : Option DomainRow)
    → is_modest (record { puts = domain_puts asked o; removes = [] }) ≡ true
modest-domain asked None = refl
modest-domain asked (Some d) = refl

-- ---- creations

pub modest-account : (o : Option DomainRow) (a : AccountRow)
    → is_modest (record { puts = risen_row o ++ rows.Account a ∷ []; removes = [] }) ≡ true
modest-account None a = refl
modest-account (Some d) a = refl

pub modest-user : (o : Option DomainRow) (a : AccountRow) (m : MemberRow)
    → is_modest (record { puts = (risen_row o ++ rows.Account a ∷ []) ++ rows.Member m ∷ []; removes = [] }) ≡ true
modest-user None a m = refl
modest-user (Some d) a m = refl

-- ---- deletions

members-none : (xs : List MemberRow) (ks : List RowKey)
    → filter is_account_key (map key_of_member xs ++ ks) ≡ filter is_account_key ks
members-none [] ks = refl
members-none (x ∷ xs) ks = members-none xs ks

members-no-out : (xs : List MemberRow) (ks : List RowKey)
    → list_any is_out_key (map key_of_member xs ++ ks) ≡ list_any is_out_key ks
members-no-out [] ks = refl
members-no-out (x ∷ xs) ks = members-no-out xs ks

aliases-none : (xs : List AliasRow) (ks : List RowKey)
    → filter is_account_key (map key_of_alias xs ++ ks) ≡ filter is_account_key ks
aliases-none [] ks = refl
aliases-none (x ∷ xs) ks = aliases-none xs ks

aliases-no-out : (xs : List AliasRow) (ks : List RowKey)
    → list_any is_out_key (map key_of_alias xs ++ ks) ≡ list_any is_out_key ks
aliases-no-out [] ks = refl
aliases-no-out (x ∷ xs) ks = aliases-no-out xs ks

one-key : (ks : List RowKey) (domain rid : ℕ) → filter is_account_key ks ≡ keys.Account domain rid ∷ []
    → list_any is_out_key ks ≡ false → is_modest (record { puts = []; removes = ks }) ≡ true
one-key ks domain rid one none = rw one (rw none refl)

pub modest-keys : (r : Lists) (object : Object) (sid : Option SidValue)
    → is_modest (record { puts = []; removes = keys_of r object sid }) ≡ true
modest-keys r object None = refl
modest-keys r object (Some sid) =
    let domain : ℕ = domain_of object in
    let rid : ℕ = rid_of object in
    let members : List MemberRow = filter (is_member_of domain rid) r.members in
    let aliases : List AliasRow = filter (is_alias_row_of domain rid sid) r.aliases in
    let itself : List RowKey = keys.Account domain rid ∷ [] in
    let same = append_assoc (map key_of_member members) (map key_of_alias aliases) itself in
    one-key (keys_of r object (Some sid)) domain rid
    (ap (λ (ks : List RowKey). filter is_account_key ks) same
    ∙ members-none members (map key_of_alias aliases ++ itself)
    ∙ aliases-none aliases itself)
    (ap (λ (ks : List RowKey). list_any is_out_key ks) same
    ∙ members-no-out members (map key_of_alias aliases ++ itself)
    ∙ aliases-no-out aliases itself)

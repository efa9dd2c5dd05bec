-- The row that a pair spells is read of it.
use Rattle.std.proofs.Common.{◌≡◌, ℕ, ◌+◌, ◌*◌, ◌^◌, ◌<◌, ◌==◌, true, List, [], ◌∷◌}
use Rattle.std.proofs.Common.{◌++◌, length, Option, Some, None, refl, sym, ap, ◌∙◌, arith}
use Rattle.std.specs.List.{flat_map}
use Rattle.std.proofs.lemmas.Bool.Decides.{nat_tests}
use Rattle.std.proofs.lemmas.List.{append-nil}
use Rattle.std.proofs.lemmas.Slice.Eq.{bytes_eq-Decides}
use Rattle.std.specs.Str.{bytes_eq}
use Rattle.dtyp_access.specs.Parts.{descriptor_bytes}
use Rattle.acct_codes.specs.declared.kind.Kind.{Kind}
use Rattle.acct_codes.specs.declared.kind.Kind.TheVariants.{Server, Domain, Group, Alias, User, Policy, Account}
use Rattle.dtyp_sid.specs.Sids.{SidValue, IsSid, bytes_of, WrittenBytesAreRead, WrittenBytesHaveLengths}
use Rattle.dtyp_sid.specs.Sids.{ReadBytesAreWritten}
use Rattle.acct_tables.specs.Good.{is_account_kind}
use Rattle.acct_tables.specs.Spelled.{text_bytes, rid_bytes, count_bytes, number_bytes, held_bytes, kind_byte}
use Rattle.acct_tables.specs.Spelled.{object_bytes, stored_key, key_of, stored_value, domain_value, account_value}
use Rattle.acct_tables.specs.Spelled.{lsa_value, out_value, Fits, FitsText, FitsHeld, FitsObject, FitsDomain}
use Rattle.acct_tables.specs.Spelled.{FitsAccount, FitsMember, FitsLsa, FitsDesc, FitsOut}
use Rattle.acct_base.specs.Reading.{◌>>=◌, is_end, many}
use Rattle.acct_tables.specs.Stored.{only_if, byte_at, number_at, rid_at, count_at, text_at, sid_at, whole_sid}
use Rattle.acct_tables.specs.Stored.{whole_rid}
use Rattle.acct_tables.specs.Stored.{domain_object, alias_object, object_of, desc_key_of, out_key_of, desc_of, out_of}
use Rattle.acct_tables.specs.Stored.{held_at, kind_of_byte, domain_key_of, account_key_of, member_key_of}
use Rattle.acct_tables.specs.Stored.{alias_key_of, lsa_key_of, lettered, row_key, domain_row_of, account_row_of}
use Rattle.acct_tables.specs.Stored.{member_of, alias_row_of, lsa_of, valued, row_of, SpelledRowsAreRead}
use Rattle.acct_tables.specs.declared.row.DomainRow.{DomainRow}
use Rattle.acct_tables.specs.declared.row.AccountRow.{AccountRow}
use Rattle.acct_tables.specs.declared.row.MemberRow.{MemberRow}
use Rattle.acct_tables.specs.declared.row.AliasRow.{AliasRow}
use Rattle.acct_tables.specs.declared.row.LsaRow.{LsaRow}
use Rattle.acct_tables.specs.declared.row.DescRow.{DescRow}
use Rattle.acct_tables.specs.declared.row.OutRow.{OutRow}
use Rattle.acct_tables.specs.declared.object.Object.{Object}
use Rattle.acct_tables.specs.declared.object.Object.TheVariants as objects
use Rattle.acct_tables.specs.declared.row.Row.{Row}
use Rattle.acct_tables.specs.declared.row.Row.TheVariants as rows
use Rattle.acct_tables.specs.declared.row.RowKey.{RowKey}
use Rattle.acct_tables.specs.declared.row.RowKey.TheVariants as keys
use Rattle.acct_tables.proofs.Taken.{byte_again, number_again, rid_again, text_again, held_again, many_again}
use Rattle.acct_tables.proofs.Described.{described_again, described_few}
use Rattle.acct_tables.proofs.Taken.{domain_number_again, sid_again, count_again}
use Rattle.acct_tables.proofs.ReadRows.{FitsKey, four_fields, five_fields}

-- a last field is read where nothing stands after it
rid_last : (n : ℕ) → n < 2 ^ 32 → rid_at (rid_bytes n) ≡ Some (n, [])
rid_last n lt = ap rid_at (sym (append-nil (rid_bytes n))) ∙ rid_again n [] lt

number_last : (n : ℕ) → n < 2 ^ 32 → number_at (number_bytes n) ≡ Some (n, [])
number_last n lt = ap number_at (sym (append-nil (number_bytes n))) ∙ number_again n [] lt

text_last : (units : List ℕ) → FitsText units → text_at (text_bytes units) ≡ Some (units, [])
text_last units fits = ap text_at (sym (append-nil (text_bytes units))) ∙ text_again units [] fits

kind_again : (kind : Kind) → is_account_kind kind ≡ true → kind_of_byte (kind_byte kind) ≡ Some kind
kind_again User e = refl
kind_again Group e = refl
kind_again Alias e = refl
kind_again Server e = absurd cc
kind_again Domain e = absurd cc
kind_again Policy e = absurd cc
kind_again Account e = absurd cc

same_number : (n : ℕ) → (n == n) ≡ true
same_number n = grind (arith, nat_tests)

account_value_again : (a : AccountRow) → FitsAccount a
    → account_row_of a.domain a.rid (account_value a) ≡ Some (rows.Account a)
unfolding account_row_of account_value
account_value_again a fits =
    let tail = number_bytes a.bits ++ (number_bytes a.primary ++ (text_bytes a.name ++ (text_bytes a.full_name
    ++ text_bytes a.comment))) in
    let grouped = ap (λ (r : List ℕ). account_row_of a.domain a.rid (kind_byte a.kind ∷ r)) (sym (five_fields
    (number_bytes a.bits) (number_bytes a.primary) (text_bytes a.name) (text_bytes a.full_name) (text_bytes a.comment)))
    in
    let rest : Kind → List ℕ → Option Row = λ kind bytes. number_at bytes >>= λ bits.
    number_at bits.1 >>= λ primary. text_at primary.1 >>= λ name. text_at name.1 >>= λ full_name.
    text_at full_name.1 >>= λ comment. only_if (is_end comment.1) (rows.Account (record {
      domain = a.domain;
      rid = a.rid;
      kind = kind;
      name = name.0;
      full_name = full_name.0;
      comment = comment.0;
      bits = bits.0;
      primary = primary.0;
    })) in
    let first = ap (λ (o : Option (ℕ × List ℕ)). o >>= λ byte. kind_of_byte byte.0 >>= λ kind. rest kind byte.1)
    (byte_again (kind_byte a.kind) tail) in
    let second = ap (λ (o : Option Kind). o >>= λ kind. rest kind tail) (kind_again a.kind fits.kind) in
    let third : rest a.kind tail ≡ Some (rows.Account a) =
    rw (
      number_again a.bits (number_bytes a.primary ++ (text_bytes a.name ++ (text_bytes a.full_name
          ++ text_bytes a.comment))) fits.bits,
      number_again a.primary (text_bytes a.name ++ (text_bytes a.full_name ++ text_bytes a.comment)) fits.primary,
      text_again a.name (text_bytes a.full_name ++ text_bytes a.comment) fits.name,
      text_again a.full_name (text_bytes a.comment) fits.full_name,
      text_last a.comment fits.comment,
    ) refl in
    grouped ∙ first ∙ second ∙ third

member_value_again : (m : MemberRow) → FitsMember m
    → member_of m.group m.user (number_bytes m.attributes) ≡ Some (rows.Member m)
unfolding member_of
member_value_again m fits = rw (number_last m.attributes fits.attributes) refl

alias_value_again : (a : AliasRow) → alias_row_of a.domain a.alias a.member [] ≡ Some (rows.Alias a)
unfolding alias_row_of
alias_value_again a = refl

helds_last : (l : LsaRow) → FitsLsa l
    → many held_at (length l.privileges) (flat_map held_bytes l.privileges) ≡ Some (l.privileges, [])
helds_last l fits =
    ap (many held_at (length l.privileges)) (sym (append-nil (flat_map held_bytes l.privileges)))
    ∙ many_again held_at held_bytes FitsHeld held_again l.privileges [] fits.privileges

lsa_value_again : (l : LsaRow) → FitsLsa l → lsa_of l.sid (lsa_value l) ≡ Some (rows.Lsa l)
unfolding lsa_of lsa_value
lsa_value_again l fits =
    rw (
      number_again l.access (length l.privileges ∷ flat_map held_bytes l.privileges) fits.access,
      byte_again (length l.privileges) (flat_map held_bytes l.privileges),
      helds_last l fits,
      fits.privileges_ascend,
    ) refl

out_value_again : (o : OutRow) → FitsOut o → out_of o.number (out_value o) ≡ Some (rows.Out o)
unfolding out_of out_value
out_value_again o fits =
    rw (
      byte_again o.action (o.domain ∷ number_bytes o.rid ++ kind_byte o.kind ∷ text_bytes o.name),
      domain_number_again o.domain (number_bytes o.rid ++ kind_byte o.kind ∷ text_bytes o.name) fits.domain,
      number_again o.rid (kind_byte o.kind ∷ text_bytes o.name) fits.rid,
      byte_again (kind_byte o.kind) (text_bytes o.name),
      kind_again o.kind fits.kind,
      text_last o.name fits.name,
    ) refl

module _ (back : WrittenBytesAreRead) (sizes : WrittenBytesHaveLengths) (only : ReadBytesAreWritten) where
  desc_value_again : (d : DescRow) → FitsDesc d
      → desc_of d.object (descriptor_bytes d.descriptor) ≡ Some (rows.Desc d)
  unfolding desc_of
  desc_value_again d fits =
      let same : bytes_eq (descriptor_bytes d.descriptor) (descriptor_bytes d.descriptor) ≡ true =
      (bytes_eq-Decides (descriptor_bytes d.descriptor) (descriptor_bytes d.descriptor)).1 refl in
      rw (
        described_again back sizes d.descriptor fits.descriptor,
        described_few d.descriptor fits.descriptor,
        same,
      ) refl

  domain_value_again : (d : DomainRow) → FitsDomain d → domain_row_of d.number (domain_value d) ≡ Some (rows.Domain d)
  unfolding domain_row_of domain_value
  domain_value_again d fits =
      let size : (length (bytes_of d.sid) == 8 + 4 * length d.sid.subs) ≡ true =
      ap (λ (n : ℕ). n == 8 + 4 * length d.sid.subs) (sizes d.sid) ∙ same_number (8 + 4 * length d.sid.subs) in
      let grouped = ap (λ (v : List ℕ). domain_row_of d.number v) (sym (four_fields (number_bytes d.next_rid)
      (length (bytes_of d.sid) ∷ bytes_of d.sid) (text_bytes d.name) (text_bytes d.oem))) in
      grouped ∙ rw (
        number_again d.next_rid (length (bytes_of d.sid) ∷ (bytes_of d.sid ++ (text_bytes d.name ++ text_bytes d.oem)))
            fits.next_rid,
        byte_again (length (bytes_of d.sid)) (bytes_of d.sid ++ (text_bytes d.name ++ text_bytes d.oem)),
        sid_again back sizes only d.sid (text_bytes d.name ++ text_bytes d.oem) fits.sid,
        text_again d.name (text_bytes d.oem) fits.name,
        text_last d.oem fits.oem,
        size,
      ) refl

  whole_sid_again : (sid : SidValue) → IsSid sid → whole_sid (bytes_of sid) ≡ Some sid
  unfolding whole_sid
  whole_sid_again sid fits =
      rw (ap sid_at (sym (append-nil (bytes_of sid))) ∙ sid_again back sizes only sid [] fits) refl

  whole_rid_again : (rid : ℕ) → rid < 2 ^ 32 → whole_rid (rid_bytes rid) ≡ Some rid
  unfolding whole_rid
  whole_rid_again rid fits = rw (rid_last rid fits) refl

  object_again : (object : Object) → FitsObject object
      → (byte_at (object_bytes object) >>= λ kind. object_of kind.0 kind.1) ≡ Some object
  unfolding object_of domain_object alias_object
  object_again objects.Server fits = rw (byte_again 0 []) refl
  object_again (objects.Domain number) fits =
      rw (byte_again 1 (number ∷ []), domain_number_again number [] fits) refl
  object_again (objects.Group rid) fits = rw (byte_again 2 (rid_bytes rid), whole_rid_again rid fits) refl
  object_again (objects.Alias domain rid) fits =
      rw (
        byte_again 3 (domain ∷ rid_bytes rid),
        domain_number_again domain (rid_bytes rid) fits.0,
        rid_last rid fits.1,
      ) refl
  object_again (objects.User rid) fits = rw (byte_again 4 (rid_bytes rid), whole_rid_again rid fits) refl
  object_again objects.Policy fits = rw (byte_again 5 []) refl
  object_again (objects.Account sid) fits = rw (byte_again 6 (bytes_of sid), whole_sid_again sid fits) refl

  bound_key : (o : Option (ℕ × List ℕ)) (object : Object)
      → (o >>= λ kind. object_of kind.0 kind.1) ≡ Some object
      → (o >>= λ kind. object_of kind.0 kind.1 >>= λ x. Some (keys.Desc x)) ≡ Some (keys.Desc object)
  bound_key None object e = absurd cc
  bound_key (Some kind) object e = ap (λ (x : Option Object). x >>= λ y. Some (keys.Desc y)) e

  pub key_again : (key : RowKey) → FitsKey key → row_key (stored_key key) ≡ Some key
  unfolding row_key lettered domain_key_of account_key_of member_key_of alias_key_of lsa_key_of desc_key_of out_key_of
  key_again (keys.Domain number) fits = rw (byte_again 0x64 (number ∷ []), domain_number_again number [] fits) refl
  key_again (keys.Account domain rid) fits =
      rw (
        byte_again 0x61 (domain ∷ rid_bytes rid),
        domain_number_again domain (rid_bytes rid) fits.0,
        rid_last rid fits.1,
      ) refl
  key_again (keys.Member group user) fits =
      rw (
        byte_again 0x6D (rid_bytes group ++ rid_bytes user),
        rid_again group (rid_bytes user) fits.0,
        rid_last user fits.1,
      ) refl
  key_again (keys.Alias domain alias member) fits =
      rw (
        byte_again 0x6C (domain ∷ rid_bytes alias ++ bytes_of member),
        domain_number_again domain (rid_bytes alias ++ bytes_of member) fits.0,
        rid_again alias (bytes_of member) fits.1,
        whole_sid_again member fits.2,
      ) refl
  key_again (keys.Lsa sid) fits = rw (byte_again 0x73 (bytes_of sid), whole_sid_again sid fits) refl
  key_again (keys.Desc object) fits =
      rw (byte_again 0x6F (object_bytes object)) (bound_key (byte_at (object_bytes object)) object (object_again object fits))
  key_again (keys.Out number) fits =
      rw (
        byte_again 0x71 (count_bytes number),
        ap count_at (sym (append-nil (count_bytes number))) ∙ count_again number [] fits,
      ) refl

  pub fits_key : (row : Row) → Fits row → FitsKey (key_of row)
  fits_key (rows.Domain d) fits = fits.number
  fits_key (rows.Account a) fits = (fits.domain, fits.rid)
  fits_key (rows.Member m) fits = (fits.group, fits.user)
  fits_key (rows.Alias a) fits = (fits.domain, fits.alias, fits.member)
  fits_key (rows.Lsa l) fits = fits.sid
  fits_key (rows.Desc d) fits = fits.object
  fits_key (rows.Out o) fits = fits.number

  value_again : (row : Row) → Fits row → valued (key_of row) (stored_value row) ≡ Some row
  unfolding valued
  value_again (rows.Domain d) fits = domain_value_again d fits
  value_again (rows.Account a) fits = account_value_again a fits
  value_again (rows.Member m) fits = member_value_again m fits
  value_again (rows.Alias a) fits = alias_value_again a
  value_again (rows.Lsa l) fits = lsa_value_again l fits
  value_again (rows.Desc d) fits = desc_value_again d fits
  value_again (rows.Out o) fits = out_value_again o fits

  pub spelled_rows_are_read : SpelledRowsAreRead
  unfolding row_of
  spelled_rows_are_read row fits = rw (key_again (key_of row) (fits_key row fits)) (value_again row fits)

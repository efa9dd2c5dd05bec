-- The row that is read of a pair is the one that the pair spells.
use Rattle.std.proofs.Common.{◌≡◌, ℕ, ◌^◌, ◌<◌, ◌≤◌, ◌==◌, Bool, true, false, cond, List, [], ◌∷◌, ◌++◌}
use Rattle.std.proofs.Common.{length, Option, Some, None, refl, sym, ap, subst, ◌∙◌, arith, inl, inr, ◌⊎◌}
use Rattle.std.specs.List.{flat_map}
use Rattle.std.specs.Cmp.{first_so, second_so}
use Rattle.std.proofs.lemmas.Bool.{eqb-true}
use Rattle.std.proofs.Common.{append_assoc, Ok}
use Rattle.std.specs.Prelude.{option_map}
use Rattle.std.specs.Result.{result_ok}
use Rattle.std.proofs.lemmas.Slice.Eq.{bytes_eq-Decides}
use Rattle.dtyp_access.specs.Reading.{descriptor_of_bytes}
use Rattle.dtyp_access.specs.Parts.{descriptor_bytes}
use Rattle.std.proofs.lemmas.List.{append-nil}
use Rattle.std.proofs.lemmas.List.Elements.{All-from_recursion}
use Rattle.acct_codes.specs.declared.kind.Kind.{Kind}
use Rattle.acct_codes.specs.declared.kind.Kind.TheVariants.{Group, Alias, User}
use Rattle.dtyp_sid.specs.Sids.{SidValue, IsSid, bytes_of, WrittenBytesAreRead, WrittenBytesHaveLengths}
use Rattle.dtyp_sid.specs.Sids.{ReadBytesAreWritten}
use Rattle.acct_tables.specs.Good.{is_account_kind}
use Rattle.acct_tables.specs.Spelled.{text_bytes, rid_bytes, count_bytes, number_bytes, held_bytes, kind_byte}
use Rattle.acct_tables.specs.Spelled.{object_bytes, stored_key, domain_value, account_value, lsa_value, out_value}
use Rattle.acct_tables.specs.Spelled.{FitsHeld, FitsObject, IsSpelled}
use Rattle.acct_base.specs.Reading.{Reader, ◌>>=◌, is_end}
use Rattle.acct_tables.specs.Stored.{only_if, whole_sid, whole_rid, domain_object, alias_object, object_of, desc_key_of}
use Rattle.acct_tables.specs.Stored.{out_key_of, has_few, desc_of, out_of}
use Rattle.acct_tables.specs.Stored.{held_at, kind_of_byte, domain_key_of, account_key_of, member_key_of}
use Rattle.acct_tables.specs.Stored.{alias_key_of, lsa_key_of, lettered, row_key, domain_row_of, account_row_of}
use Rattle.acct_tables.specs.Stored.{member_of, alias_row_of, lsa_of, valued, row_of, ReadRowsAreSpelled}
use Rattle.acct_tables.specs.declared.object.Object.{Object}
use Rattle.acct_tables.specs.declared.object.Object.TheVariants as objects
use Rattle.acct_tables.specs.declared.row.Row.{Row}
use Rattle.acct_tables.specs.declared.row.Row.TheVariants as rows
use Rattle.acct_tables.specs.declared.row.RowKey.{RowKey}
use Rattle.acct_tables.specs.declared.row.RowKey.TheVariants as keys
use Rattle.acct_tables.proofs.Described.{described_fits}
use Rattle.acct_tables.proofs.Taken.{IsBytes, Taken, Takes, bytes_from_All, bind_some, passed, was_ok, count_takes}
use Rattle.acct_tables.proofs.Taken.{some_is, at_end, byte_takes, number_takes}
use Rattle.acct_tables.proofs.Taken.{rid_takes, text_takes, held_takes, many_takes, domain_number_takes, sid_takes}

abbrev pub FitsKey : RowKey → Type 0
FitsKey (keys.Domain number) = number ≤ 1
FitsKey (keys.Account domain rid) = (domain ≤ 1) × (rid < 2 ^ 32)
FitsKey (keys.Member group user) = (group < 2 ^ 32) × (user < 2 ^ 32)
FitsKey (keys.Alias domain alias member) = (domain ≤ 1) × (alias < 2 ^ 32) × IsSid member
FitsKey (keys.Lsa sid) = IsSid sid
FitsKey (keys.Desc object) = FitsObject object
FitsKey (keys.Out number) = number < 2 ^ 64

-- the letter and the bytes after it are the key's
abbrev KeyRead : ℕ → List ℕ → RowKey → Type 0
KeyRead letter bytes key = FitsKey key × (letter ∷ bytes ≡ stored_key key)

-- nothing stands after the last field
last : (front bytes rest : List ℕ) → bytes ≡ front ++ rest → rest ≡ [] → bytes ≡ front
last front bytes rest parts none = parts ∙ ap (λ (r : List ℕ). front ++ r) none ∙ append-nil front

-- fields one after the other, however they are grouped
pub four_fields : (a b c d : List ℕ) → a ++ (b ++ (c ++ d)) ≡ ((a ++ b) ++ c) ++ d
four_fields a b c d = sym (append_assoc (a ++ b) c d ∙ append_assoc a b (c ++ d))

pub five_fields : (a b c d e : List ℕ) → a ++ (b ++ (c ++ (d ++ e))) ≡ (((a ++ b) ++ c) ++ d) ++ e
five_fields a b c d e =
    sym (append_assoc ((a ++ b) ++ c) d e ∙ append_assoc (a ++ b) c (d ++ e) ∙ append_assoc a b (c ++ (d ++ e)))

-- what is read is a value, and what is read of that value
bound : {A B : Type 0} (o : Option A) (f : A → Option B) (y : B) → (o >>= f) ≡ Some y → {Goal : Type 0}
    → ((x : A) → o ≡ Some x → f x ≡ Some y → Goal) → Goal
bound o f y e then = let a = bind_some o f y e in then a.0 a.1 a.2

-- what is read is a field, and what is read of that field and the bytes after it
field : {A B : Type 0} {one : Reader A} {write : A → List ℕ} {P : A → Type 0} → Takes one write P
    → (bytes : List ℕ) → IsBytes bytes → (f : A × List ℕ → Option B) (y : B) → (one bytes >>= f) ≡ Some y
    → {Goal : Type 0} → ((x : A) (rest : List ℕ) → Taken write P bytes x rest → f (x, rest) ≡ Some y → Goal) → Goal
field {one = one} takes bytes fits f y e then =
    bound (one bytes) f y e (λ x read after. then x.0 x.1 (takes bytes x.0 x.1 fits read) after)

chosen : {A : Type 0} (test : Bool) (x y z : A) → cond test x y ≡ z
    → ((test ≡ true) × (x ≡ z)) ⊎ ((test ≡ false) × (y ≡ z))
chosen true x y z e = inl (refl, e)
chosen false x y z e = inr (refl, e)

domain_key_read : (bytes : List ℕ) (key : RowKey) → IsBytes bytes → domain_key_of bytes ≡ Some key
    → KeyRead 0x64 bytes key
unfolding domain_key_of
domain_key_read bytes key fits e =
    field domain_number_takes bytes fits _ key e (λ number r1 t1 e1.
    let g = passed _ _ key e1 in
    subst (λ k. KeyRead 0x64 bytes k) g.1
    (t1.fits, ap (λ (r : List ℕ). 0x64 ∷ r) (last (number ∷ []) bytes r1 t1.parts (at_end r1 g.0))))

account_key_read : (bytes : List ℕ) (key : RowKey) → IsBytes bytes → account_key_of bytes ≡ Some key
    → KeyRead 0x61 bytes key
unfolding account_key_of
account_key_read bytes key fits e =
    field domain_number_takes bytes fits _ key e (λ domain r1 t1 e1.
    field rid_takes r1 t1.rest_bytes _ key e1 (λ rid r2 t2 e2.
    let g = passed _ _ key e2 in
    subst (λ k. KeyRead 0x61 bytes k) g.1 (
      (t1.fits, t2.fits),
      ap (λ (r : List ℕ). 0x61 ∷ r) (t1.parts
          ∙ ap (λ (r : List ℕ). domain ∷ r) (last (rid_bytes rid) r1 r2 t2.parts (at_end r2 g.0))),
    )))

member_key_read : (bytes : List ℕ) (key : RowKey) → IsBytes bytes → member_key_of bytes ≡ Some key
    → KeyRead 0x6D bytes key
unfolding member_key_of
member_key_read bytes key fits e =
    field rid_takes bytes fits _ key e (λ group r1 t1 e1.
    field rid_takes r1 t1.rest_bytes _ key e1 (λ user r2 t2 e2.
    let g = passed _ _ key e2 in
    subst (λ k. KeyRead 0x6D bytes k) g.1 (
      (t1.fits, t2.fits),
      ap (λ (r : List ℕ). 0x6D ∷ r) (t1.parts
          ∙ ap (λ (r : List ℕ). rid_bytes group ++ r) (last (rid_bytes user) r1 r2 t2.parts (at_end r2 g.0))),
    )))

out_key_read : (bytes : List ℕ) (key : RowKey) → IsBytes bytes → out_key_of bytes ≡ Some key → KeyRead 0x71 bytes key
unfolding out_key_of
out_key_read bytes key fits e =
    field count_takes bytes fits _ key e (λ number r1 t1 e1.
    let g = passed _ _ key e1 in
    subst (λ k. KeyRead 0x71 bytes k) g.1 (
      t1.fits,
      ap (λ (r : List ℕ). 0x71 ∷ r) (last (count_bytes number) bytes r1 t1.parts (at_end r1 g.0)),
    ))

-- the number of a kind and the bytes after it are the object's
abbrev ObjectRead : ℕ → List ℕ → Object → Type 0
ObjectRead kind bytes object = FitsObject object × (kind ∷ bytes ≡ object_bytes object)

whole_rid_read : (bytes : List ℕ) (rid : ℕ) → IsBytes bytes → whole_rid bytes ≡ Some rid
    → (rid < 2 ^ 32) × (bytes ≡ rid_bytes rid)
unfolding whole_rid
whole_rid_read bytes rid fits e =
    field rid_takes bytes fits _ rid e (λ read r1 t1 e1.
    let g = passed _ _ rid e1 in
    subst (λ (n : ℕ). (n < 2 ^ 32) × (bytes ≡ rid_bytes n)) g.1
    (t1.fits, last (rid_bytes read) bytes r1 t1.parts (at_end r1 g.0)))

domain_object_read : (bytes : List ℕ) (object : Object) → IsBytes bytes → domain_object bytes ≡ Some object
    → ObjectRead 1 bytes object
unfolding domain_object
domain_object_read bytes object fits e =
    field domain_number_takes bytes fits _ object e (λ number r1 t1 e1.
    let g = passed _ _ object e1 in
    subst (λ x. ObjectRead 1 bytes x) g.1
    (t1.fits, ap (λ (r : List ℕ). 1 ∷ r) (last (number ∷ []) bytes r1 t1.parts (at_end r1 g.0))))

alias_object_read : (bytes : List ℕ) (object : Object) → IsBytes bytes → alias_object bytes ≡ Some object
    → ObjectRead 3 bytes object
unfolding alias_object
alias_object_read bytes object fits e =
    field domain_number_takes bytes fits _ object e (λ domain r1 t1 e1.
    field rid_takes r1 t1.rest_bytes _ object e1 (λ rid r2 t2 e2.
    let g = passed _ _ object e2 in
    subst (λ x. ObjectRead 3 bytes x) g.1 (
      (t1.fits, t2.fits),
      ap (λ (r : List ℕ). 3 ∷ r) (t1.parts
          ∙ ap (λ (r : List ℕ). domain ∷ r) (last (rid_bytes rid) r1 r2 t2.parts (at_end r2 g.0))),
    )))

-- an object without numbers
plain_read : (kind : ℕ) (bytes : List ℕ) (object is : Object) → FitsObject is → kind ∷ [] ≡ object_bytes is
    → only_if (is_end bytes) is ≡ Some object → ObjectRead kind bytes object
plain_read kind bytes object is fits spelled e =
    let g = passed _ _ object e in
    subst (λ x. ObjectRead kind bytes x) g.1 (fits, ap (λ (r : List ℕ). kind ∷ r) (at_end bytes g.0) ∙ spelled)

-- a field and what is read after it
member_read : (group user : ℕ) (value : List ℕ) (row : Row) → FitsKey (keys.Member group user) → IsBytes value
    → member_of group user value ≡ Some row
    → IsSpelled (record { key = stored_key (keys.Member group user); value = value }) row
unfolding member_of
member_read group user value row key fits e =
    field number_takes value fits _ row e (λ attributes r1 t1 e1.
    let g = passed _ _ row e1 in
    let is : value ≡ number_bytes attributes =
    last (number_bytes attributes) value r1 t1.parts (at_end r1 g.0) in
    subst (λ r. IsSpelled (record { key = stored_key (keys.Member group user); value = value }) r) g.1 (record {
      fits = record { group = key.0; user = key.1; attributes = t1.fits };
      spelled = ap (λ (v : List ℕ). record { key = stored_key (keys.Member group user); value = v }) is;
    }))

alias_read : (domain alias : ℕ) (member : SidValue) (value : List ℕ) (row : Row)
    → FitsKey (keys.Alias domain alias member)
    → alias_row_of domain alias member value ≡ Some row
    → IsSpelled (record { key = stored_key (keys.Alias domain alias member); value = value }) row
unfolding alias_row_of
alias_read domain alias member value row key e =
    let is : Row = rows.Alias (record { domain = domain; alias = alias; member = member }) in
    let g = passed (is_end value) is row e in
    subst (λ r. IsSpelled (record { key = stored_key (keys.Alias domain alias member); value = value }) r) g.1 (record {
      fits = record { domain = key.0; alias = key.1; member = key.2 };
      spelled = ap (λ (v : List ℕ). record { key = stored_key (keys.Alias domain alias member); value = v })
          (at_end value g.0);
    })

user_kind : (byte : ℕ) (kind : Kind) → kind_of_byte byte ≡ Some kind
    → (byte ≡ kind_byte kind) × (is_account_kind kind ≡ true)
user_kind byte kind e =
    elim (chosen (byte == 1) (Some User) _ _ e) [
      | inl p ↦ subst (λ k. (byte ≡ kind_byte k) × (is_account_kind k ≡ true)) (some_is User kind p.1)
          (eqb-true _ _ p.0, refl)
      | inr p ↦ elim (chosen (byte == 2) (Some Group) _ _ p.1) [
        | inl q ↦ subst (λ k. (byte ≡ kind_byte k) × (is_account_kind k ≡ true)) (some_is Group kind q.1)
            (eqb-true _ _ q.0, refl)
        | inr q ↦ elim (chosen (byte == 4) (Some Alias) None _ q.1) [
          | inl r ↦ subst (λ k. (byte ≡ kind_byte k) × (is_account_kind k ≡ true)) (some_is Alias kind r.1)
              (eqb-true _ _ r.0, refl)
          | inr r ↦ (let n = r.1 in absurd cc)
        ]
      ]
    ]

-- the fields of an account's value, from the first to the last
account_parts : (kind : Kind) (bits primary : ℕ) (name full_name comment : List ℕ) {byte : ℕ}
    {r0 r1 r2 r3 r4 r5 : List ℕ} → byte ≡ kind_byte kind → r0 ≡ byte ∷ r1
    → r1 ≡ number_bytes bits ++ r2 → r2 ≡ number_bytes primary ++ r3
    → r3 ≡ text_bytes name ++ r4 → r4 ≡ text_bytes full_name ++ r5 → r5 ≡ text_bytes comment
    → r0 ≡ kind_byte kind ∷ (((number_bytes bits ++ number_bytes primary) ++ text_bytes name) ++ text_bytes full_name)
    ++ text_bytes comment
account_parts kind bits primary name full_name comment {r1 = r1} is e1 e2 e3 e4 e5 e6 =
    e1 ∙ ap (λ (n : ℕ). n ∷ r1) is ∙ ap (λ (r : List ℕ). kind_byte kind ∷ r) (e2
    ∙ ap (λ (r : List ℕ). number_bytes bits ++ r) (e3
    ∙ ap (λ (r : List ℕ). number_bytes primary ++ r) (e4
    ∙ ap (λ (r : List ℕ). text_bytes name ++ r) (e5 ∙ ap (λ (r : List ℕ). text_bytes full_name ++ r) e6)))
    ∙ five_fields (number_bytes bits) (number_bytes primary) (text_bytes name) (text_bytes full_name)
    (text_bytes comment))

account_read : (domain rid : ℕ) (value : List ℕ) (row : Row) → FitsKey (keys.Account domain rid) → IsBytes value
    → account_row_of domain rid value ≡ Some row
    → IsSpelled (record { key = stored_key (keys.Account domain rid); value = value }) row
unfolding account_row_of account_value
account_read domain rid value row key fits e =
    field byte_takes value fits _ row e (λ byte r1 t1 e1.
    bound (kind_of_byte byte) _ row e1 (λ kind is_kind e2.
    field number_takes r1 t1.rest_bytes _ row e2 (λ bits r2 t2 e3.
    field number_takes r2 t2.rest_bytes _ row e3 (λ primary r3 t3 e4.
    field text_takes r3 t3.rest_bytes _ row e4 (λ name r4 t4 e5.
    field text_takes r4 t4.rest_bytes _ row e5 (λ full_name r5 t5 e6.
    field text_takes r5 t5.rest_bytes _ row e6 (λ comment r6 t6 e7.
    let g = passed _ _ row e7 in
    let k = user_kind byte kind is_kind in
    let end : r5 ≡ text_bytes comment = last (text_bytes comment) r5 r6 t6.parts (at_end r6 g.0) in
    subst (λ r. IsSpelled (record { key = stored_key (keys.Account domain rid); value = value }) r) g.1 (record {
      fits = record {
        domain = key.0;
        rid = key.1;
        kind = k.1;
        bits = t2.fits;
        primary = t3.fits;
        name = t4.fits;
        full_name = t5.fits;
        comment = t6.fits;
      };
      spelled = ap (λ (v : List ℕ). record { key = stored_key (keys.Account domain rid); value = v })
          (account_parts kind bits primary name full_name comment k.0 t1.parts t2.parts t3.parts t4.parts t5.parts end);
    }))))))))

-- the fields of a domain's value, from the first to the last
domain_parts : (next_rid : ℕ) (sid : SidValue) (name oem : List ℕ) {size : ℕ} {r0 r1 r2 r3 r4 : List ℕ}
    → size ≡ length (bytes_of sid) → r0 ≡ number_bytes next_rid ++ r1 → r1 ≡ size ∷ r2 → r2 ≡ bytes_of sid ++ r3
    → r3 ≡ text_bytes name ++ r4 → r4 ≡ text_bytes oem
    → r0 ≡ ((number_bytes next_rid ++ length (bytes_of sid) ∷ bytes_of sid) ++ text_bytes name) ++ text_bytes oem
domain_parts next_rid sid name oem {r2 = r2} is e1 e2 e3 e4 e5 =
    e1 ∙ ap (λ (r : List ℕ). number_bytes next_rid ++ r) (e2 ∙ ap (λ (n : ℕ). n ∷ r2) is
    ∙ ap (λ (r : List ℕ). length (bytes_of sid) ∷ r) (e3
    ∙ ap (λ (r : List ℕ). bytes_of sid ++ r) (e4 ∙ ap (λ (r : List ℕ). text_bytes name ++ r) e5)))
    ∙ four_fields (number_bytes next_rid) (length (bytes_of sid) ∷ bytes_of sid) (text_bytes name) (text_bytes oem)

module _ (back : WrittenBytesAreRead) (sizes : WrittenBytesHaveLengths) (only : ReadBytesAreWritten) where
  whole_sid_read : (bytes : List ℕ) (sid : SidValue) → IsBytes bytes → whole_sid bytes ≡ Some sid
      → IsSid sid × (bytes ≡ bytes_of sid)
  unfolding whole_sid
  whole_sid_read bytes sid fits e =
      field (sid_takes back sizes only) bytes fits _ sid e (λ read r1 t1 e1.
      let g = passed _ _ sid e1 in
      subst (λ s. IsSid s × (bytes ≡ bytes_of s)) g.1
      (t1.fits, last (bytes_of read) bytes r1 t1.parts (at_end r1 g.0)))

  alias_key_read : (bytes : List ℕ) (key : RowKey) → IsBytes bytes → alias_key_of bytes ≡ Some key
      → KeyRead 0x6C bytes key
  unfolding alias_key_of
  alias_key_read bytes key fits e =
      field domain_number_takes bytes fits _ key e (λ domain r1 t1 e1.
      field rid_takes r1 t1.rest_bytes _ key e1 (λ alias r2 t2 e2.
      bound (whole_sid r2) _ key e2 (λ member is_sid e3.
      let v = whole_sid_read r2 member t2.rest_bytes is_sid in
      subst (λ k. KeyRead 0x6C bytes k) (some_is (keys.Alias domain alias member) key e3) (
        (t1.fits, t2.fits, v.0),
        ap (λ (r : List ℕ). 0x6C ∷ r) (t1.parts ∙ ap (λ (r : List ℕ). domain ∷ r)
            (t2.parts ∙ ap (λ (r : List ℕ). rid_bytes alias ++ r) v.1)),
      ))))

  lsa_key_read : (bytes : List ℕ) (key : RowKey) → IsBytes bytes → lsa_key_of bytes ≡ Some key → KeyRead 0x73 bytes key
  unfolding lsa_key_of
  lsa_key_read bytes key fits e =
      bound (whole_sid bytes) _ key e (λ sid is_sid e1.
      let t = whole_sid_read bytes sid fits is_sid in
      subst (λ k. KeyRead 0x73 bytes k) (some_is (keys.Lsa sid) key e1) (t.0, ap (λ (r : List ℕ). 0x73 ∷ r) t.1))

  by_kind : (kind n : ℕ) (bytes : List ℕ) (object : Object) → (kind == n) ≡ true → ObjectRead n bytes object
      → ObjectRead kind bytes object
  by_kind kind n bytes object e read = subst (λ k. ObjectRead k bytes object) (sym (eqb-true kind n e)) read

  mapped : {A B : Type 0} (f : A → B) (o : Option A) (y : B) → option_map f o ≡ Some y
      → (x : A) × (o ≡ Some x) × (f x ≡ y)
  mapped f None y e = absurd cc
  mapped f (Some x) y e = (x, refl, some_is (f x) y e)

  object_read : (kind : ℕ) (bytes : List ℕ) (object : Object) → IsBytes bytes → object_of kind bytes ≡ Some object
      → ObjectRead kind bytes object
  unfolding object_of
  object_read kind bytes object fits e =
      elim (chosen (kind == 0) (only_if (is_end bytes) objects.Server) _ _ e) [
        | inl p ↦ by_kind kind 0 bytes object p.0 (plain_read 0 bytes object objects.Server tt refl p.1)
        | inr p ↦ elim (chosen (kind == 1) (domain_object bytes) _ _ p.1) [
          | inl q ↦ by_kind kind 1 bytes object q.0 (domain_object_read bytes object fits q.1)
          | inr q ↦ elim (chosen (kind == 2) (option_map (λ rid. objects.Group rid) (whole_rid bytes)) _ _ q.1) [
            | inl r ↦
                let m = mapped (λ rid. objects.Group rid) (whole_rid bytes) object r.1 in
                let w = whole_rid_read bytes m.0 fits m.1 in
                by_kind kind 2 bytes object r.0
                (subst (λ x. ObjectRead 2 bytes x) m.2 (w.0, ap (λ (b : List ℕ). 2 ∷ b) w.1))
            | inr r ↦ elim (chosen (kind == 3) (alias_object bytes) _ _ r.1) [
              | inl s ↦ by_kind kind 3 bytes object s.0 (alias_object_read bytes object fits s.1)
              | inr s ↦ elim (chosen (kind == 4) (option_map (λ rid. objects.User rid) (whole_rid bytes)) _ _ s.1) [
                | inl t ↦
                    let m = mapped (λ rid. objects.User rid) (whole_rid bytes) object t.1 in
                    let w = whole_rid_read bytes m.0 fits m.1 in
                    by_kind kind 4 bytes object t.0
                    (subst (λ x. ObjectRead 4 bytes x) m.2 (w.0, ap (λ (b : List ℕ). 4 ∷ b) w.1))
                | inr t ↦ elim (chosen (kind == 5) (only_if (is_end bytes) objects.Policy) _ _ t.1) [
                  | inl u ↦ by_kind kind 5 bytes object u.0 (plain_read 5 bytes object objects.Policy tt refl u.1)
                  | inr u ↦ elim (chosen (kind == 6) (option_map (λ sid. objects.Account sid) (whole_sid bytes)) None _ u.1) [
                    | inl v ↦
                        let m = mapped (λ sid. objects.Account sid) (whole_sid bytes) object v.1 in
                        let w = whole_sid_read bytes m.0 fits m.1 in
                        by_kind kind 6 bytes object v.0
                        (subst (λ x. ObjectRead 6 bytes x) m.2 (w.0, ap (λ (b : List ℕ). 6 ∷ b) w.1))
                    | inr v ↦ (let n = v.1 in absurd cc)
                  ]
                ]
              ]
            ]
          ]
        ]
      ]

  desc_key_read : (bytes : List ℕ) (key : RowKey) → IsBytes bytes → desc_key_of bytes ≡ Some key
      → KeyRead 0x6F bytes key
  unfolding desc_key_of
  desc_key_read bytes key fits e =
      field byte_takes bytes fits _ key e (λ kind r1 t1 e1.
      bound (object_of kind r1) _ key e1 (λ object is_object e2.
      let o = object_read kind r1 object t1.rest_bytes is_object in
      subst (λ k. KeyRead 0x6F bytes k) (some_is (keys.Desc object) key e2)
      (o.0, ap (λ (r : List ℕ). 0x6F ∷ r) (t1.parts ∙ o.1))))

  by_letter : (letter n : ℕ) (bytes : List ℕ) (key : RowKey) → (letter == n) ≡ true → KeyRead n bytes key
      → KeyRead letter bytes key
  by_letter letter n bytes key e read = subst (λ l. KeyRead l bytes key) (sym (eqb-true letter n e)) read

  lettered_read : (letter : ℕ) (bytes : List ℕ) (key : RowKey) → IsBytes bytes → lettered letter bytes ≡ Some key
      → KeyRead letter bytes key
  unfolding lettered
  lettered_read letter bytes key fits e =
      elim (chosen (letter == 0x61) (account_key_of bytes) _ _ e) [
        | inl p ↦ by_letter letter 0x61 bytes key p.0 (account_key_read bytes key fits p.1)
        | inr p ↦ elim (chosen (letter == 0x64) (domain_key_of bytes) _ _ p.1) [
          | inl q ↦ by_letter letter 0x64 bytes key q.0 (domain_key_read bytes key fits q.1)
          | inr q ↦ elim (chosen (letter == 0x6C) (alias_key_of bytes) _ _ q.1) [
            | inl r ↦ by_letter letter 0x6C bytes key r.0 (alias_key_read bytes key fits r.1)
            | inr r ↦ elim (chosen (letter == 0x6D) (member_key_of bytes) _ _ r.1) [
              | inl s ↦ by_letter letter 0x6D bytes key s.0 (member_key_read bytes key fits s.1)
              | inr s ↦ elim (chosen (letter == 0x6F) (desc_key_of bytes) _ _ s.1) [
                | inl t ↦ by_letter letter 0x6F bytes key t.0 (desc_key_read bytes key fits t.1)
                | inr t ↦ elim (chosen (letter == 0x71) (out_key_of bytes) _ _ t.1) [
                  | inl u ↦ by_letter letter 0x71 bytes key u.0 (out_key_read bytes key fits u.1)
                  | inr u ↦ elim (chosen (letter == 0x73) (lsa_key_of bytes) None _ u.1) [
                    | inl v ↦ by_letter letter 0x73 bytes key v.0 (lsa_key_read bytes key fits v.1)
                    | inr v ↦ (let n = v.1 in absurd cc)
                  ]
                ]
              ]
            ]
          ]
        ]
      ]

  key_read : (bytes : List ℕ) (key : RowKey) → IsBytes bytes → row_key bytes ≡ Some key
      → FitsKey key × (bytes ≡ stored_key key)
  unfolding row_key
  key_read bytes key fits e =
      field byte_takes bytes fits _ key e (λ letter r1 t1 e1.
      let k = lettered_read letter r1 key t1.rest_bytes e1 in
      (k.0, t1.parts ∙ k.1))

  domain_read : (number : ℕ) (value : List ℕ) (row : Row) → FitsKey (keys.Domain number) → IsBytes value
      → domain_row_of number value ≡ Some row
      → IsSpelled (record { key = stored_key (keys.Domain number); value = value }) row
  unfolding domain_row_of domain_value
  domain_read number value row key fits e =
      field number_takes value fits _ row e (λ next_rid r1 t1 e1.
      field byte_takes r1 t1.rest_bytes _ row e1 (λ size r2 t2 e2.
      field (sid_takes back sizes only) r2 t2.rest_bytes _ row e2 (λ sid r3 t3 e3.
      field text_takes r3 t3.rest_bytes _ row e3 (λ name r4 t4 e4.
      field text_takes r4 t4.rest_bytes _ row e4 (λ oem r5 t5 e5.
      let g = passed _ _ row e5 in
      let is : size ≡ length (bytes_of sid) = eqb-true _ _ (first_so _ _ g.0) ∙ sym (sizes sid) in
      let end : r4 ≡ text_bytes oem = last (text_bytes oem) r4 r5 t5.parts (at_end r5 (second_so _ _ g.0)) in
      subst (λ r. IsSpelled (record { key = stored_key (keys.Domain number); value = value }) r) g.1 (record {
        fits = record { number = key; sid = t3.fits; name = t4.fits; oem = t5.fits; next_rid = t1.fits };
        spelled = ap (λ (v : List ℕ). record { key = stored_key (keys.Domain number); value = v })
            (domain_parts next_rid sid name oem is t1.parts t2.parts t3.parts t4.parts end);
      }))))))

lsa_read : (sid : SidValue) (value : List ℕ) (row : Row) → FitsKey (keys.Lsa sid) → IsBytes value
    → lsa_of sid value ≡ Some row → IsSpelled (record { key = stored_key (keys.Lsa sid); value = value }) row
unfolding lsa_of lsa_value
lsa_read sid value row key fits e =
    field number_takes value fits _ row e (λ access r1 t1 e1.
    field byte_takes r1 t1.rest_bytes _ row e1 (λ count r2 t2 e2.
    field (many_takes held_at held_bytes FitsHeld held_takes count) r2 t2.rest_bytes _ row e2 (λ privileges r3 t3 e3.
    let g = passed _ _ row e3 in
    let end : r2 ≡ flat_map held_bytes privileges =
    last (flat_map held_bytes privileges) r2 r3 t3.parts (at_end r3 (first_so _ _ g.0)) in
    let is : value ≡ number_bytes access ++ length privileges ∷ flat_map held_bytes privileges =
    t1.parts ∙ ap (λ (r : List ℕ). number_bytes access ++ r) (t2.parts ∙ ap (λ (n : ℕ). n ∷ r2) (sym t3.fits.0)
    ∙ ap (λ (r : List ℕ). length privileges ∷ r) end) in
    subst (λ r. IsSpelled (record { key = stored_key (keys.Lsa sid); value = value }) r) g.1 (record {
      fits = record {
        sid = key;
        access = t1.fits;
        count = omega (arith, t3.fits.0, t2.fits);
        privileges = All-from_recursion FitsHeld privileges t3.fits.1;
        privileges_ascend = second_so _ _ g.0;
      };
      spelled = ap (λ (v : List ℕ). record { key = stored_key (keys.Lsa sid); value = v }) is;
    }))))

-- the fields of a change's value, from the first to the last
out_parts : (rid : ℕ) (kind : Kind) (name : List ℕ) {action domain byte : ℕ} {r0 r1 r2 r3 r4 : List ℕ}
    → byte ≡ kind_byte kind → r0 ≡ action ∷ r1 → r1 ≡ domain ∷ r2 → r2 ≡ number_bytes rid ++ r3 → r3 ≡ byte ∷ r4
    → r4 ≡ text_bytes name → r0 ≡ action ∷ domain ∷ number_bytes rid ++ kind_byte kind ∷ text_bytes name
out_parts rid kind name {action = action} {domain = domain} {r4 = r4} is e1 e2 e3 e4 e5 =
    e1 ∙ ap (λ (r : List ℕ). action ∷ r) (e2 ∙ ap (λ (r : List ℕ). domain ∷ r) (e3
    ∙ ap (λ (r : List ℕ). number_bytes rid ++ r) (e4 ∙ ap (λ (n : ℕ). n ∷ r4) is
    ∙ ap (λ (r : List ℕ). kind_byte kind ∷ r) e5)))

out_read : (number : ℕ) (value : List ℕ) (row : Row) → FitsKey (keys.Out number) → IsBytes value
    → out_of number value ≡ Some row → IsSpelled (record { key = stored_key (keys.Out number); value = value }) row
unfolding out_of out_value
out_read number value row key fits e =
    field byte_takes value fits _ row e (λ action r1 t1 e1.
    field domain_number_takes r1 t1.rest_bytes _ row e1 (λ domain r2 t2 e2.
    field number_takes r2 t2.rest_bytes _ row e2 (λ rid r3 t3 e3.
    field byte_takes r3 t3.rest_bytes _ row e3 (λ byte r4 t4 e4.
    bound (kind_of_byte byte) _ row e4 (λ kind is_kind e5.
    field text_takes r4 t4.rest_bytes _ row e5 (λ name r5 t5 e6.
    let g = passed _ _ row e6 in
    let k = user_kind byte kind is_kind in
    let end : r4 ≡ text_bytes name = last (text_bytes name) r4 r5 t5.parts (at_end r5 g.0) in
    subst (λ r. IsSpelled (record { key = stored_key (keys.Out number); value = value }) r) g.1 (record {
      fits = record {
        number = key;
        action = t1.fits;
        domain = t2.fits;
        rid = t3.fits;
        kind = k.1;
        name = t5.fits;
      };
      spelled = ap (λ (v : List ℕ). record { key = stored_key (keys.Out number); value = v })
          (out_parts rid kind name k.0 t1.parts t2.parts t3.parts t4.parts end);
    })))))))

module _ (back : WrittenBytesAreRead) (sizes : WrittenBytesHaveLengths) (only : ReadBytesAreWritten) where
  desc_read : (object : Object) (value : List ℕ) (row : Row) → FitsKey (keys.Desc object) → IsBytes value
      → desc_of object value ≡ Some row
      → IsSpelled (record { key = stored_key (keys.Desc object); value = value }) row
  unfolding desc_of
  desc_read object value row key fits e =
      bound (result_ok (descriptor_of_bytes value)) _ row e (λ d is_read e1.
      let g = passed _ _ row e1 in
      let read : descriptor_of_bytes value ≡ Ok d = was_ok _ d is_read in
      let few : has_few d.acl ≡ true = first_so _ _ g.0 in
      let is : descriptor_bytes d ≡ value = (bytes_eq-Decides (descriptor_bytes d) value).0 (second_so _ _ g.0) in
      subst (λ r. IsSpelled (record { key = stored_key (keys.Desc object); value = value }) r) g.1 (record {
        fits = record { object = key; descriptor = described_fits only value d fits read few };
        spelled = ap (λ (v : List ℕ). record { key = stored_key (keys.Desc object); value = v }) (sym is);
      }))

  value_read : (key : RowKey) (value : List ℕ) (row : Row) → FitsKey key → IsBytes value → valued key value ≡ Some row
      → IsSpelled (record { key = stored_key key; value = value }) row
  unfolding valued
  value_read (keys.Domain number) value row key fits e = domain_read back sizes only number value row key fits e
  value_read (keys.Account domain rid) value row key fits e = account_read domain rid value row key fits e
  value_read (keys.Member group user) value row key fits e = member_read group user value row key fits e
  value_read (keys.Alias domain alias member) value row key fits e = alias_read domain alias member value row key e
  value_read (keys.Lsa sid) value row key fits e = lsa_read sid value row key fits e
  value_read (keys.Desc object) value row key fits e = desc_read object value row key fits e
  value_read (keys.Out number) value row key fits e = out_read number value row key fits e

  pub rows_are_spelled : ReadRowsAreSpelled
  unfolding row_of
  rows_are_spelled pair row bytes e =
      bound (row_key pair.key) (λ key. valued key pair.value) row e (λ key is_key e1.
      let k = key_read back sizes only pair.key key (bytes_from_All pair.key bytes.key) is_key in
      subst (λ (k : List ℕ). IsSpelled (record { key = k; value = pair.value }) row) (sym k.1)
      (value_read key pair.value row k.0 (bytes_from_All pair.value bytes.value) e1))

-- What is read as a descriptor keeps the limits of its parts, and what is written of one is read again.
use Rattle.std.proofs.Common.{◌≡◌, ℕ, ◌+◌, ◌^◌, ◌<◌, ◌≤◌, true, List, [], ◌∷◌, ◌++◌, length, drop, All, Option}
use Rattle.std.proofs.Common.{Some, None, Ok, refl, sym, ap, subst, ◌∙◌, arith}
use Rattle.std.specs.Prelude.{nat_le, ◌↔◌, Bool}
use Rattle.std.proofs.Common.{inl, inr}
use Rattle.acct_tables.proofs.Lookups.{same_Some}
use Rattle.acct_tables.proofs.Orders.{tested}
use Rattle.std.proofs.lemmas.Bool.Decides.{nat_tests}
use Rattle.std.proofs.lemmas.List.{append-nil}
use Rattle.std.proofs.lemmas.List.Elements.{All-nil, All-cons}
use Rattle.dtyp_sid.specs.Sids.{WrittenBytesAreRead, WrittenBytesHaveLengths, ReadBytesAreWritten, SidValue}
use Rattle.dtyp_access.specs.Parts.{IsAce, IsSidOrNone, IsList, IsDescriptor, HasFewAces, parts_of, descriptor_bytes}
use Rattle.dtyp_access.specs.Reading.{u32_at, next_ace, descriptor_of_bytes}
use Rattle.dtyp_access.specs.Spelled.{SpellSidOrNone, SpellAce, SpellAces, SpellList, SpellDescriptor}
use Rattle.dtyp_access.specs.declared.ace.Ace.{Ace}
use Rattle.dtyp_access.specs.declared.descriptor.Descriptor.{Descriptor}
use Rattle.dtyp_access.proofs.ReadIsSpelled.{read_is_spelled}
use Rattle.dtyp_access.proofs.SpelledIsRead.{spelled_is_read}
use Rattle.dtyp_access.proofs.WrittenIsSpelled.{written_is_spelled}
use Rattle.acct_base.specs.Reading.{front_at}
use Rattle.acct_tables.specs.Spelled.{next_out_value}
use Rattle.acct_tables.specs.Stored.{has_few, next_out_of}
use Rattle.acct_tables.proofs.Taken.{IsBytes, All_bytes, IsBytes-drop, bind_some, passed, at_end, front_takes}
use Rattle.std.specs.Cmp.{first_so}
use Rattle.std.proofs.lemmas.Nat.{le_bytes_8}

mask_fits : (place : ℕ) (bytes : List ℕ) → IsBytes bytes → u32_at place bytes < 2 ^ 32
unfolding u32_at
mask_fits place bytes fits =
    let rest : IsBytes (drop place bytes) = IsBytes-drop place bytes fits in
    omega (arith, rest 0, rest 1, rest 2, rest 3)

ace_fits : (place end : ℕ) (bytes : List ℕ) (ace : Ace) → IsBytes bytes → SpellAce place end bytes ace → IsAce ace
ace_fits place end bytes ace fits spelled = record {
  flags_fit = subst (λ n. n < 2 ^ 8) spelled.flags (fits (place + 1));
  mask_fits = subst (λ n. n < 2 ^ 32) spelled.mask (mask_fits (place + 4) bytes fits);
  is_sid = spelled.sid.is_sid;
}

aces_fit : (place end : ℕ) (bytes : List ℕ) (aces : List Ace) → IsBytes bytes → SpellAces place end bytes aces
    → All IsAce aces
aces_fit place end bytes [] fits spelled = All-nil IsAce
aces_fit place end bytes (ace ∷ aces) fits spelled =
    All-cons IsAce ace aces (ace_fits place end bytes ace fits spelled.0) (aces_fit (next_ace place bytes) end bytes aces fits spelled.1)

sid_fits : (field : ℕ) (bytes : List ℕ) (sid : Option SidValue) → SpellSidOrNone field bytes sid → IsSidOrNone sid
sid_fits field bytes None spelled = tt
sid_fits field bytes (Some sid) spelled = spelled.spelled.is_sid

list_fits : (bytes : List ℕ) (acl : Option (List Ace)) → IsBytes bytes → SpellList bytes acl → has_few acl ≡ true
    → IsList acl
list_fits bytes None fits spelled few = tt
list_fits bytes (Some aces) fits spelled few =
    (aces_fit _ _ bytes aces fits spelled.spelled.entries, grind (arith, nat_tests))

pub described_fits : ReadBytesAreWritten → (bytes : List ℕ) (d : Descriptor) → IsBytes bytes
    → descriptor_of_bytes bytes ≡ Ok d → has_few d.acl ≡ true → IsDescriptor d
described_fits only bytes d fits read few =
    let spelled : SpellDescriptor bytes d = read_is_spelled only bytes d (All_bytes bytes fits) read in
    record {
      owner = spelled.owner.spelled.is_sid;
      group = sid_fits 8 bytes d.group spelled.group;
      acl = list_fits bytes d.acl fits spelled.acl few;
    }

pub described_again : WrittenBytesAreRead → WrittenBytesHaveLengths → (d : Descriptor) → IsDescriptor d
    → descriptor_of_bytes (descriptor_bytes d) ≡ Ok d
described_again back sizes d is =
    spelled_is_read back (descriptor_bytes d) d (subst (λ (bytes : List ℕ). SpellDescriptor bytes d)
    (append-nil (descriptor_bytes d)) (written_is_spelled sizes (parts_of d) [] is))

few_again : (acl : Option (List Ace)) → IsList acl → has_few acl ≡ true
few_again None is = refl
few_again (Some aces) is = let few : length aces ≤ 800 = is.1 in grind (arith, nat_tests)

pub described_few : (d : Descriptor) → IsDescriptor d → has_few d.acl ≡ true
described_few d is = few_again d.acl is.acl

-- a list that is written has no more entries than may be, and the test tells so
pub few_of : (acl : Option (List Ace)) → IsList acl → HasFewAces acl
few_of acl is aces e = (subst IsList e is).1

pub few_is : (acl : Option (List Ace)) (b : Bool) → (b ≡ true) ↔ HasFewAces acl → b ≡ has_few acl
few_is None b h = h.1 (λ aces e. cc)
few_is (Some aces) b h =
    elim (tested (nat_le (length aces) 800)) [
      | inl t ↦
          let few : length aces ≤ 800 = grind (arith, nat_tests) in
          h.1 (λ others e. subst (λ xs. length xs ≤ 800) (same_Some e) few) ∙ sym t
      | inr t ↦ elim (tested b) [
        | inr f ↦ f ∙ sym t
        | inl so ↦ absurd (
            let few : length aces ≤ 800 = h.0 so aces refl in
            grind (arith, nat_tests))
      ]
    ]

-- what is read as a next out number is written so
pub next_is_spelled : (value : List ℕ) (n : ℕ) → IsBytes value → next_out_of value ≡ Some n → value ≡ next_out_value n
unfolding next_out_of next_out_value
next_is_spelled value n fits e =
    let b = bind_some (front_at 8 value) _ n e in
    let t = front_takes 8 value b.0.0 b.0.1 fits b.1 in
    let g = passed _ _ n b.2 in
    let all : value ≡ b.0.0 =
    t.parts ∙ ap (λ (r : List ℕ). b.0.0 ++ r) (at_end b.0.1 (first_so _ _ g.0)) ∙ append-nil b.0.0 in
    all ∙ sym (le_bytes_8 b.0.0 n t.fits.0 t.fits.1 (sym g.1))

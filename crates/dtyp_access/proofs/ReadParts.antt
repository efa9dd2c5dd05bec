-- Parts that are read keep the limits of their parts, where their list has at most 800 entries.
use Rattle.std.proofs.Common.{◌≡◌, ℕ, ◌+◌, ◌^◌, ◌<◌, ◌≤◌, List, [], ◌∷◌, length, drop, get_or, Option, Some, None, All}
use Rattle.std.proofs.Common.{refl, sym, subst, arith, ⊎_elim}
use Rattle.std.specs.Int.{w32, from_le_bytes}
use Rattle.std.proofs.lemmas.List.{get_or-drop, get_or_past}
use Rattle.std.proofs.lemmas.List.Elements.{All-nil, All-cons}
use Rattle.std.proofs.lemmas.Bool.{cases_lt}
use Rattle.dtyp_sid.specs.Sids.{SidValue}
use Rattle.dtyp_access.specs.declared.ace.Ace.{Ace}
use Rattle.dtyp_access.specs.declared.parts.Parts.{Parts}
use Rattle.dtyp_access.specs.Parts.{IsAce, IsSidOrNone, IsList, AreParts, HasFewAces}
use Rattle.dtyp_access.specs.Reading.{u32_at, next_ace}
use Rattle.dtyp_access.specs.Spelled.{SpellAce, SpellAces, SpellSidOrNone, SpellList, ReadPartsSpell, ReadPartsAreParts}

abbrev Below : List ℕ → Type 0
Below bytes = (i : ℕ) → get_or bytes i 0 < 256

below : (bytes : List ℕ) → All (λ byte. byte < 256) bytes → Below bytes
below bytes all i = ⊎_elim (λ (inside : i < length bytes). all i 0 inside)
    (λ (past : length bytes ≤ i). subst (λ (x : ℕ). x < 256) (sym (get_or_past bytes i 0 past)) (omega arith))
    (cases_lt i (length bytes))

-- four bytes make a number of 32 bits
number_fits : (bytes : List ℕ) → Below bytes → from_le_bytes w32 bytes < 2 ^ 32
number_fits bytes small =
    let a = small 0 in
    let b = small 1 in
    let c = small 2 in
    let d = small 3 in
    omega arith

mask_fits : (place : ℕ) (bytes : List ℕ) → Below bytes → u32_at place bytes < 2 ^ 32
unfolding u32_at
mask_fits place bytes small =
    number_fits (drop place bytes)
    (λ i. subst (λ (x : ℕ). x < 256) (sym (get_or-drop place bytes i 0)) (small (place + i)))

ace_is : (place end : ℕ) (bytes : List ℕ) (ace : Ace) → Below bytes → SpellAce place end bytes ace → IsAce ace
ace_is place end bytes ace small spelled = record {
  flags_fit = subst (λ (n : ℕ). n < 2 ^ 8) spelled.flags (small (place + 1));
  mask_fits = subst (λ (n : ℕ). n < 2 ^ 32) spelled.mask (mask_fits (place + 4) bytes small);
  is_sid = spelled.sid.is_sid;
}

aces_are : (place end : ℕ) (bytes : List ℕ) (aces : List Ace) → Below bytes → SpellAces place end bytes aces
    → All IsAce aces
aces_are place end bytes [] small spelled = All-nil IsAce
aces_are place end bytes (ace ∷ aces) small spelled =
    All-cons IsAce ace aces (ace_is place end bytes ace small spelled.0)
    (aces_are (next_ace place bytes) end bytes aces small spelled.1)

sid_is : (field : ℕ) (bytes : List ℕ) (sid : Option SidValue) → SpellSidOrNone field bytes sid → IsSidOrNone sid
sid_is field bytes None spelled = tt
sid_is field bytes (Some sid) spelled = spelled.spelled.is_sid

list_is : (bytes : List ℕ) (acl : Option (List Ace)) → Below bytes → HasFewAces acl → SpellList bytes acl → IsList acl
list_is bytes None small few spelled = tt
list_is bytes (Some aces) small few spelled = (aces_are _ _ bytes aces small spelled.spelled.entries, few aces refl)

pub read_are_parts : ReadPartsSpell → ReadPartsAreParts
read_are_parts spell bytes p all read few =
    let spelled = (spell bytes p all).0 read in
    let small = below bytes all in
    record {
      owner = sid_is 4 bytes p.owner spelled.owner;
      group = sid_is 8 bytes p.group spelled.group;
      acl = list_is bytes p.acl small few spelled.acl;
    }

-- Grants are valid, the maximum has all others, nothing gets nothing; where none denies, more SIDs get no less.
use Rattle.std.proofs.Common.{◌≡◌, ℕ, ◌^◌, ◌<◌, List, [], ◌∷◌, refl, sym, ap, ◌∙◌, Bool, true, false, bit_and, Some}
use Rattle.std.proofs.Common.{None, Option, find, arith, subst}
use Rattle.std.specs.Prelude.{not, ◌&&◌, ◌||◌, ◌==◌, if◌then◌else◌}
use Rattle.std.specs.List.{list_all}
use Rattle.std.specs.Option.{option_map_or}
use Rattle.std.proofs.lemmas.Nat.{and_le_l}
use Rattle.acct_codes.specs.declared.kind.Kind.{Kind}
use Rattle.acct_codes.specs.Rights.{read_control, write_dac, access_system_security, maximum_allowed, generic_all}
use Rattle.acct_codes.specs.Rights.{generic_read, generic_write, generic_execute, valid_rights}
use Rattle.dtyp_sid.specs.Sids.{SidValue}
use Rattle.dtyp_access.specs.declared.ace.Ace.{Ace}
use Rattle.dtyp_access.specs.declared.descriptor.Descriptor.{Descriptor}
use Rattle.dtyp_access.specs.Granted.{shares, names, applies, is_inherit_only, is_allow, has_sid, acl_grants, is_owners}
use Rattle.dtyp_access.specs.Granted.{grants, granted, asks, may_have, gives, all_rights, mask_of, opened}
use Rattle.dtyp_access.specs.Laws.{DeniesNothing}
use Rattle.std.proofs.Common.{w32}
use Rattle.std.specs.Int.{bit_not}
use Rattle.dtyp_access.proofs.Opened.{AreMasks, opened_asked}
use Rattle.dtyp_access.proofs.Masks.{shares-and, shares-mask_of, mask_of-fits, same_masks, all_rights-at, shares_no}

and_left : (x y : Bool) → (x && y) ≡ true → x ≡ true
and_left true y is = refl
and_left false y is = is

and_right : (x y : Bool) → (x && y) ≡ true → y ≡ true
and_right true y is = is
and_right false y is = cc

and_both : (x y : Bool) → x ≡ true → y ≡ true → (x && y) ≡ true
and_both x y p q = rw (p, q) refl

or_left : (x y : Bool) → x ≡ true → (x || y) ≡ true
or_left x y p = rw p refl

or_right : (x y : Bool) → y ≡ true → (x || y) ≡ true
or_right true y p = refl
or_right false y p = p

-- one side of a choice holds where the other does or the choice
or_more : (x y x' y' : Bool) → (x ≡ true → x' ≡ true) → (y ≡ true → y' ≡ true) → (x || y) ≡ true → (x' || y') ≡ true
or_more true y x' y' more_x more_y is = or_left x' y' (more_x refl)
or_more false y x' y' more_x more_y is = or_right x' y' (more_y is)

-- a token with more SIDs
abbrev HasAll : List SidValue → List SidValue → Type 0
HasAll token more = (sid : SidValue) → has_sid token sid ≡ true → has_sid more sid ≡ true

applies_more : (token more : List SidValue) (right : ℕ) (ace : Ace) → HasAll token more → applies token right ace ≡ true
    → applies more right ace ≡ true
unfolding applies
applies_more token more right ace has is =
    and_both (not (is_inherit_only ace) && names ace right) (has_sid more ace.sid)
    (and_left (not (is_inherit_only ace) && names ace right) (has_sid token ace.sid) is)
    (has ace.sid (and_right (not (is_inherit_only ace) && names ace right) (has_sid token ace.sid) is))

first_of : (p : Ace → Bool) (ace : Ace) (aces : List Ace) → find p (ace ∷ aces)
    ≡ (if p ace then Some ace else find p aces)
first_of p ace aces = elim (p ace) as
    (λ b. (if b then Some ace else find p aces) ≡ (if b then Some ace else find p aces)) [ true ↦ refl | false ↦ refl ]

grants_more : (token more : List SidValue) (right : ℕ) (aces : List Ace) → HasAll token more → list_all is_allow aces
    ≡ true
    → option_map_or is_allow (find (applies token right) aces) false ≡ true →
    option_map_or is_allow (find (applies more right) aces) false ≡ true
grants_more token more right [] has none is = is
grants_more token more right (ace ∷ aces) has none is =
    ap (λ o. option_map_or is_allow o false) (first_of (applies more right) ace aces)
    ∙ by_more (applies more right ace) (applies token right ace) (applies_more token more right ace has)
    (grants_more token more right aces has (and_right (is_allow ace) (list_all is_allow aces) none))
    (ap (λ o. option_map_or is_allow o false) (sym (first_of (applies token right) ace aces)) ∙ is)
  where
    by_more : (b a : Bool) → (a ≡ true → b ≡ true)
        → (option_map_or is_allow (find (applies token right) aces) false ≡ true →
        option_map_or is_allow (find (applies more right) aces) false ≡ true)
        → option_map_or is_allow (if a then Some ace else find (applies token right) aces) false ≡ true
        → option_map_or is_allow (if b then Some ace else find (applies more right) aces) false ≡ true
    by_more true a less behind is = and_left (is_allow ace) (list_all is_allow aces) none
    by_more false true less behind is = let no = less refl in cc
    by_more false false less behind is = behind is

pub more_sids : (token more : List SidValue) (d : Descriptor) (right : ℕ) → DeniesNothing d.acl → HasAll token more →
    granted token d right ≡ true → granted more d right ≡ true
unfolding granted is_owners acl_grants
more_sids token more d right none has is =
    let first = and_left (not (right == access_system_security)) (grants token d.owner right d.acl) is in
    let second = and_right (not (right == access_system_security)) (grants token d.owner right d.acl) is in
    and_both (not (right == access_system_security)) (grants more d.owner right d.acl) first (listed d.acl none second)
  where
    listed : (acl : Option (List Ace)) → DeniesNothing acl → grants token d.owner right acl ≡ true →
        grants more d.owner right acl ≡ true
    listed None none is = refl
    listed (Some aces) none is =
        or_more (is_owners token d.owner right) (acl_grants token right aces) (is_owners more d.owner right)
        (acl_grants more right aces)
        (λ owns. and_both (has_sid more d.owner) (right == read_control || right == write_dac)
        (has d.owner (and_left (has_sid token d.owner) (right == read_control || right == write_dac) owns))
        (and_right (has_sid token d.owner) (right == read_control || right == write_dac) owns))
        (grants_more token more right aces has none) is

-- an opening that succeeds: its grant, and that each right that is asked for may be had
record IsOpened (kind : Kind) (d : Descriptor) (token : List SidValue) (desired grant : ℕ) : Type 0 where
  grant_is : grant ≡ mask_of 32 (gives kind d token desired)
  asked_may : (bit : ℕ) → bit < 32 → asks kind desired (2 ^ bit) ≡ true → may_have kind d token (2 ^ bit) ≡ true

opened_is : (kind : Kind) (d : Descriptor) (token : List SidValue) (desired grant : ℕ) → opened kind d token desired
    ≡ Some grant → IsOpened kind d token desired grant
unfolding opened
opened_is kind d token desired grant is =
    let fine = some_if (all_rights 32 (λ right. not (asks kind desired right) || may_have kind d token right))
    (mask_of 32 (gives kind d token desired)) grant is in
    record {
      grant_is = sym fine.1;
      asked_may = λ bit within asked. may_if (asks kind desired (2 ^ bit)) (may_have kind d token (2 ^ bit))
          (all_rights-at 32 (λ right. not (asks kind desired right) || may_have kind d token right) bit fine.0 within)
          asked;
    }
  where
    some_if : (b : Bool) (x y : ℕ) → (if b then Some x else None) ≡ Some y → (b ≡ true) × (x ≡ y)
    some_if true x y is = (refl, cc)
    some_if false x y is = cc

    may_if : (a g : Bool) → (not a || g) ≡ true → a ≡ true → g ≡ true
    may_if true g is asked = is
    may_if false g is asked = cc

-- each right of a grant may be had
given_may : (kind : Kind) (d : Descriptor) (token : List SidValue) (desired grant : ℕ) →
    IsOpened kind d token desired grant
    → (bit : ℕ) → bit < 32 → shares grant (2 ^ bit) ≡ true → may_have kind d token (2 ^ bit) ≡ true
unfolding gives
given_may kind d token desired grant is bit within has =
    either (asks kind desired (2 ^ bit)) (shares desired maximum_allowed) (may_have kind d token (2 ^ bit))
    (is.asked_may bit within)
    (sym (shares-mask_of 32 (gives kind d token desired) bit within)
    ∙ ap (λ mask. shares mask (2 ^ bit)) (sym is.grant_is) ∙ has)
  where
    either : (a m g : Bool) → (a ≡ true → g ≡ true) → (a || (m && g)) ≡ true → g ≡ true
    either true m g asked is = asked refl
    either false m g asked is = and_right m g is

-- one mask lies within another where each of its rights does
within_mask : (a b : ℕ) → a < 2 ^ 32 → ((bit : ℕ) → bit < 32 → shares a (2 ^ bit) ≡ true → shares b (2 ^ bit) ≡ true) →
    bit_and a b ≡ a
within_mask a b fits each =
    same_masks (bit_and a b) a (omega (arith, and_le_l a b)) fits
    (λ bit within. shares-and a b bit ∙ both (shares a (2 ^ bit)) (shares b (2 ^ bit)) (each bit within))
  where
    both : (x y : Bool) → (x ≡ true → y ≡ true) → (x && y) ≡ x
    both true y is = is refl
    both false y is = refl

grant_fits : (kind : Kind) (d : Descriptor) (token : List SidValue) (desired grant : ℕ) →
    IsOpened kind d token desired grant → grant < 2 ^ 32
grant_fits kind d token desired grant is =
    subst (λ (mask : ℕ). mask < 2 ^ 32) (sym is.grant_is) (mask_of-fits 32 (gives kind d token desired))

pub grant_valid : (kind : Kind) (d : Descriptor) (token : List SidValue) (desired grant : ℕ) →
    opened kind d token desired ≡ Some grant → bit_and grant (valid_rights kind) ≡ grant
unfolding may_have
grant_valid kind d token desired grant is =
    let open' = opened_is kind d token desired grant is in
    within_mask grant (valid_rights kind) (grant_fits kind d token desired grant open')
    (λ bit within has. and_left (shares (valid_rights kind) (2 ^ bit)) (granted token d (2 ^ bit))
    (given_may kind d token desired grant open' bit within has))

pub maximum_all : (kind : Kind) (d : Descriptor) (token : List SidValue) (desired grant other plain : ℕ) →
    shares desired maximum_allowed ≡ true
    → opened kind d token desired ≡ Some grant → opened kind d token other ≡ Some plain → bit_and plain grant ≡ plain
unfolding gives
maximum_all kind d token desired grant other plain maximum is is_plain =
    let open' = opened_is kind d token desired grant is in
    let open_plain = opened_is kind d token other plain is_plain in
    within_mask plain grant (grant_fits kind d token other plain open_plain)
    (λ bit within has.
    let may = given_may kind d token other plain open_plain bit within has in
    ap (λ mask. shares mask (2 ^ bit)) open'.grant_is
    ∙ shares-mask_of 32 (gives kind d token desired) bit within
    ∙ or_right (asks kind desired (2 ^ bit)) (shares desired maximum_allowed && may_have kind d token (2 ^ bit))
    (and_both (shares desired maximum_allowed) (may_have kind d token (2 ^ bit)) maximum may))

-- nothing is asked for
none_shared : (other : ℕ) → shares 0 other ≡ false
none_shared other = shares_no 0 other (omega (arith, and_le_l 0 other))

asks_nothing : (kind : Kind) (right : ℕ) → asks kind 0 right ≡ false
unfolding asks
asks_nothing kind right =
    rw (
      none_shared right,
      none_shared generic_all,
      none_shared generic_read,
      none_shared generic_write,
      none_shared generic_execute,
    ) refl

pub nothing_granted : (kind : Kind) (d : Descriptor) (token : List SidValue) → opened kind d token 0 ≡ Some 0
nothing_granted kind d token =
    let may : ℕ = mask_of 32 (may_have kind d token) in
    let are : AreMasks kind d token 0 0 may = record {
      asked_fits = omega arith;
      may_fits = mask_of-fits 32 (may_have kind d token);
      asked_is = λ bit within. none_shared (2 ^ bit) ∙ sym (asks_nothing kind (2 ^ bit));
      may_is = λ bit within. shares-mask_of 32 (may_have kind d token) bit within;
    } in
    opened_asked kind d token 0 0 may are (omega (arith, and_le_l 0 (bit_not w32 may))) (none_shared maximum_allowed)

-- Openings over whole masks, and one right at a time
use Rattle.std.proofs.Common.{◌≡◌, ℕ, ◌^◌, ◌<◌, List, refl, sym, ap, ◌∙◌, Bool, true, false, bit_and, bit_or, Some}
use Rattle.std.proofs.Common.{None, w32, arith}
use Rattle.std.specs.Prelude.{not, ◌&&◌, ◌||◌, if◌then◌else◌}
use Rattle.std.specs.Int.{bit_not}
use Rattle.acct_codes.specs.declared.kind.Kind.{Kind}
use Rattle.acct_codes.specs.Rights.{maximum_allowed, valid_rights}
use Rattle.dtyp_sid.specs.Sids.{SidValue}
use Rattle.dtyp_access.specs.declared.descriptor.Descriptor.{Descriptor}
use Rattle.dtyp_access.specs.Granted.{shares, granted, asks, may_have, gives, all_rights, mask_of, opened}
use Rattle.dtyp_access.proofs.Masks.{shares-and, shares-or, shares-not, shares-none, shares-mask_of, mask_of-fits}
use Rattle.dtyp_access.proofs.Masks.{same_masks, passes_all, all_rights-at}
use Rattle.dtyp_access.proofs.Walk.{or_false}
use Rattle.std.proofs.lemmas.Nat.{and_le_l, and_le_r}

-- masks of the rights that are asked for and of those that may be had
pub record AreMasks (kind : Kind) (descriptor : Descriptor) (token : List SidValue)
    (desired asked may : ℕ) : Type 0 where
  pub asked_fits : asked < 2 ^ 32
  pub may_fits : may < 2 ^ 32
  pub asked_is : (bit : ℕ) → bit < 32 → shares asked (2 ^ bit) ≡ asks kind desired (2 ^ bit)
  pub may_is : (bit : ℕ) → bit < 32 → shares may (2 ^ bit) ≡ may_have kind descriptor token (2 ^ bit)

abbrev is_fine : Kind → Descriptor → List SidValue → ℕ → ℕ → Bool
is_fine kind descriptor token desired right = not (asks kind desired right) || may_have kind descriptor token right

-- the rights that are asked for and may not be had, one by one
missing_is : (kind : Kind) (descriptor : Descriptor) (token : List SidValue) (desired asked may : ℕ) →
    AreMasks kind descriptor token desired asked may
    → (bit : ℕ) → bit < 32 → shares (bit_and asked (bit_not w32 may)) (2 ^ bit)
    ≡ (asks kind desired (2 ^ bit) && not (may_have kind descriptor token (2 ^ bit)))
missing_is kind descriptor token desired asked may are bit within =
    shares-and asked (bit_not w32 may) bit
    ∙ ap (λ b. b && shares (bit_not w32 may) (2 ^ bit)) (are.asked_is bit within)
    ∙ ap (λ b. asks kind desired (2 ^ bit) && b)
    (shares-not may bit are.may_fits within ∙ ap not (are.may_is bit within))

fine_if : (a g : Bool) → (a && not g) ≡ false → (not a || g) ≡ true
fine_if true true is = refl
fine_if true false is = sym is
fine_if false g is = refl

missing_if : (a g : Bool) → (not a || g) ≡ true → (a && not g) ≡ false
missing_if true true is = refl
missing_if true false is = sym is
missing_if false g is = refl

-- nothing is missing
pub all_fine : (kind : Kind) (descriptor : Descriptor) (token : List SidValue) (desired asked may : ℕ) →
    AreMasks kind descriptor token desired asked may
    → bit_and asked (bit_not w32 may) ≡ 0 → all_rights 32 (is_fine kind descriptor token desired) ≡ true
all_fine kind descriptor token desired asked may are none =
    passes_all 32 (is_fine kind descriptor token desired) (λ bit within.
    fine_if (asks kind desired (2 ^ bit)) (may_have kind descriptor token (2 ^ bit))
    (sym (missing_is kind descriptor token desired asked may are bit within) ∙ ap (λ mask. shares mask (2 ^ bit)) none
    ∙ shares-none bit))

go : (b : Bool) → ¬ (b ≡ true) → b ≡ false
go true not_true = absurd (not_true refl)
go false not_true = refl

-- something is missing
pub not_fine : (kind : Kind) (descriptor : Descriptor) (token : List SidValue) (desired asked may : ℕ) →
    AreMasks kind descriptor token desired asked may
    → bit_and asked (bit_not w32 may) < 2 ^ 32 → ¬ (bit_and asked (bit_not w32 may) ≡ 0) →
    all_rights 32 (is_fine kind descriptor token desired) ≡ false
not_fine kind descriptor token desired asked may are fits some =
    go (all_rights 32 (is_fine kind descriptor token desired))
    (λ all. some (same_masks (bit_and asked (bit_not w32 may)) 0 fits (omega arith) (λ bit within.
    missing_is kind descriptor token desired asked may are bit within
    ∙ missing_if (asks kind desired (2 ^ bit)) (may_have kind descriptor token (2 ^ bit))
    (all_rights-at 32 (is_fine kind descriptor token desired) bit all within)
    ∙ sym (shares-none bit))))

-- the mask of what is given
pub given_asked : (kind : Kind) (descriptor : Descriptor) (token : List SidValue) (desired asked may : ℕ) →
    AreMasks kind descriptor token desired asked may
    → shares desired maximum_allowed ≡ false → mask_of 32 (gives kind descriptor token desired) ≡ asked
unfolding gives
given_asked kind descriptor token desired asked may are plain =
    same_masks (mask_of 32 (gives kind descriptor token desired)) asked (mask_of-fits 32 _) are.asked_fits
    (λ bit within.
    shares-mask_of 32 (gives kind descriptor token desired) bit within
    ∙ ap (λ b. asks kind desired (2 ^ bit) || (b && may_have kind descriptor token (2 ^ bit))) plain
    ∙ or_false (asks kind desired (2 ^ bit))
    ∙ sym (are.asked_is bit within))

pub given_all : (kind : Kind) (descriptor : Descriptor) (token : List SidValue) (desired asked may : ℕ) →
    AreMasks kind descriptor token desired asked may
    → bit_or asked may < 2 ^ 32 → shares desired maximum_allowed ≡ true →
    mask_of 32 (gives kind descriptor token desired) ≡ bit_or asked may
unfolding gives
given_all kind descriptor token desired asked may are fits maximum =
    same_masks (mask_of 32 (gives kind descriptor token desired)) (bit_or asked may) (mask_of-fits 32 _) fits
    (λ bit within.
    shares-mask_of 32 (gives kind descriptor token desired) bit within
    ∙ ap (λ b. asks kind desired (2 ^ bit) || (b && may_have kind descriptor token (2 ^ bit))) maximum
    ∙ ap (λ b. b || may_have kind descriptor token (2 ^ bit)) (sym (are.asked_is bit within))
    ∙ ap (λ b. shares asked (2 ^ bit) || b) (sym (are.may_is bit within))
    ∙ sym (shares-or asked may bit))

-- the masks of the code
pub are_masks : (kind : Kind) (descriptor : Descriptor) (token sids : List SidValue) (desired asked valid granted' : ℕ)
    → asked < 2 ^ 32 → granted' < 2 ^ 32 → ((bit : ℕ) → bit < 32 → shares asked (2 ^ bit) ≡ asks kind desired (2 ^ bit))
    → valid ≡ valid_rights kind → sids ≡ token
    → ((bit : ℕ) → bit < 32 → shares granted' (2 ^ bit) ≡ granted sids descriptor (2 ^ bit)) →
    AreMasks kind descriptor token desired asked (bit_and valid granted')
unfolding may_have
are_masks kind descriptor token sids desired asked valid granted' asked_fits granted_fits asked_is is_valid same
    granted_is = record {
      asked_fits = asked_fits;
      may_fits = omega (arith, and_le_r valid granted');
      asked_is = asked_is;
      may_is = λ bit within.
          shares-and valid granted' bit
          ∙ ap (λ mask. shares mask (2 ^ bit) && shares granted' (2 ^ bit)) is_valid
          ∙ ap (λ b. shares (valid_rights kind) (2 ^ bit) && b)
          (granted_is bit within ∙ ap (λ (sids : List SidValue). granted sids descriptor (2 ^ bit)) same);
    }

-- the answers of an opening
pub opened_none : (kind : Kind) (descriptor : Descriptor) (token : List SidValue) (desired asked may : ℕ) →
    AreMasks kind descriptor token desired asked may
    → ¬ (bit_and asked (bit_not w32 may) ≡ 0) → opened kind descriptor token desired ≡ None
unfolding opened
opened_none kind descriptor token desired asked may are some =
    let fits : bit_and asked (bit_not w32 may) < 2 ^ 32 =
    (let less = and_le_l asked (bit_not w32 may) in let a = are.asked_fits in omega arith) in
    ap (λ b. if b then Some (mask_of 32 (gives kind descriptor token desired)) else None)
    (not_fine kind descriptor token desired asked may are fits some)

pub opened_asked : (kind : Kind) (descriptor : Descriptor) (token : List SidValue) (desired asked may : ℕ) →
    AreMasks kind descriptor token desired asked may
    → bit_and asked (bit_not w32 may) ≡ 0 → shares desired maximum_allowed ≡ false →
    opened kind descriptor token desired ≡ Some asked
unfolding opened
opened_asked kind descriptor token desired asked may are none plain =
    ap (λ b. if b then Some (mask_of 32 (gives kind descriptor token desired)) else None)
    (all_fine kind descriptor token desired asked may are none)
    ∙ ap (λ (mask : ℕ). Some mask) (given_asked kind descriptor token desired asked may are plain)

pub opened_all : (kind : Kind) (descriptor : Descriptor) (token : List SidValue) (desired asked may : ℕ) →
    AreMasks kind descriptor token desired asked may
    → bit_and asked (bit_not w32 may) ≡ 0 → bit_or asked may < 2 ^ 32 → shares desired maximum_allowed ≡ true →
    opened kind descriptor token desired ≡ Some (bit_or asked may)
unfolding opened
opened_all kind descriptor token desired asked may are none fits maximum =
    ap (λ b. if b then Some (mask_of 32 (gives kind descriptor token desired)) else None)
    (all_fine kind descriptor token desired asked may are none)
    ∙ ap (λ (mask : ℕ). Some mask) (given_all kind descriptor token desired asked may are fits maximum)

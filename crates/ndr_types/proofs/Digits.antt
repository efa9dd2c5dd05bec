-- Numbers of several fields: which they are, and that what some bytes spell can be written.
use Rattle.std.proofs.Common.{◌≡◌, ℕ, ◌+◌, ◌*◌, ◌/◌, ◌%◌, ◌^◌, ◌<◌, refl, sym, subst, arith, lit<}
use Rattle.ndr_core.specs.Codec.{Codec}
use Rattle.ndr_core.specs.Shapes.{u8, u32}
use Rattle.ndr_core.proofs.Complete.{IsComplete, u8_complete, u16_complete, u32_complete, made_complete}
use Rattle.ndr_core.proofs.Complete.{led_by_complete, ignored_complete}
use Rattle.ndr_types.specs.Values.{then_small, then_short, uuid, handle, handle_of, authority}
use Rattle.acct_layouts.specs.Values.{IsHandle}
use Rattle.ndr_types.specs.Laws.{HasValues}

-- The numbers that a shape takes are those below a limit.
record Limit (a : Codec ℕ) (limit : ℕ) : Type 0 where
  fits : (n : ℕ) → n < limit → a.Fits n
  below : (n : ℕ) → a.Fits n → n < limit
  complete : IsComplete a

small_complete : {a : Codec ℕ} → IsComplete a → IsComplete (then_small a)
small_complete {a = a} p =
    led_by_complete (λ n. n / 0x100) p
    (λ h fits. made_complete (λ low. h * 0x100 + low) (λ n. n % 0x100) u8_complete
    (λ low lt. (omega arith, omega arith)))
    (λ h n fits k. let e : n / 0x100 ≡ h =
    omega arith in (subst (λ (x : ℕ). a.Fits x) (sym e) fits, (k.0, omega arith)))

short_complete : {a : Codec ℕ} → IsComplete a → IsComplete (then_short a)
short_complete {a = a} p =
    led_by_complete (λ n. n / 0x10000) p
    (λ h fits. made_complete (λ low. h * 0x10000 + low) (λ n. n % 0x10000) u16_complete
    (λ low lt. (omega arith, omega arith)))
    (λ h n fits k. let e : n / 0x10000 ≡ h =
    omega arith in (subst (λ (x : ℕ). a.Fits x) (sym e) fits, (k.0, omega arith)))

small : {a : Codec ℕ} {limit : ℕ} → Limit a limit → Limit (then_small a) (limit * 0x100)
small p = record {
  fits = λ n lt. ((p.fits (n / 0x100) (omega arith), (omega arith, omega arith)), refl);
  below = λ n h. let k = p.below (n / 0x100) h.0.0 in omega arith;
  complete = small_complete p.complete;
}

short : {a : Codec ℕ} {limit : ℕ} → Limit a limit → Limit (then_short a) (limit * 0x10000)
short p = record {
  fits = λ n lt. ((p.fits (n / 0x10000) (omega arith), (omega arith, omega arith)), refl);
  below = λ n h. let k = p.below (n / 0x10000) h.0.0 in omega arith;
  complete = short_complete p.complete;
}

byte : Limit u8 256
byte = record { fits = λ n lt. lt; below = λ n lt. lt; complete = u8_complete }

long : Limit u32 (2 ^ 32)
long = record { fits = λ n lt. lt; below = λ n lt. lt; complete = u32_complete }

uuid_limit : Limit uuid (2 ^ 128)
unfolding uuid
uuid_limit = small (small (small (small (small (small (small (small (short (short long)))))))))

authority_limit : Limit authority (2 ^ 48)
unfolding authority
authority_limit = small (small (small (small (small byte))))

pub authority_fits : (n : ℕ) → n < 2 ^ 48 → authority.Fits n
authority_fits = authority_limit.fits

pub authority_below : (n : ℕ) → authority.Fits n → n < 2 ^ 48
authority_below = authority_limit.below

pub authority_complete : IsComplete authority
authority_complete = authority_limit.complete

pub handle_values : HasValues handle IsHandle
unfolding handle
handle_values h = (
  λ fits. uuid_limit.below h.number fits.0.1.0,
  λ lt.
      ((lit< tt, (uuid_limit.fits h.number lt, refl)), refl),
)

pub handle_complete : IsComplete handle
unfolding handle
handle_complete = ignored_complete 0 u32_complete
    (made_complete handle_of (λ h. h.number) uuid_limit.complete (λ n fits. (fits, refl))) (lit< tt)

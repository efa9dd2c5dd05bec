-- Laws of one reading after another: a reading that gave a value had steps that gave theirs.
use Rattle.std.proofs.Common.{◌≡◌, Bool, true, false, cond, Result, Ok, Err, refl}
use Rattle.ndr_core.specs.declared.error.NdrError.{NdrError}
use Rattle.ndr_core.specs.Cursor.{◌>>=◌}

pub ok_is : {A : Type 0} (x y : A) (e : NdrError) → (let r : Result A NdrError = Ok x in r) ≡ Ok y → x ≡ y
ok_is x y e h = cc

-- a step that did not fail
pub bind_ok : {A B : Type 0} (r : Result A NdrError) (f : A → Result B NdrError) (y : B) → (r >>= f) ≡ Ok y
    → (x : A) × (r ≡ Ok x) × (f x ≡ Ok y)
bind_ok (Ok x) f y e = (x, refl, e)
bind_ok (Err d) f y e = absurd cc

-- a test that was passed
pub passed : {A : Type 0} (b : Bool) (d : NdrError) (x y : A) → cond b (Ok x) (Err d) ≡ Ok y → (b ≡ true) × (x ≡ y)
passed true d x y e = (refl, cc)
passed false d x y e = absurd cc

pub reached : {A : Type 0} (b : Bool) (d : NdrError) (r : Result A NdrError) (y : A) → cond b (Err d) r ≡ Ok y
    → (b ≡ false) × (r ≡ Ok y)
reached true d r y e = absurd cc
reached false d r y e = (refl, e)

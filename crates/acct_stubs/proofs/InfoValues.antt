-- The values of an information class are those that its codec can write.
use Rattle.std.proofs.Common.{◌≡◌, ℕ, ◌^◌, ◌<◌, Bool, true, false, cond, Option, Some, None, refl, sym, ap, subst, lit<}
use Rattle.std.specs.Prelude.{◌==◌, ◌||◌}
use Rattle.std.proofs.lemmas.Bool.{eqb-true, eq-eqb}
use Rattle.ndr_core.specs.Parts.{pointer_to}
use Rattle.acct_calls.specs.declared.info.Info.{Info}
use Rattle.acct_calls.specs.declared.info.Info.TheVariants as info
use Rattle.acct_layouts.specs.Values.{IfThere, set_arm, shown_arm, IsOfArm, IsValue}
use Rattle.acct_layouts.specs.CallShapes.{IsPut}
use Rattle.acct_layouts.specs.ReplyShapes.{IsShown}
use Rattle.acct_layouts.specs.declared.classes.Arm.{Arm}
use Rattle.acct_layouts.specs.declared.classes.Arm.TheVariants as arm
use Rattle.acct_layouts.specs.declared.classes.Subject.{Subject}
use Rattle.acct_layouts.specs.declared.classes.Subject.TheVariants as subject
use Rattle.ndr_types.proofs.Parts.{Has, whole_fits, whole_kind}
use Rattle.ndr_types.proofs.Records.{pointer_has}
use Rattle.ndr_types.proofs.Texts.{text_has}
use Rattle.ndr_types.specs.Values.{sid, text}
use Rattle.acct_stubs.proofs.Complete.{alias_has, group_has, place_has, two_texts_has, user_has}
use Rattle.acct_stubs.proofs.CompleteReplies.{value_shown, value_shown_complete}
use Rattle.acct_stubs.specs.Infos.{class_shown, is_named, named_value, set_value, value_of, members}

-- ---- values

value_kind : (a : Arm) (v : Info) → (value_of a).Fits v → IsValue a v
unfolding value_of
value_kind arm.Number (info.Number n) h = h.0
value_kind arm.Text (info.Text t) h = whole_kind text text_has t h.0
value_kind arm.TwoTexts (info.TwoTexts t u) h = let k = whole_kind _ two_texts_has (t, u) h.0 in (k.0, k.1)
value_kind arm.Group (info.Group name attributes members comment) h =
    let k = whole_kind _ group_has (name, (attributes, (members, comment))) h.0 in (k.0, k.1.0, k.1.1.0, k.1.1.1)
value_kind arm.Alias (info.Alias name members comment) h =
    let k = whole_kind _ alias_has (name, (members, comment)) h.0 in (k.0, k.1.0, k.1.1)
value_kind arm.User (info.User name full primary comment) h =
    let k = whole_kind _ user_has (name, (full, (primary, (comment, tt)))) h.0 in (k.0, k.1.0, k.1.1.0, k.1.1.1.0)
value_kind arm.Place (info.Place name sid) h = let k = whole_kind _ place_has (name, sid) h.0 in (k.0, k.1)
value_kind _ _ h = absurd (cc h.1)

pub value_fits : (a : Arm) (v : Info) → IsValue a v → (value_of a).Fits v
unfolding value_of
value_fits arm.Number (info.Number n) h = (h, refl)
value_fits arm.Text (info.Text t) h = (whole_fits text text_has t h, refl)
value_fits arm.TwoTexts (info.TwoTexts t u) h = (whole_fits _ two_texts_has (t, u) (h.0, h.1), refl)
value_fits arm.Group (info.Group name attributes members comment) h =
    (whole_fits _ group_has (name, (attributes, (members, comment))) (h.0, (h.1, (h.2, h.3))), refl)
value_fits arm.Alias (info.Alias name members comment) h =
    (whole_fits _ alias_has (name, (members, comment)) (h.0, (h.1, h.2)), refl)
value_fits arm.User (info.User name full primary comment) h =
    (whole_fits _ user_has (name, (full, (primary, (comment, tt)))) (h.0, (h.1, (h.2, (h.3, tt)))), refl)
value_fits arm.Place (info.Place name sid) h = (whole_fits _ place_has (name, sid) (h.0, h.1), refl)
value_fits _ _ h = absurd h

-- ---- what is set

pub set_kind : (class : ℕ) (a : Option Arm) (v : Info) → (set_value class a).Fits v → IsPut a v
set_kind class None v h = h
set_kind class (Some a) v h = value_kind a v h.0.1.0.1

pub set_fits : (class : ℕ) (a : Option Arm) (v : Info) → class < 2 ^ 16 → IsPut a v → (set_value class a).Fits v
set_fits class None v small h = h
set_fits class (Some a) v small h = (((small, eq-eqb class class refl), ((tt, value_fits a v h), refl)), refl)

-- ---- what is shown

named_kind : (a : Option Arm) (v : Info) → is_named a ≡ true → (named_value a).Fits v → IsOfArm a v
named_kind None v named h = absurd (cc named)
named_kind (Some a) v named h = value_kind a v h.0.1

named_fits : (a : Option Arm) (v : Info) → IsOfArm a v → (is_named a ≡ true) × (named_value a).Fits v
named_fits None v h = absurd h
named_fits (Some a) v h = (refl, ((tt, value_fits a v h), refl))

-- a class that is named has 16 bits

named_by : (b : Bool) (a : Arm) (rest : Option Arm) (P : Type 0) → (b ≡ true → P) → (is_named rest ≡ true → P)
    → is_named (cond b (Some a) rest) ≡ true → P
named_by true a rest P p q h = p refl
named_by false a rest P p q h = q h

either : (b c : Bool) (P : Type 0) → (b ≡ true → P) → (c ≡ true → P) → (b || c) ≡ true → P
either true c P p q h = p refl
either false c P p q h = q h

is_short : (class k : ℕ) → k < 2 ^ 16 → (class == k) ≡ true → class < 2 ^ 16
is_short class k small e = subst (λ (n : ℕ). n < 2 ^ 16) (sym (eqb-true class k e)) small

abbrev short : ℕ → Type 0
short class = class < 2 ^ 16

set_short : (s : Subject) (class : ℕ) → is_named (set_arm s class) ≡ true → short class
set_short subject.Domain class =
    named_by (class == 4) arm.Text None (short class) (is_short class 4 (lit< tt)) (λ e. absurd (cc e))
set_short subject.Group class =
    named_by ((class == 2) || (class == 4)) arm.Text _ (short class)
    (either (class == 2) (class == 4) (short class) (is_short class 2 (lit< tt)) (is_short class 4 (lit< tt)))
    (named_by (class == 3) arm.Number None (short class) (is_short class 3 (lit< tt)) (λ e. absurd (cc e)))
set_short subject.Alias class =
    named_by ((class == 2) || (class == 3)) arm.Text None (short class)
    (either (class == 2) (class == 3) (short class) (is_short class 2 (lit< tt)) (is_short class 3 (lit< tt)))
    (λ e. absurd (cc e))
set_short subject.User class =
    named_by ((class == 7) || (class == 8) || (class == 13)) arm.Text _ (short class)
    (either ((class == 7) || (class == 8)) (class == 13) (short class)
    (either (class == 7) (class == 8) (short class) (is_short class 7 (lit< tt)) (is_short class 8 (lit< tt)))
    (is_short class 13 (lit< tt)))
    (named_by ((class == 9) || (class == 16)) arm.Number None (short class)
    (either (class == 9) (class == 16) (short class) (is_short class 9 (lit< tt)) (is_short class 16 (lit< tt)))
    (λ e. absurd (cc e)))
set_short subject.Policy class = λ e. absurd (cc e)

shown_short : (s : Subject) (class : ℕ) → is_named (shown_arm s class) ≡ true → short class
shown_short subject.Domain class =
    named_by (class == 5) arm.Text _ (short class) (is_short class 5 (lit< tt)) (set_short subject.Domain class)
shown_short subject.Group class =
    named_by (class == 1) arm.Group _ (short class) (is_short class 1 (lit< tt)) (set_short subject.Group class)
shown_short subject.Alias class =
    named_by (class == 1) arm.Alias _ (short class) (is_short class 1 (lit< tt)) (set_short subject.Alias class)
shown_short subject.User class =
    named_by (class == 1) arm.User _ (short class) (is_short class 1 (lit< tt))
    (named_by (class == 6) arm.TwoTexts _ (short class) (is_short class 6 (lit< tt)) (set_short subject.User class))
shown_short subject.Policy class =
    named_by ((class == 3) || (class == 5)) arm.Place None (short class)
    (either (class == 3) (class == 5) (short class) (is_short class 3 (lit< tt)) (is_short class 5 (lit< tt)))
    (λ e. absurd (cc e))

-- ---- a class and what it shows

abbrev ShownTo : Subject → ℕ × Info → Type 0
ShownTo s x = IsOfArm (shown_arm s x.0) x.1

shown_fit : (s : Subject) (x : ℕ × Info) → ShownTo s x → (value_shown s).Fits x
shown_fit s x h = let f = named_fits (shown_arm s x.0) x.1 h in ((shown_short s x.0 f.0, f.0), f.1)

shown_kind : (s : Subject) (x : ℕ × Info) → (value_shown s).Fits x → ShownTo s x
shown_kind s x h = named_kind (shown_arm s x.0) x.1 h.0.1 h.1

to_shown : (s : Subject) → Has (pointer_to (value_shown s)) (IfThere (ShownTo s))
to_shown s = pointer_has (value_shown s) (shown_fit s) (shown_kind s) (value_shown_complete s)

pub class_kind : (s : Subject) (class : ℕ) (v : Option Info) → (class_shown s).Fits (class, v) → IsShown s class v
unfolding class_shown
class_kind s class None h = sym (ap (λ (x : ℕ × Option Info). x.0) h.1)
class_kind s class (Some v) h = whole_kind (pointer_to (value_shown s)) (to_shown s) (Some (class, v)) h.0

-- no value
abbrev no_value : Option Info
no_value = None

pub class_fits : (s : Subject) (class : ℕ) (v : Option Info) → IsShown s class v → (class_shown s).Fits (class, v)
unfolding class_shown
class_fits s class None h =
    (whole_fits (pointer_to (value_shown s)) (to_shown s) None tt, ap (λ (n : ℕ). (n, no_value)) (sym h))
class_fits s class (Some v) h = (whole_fits (pointer_to (value_shown s)) (to_shown s) (Some (class, v)) h, refl)

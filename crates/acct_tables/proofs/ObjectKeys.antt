-- Objects with one key are one
use Rattle.std.proofs.Common.{◌≡◌, ℕ, ◌==◌, true, List, ◌∷◌, refl, ap, ◌∙◌, arith}
use Rattle.std.specs.Cmp.{first_so, second_so}
use Rattle.std.proofs.lemmas.Bool.Decides.{nat_tests}
use Rattle.dtyp_sid.specs.Sids.{SidValue}
use Rattle.dtyp_sid.proofs.Equal.{equal_sids}
use Rattle.acct_tables.specs.Keys.{same_object, object_key}
use Rattle.acct_tables.specs.declared.object.Object.{Object}
use Rattle.acct_tables.specs.declared.object.Object.TheVariants.{Server, Domain, Group, Alias, User, Policy, Account}

alike : (m n : ℕ) → (m == n) ≡ true → m ≡ n
alike m n e = grind (arith, nat_tests)

abbrev sid_made : ℕ → List ℕ → SidValue
sid_made authority subs = record { authority = authority; subs = subs }

sid_again : (a b : SidValue) → a.authority ∷ a.subs ≡ b.authority ∷ b.subs → a ≡ b
sid_again a b key =
    let authority : a.authority ≡ b.authority = cc in
    let subs : a.subs ≡ b.subs = cc in
    ap (λ n. sid_made n a.subs) authority ∙ ap (sid_made b.authority) subs

pub one_object : (x y : Object) → object_key x ≡ object_key y → x ≡ y
one_object Server Server e = refl
one_object (Domain a) (Domain b) e = ap (λ n. Domain n) (cc)
one_object (Group a) (Group b) e = ap (λ n. Group n) (cc)
one_object (Alias a i) (Alias b j) e =
    let domain : a ≡ b = cc in
    let rid : i ≡ j = cc in
    ap (λ n. Alias n i) domain ∙ ap (λ n. Alias b n) rid
one_object (User a) (User b) e = ap (λ n. User n) (cc)
one_object Policy Policy e = refl
one_object (Account a) (Account b) e = ap (λ s. Account s) (sid_again a b (cc))
one_object x y e = cc

pub same_object_is : (x y : Object) → same_object x y ≡ true → x ≡ y
same_object_is Server Server e = refl
same_object_is (Domain a) (Domain b) e = ap (λ n. Domain n) (alike a b e)
same_object_is (Group a) (Group b) e = ap (λ n. Group n) (alike a b e)
same_object_is (Alias a i) (Alias b j) e =
    ap (λ n. Alias n i) (alike a b (first_so _ _ e)) ∙ ap (λ n. Alias b n) (alike i j (second_so _ _ e))
same_object_is (User a) (User b) e = ap (λ n. User n) (alike a b e)
same_object_is Policy Policy e = refl
same_object_is (Account a) (Account b) e = ap (λ s. Account s) ((equal_sids a b).0.0 e)
same_object_is x y e = cc

pub same_object_key : (x y : Object) → same_object x y ≡ true → object_key x ≡ object_key y
same_object_key x y e = ap object_key (same_object_is x y e)

itself : (n : ℕ) → (n == n) ≡ true
itself n = grind (arith, nat_tests)

pub same_object_itself : (x : Object) → same_object x x ≡ true
same_object_itself Server = refl
same_object_itself (Domain n) = itself n
same_object_itself (Group i) = itself i
same_object_itself (Alias n i) = rw (itself n, itself i) refl
same_object_itself (User i) = itself i
same_object_itself Policy = refl
same_object_itself (Account sid) = (equal_sids sid sid).0.1 refl

-- What an operation opens is there, and look-ups and openings change no row.
use Rattle.std.proofs.Common.{◌≡◌, ℕ, Bool, true, false, not, cond, All, List, [], ◌∷◌, Option, Some, None}
use Rattle.std.proofs.Common.{is_some, refl, sym, ap, subst, ◌∙◌, arith}
use Rattle.std.specs.Prelude.{◌&&◌}
use Rattle.std.specs.List.{find}
use Rattle.std.proofs.lemmas.Bool.Decides.{nat_tests}
use Rattle.std.proofs.lemmas.List.Elements.{All-head, All-tail}
use Rattle.acct_calls.specs.declared.replies.Outs.{Outs}
use Rattle.acct_codes.specs.declared.kind.Kind.{Kind}
use Rattle.acct_codes.specs.declared.kind.Kind.TheVariants as kind
use Rattle.acct_rows.specs.Laws.{EachIsGood}
use Rattle.acct_rows.specs.Rows.{exists, Lists, domain_at, account_at, is_of}
use Rattle.acct_tables.specs.Selected.{same_kind}
use Rattle.acct_rows.specs.Sound.{IsSoundRows}
use Rattle.acct_tables.specs.Good.{good_place}
use Rattle.acct_tables.specs.declared.object.Object.{Object}
use Rattle.acct_tables.specs.declared.object.Object.TheVariants.{Domain, Group, User}
use Rattle.acct_tables.specs.declared.row.AccountRow.{AccountRow}
use Rattle.acct_tables.specs.declared.row.DomainRow.{DomainRow}
use Rattle.acct_rules.specs.Operations.{Keeps}
use Rattle.acct_rules.specs.Planned.{answers, opens}
use Rattle.dtyp_sid.specs.Sids.{SidValue}
use Rattle.samr_objects.specs.Domains.{domain_of_sid, has_sid, number_of}

-- ---- plans

pub answers-keep : (r : Lists) (status : ℕ) (out : Outs) → IsSoundRows r → Keeps r (answers status out)
answers-keep r status out sound = record { sound = sound; stays = λ x was other. was; opens = λ opening is. cc }

pub opens-keep : (r : Lists) (object : Object) (desired : ℕ) → IsSoundRows r → exists r object ≡ true
    → Keeps r (opens object desired)
opens-keep r object desired sound there = record {
  sound = sound;
  stays = λ x was other. was;
  opens = λ opening is.
      let same : opening.object ≡ object = cc in
      let e : exists r opening.object ≡ exists r object = cc in
      cc;
}

-- ---- conditions

-- the one condition doesn't fail
pub holds : (b : Bool) → (not (not b) && true) ≡ true → b ≡ true
holds true h = refl
holds false h = cc

-- ---- domains

-- a domain that was found stands at its number
abbrev there-at : (r : Lists) (d : Option DomainRow) → Type 0
there-at r None = Unit {0}
there-at r (Some d) = domain_at r d.number ≡ Some d

pick : (r : Lists) (b : Bool) (x : DomainRow) (rest : Option DomainRow) → domain_at r x.number ≡ Some x
    → there-at r rest → there-at r (cond b (Some x) rest)
pick r true x rest here later = here
pick r false x rest here later = later

find-stands : (r : Lists) (p : DomainRow → Bool) (xs : List DomainRow)
    → All (λ (d : DomainRow). domain_at r d.number ≡ Some d) xs → there-at r (find p xs)
find-stands r p [] all = tt
find-stands r p (x ∷ xs) all =
    pick r (p x) x (find p xs) (All-head (λ (d : DomainRow). domain_at r d.number ≡ Some d) x xs all)
    (find-stands r p xs (All-tail (λ (d : DomainRow). domain_at r d.number ≡ Some d) x xs all))

sid-stands : (r : Lists) (sid : Option SidValue) → All (λ (d : DomainRow). domain_at r d.number ≡ Some d) r.domains
    → there-at r (domain_of_sid r sid)
sid-stands r None all = tt
sid-stands r (Some sid) all = find-stands r (has_sid sid) r.domains all

number-there : (r : Lists) (d : Option DomainRow) → there-at r d → is_some d ≡ true
    → exists r (Domain (number_of d)) ≡ true
number-there r None at some = cc
number-there r (Some d) at some = ap is_some at

pub domain-there : EachIsGood → (r : Lists) (sid : Option SidValue) → IsSoundRows r
    → is_some (domain_of_sid r sid) ≡ true → exists r (Domain (number_of (domain_of_sid r sid))) ≡ true
domain-there each r sid sound some =
    number-there r (domain_of_sid r sid) (sid-stands r sid (λ k d lt. ((each r sound).domains k d lt).0)) some

-- ---- accounts

-- an account of a kind that only the account domain has stands there
zero : (n : ℕ) (k : Kind) → good_place n k ≡ true → same_kind kind.Alias k ≡ false → n ≡ 0
zero n k place other = grind (arith, nat_tests)

in-account-domain : EachIsGood → (r : Lists) (k : Kind) (domain rid : ℕ) (a : AccountRow) → IsSoundRows r
    → account_at r domain rid ≡ Some a → same_kind kind.Alias a.kind ≡ false → domain ≡ 0
in-account-domain each r k domain rid a sound there other =
    sym ((each r sound).account_domain domain rid a there)
    ∙ zero a.domain a.kind (sound.account_rules domain rid a there).itself.place other

user-alone : (k : Kind) → same_kind kind.User k ≡ true → same_kind kind.Alias k ≡ false
user-alone kind.User h = refl
user-alone kind.Server h = cc
user-alone kind.Domain h = cc
user-alone kind.Group h = cc
user-alone kind.Alias h = cc
user-alone kind.Policy h = cc
user-alone kind.Account h = cc

group-alone : (k : Kind) → same_kind kind.Group k ≡ true → same_kind kind.Alias k ≡ false
group-alone kind.Group h = refl
group-alone kind.Server h = cc
group-alone kind.Domain h = cc
group-alone kind.User h = cc
group-alone kind.Alias h = cc
group-alone kind.Policy h = cc
group-alone kind.Account h = cc

moved-to : (r : Lists) (k : Kind) (domain rid : ℕ) → domain ≡ 0 → is_of k (account_at r domain rid) ≡ true
    → is_of k (account_at r 0 rid) ≡ true
moved-to r k domain rid zero there = subst (λ n. is_of k (account_at r n rid) ≡ true) zero there

group-in : EachIsGood → (r : Lists) (domain rid : ℕ) (o : Option AccountRow) → IsSoundRows r
    → account_at r domain rid ≡ o → is_of kind.Group o ≡ true → domain ≡ 0
group-in each r domain rid None sound there is = cc
group-in each r domain rid (Some a) sound there is =
    in-account-domain each r kind.Group domain rid a sound there (group-alone a.kind is)

user-in : EachIsGood → (r : Lists) (domain rid : ℕ) (o : Option AccountRow) → IsSoundRows r
    → account_at r domain rid ≡ o → is_of kind.User o ≡ true → domain ≡ 0
user-in each r domain rid None sound there is = cc
user-in each r domain rid (Some a) sound there is =
    in-account-domain each r kind.User domain rid a sound there (user-alone a.kind is)

pub group-there : EachIsGood → (r : Lists) (domain rid : ℕ) → IsSoundRows r
    → is_of kind.Group (account_at r domain rid) ≡ true → exists r (Group rid) ≡ true
group-there each r domain rid sound is =
    moved-to r kind.Group domain rid (group-in each r domain rid (account_at r domain rid) sound refl is) is

pub user-there : EachIsGood → (r : Lists) (domain rid : ℕ) → IsSoundRows r
    → is_of kind.User (account_at r domain rid) ≡ true → exists r (User rid) ≡ true
user-there each r domain rid sound is =
    moved-to r kind.User domain rid (user-in each r domain rid (account_at r domain rid) sound refl is) is

-- What a domain or an account shows of a class has the shape that the class has in a reply, and it shows each class of
-- its kind.
use Rattle.std.proofs.Common.{◌≡◌, ℕ, ◌==◌, Bool, true, false, not, cond, [], ◌∷◌, Option}
use Rattle.std.proofs.Common.{Some, None, is_some, refl, sym, subst, ◌∙◌, arith, lit<}
use Rattle.std.specs.Prelude.{◌&&◌, ◌||◌}
use Rattle.std.proofs.lemmas.Bool.Decides.{nat_tests}
use Rattle.acct_calls.specs.declared.calls.Args.{Args}
use Rattle.acct_calls.specs.declared.info.Info.{Info}
use Rattle.acct_codes.specs.declared.kind.Kind.{Kind}
use Rattle.acct_codes.specs.declared.kind.Kind.TheVariants as kind
use Rattle.acct_layouts.specs.Values.{IsLong, IsText, IfThere, shown_arm, IsOfArm}
use Rattle.acct_layouts.specs.ReplyShapes.{HasShape, IsShown}
use Rattle.acct_layouts.specs.Table.{samr_layout, lsa_layout}
use Rattle.acct_layouts.specs.declared.classes.Arm.TheVariants as arm
use Rattle.acct_layouts.specs.declared.classes.Subject.{Subject}
use Rattle.acct_layouts.specs.declared.classes.Subject.TheVariants as subject
use Rattle.acct_rows.specs.Laws.{EachIsGood}
use Rattle.acct_tables.specs.Keys.{domain_of, rid_of}
use Rattle.acct_rows.specs.Rows.{Lists, HasRoom, domain_at, account_at, is_of}
use Rattle.acct_tables.specs.Selected.{same_kind, is_in_group, is_in_alias}
use Rattle.acct_rows.specs.Sound.{IsSoundRows, IsGoodAccount}
use Rattle.acct_tables.specs.Good.{IsGoodDomain, good_primary}
use Rattle.acct_tables.specs.declared.object.Object.{Object}
use Rattle.acct_tables.specs.declared.row.AccountRow.{AccountRow}
use Rattle.acct_tables.specs.declared.row.DomainRow.{DomainRow}
use Rattle.acct_rules.specs.Asked.{class_of}
use Rattle.acct_rules.specs.Operations.{IsRight}
use Rattle.samr_objects.specs.Laws.{ShowsItsClasses}
use Rattle.samr_objects.specs.Settings.{Classes, domain_classes, group_classes, alias_classes, user_classes}
use Rattle.samr_objects.specs.Settings.{member_count, alias_member_count, value_of, shown_by, account_of}
use Rattle.samr_objects.specs.Table.{query_information_domain, query_information_domain2, query_information_group}
use Rattle.samr_objects.specs.Table.{query_information_alias, query_information_user, query_information_user2}
use Rattle.samr_objects.proofs.Keeping.{holds}
use Rattle.samr_objects.proofs.Listing.{filter-few}
use Rattle.samr_objects.proofs.Shaping.{account-long, name-text, rid-good, at-good, listed-good}

-- ---- a value of a table of classes

abbrev AreOfArms : Subject → Classes → Type 0
AreOfArms s [] = Unit {0}
AreOfArms s (c ∷ cs) = IsOfArm (shown_arm s c.0) c.1 × AreOfArms s cs

beside : (b : Bool) (s : Subject) (class n : ℕ) (value : Info) (rest : Option Info) → (class == n) ≡ b
    → IsOfArm (shown_arm s n) value → IfThere (IsOfArm (shown_arm s class)) rest
    → IfThere (IsOfArm (shown_arm s class)) (cond b (Some value) rest)
beside true s class n value rest is here later =
    let same : class ≡ n = grind (arith, nat_tests) in
    subst (λ m. IsOfArm (shown_arm s m) value) (sym same) here
beside false s class n value rest is here later = later

value-shaped : (s : Subject) (class : ℕ) (cs : Classes) → AreOfArms s cs
    → IfThere (IsOfArm (shown_arm s class)) (value_of class cs)
value-shaped s class [] all = tt
value-shaped s class (c ∷ cs) all =
    beside (class == c.0) s class c.0 c.1 (value_of class cs) refl all.0 (value-shaped s class cs all.1)

row-shaped : {A : Type 0} (P : A → Type 0) (s : Subject) (classes : A → Classes)
    → ((x : A) → P x → AreOfArms s (classes x)) → (class : ℕ) (row : Option A) → IfThere P row
    → IfThere (IsOfArm (shown_arm s class)) (shown_by classes class row)
row-shaped P s classes each class None good = tt
row-shaped P s classes each class (Some x) good = value-shaped s class (classes x) (each x good)

some-shown : (s : Subject) (class : ℕ) (value : Option Info) → IfThere (IsOfArm (shown_arm s class)) value
    → is_some value ≡ true → IsShown s class value
some-shown s class None shaped some = cc
some-shown s class (Some value) shaped some = shaped

-- ---- texts and numbers of rows

full-name-text : (r : Lists) (a : AccountRow) → IsGoodAccount r a → IsText a.full_name
full-name-text r a good = (omega (arith, good.itself.full_name_most), good.itself.full_name_units)

comment-text : (r : Lists) (a : AccountRow) → IsGoodAccount r a → IsText a.comment
comment-text r a good = (omega (arith, good.itself.comment_most), good.itself.comment_units)

group-long : EachIsGood → (r : Lists) (rid : ℕ) (found : Option AccountRow) → IsSoundRows r
    → account_at r 0 rid ≡ found → is_of kind.Group found ≡ true → IsLong rid
group-long each r rid None sound at is = cc
group-long each r rid (Some a) sound at is =
    subst IsLong ((each r sound).account_rid 0 rid a at) (account-long r a sound (sound.account_rules 0 rid a at))

by-kind : (k : Kind) (primary : ℕ) → (same_kind kind.User k ≡ true → IsLong primary)
    → good_primary k primary ≡ true → IsLong primary
by-kind kind.User primary user good = user refl
by-kind _ primary user good = let zero : primary ≡ 0 = grind (arith, nat_tests) in omega arith

primary-long : EachIsGood → (r : Lists) (a : AccountRow) → IsSoundRows r → IsGoodAccount r a → IsLong a.primary
primary-long each r a sound good =
    by-kind a.kind a.primary
    (λ user. group-long each r a.primary (account_at r 0 a.primary) sound refl (good.primary_group user))
    good.itself.primary_kind

members-long : (r : Lists) (group : ℕ) → HasRoom r 0 → IsLong (member_count r group)
members-long r group few = omega (arith, filter-few (is_in_group group) r.members, few.members)

alias-members-long : (r : Lists) (domain alias : ℕ) → HasRoom r 0 → IsLong (alias_member_count r domain alias)
alias-members-long r domain alias few = omega (arith, filter-few (is_in_alias domain alias) r.aliases, few.aliases)

-- ---- what each kind shows

domain-shaped : (d : DomainRow) → IsGoodDomain d → AreOfArms subject.Domain (domain_classes d)
domain-shaped d good = ((omega (arith, good.oem_most), good.oem_units), ((listed-good d good).1, tt))

group-shaped : (r : Lists) → HasRoom r 0 → (a : AccountRow) → IsGoodAccount r a
    → AreOfArms subject.Group (group_classes r a)
group-shaped r few a good =
    let name = name-text r (Some a) good in
    let comment = comment-text r a good in
    let bits = good.itself.bits_fit in
    ((name, bits, members-long r a.rid few, comment), (name, (bits, (comment, tt))))

alias-shaped : (r : Lists) → HasRoom r 0 → (a : AccountRow) → IsGoodAccount r a
    → AreOfArms subject.Alias (alias_classes r a)
alias-shaped r few a good =
    let name = name-text r (Some a) good in
    let comment = comment-text r a good in
    ((name, alias-members-long r a.domain a.rid few, comment), (name, (comment, tt)))

user-shaped : EachIsGood → (r : Lists) → IsSoundRows r → (a : AccountRow) → IsGoodAccount r a
    → AreOfArms subject.User (user_classes a)
user-shaped each r sound a good =
    let name = name-text r (Some a) good in
    let full = full-name-text r a good in
    let comment = comment-text r a good in
    let primary = primary-long each r a sound good in
    ((name, full, primary, comment), ((name, full), (name, (full, (primary, (comment, (good.itself.bits_fit, tt)))))))

-- ---- the operations

domain-shown : (r : Lists) (number class : ℕ) → IsSoundRows r
    → is_some (shown_by domain_classes class (domain_at r number)) ≡ true
    → IsShown subject.Domain class (shown_by domain_classes class (domain_at r number))
domain-shown r number class sound some =
    some-shown subject.Domain class (shown_by domain_classes class (domain_at r number))
    (row-shaped IsGoodDomain subject.Domain domain_classes domain-shaped class (domain_at r number)
    (at-good r number (domain_at r number) sound refl))
    some

account-shown : (s : Subject) (classes : AccountRow → Classes) (r : Lists) (o : Object) (class : ℕ)
    → ((a : AccountRow) → IsGoodAccount r a → AreOfArms s (classes a)) → IsSoundRows r
    → is_some (shown_by classes class (account_of r o)) ≡ true
    → IsShown s class (shown_by classes class (account_of r o))
account-shown s classes r o class each sound some =
    some-shown s class (shown_by classes class (account_of r o))
    (row-shaped (IsGoodAccount r) s classes each class (account_of r o)
    (rid-good r (domain_of o) (rid_of o) (account_of r o) sound refl))
    some

pub query_domain-right : IsRight query_information_domain
unfolding HasShape samr_layout lsa_layout
query_domain-right = record {
  laid_out = refl;
  refuses = λ r described o asked. refl;
  succeeds = λ r described o asked. refl;
  frugal = λ r described o asked. refl;
  modest = λ r described o asked. refl;
  shaped = λ r described o call few is none.
      (lit< tt, domain-shown r (domain_of o) (class_of call.args) is.rows (holds _ none), λ refused. refl);
}

pub query_domain2-right : IsRight query_information_domain2
unfolding HasShape samr_layout lsa_layout
query_domain2-right = record {
  laid_out = refl;
  refuses = λ r described o asked. refl;
  succeeds = λ r described o asked. refl;
  frugal = λ r described o asked. refl;
  modest = λ r described o asked. refl;
  shaped = λ r described o call few is none.
      (lit< tt, domain-shown r (domain_of o) (class_of call.args) is.rows (holds _ none), λ refused. refl);
}

pub query_group-right : IsRight query_information_group
unfolding HasShape samr_layout lsa_layout
query_group-right = record {
  laid_out = refl;
  refuses = λ r described o asked. refl;
  succeeds = λ r described o asked. refl;
  frugal = λ r described o asked. refl;
  modest = λ r described o asked. refl;
  shaped = λ r described o call few is none. (
    lit< tt,
    account-shown subject.Group (group_classes r) r o (class_of call.args) (group-shaped r few) is.rows (holds _ none),
    λ refused. refl,
  );
}

pub query_alias-right : IsRight query_information_alias
unfolding HasShape samr_layout lsa_layout
query_alias-right = record {
  laid_out = refl;
  refuses = λ r described o asked. refl;
  succeeds = λ r described o asked. refl;
  frugal = λ r described o asked. refl;
  modest = λ r described o asked. refl;
  shaped = λ r described o call few is none. (
    lit< tt,
    account-shown subject.Alias (alias_classes r) r o (class_of call.args) (alias-shaped r few) is.rows (holds _ none),
    λ refused. refl,
  );
}

pub query_user-right : EachIsGood → IsRight query_information_user
unfolding HasShape samr_layout lsa_layout
query_user-right each = record {
  laid_out = refl;
  refuses = λ r described o asked. refl;
  succeeds = λ r described o asked. refl;
  frugal = λ r described o asked. refl;
  modest = λ r described o asked. refl;
  shaped = λ r described o call few is none. (
    lit< tt,
    account-shown subject.User user_classes r o (class_of call.args) (user-shaped each r is.rows) is.rows
        (holds _ none),
    λ refused. refl,
  );
}

pub query_user2-right : EachIsGood → IsRight query_information_user2
unfolding HasShape samr_layout lsa_layout
query_user2-right each = record {
  laid_out = refl;
  refuses = λ r described o asked. refl;
  succeeds = λ r described o asked. refl;
  frugal = λ r described o asked. refl;
  modest = λ r described o asked. refl;
  shaped = λ r described o call few is none. (
    lit< tt,
    account-shown subject.User user_classes r o (class_of call.args) (user-shaped each r is.rows) is.rows
        (holds _ none),
    λ refused. refl,
  );
}

-- ---- each class of a kind is shown

passes : (b : Bool) → (not (not b) && true) ≡ b
passes true = refl
passes false = refl

domain-named : (v w : Info) (a b : Bool)
    → is_some (cond a (Some v) (cond b (Some w) None))
    ≡ is_some (cond b (Some arm.Text) (cond a (Some arm.Text) None))
domain-named v w true true = refl
domain-named v w true false = refl
domain-named v w false true = refl
domain-named v w false false = refl

group-named : (v w x y : Info) (a b d c : Bool)
    → is_some (cond a (Some v) (cond b (Some w) (cond c (Some x) (cond d (Some y) None))))
    ≡ is_some (cond a (Some arm.Group) (cond (b || d) (Some arm.Text) (cond c (Some arm.Number) None)))
group-named v w x y true b d c = refl
group-named v w x y false true d c = refl
group-named v w x y false false true true = refl
group-named v w x y false false true false = refl
group-named v w x y false false false true = refl
group-named v w x y false false false false = refl

alias-named : (v w x : Info) (a b c : Bool)
    → is_some (cond a (Some v) (cond b (Some w) (cond c (Some x) None)))
    ≡ is_some (cond a (Some arm.Alias) (cond (b || c) (Some arm.Text) None))
alias-named v w x true b c = refl
alias-named v w x false true c = refl
alias-named v w x false false true = refl
alias-named v w x false false false = refl

user-named : (t u v w x y z : Info) (a b c d f e g : Bool)
    → is_some (cond a (Some t) (cond b (Some u) (cond c (Some v) (cond d (Some w) (cond e (Some x) (cond f (Some y)
    (cond g (Some z) None)))))))
    ≡ is_some (cond a (Some arm.User) (cond b (Some arm.TwoTexts) (cond (c || d || f) (Some arm.Text)
    (cond (e || g) (Some arm.Number) None))))
user-named t u v w x y z true b c d f e g = refl
user-named t u v w x y z false true c d f e g = refl
user-named t u v w x y z false false true d f e g = refl
user-named t u v w x y z false false false true f e g = refl
user-named t u v w x y z false false false false true true g = refl
user-named t u v w x y z false false false false true false g = refl
user-named t u v w x y z false false false false false true g = refl
user-named t u v w x y z false false false false false false true = refl
user-named t u v w x y z false false false false false false false = refl

domain-row : (class : ℕ) (found : Option DomainRow) → is_some found ≡ true
    → is_some (shown_by domain_classes class found) ≡ is_some (shown_arm subject.Domain class)
domain-row class None there = cc
domain-row class (Some d) there = domain-named _ _ (class == 4) (class == 5)

group-row : (r : Lists) (class : ℕ) (found : Option AccountRow) → is_of kind.Group found ≡ true
    → is_some (shown_by (group_classes r) class found) ≡ is_some (shown_arm subject.Group class)
group-row r class None there = cc
group-row r class (Some a) there = group-named _ _ _ _ (class == 1) (class == 2) (class == 4) (class == 3)

alias-row : (r : Lists) (class : ℕ) (found : Option AccountRow) → is_of kind.Alias found ≡ true
    → is_some (shown_by (alias_classes r) class found) ≡ is_some (shown_arm subject.Alias class)
alias-row r class None there = cc
alias-row r class (Some a) there = alias-named _ _ _ (class == 1) (class == 2) (class == 3)

user-row : (class : ℕ) (found : Option AccountRow) → is_of kind.User found ≡ true
    → is_some (shown_by user_classes class found) ≡ is_some (shown_arm subject.User class)
user-row class None there = cc
user-row class (Some a) there =
    user-named _ _ _ _ _ _ _ (class == 1) (class == 6) (class == 7) (class == 8) (class == 13) (class == 9)
    (class == 16)

pub shows-its-classes : (r : Lists) (asked : Args) → ShowsItsClasses r asked
shows-its-classes r asked = record {
  domain = λ number there. passes _ ∙ domain-row (class_of asked) (domain_at r number) there;
  group = λ rid there. passes _ ∙ group-row r (class_of asked) (account_at r 0 rid) there;
  alias = λ domain rid there. passes _ ∙ alias-row r (class_of asked) (account_at r domain rid) there;
  user = λ rid there. passes _ ∙ user-row (class_of asked) (account_at r 0 rid) there;
}

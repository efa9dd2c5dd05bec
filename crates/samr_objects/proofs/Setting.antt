-- Sets have their statuses and outputs, leave sound rows, and change one field of one row.
use Rattle.std.proofs.Common.{◌≡◌, ℕ, ◌^◌, ◌<◌, ◌≤◌, ◌==◌, Bool, true, false, ◌&&◌, not, cond, List}
use Rattle.std.proofs.Common.{length, Option, Some, None, is_some, refl, sym, ap, subst, ◌∙◌, arith, lit<}
use Rattle.std.specs.List.{list_all}
use Rattle.std.specs.Option.{option_map}
use Rattle.std.proofs.lemmas.Bool.Decides.{nat_tests}
use Rattle.std.proofs.lemmas.List.Elements.{All-nil}
use Rattle.acct_calls.specs.Names.{AreUnits, is_valid_name}
use Rattle.acct_calls.specs.declared.calls.Args.{Args}
use Rattle.acct_calls.specs.declared.calls.Args.TheVariants as args
use Rattle.acct_calls.specs.declared.calls.Call.{Call}
use Rattle.acct_calls.specs.declared.calls.Face.TheVariants.{Samr}
use Rattle.acct_calls.specs.declared.info.Info.{Info}
use Rattle.acct_calls.specs.declared.info.Info.TheVariants as info
use Rattle.acct_codes.specs.Limits.{most_text}
use Rattle.acct_codes.specs.Opnums.{samr_set_information_domain, samr_set_information_group}
use Rattle.acct_codes.specs.Opnums.{samr_set_information_alias, samr_set_information_user, samr_set_information_user2}
use Rattle.acct_codes.specs.declared.kind.Kind.{Kind}
use Rattle.acct_codes.specs.declared.kind.Kind.TheVariants as kind
use Rattle.acct_layouts.specs.Values.{IsLong, IsText, IfThere, set_arm}
use Rattle.acct_layouts.specs.CallShapes.{CanBeSpelled, AreArguments, IsPut}
use Rattle.acct_layouts.specs.ReplyShapes.{HasShape}
use Rattle.acct_layouts.specs.Table.{samr_layout, lsa_layout}
use Rattle.acct_layouts.specs.declared.classes.Arm.{Arm}
use Rattle.acct_layouts.specs.declared.classes.Arm.TheVariants as arm
use Rattle.acct_layouts.specs.declared.classes.Subject.{Subject}
use Rattle.acct_layouts.specs.declared.classes.Subject.TheVariants as subject
use Rattle.acct_layouts.specs.declared.fields.Fields.TheVariants as fields
use Rattle.acct_rows.specs.Laws.{EachIsGood, DomainsStaySound, ReplacedAccountsStaySound, OwnNameIsFree}
use Rattle.acct_rows.specs.Laws.{UnusedNameIsFree, NameFoundIsFree, PutsAreFound, PutsLeaveOthers, Replaces, IsFree}
use Rattle.acct_rows.specs.Rows.{exists}
use Rattle.acct_tables.specs.Keys.{kind_of, domain_of, rid_of}
use Rattle.acct_rows.specs.Rows.{Lists, domain_at, account_at, member_at, find_name, is_of, put_row, after}
use Rattle.acct_tables.specs.Selected.{same_kind}
use Rattle.acct_rows.specs.Sound.{IsSoundRows, IsGoodAccount}
use Rattle.acct_tables.specs.Good.{IsGoodDomain, control_is_good, good_bits, good_primary, is_account_kind}
use Rattle.acct_tables.specs.declared.object.Object.{Object}
use Rattle.acct_tables.specs.declared.object.Object.TheVariants as objects
use Rattle.acct_tables.specs.declared.row.AccountRow.{AccountRow}
use Rattle.acct_tables.specs.declared.row.DomainRow.{DomainRow}
use Rattle.acct_tables.specs.declared.row.Row.TheVariants as rows
use Rattle.acct_rules.specs.Asked.{class_of, put_text, put_number, or_empty}
use Rattle.acct_rules.specs.Operations.{IsRight, KeepsRows, Keeps, is_condition_status}
use Rattle.acct_rules.specs.Planned.{Condition, none_fails, puts}
use Rattle.samr_objects.specs.Laws.{AccountIsSet, DomainIsSet, SetsAccount, SetsDomain}
use Rattle.samr_objects.specs.Accounts.{is_invalid_name, holder, is_another, exists_as, exists_status, is_too_long}
use Rattle.samr_objects.specs.Settings.{set_field, sets_oem, field_conditions, with_field, with_oem, account_puts}
use Rattle.samr_objects.specs.Settings.{domain_puts}
use Rattle.samr_objects.specs.Table.{set_information_domain, set_information_group, set_information_alias}
use Rattle.samr_objects.specs.Table.{set_information_user, set_information_user2}
use Rattle.samr_objects.specs.declared.settings.Field.{Field}
use Rattle.samr_objects.specs.declared.settings.Field.TheVariants as field
use Rattle.samr_objects.proofs.Asking.{arguments}
use Rattle.samr_objects.proofs.Modest.{modest-set, modest-domain}
use Rattle.samr_objects.proofs.Deleting.{account-there, is-account, kind-there, one-kind, first-holds, second-holds}

-- ---- statuses and outputs

exists-refuses : (o : Option AccountRow) → is_condition_status (exists_status o) ≡ true
exists-refuses None = refl
exists-refuses (Some a) = elim a.kind as (λ k. is_condition_status (exists_as k) ≡ true) [
  | kind.Server ↦ refl
  | kind.Domain ↦ refl
  | kind.Group ↦ refl
  | kind.Alias ↦ refl
  | kind.User ↦ refl
  | kind.Policy ↦ refl
  | kind.Account ↦ refl
]

field-refuses : (r : Lists) (k : Kind) (object : Object) (asked : Args) (f : Option Field)
    → list_all (λ (c : Condition). is_condition_status c.status) (field_conditions r k object asked f) ≡ true
field-refuses r k object asked None = refl
field-refuses r k object asked (Some field.Name) =
    ap (λ b. b && true) (exists-refuses (holder r (domain_of object) (put_text asked)))
field-refuses r k object asked (Some field.FullName) = refl
field-refuses r k object asked (Some field.Comment) = refl
field-refuses r k object asked (Some field.Attributes) = refl
field-refuses r k object asked (Some field.Control) = refl
field-refuses r k object asked (Some field.Primary) = refl

pub set_domain-right : IsRight set_information_domain
unfolding HasShape samr_layout lsa_layout
set_domain-right = record {
  laid_out = refl;
  refuses = λ r described object asked. refl;
  succeeds = λ r described object asked. refl;
  frugal = λ r described object asked. refl;
  modest = λ r described object asked. modest-domain asked (domain_at r (domain_of object));
  shaped = λ r described object call few is none. (lit< tt, tt, λ refused. refl);
}

pub set_group-right : IsRight set_information_group
unfolding HasShape samr_layout lsa_layout
set_group-right = record {
  laid_out = refl;
  refuses = λ r described object asked. field-refuses r kind.Group object asked (set_field kind.Group (class_of asked));
  succeeds = λ r described object asked. refl;
  frugal = λ r described object asked. refl;
  modest = λ r described object asked. modest-set (set_field kind.Group (class_of asked)) asked
      (account_at r (domain_of object) (rid_of object));
  shaped = λ r described object call few is none. (lit< tt, tt, λ refused. refl);
}

pub set_alias-right : IsRight set_information_alias
unfolding HasShape samr_layout lsa_layout
set_alias-right = record {
  laid_out = refl;
  refuses = λ r described object asked. field-refuses r kind.Alias object asked (set_field kind.Alias (class_of asked));
  succeeds = λ r described object asked. refl;
  frugal = λ r described object asked. refl;
  modest = λ r described object asked. modest-set (set_field kind.Alias (class_of asked)) asked
      (account_at r (domain_of object) (rid_of object));
  shaped = λ r described object call few is none. (lit< tt, tt, λ refused. refl);
}

pub set_user-right : IsRight set_information_user
unfolding HasShape samr_layout lsa_layout
set_user-right = record {
  laid_out = refl;
  refuses = λ r described object asked. field-refuses r kind.User object asked (set_field kind.User (class_of asked));
  succeeds = λ r described object asked. refl;
  frugal = λ r described object asked. refl;
  modest = λ r described object asked. modest-set (set_field kind.User (class_of asked)) asked
      (account_at r (domain_of object) (rid_of object));
  shaped = λ r described object call few is none. (lit< tt, tt, λ refused. refl);
}

pub set_user2-right : IsRight set_information_user2
unfolding HasShape samr_layout lsa_layout
set_user2-right = record {
  laid_out = refl;
  refuses = λ r described object asked. field-refuses r kind.User object asked (set_field kind.User (class_of asked));
  succeeds = λ r described object asked. refl;
  frugal = λ r described object asked. refl;
  modest = λ r described object asked. modest-set (set_field kind.User (class_of asked)) asked
      (account_at r (domain_of object) (rid_of object));
  shaped = λ r described object call few is none. (lit< tt, tt, λ refused. refl);
}

-- ---- what is asked for: a text of units, and a number of 32 bits

pub record AsksPut (a : Args) : Type 0 where
  pub text : IfThere IsText (put_text a)
  pub number : IsLong (put_number a)

number-long : (s : Option Arm) (n : ℕ) → IsPut s (info.Number n) → IsLong n
number-long None n h = cc
number-long (Some arm.Number) n h = h
number-long (Some arm.Text) n h = absurd h
number-long (Some arm.TwoTexts) n h = absurd h
number-long (Some arm.Group) n h = absurd h
number-long (Some arm.Alias) n h = absurd h
number-long (Some arm.User) n h = absurd h
number-long (Some arm.Place) n h = absurd h

text-good : (s : Option Arm) (t : List ℕ) → IsPut s (info.Text t) → IsText t
text-good None t h = cc
text-good (Some arm.Number) t h = absurd h
text-good (Some arm.Text) t h = h
text-good (Some arm.TwoTexts) t h = absurd h
text-good (Some arm.Group) t h = absurd h
text-good (Some arm.Alias) t h = absurd h
text-good (Some arm.User) t h = absurd h
text-good (Some arm.Place) t h = absurd h

value-asks : (s : Option Arm) (class : ℕ) (value : Info) → IsPut s value → AsksPut (args.Put class value)
value-asks s class (info.Number n) h = record { text = tt; number = number-long s n h }
value-asks s class (info.Text t) h = record { text = text-good s t h; number = lit< tt }
value-asks s class value h = record { text = tt; number = lit< tt }

asks-put : (s : Subject) (a : Args) → AreArguments (fields.Put s) a → AsksPut a
asks-put s (args.Put class value) h = value-asks (set_arm s class) class value h.1
asks-put s a h = record { text = tt; number = lit< tt }

domain-asks : (call : Call) → call.face ≡ Samr → call.opnum ≡ samr_set_information_domain → CanBeSpelled call
    → AsksPut call.args
unfolding samr_layout
domain-asks call face opnum spelled =
    asks-put subject.Domain call.args (arguments call Samr samr_set_information_domain face opnum spelled).1

group-asks : (call : Call) → call.face ≡ Samr → call.opnum ≡ samr_set_information_group → CanBeSpelled call
    → AsksPut call.args
unfolding samr_layout
group-asks call face opnum spelled =
    asks-put subject.Group call.args (arguments call Samr samr_set_information_group face opnum spelled).1

alias-asks : (call : Call) → call.face ≡ Samr → call.opnum ≡ samr_set_information_alias → CanBeSpelled call
    → AsksPut call.args
unfolding samr_layout
alias-asks call face opnum spelled =
    asks-put subject.Alias call.args (arguments call Samr samr_set_information_alias face opnum spelled).1

user-asks : (call : Call) → call.face ≡ Samr → call.opnum ≡ samr_set_information_user → CanBeSpelled call
    → AsksPut call.args
unfolding samr_layout
user-asks call face opnum spelled =
    asks-put subject.User call.args (arguments call Samr samr_set_information_user face opnum spelled).1

user2-asks : (call : Call) → call.face ≡ Samr → call.opnum ≡ samr_set_information_user2 → CanBeSpelled call
    → AsksPut call.args
unfolding samr_layout
user2-asks call face opnum spelled =
    asks-put subject.User call.args (arguments call Samr samr_set_information_user2 face opnum spelled).1

text-units : (o : Option (List ℕ)) → IfThere IsText o → AreUnits (or_empty o)
text-units None text = All-nil (λ unit. unit < 2 ^ 16)
text-units (Some t) text = text.1

text-most : (o : Option (List ℕ)) → is_too_long o ≡ false → length (or_empty o) ≤ most_text
text-most None short = omega arith
text-most (Some t) short = grind (arith, nat_tests)

-- ---- conditions

not-true : (b : Bool) → not b ≡ false → b ≡ true
not-true true h = refl
not-true false h = cc

one-rid : (m n : ℕ) → not (m == n) ≡ false → m ≡ n
one-rid m n h = grind (arith, nat_tests)

-- ---- a row with a field set

module _ (own : OwnNameIsFree) (unused : UnusedNameIsFree) (found : NameFoundIsFree) (r : Lists) (sound : IsSoundRows r)
    (old : AccountRow) (there : account_at r old.domain old.rid ≡ Some old) where
  good : IsGoodAccount r old
  good = sound.account_rules old.domain old.rid old there

  free-by : (name : List ℕ) (o : Option AccountRow) → find_name r old.domain name ≡ o
      → is_another (Some old.rid) o ≡ false → IsFree r (record old { name = name })
  free-by name None is another = unused r (record old { name = name }) is
  free-by name (Some b) is another =
      found r (record old { name = name }) b sound is (one-rid b.rid old.rid another)

  name-set : (o : Option (List ℕ)) → IfThere IsText o → is_invalid_name old.kind o ≡ false
      → is_another (Some old.rid) (holder r old.domain o) ≡ false → Replaces r old (record old { name = or_empty o })
  name-set None text valid another = cc
  name-set (Some name) text valid another = record {
    there = there;
    kind = refl;
    good = record {
      name_units = text.1;
      full_name_units = good.itself.full_name_units;
      comment_units = good.itself.comment_units;
      bits_fit = good.itself.bits_fit;
      kind_known = good.itself.kind_known;
      place = good.itself.place;
      named = not-true (is_valid_name old.kind name) valid;
      full_name_most = good.itself.full_name_most;
      comment_most = good.itself.comment_most;
      control = good.itself.control;
      primary_kind = good.itself.primary_kind;
    };
    free = free-by name (find_name r old.domain name) refl another;
    primary_group = good.primary_group;
    primary_member = good.primary_member;
  }

  full_name-set : (o : Option (List ℕ)) → IfThere IsText o → is_too_long o ≡ false
      → Replaces r old (record old { full_name = or_empty o })
  full_name-set o text short = record {
    there = there;
    kind = refl;
    good = record {
      name_units = good.itself.name_units;
      full_name_units = text-units o text;
      comment_units = good.itself.comment_units;
      bits_fit = good.itself.bits_fit;
      kind_known = good.itself.kind_known;
      place = good.itself.place;
      named = good.itself.named;
      full_name_most = text-most o short;
      comment_most = good.itself.comment_most;
      control = good.itself.control;
      primary_kind = good.itself.primary_kind;
    };
    free = own r old (record old { full_name = or_empty o }) sound there refl;
    primary_group = good.primary_group;
    primary_member = good.primary_member;
  }

  comment-set : (o : Option (List ℕ)) → IfThere IsText o → is_too_long o ≡ false
      → Replaces r old (record old { comment = or_empty o })
  comment-set o text short = record {
    there = there;
    kind = refl;
    good = record {
      name_units = good.itself.name_units;
      full_name_units = good.itself.full_name_units;
      comment_units = text-units o text;
      bits_fit = good.itself.bits_fit;
      kind_known = good.itself.kind_known;
      place = good.itself.place;
      named = good.itself.named;
      full_name_most = good.itself.full_name_most;
      comment_most = text-most o short;
      control = good.itself.control;
      primary_kind = good.itself.primary_kind;
    };
    free = own r old (record old { comment = or_empty o }) sound there refl;
    primary_group = good.primary_group;
    primary_member = good.primary_member;
  }

  bits-set : (n : ℕ) → IsLong n → good_bits old.kind n ≡ true → Replaces r old (record old { bits = n })
  bits-set n long allowed = record {
    there = there;
    kind = refl;
    good = record {
      name_units = good.itself.name_units;
      full_name_units = good.itself.full_name_units;
      comment_units = good.itself.comment_units;
      bits_fit = long;
      kind_known = good.itself.kind_known;
      place = good.itself.place;
      named = good.itself.named;
      full_name_most = good.itself.full_name_most;
      comment_most = good.itself.comment_most;
      control = allowed;
      primary_kind = good.itself.primary_kind;
    };
    free = own r old (record old { bits = n }) sound there refl;
    primary_group = good.primary_group;
    primary_member = good.primary_member;
  }

  primary-set : (n : ℕ) → good_primary old.kind n ≡ true → is_of kind.Group (account_at r 0 n) ≡ true
      → is_some (member_at r n old.rid) ≡ true → Replaces r old (record old { primary = n })
  primary-set n allowed group member = record {
    there = there;
    kind = refl;
    good = record {
      name_units = good.itself.name_units;
      full_name_units = good.itself.full_name_units;
      comment_units = good.itself.comment_units;
      bits_fit = good.itself.bits_fit;
      kind_known = good.itself.kind_known;
      place = good.itself.place;
      named = good.itself.named;
      full_name_most = good.itself.full_name_most;
      comment_most = good.itself.comment_most;
      control = good.itself.control;
      primary_kind = allowed;
    };
    free = own r old (record old { primary = n }) sound there refl;
    primary_group = λ user. group;
    primary_member = λ user. member;
  }

-- ---- which fields an account of a kind has

abbrev fits : Kind → Option Field → Type 0
fits k (Some field.Attributes) = k ≡ kind.Group
fits k (Some field.Control) = k ≡ kind.User
fits k (Some field.Primary) = k ≡ kind.User
fits k _ = Unit {0}

one-of : (k : Kind) (b : Bool) (f rest : Option Field) → fits k f → fits k rest → fits k (cond b f rest)
one-of k true f rest here later = here
one-of k false f rest here later = later

set-fits : (k : Kind) (class : ℕ) → fits k (set_field k class)
set-fits kind.Group class =
    one-of kind.Group (class == 2) (Some field.Name) _ tt
    (one-of kind.Group (class == 3) (Some field.Attributes) _ refl
    (one-of kind.Group (class == 4) (Some field.Comment) None tt tt))
set-fits kind.Alias class =
    one-of kind.Alias (class == 2) (Some field.Name) _ tt
    (one-of kind.Alias (class == 3) (Some field.Comment) None tt tt)
set-fits kind.User class =
    one-of kind.User (class == 7) (Some field.Name) _ tt
    (one-of kind.User (class == 8) (Some field.FullName) _ tt
    (one-of kind.User (class == 9) (Some field.Primary) _ refl
    (one-of kind.User (class == 13) (Some field.Comment) _ tt
    (one-of kind.User (class == 16) (Some field.Control) None refl tt))))
set-fits kind.Server class = tt
set-fits kind.Domain class = tt
set-fits kind.Policy class = tt
set-fits kind.Account class = tt

-- ---- accounts

-- the account that is set: its row, which stands at its key and is of its kind
pub record IsThere (r : Lists) (k : Kind) (object : Object) (old : AccountRow) : Type 0 where
  pub found : account_at r (domain_of object) (rid_of object) ≡ Some old
  pub domain : old.domain ≡ domain_of object
  pub rid : old.rid ≡ rid_of object
  pub kind : old.kind ≡ k

pub stands : (r : Lists) (k : Kind) (object : Object) (old : AccountRow) → IsThere r k object old
    → account_at r old.domain old.rid ≡ Some old
stands r k object old is =
    subst (λ n. account_at r n old.rid ≡ Some old) (sym is.domain)
    (subst (λ i. account_at r (domain_of object) i ≡ Some old) (sym is.rid) is.found)

kind-of : (k : Kind) (o : Option AccountRow) (a : AccountRow) → o ≡ Some a → is_of k o ≡ true → a.kind ≡ k
kind-of k None a is of = cc
kind-of k (Some b) a is of = let same : b ≡ a = cc in
    ap (λ (x : AccountRow). x.kind) (sym same) ∙ sym (one-kind k b.kind of)

is-there : EachIsGood → (r : Lists) (k : Kind) (object : Object) → IsSoundRows r → is_account_kind k ≡ true
    → exists r object ≡ true → same_kind k (kind_of object) ≡ true → (old : AccountRow) × IsThere r k object old
is-there each r k object sound account there taken =
    let kind-account = is-account k object account taken in
    let a = account-there r object kind-account there in (
      a.0,
      record {
        found = a.1;
        domain = (each r sound).account_domain (domain_of object) (rid_of object) a.0 a.1;
        rid = (each r sound).account_rid (domain_of object) (rid_of object) a.0 a.1;
        kind =
            kind-of (kind_of object) (account_at r (domain_of object) (rid_of object)) a.0 a.1
            (kind-there r object kind-account there)
            ∙ sym (one-kind k (kind_of object) taken);
      },
    )

field-set : OwnNameIsFree → UnusedNameIsFree → NameFoundIsFree → (r : Lists) (k : Kind) (object : Object) (asked : Args)
    (old : AccountRow) → IsSoundRows r → IsThere r k object old → AsksPut asked → (f : Option Field) → fits k f
    → none_fails (field_conditions r k object asked f) ≡ true → Replaces r old (with_field f asked old)
field-set own unused found r k object asked old sound is asks None fit none = cc
field-set own unused found r k object asked old sound is asks (Some field.Name) fit none =
    name-set own unused found r sound old (stands r k object old is) (put_text asked) asks.text
    (subst (λ j. is_invalid_name j (put_text asked) ≡ false) (sym is.kind)
    (first-holds (is_invalid_name k (put_text asked)) _ none))
    (subst (λ i. is_another (Some i) (holder r old.domain (put_text asked)) ≡ false) (sym is.rid)
    (subst (λ n. is_another (Some (rid_of object)) (holder r n (put_text asked)) ≡ false) (sym is.domain)
    (second-holds (is_invalid_name k (put_text asked))
    (is_another (Some (rid_of object)) (holder r (domain_of object) (put_text asked))) none)))
field-set own unused found r k object asked old sound is asks (Some field.FullName) fit none =
    full_name-set own unused found r sound old (stands r k object old is) (put_text asked) asks.text
    (first-holds (is_too_long (put_text asked)) _ none)
field-set own unused found r k object asked old sound is asks (Some field.Comment) fit none =
    comment-set own unused found r sound old (stands r k object old is) (put_text asked) asks.text
    (first-holds (is_too_long (put_text asked)) _ none)
field-set own unused found r k object asked old sound is asks (Some field.Attributes) fit none =
    bits-set own unused found r sound old (stands r k object old is) (put_number asked) asks.number
    (ap (λ j. good_bits j (put_number asked)) (is.kind ∙ fit))
field-set own unused found r k object asked old sound is asks (Some field.Control) fit none =
    bits-set own unused found r sound old (stands r k object old is) (put_number asked) asks.number
    (ap (λ j. good_bits j (put_number asked)) (is.kind ∙ fit)
    ∙ not-true (control_is_good (put_number asked)) (first-holds (not (control_is_good (put_number asked))) _ none))
field-set own unused found r k object asked old sound is asks (Some field.Primary) fit none =
    let group = is_of kind.Group (account_at r 0 (put_number asked)) in
    let member = is_some (member_at r (put_number asked) (rid_of object)) in
    primary-set own unused found r sound old (stands r k object old is) (put_number asked)
    (ap (λ j. good_primary j (put_number asked)) (is.kind ∙ fit))
    (not-true group (first-holds (not group) _ none))
    (subst (λ i. is_some (member_at r (put_number asked) i) ≡ true) (sym is.rid)
    (not-true member (second-holds (not group) (not member) none)))

pub record SetLaws : Type 0 where
  pub each : EachIsGood
  pub replaced : ReplacedAccountsStaySound
  pub own : OwnNameIsFree
  pub unused : UnusedNameIsFree
  pub found : NameFoundIsFree

account-keeps : SetLaws → (r : Lists) (k : Kind) (object : Object) (asked : Args) → IsSoundRows r
    → is_account_kind k ≡ true → exists r object ≡ true → same_kind k (kind_of object) ≡ true → AsksPut asked
    → none_fails (field_conditions r k object asked (set_field k (class_of asked))) ≡ true
    → Keeps r (puts (account_puts (set_field k (class_of asked)) asked
    (account_at r (domain_of object) (rid_of object))))
account-keeps laws r k object asked sound account there taken asks none =
    let f = set_field k (class_of asked) in
    let w = is-there laws.each r k object sound account there taken in
    let fit = set-fits k (class_of asked) in
    let replaces = field-set laws.own laws.unused laws.found r k object asked w.0 sound w.1 asks f fit none in
    let law = laws.replaced r w.0 (with_field f asked w.0) sound replaces in
    subst (λ o. Keeps r (puts (account_puts f asked o))) (sym w.1.found)
    (record { sound = law.sound; stays = λ x was other. law.stays x was refl; opens = λ opening is. cc })

pub set_group-keeps : SetLaws → KeepsRows set_information_group
set_group-keeps laws r described object call is none =
    account-keeps laws r kind.Group object call.args is.rows refl is.there is.taken
    (group-asks call is.face is.opnum is.spelled) none

pub set_alias-keeps : SetLaws → KeepsRows set_information_alias
set_alias-keeps laws r described object call is none =
    account-keeps laws r kind.Alias object call.args is.rows refl is.there is.taken
    (alias-asks call is.face is.opnum is.spelled) none

pub set_user-keeps : SetLaws → KeepsRows set_information_user
set_user-keeps laws r described object call is none =
    account-keeps laws r kind.User object call.args is.rows refl is.there is.taken
    (user-asks call is.face is.opnum is.spelled) none

pub set_user2-keeps : SetLaws → KeepsRows set_information_user2
set_user2-keeps laws r described object call is none =
    account-keeps laws r kind.User object call.args is.rows refl is.there is.taken
    (user2-asks call is.face is.opnum is.spelled) none

-- ---- domains

domain-some : EachIsGood → (r : Lists) (n : ℕ) (o : Option DomainRow) → IsSoundRows r → domain_at r n ≡ o
    → is_some o ≡ true → (old : DomainRow) × (o ≡ Some old) × (old.number ≡ n)
domain-some each r n None sound at there = cc
domain-some each r n (Some d) sound at there = (d, refl, (each r sound).domain_number n d at)

domain-there : EachIsGood → (r : Lists) (object : Object) → IsSoundRows r → exists r object ≡ true
    → same_kind kind.Domain (kind_of object) ≡ true
    → (old : DomainRow) × (domain_at r (domain_of object) ≡ Some old) × (old.number ≡ domain_of object)
domain-there each r (objects.Domain n) sound there taken = domain-some each r n (domain_at r n) sound refl there
domain-there each r objects.Server sound there taken = cc
domain-there each r (objects.Group i) sound there taken = cc
domain-there each r (objects.Alias n i) sound there taken = cc
domain-there each r (objects.User i) sound there taken = cc
domain-there each r objects.Policy sound there taken = cc
domain-there each r (objects.Account s) sound there taken = cc

oem-good : (d : DomainRow) (o : Option (List ℕ)) → IsGoodDomain d → IfThere IsText o → is_too_long o ≡ false
    → IsGoodDomain (record d { oem = or_empty o })
oem-good d o good text short = record {
  sid_whole = good.sid_whole;
  name_units = good.name_units;
  oem_units = text-units o text;
  number_most = good.number_most;
  account_name = good.account_name;
  account_sid = good.account_sid;
  builtin_named = good.builtin_named;
  builtin_sided = good.builtin_sided;
  oem_most = text-most o short;
  next_least = good.next_least;
  next_most = good.next_most;
}

pub set_domain-keeps : DomainsStaySound → EachIsGood → KeepsRows set_information_domain
set_domain-keeps stay each r described object call is none =
    let w = domain-there each r object is.rows is.there is.taken in
    let asks = domain-asks call is.face is.opnum is.spelled in
    let stands : domain_at r w.0.number ≡ Some w.0 = subst (λ n. domain_at r n ≡ Some w.0) (sym w.2) w.1 in
    let short = second-holds (not (sets_oem (class_of call.args))) (is_too_long (put_text call.args)) none in
    let good = oem-good w.0 (put_text call.args) (is.rows.domain_rules w.0.number w.0 stands) asks.text short in
    let law = stay r w.0 (with_oem call.args w.0) is.rows stands good (omega arith) in
    subst (λ o. Keeps r (puts (domain_puts call.args o))) (sym w.1)
    (record { sound = law.sound; stays = λ x was other. law.stays x was refl; opens = λ opening is. cc })

-- ---- what was set is there

key-domain : (f : Option Field) (asked : Args) (a : AccountRow) → (with_field f asked a).domain ≡ a.domain
key-domain None asked a = refl
key-domain (Some field.Name) asked a = refl
key-domain (Some field.FullName) asked a = refl
key-domain (Some field.Comment) asked a = refl
key-domain (Some field.Attributes) asked a = refl
key-domain (Some field.Control) asked a = refl
key-domain (Some field.Primary) asked a = refl

key-rid : (f : Option Field) (asked : Args) (a : AccountRow) → (with_field f asked a).rid ≡ a.rid
key-rid None asked a = refl
key-rid (Some field.Name) asked a = refl
key-rid (Some field.FullName) asked a = refl
key-rid (Some field.Comment) asked a = refl
key-rid (Some field.Attributes) asked a = refl
key-rid (Some field.Control) asked a = refl
key-rid (Some field.Primary) asked a = refl

row-set : PutsAreFound → PutsLeaveOthers → (r : Lists) (object : Object) (old later : AccountRow)
    (change : AccountRow → AccountRow) → account_at r (domain_of object) (rid_of object) ≡ Some old
    → change old ≡ later → later.domain ≡ domain_of object → later.rid ≡ rid_of object
    → AccountIsSet object change r (put_row (rows.Account later) r)
row-set found leave r object old later change there changed domain rid = record {
  row =
      subst (λ n. account_at (put_row (rows.Account later) r) n (rid_of object) ≡ Some later) domain
      (subst (λ i. account_at (put_row (rows.Account later) r) later.domain i ≡ Some later) rid
      ((found r).account later))
      ∙ ap Some (sym changed)
      ∙ sym (ap (option_map change) there);
  others = λ n i apart. (leave r).account later n i (λ same. apart (same.0 ∙ domain, same.1 ∙ rid));
  domains = refl;
  members = refl;
  aliases = refl;
  lsa = refl;
}

some-field : (r : Lists) (k : Kind) (object : Object) (asked : Args) (f : Option Field)
    → none_fails (field_conditions r k object asked f) ≡ true → is_some f ≡ true
some-field r k object asked None none = cc
some-field r k object asked (Some f) none = refl

account-set : PutsAreFound → PutsLeaveOthers → EachIsGood → (r : Lists) (k : Kind) (object : Object) (asked : Args)
    → IsSoundRows r → is_account_kind k ≡ true → exists r object ≡ true → same_kind k (kind_of object) ≡ true
    → AccountIsSet object (with_field (set_field k (class_of asked)) asked) r
    (after (puts (account_puts (set_field k (class_of asked)) asked
    (account_at r (domain_of object) (rid_of object)))).plan r)
account-set found leave each r k object asked sound account there taken =
    let f = set_field k (class_of asked) in
    let w = is-there each r k object sound account there taken in
    subst (λ o. AccountIsSet object (with_field f asked) r (after (puts (account_puts f asked o)).plan r))
    (sym w.1.found)
    (row-set found leave r object w.0 (with_field f asked w.0) (with_field f asked) w.1.found refl
    (key-domain f asked w.0 ∙ w.1.domain) (key-rid f asked w.0 ∙ w.1.rid))

pub group-set : PutsAreFound → PutsLeaveOthers → EachIsGood → SetsAccount kind.Group set_information_group
group-set found leave each r described object call is none = (
  some-field r kind.Group object call.args (set_field kind.Group (class_of call.args)) none,
  account-set found leave each r kind.Group object call.args is.rows refl is.there is.taken,
)

pub alias-set : PutsAreFound → PutsLeaveOthers → EachIsGood → SetsAccount kind.Alias set_information_alias
alias-set found leave each r described object call is none = (
  some-field r kind.Alias object call.args (set_field kind.Alias (class_of call.args)) none,
  account-set found leave each r kind.Alias object call.args is.rows refl is.there is.taken,
)

pub user-set : PutsAreFound → PutsLeaveOthers → EachIsGood → SetsAccount kind.User set_information_user
user-set found leave each r described object call is none = (
  some-field r kind.User object call.args (set_field kind.User (class_of call.args)) none,
  account-set found leave each r kind.User object call.args is.rows refl is.there is.taken,
)

pub user2-set : PutsAreFound → PutsLeaveOthers → EachIsGood → SetsAccount kind.User set_information_user2
user2-set found leave each r described object call is none = (
  some-field r kind.User object call.args (set_field kind.User (class_of call.args)) none,
  account-set found leave each r kind.User object call.args is.rows refl is.there is.taken,
)

pub domain-set : PutsAreFound → PutsLeaveOthers → EachIsGood → SetsDomain set_information_domain
domain-set found leave each r described object call is none =
    let w = domain-there each r object is.rows is.there is.taken in
    let later = with_oem call.args w.0 in
    subst (λ o. DomainIsSet object (with_oem call.args) r (after (puts (domain_puts call.args o)).plan r)) (sym w.1)
    (record {
      row =
          subst (λ n. domain_at (put_row (rows.Domain later) r) n ≡ Some later) w.2 ((found r).domain later)
          ∙ sym (ap (option_map (with_oem call.args)) w.1);
      others = λ n apart. (leave r).domain later n (λ same. apart (same ∙ w.2));
      accounts = refl;
      members = refl;
      aliases = refl;
      lsa = refl;
    })

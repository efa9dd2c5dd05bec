-- A domain that is inserted goes last, unless it is there.
use Rattle.std.proofs.Common.{◌≡◌, List, ◌∷◌, [], ◌++◌, refl, sym, ap, subst, ◌∙◌}
use Rattle.std.specs.Prelude.{if◌then◌else◌}
use Rattle.std.specs.List.{list_any}
use Rattle.lsat_translate.specs.Translations.{with_domain}
use Rattle.lsat_translate.specs.Known.{same_known}
use Rattle.lsat_translate.specs.contracts.known.KnownPartialEq.TheImpl.{eq-value}
use Rattle.lsat_translate.specs.declared.known.Known.{Known}
use Rattle.lsat_translate.specs.declared.known.Known.TheVariants.{Account, Builtin, NtAuthority, World}
use Rattle.lsat_translate.proofs.entries.refer.Goals as goal

-- the derived `==` is the test of the definitions
told : (j k : Known) → eq-value.it j k ≡ same_known j k
told Account Account = refl
told Account Builtin = refl
told Account NtAuthority = refl
told Account World = refl
told Builtin Account = refl
told Builtin Builtin = refl
told Builtin NtAuthority = refl
told Builtin World = refl
told NtAuthority Account = refl
told NtAuthority Builtin = refl
told NtAuthority NtAuthority = refl
told NtAuthority World = refl
told World Account = refl
told World Builtin = refl
told World NtAuthority = refl
told World World = refl

told-any : (k : Known) (ks : List Known) → list_any (eq-value.it k) ks ≡ list_any (same_known k) ks
told-any k ks = λ i. list_any (λ j. told k j i) ks

pub returns-in_ok-insert : goal.returns-in_ok-insert
returns-in_ok-insert c =
    let old = c.args.domains.now.keys in
    subst (λ m. c.insert.new.self.keys ≡ with_domain m old) (sym c.in-Some.is)
    (subst (λ (k : Known). c.insert.new.self.keys ≡ if list_any (same_known k) old then old else old ++ k ∷ [])
    c.known.ensures
    (c.in_ok-insert.ensures.keys
    ∙ ap (λ b. if b then old else old ++ c.known.result ∷ []) (told-any c.known.result old)))

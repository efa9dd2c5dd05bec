-- The domains of one more match are those so far with its own, and they are four at most.
use Rattle.std.proofs.Common.{◌≡◌, ℕ, ◌+◌, ◌<◌, ◌≤◌, List, length, take, get_or, Option, None, ap, sym, ◌∙◌}
use Rattle.std.proofs.Common.{subst}
use Rattle.std.proofs.lemmas.List.{take_more}
use Rattle.lsat_translate.specs.Translations.{with_domain, referenced, known_in}
use Rattle.lsat_translate.specs.declared.known.Known.{Known}
use Rattle.lsat_translate.specs.declared.matches.Match.{Match}
use Rattle.lsat_translate.proofs.Firsts.{referenced-push, four-at-most}
use Rattle.lsat_translate.proofs.entries.referenced.Goals as goal

more : (found : List (Option Match)) (i : ℕ) → i < length found
    → with_domain (get_or found i None) (referenced (take i found)) ≡ referenced (take (i + 1) found)
more found i lt =
    sym (referenced-push (take i found) (get_or found i None)) ∙ ap referenced (sym (take_more found i None lt))

pub loop-one-preserved : goal.loop-one-preserved
loop-one-preserved c =
    let found = c.args.found.now in
    c.in_ok-refer.ensures
    ∙ ap (λ (ks : List Known). with_domain (get_or found c.loop-one.one-index None) ks) c.loop-one.invariant
    ∙ more found c.loop-one.one-index c.loop-one-test.true

pub returns-clause-few : goal.returns-clause-few
returns-clause-few c =
    let ks = known_in (take c.loop-one.one-index c.args.found.now) in
    let few : length (referenced (take c.loop-one.one-index c.args.found.now)) ≤ 4 = four-at-most ks in
    subst (λ (ks : List Known). length ks ≤ 4) (sym c.loop-one.invariant) few

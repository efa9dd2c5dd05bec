-- The descriptors so far and those of the kinds to come are the descriptors of all kinds.
use Rattle.std.proofs.Common.{◌+◌, ◌++◌, ◌∷◌, [], ◌∙◌, sym, ap, append_assoc, map, drop}
use Rattle.std.proofs.lemmas.List.{at_drop_more}
use Rattle.toml.specs.View.{view}
use Rattle.acct_codes.specs.declared.kind.Kind.{Kind}
use Rattle.dtyp_access.specs.declared.descriptor.Descriptor.{Descriptor}
use Rattle.acct_config.specs.Rules.{descriptor_table}
use Rattle.acct_config.specs.Spelled.{descriptor_of}
use Rattle.acct_config.proofs.spelled.descriptors_of.Goals as goal

pub loop-kind-preserved : goal.loop-kind-preserved
loop-kind-preserved c =
    let kinds = c.args.kinds.now in
    let place = c.loop-kind.kind-index in
    let made = c.loop-kind.made in
    let of_kind : Kind → Descriptor = λ kind. descriptor_of (descriptor_table (view c.args.document.now) kind) in
    let rest = map of_kind (drop (place + 1) kinds) in
    ap (λ m. m ++ rest) c.in_ok-push.ensures.ok
    ∙ append_assoc made (c.in_ok-descriptor_of.field-0 ∷ []) rest
    ∙ ap (λ d. made ++ d ∷ rest) c.in_ok-descriptor_of.ensures
    ∙ sym (at_drop_more (λ ks. made ++ map of_kind ks) kinds place _ c.loop-kind-test.true)
    ∙ c.loop-kind.invariant

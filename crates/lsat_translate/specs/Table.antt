-- The operations: each one's profile, and its rule.
use Rattle.acct_calls.specs.declared.calls.Face.TheVariants.{Lsa}
use Rattle.acct_codes.specs.Opnums.{lsar_lookup_names, lsar_lookup_names2, lsar_lookup_names3, lsar_lookup_sids}
use Rattle.acct_codes.specs.Opnums.{lsar_lookup_sids2}
use Rattle.acct_codes.specs.Rights.{policy_lookup_names}
use Rattle.acct_codes.specs.declared.kind.Kind.TheVariants as kind
use Rattle.acct_rules.specs.Profiles.{Operation, undescribed, asking}
use Rattle.acct_rules.specs.declared.profile.Kinds.TheVariants as kinds
use Rattle.acct_rules.specs.declared.profile.Memory.TheVariants as memory
use Rattle.lsat_translate.specs.Translations.{look_names, look_names2, look_names3, look_sids, look_sids2}

-- ---- by a handle to the policy

abbrev pub lookup_names : Operation
lookup_names = record {
  profile = asking Lsa lsar_lookup_names (kinds.Only kind.Policy) policy_lookup_names memory.Anywhere;
  rule = undescribed look_names;
}

abbrev pub lookup_names2 : Operation
lookup_names2 = record {
  profile = asking Lsa lsar_lookup_names2 (kinds.Only kind.Policy) policy_lookup_names memory.Anywhere;
  rule = undescribed look_names2;
}

abbrev pub lookup_names3 : Operation
lookup_names3 = record {
  profile = asking Lsa lsar_lookup_names3 (kinds.Only kind.Policy) policy_lookup_names memory.Anywhere;
  rule = undescribed look_names3;
}

abbrev pub lookup_sids : Operation
lookup_sids = record {
  profile = asking Lsa lsar_lookup_sids (kinds.Only kind.Policy) policy_lookup_names memory.Anywhere;
  rule = undescribed look_sids;
}

abbrev pub lookup_sids2 : Operation
lookup_sids2 = record {
  profile = asking Lsa lsar_lookup_sids2 (kinds.Only kind.Policy) policy_lookup_names memory.Anywhere;
  rule = undescribed look_sids2;
}

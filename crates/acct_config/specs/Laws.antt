-- Laws of configurations.
use Rattle.std.specs.Prelude.{◌≡◌, ℕ, ◌<◌, true, false, List, Some, None, length, slice_get}
use Rattle.toml.specs.Data.{Data}
use Rattle.acct_codes.specs.declared.kind.Kind.{Kind}
use Rattle.acct_config.specs.Kinds.{kind_place}
use Rattle.acct_config.specs.Rules.{rules, first_broken, descriptor_table}
use Rattle.acct_config.specs.Spelled.{descriptor_of, config_of}

-- the rule of this number is broken, and each before it is kept
pub record IsFirstBroken (bytes : List ℕ) (number : ℕ) : Type 0 where
  pub broken : slice_get (rules bytes) number ≡ Some false
  pub before : (earlier : ℕ) → earlier < number → slice_get (rules bytes) earlier ≡ Some true

abbrev pub FirstBrokenIsLeast : Type 0
FirstBrokenIsLeast = (bytes : List ℕ) (number : ℕ) → first_broken bytes ≡ Some number → IsFirstBroken bytes number

abbrev pub NoneBrokenIsEachKept : Type 0
NoneBrokenIsEachKept = (bytes : List ℕ) → first_broken bytes ≡ None → (number : ℕ) → number < length (rules bytes) →
    slice_get (rules bytes) number ≡ Some true

-- the descriptor at a kind's place is that of the kind's table
abbrev pub DescriptorsStandByKind : Type 0
DescriptorsStandByKind = (d : Data) (kind : Kind) → slice_get (config_of d).descriptors (kind_place kind)
    ≡ Some (descriptor_of (descriptor_table d kind))

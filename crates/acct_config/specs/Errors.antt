-- What a refusal of a document says.
use Rattle.std.specs.Prelude.{◌≡◌, ℕ, Option, Some}
use Rattle.acct_config.specs.declared.errors.ConfigError.{ConfigError}
use Rattle.acct_config.specs.declared.errors.ConfigError.TheVariants.{Rule, Memory}

-- a fact of the number of the rule, where the refusal is for a rule
abbrev pub IfRule : ConfigError → (ℕ → Type 0) → Type 0
IfRule (Rule number) P = P number
IfRule Memory P = Unit {0}

-- a refusal for the first broken rule
abbrev pub IsFirst : Option ℕ → ConfigError → Type 0
IsFirst broken error = IfRule error (λ number. broken ≡ Some number)

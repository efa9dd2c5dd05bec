-- Without the entry of an account the entries are those of the other accounts; where none is at the key, they stay.
use Rattle.std.proofs.Common.{◌≡◌, List, ℕ, [], ◌∷◌, Some, None, ap, ◌∙◌, rules}
use Rattle.acct_tables.specs.KeyedRows.{at, without}
use Rattle.acct_tables.specs.steps.Primaries.{primary_key, by_primary}
use Rattle.acct_tables.specs.Keys.{account_key}
use Rattle.acct_tables.proofs.PrimaryGroups.{primaries_without, primaries_stay}
use Rattle.acct_tables.proofs.primaries.remove.Goals as goal

pub returns-in-Some-clause-entries : goal.returns-in-Some-clause-entries
returns-in-Some-clause-entries c =
    let accounts = c.args.accounts.now in
    let k : List ℕ = c.args.key.now.0 ∷ c.args.key.now.1 ∷ [] in
    let account = c.in-Some.account.now in
    let there : at account_key k accounts ≡ Some account = search rules in
    let own = c.key.ensures ∙ ap primary_key c.by_primary.ensures in
    c.remove.ensures.rows ∙ ap (λ j. without primary_key j c.args.entries.now.0) own
    ∙ ap (without primary_key (primary_key (by_primary account))) c.requires.entries
    ∙ primaries_without accounts c.requires.rows k account there

pub returns-in_default-clause-entries : goal.returns-in_default-clause-entries
returns-in_default-clause-entries c =
    let accounts = c.args.accounts.now in
    let k : List ℕ = c.args.key.now.0 ∷ c.args.key.now.1 ∷ [] in
    let none : at account_key k accounts ≡ None = search rules in
    c.requires.entries ∙ primaries_stay accounts c.requires.rows k none

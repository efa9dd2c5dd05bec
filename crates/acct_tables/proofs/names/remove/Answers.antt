-- Without the key that an account's name finds, the keys are the other names; an absent account leaves all of them.
use Rattle.std.proofs.Common.{◌≡◌, [], ◌∷◌, true, remove, Some, None, Ok, Err, sym, ap, subst, ◌∙◌, rules}
use Rattle.acct_tables.specs.steps.Indexes.{named, key_at, names_of}
use Rattle.acct_tables.specs.KeyedRows.{at, place, is_ascending}
use Rattle.acct_tables.specs.Keys.{account_key}
use Rattle.acct_tables.proofs.Named.{names_ascend_all, names_without, names_without_none}
use Rattle.acct_tables.proofs.names.remove.Goals as goal

pub returns-in_default-clause-keys : goal.returns-in_default-clause-keys
returns-in_default-clause-keys c =
    let k = c.args.key.now.0 ∷ c.args.key.now.1 ∷ [] in
    let none : at account_key k c.args.accounts.now ≡ None = search rules in
    c.requires.keys ∙ names_without_none c.args.accounts.now c.requires.rows k none

pub place-requires-clause-keys : goal.place-requires-clause-keys
place-requires-clause-keys c =
    let accounts = c.args.accounts.now in
    let keys : c.deref.result.now ≡ names_of accounts = c.deref.ensures.value ∙ c.requires.keys in
    subst (λ ks. is_ascending (key_at accounts) ks ≡ true) (sym keys) (names_ascend_all accounts c.requires.rows)

pub returns-in-Ok-clause-keys : goal.returns-in-Ok-clause-keys
returns-in-Ok-clause-keys c =
    let accounts = c.args.accounts.now in
    let row = c.in-Some.row.now in
    let k = c.args.key.now.0 ∷ c.args.key.now.1 ∷ [] in
    let there : at account_key k accounts ≡ Some row = search rules in
    let keys : c.deref.result.now ≡ names_of accounts = c.deref.ensures.value ∙ c.requires.keys in
    let is : Ok c.in-Ok.i ≡ place (key_at accounts) (named row.domain row.name row.rid) (names_of accounts) =
    sym c.in-Ok.is ∙ c.place.ensures.found
    ∙ ap (place (key_at accounts) (named row.domain row.name row.rid)) keys in
    c.remove.ensures.items ∙ ap (λ ks. remove ks c.in-Ok.i) c.requires.keys
    ∙ names_without accounts c.requires.rows k row (Ok c.in-Ok.i) there is

pub returns-in-Err-clause-keys : goal.returns-in-Err-clause-keys
returns-in-Err-clause-keys c =
    let accounts = c.args.accounts.now in
    let row = c.in-Some.row.now in
    let k = c.args.key.now.0 ∷ c.args.key.now.1 ∷ [] in
    let there : at account_key k accounts ≡ Some row = search rules in
    let keys : c.deref.result.now ≡ names_of accounts = c.deref.ensures.value ∙ c.requires.keys in
    let is : Err c.in-Err.field-0 ≡ place (key_at accounts) (named row.domain row.name row.rid) (names_of accounts) =
    sym c.in-Err.is ∙ c.place.ensures.found
    ∙ ap (place (key_at accounts) (named row.domain row.name row.rid)) keys in
    c.requires.keys ∙ names_without accounts c.requires.rows k row (Err c.in-Err.field-0) there is

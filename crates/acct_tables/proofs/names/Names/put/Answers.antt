-- Without its old key, and with its new one put where the keys ascend, the keys are the names with the row put.
use Rattle.std.proofs.Common.{◌≡◌, true, sym, ap, subst, ◌∙◌, rules}
use Rattle.acct_tables.specs.steps.Indexes.{key_at, names_of, with_pair}
use Rattle.acct_tables.specs.KeyedRows.{without, is_ascending}
use Rattle.acct_tables.specs.Keys.{account_key}
use Rattle.acct_tables.proofs.Named.{names_ascend_others, names_put}
use Rattle.acct_tables.proofs.names.Names.put.Goals as goal

pub insert-requires-clause-keys : goal.insert-requires-clause-keys
insert-requires-clause-keys c =
    let accounts = c.args.accounts.now in
    let k = account_key c.args.row.now in
    let keys : c.remove.new.keys.items ≡ names_of (without account_key k accounts) = search rules in
    subst (λ ks. is_ascending (key_at accounts) ks ≡ true) (sym keys) (names_ascend_others accounts c.requires.rows k)

pub returns-clause-names : goal.returns-clause-names
returns-clause-names c =
    let accounts = c.args.accounts.now in
    let keys : c.remove.new.keys.items ≡ names_of (without account_key (account_key c.args.row.now) accounts) =
    search rules in
    c.insert.ensures.keys ∙ ap (with_pair accounts c.args.row.now) keys
    ∙ names_put accounts c.requires.rows c.args.row.now

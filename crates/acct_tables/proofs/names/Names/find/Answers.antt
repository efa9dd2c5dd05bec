-- The account at the place found among the names is the one with the name; where it has another, no account has it.
use Rattle.std.proofs.Common.{◌≡◌, ◌≤◌, ◌<◌, [], ◌∷◌, true, false, cond, drop, length, get_or, Some, None, sym, ap}
use Rattle.std.proofs.Common.{subst, ◌∙◌}
use Rattle.std.proofs.Common.{rules}
use Rattle.acct_tables.specs.steps.Indexes.{named, key_at, names_of, by_name}
use Rattle.acct_tables.specs.KeyedRows.{at, place, is_ascending}
use Rattle.acct_tables.specs.Keys.{account_key}
use Rattle.acct_tables.specs.Selected.{has_name}
use Rattle.acct_tables.proofs.Named.{names_ascend_all, name_found, first_past_names, stands_at_name}
use Rattle.std.specs.List.{find}
use Rattle.acct_tables.proofs.Lookups.{same_Some}
use Rattle.acct_tables.proofs.Runs.{spot, first_if}
use Rattle.acct_tables.proofs.names.Names.find.Goals as goal
use Rattle.acct_tables.proofs.names.Names.find.Goals.{in-Ok, in-Ok-2}

pub place-requires-clause-keys : goal.place-requires-clause-keys
place-requires-clause-keys c =
    let accounts = c.args.accounts.now in
    let keys : c.deref.result.now ≡ names_of accounts = search rules in
    subst (λ ks. is_ascending (key_at accounts) ks ≡ true) (sym keys) (names_ascend_all accounts c.requires.rows)

pub returns-then-i-len : goal.returns-then-i-len
returns-then-i-len c =
    let accounts = c.args.accounts.now in
    let q = named c.args.domain c.args.name.now 0 in
    let p = has_name c.args.domain c.args.name.now in
    let keys : c.deref.result.now ≡ names_of accounts = search rules in
    let placed : c.place.result ≡ place (key_at accounts) q (names_of accounts) =
    c.place.ensures.found ∙ ap (place (key_at accounts) q) keys in
    let at_end : spot c.place.result ≡ c.match-place.i =
    elim c.match-place.branch [ in-Ok w ↦ search rules | in-Ok-2 w ↦ search rules ] in
    let past : length (names_of accounts) ≤ spot c.place.result = search rules in
    sym (name_found c.test_tells_same.ensures c.args.domain c.args.name.now accounts c.requires.rows c.place.result
    placed
    ∙ first_past_names p (spot c.place.result) accounts past)

pub returns-in_default : goal.returns-in_default
returns-in_default c =
    let accounts = c.args.accounts.now in
    let n = c.args.name.now in
    let q = named c.args.domain n 0 in
    let p = has_name c.args.domain n in
    let keys : c.self.inside.keys.items ≡ names_of accounts = search rules in
    let placed : c.place.result ≡ place (key_at accounts) q (names_of accounts) = search rules in
    let at_i : spot c.place.result ≡ c.match-place.i =
    elim c.match-place.branch [ in-Ok w ↦ search rules | in-Ok-2 w ↦ search rules ] in
    let within : c.match-place.i < length (names_of accounts) = search rules in
    let pair : c.index.result.now ≡ get_or (names_of accounts) c.match-place.i c.index.result.now =
    c.index.ensures ∙ ap (λ ks. get_or ks c.match-place.i c.index.result.now) keys in
    let stands = stands_at_name p accounts c.requires.rows c.match-place.i c.index.result.now within pair in
    let found : find p accounts ≡ cond (p stands.0) (Some stands.0) None =
    name_found c.test_tells_same.ensures c.args.domain n accounts c.requires.rows c.place.result placed
    ∙ ap (λ i. first_if p (drop i (by_name accounts))) at_i ∙ stands.2 in
    let none : at account_key (c.index.result.now.0 ∷ c.index.result.now.1 ∷ []) accounts ≡ None = search rules in
    absurd (let not : None ≡ Some stands.0 = sym none ∙ stands.1 in cc)

pub returns-then-not-has_name : goal.returns-then-not-has_name
returns-then-not-has_name c =
    let accounts = c.args.accounts.now in
    let n = c.args.name.now in
    let q = named c.args.domain n 0 in
    let p = has_name c.args.domain n in
    let keys : c.self.inside.keys.items ≡ names_of accounts = search rules in
    let placed : c.place.result ≡ place (key_at accounts) q (names_of accounts) = search rules in
    let at_i : spot c.place.result ≡ c.match-place.i =
    elim c.match-place.branch [ in-Ok w ↦ search rules | in-Ok-2 w ↦ search rules ] in
    let within : c.match-place.i < length (names_of accounts) = search rules in
    let pair : c.index.result.now ≡ get_or (names_of accounts) c.match-place.i c.index.result.now =
    c.index.ensures ∙ ap (λ ks. get_or ks c.match-place.i c.index.result.now) keys in
    let stands = stands_at_name p accounts c.requires.rows c.match-place.i c.index.result.now within pair in
    let found : find p accounts ≡ cond (p stands.0) (Some stands.0) None =
    name_found c.test_tells_same.ensures c.args.domain n accounts c.requires.rows c.place.result placed
    ∙ ap (λ i. first_if p (drop i (by_name accounts))) at_i ∙ stands.2 in
    let row = c.in-Some.row.now in
    let there : at account_key (c.index.result.now.0 ∷ c.index.result.now.1 ∷ []) accounts ≡ Some row = search rules in
    let is : stands.0 ≡ row = same_Some (sym stands.1 ∙ there) in
    let not : p row ≡ false = search rules in
    sym (found ∙ ap (λ b. cond b (Some stands.0) None) (ap p is ∙ not))

pub returns : goal.returns
returns c =
    let accounts = c.args.accounts.now in
    let n = c.args.name.now in
    let q = named c.args.domain n 0 in
    let p = has_name c.args.domain n in
    let keys : c.self.inside.keys.items ≡ names_of accounts = search rules in
    let placed : c.place.result ≡ place (key_at accounts) q (names_of accounts) = search rules in
    let at_i : spot c.place.result ≡ c.match-place.i =
    elim c.match-place.branch [ in-Ok w ↦ search rules | in-Ok-2 w ↦ search rules ] in
    let within : c.match-place.i < length (names_of accounts) = search rules in
    let pair : c.index.result.now ≡ get_or (names_of accounts) c.match-place.i c.index.result.now =
    c.index.ensures ∙ ap (λ ks. get_or ks c.match-place.i c.index.result.now) keys in
    let stands = stands_at_name p accounts c.requires.rows c.match-place.i c.index.result.now within pair in
    let found : find p accounts ≡ cond (p stands.0) (Some stands.0) None =
    name_found c.test_tells_same.ensures c.args.domain n accounts c.requires.rows c.place.result placed
    ∙ ap (λ i. first_if p (drop i (by_name accounts))) at_i ∙ stands.2 in
    let row = c.in-Some.row.now in
    let there : at account_key (c.index.result.now.0 ∷ c.index.result.now.1 ∷ []) accounts ≡ Some row = search rules in
    let is : stands.0 ≡ row = same_Some (sym stands.1 ∙ there) in
    let yes : p row ≡ true = search rules in
    sym (found ∙ ap (λ b. cond b (Some stands.0) None) (ap p is ∙ yes) ∙ ap Some is)

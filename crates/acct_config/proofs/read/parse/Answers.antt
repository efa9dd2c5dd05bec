-- What `parse` reads is the table that the bytes spell, and rule 0 is broken only by bytes that spell none.
use Rattle.std.proofs.Common.{sym, ap, ◌∙◌, ℕ}
use Rattle.std.proofs.lemmas.Result.{err_from_is_err_and}
use Rattle.std.specs.Option.{unwrap_or, is_some}
use Rattle.toml.specs.Data.{table, no_members}
use Rattle.toml.specs.View.{members_view}
use Rattle.toml.proofs.Views.{view-Table}
use Rattle.acct_config.specs.Errors.{IfRule}
use Rattle.acct_config.specs.declared.errors.ConfigError.{ConfigError}
use Rattle.acct_config.specs.declared.errors.ConfigError.TheVariants.{Rule, Memory}
use Rattle.acct_config.proofs.Parsed.{document-None, document-Some}
use Rattle.acct_config.proofs.read.parse.Goals as goal

IfRule-map : (error : ConfigError) (P Q : ℕ → Type 0) → ((number : ℕ) → P number → Q number)
    → IfRule error P → IfRule error Q
IfRule-map (Rule number) P Q step p = step number p
IfRule-map Memory P Q step p = p

pub returns-in_err-table_from_slice-clause-rule : goal.returns-in_err-table_from_slice-clause-rule
returns-in_err-table_from_slice-clause-rule c =
    let why = err_from_is_err_and c.from_residual.result c.from_residual.ensures.1 in
    rw why.1
    (IfRule-map why.0 _ _
    (λ number p. (p.0, document-None c.args.bytes.now (c.in_err-table_from_slice.ensures.refused p.1))) why.2.0)

pub returns-clause-found : goal.returns-clause-found
returns-clause-found c =
    let read = c.in_ok-table_from_slice.field-0 in
    let spelled = c.in_ok-table_from_slice.ensures.ok in
    let found = document-Some c.args.bytes.now (members_view read.entries) spelled.0 spelled.1 in
    (ap is_some found, view-Table read ∙ ap (λ members. table (unwrap_or members no_members)) (sym found))

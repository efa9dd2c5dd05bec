-- What a program is told of a change of an account, and the jobs of a whole history.
use Rattle.std.specs.Prelude.{ℕ, ◌==◌, List, [], ◌∷◌, map, codes, encode_utf8, Option, Some, None, if◌then◌else◌}
use Rattle.std.specs.Fmt.{decimal}
use Rattle.std.specs.List.{flat_map}
use Rattle.account_hooks.specs.Drains.{Job}
use Rattle.acct_calls.specs.Names.{code_points, is_surrogate}
use Rattle.acct_codes.specs.declared.kind.Kind.{Kind}
use Rattle.acct_codes.specs.declared.kind.Kind.TheVariants.{User, Group}
use Rattle.acct_rows.specs.Rows.{Lists, domain_at}
use Rattle.acct_tables.specs.declared.row.DomainRow.{DomainRow}
use Rattle.acct_tables.specs.declared.row.OutRow.{OutRow}
use Rattle.acct_machine.specs.declared.entry.Entry.{Entry}
use Rattle.acct_machine.specs.Outbox.{out_made, out_changed}
use Rattle.acct_machine.specs.Outs.{outs_of}
use Rattle.acct_machine.specs.State.{Start}

-- ---- one change

-- what became of the account
abbrev pub action_word : ℕ → List ℕ
action_word action =
    if action == out_made then codes "create" else (if action == out_changed then codes "change" else codes "delete")

abbrev pub kind_word : Kind → List ℕ
kind_word User = codes "user"
kind_word Group = codes "group"
kind_word _ = codes "alias"

-- `?` (63) in place of a surrogate that stands alone, of which a valid name has none
abbrev pub shown_point : ℕ → ℕ
shown_point point = if is_surrogate point then 63 else point

-- a name in UTF-8
abbrev pub utf8_of : List ℕ → List ℕ
utf8_of units = flat_map (λ point. encode_utf8 (shown_point point)) (code_points units)

abbrev pub name_in : Option DomainRow → List ℕ
name_in None = []
name_in (Some d) = d.name

-- The number of the change, what became of the account, its kind, the name of its domain, its RID, and its name.
abbrev pub arguments : Lists → OutRow → List (List ℕ)
arguments r o =
    decimal o.number ∷ action_word o.action ∷ kind_word o.kind ∷ utf8_of (name_in (domain_at r o.domain))
    ∷ decimal o.rid ∷ utf8_of o.name ∷ []

abbrev pub job_of_out : Lists → OutRow → Job
job_of_out r o = record { number = o.number; arguments = arguments r o }

-- ---- all changes

-- the jobs of changes, by the names that the domains have in these rows
abbrev pub jobs_of : Lists → List OutRow → List Job
jobs_of r os = map (job_of_out r) os

-- The jobs of every change of a history, whether it has left or not. The names of the domains are those at its beginning,
-- which no entry changes.
abbrev pub jobs_at : Start → List Entry → List Job
jobs_at start history = jobs_of start.rows (outs_of start history)

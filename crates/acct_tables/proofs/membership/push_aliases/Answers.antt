-- The memberships of a SID in a domain are a run from the place found: those pushed so far and the run ahead are all.
use Rattle.std.proofs.Common.{◌≡◌, ◌+◌, ◌-◌, true, [], ◌∷◌, ◌++◌, length}
use Rattle.std.proofs.Common.{take, drop, map, sym, ap, ◌∙◌, append_assoc, rules}
use Rattle.std.proofs.lemmas.List.{append-nil, take_rest}
use Rattle.acct_tables.specs.steps.Indexes.{held, membership_key, is_for, alias_number_of}
use Rattle.acct_tables.specs.KeyedRows.{place}
use Rattle.acct_tables.proofs.Holding.{run_of}
use Rattle.acct_tables.proofs.Runs.{spot, leading, run_more, run_stops, run_ends}
use Rattle.acct_tables.proofs.membership.push_aliases.Goals as goal
use Rattle.acct_tables.proofs.membership.push_aliases.Goals.{in-Ok, in-Ok-2}

pub loop-row-init : goal.loop-row-init
loop-row-init c =
    let rows = c.args.rows.now in
    let p = is_for c.args.domain c.args.sid.now in
    let at_first : spot c.place_of.result ≡ c.match-place_of.first =
    elim c.match-place_of.branch [ in-Ok w ↦ search rules | in-Ok-2 w ↦ search rules ] in
    let placed : spot (place membership_key (held c.args.sid.now c.args.domain 0) rows) ≡ c.match-place_of.first =
    ap spot (sym c.place_of.ensures.found) ∙ at_first in
    ap (λ ms. c.args.rids.now.items ++ map alias_number_of ms)
    (ap (leading p) (take_rest rows c.match-place_of.first ∙ ap (λ i. drop i rows) (sym placed))
    ∙ sym (run_of c.args.domain c.args.sid.now rows c.requires))

pub returns-then-not-is_for : goal.returns-then-not-is_for
returns-then-not-is_for c =
    let rows = c.args.rows.now in
    let xs = take (length rows - c.match-place_of.first) (drop c.match-place_of.first rows) in
    let p = is_for c.args.domain c.args.sid.now in
    sym (append-nil c.loop-row.rids.items)
    ∙ ap (λ ms. c.loop-row.rids.items ++ map alias_number_of ms)
    (sym (run_stops p xs c.loop-row.row-index c.row-item.result c.loop-row-test.true c.row-item.is
    (sym c.is_for.ensures ∙ c.if-not-is_for.true)))
    ∙ c.loop-row.invariant

pub loop-row-preserved : goal.loop-row-preserved
loop-row-preserved c =
    let rows = c.args.rows.now in
    let xs = take (length rows - c.match-place_of.first) (drop c.match-place_of.first rows) in
    let p = is_for c.args.domain c.args.sid.now in
    let k = c.loop-row.row-index in
    let row = c.row-item.result in
    let yes : p row ≡ true = search rules in
    let pushed : c.push.new.self.items ≡ c.loop-row.rids.items ++ row.alias ∷ [] = search rules in
    ap (λ ns. ns ++ map alias_number_of (leading p (drop (k + 1) xs))) pushed
    ∙ append_assoc c.loop-row.rids.items (row.alias ∷ []) (map alias_number_of (leading p (drop (k + 1) xs)))
    ∙ ap (λ ms. c.loop-row.rids.items ++ map alias_number_of ms)
    (sym (run_more p xs k row c.loop-row-test.true c.row-item.is yes))
    ∙ c.loop-row.invariant

pub returns : goal.returns
returns c =
    let rows = c.args.rows.now in
    let xs = take (length rows - c.match-place_of.first) (drop c.match-place_of.first rows) in
    let p = is_for c.args.domain c.args.sid.now in
    sym (append-nil c.loop-row.rids.items)
    ∙ ap (λ ms. c.loop-row.rids.items ++ map alias_number_of ms)
    (sym (run_ends p xs c.loop-row.row-index c.loop-row-test.false))
    ∙ c.loop-row.invariant

-- `plan_changes` meets its contract: the rows that it writes have spellings, and the changes follow the plan.
use Rattle.std.proofs.Common.{◌≡◌, ◌↔◌, ℕ, List, [], ◌++◌, ap, subst, sym, ◌∙◌, rules}
use Rattle.std.proofs.lemmas.List.{append_assoc}
use Rattle.acct_keeper.specs.declared.pairs.Change.{Change}
use Rattle.acct_rows.specs.Changes.{Follow, removals, rows_written, next_out_written, changes_of, LastFit}
use Rattle.acct_rows.specs.Rows.{Lists, after, next_past}
use Rattle.acct_rows.specs.declared.plan.Plan.{Plan}
use Rattle.acct_rows.proofs.Changed.{follow, none_or_stay, puts_fit}
use Rattle.acct_rows.proofs.Fitting.{all_fit}
use Rattle.acct_rows.proofs.pairs.changes.plan_changes.Goals as goal

-- what is pushed one after the other are the changes of the plan
joined : (lists : Lists) (plan : Plan) (items before : List Change) (next last : ℕ)
    → items ≡ before ++ next_out_written next last
    → before ≡ removals lists plan.puts plan.removes ++ rows_written lists plan.puts
    → next ≡ lists.next_out → last ≡ next_past lists.next_out plan.puts → items ≡ changes_of lists plan
joined lists plan items before next last all e n l =
    let rs = removals lists plan.puts plan.removes in
    let ws = rows_written lists plan.puts in
    all ∙ ap (λ cs. cs ++ next_out_written next last) e
    ∙ ap (λ m. (rs ++ ws) ++ next_out_written m last) n
    ∙ ap (λ m. (rs ++ ws) ++ next_out_written lists.next_out m) l
    ∙ append_assoc rs ws (next_out_written lists.next_out (next_past lists.next_out plan.puts))

pub push_rows-requires-clause-rows : goal.push_rows-requires-clause-rows
push_rows-requires-clause-rows c = all_fit c.args.rows.now.lists c.requires.before

pub push_rows-requires-clause-puts : goal.push_rows-requires-clause-puts
push_rows-requires-clause-puts c =
    subst LastFit (sym c.as_slice-puts.ensures)
    (puts_fit c.written_bytes_are_read.ensures c.written_bytes_have_lengths.ensures c.read_bytes_are_written.ensures
    c.equal_sids_are_one.ensures c.args.rows.now.lists c.args.plan.now c.requires.before c.requires.after)

pub returns-clause-follows : goal.returns-clause-follows
returns-clause-follows c =
    let lists = c.args.rows.now.lists in
    let plan = c.args.plan.now in
    let past : c.push_rows.new.changes.items ≡ removals lists plan.puts plan.removes ++ rows_written lists plan.puts =
    search rules in
    let later : c.next_past.result ≡ next_past lists.next_out plan.puts = search rules in
    let is : c.push_next_out.new.changes.items ≡ changes_of lists plan =
    joined lists plan _ _ _ _ c.in_ok-push_next_out.ensures past c.next_out-next.ensures later in
    subst (λ cs. Follow lists (after plan lists) cs) (sym is)
    (follow c.written_bytes_are_read.ensures c.written_bytes_have_lengths.ensures c.read_bytes_are_written.ensures
    c.equal_sids_are_one.ensures lists plan c.requires.before c.requires.after)

pub returns-clause-none : goal.returns-clause-none
returns-clause-none c =
    let lists = c.args.rows.now.lists in
    let plan = c.args.plan.now in
    let past : c.push_rows.new.changes.items ≡ removals lists plan.puts plan.removes ++ rows_written lists plan.puts =
    search rules in
    let later : c.next_past.result ≡ next_past lists.next_out plan.puts = search rules in
    let is : c.push_next_out.new.changes.items ≡ changes_of lists plan =
    joined lists plan _ _ _ _ c.in_ok-push_next_out.ensures past c.next_out-next.ensures later in
    subst (λ cs. (cs ≡ []) ↔ (after plan lists ≡ lists)) (sym is)
    (none_or_stay c.written_bytes_are_read.ensures c.written_bytes_have_lengths.ensures c.read_bytes_are_written.ensures
    c.equal_sids_are_one.ensures lists plan c.requires.before c.requires.after)

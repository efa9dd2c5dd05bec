-- The RIDs of all SIDs, sorted and without those that stand twice, ascend strictly and are the same RIDs.
use Rattle.std.proofs.Common.{◌≡◌, sym, ap, subst, ◌∙◌}
use Rattle.std.proofs.lemmas.List.{take_all}
use Rattle.std.proofs.lemmas.List.Filters.{dedup_is}
use Rattle.std.proofs.lemmas.List.Kept.{Contains-dedup_nat, Contains-from_dedup}
use Rattle.std.proofs.lemmas.List.Sorted.{Contains-permutation, IsPermutation-sym}
use Rattle.std.proofs.lemmas.Map.Keys.{IsStrictlyIncreasing-dedup}
use Rattle.std.specs.List.{Contains}
use Rattle.acct_tables.specs.steps.Indexes.{held_by}
use Rattle.acct_tables.proofs.Holding.{numbers_rise}
use Rattle.acct_tables.proofs.membership.aliases_among.Goals as goal

pub returns-clause-rising : goal.returns-clause-rising
returns-clause-rising c =
    let is = c.from_vec.ensures ∙ dedup_is _ _ _ c.dedup.ensures.filtered in
    rw is (numbers_rise _ (IsStrictlyIncreasing-dedup _ c.sort_unstable.ensures.sorted))

pub returns-clause-members : goal.returns-clause-members
returns-clause-members c =
    let is = c.from_vec.ensures ∙ dedup_is _ _ _ c.dedup.ensures.filtered in
    let moved = c.sort_unstable.ensures.permutation in
    let all : c.loop-sid.rids.items ≡ held_by c.args.domain c.args.rows.now c.args.sids.now =
    c.loop-sid.invariant ∙ ap (held_by c.args.domain c.args.rows.now)
    (take_all c.loop-sid.sid-index c.args.sids.now c.loop-sid-test.false) in
    λ rid. (
      λ h. subst (λ ns. Contains ns rid) all
          (Contains-permutation _ _ rid (IsPermutation-sym _ _ moved) (Contains-from_dedup _ _ rid (rw is at h))),
      λ h. rw is (Contains-dedup_nat _ rid
          (Contains-permutation _ _ rid moved (subst (λ ns. Contains ns rid) (sym all) h))),
    )

-- A put is found at its key alone.
use Rattle.std.proofs.Common.{◌≡◌, ℕ, List, [], ◌∷◌}
use Rattle.acct_tables.specs.Keys.{domain_key, account_key, member_key, alias_key, lsa_key, desc_key, out_key, sid_key}
use Rattle.acct_tables.specs.Keys.{object_key}
use Rattle.acct_tables.proofs.Equals.{one_sid}
use Rattle.acct_tables.proofs.ObjectKeys.{one_object}
use Rattle.acct_tables.proofs.Lookups.{put_elsewhere}
use Rattle.acct_rows.proofs.laws.puts_leave_others.Goals as goal

first : (m n : ℕ) (ms ns : List ℕ) → m ∷ ms ≡ n ∷ ns → m ≡ n
first m n ms ns e = cc

rest : (m n : ℕ) (ms ns : List ℕ) → m ∷ ms ≡ n ∷ ns → ms ≡ ns
rest m n ms ns e = cc

pub returns : goal.returns
returns c = λ r. record {
  domain = λ d n apart. put_elsewhere domain_key (n ∷ []) d r.domains (λ same. apart (first _ _ _ _ same));
  account = λ a n i apart. put_elsewhere account_key (n ∷ i ∷ []) a r.accounts (λ same. apart (
    first _ _ _ _ same,
    first _ _ _ _ (rest _ _ _ _ same),
  ));
  member = λ m g u apart. put_elsewhere member_key (g ∷ u ∷ []) m r.members (λ same. apart (
    first _ _ _ _ same,
    first _ _ _ _ (rest _ _ _ _ same),
  ));
  alias = λ a n i s apart. put_elsewhere alias_key (n ∷ i ∷ sid_key s) a r.aliases (λ same. apart (
    first _ _ _ _ same,
    first _ _ _ _ (rest _ _ _ _ same),
    one_sid s a.member (rest _ _ _ _ (rest _ _ _ _ same)),
  ));
  lsa = λ l s apart. put_elsewhere lsa_key (sid_key s) l r.lsa (λ same. apart (one_sid s l.sid same));
  desc = λ d x apart. put_elsewhere desc_key (object_key x) d r.descriptors
      (λ same. apart (one_object x d.object same));
  out = λ o n apart. put_elsewhere out_key (n ∷ []) o r.outs (λ same. apart (first _ _ _ _ same));
}

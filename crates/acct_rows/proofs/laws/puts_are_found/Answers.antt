-- A row of any list is found at its key once it was put.
use Rattle.acct_tables.specs.Keys.{domain_key, account_key, member_key, alias_key, lsa_key, desc_key, out_key}
use Rattle.acct_tables.proofs.Lookups.{put_here}
use Rattle.acct_rows.proofs.laws.puts_are_found.Goals as goal

pub returns : goal.returns
returns c = λ r. record {
  domain = λ d. put_here domain_key d r.domains;
  account = λ a. put_here account_key a r.accounts;
  member = λ m. put_here member_key m r.members;
  alias = λ a. put_here alias_key a r.aliases;
  lsa = λ l. put_here lsa_key l r.lsa;
  desc = λ d. put_here desc_key d r.descriptors;
  out = λ o. put_here out_key o r.outs;
}

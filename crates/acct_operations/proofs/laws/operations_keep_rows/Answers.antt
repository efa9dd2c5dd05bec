-- Each operation of the table keeps the rows sound, and what it opens is there.
use Rattle.acct_calls.specs.declared.calls.Face.TheVariants.{Samr, Lsa}
use Rattle.acct_codes.specs.Opnums.{samr_connect2, samr_connect4, samr_connect5, samr_close_handle, lsar_open_policy2}
use Rattle.acct_codes.specs.Opnums.{lsar_close, samr_query_security_object, lsar_query_security_object}
use Rattle.acct_rules.specs.declared.profile.Kinds.TheVariants as kinds
use Rattle.acct_rules.specs.Operations.{KeepsRows}
use Rattle.acct_operations.proofs.Each.{Own, each}
use Rattle.acct_operations.proofs.Ruling.{connect-keeps, open_policy-keeps, close-keeps}
use Rattle.acct_operations.proofs.Securing.{query-keeps, samr-set-keeps, lsa-set-keeps}
use Rattle.acct_rows.specs.Laws.{DescriptorsStaySound}
use Rattle.dtyp_access.specs.Spelled.{ReadPartsAreParts}
use Rattle.acct_operations.proofs.laws.operations_keep_rows.Goals as goal

own : ReadPartsAreParts → DescriptorsStaySound → Own KeepsRows
own read stay = record {
  connect2 = connect-keeps Samr samr_connect2;
  connect4 = connect-keeps Samr samr_connect4;
  connect5 = connect-keeps Samr samr_connect5;
  close_handle = close-keeps Samr samr_close_handle kinds.Samr;
  open_policy2 = open_policy-keeps Lsa lsar_open_policy2;
  close_policy = close-keeps Lsa lsar_close kinds.Lsa;
  samr_set_security = samr-set-keeps read stay kinds.Samr;
  samr_query_security = query-keeps Samr samr_query_security_object kinds.Samr;
  lsar_query_security = query-keeps Lsa lsar_query_security_object kinds.Lsa;
  lsar_set_security = lsa-set-keeps read stay kinds.Lsa;
}

pub returns : goal.returns
returns c =
    each KeepsRows (own c.read_parts_are_parts.ensures c.descriptors_stay_sound.ensures) c.operations_keep_rows-4.ensures
    c.operations_keep_rows-3.ensures
    c.operations_keep_rows.ensures c.operations_keep_rows-2.ensures

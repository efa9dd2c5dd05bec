-- Each operation of the table is right, and is found by its interface and its opnum.
use Rattle.std.proofs.Common.{◌≡◌, lit<, Some, refl}
use Rattle.acct_calls.specs.declared.calls.Face.TheVariants.{Samr, Lsa}
use Rattle.acct_codes.specs.Opnums.{samr_connect2, samr_connect4, samr_connect5, samr_close_handle, lsar_open_policy2}
use Rattle.acct_codes.specs.Opnums.{lsar_close, samr_set_security_object, samr_query_security_object}
use Rattle.acct_codes.specs.Opnums.{lsar_query_security_object, lsar_set_security_object}
use Rattle.acct_layouts.specs.ReplyShapes.{HasShape}
use Rattle.acct_layouts.specs.Table.{samr_layout, lsa_layout}
use Rattle.acct_rules.specs.declared.profile.Kinds.TheVariants as kinds
use Rattle.acct_rules.specs.Operations.{IsRight}
use Rattle.acct_operations.specs.declared.table.Work.{Work}
use Rattle.acct_operations.specs.declared.table.Work.TheVariants as works
use Rattle.acct_operations.specs.Table.{operation, work_of}
use Rattle.acct_operations.proofs.Each.{Own, each}
use Rattle.acct_operations.proofs.Finding.{work-of-face, work-of-opnum}
use Rattle.acct_operations.proofs.Ruling.{connect-right, open_policy-right, close-right}
use Rattle.acct_operations.proofs.Securing.{query-right, set-right}
use Rattle.dtyp_access.specs.Spelled.{WrittenAreBytes}
use Rattle.acct_operations.proofs.laws.operations_are_right.Goals as goal

own : WrittenAreBytes → Own IsRight
unfolding HasShape samr_layout lsa_layout
own written = record {
  connect2 = connect-right Samr samr_connect2 refl (lit< tt, lit< tt, λ r. refl);
  connect4 = connect-right Samr samr_connect4 refl (lit< tt, lit< tt, λ r. refl);
  connect5 = connect-right Samr samr_connect5 refl (lit< tt, lit< tt, λ r. refl);
  close_handle = close-right Samr samr_close_handle kinds.Samr refl (lit< tt, lit< tt, λ r. refl);
  open_policy2 = open_policy-right Lsa lsar_open_policy2 refl (lit< tt, lit< tt, λ r. refl);
  close_policy = close-right Lsa lsar_close kinds.Lsa refl (lit< tt, lit< tt, λ r. refl);
  samr_set_security =
      set-right Samr samr_set_security_object kinds.Samr refl (lit< tt, tt, λ r. refl);
  samr_query_security =
      query-right written Samr samr_query_security_object kinds.Samr refl
      (λ bytes are. (lit< tt, are, λ r. refl));
  lsar_query_security =
      query-right written Lsa lsar_query_security_object kinds.Lsa refl
      (λ bytes are. (lit< tt, are, λ r. refl));
  lsar_set_security =
      set-right Lsa lsar_set_security_object kinds.Lsa refl (lit< tt, tt, λ r. refl);
}

-- the last case is checked at each of the others
found : (work : Work) → work_of (operation work).profile.face (operation work).profile.opnum ≡ Some work
unfolding work_of operation
found works.SamrConnect2 = refl
found _ = refl

pub returns : goal.returns
returns c = record {
  right =
      each IsRight (own c.written_are_bytes.ensures) c.operations_are_right-4.ensures c.operations_are_right-3.ensures
      c.operations_are_right.ensures c.operations_are_right-2.ensures;
  found = found;
  face = work-of-face;
  opnum = work-of-opnum;
}

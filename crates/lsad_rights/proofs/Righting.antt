-- Each operation on an account of the policy has its layout, its statuses, and the outputs of its layout.
use Rattle.std.proofs.Common.{refl, lit<}
use Rattle.acct_layouts.specs.ReplyShapes.{HasShape}
use Rattle.acct_layouts.specs.Table.{samr_layout, lsa_layout}
use Rattle.acct_rules.specs.Asked.{asked_sid}
use Rattle.acct_rules.specs.Operations.{IsRight}
use Rattle.lsad_rights.specs.Accounts.{account_of, account_of_sid}
use Rattle.lsad_rights.specs.Holdings.{with_privileges, without_privileges, with_access}
use Rattle.lsad_rights.specs.RightsChanges.{brought_sid, brought_names}
use Rattle.lsad_rights.specs.Table.{create_account_in_policy, open_account_in_policy, delete_object}
use Rattle.lsad_rights.specs.Table.{add_privileges_to_account, remove_privileges_from_account}
use Rattle.lsad_rights.specs.Table.{set_system_access_account, add_account_rights, remove_account_rights}
use Rattle.lsad_rights.proofs.Modest.{modest-new, modest-keys, modest-changed, modest-added, modest-left}

pub create_account-right : IsRight create_account_in_policy
unfolding HasShape samr_layout lsa_layout
create_account-right = record {
  laid_out = refl;
  refuses = λ r described object asked. refl;
  succeeds = λ r described object asked. refl;
  frugal = λ r described object asked. refl;
  modest = λ r described object asked. modest-new (asked_sid asked);
  shaped = λ r described object call few is none. (lit< tt, lit< tt, λ refused. refl);
}

pub open_account-right : IsRight open_account_in_policy
unfolding HasShape samr_layout lsa_layout
open_account-right = record {
  laid_out = refl;
  refuses = λ r described object asked. refl;
  succeeds = λ r described object asked. refl;
  frugal = λ r described object asked. refl;
  modest = λ r described object asked. refl;
  shaped = λ r described object call few is none. (lit< tt, lit< tt, λ refused. refl);
}

pub delete_account-right : IsRight delete_object
unfolding HasShape samr_layout lsa_layout
delete_account-right = record {
  laid_out = refl;
  refuses = λ r described object asked. refl;
  succeeds = λ r described object asked. refl;
  frugal = λ r described object asked. refl;
  modest = λ r described object asked. modest-keys object;
  shaped = λ r described object call few is none. (lit< tt, lit< tt, λ refused. refl);
}

pub add_privileges-right : IsRight add_privileges_to_account
unfolding HasShape samr_layout lsa_layout
add_privileges-right = record {
  laid_out = refl;
  refuses = λ r described object asked. refl;
  succeeds = λ r described object asked. refl;
  frugal = λ r described object asked. refl;
  modest = λ r described object asked. modest-changed (with_privileges asked) (account_of r object);
  shaped = λ r described object call few is none. (lit< tt, tt, λ refused. refl);
}

pub remove_privileges-right : IsRight remove_privileges_from_account
unfolding HasShape samr_layout lsa_layout
remove_privileges-right = record {
  laid_out = refl;
  refuses = λ r described object asked. refl;
  succeeds = λ r described object asked. refl;
  frugal = λ r described object asked. refl;
  modest = λ r described object asked. modest-changed (without_privileges asked) (account_of r object);
  shaped = λ r described object call few is none. (lit< tt, tt, λ refused. refl);
}

pub set_system_access-right : IsRight set_system_access_account
unfolding HasShape samr_layout lsa_layout
set_system_access-right = record {
  laid_out = refl;
  refuses = λ r described object asked. refl;
  succeeds = λ r described object asked. refl;
  frugal = λ r described object asked. refl;
  modest = λ r described object asked. modest-changed (with_access asked) (account_of r object);
  shaped = λ r described object call few is none. (lit< tt, tt, λ refused. refl);
}

pub add_rights-right : IsRight add_account_rights
unfolding HasShape samr_layout lsa_layout
add_rights-right = record {
  laid_out = refl;
  refuses = λ r described object asked. refl;
  succeeds = λ r described object asked. refl;
  frugal = λ r described object asked. refl;
  modest = λ r described object asked. modest-added r (brought_sid asked) (brought_names asked);
  shaped = λ r described object call few is none. (lit< tt, tt, λ refused. refl);
}

pub remove_rights-right : IsRight remove_account_rights
unfolding HasShape samr_layout lsa_layout
remove_rights-right = record {
  laid_out = refl;
  refuses = λ r described object asked. refl;
  succeeds = λ r described object asked. refl;
  frugal = λ r described object asked. refl;
  modest = λ r described object asked. modest-left asked (account_of_sid r (brought_sid asked));
  shaped = λ r described object call few is none. (lit< tt, tt, λ refused. refl);
}

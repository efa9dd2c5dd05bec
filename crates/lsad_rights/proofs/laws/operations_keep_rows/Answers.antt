-- What is shown or listed changes nothing.
use Rattle.lsad_rights.proofs.Keeping.{answers-keep, guarded-keep}
use Rattle.lsad_rights.proofs.Changing.{create_account-keeps, open_account-keeps, delete_account-keeps}
use Rattle.lsad_rights.proofs.Changing.{add_privileges-keeps, remove_privileges-keeps, set_system_access-keeps}
use Rattle.lsad_rights.proofs.Changing.{add_rights-keeps, remove_rights-keeps}
use Rattle.lsad_rights.proofs.laws.operations_keep_rows.Goals as goal

pub returns : goal.returns
returns c = record {
  list_privileges = λ r described object call is none. answers-keep r _ _ is.rows;
  query_policy = λ r described object call is none. answers-keep r _ _ is.rows;
  query_policy2 = λ r described object call is none. answers-keep r _ _ is.rows;
  list_accounts = λ r described object call is none. answers-keep r _ _ is.rows;
  privilege_value = λ r described object call is none. answers-keep r _ _ is.rows;
  privilege_name = λ r described object call is none. answers-keep r _ _ is.rows;
  accounts_with_right = λ r described object call is none. answers-keep r _ _ is.rows;
  account_rights = λ r described object call is none. guarded-keep r _ _ _ _ is.rows;
  account_privileges = λ r described object call is none. answers-keep r _ _ is.rows;
  system_access = λ r described object call is none. answers-keep r _ _ is.rows;
  create_account = create_account-keeps c.lsa_accounts_stay_sound.ensures c.puts_are_found.ensures;
  open_account = open_account-keeps;
  delete_account = delete_account-keeps c.removed_lsa_accounts_stay_sound.ensures;
  add_privileges = add_privileges-keeps c.lsa_accounts_stay_sound.ensures;
  remove_privileges = remove_privileges-keeps c.lsa_accounts_stay_sound.ensures;
  set_system_access = set_system_access-keeps c.lsa_accounts_stay_sound.ensures;
  add_rights = add_rights-keeps c.lsa_accounts_stay_sound.ensures;
  remove_rights = remove_rights-keeps c.lsa_accounts_stay_sound.ensures;
}

-- Each operation has its layout, its statuses, and the outputs of its layout.
use Rattle.std.proofs.Common.{List, refl, lit<}
use Rattle.acct_calls.specs.declared.calls.Args.{Args}
use Rattle.acct_calls.specs.declared.calls.Face.TheVariants.{Lsa}
use Rattle.acct_calls.specs.declared.lists.RidName.{RidName}
use Rattle.acct_codes.specs.Opnums.{lsar_enumerate_privileges, lsar_enumerate_accounts}
use Rattle.acct_layouts.specs.ReplyShapes.{HasShape}
use Rattle.acct_layouts.specs.Table.{samr_layout, lsa_layout}
use Rattle.acct_rows.specs.Laws.{EachIsGood, EachLsaIsGood}
use Rattle.acct_rows.specs.Rows.{Lists}
use Rattle.acct_rules.specs.Asked.{asked_context, asked_length, asked_name, asked_sid, class_of}
use Rattle.acct_rules.specs.Operations.{IsRight}
use Rattle.acct_rules.specs.Pages.{page, entry_cost}
use Rattle.dtyp_sid.specs.Sids.{SidValue}
use Rattle.lsad_rights.specs.Accounts.{account_of, account_of_sid, is_shown}
use Rattle.lsad_rights.specs.Listings.{accounts_asked, accounts_wanted, sid_cost, privileges_left, accounts_left}
use Rattle.lsad_rights.specs.Listings.{privilege_asked, privilege_of_luid}
use Rattle.lsad_rights.specs.Table.{enumerate_privileges, query_information_policy, query_information_policy2}
use Rattle.lsad_rights.specs.Table.{enumerate_accounts, lookup_privilege_value, lookup_privilege_name}
use Rattle.lsad_rights.specs.Table.{enumerate_accounts_with_user_right, enumerate_account_rights}
use Rattle.lsad_rights.specs.Table.{enumerate_privileges_account, get_system_access_account}
use Rattle.lsad_rights.proofs.Asking.{arguments, context-long}
use Rattle.lsad_rights.proofs.Shaping.{listed-full, listed-long, holders-full, holders-long, low-in-long, name-there}
use Rattle.lsad_rights.proofs.Shaping.{privileges-shaped, accounts-shaped, holders-shaped, policy-shaped}
use Rattle.lsad_rights.proofs.Shaping.{class-is-shown, asked-good, object-good, privileges-held, access-long}
use Rattle.lsad_rights.proofs.Shaping.{names-shaped}
use Rattle.lsad_rights.proofs.Righting.{create_account-right, open_account-right, delete_account-right}
use Rattle.lsad_rights.proofs.Righting.{add_privileges-right, remove_privileges-right, set_system_access-right}
use Rattle.lsad_rights.proofs.Righting.{add_rights-right, remove_rights-right}
use Rattle.lsad_rights.proofs.laws.operations_are_right.Goals as goal

-- what a page of an enumeration has
abbrev privileges_given : Args → List RidName
privileges_given asked = page entry_cost (asked_length asked) (privileges_left (asked_context asked))

abbrev accounts_given : Args → Lists → List SidValue
accounts_given asked r = page sid_cost (asked_length asked) (accounts_left (asked_context asked) r)

list_privileges : IsRight enumerate_privileges
unfolding HasShape samr_layout lsa_layout
list_privileges = record {
  laid_out = refl;
  refuses = λ r described object asked. refl;
  succeeds = λ r described object asked. listed-full (privileges_given asked) (privileges_left (asked_context asked));
  frugal = λ r described object asked. refl;
  modest = λ r described object asked. refl;
  shaped = λ r described object call few is none. (
    listed-long (privileges_given call.args) (privileges_left (asked_context call.args)),
    privileges-shaped (asked_context call.args) (asked_length call.args)
        (context-long call.args (arguments call Lsa lsar_enumerate_privileges is.face is.opnum is.spelled).1),
    λ refused. refl,
  );
}

list_accounts : EachLsaIsGood → IsRight enumerate_accounts
unfolding HasShape samr_layout lsa_layout
list_accounts each = record {
  laid_out = refl;
  refuses = λ r described object asked. refl;
  succeeds = λ r described object asked. listed-full (accounts_given asked r) (accounts_left (asked_context asked) r);
  frugal = λ r described object asked. refl;
  modest = λ r described object asked. refl;
  shaped = λ r described object call few is none. (
    listed-long (accounts_given call.args r) (accounts_left (asked_context call.args) r),
    accounts-shaped each r (asked_context call.args) (asked_length call.args) few is.rows
        (context-long call.args (arguments call Lsa lsar_enumerate_accounts is.face is.opnum is.spelled).1),
    λ refused. refl,
  );
}

query_policy : EachIsGood → IsRight query_information_policy
unfolding HasShape samr_layout lsa_layout
query_policy each = record {
  laid_out = refl;
  refuses = λ r described object asked. refl;
  succeeds = λ r described object asked. refl;
  frugal = λ r described object asked. refl;
  modest = λ r described object asked. refl;
  shaped = λ r described object call few is none. (
    lit< tt,
    policy-shaped each r (class_of call.args) is.rows (class-is-shown (is_shown (class_of call.args)) none),
    λ refused. refl,
  );
}

query_policy2 : EachIsGood → IsRight query_information_policy2
unfolding HasShape samr_layout lsa_layout
query_policy2 each = record {
  laid_out = refl;
  refuses = λ r described object asked. refl;
  succeeds = λ r described object asked. refl;
  frugal = λ r described object asked. refl;
  modest = λ r described object asked. refl;
  shaped = λ r described object call few is none. (
    lit< tt,
    policy-shaped each r (class_of call.args) is.rows (class-is-shown (is_shown (class_of call.args)) none),
    λ refused. refl,
  );
}

privilege_value : IsRight lookup_privilege_value
unfolding HasShape samr_layout lsa_layout
privilege_value = record {
  laid_out = refl;
  refuses = λ r described object asked. refl;
  succeeds = λ r described object asked. refl;
  frugal = λ r described object asked. refl;
  modest = λ r described object asked. refl;
  shaped = λ r described object call few is none. (
    lit< tt,
    (low-in-long (privilege_asked (asked_name call.args)), lit< tt),
    λ refused. refl,
  );
}

privilege_name : IsRight lookup_privilege_name
unfolding HasShape samr_layout lsa_layout
privilege_name = record {
  laid_out = refl;
  refuses = λ r described object asked. refl;
  succeeds = λ r described object asked. refl;
  frugal = λ r described object asked. refl;
  modest = λ r described object asked. refl;
  shaped = λ r described object call few is none. (
    lit< tt,
    name-there (privilege_of_luid call.args),
    λ refused. refl,
  );
}

accounts_with_right : EachLsaIsGood → IsRight enumerate_accounts_with_user_right
unfolding HasShape samr_layout lsa_layout
accounts_with_right each = record {
  laid_out = refl;
  refuses = λ r described object asked. refl;
  succeeds = λ r described object asked. holders-full (accounts_wanted (accounts_asked (asked_name asked)) r);
  frugal = λ r described object asked. refl;
  modest = λ r described object asked. refl;
  shaped = λ r described object call few is none. (
    holders-long (accounts_wanted (accounts_asked (asked_name call.args)) r),
    holders-shaped each r (accounts_asked (asked_name call.args)) few is.rows,
    λ refused. refl,
  );
}

account_rights : IsRight enumerate_account_rights
unfolding HasShape samr_layout lsa_layout
account_rights = record {
  laid_out = refl;
  refuses = λ r described object asked. refl;
  succeeds = λ r described object asked. refl;
  frugal = λ r described object asked. refl;
  modest = λ r described object asked. refl;
  shaped = λ r described object call few is none. (
    lit< tt,
    names-shaped (account_of_sid r (asked_sid call.args)) (asked-good r (asked_sid call.args) is.rows),
    λ refused. refl,
  );
}

account_privileges : IsRight enumerate_privileges_account
unfolding HasShape samr_layout lsa_layout
account_privileges = record {
  laid_out = refl;
  refuses = λ r described object asked. refl;
  succeeds = λ r described object asked. refl;
  frugal = λ r described object asked. refl;
  modest = λ r described object asked. refl;
  shaped = λ r described object call few is none. (
    lit< tt,
    privileges-held (account_of r object) (object-good r object is.rows),
    λ refused. refl,
  );
}

system_access : IsRight get_system_access_account
unfolding HasShape samr_layout lsa_layout
system_access = record {
  laid_out = refl;
  refuses = λ r described object asked. refl;
  succeeds = λ r described object asked. refl;
  frugal = λ r described object asked. refl;
  modest = λ r described object asked. refl;
  shaped = λ r described object call few is none. (
    lit< tt,
    access-long (account_of r object) (object-good r object is.rows),
    λ refused. refl,
  );
}

pub returns : goal.returns
returns c = record {
  list_privileges = list_privileges;
  query_policy = query_policy c.each_is_good.ensures;
  query_policy2 = query_policy2 c.each_is_good.ensures;
  list_accounts = list_accounts c.each_lsa_is_good.ensures;
  privilege_value = privilege_value;
  privilege_name = privilege_name;
  accounts_with_right = accounts_with_right c.each_lsa_is_good.ensures;
  account_rights = account_rights;
  account_privileges = account_privileges;
  system_access = system_access;
  create_account = create_account-right;
  open_account = open_account-right;
  delete_account = delete_account-right;
  add_privileges = add_privileges-right;
  remove_privileges = remove_privileges-right;
  set_system_access = set_system_access-right;
  add_rights = add_rights-right;
  remove_rights = remove_rights-right;
}

-- Each operation has its layout, its statuses, and the outputs of its layout.
use Rattle.std.proofs.Common.{◌≡◌, ◌≤◌, List, length, map, drop, lit<, refl}
use Rattle.acct_calls.specs.declared.calls.Args.{Args}
use Rattle.acct_calls.specs.declared.calls.Call.{Call}
use Rattle.acct_calls.specs.declared.calls.Face.TheVariants.{Samr}
use Rattle.acct_calls.specs.declared.lists.RidName.{RidName}
use Rattle.acct_codes.specs.Opnums.{samr_lookup_names_in_domain, samr_lookup_ids_in_domain, samr_rid_to_sid}
use Rattle.acct_codes.specs.Opnums.{samr_enumerate_domains_in_sam_server}
use Rattle.acct_layouts.specs.Values.{IsLong}
use Rattle.acct_layouts.specs.CallShapes.{CanBeSpelled}
use Rattle.acct_layouts.specs.ReplyShapes.{HasShape}
use Rattle.acct_layouts.specs.Table.{samr_layout, lsa_layout}
use Rattle.acct_rows.specs.Laws.{EachIsGood}
use Rattle.acct_tables.specs.Keys.{domain_of}
use Rattle.acct_rows.specs.Rows.{Lists, find_name, account_at}
use Rattle.acct_rules.specs.Asked.{asked_name, asked_names, asked_rids, asked_rid, asked_context, asked_length}
use Rattle.acct_rules.specs.Operations.{IsRight}
use Rattle.acct_rules.specs.Pages.{page, leaves_some, entry_cost}
use Rattle.samr_objects.specs.Domains.{listed, use_in}
use Rattle.samr_objects.specs.Table.{lookup_domain_in_sam_server, enumerate_domains_in_sam_server}
use Rattle.samr_objects.specs.Table.{open_domain_in_sam_server, lookup_names_in_domain, lookup_ids_in_domain}
use Rattle.samr_objects.specs.Table.{open_group_in_domain, open_alias_in_domain, open_user_in_domain}
use Rattle.samr_objects.specs.Table.{sid_of_rid_in_domain}
use Rattle.samr_objects.proofs.Asking.{arguments, asks}
use Rattle.samr_objects.proofs.Listing.{list_groups-right, list_aliases-right, list_users-right}
use Rattle.samr_objects.proofs.DisplayShapes.{query_display-right}
use Rattle.samr_objects.proofs.Deleting.{delete_group-right, delete_alias-right, delete_user-right}
use Rattle.samr_objects.proofs.Creating.{create_group-right, create_alias-right, create_user-right, create_user2-right}
use Rattle.samr_objects.proofs.Paging.{page-few-left, context-long}
use Rattle.samr_objects.proofs.Setting.{set_domain-right, set_group-right, set_alias-right, set_user-right}
use Rattle.samr_objects.proofs.Setting.{set_user2-right}
use Rattle.samr_objects.proofs.Querying.{query_domain-right, query_domain2-right, query_group-right, query_alias-right}
use Rattle.samr_objects.proofs.Querying.{query_user-right, query_user2-right}
use Rattle.samr_objects.proofs.Shaping.{mapped-full, mapped-long, page-full, page-long, sid-shaped, rid-shaped}
use Rattle.samr_objects.proofs.Shaping.{page-shaped, rids-shaped, uses-shaped, names-shaped}
use Rattle.samr_objects.proofs.laws.operations_are_right.Goals as goal

few-names : (call : Call) → call.face ≡ Samr → call.opnum ≡ samr_lookup_names_in_domain → CanBeSpelled call
    → length (asked_names call.args) ≤ 1000
unfolding samr_layout
few-names call face opnum spelled = (asks call.args).names
    (arguments call Samr samr_lookup_names_in_domain face opnum spelled).1

few-rids : (call : Call) → call.face ≡ Samr → call.opnum ≡ samr_lookup_ids_in_domain → CanBeSpelled call
    → length (asked_rids call.args) ≤ 1000
unfolding samr_layout
few-rids call face opnum spelled = (asks call.args).rids
    (arguments call Samr samr_lookup_ids_in_domain face opnum spelled).1

long-context : (call : Call) → call.face ≡ Samr → call.opnum ≡ samr_enumerate_domains_in_sam_server
    → CanBeSpelled call → IsLong (asked_context call.args)
unfolding samr_layout
long-context call face opnum spelled =
    (asks call.args).page (arguments call Samr samr_enumerate_domains_in_sam_server face opnum spelled).1

long-rid : (call : Call) → call.face ≡ Samr → call.opnum ≡ samr_rid_to_sid → CanBeSpelled call
    → IsLong (asked_rid call.args)
unfolding samr_layout
long-rid call face opnum spelled = (asks call.args).rid (arguments call Samr samr_rid_to_sid face opnum spelled).1

look_domain : EachIsGood → IsRight lookup_domain_in_sam_server
unfolding HasShape samr_layout lsa_layout
look_domain each = record {
  laid_out = refl;
  refuses = λ r described object asked. refl;
  succeeds = λ r described object asked. refl;
  frugal = λ r described object asked. refl;
  modest = λ r described object asked. refl;
  shaped = λ r described object call few is none. (lit< tt, sid-shaped each r (asked_name call.args) is.rows, λ refused. refl);
}

abbrev left-of : Lists → Args → List RidName
left-of r asked = map listed (drop (asked_context asked) r.domains)

abbrev page-of : Lists → Args → List RidName
page-of r asked = page entry_cost (asked_length asked) (left-of r asked)

list_domains : EachIsGood → IsRight enumerate_domains_in_sam_server
unfolding HasShape samr_layout lsa_layout
list_domains each = record {
  laid_out = refl;
  refuses = λ r described object asked. refl;
  succeeds = λ r described object asked. page-full (leaves_some (page-of r asked) (left-of r asked));
  frugal = λ r described object asked. refl;
  modest = λ r described object asked. refl;
  shaped = λ r described object call few is none. (
    page-long (leaves_some (page-of r call.args) (left-of r call.args)),
    (
      context-long (asked_context call.args) (asked_length call.args) r.domains few.domains
          (long-context call is.face is.opnum is.spelled),
      (
        page-few-left (asked_context call.args) (asked_length call.args) r.domains few.domains,
        page-shaped each r (asked_context call.args) (asked_length call.args) is.rows,
      ),
    ),
    λ refused. refl,
  );
}

open_domain : IsRight open_domain_in_sam_server
unfolding HasShape samr_layout lsa_layout
open_domain = record {
  laid_out = refl;
  refuses = λ r described object asked. refl;
  succeeds = λ r described object asked. refl;
  frugal = λ r described object asked. refl;
  modest = λ r described object asked. refl;
  shaped = λ r described object call few is none. (lit< tt, lit< tt, λ refused. refl);
}

look_names : EachIsGood → IsRight lookup_names_in_domain
unfolding HasShape samr_layout lsa_layout
look_names each = record {
  laid_out = refl;
  refuses = λ r described object asked. refl;
  succeeds = λ r described object asked. mapped-full (map use_in (map (find_name r (domain_of object)) (asked_names asked)));
  frugal = λ r described object asked. refl;
  modest = λ r described object asked. refl;
  shaped = λ r described object call few is none.
      let most = few-names call is.face is.opnum is.spelled in (
        mapped-long (map use_in (map (find_name r (domain_of object)) (asked_names call.args))),
        (
          rids-shaped each r (domain_of object) (asked_names call.args) is.rows most,
          uses-shaped (find_name r (domain_of object)) (asked_names call.args) most,
        ),
        λ refused. refl,
      );
}

look_ids : IsRight lookup_ids_in_domain
unfolding HasShape samr_layout lsa_layout
look_ids = record {
  laid_out = refl;
  refuses = λ r described object asked. refl;
  succeeds = λ r described object asked. mapped-full (map use_in (map (account_at r (domain_of object)) (asked_rids asked)));
  frugal = λ r described object asked. refl;
  modest = λ r described object asked. refl;
  shaped = λ r described object call few is none.
      let most = few-rids call is.face is.opnum is.spelled in (
        mapped-long (map use_in (map (account_at r (domain_of object)) (asked_rids call.args))),
        (
          names-shaped r (domain_of object) (asked_rids call.args) is.rows most,
          uses-shaped (account_at r (domain_of object)) (asked_rids call.args) most,
        ),
        λ refused. refl,
      );
}

open_group : IsRight open_group_in_domain
unfolding HasShape samr_layout lsa_layout
open_group = record {
  laid_out = refl;
  refuses = λ r described object asked. refl;
  succeeds = λ r described object asked. refl;
  frugal = λ r described object asked. refl;
  modest = λ r described object asked. refl;
  shaped = λ r described object call few is none. (lit< tt, lit< tt, λ refused. refl);
}

open_alias : IsRight open_alias_in_domain
unfolding HasShape samr_layout lsa_layout
open_alias = record {
  laid_out = refl;
  refuses = λ r described object asked. refl;
  succeeds = λ r described object asked. refl;
  frugal = λ r described object asked. refl;
  modest = λ r described object asked. refl;
  shaped = λ r described object call few is none. (lit< tt, lit< tt, λ refused. refl);
}

open_user : IsRight open_user_in_domain
unfolding HasShape samr_layout lsa_layout
open_user = record {
  laid_out = refl;
  refuses = λ r described object asked. refl;
  succeeds = λ r described object asked. refl;
  frugal = λ r described object asked. refl;
  modest = λ r described object asked. refl;
  shaped = λ r described object call few is none. (lit< tt, lit< tt, λ refused. refl);
}

rid_to_sid : IsRight sid_of_rid_in_domain
unfolding HasShape samr_layout lsa_layout
rid_to_sid = record {
  laid_out = refl;
  refuses = λ r described object asked. refl;
  succeeds = λ r described object asked. refl;
  frugal = λ r described object asked. refl;
  modest = λ r described object asked. refl;
  shaped = λ r described object call few is none. (
    lit< tt,
    rid-shaped r (domain_of object) (asked_rid call.args) is.rows (long-rid call is.face is.opnum is.spelled),
    λ refused. refl,
  );
}

pub returns : goal.returns
returns c = record {
  look_domain = look_domain c.each_is_good.ensures;
  list_domains = list_domains c.each_is_good.ensures;
  open_domain = open_domain;
  look_names = look_names c.each_is_good.ensures;
  look_ids = look_ids;
  open_group = open_group;
  open_alias = open_alias;
  open_user = open_user;
  rid_to_sid = rid_to_sid;
  list_groups = list_groups-right c.each_is_good.ensures;
  list_aliases = list_aliases-right c.each_is_good.ensures;
  list_users = list_users-right c.each_is_good.ensures;
  query_display = query_display-right c.each_is_good.ensures;
  delete_group = delete_group-right;
  delete_alias = delete_alias-right;
  delete_user = delete_user-right;
  set_domain = set_domain-right;
  set_group = set_group-right;
  set_alias = set_alias-right;
  set_user = set_user-right;
  set_user2 = set_user2-right;
  query_domain = query_domain-right;
  query_domain2 = query_domain2-right;
  query_group = query_group-right;
  query_alias = query_alias-right;
  query_user = query_user-right c.each_is_good.ensures;
  query_user2 = query_user2-right c.each_is_good.ensures;
  create_group = create_group-right;
  create_alias = create_alias-right;
  create_user = create_user-right;
  create_user2 = create_user2-right;
}

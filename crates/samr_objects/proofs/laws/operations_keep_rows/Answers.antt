-- Look-ups and queries change nothing, openings open what is there, and creations, sets and deletions keep the rows
-- sound.
use Rattle.acct_tables.specs.Keys.{domain_of}
use Rattle.acct_rules.specs.Asked.{asked_rid, asked_sid}
use Rattle.samr_objects.proofs.Deleting.{delete_group-keeps, delete_alias-keeps, delete_user-keeps}
use Rattle.samr_objects.proofs.Creating.{RowLaws, create_group-keeps, create_alias-keeps, create_user-keeps}
use Rattle.samr_objects.proofs.Creating.{create_user2-keeps}
use Rattle.samr_objects.proofs.Keeping.{answers-keep, opens-keep, holds, domain-there, group-there, user-there}
use Rattle.samr_objects.proofs.Setting.{SetLaws, set_domain-keeps, set_group-keeps, set_alias-keeps, set_user-keeps}
use Rattle.samr_objects.proofs.Setting.{set_user2-keeps}
use Rattle.samr_objects.proofs.laws.operations_keep_rows.Goals as goal

pub returns : goal.returns
returns c =
    let sets : SetLaws = record {
      each = c.each_is_good.ensures;
      replaced = c.replaced_accounts_stay_sound.ensures;
      own = c.own_name_is_free.ensures;
      unused = c.unused_name_is_free.ensures;
      found = c.name_found_is_free.ensures;
    } in
    let adds : RowLaws = record {
      each = c.each_is_good.ensures;
      puts = c.puts_are_found.ensures;
      free = c.next_is_free.ensures;
      domains = c.domains_stay_sound.ensures;
      added = c.added_accounts_stay_sound.ensures;
      users = c.added_users_stay_sound.ensures;
    } in
    record {
      look_domain = λ r described object call is none. answers-keep r _ _ is.rows;
      list_domains = λ r described object call is none. answers-keep r _ _ is.rows;
      open_domain = λ r described object call is none.
          opens-keep r _ _ is.rows (domain-there c.each_is_good.ensures r (asked_sid call.args) is.rows (holds _ none));
      look_names = λ r described object call is none. answers-keep r _ _ is.rows;
      look_ids = λ r described object call is none. answers-keep r _ _ is.rows;
      open_group = λ r described object call is none.
          opens-keep r _ _ is.rows
          (group-there c.each_is_good.ensures r (domain_of object) (asked_rid call.args) is.rows (holds _ none));
      open_alias = λ r described object call is none. opens-keep r _ _ is.rows (holds _ none);
      open_user = λ r described object call is none.
          opens-keep r _ _ is.rows
          (user-there c.each_is_good.ensures r (domain_of object) (asked_rid call.args) is.rows (holds _ none));
      rid_to_sid = λ r described object call is none. answers-keep r _ _ is.rows;
      list_groups = λ r described object call is none. answers-keep r _ _ is.rows;
      list_aliases = λ r described object call is none. answers-keep r _ _ is.rows;
      list_users = λ r described object call is none. answers-keep r _ _ is.rows;
      query_display = λ r described object call is none. answers-keep r _ _ is.rows;
      delete_group = delete_group-keeps c.removed_accounts_stay_sound.ensures c.each_is_good.ensures;
      delete_alias =
          delete_alias-keeps c.removed_accounts_stay_sound.ensures c.others_are_no_primary.ensures
          c.each_is_good.ensures;
      delete_user =
          delete_user-keeps c.removed_accounts_stay_sound.ensures c.others_are_no_primary.ensures
          c.each_is_good.ensures;
      set_domain = set_domain-keeps c.domains_stay_sound.ensures c.each_is_good.ensures;
      set_group = set_group-keeps sets;
      set_alias = set_alias-keeps sets;
      set_user = set_user-keeps sets;
      set_user2 = set_user2-keeps sets;
      create_group = create_group-keeps adds;
      create_alias = create_alias-keeps adds;
      create_user = create_user-keeps adds;
      create_user2 = create_user2-keeps adds;
      query_domain = λ r described object call is none. answers-keep r _ _ is.rows;
      query_domain2 = λ r described object call is none. answers-keep r _ _ is.rows;
      query_group = λ r described object call is none. answers-keep r _ _ is.rows;
      query_alias = λ r described object call is none. answers-keep r _ _ is.rows;
      query_user = λ r described object call is none. answers-keep r _ _ is.rows;
      query_user2 = λ r described object call is none. answers-keep r _ _ is.rows;
    }

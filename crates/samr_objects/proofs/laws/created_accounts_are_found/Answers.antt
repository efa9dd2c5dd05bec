-- A new account has a free RID and a free name, and the domain's next RID is one more.
use Rattle.samr_objects.proofs.Creating.{FoundLaws, create_group-found, create_alias-found, create_user-found}
use Rattle.samr_objects.proofs.Creating.{create_user2-found}
use Rattle.samr_objects.proofs.laws.created_accounts_are_found.Goals as goal

pub returns : goal.returns
returns c =
    let laws : FoundLaws = record {
      same = c.same_is_equivalence.ensures;
      each = c.each_is_good.ensures;
      puts = c.puts_are_found.ensures;
      free = c.next_is_free.ensures;
    } in
    record {
      create_group = create_group-found laws;
      create_alias = create_alias-found laws;
      create_user = create_user-found laws;
      create_user2 = create_user2-found laws;
    }

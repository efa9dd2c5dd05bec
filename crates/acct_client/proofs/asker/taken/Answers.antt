-- A talk that took the piece answers, fails and counts as its dialogue does; where memory ran out `taken` loses it.
use Rattle.std.proofs.Common.{refl}
use Rattle.acct_client.proofs.Taken.{Kept, kept_answers, kept_fails, kept_hears, kept_ends, kept_counts, kept_fits}
use Rattle.acct_client.proofs.Taken.{lost_fails, lost_counts, lost_fits}
use Rattle.acct_client.proofs.asker.taken.Goals as goal

pub returns-in-Ok : goal.returns-in-Ok
returns-in-Ok c =
    let h : Kept c.args.talk c.in-Ok.after c.args.piece.now = record {
      stable = c.front_is_stable.ensures;
      cut = c.streams_are_cut_anywhere.ensures;
      fit = c.requires.fit;
      awaited = c.requires.awaited;
      same = c.in-Ok.ensures.ok;
    } in
    record {
      ok = kept_answers _ _ _ h _ c.answer_of.ensures;
      err = kept_fails _ _ _ h _ c.answer_of.ensures;
      heard = kept_hears _ _ _ h _ c.answer_of.ensures;
      last = kept_ends _ _ _ h _ c.answer_of.ensures;
      count = kept_counts _ _ _ h;
      fit = kept_fits _ _ _ h c.in-Ok.ensures.fit;
    }

pub returns-in-Err : goal.returns-in-Err
returns-in-Err c = record {
  ok = tt;
  err = lost_fails c.args.talk _ c.in-Err.lines c.args.piece.now c.lost.ensures c.in-Err.ensures.err;
  heard = tt;
  last = λ other. absurd (other refl);
  count = lost_counts c.args.talk _ c.in-Err.lines c.args.piece.now c.lost.ensures;
  fit = lost_fits _ c.in-Err.lines c.lost.ensures;
}

-- The session of a served connection moves the pass on, its link is given back, and its end is noted or memory ran out.
use Rattle.std.proofs.Common.{inl, inr, refl}
use Rattle.door_workers.proofs.workers.Worker+R+Locked+K+D.serve_conn.Goals as goal

pub returns-in-Ok-clause-serves : goal.returns-in-Ok-clause-serves
returns-in-Ok-clause-serves g c = record {
  end = c.session-end.result;
  back = c.session-end.new.link;
  session = c.session-end.ensures.session;
  moves = c.session-end.ensures.moves.3;
  takes = record {
    finished = c.finish.ensures.finished;
    coming = c.finish.ensures.coming;
    listener = c.finish.ensures.listener;
    faults = c.finish.ensures.faults;
  };
  notes = inl (c.door_end.ensures, c.in-Ok.ensures.items);
}

pub returns-in-Err-clause-serves : goal.returns-in-Err-clause-serves
returns-in-Err-clause-serves g c = record {
  end = c.session-end.result;
  back = c.session-end.new.link;
  session = c.session-end.ensures.session;
  moves = c.session-end.ensures.moves.3;
  takes = record {
    finished = c.finish.ensures.finished;
    coming = c.finish.ensures.coming;
    listener = c.finish.ensures.listener;
    faults = c.finish.ensures.faults;
  };
  notes = inr refl;
}

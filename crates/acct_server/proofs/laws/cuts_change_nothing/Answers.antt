-- On a connection that found no full history, cuts change neither calls nor, where replies agree, what is sent.
use Rattle.acct_server.proofs.Transcribing.{cuts-change-nothing}
use Rattle.acct_server.proofs.laws.cuts_change_nothing.Goals as goal

pub returns : goal.returns
returns c = cuts-change-nothing c.streams_are_cut_anywhere.ensures

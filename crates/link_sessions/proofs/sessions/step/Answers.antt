-- A step goes on by the piece that came, or ends by a failed read, by the stream's end or by the acts of the piece.
use Rattle.std.proofs.Common.{◌<◌, ◌≤◌, ◌++◌, length, take, Ok, sym, subst, arith, length-append}
use Rattle.std.proofs.lemmas.List.{length-take}
use Rattle.acct_links.specs.Links.{Reads}
use Rattle.acct_keeper.specs.declared.streams.Failed.{Failed}
use Rattle.link_sessions.proofs.Faults.{results-then}
use Rattle.link_sessions.proofs.Results.{if-err, if-ok-2}
use Rattle.link_sessions.proofs.SoFar.{came-some, piece-fit, so-far-more, piece-ends}
use Rattle.link_sessions.proofs.Ending.{read-fails, read-ends}
use Rattle.link_sessions.proofs.sessions.step.Goals as goal

pub returns-in-Err-clause-err : goal.returns-in-Err-clause-err
returns-in-Err-clause-err g c = λ before old came most s silent short.
    let a = c.args in
    let m = g.G.Gate in
    let t = g.L.Link in
    let within : length came ≤ most = omega arith in
    read-fails (m.start a.gate.now) a.conn before (m.known a.gate.now) old (t.told a.link.now) (t.told c.read.new.self)
    a.stream.now came most silent s within c.in-Err.field-0 c.read.new.buf c.in-Err.ensures.reads

pub returns-in-Ok-eq0-clause-err : goal.returns-in-Ok-eq0-clause-err
returns-in-Ok-eq0-clause-err g c = λ before old came most s silent short.
    let a = c.args in
    let m = g.G.Gate in
    let t = g.L.Link in
    let told = t.told a.link.now in
    let new = t.told c.read.new.self in
    let room : 0 < length c.read.new.buf = omega (arith, c.read.auto.buf, c.requires.some) in
    let within : length came ≤ most = omega arith in
    read-ends (m.start a.gate.now) a.conn before
    (m.known a.gate.now) old told new a.stream.now came most silent s within
    Failed c.read.new.buf room
    (subst (λ n. Reads {E = Failed} told new (Ok n) c.read.new.buf) c.in-Ok-eq0.field-0-test c.in-Ok-eq0.ensures.reads)

pub take_piece-requires-clause-fits : goal.take_piece-requires-clause-fits
take_piece-requires-clause-fits g c =
    let a = c.args in
    piece-fit c.streams_are_cut_anywhere.ensures c.calls_fit.ensures a.conn a.stream.now c.requires.heard.0
    (take c.in-Ok.count c.read.new.buf) c.requires.heard.1

pub returns-clause-ok : goal.returns-clause-ok
returns-clause-ok g c = λ before old came s.
    let a = c.args in
    let m = g.G.Gate in
    let t = g.L.Link in
    let piece = take c.in-Ok.count c.read.new.buf in
    let told = t.told a.link.now in
    let mid = t.told c.read.new.self in
    let comes = came-some told mid c.in-Ok.count c.read.new.buf
    (omega (arith, c.in-Ok.count-test.1)) c.in-Ok.ensures.reads in
    if-ok-2 c.take_piece.result
    (λ n h left. (
      piece,
      sym h.0,
      so-far-more c.streams_are_cut_anywhere.ensures (m.start a.gate.now) a.conn before
          (m.known a.gate.now) old told mid a.stream.now came piece s comes (t.told c.take_piece.new.link)
          (m.known c.take_piece.new.gate) c.take_piece.new.stream h.1 h.2 left,
    ))
    c.take_piece.ensures.ok c.take_piece.ensures.leaves

pub returns-clause-err : goal.returns-clause-err
returns-clause-err g c = λ before old came most s silent short.
    let a = c.args in
    let m = g.G.Gate in
    let t = g.L.Link in
    let piece = take c.in-Ok.count c.read.new.buf in
    let told = t.told a.link.now in
    let mid = t.told c.read.new.self in
    let comes = came-some told mid c.in-Ok.count c.read.new.buf
    (omega (arith, c.in-Ok.count-test.1)) c.in-Ok.ensures.reads in
    let within : length (came ++ piece) ≤ most =
    omega (arith, length-append came piece, length-take c.in-Ok.count c.read.new.buf, c.read.auto.buf) in
    if-err c.take_piece.result
    (λ end ends. piece-ends c.streams_are_cut_anywhere.ensures (m.start a.gate.now) a.conn before
    (m.known a.gate.now) old
    told mid a.stream.now came piece s comes silent most within (t.told c.take_piece.new.link)
    (m.known c.take_piece.new.gate) end ends) c.take_piece.ensures.err

pub returns-in-Err-clause-faults : goal.returns-in-Err-clause-faults
returns-in-Err-clause-faults g c =
    let reads = c.in-Err.ensures.reads in
    record { reads = reads.count; writes = reads.write_faults }

pub returns-in-Ok-eq0-clause-faults : goal.returns-in-Ok-eq0-clause-faults
returns-in-Ok-eq0-clause-faults g c =
    let reads = c.in-Ok-eq0.ensures.reads in
    record { reads = reads.count; writes = reads.write_faults }

pub returns-clause-faults : goal.returns-clause-faults
returns-clause-faults g c =
    let t = g.L.Link in
    let reads = c.in-Ok.ensures.reads in
    results-then c.take_piece.result (t.told c.args.link.now) (t.told c.read.new.self) (t.told c.take_piece.new.link)
    (record { reads = reads.count; writes = reads.write_faults }) c.take_piece.ensures.faults

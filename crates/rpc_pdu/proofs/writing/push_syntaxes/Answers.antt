-- After each syntax `out` has the bytes of the syntaxes so far after what it had, and each of these is whole.
use Rattle.rpc_pdu.specs.Headers.{syntax_bytes}
use Rattle.rpc_pdu.specs.Written.{IsWhole}
use Rattle.rpc_pdu.proofs.Pushes.{pushed_none, pushed_more, pushed_all}
use Rattle.rpc_pdu.proofs.writing.push_syntaxes.Goals as goal

pub loop-syntax-init : goal.loop-syntax-init
loop-syntax-init c = pushed_none syntax_bytes IsWhole c.args.out.now.items c.args.syntaxes.now

pub loop-syntax-preserved : goal.loop-syntax-preserved
loop-syntax-preserved c =
    pushed_more syntax_bytes IsWhole c.args.out.now.items c.loop-syntax.out.items c.push_syntax.new.out.items
    c.args.syntaxes.now c.loop-syntax.syntax-index c.syntax-item.result c.loop-syntax-test.true c.syntax-item.is
    c.in_ok-push_syntax.ensures.bytes c.in_ok-push_syntax.ensures.whole c.loop-syntax.invariant

pub returns-clause-bytes : goal.returns-clause-bytes
returns-clause-bytes c =
    (pushed_all syntax_bytes IsWhole c.args.out.now.items c.loop-syntax.out.items c.args.syntaxes.now
    c.loop-syntax.syntax-index c.loop-syntax-test.false c.loop-syntax.invariant).0

pub returns-clause-whole : goal.returns-clause-whole
returns-clause-whole c =
    (pushed_all syntax_bytes IsWhole c.args.out.now.items c.loop-syntax.out.items c.args.syntaxes.now
    c.loop-syntax.syntax-index c.loop-syntax-test.false c.loop-syntax.invariant).1

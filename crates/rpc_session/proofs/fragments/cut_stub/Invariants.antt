-- The fragments written so far, followed by those of the rest of the stub, are those of the whole stub.
use Rattle.std.proofs.Common.{◌≡◌, ◌++◌, true, length}
use Rattle.rpc_session.specs.Answers.{cut_stub, fragment}
use Rattle.rpc_session.proofs.fragments.cut_stub.Given as goal

abbrev pub invariant-loop-rest : goal.invariant-loop-rest
invariant-loop-rest l =
    l.out.items ++ cut_stub (fragment l.head) l.most l.first l.rest ≡ cut_stub (fragment l.head) l.most true l.stub

abbrev pub decreases-loop-rest : goal.decreases-loop-rest
decreases-loop-rest l = length l.rest

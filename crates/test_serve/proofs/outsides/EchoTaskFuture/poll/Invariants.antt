use Rattle.test_serve.proofs.outsides.EchoTaskFuture.poll.Given as goal

abbrev pub invariant-loop : goal.invariant-loop
invariant-loop g l = g.C.Context.reaches l.fn.cx l.cx

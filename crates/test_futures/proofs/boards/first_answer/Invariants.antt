use Rattle.std.proofs.Common.{◌≡◌, false}
use Rattle.test_futures.proofs.boards.first_answer.Given as goal

abbrev pub invariant-loop-poll : goal.invariant-loop-poll
invariant-loop-poll g l = (g.F.TaskFuture.is_spent l.form ≡ false) × g.F.TaskFuture.can_poll l.form

use Rattle.std.proofs.Common.{sym, ◌∙◌}
use Rattle.mono_stream.proofs.OutputComeLemmas.{output_first, output_waits}
use Rattle.mono_stream.proofs.future_outputs.OutputsStream.poll_next.Goals as goal

pub returns-in-Ready-clause-given : goal.returns-in-Ready-clause-given
returns-in-Ready-clause-given g c = output_first g.F.TaskFuture c.args.self.now (record { future = c.poll.new.self }) (sym c.spent.ensures ∙ c.if-spent.false) _ (rw c.in-Ready.is at c.poll.ensures.given) (record { before = _; after = _; polled = rw c.in-Ready.is at c.poll.ensures.polled })

pub returns-in-Pending-clause-given : goal.returns-in-Pending-clause-given
returns-in-Pending-clause-given g c = output_waits g.F.TaskFuture c.args.self.now (record { future = c.poll.new.self }) (sym c.spent.ensures ∙ c.if-spent.false) (rw c.in-Pending.is at c.poll.ensures.same) (record { before = _; after = _; polled = rw c.in-Pending.is at c.poll.ensures.polled })

use Rattle.mono_locks.proofs.BarrierLemmas.{arrives_keeps}
use Rattle.mono_locks.proofs.barrier.Barrier.wait.Goals as goal

pub returns-clause-keeps : goal.returns-clause-keeps
returns-clause-keeps c = arrives_keeps c.args.self.now c.ask.new.self c.args.ticket c.args.me c.ask.result c.ask.ensures

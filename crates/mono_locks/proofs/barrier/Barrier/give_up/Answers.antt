use Rattle.mono_locks.proofs.BarrierLemmas.{gives_up_keeps}
use Rattle.mono_locks.proofs.barrier.Barrier.give_up.Goals as goal

pub returns-clause-keeps : goal.returns-clause-keeps
returns-clause-keeps c = gives_up_keeps c.args.self.now _ c.args.ticket c.args.me c.leave.ensures

use Rattle.mono_locks.proofs.BarrierLawLemmas.{wait_listed}
use Rattle.mono_locks.proofs.laws.a_pending_wait_is_listed.Goals as goal

pub returns : goal.returns
returns c = wait_listed

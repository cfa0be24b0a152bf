use Rattle.mono_locks.proofs.BarrierLawLemmas.{takes_out_its_own}
use Rattle.mono_locks.proofs.laws.a_wait_takes_out_its_own.Goals as goal

pub returns : goal.returns
returns c = takes_out_its_own

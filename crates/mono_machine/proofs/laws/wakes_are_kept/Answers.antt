use Rattle.mono_machine.proofs.WakeLemmas.{wake_kept}
use Rattle.mono_machine.proofs.laws.wakes_are_kept.Goals as goal

pub returns : goal.returns
returns c = wake_kept

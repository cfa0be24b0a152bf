use Rattle.mono_machine.proofs.EachWakeLemmas.{each_wake_reaches}
use Rattle.mono_machine.proofs.laws.each_wake_reaches_its_task.Goals as goal

pub returns : goal.returns
returns c = each_wake_reaches

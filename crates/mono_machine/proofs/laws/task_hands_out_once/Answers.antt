use Rattle.mono_machine.proofs.HandoutLemmas.{task_once}
use Rattle.mono_machine.proofs.laws.task_hands_out_once.Goals as goal

pub returns : goal.returns
returns c = task_once

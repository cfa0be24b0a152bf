use Rattle.mono_sync.proofs.OvertakeLemmas.{no_task}
use Rattle.mono_sync.proofs.laws.no_task_is_overtaken.Goals as goal

pub returns : goal.returns
returns c = no_task

use Rattle.mono_sync.proofs.PassedNoticeLemmas.{woken}
use Rattle.mono_sync.proofs.laws.a_woken_task_has_its_notice.Goals as goal

pub returns : goal.returns
returns c = woken

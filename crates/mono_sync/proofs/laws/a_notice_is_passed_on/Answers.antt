use Rattle.mono_sync.proofs.PassedNoticeLemmas.{notice_passes}
use Rattle.mono_sync.proofs.laws.a_notice_is_passed_on.Goals as goal

pub returns : goal.returns
returns c = notice_passes

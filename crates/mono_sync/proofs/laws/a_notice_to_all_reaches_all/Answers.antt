use Rattle.mono_sync.proofs.PassedNoticeLemmas.{notice_reaches}
use Rattle.mono_sync.proofs.laws.a_notice_to_all_reaches_all.Goals as goal

pub returns : goal.returns
returns c = notice_reaches

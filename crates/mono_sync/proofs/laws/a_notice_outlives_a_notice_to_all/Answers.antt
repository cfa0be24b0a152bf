use Rattle.mono_sync.proofs.NoticeRunLemmas.{notice_outlives}
use Rattle.mono_sync.proofs.laws.a_notice_outlives_a_notice_to_all.Goals as goal

pub returns : goal.returns
returns c = notice_outlives

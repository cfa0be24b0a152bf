use Rattle.mono_sync.proofs.ListedLemmas.{notice_listed}
use Rattle.mono_sync.proofs.laws.a_pending_notice_is_listed.Goals as goal

pub returns : goal.returns
returns c = notice_listed

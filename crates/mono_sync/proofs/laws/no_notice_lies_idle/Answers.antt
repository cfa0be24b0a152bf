use Rattle.mono_sync.proofs.RisingLemmas.{no_notice}
use Rattle.mono_sync.proofs.laws.no_notice_lies_idle.Goals as goal

pub returns : goal.returns
returns c = no_notice

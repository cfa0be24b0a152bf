use Rattle.mono_sync.proofs.PassLemmas.{if_reserved}
use Rattle.mono_sync.proofs.laws.waits_if_reserved.Goals as goal

pub returns : goal.returns
returns c = if_reserved

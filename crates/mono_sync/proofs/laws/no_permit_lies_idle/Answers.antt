use Rattle.mono_sync.proofs.IdleLemmas.{no_permit}
use Rattle.mono_sync.proofs.laws.no_permit_lies_idle.Goals as goal

pub returns : goal.returns
returns c = no_permit

use Rattle.mono_sync.proofs.MessageLemmas.{nothing_after}
use Rattle.mono_sync.proofs.laws.nothing_after_close.Goals as goal

pub returns : goal.returns
returns g c = nothing_after

use Rattle.mono_locks.proofs.BroadcastLawLemmas.{nothing_after}
use Rattle.mono_locks.proofs.laws.nothing_is_sent_after_close.Goals as goal

pub returns : goal.returns
returns g c = nothing_after

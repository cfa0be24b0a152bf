use Rattle.mono_locks.proofs.BroadcastLawLemmas.{in_order}
use Rattle.mono_locks.proofs.laws.each_receiver_gets_each_message.Goals as goal

pub returns : goal.returns
returns g c = in_order

use Rattle.mono_channel.proofs.Interleaving.{interleaved}
use Rattle.mono_channel.proofs.laws.arrived_interleaves.Goals as goal

pub returns : goal.returns
returns g c = interleaved

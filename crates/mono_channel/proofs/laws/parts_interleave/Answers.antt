use Rattle.mono_channel.proofs.Interleaving.{parts_interleaved}
use Rattle.mono_channel.proofs.laws.parts_interleave.Goals as goal

pub returns : goal.returns
returns g c = parts_interleaved

use Rattle.mono_channel.proofs.Beginnings.{beginnings}
use Rattle.mono_channel.proofs.laws.beginnings_interleave.Goals as goal

pub returns : goal.returns
returns g c = beginnings

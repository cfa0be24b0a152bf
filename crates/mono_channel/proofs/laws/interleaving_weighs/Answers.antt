use Rattle.mono_channel.proofs.Weights.{weighs}
use Rattle.mono_channel.proofs.laws.interleaving_weighs.Goals as goal

pub returns : goal.returns
returns g c = weighs

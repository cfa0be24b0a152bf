use Rattle.mono_channel.proofs.Interleaving.{alone}
use Rattle.mono_channel.proofs.laws.alone_arrives.Goals as goal

pub returns : goal.returns
returns g c = alone

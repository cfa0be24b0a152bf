use Rattle.mono_stream.proofs.ChainLemmas.{chains}
use Rattle.mono_stream.proofs.joined_laws.chains_items.Goals as goal

pub returns : goal.returns
returns g c = chains g.A.Stream.polls g.A.Stream.cancels g.B.Stream.polls

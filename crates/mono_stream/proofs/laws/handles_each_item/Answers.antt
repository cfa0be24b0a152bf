use Rattle.mono_stream.proofs.ItemLemmas.{handles}
use Rattle.mono_stream.proofs.laws.handles_each_item.Goals as goal

pub returns : goal.returns
returns g c = handles g.S.Stream.polls

use Rattle.mono_stream.proofs.ItemLemmas.{chains}
use Rattle.mono_stream.proofs.laws.chains_each_item.Goals as goal

pub returns : goal.returns
returns g c = chains g.S.Stream g.Fut.TaskFuture g.F.FnMut

use Rattle.mono_stream.proofs.ItemLemmas.{maps}
use Rattle.mono_stream.proofs.laws.maps_each_item.Goals as goal

pub returns : goal.returns
returns g c = maps g.S.Stream g.F.FnMut

use Rattle.mono_stream.proofs.ItemLemmas.{nexts}
use Rattle.mono_stream.proofs.laws.gives_each_next.Goals as goal

pub returns : goal.returns
returns g c = nexts g.row.C.Denot g.I.Iterator.next_gives

use Rattle.mono_stream.proofs.GatherLemmas.{folds}
use Rattle.mono_stream.proofs.gathered_laws.folds_items.Goals as goal

pub returns : goal.returns
returns g c = folds g.S.Stream.polls g.F.FnMut g.C.Context.number g.C.Context.wakes

use Rattle.mono_stream.proofs.GatherLemmas.{collects}
use Rattle.mono_stream.proofs.gathered_laws.collects_items.Goals as goal

pub returns : goal.returns
returns g c = collects g.S.Stream.polls g.C.Context.number g.C.Context.wakes

use Rattle.mono_stream.proofs.MergeLemmas.{merges}
use Rattle.mono_stream.proofs.joined_laws.merges_items.Goals as goal

pub returns : goal.returns
returns g c = merges g.A.Stream.polls g.A.Stream.cancels g.B.Stream.polls g.B.Stream.cancels

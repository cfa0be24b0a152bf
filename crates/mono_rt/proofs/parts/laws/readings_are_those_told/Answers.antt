use Rattle.mono_rt.proofs.ReadingLemmas.{in_order}
use Rattle.mono_rt.proofs.parts.laws.readings_are_those_told.Goals as goal

pub returns : goal.returns
returns c = in_order

use Rattle.mono_rt.proofs.ReadingLemmas.{sums_from}
use Rattle.mono_rt.proofs.parts.laws.readings_are_sums_of_parks.Goals as goal

pub returns : goal.returns
returns c = sums_from

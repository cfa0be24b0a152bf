use Rattle.mono_rt.proofs.ReadingLemmas.{parked_in_order, parks_called}
use Rattle.mono_rt.proofs.parts.laws.parks_are_counted.Goals as goal

pub returns-clause-told : goal.returns-clause-told
returns-clause-told g c = parked_in_order

pub returns-clause-called : goal.returns-clause-called
returns-clause-called g c = parks_called

use Rattle.mono_rt.proofs.ReadingLemmas.{handed_in_order}
use Rattle.mono_rt.proofs.parts.laws.submits_are_counted.Goals as goal

pub returns : goal.returns
returns c = handed_in_order

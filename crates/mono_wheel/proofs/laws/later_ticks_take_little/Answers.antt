use Rattle.mono_wheel.proofs.StartLemmas.{takes-later}
use Rattle.mono_wheel.proofs.laws.later_ticks_take_little.Goals as goal

pub returns : goal.returns
returns c = takes-later

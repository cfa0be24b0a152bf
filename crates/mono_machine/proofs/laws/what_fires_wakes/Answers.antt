use Rattle.mono_machine.proofs.WatchLemmas.{fired_wakes}
use Rattle.mono_machine.proofs.laws.what_fires_wakes.Goals as goal

pub returns : goal.returns
returns c = fired_wakes

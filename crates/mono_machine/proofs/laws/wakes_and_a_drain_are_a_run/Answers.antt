use Rattle.mono_machine.proofs.DrainLemmas as law
use Rattle.mono_machine.proofs.laws.wakes_and_a_drain_are_a_run.Goals as goal

pub returns : goal.returns
returns c = law.wakes_and_a_drain

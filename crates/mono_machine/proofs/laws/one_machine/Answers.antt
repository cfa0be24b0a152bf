use Rattle.mono_machine.proofs.DeterminismLemmas as law
use Rattle.mono_machine.proofs.laws.one_machine.Goals as goal

pub returns : goal.returns
returns c = law.one_machine

use Rattle.mono_wheel.proofs.StartLemmas.{takes-fuel, takes-once}
use Rattle.mono_wheel.proofs.laws.takes_have_fuel.Goals as goal

pub returns-clause-enough : goal.returns-clause-enough
returns-clause-enough c = takes-fuel

pub returns-clause-once : goal.returns-clause-once
returns-clause-once c = takes-once

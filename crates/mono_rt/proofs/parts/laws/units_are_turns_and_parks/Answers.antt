use Rattle.mono_rt.proofs.BudgetLemmas.{rounds_spend}
use Rattle.mono_rt.proofs.parts.laws.units_are_turns_and_parks.Goals as goal

pub returns : goal.returns
returns c = rounds_spend

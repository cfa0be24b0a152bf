use Rattle.mono_groups.proofs.SetLawLemmas.{answered_in_order}
use Rattle.mono_groups.proofs.laws.answers_are_joined_in_order.Goals as goal

pub returns : goal.returns
returns g c = answered_in_order _

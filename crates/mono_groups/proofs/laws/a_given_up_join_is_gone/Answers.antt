use Rattle.mono_groups.proofs.SetLawLemmas.{given_up_is_gone}
use Rattle.mono_groups.proofs.laws.a_given_up_join_is_gone.Goals as goal

pub returns : goal.returns
returns g c = given_up_is_gone _

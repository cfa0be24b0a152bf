use Rattle.mono_groups.proofs.LawLemmas.{given_up}
use Rattle.mono_groups.proofs.laws.a_given_up_future_is_gone.Goals as goal

pub returns : goal.returns
returns c = given_up

use Rattle.mono_groups.proofs.SetLawLemmas.{stays_aborted}
use Rattle.mono_groups.proofs.laws.a_set_stays_aborted.Goals as goal

pub returns : goal.returns
returns g c = stays_aborted _

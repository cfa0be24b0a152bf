use Rattle.mono_groups.proofs.SetLawLemmas.{shutdown_leaves_nobody}
use Rattle.mono_groups.proofs.laws.a_shutdown_leaves_nobody.Goals as goal

pub returns : goal.returns
returns g c = shutdown_leaves_nobody _

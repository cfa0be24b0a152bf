use Rattle.mono_groups.proofs.SetLawLemmas.{pending_is_listed}
use Rattle.mono_groups.proofs.laws.a_pending_join_is_listed.Goals as goal

pub returns : goal.returns
returns g c = pending_is_listed _

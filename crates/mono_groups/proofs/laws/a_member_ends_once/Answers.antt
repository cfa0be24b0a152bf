use Rattle.mono_groups.proofs.SetLawLemmas.{ends_once}
use Rattle.mono_groups.proofs.laws.a_member_ends_once.Goals as goal

pub returns : goal.returns
returns g c = ends_once _

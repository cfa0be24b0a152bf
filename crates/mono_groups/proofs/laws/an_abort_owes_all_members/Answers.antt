use Rattle.mono_groups.proofs.SetLawLemmas.{abort_owes_all}
use Rattle.mono_groups.proofs.laws.an_abort_owes_all_members.Goals as goal

pub returns : goal.returns
returns g c = abort_owes_all _

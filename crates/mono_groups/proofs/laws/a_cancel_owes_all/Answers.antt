use Rattle.mono_groups.proofs.LawLemmas.{owes_all}
use Rattle.mono_groups.proofs.laws.a_cancel_owes_all.Goals as goal

pub returns : goal.returns
returns c = owes_all

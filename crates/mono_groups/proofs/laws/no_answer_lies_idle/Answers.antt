use Rattle.mono_groups.proofs.SetLawLemmas.{no_answer_lies_idle}
use Rattle.mono_groups.proofs.laws.no_answer_lies_idle.Goals as goal

pub returns : goal.returns
returns g c = no_answer_lies_idle _

use Rattle.mono_text.proofs.InputLineLemmas.{not_both}
use Rattle.mono_text.proofs.laws.one_answer.Goals as goal

pub returns : goal.returns
returns c = λ events all n p b. not_both events all n p b

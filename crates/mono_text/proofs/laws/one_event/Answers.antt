use Rattle.mono_text.proofs.SpellingLemmas.{one_event}
use Rattle.mono_text.proofs.laws.one_event.Goals as goal

pub returns : goal.returns
returns c = λ bytes e other rest behind b d. one_event bytes e other rest behind b d

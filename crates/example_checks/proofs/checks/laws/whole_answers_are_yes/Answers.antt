use Rattle.example_checks.proofs.WholeAnswerLemmas as law
use Rattle.example_checks.proofs.checks.laws.whole_answers_are_yes.Goals as goal

pub returns : goal.returns
returns c = law.whole_answers_are_yes

use Rattle.mono_limit.proofs.SameAnswerLemmas as law
use Rattle.mono_limit.proofs.laws.answers_are_determined.Goals as goal

pub returns : goal.returns
returns c = law.answers_are_determined
